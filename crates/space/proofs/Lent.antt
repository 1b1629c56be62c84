-- A sound memory holds its table, and a memory that holds a table is what is written of it.
use Prim.Native.Nat.{ℕ}
use mathlib.Core.Bool.{true, ◌&&◌}
use mathlib.Core.List.{List}
use mathlib.Core.Path.{◌≡◌, sym, ◌∙◌, ap}
use lib.Ieee.{Float}
use Rattle.rules.specs.Held.{Holds, counts_of, points_of, planes_of, elements_of}
use Rattle.rules.specs.Limits.{Limits, Readable}
use Rattle.rules.specs.Memory.{Memory, sound_memory, decode, right_size, same_memory, encode}
use Rattle.rules.specs.Sound.{sound}
use Rattle.rules.specs.Table.{Table}
use Rattle.rules.proofs.Good.{sound_good}
use Rattle.rules.proofs.Laws.{and_right}
use Rattle.rules.proofs.RoundTrip.{memory_back}
use Rattle.space.proofs.Room.{encode_parts, good_fits}

module _ (L : Limits) (U : Readable L) where
  pub memory_sound_table : (m : Memory) → sound_memory L m ≡ true → sound L (decode L m) ≡ true
  unfolding sound_memory
  memory_sound_table m h = and_right (right_size L m && same_memory (encode L (decode L m)) m) (sound L (decode L m)) h

  pub memory_holds : (m : Memory) → sound_memory L m ≡ true → Holds L m.counts m.points m.planes m.elements (decode L m)
  memory_holds m h =
      let e : m ≡ record { counts = counts_of (decode L m); points = points_of L (decode L m); planes = planes_of L (decode L m); elements = elements_of L (decode L m) } = sym (memory_back L m h) ∙ encode_parts L (decode L m) in
      record {
        counts = ap (λ (x : Memory). x.counts) e;
        points = ap (λ (x : Memory). x.points) e;
        planes = ap (λ (x : Memory). x.planes) e;
        elements = ap (λ (x : Memory). x.elements) e;
        fits = good_fits L U (decode L m) (sound_good L (decode L m) (memory_sound_table m h));
      }

  pub holds_memory : {cs : List ℕ} {ps hs : List Float} {es : List ℕ} {t : Table} → Holds L cs ps hs es t → ◌≡◌ {A = Memory} (record { counts = cs; points = ps; planes = hs; elements = es }) (encode L t)
  holds_memory {t = t} H = (λ i. record { counts = H.counts i; points = H.points i; planes = H.planes i; elements = H.elements i }) ∙ sym (encode_parts L t)

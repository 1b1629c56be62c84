-- A touch that is done has passed 3, 4 and 5, and so would a cut by the same divider: both are made of the memory's table.
use Prim.Native.Nat.{ℕ, suc}
use mathlib.Core.Bool.{Bool, true, false}
use mathlib.Core.Path.{◌≡◌, refl, sym, ap, ◌∙◌}
use native.Mathlib.Nat.{suc-ne-zero}
use lib.Dec.{ltb}
use lib.Ieee.{inf}
use Rattle.rules.specs.Limits.{Limits}
use Rattle.rules.specs.Table.{element_count}
use Rattle.rules.specs.Memory.{Memory, decode, sound_memory}
use Rattle.rules.specs.Replies.{divider_fits, divider_of, cut_by}
use Rattle.rules.specs.Touch.{touch, touch_reply, OfTheTable, TouchIsOfTheTable}
use Rattle.rules.specs.Promises.{Passes}
use Rattle.rules.specs.declared.Hyperplane.{Hyperplane}
use Rattle.rules.proofs.Calls.{not_infinite}
use Rattle.rules.proofs.Good.{sound_good}
use Rattle.rules.proofs.Laws.{le_test}
use Rattle.rules.proofs.OneCall.{sound_table, passed, divider_sound}
use Rattle.rules.proofs.Touching.{touch_tested, touch_tested_lem}
use Rattle.rules.specs.Refusals.{reply_number}

module _ (L : Limits) (h : Hyperplane) (root : ℕ) (m : Memory) (finite : (s : Bool) → h.distance ≡ inf s → ⊥) where
  of_the_table : Passes L h root m → touch_reply L h root m ≡ touch (divider_of (decode L m).dimension h) root (decode L m) → OfTheTable L h root m
  of_the_table p e = record {
    fits = record {
      sound = sound_table L m p.sound;
      used = p.used;
      fits = divider_sound L (decode L m).dimension h (le_test (decode L m).dimension L.dimensions (sound_good L (decode L m) (sound_table L m p.sound)).high) p.fits
          (not_infinite h.distance finite);
    };
    touching = e;
    cutting = λ i o. passed L (cut_by h i o) root m p;
  }

pub touch_is_of_the_table : (L : Limits) → TouchIsOfTheTable L
touch_is_of_the_table L h root m finite z =
    go (sound_memory L m) (ltb root (element_count (decode L m))) (divider_fits L (decode L m).dimension h) refl refl refl (touch_tested_lem L h root m) (sym (ap reply_number (touch_tested_lem L h root m)) ∙ z)
  where
    go : (s u f : Bool) → sound_memory L m ≡ s → ltb root (element_count (decode L m)) ≡ u → divider_fits L (decode L m).dimension h ≡ f
        → touch_reply L h root m ≡ touch_tested L h root m s u f (touch (divider_of (decode L m).dimension h) root (decode L m))
        → reply_number (touch_tested L h root m s u f (touch (divider_of (decode L m).dimension h) root (decode L m))) ≡ 0 → OfTheTable L h root m
    go false u f p q r e n = absurd (suc-ne-zero 2 n)
    go true false f p q r e n = absurd (suc-ne-zero 3 n)
    go true true false p q r e n = absurd (suc-ne-zero 4 n)
    go true true true p q r e n = of_the_table L h root m finite (record { sound = p; used = le_test (suc root) (element_count (decode L m)) q; fits = r }) e

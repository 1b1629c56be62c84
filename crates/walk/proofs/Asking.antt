-- What a question knows once 3 and 4 have been asked: the memory is sound, the root is in use, and what the memory tells of its table.
use Prim.Native.Nat.{ℕ, suc, ◌*◌, ◌<◌}
use mathlib.Core.Path.{◌≡◌, ap, ◌∙◌}
use mathlib.Core.Bool.{true}
use mathlib.Core.List.{List, [], ◌∷◌}
use native.Mathlib.Nat.{le_trans}
use lib.Dec.{ltb}
use lib.ListN.{length, get_or}
use lib.Ieee.{Float}
use Rattle.rules.specs.Limits.{desk}
use Rattle.rules.specs.Table.{element_count, rank}
use Rattle.rules.specs.Sound as specs
use Rattle.rules.specs.Memory.{Memory, sound_memory}
use Rattle.rules.specs.Held.{Holds, memory_of}
use Rattle.rules.proofs.Good.{Good, sound_good}
use Rattle.rules.proofs.Laws.{le_test, and_left}
use Rattle.space.specs.Ready.{ElementReady}
use Rattle.space.proofs.Lent.{memory_sound_table}
use Rattle.space.proofs.Room.{rank_word}
use Rattle.space.proofs.RowAdds.{readable_desk}
use Rattle.space.proofs.Slices.{slices}
use Rattle.soundness.specs.Asked.{roots_asked}
use Rattle.soundness.proofs.AskedOnce as once
use Rattle.soundness.proofs.AskedOnce.{table, goes_on}
use Rattle.rules.specs.Refusals.{Reply}
use Rattle.std.specs.Prelude.{Ok}

-- n is what the code found
module _ (cs : List ℕ) (ps hs : List Float) (es : List ℕ) (root : ℕ) (n : Reply (Unit {0})) (e : n ≡ roots_asked (memory_of cs ps hs es) (root ∷ [])) (z : n ≡ Ok tt) where
  abbrev m : Memory
  m = memory_of cs ps hs es

  is_sound : sound_memory desk m ≡ true
  is_sound = (goes_on cs ps hs es (root ∷ []) n e z).0

  pub holds : Holds desk cs ps hs es (table cs ps hs es)
  holds = once.held cs ps hs es is_sound

  pub table_sound : specs.sound desk (table cs ps hs es) ≡ true
  table_sound = memory_sound_table desk readable_desk m is_sound

  pub good : Good desk (table cs ps hs es)
  good = sound_good desk (table cs ps hs es) table_sound

  pub counts_four : length cs ≡ 4
  counts_four = once.counts_long cs ps hs es is_sound

  pub dimension_is : get_or cs 0 0 ≡ (table cs ps hs es).dimension
  dimension_is = once.dimension_known cs ps hs es is_sound

  pub in_use_lem : root < element_count (table cs ps hs es)
  in_use_lem = le_test (suc root) (element_count (table cs ps hs es)) (and_left (ltb root (element_count (table cs ps hs es))) true (goes_on cs ps hs es (root ∷ []) n e z).1)

  pub rank_asked : ElementReady es root
  rank_asked = record { elements = (slices holds).elements; room = le_trans in_use_lem holds.fits.element_room }

  pub rank_is : (r : ℕ) → r ≡ get_or es (root * 36) 0 → r ≡ rank (table cs ps hs es) root
  rank_is r h = h ∙ ap (λ (k : List ℕ). get_or k (root * 36) 0) holds.elements ∙ rank_word desk (table cs ps hs es) holds.fits root in_use_lem

-- What is promised of a slice and of two carvings, over any room (document 02, order 14): trainers show a cut as "keep the left, then keep the right".
-- A slice keeps both sides; a carving keeps one. Definitions only; proofs/Promises.antt proves the record at the end.
use Rattle.std.specs.Prelude.{ℕ, ◌≤◌, ◌<◌, ◌≡◌, true, false, map, set, None}
use Rattle.rules.specs.Limits.{Limits}
use Rattle.rules.specs.Table.{ElementNumber, Plane, Table, rank, element_count}
use Rattle.rules.specs.Sound.{sound, sound_plane}
use Rattle.rules.specs.Memory.{Memory, decode}
use Rattle.rules.specs.Cut.{done, keeping, cut}
use Rattle.rules.specs.Replies.{cut_values, cut_warning, cut_by, cut_reply}
use Rattle.rules.specs.Promises.{Finite}
use Rattle.rules.specs.declared.Hyperplane.{Hyperplane}
use Rattle.rules.specs.declared.PolytopeFate.TheVariants.{Remove, Keep}
use Rattle.rules.specs.declared.ElementAnswer.{ElementAnswer}
use Rattle.carvings.specs.Renumbered.{Renumbering, AnswersCorrespond, renumbered_value}
use Rattle.rules.specs.Refusals.{Reply, reply_number}

-- a sound table, a finite divider of its dimension, and a root in use that is no corner
pub record Sliceable (L : Limits) (h : Plane) (root : ElementNumber) (t : Table) : Type 0 where
  pub is_sound : sound L t ≡ true
  pub divider : sound_plane t.dimension h ≡ true
  pub finite : Finite h.distance
  pub in_use : root < element_count t
  pub no_corner : 0 < rank t root

-- where none of the three cuts is refused, carving for the inside and after it for the outside leaves the slice's table
-- up to one renumbering of appended elements, the pieces answered correspond, and the warnings are the same
abbrev pub SliceIsTwoCarvings : Limits → Type 0
SliceIsTwoCarvings L = (h : Plane) (root : ElementNumber) (t slice first second : Table) (a a₁ a₂ : ElementAnswer) → Sliceable L h root t
    → cut L (keeping h true true) root t ≡ done a slice → cut L (keeping h true false) root t ≡ done a₁ first → cut L (keeping h false true) root first ≡ done a₂ second
    → (f : ElementNumber → ElementNumber) × Renumbering (element_count t) slice second f × AnswersCorrespond f a a₁ a₂

-- and no more need be supposed: the slice is taken exactly when both carvings are (the numbers of their refusals may differ)
abbrev pub SliceTakenAsCarvings : Limits → Type 0
SliceTakenAsCarvings L = (h : Plane) (root : ElementNumber) (t : Table) → Sliceable L h root t
    → ((a : ElementAnswer) (slice : Table) → cut L (keeping h true true) root t ≡ done a slice
    → (a₁ : ElementAnswer) × (first : Table) × (a₂ : ElementAnswer) × (second : Table)
    × (cut L (keeping h true false) root t ≡ done a₁ first) × (cut L (keeping h false true) root first ≡ done a₂ second))
    × ((a₁ a₂ : ElementAnswer) (first second : Table) → cut L (keeping h true false) root t ≡ done a₁ first → cut L (keeping h false true) root first ≡ done a₂ second
    → (a : ElementAnswer) × (slice : Table) × (cut L (keeping h true true) root t ≡ done a slice))

-- at the public replies: counts, vertices and hyperplanes are the same memory, word for word, and the elements differ by a renumbering of those appended;
-- the values are the slice's, renumbered, with none for the side that each carving removes, and no values where the slice is flush; the warnings are the slice's
pub record AsTwoCarvings (L : Limits) (m : Memory) (slice first second : Reply ElementAnswer × Memory) : Type 0 where
  pub counts : second.1.counts ≡ slice.1.counts
  pub points : second.1.points ≡ slice.1.points
  pub planes : second.1.planes ≡ slice.1.planes
  pub number : ElementNumber → ElementNumber
  pub elements : Renumbering (element_count (decode L m)) (decode L slice.1) (decode L second.1) number
  pub inside : cut_values first.0 ≡ set (map (renumbered_value number) (cut_values slice.0)) 1 None
  pub outside : cut_values second.0 ≡ set (map (renumbered_value number) (cut_values slice.0)) 0 None
  pub inside_warning : cut_warning first.0 ≡ cut_warning slice.0
  pub outside_warning : cut_warning second.0 ≡ cut_warning slice.0

abbrev pub SliceRepliesAsTwoCarvings : Limits → Type 0
SliceRepliesAsTwoCarvings L = (h : Hyperplane) (root : ElementNumber) (m : Memory) → Finite h.distance → 0 < rank (decode L m) root
    → let slice = cut_reply L (cut_by h Keep Keep) root m in
    let first = cut_reply L (cut_by h Keep Remove) root m in
    let second = cut_reply L (cut_by h Remove Keep) root first.1 in
    reply_number slice.0 ≡ 0 → AsTwoCarvings L m slice first second

-- and the slice's number is 0, done, exactly when both carvings' are
abbrev pub SliceDoneAsCarvings : Limits → Type 0
SliceDoneAsCarvings L = (h : Hyperplane) (root : ElementNumber) (m : Memory) → Finite h.distance → 0 < rank (decode L m) root
    → let slice = cut_reply L (cut_by h Keep Keep) root m in
    let first = cut_reply L (cut_by h Keep Remove) root m in
    let second = cut_reply L (cut_by h Remove Keep) root first.1 in
    (reply_number slice.0 ≡ 0 → (reply_number first.0 ≡ 0) × (reply_number second.0 ≡ 0))
    × (reply_number first.0 ≡ 0 → reply_number second.0 ≡ 0 → reply_number slice.0 ≡ 0)

-- a renumbering goes back, so neither table is the first: there is one from the second table to the first, and it undoes the other
abbrev pub RenumberingGoesBack : Limits → Type 0
RenumberingGoesBack L = (old : ℕ) (t u : Table) (f : ElementNumber → ElementNumber) → sound L t ≡ true → old ≤ element_count t → Renumbering old t u f
    → (g : ElementNumber → ElementNumber) × Renumbering old u t g × ((e : ElementNumber) → e < element_count t → g (f e) ≡ e)

-- ---- all of them

pub record Promises (L : Limits) : Type 0 where
  pub slice_is_two_carvings : SliceIsTwoCarvings L
  pub slice_taken_as_carvings : SliceTakenAsCarvings L
  pub slice_replies_as_two_carvings : SliceRepliesAsTwoCarvings L
  pub slice_done_as_carvings : SliceDoneAsCarvings L
  pub renumbering_goes_back : RenumberingGoesBack L

-- What every entry point asks first: 3, 4 and 5 in the old order. Definitions only.
use Rattle.std.specs.Prelude.{ℕ, ◌≡◌, true, false, not, List, ltb, Float, get_or, if◌then◌else◌, Err, Ok}
use Rattle.std.specs.Float.{nan, inf, fin}
use Rattle.rules.specs.Limits.{desk}
use Rattle.rules.specs.Lists.{all}
use Rattle.rules.specs.Table.{element_count}
use Rattle.rules.specs.Memory.{Memory, decode, sound_memory}
use Rattle.rules.specs.Replies.{divider_fits}
use Rattle.rules.specs.declared.Hyperplane.{Hyperplane}
use Rattle.space.specs.Chains.{Indexed}
use Rattle.soundness.specs.declared.asked.Asking.{Asking}
use Rattle.soundness.specs.declared.asked.Asking.TheVariants.{AllInside, AllOutside, Finite}
use Rattle.rules.specs.declared.Refusal.TheVariants.{Divider, NotInUse, NotSound}
use Rattle.rules.specs.Refusals.{Reply}

-- ---- a root and a divider

-- what is found at a distance: rule 1's side at an infinite one
abbrev pub at_distance : {A : Type 0} → A → A → A → Float → A
at_distance inside outside finite (inf false) = inside
at_distance inside outside finite (inf true) = outside
at_distance inside outside finite nan = finite
at_distance inside outside finite (fin s m e) = finite

-- of a table of d dimensions and n elements: 4, 5, or what the distance is
unfoldable pub asked_of : ℕ → ℕ → Hyperplane → ℕ → Reply Asking
asked_of d n h root =
    if not (ltb root n) then Err NotInUse
    else if not (divider_fits desk d h) then Err Divider
    else at_distance (Ok AllInside) (Ok AllOutside) (Ok Finite) h.distance

-- of a memory: 3 first
unfoldable pub asked : Memory → Hyperplane → ℕ → Reply Asking
asked m h root = let t = decode desk m in if not (sound_memory desk m) then Err NotSound else asked_of t.dimension (element_count t) h root

-- the answer, and the index of a sound memory
pub record DividerAsked (m : Memory) (h : Hyperplane) (root : ℕ) (reply : Reply Asking) (index' : List ℕ) : Type 0 where
  pub told : reply ≡ asked m h root
  pub indexed : sound_memory desk m ≡ true → Indexed m.elements (get_or m.counts 1 0) index'

-- ---- some roots

-- 3, 4, or the question goes on
unfoldable pub roots_asked : Memory → List ℕ → Reply (Unit {0})
roots_asked m roots =
    if not (sound_memory desk m) then Err NotSound
    else if not (all (λ e. ltb e (element_count (decode desk m))) roots) then Err NotInUse
    else Ok tt

-- What is left to write, put behind what is written, makes up the whole; so do the sizes.
use Rattle.std.proofs.Common.{◌≡◌, ℕ, ◌+◌, ◌-◌, ◌*◌, ◌^◌, ◌≤◌, List, map, length, drop, ℤ, pos}
use lib.Ieee.{Float}
use lib.Seq.{sets}
use Rattle.rules.specs.Areas.{sizes}
use Rattle.areas.specs.Words.{word_area}
use Rattle.areas.proofs.write_areas.Given as goal

-- the pieces from i on are left
pub record Writing (ps : List Float) (es fs : List ℕ) (room : List ℤ) (m : ℕ) (areas : List ℤ) (sum : ℤ) (i : ℕ) : Type 0 where
  pub low : i ≤ m
  pub end : m ≡ length fs
  pub long : length areas ≡ length room
  pub same : sets room 0 (map (word_area ps es) fs) ≡ sets areas i (map (word_area ps es) (drop i fs))
  pub added : ℕ
  pub is : sum ≡ pos added
  pub few : added ≤ i * 2 ^ 58
  pub total : sizes (map (word_area ps es) fs) ≡ added + sizes (map (word_area ps es) (drop i fs))

abbrev pub invariant-loop-i : goal.invariant-loop-i
invariant-loop-i l = Writing l.points l.elements l.pieces l.initial.areas l.i-end l.areas l.sum l.i

abbrev pub decreases-loop-i : goal.decreases-loop-i
decreases-loop-i l = l.i-end - l.i

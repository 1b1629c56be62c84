-- The two loops over the numbers of a face: what is known at the number that is taken up, before it is tested and once it fits.
use Prim.Native.Nat.{ℕ, ◌+◌, ◌<◌, ◌≤◌}
use mathlib.Core.Bool.{Bool, true, false, ◌&&◌}
use mathlib.Core.List.{List}
use mathlib.Core.Path.{◌≡◌}
use native.Mathlib.Omega.{arith}
use lib.ListN.{length, get_or}
use Rattle.rules.specs.Limits.{desk}
use Rattle.space.specs.Closed.{EndsLow, stamp_room}
use Rattle.soundness.specs.Known.{known_rows, EndsKnown}
use Rattle.soundness.specs.declared.row.Spacing.{Spacing}
use Rattle.soundness.specs.Words.{number_fits, numbers_fit, stamp_of}
use Rattle.soundness.specs.Tests.{EdgesReady}
use Rattle.soundness.proofs.BoundaryFits.{left, fits_start, fits_go, fits_no, fits_end}
use Rattle.soundness.proofs.BoundaryLoops.{number_ends, number_low}
use Rattle.soundness.proofs.OnePass.{no_first}

-- up to place i the numbers fit, and the stamp is the element's own
pub record Numbers (es edges : List ℕ) (e stamp low i : ℕ) : Type 0 where
  pub bound : i ≤ length edges
  pub same : stamp ≡ stamp_of e
  pub rest : numbers_fit desk es e 2 edges ≡ left es edges e 2 low i

-- the face as it was asked for, and x as the number at place i
pub record NumberRead (edges fs : List ℕ) (sp : Spacing) (e : ℕ) (met : List ℕ) (stamp low i x : ℕ) : Type 0 where
  pub ready : EdgesReady edges fs sp e met
  pub numbers : Numbers (known_rows fs sp) edges e stamp low i
  pub room : stamp < stamp_room
  pub more : i < length edges
  pub read : x ≡ get_or edges i 0

pub numbers_start : {es edges : List ℕ} {e stamp : ℕ} → stamp ≡ stamp_of e → Numbers es edges e stamp 0 0
numbers_start {es} {edges} {e} q = record { bound = omega arith; same = q; rest = fits_start es edges e 2 }

pub numbers_end : {es edges : List ℕ} {e stamp low i : ℕ} → Numbers es edges e stamp low i → length edges ≤ i → true ≡ numbers_fit desk es e 2 edges
numbers_end {es} {edges} {e} {low = low} {i = i} N h = fits_end es edges e 2 low i N.rest h

module _ {edges fs : List ℕ} {sp : Spacing} {e : ℕ} {met : List ℕ} {stamp low i x : ℕ} (R : NumberRead edges fs sp e met stamp low i x) where
  abbrev es : List ℕ
  es = known_rows fs sp

  -- where it does not fit, the face is none, whatever its edges make
  pub read_no : (B : Bool) → number_fits desk es e 2 low x ≡ false → false ≡ (numbers_fit desk es e 2 edges && B)
  read_no B q = no_first _ B (fits_no es edges e 2 low i x R.numbers.rest R.read R.more q)

  module _ (fits : number_fits desk es e 2 low x ≡ true) where
    pub read_ends : EndsLow es x
    read_ends = number_ends es e R.ready.edges low x fits

    pub read_edge : EndsKnown fs sp x stamp
    read_edge =
        let l = number_low es e 2 low x fits in
        let u = R.ready.in_room in
        record { element = record { spaced = R.ready.spaced; room = omega (arith, l, u) }; ends = read_ends; stamp = R.room }

    pub read_on : Numbers es edges e stamp (x + 1) (i + 1)
    read_on =
        let h = R.more in
        record { bound = omega (arith, h); same = R.numbers.same; rest = fits_go es edges e 2 low i x R.numbers.rest R.read R.more fits }

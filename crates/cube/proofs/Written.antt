-- The points, and the hyperplanes, are written element by element: how many there are so far, and what their slice is then.
use Prim.Native.Nat.{ℕ, ◌+◌, ◌≤◌, ◌<◌, ◌^◌}
use mathlib.Core.Bool.{Bool}
use mathlib.Core.List.{List}
use mathlib.Core.Path.{◌≡◌, refl, ap, ◌∙◌}
use native.Mathlib.Omega.{arith}
use lib.Ieee.{Float}
use lib.ListN.{length}
use Rattle.rules.specs.Cube.{chosen}
use Rattle.cube.specs.Cubes.{CubeSize, InCube}

-- before element e: n of the chosen ones were written, and `slice e` is what they make of the slice
pub record Written (choice : List ℕ → Bool) (slice : ℕ → List Float) (long d size : ℕ) (old new : List Float) (n e : ℕ) : Type 0 where
  pub so_far : e ≤ size
  pub axes : d ≤ 4
  pub all : CubeSize d size
  pub room : length old ≡ long
  pub kept : length new ≡ long
  pub count : n ≡ length (chosen choice d e)
  pub there : new ≡ slice e

module _ {choice : List ℕ → Bool} {slice : ℕ → List Float} {long d size : ℕ} {old : List Float} where
  pub begun : CubeSize d size → d ≤ 4 → length old ≡ long → old ≡ slice 0 → Written choice slice long d size old old 0 0
  begun s a l q = record { so_far = omega arith; axes = a; all = s; room = l; kept = l; count = refl; there = q }

  -- the next element is the cube's
  pub in_cube_lem : {new : List Float} {n e : ℕ} → Written choice slice long d size old new n e → e < size → InCube d e
  in_cube_lem w l = let q = w.all.power in record { axes = w.axes; used = omega (arith, q, l) }

  pub one_more_lem : {new new' : List Float} {n n' e : ℕ} → Written choice slice long d size old new n e → e < size → length new' ≡ long
      → n' ≡ length (chosen choice d (e + 1)) → new' ≡ slice (e + 1) → Written choice slice long d size old new' n' (e + 1)
  one_more_lem w l k c q = record { so_far = omega (arith, l); axes = w.axes; all = w.all; room = w.room; kept = k; count = c; there = q }

  -- once all are written
  pub complete : {new : List Float} {n e : ℕ} → Written choice slice long d size old new n e → size ≤ e
      → (n ≡ length (chosen choice d (3 ^ d))) × (new ≡ slice (3 ^ d))
  complete {e = e} w l =
      let s = w.so_far in
      let q = w.all.power in
      let t : e ≡ 3 ^ d = omega (arith, s, q, l) in
      (w.count ∙ ap (λ (k : ℕ). length (chosen choice d k)) t, w.there ∙ ap slice t)

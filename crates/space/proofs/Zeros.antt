-- Zeros over a part of a slice, and the memory given back.
use Prim.Native.Nat.{ℕ, ◌+◌, ◌-◌, ◌*◌, ◌≤◌}
use mathlib.Core.Path.{◌≡◌, refl, sym, ap, ap₂, ◌∙◌}
use mathlib.Core.List.{List, ◌++◌}
use native.Mathlib.Nat.{le_of_eq}
use native.Mathlib.Omega.{arith}
use lib.ListN.{length, get_or, take, drop, set, replicate, length-replicate}
use lib.Seq.{sets, sets-eq, take_all, paste}
use lib.Ieee.{Float}
use borrow.Rule.Slice.PartMut.{put_mid, mid_of, mid_len}
use Rattle.std.proofs.lemmas.Slice.{put_mid-paste}
use Rattle.rules.specs.Limits.{desk}
use Rattle.rules.specs.Table.{element_count}
use Rattle.rules.specs.Floats.{plus_zero}
use Rattle.space.proofs.Room.{elements_restored, points_restored, planes_restored, counts_restored, fits_before}
use Rattle.space.proofs.Slices.{slices}
use Rattle.space.specs.Restored.{zeros_from, Restored}

-- what stands after a part of a slice is filled
module _ {A : Type 0} (z : A) (l : List A) (at : ℕ) where
  zeros : (j : ℕ) → at + j ≤ length l → sets l at (replicate j z) ≡ paste l at (replicate j z) j
  zeros j h =
      let e = length-replicate j z in
      sets-eq (replicate j z) l at (let q : at + length (replicate j z) ≤ length l = omega (arith, e, h) in q)
      ∙ ap₂ (λ (r : List A) (n : ℕ). take at l ++ r ++ drop (at + n) l) (sym (take_all j (replicate j z) (le_of_eq e))) e

  pub filled : (e : ℕ) (ys : List A) → at ≤ e → e ≤ length l → ys ≡ replicate (length (mid_of at (e - at) l)) z → put_mid at (e - at) l ys ≡ sets l at (replicate (e - at) z)
  filled e ys h g f =
      let k = e - at in
      put_mid-paste at k l ys (replicate k z) k (f ∙ ap (λ (m : ℕ). replicate m z) (mid_len at e l g)) refl (sym (length-replicate k z))
      ∙ sym (zeros k (let q : at + (e - at) ≤ length l = omega arith in q))

pub restored : {cs : List ℕ} {ps hs : List Float} {es : List ℕ} (e v h ne nv nh : ℕ) {ps' hs' : List Float} {es' : List ℕ}
    → ne ≡ get_or cs 1 0 → nv ≡ get_or cs 2 0 → nh ≡ get_or cs 3 0
    → es' ≡ zeros_from 0 36 es e ne → ps' ≡ zeros_from plus_zero 4 ps v nv → hs' ≡ zeros_from plus_zero 5 hs h nh
    → Restored cs ps hs es e v h (set (set (set cs 1 e) 2 v) 3 h) ps' hs' es'
restored {cs} {ps} {hs} {es} e v h ne nv nh a b c p q r = record {
  counts = refl;
  points = q ∙ ap (zeros_from plus_zero 4 ps v) b;
  planes = r ∙ ap (zeros_from plus_zero 5 hs h) c;
  elements = p ∙ ap (zeros_from 0 36 es e) a;
  of = λ t u x H i j k.
      (let ei : ne ≡ element_count u = a ∙ (slices H).element_count in
      let vj : nv ≡ length u.points = b ∙ (slices H).point_count in
      let hk : nh ≡ length u.planes = c ∙ (slices H).plane_count in
      record {
        counts = (λ s. set (set (set (H.counts s) 1 (i s)) 2 (j s)) 3 (k s)) ∙ counts_restored desk t u x H.fits;
        points = q ∙ (λ s. sets (H.points s) (j s * 4) (replicate (vj s * 4 - j s * 4) plus_zero)) ∙ points_restored desk t u x H.fits;
        planes = r ∙ (λ s. sets (H.planes s) (k s * 5) (replicate (hk s * 5 - k s * 5) plus_zero)) ∙ planes_restored desk t u x H.fits;
        elements = p ∙ (λ s. sets (H.elements s) (i s * 36) (replicate (ei s * 36 - i s * 36) 0)) ∙ elements_restored desk t u x H.fits;
        fits = fits_before desk t u x H.fits;
      });
}

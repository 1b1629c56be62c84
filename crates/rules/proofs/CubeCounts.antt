-- How many elements of the cube are vertices, and how many are facets: 2 ^ d, and 2 d above one dimension.
-- A number of one digit more is that digit and a number of d digits, so a count for d + 1 is three counts for d.
use Prim.Native.Nat.{ℕ, zero, suc, ◌+◌, ◌*◌, ◌^◌, ◌<◌}
use mathlib.Core.Bool.{Bool, true, false, not, ◌&&◌}
use mathlib.Core.List.{List, ◌∷◌}
use mathlib.Core.Path.{◌≡◌, refl, sym, ap, ◌∙◌, fun_ext}
use native.Mathlib.Nat.{pow-succ', two-pow-succ}
use native.Mathlib.Omega.{arith}
use lib.Dec.{eqb, eqb-suc-zero, eqb-suc-suc}
use lib.ListN.{length}
use Rattle.rules.specs.Cube.{digits, twos, is_vertex, is_facet}
use Rattle.rules.specs.Table.{primordials}
use Rattle.rules.proofs.Counting.{before, before_none, before_same, before_thrice}
use Rattle.rules.proofs.CubeDigits.{digits_step, twos_length}
use Rattle.rules.proofs.Laws.{eq_test, not_eq}

-- how many of the cube's elements have digits that pass a test
abbrev pub tally : (List ℕ → Bool) → ℕ → ℕ
tally p d = before (λ e. p (digits d e)) (3 ^ d)

tally_suc : (p : List ℕ → Bool) (d : ℕ) → tally p (suc d) ≡ tally (λ ks. p (0 ∷ ks)) d + tally (λ ks. p (1 ∷ ks)) d + tally (λ ks. p (2 ∷ ks)) d
tally_suc p d =
    let a = first 0 (omega arith) in
    let b = first 1 (omega arith) in
    let c = first 2 (omega arith) in
    ap (before (λ e. p (digits (suc d) e))) (pow-succ' 3 d) ∙ before_thrice (λ e. p (digits (suc d) e)) (3 ^ d) ∙ omega arith
  where
    first : (k : ℕ) → k < 3 → before (λ e. p (digits (suc d) (k + 3 * e))) (3 ^ d) ≡ tally (λ ks. p (k ∷ ks)) d
    first k l = before_same (λ e. p (digits (suc d) (k + 3 * e))) (λ e. p (k ∷ digits d e)) (3 ^ d) (λ e. ap p (digits_step d k e l))

tally_same : (p q : List ℕ → Bool) (d : ℕ) → ((ks : List ℕ) → p ks ≡ q ks) → tally p d ≡ tally q d
tally_same p q d h = ap (λ (f : List ℕ → Bool). tally f d) (fun_ext h)

tally_none : (p : List ℕ → Bool) (d : ℕ) → ((ks : List ℕ) → p ks ≡ false) → tally p d ≡ 0
tally_none p d h = tally_same p (λ ks. false) d h ∙ before_none (3 ^ d)

-- no digit is 2
pub vertex_tally : (d : ℕ) → tally is_vertex d ≡ 2 ^ d
unfolding before
vertex_tally zero = refl
vertex_tally (suc d) =
    let h = vertex_tally d in
    let z = tally_none (λ ks. is_vertex (2 ∷ ks)) d (λ ks. eqb-suc-zero (twos ks)) in
    let s = two-pow-succ d in
    tally_suc is_vertex d ∙ omega arith

-- every digit is 2
abbrev full : List ℕ → Bool
full ks = eqb (twos ks) (length ks)

full_tally : (d : ℕ) → tally full d ≡ 1
unfolding before
full_tally zero = refl
full_tally (suc d) =
    let x = tally_none (λ ks. full (0 ∷ ks)) d few in
    let y = tally_none (λ ks. full (1 ∷ ks)) d few in
    let z = tally_same (λ ks. full (2 ∷ ks)) full d (λ ks. eqb-suc-suc (twos ks) (length ks)) in
    let h = full_tally d in
    tally_suc full d ∙ omega arith
  where
    few : (ks : List ℕ) → eqb (twos ks) (suc (length ks)) ≡ false
    few ks = not_eq (twos ks) (suc (length ks)) (λ e. let l = twos_length ks in omega arith)

-- every digit but one is 2
abbrev almost : List ℕ → Bool
almost ks = eqb (suc (twos ks)) (length ks)

almost_tally : (d : ℕ) → tally almost d ≡ 2 * d
unfolding before
almost_tally zero = refl
almost_tally (suc d) =
    let x = tally_same (λ ks. almost (0 ∷ ks)) full d (λ ks. eqb-suc-suc (twos ks) (length ks)) in
    let y = tally_same (λ ks. almost (1 ∷ ks)) full d (λ ks. eqb-suc-suc (twos ks) (length ks)) in
    let z = tally_same (λ ks. almost (2 ∷ ks)) almost d (λ ks. eqb-suc-suc (suc (twos ks)) (length ks)) in
    let h = full_tally d in
    let g = almost_tally d in
    tally_suc almost d ∙ omega arith

-- P: in one dimension a facet would be a vertex, and has no hyperplane
pub facet_tally : (d : ℕ) → tally is_facet d ≡ primordials d
unfolding before
facet_tally zero = refl
facet_tally (suc zero) = refl
facet_tally (suc (suc d)) =
    before_same (λ e. is_facet (ks e)) (λ e. almost (ks e)) (3 ^ suc (suc d)) (λ e. go e (eqb (twos (ks e)) 0) refl) ∙ almost_tally (suc (suc d))
  where
    ks : ℕ → List ℕ
    ks e = digits (suc (suc d)) e

    go : (e : ℕ) (b : Bool) → eqb (twos (ks e)) 0 ≡ b → (not b && almost (ks e)) ≡ almost (ks e)
    go e false q = refl
    go e true q = let z = eq_test (twos (ks e)) 0 q in sym (not_eq (suc (twos (ks e))) (length (ks e)) (omega arith))

-- What equals or matches itself, and what a test of equality says: the tests of the rules are the equality of data.
-- No float fact is needed but that x has the bits of x.
use Prim.Native.Nat.{ℕ}
use mathlib.Core.Bool.{Bool, true, ◌&&◌, beq, false≢true}
use mathlib.Core.List.{List, [], ◌∷◌}
use mathlib.Core.Path.{◌≡◌, refl, ap, ap₂}
use lib.Dec.{eqb}
use lib.Ieee.{Float, nan, inf, fin, sub, binary64}
use lib.IntN.{ℤ, pos, negsuc}
use Rattle.rules.specs.Lists.{alike}
use Rattle.rules.specs.Floats.{same_exponent, same_bits, matches, within, tolerance, point_matches}
use Rattle.rules.specs.Table.{same_plane, Plane, Element, same_element, corner, polytope}
use Rattle.rules.specs.Cut.{plane_matches}
use Rattle.rules.proofs.Laws.{and_true, eqb_self, beq_self, or_left, eq_test, and_left, and_right, beq_same}
use Rattle.std.specs.Prelude.{Option, Some, None}

-- ---- everything equals itself

pub alike_self : {A : Type 0} (p : A → A → Bool) → ((x : A) → p x x ≡ true) → (xs : List A) → alike p xs xs ≡ true
alike_self p h [] = refl
alike_self p h (x ∷ xs) = and_true (p x x) (alike p xs xs) (h x) (alike_self p h xs)

pub plane_self : (h : Option ℕ) → same_plane h h ≡ true
plane_self None = refl
plane_self (Some n) = eqb_self n

pub element_self : (e : Element) → same_element e e ≡ true
unfolding same_element
element_self (corner v) = eqb_self v
element_self (polytope r b h m) =
    and_true (eqb r r && same_plane h h && beq m m) (alike eqb b b)
    (and_true (eqb r r && same_plane h h) (beq m m) (and_true (eqb r r) (same_plane h h) (eqb_self r) (plane_self h)) (beq_self m)) (alike_self eqb eqb_self b)

pub exponent_self : (e : ℤ) → same_exponent e e ≡ true
exponent_self (pos n) = eqb_self n
exponent_self (negsuc n) = eqb_self n

pub bits_self : (x : Float) → same_bits x x ≡ true
bits_self nan = refl
bits_self (inf s) = beq_self s
bits_self (fin s m e) = and_true (beq s s && eqb m m) (same_exponent e e) (and_true (beq s s) (eqb m m) (beq_self s) (eqb_self m)) (exponent_self e)

pub matches_self : (x : Float) → matches x x ≡ true
unfolding matches
matches_self x = or_left (same_bits x x) (within tolerance (sub binary64 x x)) (bits_self x)

pub point_self : (p : List Float) → point_matches p p ≡ true
unfolding point_matches
point_self p = alike_self matches matches_self p

pub plane_matches_self : (h : Plane) → plane_matches h h ≡ true
unfolding plane_matches
plane_matches_self h = and_true (point_matches h.normal h.normal) (matches h.distance h.distance) (point_self h.normal) (matches_self h.distance)

-- ---- what passes a test of equality is equal

pub alike_eq : (xs ys : List ℕ) → alike eqb xs ys ≡ true → xs ≡ ys
alike_eq [] [] h = refl
alike_eq [] (y ∷ ys) h = absurd (false≢true h)
alike_eq (x ∷ xs) [] h = absurd (false≢true h)
alike_eq (x ∷ xs) (y ∷ ys) h =
    ap₂ (λ (z : ℕ) (zs : List ℕ). z ∷ zs) (eq_test x y (and_left (eqb x y) (alike eqb xs ys) h)) (alike_eq xs ys (and_right (eqb x y) (alike eqb xs ys) h))

pub eq_alike : (xs : List ℕ) → alike eqb xs xs ≡ true
eq_alike [] = refl
eq_alike (x ∷ xs) = and_true (eqb x x) (alike eqb xs xs) (eqb_self x) (eq_alike xs)

pub same_exponent_lem : (e d : ℤ) → same_exponent e d ≡ true → e ≡ d
same_exponent_lem (pos m) (pos n) h = ap pos (eq_test m n h)
same_exponent_lem (pos m) (negsuc n) h = absurd (false≢true h)
same_exponent_lem (negsuc m) (pos n) h = absurd (false≢true h)
same_exponent_lem (negsuc m) (negsuc n) h = ap negsuc (eq_test m n h)

pub same_float : (x y : Float) → same_bits x y ≡ true → x ≡ y
same_float nan nan h = refl
same_float nan (inf t) h = absurd (false≢true h)
same_float nan (fin t n d) h = absurd (false≢true h)
same_float (inf s) nan h = absurd (false≢true h)
same_float (inf s) (inf t) h = ap inf (beq_same s t h)
same_float (inf s) (fin t n d) h = absurd (false≢true h)
same_float (fin s m e) nan h = absurd (false≢true h)
same_float (fin s m e) (inf t) h = absurd (false≢true h)
same_float (fin s m e) (fin t n d) h =
    let a = and_left (beq s t && eqb m n) (same_exponent e d) h in
    λ i. fin (beq_same s t (and_left (beq s t) (eqb m n) a) i) (eq_test m n (and_right (beq s t) (eqb m n) a) i) (same_exponent_lem e d (and_right (beq s t && eqb m n) (same_exponent e d) h) i)

pub same_floats : (xs ys : List Float) → alike same_bits xs ys ≡ true → xs ≡ ys
same_floats [] [] h = refl
same_floats [] (y ∷ ys) h = absurd (false≢true h)
same_floats (x ∷ xs) [] h = absurd (false≢true h)
same_floats (x ∷ xs) (y ∷ ys) h =
    ap₂ (λ (z : Float) (zs : List Float). z ∷ zs) (same_float x y (and_left (same_bits x y) (alike same_bits xs ys) h)) (same_floats xs ys (and_right (same_bits x y) (alike same_bits xs ys) h))

same_plane_lem : (h k : Option ℕ) → same_plane h k ≡ true → h ≡ k
same_plane_lem None None e = refl
same_plane_lem None (Some k) e = absurd (false≢true e)
same_plane_lem (Some h) None e = absurd (false≢true e)
same_plane_lem (Some h) (Some k) e = ap {B = Option ℕ} Some (eq_test h k e)

pub same_element_lem : (y z : Element) → same_element y z ≡ true → y ≡ z
unfolding same_element
same_element_lem (corner v) (corner w) k = ap corner (eq_test v w k)
same_element_lem (corner v) (polytope q c j n) k = absurd (false≢true k)
same_element_lem (polytope r b h m) (corner w) k = absurd (false≢true k)
same_element_lem (polytope r b h m) (polytope q c j n) k =
    let k₃ = and_left (eqb r q && same_plane h j && beq m n) (alike eqb b c) k in
    let k₂ = and_left (eqb r q && same_plane h j) (beq m n) k₃ in
    λ i. polytope (eq_test r q (and_left (eqb r q) (same_plane h j) k₂) i) (alike_eq b c (and_right (eqb r q && same_plane h j && beq m n) (alike eqb b c) k) i)
    (same_plane_lem h j (and_right (eqb r q) (same_plane h j) k₂) i) (beq_same m n (and_right (eqb r q && same_plane h j) (beq m n) k₃) i)

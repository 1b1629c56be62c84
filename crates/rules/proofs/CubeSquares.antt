-- The cube's elements of rank 2, squares, are rings: each vertex met lies on exactly two edges, and the edges hang together.
-- By induction on the digits: one in front that is no 2 keeps how often a vertex is met, and what hangs together; a 2 in front of an edge with ends a < b makes the four vertices below.
use Rattle.std.specs.Prelude.{if◌then◌else◌}
use Prim.Native.Nat.{ℕ, zero, suc, ◌+◌, ◌*◌, ◌^◌, ◌<◌}
use mathlib.Core.Bool.{Bool, true, false, ◌&&◌, false≢true}
use mathlib.Core.List.{List, [], ◌∷◌, ◌++◌, map}
use mathlib.Core.Path.{◌≡◌, refl, sym, ap, ap₂, ◌∙◌, subst}
use native.Mathlib.Omega.{arith}
use lib.Dec.{eqb, ltb}
use lib.ListN.{length}
use Rattle.rules.specs.Lists.{all, keep, joined, member, occurrences, rises}
use Rattle.rules.specs.Cube.{digits, of_digits, twos}
use Rattle.rules.proofs.Common.{member_mapped, mapped_member}
use Rattle.rules.proofs.CubeDigits.{digits_step, digits_of, digit_low, of_digits_lem, below_power}
use Rattle.rules.proofs.CubeFaces.{face_numbers, front, pair, faces_low, faces_two, Faces, faces_known, no_faces}
use Rattle.rules.proofs.Extends.{Below}
use Rattle.rules.proofs.Growing.{map_append}
use Rattle.rules.proofs.Laws.{and_true, and_left, and_right, or_left, or_right, or_case, le_test, eq_test, not_eq, test_eq, unlike_eq, eqb_self}

-- the ends of some edges of a cube of dimension d
abbrev pub edge_ends : ℕ → List ℕ → List ℕ
edge_ends d edges = joined (map (λ x. face_numbers (digits d x)) edges)

-- each vertex met is met exactly twice
abbrev pub Twice : List ℕ → Type 0
Twice es = all (λ v. eqb (occurrences v es) 2) es ≡ true

-- the ends of one edge
abbrev pub edge_of : ℕ → ℕ → List ℕ
edge_of d x = face_numbers (digits d x)

-- edges hang together, by the ends that b gives them
abbrev pub Hang : (ℕ → List ℕ) → List ℕ → Type 0
Hang b es = (S : ℕ → Bool) (e : ℕ) → member e es ≡ true → S e ≡ true
    → ((x y v : ℕ) → member x es ≡ true → member y es ≡ true → member v (b x) ≡ true → member v (b y) ≡ true → S x ≡ true → S y ≡ true)
    → (x : ℕ) → member x es ≡ true → S x ≡ true

-- some edges of a cube of dimension d are a ring
pub record Ringed (d : ℕ) (es : List ℕ) : Type 0 where
  pub twice : Twice (edge_ends d es)
  pub hang : Hang (edge_of d) es

-- ---- a digit in front that is no 2

module _ (k : ℕ) where
  same_front : (x y : ℕ) → eqb (k + 3 * x) (k + 3 * y) ≡ eqb x y
  same_front x y = go (eqb x y) refl
    where
      go : (b : Bool) → eqb x y ≡ b → eqb (k + 3 * x) (k + 3 * y) ≡ b
      go true e = test_eq (k + 3 * x) (k + 3 * y) (ap (λ (z : ℕ). k + 3 * z) (eq_test x y e))
      go false e = not_eq (k + 3 * x) (k + 3 * y) (λ h. unlike_eq x y e (omega arith))

  met_front : (x : ℕ) (es : List ℕ) → occurrences (k + 3 * x) (front k es) ≡ occurrences x es
  met_front x [] = refl
  met_front x (y ∷ ys) =
      ap (λ (b : Bool). length (if b then (k + 3 * y) ∷ keep (eqb (k + 3 * x)) (front k ys) else keep (eqb (k + 3 * x)) (front k ys))) (same_front x y)
      ∙ go (eqb x y) (met_front x ys)
    where
      go : (b : Bool) → occurrences (k + 3 * x) (front k ys) ≡ occurrences x ys
          → length (if b then (k + 3 * y) ∷ keep (eqb (k + 3 * x)) (front k ys) else keep (eqb (k + 3 * x)) (front k ys))
          ≡ length (if b then y ∷ keep (eqb x) ys else keep (eqb x) ys)
      go true e = ap suc e
      go false e = e

  twice_front : (es : List ℕ) → Twice es → Twice (front k es)
  twice_front es = each es
    where
      each : (vs : List ℕ) → all (λ v. eqb (occurrences v es) 2) vs ≡ true
          → all (λ v. eqb (occurrences v (front k es)) 2) (front k vs) ≡ true
      each [] h = refl
      each (v ∷ vs) h =
          let p : ℕ → Bool = λ w. eqb (occurrences w es) 2 in
          and_true (eqb (occurrences (k + 3 * v) (front k es)) 2) _
          (ap (λ (n : ℕ). eqb n 2) (met_front v es) ∙ and_left (p v) (all p vs) h) (each vs (and_right (p v) (all p vs) h))

  ends_front : (d : ℕ) (xs : List ℕ) → k < 2 → edge_ends (suc d) (front k xs) ≡ front k (edge_ends d xs)
  ends_front d [] l = refl
  ends_front d (x ∷ xs) l =
      ap₂ (λ (ys zs : List ℕ). ys ++ zs) (ap face_numbers (digits_step d k x (omega arith)) ∙ faces_low k (digits d x) l) (ends_front d xs l)
      ∙ sym (map_append (λ v. k + 3 * v) (face_numbers (digits d x)) (edge_ends d xs))

  hang_front : (d : ℕ) (xs : List ℕ) → k < 2 → Hang (edge_of d) xs → Hang (edge_of (suc d)) (front k xs)
  hang_front d xs l h S e m z share y n =
      let a = member_mapped (λ v. k + 3 * v) xs e m in
      let c = member_mapped (λ v. k + 3 * v) xs y n in
      subst (λ (j : ℕ). S j ≡ true) (sym c.2) (h (λ j. S (k + 3 * j)) a.0 a.1 (subst (λ (j : ℕ). S j ≡ true) a.2 z) inner c.0 c.1)
    where
      here : (x v : ℕ) → member v (edge_of d x) ≡ true → member (k + 3 * v) (edge_of (suc d) (k + 3 * x)) ≡ true
      here x v q =
          subst (λ (ys : List ℕ). member (k + 3 * v) ys ≡ true) (sym (ap face_numbers (digits_step d k x (omega arith)) ∙ faces_low k (digits d x) l))
          (mapped_member (λ w. k + 3 * w) (edge_of d x) v q)

      inner : (x w v : ℕ) → member x xs ≡ true → member w xs ≡ true → member v (edge_of d x) ≡ true → member v (edge_of d w) ≡ true → S (k + 3 * x) ≡ true → S (k + 3 * w) ≡ true
      inner x w v mx mw vx vw q =
          share (k + 3 * x) (k + 3 * w) (k + 3 * v) (mapped_member (λ j. k + 3 * j) xs x mx) (mapped_member (λ j. k + 3 * j) xs w mw) (here x v vx) (here w v vw) q

-- ---- a 2 in front of an edge

-- four edges, w-x, y-z, w-y and x-z
module _ (b : ℕ → List ℕ) (p q r s w x y z : ℕ) (bp : b p ≡ w ∷ x ∷ []) (bq : b q ≡ y ∷ z ∷ []) (br : b r ≡ w ∷ y ∷ []) (bs : b s ≡ x ∷ z ∷ []) where
  abbrev sides : List ℕ
  sides = p ∷ q ∷ r ∷ s ∷ []

  of_four : (u : ℕ) → member u sides ≡ true → (A : Type 0) → (u ≡ p → A) → (u ≡ q → A) → (u ≡ r → A) → (u ≡ s → A) → A
  of_four u h A f g i j =
      or_case (eqb u p) _ h A (λ e. f (eq_test u p e)) (λ h₁. or_case (eqb u q) _ h₁ A (λ e. g (eq_test u q e)) (λ h₂. or_case (eqb u r) _ h₂ A (λ e. i (eq_test u r e))
      (λ h₃. or_case (eqb u s) false h₃ A (λ e. j (eq_test u s e)) (λ n. absurd (false≢true n)))))

  one : (e u v : ℕ) → b e ≡ u ∷ v ∷ [] → member u (b e) ≡ true
  one e u v h = subst (λ (us : List ℕ). member u us ≡ true) (sym h) (or_left (eqb u u) _ (eqb_self u))

  next : (e u v : ℕ) → b e ≡ u ∷ v ∷ [] → member v (b e) ≡ true
  next e u v h = subst (λ (us : List ℕ). member v us ≡ true) (sym h) (or_right (eqb v u) _ (or_left (eqb v v) _ (eqb_self v)))

  four_hang : Hang b sides
  four_hang S e m h share a n =
      let mp : member p sides ≡ true = or_left (eqb p p) _ (eqb_self p) in
      let mq : member q sides ≡ true = or_right (eqb q p) _ (or_left (eqb q q) _ (eqb_self q)) in
      let mr : member r sides ≡ true = or_right (eqb r p) _ (or_right (eqb r q) _ (or_left (eqb r r) _ (eqb_self r))) in
      let ms : member s sides ≡ true = or_right (eqb s p) _ (or_right (eqb s q) _ (or_right (eqb s r) _ (or_left (eqb s s) _ (eqb_self s)))) in
      let to : (u v : ℕ) → u ≡ v → S u ≡ true → S v ≡ true = λ u v g. subst (λ (j : ℕ). S j ≡ true) g in
      let first : S p ≡ true = of_four e m (S p ≡ true) (λ g. to e p g h)
      (λ g. share r p w mr mp (one r w y br) (one p w x bp) (share q r y mq mr (one q y z bq) (next r w y br) (to e q g h)))
      (λ g. share r p w mr mp (one r w y br) (one p w x bp) (to e r g h))
      (λ g. share s p x ms mp (one s x z bs) (next p w x bp) (to e s g h)) in
      let third : S r ≡ true = share p r w mp mr (one p w x bp) (one r w y br) first in
      of_four a n (S a ≡ true) (λ g. to p a (sym g) first) (λ g. to q a (sym g) (share r q y mr mq (next r w y br) (one q y z bq) third)) (λ g. to r a (sym g) third)
      (λ g. to s a (sym g) (share p s x mp ms (next p w x bp) (one s x z bs) first))

lower : (m n : ℕ) → m < n → eqb m n ≡ false
lower m n l = not_eq m n (λ e. omega arith)

higher : (m n : ℕ) → m < n → eqb n m ≡ false
higher m n l = not_eq n m (λ e. omega arith)

-- the ends of a square's four edges
four : (w x y z : ℕ) → w < x → x < y → y < z → Twice (w ∷ x ∷ y ∷ z ∷ w ∷ y ∷ x ∷ z ∷ [])
four w x y z a b c =
    let wy : w < y = omega arith in
    let wz : w < z = omega arith in
    let xz : x < z = omega arith in
    simp (
      eqb_self,
      lower w x a,
      lower w y wy,
      lower w z wz,
      lower x y b,
      lower x z xz,
      lower y z c,
      higher w x a,
      higher w y wy,
      higher w z wz,
      higher x y b,
      higher x z xz,
      higher y z c,
    )

-- an edge along the first axis, from its vertex's number without that axis
edge_front : (d a : ℕ) → a < 3 ^ d → twos (digits d a) ≡ 0 → face_numbers (digits (suc d) (2 + 3 * a)) ≡ pair a
edge_front d a l e =
    ap face_numbers (digits_step d 2 a (omega arith)) ∙ faces_two (digits d a)
    ∙ ap₂ (λ (xs : List ℕ) (n : ℕ). front 2 xs ++ pair n) (no_faces (digits d a) (digit_low d a) e) (of_digits_lem d a l)

module _ (ks : List ℕ) (low : Below 3 ks) (edge : twos ks ≡ 1) where
  -- a face of the square with its first digit no 2
  edge_across : (k a b : ℕ) → k < 2 → face_numbers ks ≡ a ∷ b ∷ []
      → face_numbers (digits (suc (length ks)) (k + 3 * of_digits ks)) ≡ (k + 3 * a) ∷ (k + 3 * b) ∷ []
  edge_across k a b l e =
      ap face_numbers (digits_step (length ks) k (of_digits ks) (omega arith) ∙ ap (λ (js : List ℕ). k ∷ js) (digits_of ks low))
      ∙ faces_low k ks l ∙ ap (front k) e

  square : Ringed (suc (length ks)) (face_numbers (2 ∷ ks))
  square = subst (Ringed (suc (length ks))) (sym (faces_two ks)) (go (face_numbers ks) refl (faces_known ks low))
    where
      go : (xs : List ℕ) → face_numbers ks ≡ xs → Faces ks xs → Ringed (suc (length ks)) (front 2 xs ++ pair (of_digits ks))
      go [] e f = absurd (let c = f.count in omega arith)
      go (a ∷ []) e f = absurd (let c = f.count in omega arith)
      go (a ∷ b ∷ []) e f =
          let p = below_power ks low in
          let fa = f.each.0 in
          let fb = f.each.1.0 in
          let la : a < 3 ^ length ks = let u = fa.under in omega arith in
          let lb : b < 3 ^ length ks = let u = fb.under in omega arith in
          let ra : twos (digits (length ks) a) ≡ 0 = let u = fa.rank in omega arith in
          let rb : twos (digits (length ks) b) ≡ 0 = let u = fb.rank in omega arith in
          let l : a < b = le_test (suc a) b (and_left (ltb a b) true (and_left (ltb a b && true) (rises (b ∷ [])) f.rising)) in
          let p₁ = edge_front (length ks) a la ra in
          let p₂ = edge_front (length ks) b lb rb in
          let p₃ = edge_across 0 a b (omega arith) e in
          let p₄ = edge_across 1 a b (omega arith) e in
          record {
            twice = subst Twice (λ i. sym p₁ i ++ (sym p₂ i ++ (sym p₃ i ++ (sym p₄ i ++ []))))
                (four (0 + 3 * a) (1 + 3 * a) (0 + 3 * b) (1 + 3 * b) (omega arith) (omega arith) (omega arith));
            hang = four_hang (edge_of (suc (length ks))) (2 + 3 * a) (2 + 3 * b) (0 + 3 * of_digits ks) (1 + 3 * of_digits ks)
                (0 + 3 * a) (1 + 3 * a) (0 + 3 * b) (1 + 3 * b) p₁ p₂ p₃ p₄;
          }
      go (a ∷ b ∷ c ∷ xs) e f = absurd (let n = f.count in omega arith)

front_ring : (k : ℕ) (ks : List ℕ) → k < 2 → Ringed (length ks) (face_numbers ks) → Ringed (suc (length ks)) (face_numbers (k ∷ ks))
front_ring k ks l h = subst (Ringed (suc (length ks))) (sym (faces_low k ks l)) (record {
  twice = subst Twice (sym (ends_front k (length ks) (face_numbers ks) l)) (twice_front k (edge_ends (length ks) (face_numbers ks)) h.twice);
  hang = hang_front k (length ks) (face_numbers ks) l h.hang;
})

pub square_ring : (ks : List ℕ) → Below 3 ks → twos ks ≡ 2 → Ringed (length ks) (face_numbers ks)
square_ring [] l e = absurd (omega arith)
square_ring (zero ∷ ks) l e = front_ring 0 ks (omega arith) (square_ring ks l.1 e)
square_ring (suc zero ∷ ks) l e = front_ring 1 ks (omega arith) (square_ring ks l.1 e)
square_ring (suc (suc zero) ∷ ks) l e = square ks l.1 (omega arith)
square_ring (suc (suc (suc k)) ∷ ks) l e = absurd (let h = l.0 in omega arith)

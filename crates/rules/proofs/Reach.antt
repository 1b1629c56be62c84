-- The root and all below it: `isBelow` is reachability through boundaries, since a boundary element has the rank below.
use Prim.Native.Nat.{ℕ, ◌<◌, suc, zero, suc-le-suc}
use mathlib.Core.Bool.{Bool, true, false≢true}
use mathlib.Core.List.{List, [], ◌∷◌}
use mathlib.Core.Path.{◌≡◌, subst, refl, sym, ◌∙◌}
use native.Mathlib.Nat.{zero-lt-suc, not-suc-le-zero, le_of_suc-le-suc, suc_inj, le_trans, le_of_lt}
use lib.Dec.{eqb}
use lib.ListN.{length, get_or}
use Rattle.rules.specs.Limits.{Limits}
use Rattle.rules.specs.Lists.{any, member}
use Rattle.rules.specs.Table.{Table, boundary, rank, element_count, element, Element, corner, boundary_of, polytope}
use Rattle.rules.specs.Sound.{sound}
use Rattle.rules.specs.Questions.{reaches, is_below}
use Rattle.rules.specs.Asking.{Reaches, itself, lower, border}
use Rattle.rules.proofs.Borders.{sound_bordered}
use Rattle.rules.proofs.Good.{above_zero, sound_good}
use Rattle.rules.proofs.Laws.{or_case, or_left, or_right, eq_test, test_eq, eqb_self}

pub some_at : (p : ℕ → Bool) (b : List ℕ) → any p b ≡ true → (n : ℕ) × (n < length b) × (p (get_or b n 0) ≡ true)
some_at p [] h = absurd (false≢true h)
some_at p (y ∷ ys) h =
    or_case (p y) (any p ys) h ((n : ℕ) × (n < length (y ∷ ys)) × (p (get_or (y ∷ ys) n 0) ≡ true)) (λ e. (0, pos_length, e))
    (λ k. let s = some_at p ys k in (suc s.0, up_one s.1, s.2))
  where
    pos_length : 0 < suc (length ys)
    pos_length = zero-lt-suc (length ys)

    up_one : {m n : ℕ} → m < n → suc m < suc n
    up_one h = suc-le-suc h

pub at_some : (p : ℕ → Bool) (b : List ℕ) (n : ℕ) → n < length b → p (get_or b n 0) ≡ true → any p b ≡ true
at_some p [] n l h = absurd (not-suc-le-zero l)
at_some p (y ∷ ys) zero l h = or_left (p y) (any p ys) h
at_some p (y ∷ ys) (suc n) l h = or_right (p y) (any p ys) (at_some p ys n (le_of_suc-le-suc l) h)

-- the same, by members
pub some_of_lem : (p : ℕ → Bool) (xs : List ℕ) → any p xs ≡ true → (z : ℕ) × (member z xs ≡ true) × (p z ≡ true)
some_of_lem p [] h = absurd (false≢true h)
some_of_lem p (x ∷ xs) h =
    or_case (p x) (any p xs) h ((z : ℕ) × (member z (x ∷ xs) ≡ true) × (p z ≡ true))
    (λ e. (x, or_left (eqb x x) (member x xs) (eqb_self x), e))
    (λ k. let s = some_of_lem p xs k in (s.0, or_right (eqb s.0 x) (member s.0 xs) s.1, s.2))

pub any_at : (p : ℕ → Bool) (xs : List ℕ) (z : ℕ) → member z xs ≡ true → p z ≡ true → any p xs ≡ true
any_at p [] z h k = absurd (false≢true h)
any_at p (x ∷ xs) z h k =
    or_case (eqb z x) (member z xs) h (any p (x ∷ xs) ≡ true)
    (λ e. or_left (p x) (any p xs) (subst (λ (y : ℕ). p y ≡ true) (eq_test z x e) k)) (λ m. or_right (p x) (any p xs) (any_at p xs z m k))

-- on any table, what is listed is reached
pub reached : (t : Table) (r e x : ℕ) → reaches t r e x ≡ true → Reaches t e x
unfolding reaches
reached t zero e x h = subst (λ (y : ℕ). Reaches t e y) (eq_test e x h) (itself e)
reached t (suc r) e x h =
    or_case (eqb e x) (any (λ b. reaches t r b x) (boundary t e)) h (Reaches t e x)
    (λ k. subst (λ (y : ℕ). Reaches t e y) (eq_test e x k) (itself e))
    (λ k. let s = some_at (λ b. reaches t r b x) (boundary t e) k in lower e s.0 x s.1 (reached t r (border t e s.0) x s.2))

-- on a sound table, what is reached is listed
module _ (L : Limits) (t : Table) (s : sound L t ≡ true) where
  top : (r e : ℕ) → reaches t r e e ≡ true
  unfolding reaches
  top zero e = test_eq e e refl
  top (suc r) e = or_left (eqb e e) _ (test_eq e e refl)

  pub no_boundary : (e n : ℕ) → rank t e ≡ 0 → e < element_count t → n < length (boundary t e) → ⊥
  no_boundary e n k u l = go (element t e) refl
    where
      go : (y : Element) → element t e ≡ y → ⊥
      go (corner v) q = not-suc-le-zero (subst (λ (z : Element). n < length (boundary_of z)) q l)
      go (polytope r b h m) q = above_zero L t e r b h m (sound_good L t s) u q k

  pub listed_too : {e x : ℕ} → Reaches t e x → (r : ℕ) → rank t e ≡ r → e < element_count t → reaches t r e x ≡ true
  unfolding reaches
  listed_too (itself e) r k u = top r e
  listed_too (lower e n x l h) zero k u = absurd (no_boundary e n k u l)
  listed_too (lower e n x l h) (suc r) k u =
      let b = sound_bordered L t s e u (subst (λ (j : ℕ). 0 < j) (sym k) (zero-lt-suc r)) in
      or_right (eqb e x) (any (λ y. reaches t r y x) (boundary t e))
      (at_some (λ y. reaches t r y x) (boundary t e) n l
      (listed_too h r (suc_inj (b.ranks n l ∙ k)) (le_trans (b.earlier n l) (le_of_lt u))))

  -- sub-elements are exactly what the root reaches
  pub is_below_lem : (e x : ℕ) → e < element_count t → (is_below t e x ≡ true → Reaches t e x) × (Reaches t e x → is_below t e x ≡ true)
  is_below_lem e x u = (reached t (rank t e) e x, λ h. listed_too h (rank t e) refl u)

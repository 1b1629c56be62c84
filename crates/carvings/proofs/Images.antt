-- A set of numbers renumbered, and an element renumbered: two sets with the same members are one list, so what is renumbered and put in order again is known by its members.
use Rattle.std.specs.Prelude.{if◌then◌else◌}
use Prim.Native.Nat.{ℕ, suc, ◌<◌}
use mathlib.Core.Bool.{Bool, true, false, ◌||◌, false≢true, true≢false}
use mathlib.Core.List.{List, [], ◌∷◌}
use mathlib.Core.Path.{◌≡◌, refl, ap, ap₂, sym, ◌∙◌, subst}
use native.Mathlib.Nat.{lt_irrefl}
use native.Mathlib.Omega.{arith}
use lib.Dec.{ltb, eqb}
use lib.ListN.{length}
use Rattle.rules.specs.Lists.{all, any, member, with_member, rises}
use Rattle.rules.specs.Table.{Element, corner, polytope, boundary_of}
use Rattle.carvings.specs.Renumbered.{image, renumbered}
use Rattle.rules.proofs.Extends.{Below}
use Rattle.rules.proofs.FaceEdges.{of_all}
use Rattle.rules.proofs.Laws.{and_left, and_right, eq_test, eqb_self, le_test, or_left, or_case, or_false, refute, both_ways}
use Rattle.rules.proofs.Ranked.{rises_with}
use Rattle.rules.proofs.Reach.{some_of_lem, any_at}

-- ---- tests

or_swap : (a b c : Bool) → (a || (b || c)) ≡ (b || (a || c))
or_swap true true c = refl
or_swap true false c = refl
or_swap false true c = refl
or_swap false false c = refl

or_again : (a c : Bool) → (a || c) ≡ (a || (a || c))
or_again true c = refl
or_again false c = refl

pub below_member : (n : ℕ) (xs : List ℕ) (z : ℕ) → Below n xs → member z xs ≡ true → z < n
below_member n [] z b h = absurd (false≢true h)
below_member n (x ∷ xs) z b h =
    or_case (eqb z x) (member z xs) h (z < n) (λ e. subst (λ (y : ℕ). y < n) (sym (eq_test z x e)) b.0) (λ m. below_member n xs z b.1 m)

-- ---- a set with a member more

pub any_with : (p : ℕ → Bool) (x : ℕ) (s : List ℕ) → any p (with_member x s) ≡ (p x || any p s)
any_with p x [] = refl
any_with p x (z ∷ zs) = go (ltb x z) (eqb x z) refl (any_with p x zs)
  where
    go : (b c : Bool) → eqb x z ≡ c → any p (with_member x zs) ≡ (p x || any p zs)
        → any p (if b then x ∷ z ∷ zs else if c then z ∷ zs else (z ∷ with_member x zs)) ≡ (p x || (p z || any p zs))
    go true c e r = refl
    go false true e r = or_again (p z) (any p zs) ∙ ap (λ (y : ℕ). p y || (p z || any p zs)) (sym (eq_test x z e))
    go false false e r = ap (λ (b : Bool). p z || b) r ∙ or_swap (p z) (p x) (any p zs)

pub length_with : (x : ℕ) (s : List ℕ) → member x s ≡ false → length (with_member x s) ≡ suc (length s)
length_with x [] h = refl
length_with x (z ∷ zs) h = go (ltb x z) (eqb x z) (or_false (eqb x z) (member x zs) h).0 (length_with x zs (or_false (eqb x z) (member x zs) h).1)
  where
    go : (b c : Bool) → c ≡ false → length (with_member x zs) ≡ suc (length zs)
        → length (if b then x ∷ z ∷ zs else if c then z ∷ zs else (z ∷ with_member x zs)) ≡ suc (suc (length zs))
    go true c e r = refl
    go false true e r = absurd (true≢false e)
    go false false e r = ap suc r

-- ---- two sets with the same members

pub lowest_first : (x : ℕ) (xs : List ℕ) (y : ℕ) → all (ltb x) xs ≡ true → member y xs ≡ true → x < y
lowest_first x xs y h m = le_test (suc x) y (of_all (ltb x) xs y h m)

not_after : (x : ℕ) (xs : List ℕ) → all (ltb x) xs ≡ true → member x xs ≡ false
not_after x xs h = refute (member x xs) (λ m. lt_irrefl x (lowest_first x xs x h m))

pub same_members : (s u : List ℕ) → rises s ≡ true → rises u ≡ true → ((y : ℕ) → member y s ≡ member y u) → s ≡ u
same_members [] [] h k e = refl
same_members [] (u ∷ us) h k e = absurd (false≢true (e u ∙ or_left (eqb u u) (member u us) (eqb_self u)))
same_members (x ∷ xs) [] h k e = absurd (false≢true (sym (e x) ∙ or_left (eqb x x) (member x xs) (eqb_self x)))
same_members (x ∷ xs) (u ∷ us) h k e = ap₂ (λ (z : ℕ) (zs : List ℕ). z ∷ zs) first (same_members xs us hx' ku' tails)
  where
    hx : all (ltb x) xs ≡ true
    hx = and_left (all (ltb x) xs) (rises xs) h

    hx' : rises xs ≡ true
    hx' = and_right (all (ltb x) xs) (rises xs) h

    ku : all (ltb u) us ≡ true
    ku = and_left (all (ltb u) us) (rises us) k

    ku' : rises us ≡ true
    ku' = and_right (all (ltb u) us) (rises us) k

    first : x ≡ u
    first =
        or_case (eqb x u) (member x us) (sym (e x) ∙ or_left (eqb x x) (member x xs) (eqb_self x)) (x ≡ u) (eq_test x u) (λ m.
        or_case (eqb u x) (member u xs) (e u ∙ or_left (eqb u u) (member u us) (eqb_self u)) (x ≡ u) (λ q. sym (eq_test u x q)) (λ n.
        let p = lowest_first u us x ku m in
        let q = lowest_first x xs u hx n in
        absurd (let z : ⊥ = omega (arith, p, q) in z)))

    tails : (y : ℕ) → member y xs ≡ member y us
    tails y = go (eqb y x) refl (e y ∙ ap (λ (z : ℕ). eqb y z || member y us) (sym first))
      where
        go : (b : Bool) → eqb y x ≡ b → (b || member y xs) ≡ (b || member y us) → member y xs ≡ member y us
        go true q r =
            let yx = eq_test y x q in
            subst (λ (z : ℕ). member z xs ≡ false) (sym yx) (not_after x xs hx)
            ∙ sym (subst (λ (z : ℕ). member z us ≡ false) (sym (yx ∙ first)) (not_after u us ku))
        go false q r = r

-- ---- a set renumbered

pub any_image : (f : ℕ → ℕ) (p : ℕ → Bool) (s : List ℕ) → any p (image f s) ≡ any (λ x. p (f x)) s
any_image f p [] = refl
any_image f p (x ∷ xs) = any_with p (f x) (image f xs) ∙ ap (λ (b : Bool). p (f x) || b) (any_image f p xs)

pub rises_image : (f : ℕ → ℕ) (s : List ℕ) → rises (image f s) ≡ true
rises_image f [] = refl
rises_image f (x ∷ xs) = rises_with (f x) (image f xs) (rises_image f xs)

pub image_with : (f : ℕ → ℕ) (x : ℕ) (s : List ℕ) → image f (with_member x s) ≡ with_member (f x) (image f s)
image_with f x s =
    same_members (image f (with_member x s)) (with_member (f x) (image f s)) (rises_image f (with_member x s)) (rises_with (f x) (image f s) (rises_image f s)) (λ y.
    any_image f (eqb y) (with_member x s) ∙ any_with (λ z. eqb y (f z)) x s ∙ ap (λ (b : Bool). eqb y (f x) || b) (sym (any_image f (eqb y) s)) ∙ sym (any_with (eqb y) (f x) (image f s)))

pub image_image : (f g : ℕ → ℕ) (s : List ℕ) → image g (image f s) ≡ image (λ x. g (f x)) s
image_image f g s =
    same_members (image g (image f s)) (image (λ x. g (f x)) s) (rises_image g (image f s)) (rises_image (λ x. g (f x)) s) (λ y.
    any_image g (eqb y) (image f s) ∙ any_image f (λ z. eqb y (g z)) s ∙ sym (any_image (λ x. g (f x)) (eqb y) s))

pub image_agree : (f f' : ℕ → ℕ) (n : ℕ) → ((e : ℕ) → e < n → f' e ≡ f e) → (s : List ℕ) → Below n s → image f' s ≡ image f s
image_agree f f' n h [] b = refl
image_agree f f' n h (x ∷ xs) b = ap₂ with_member (h x b.0) (image_agree f f' n h xs b.1)

pub image_same : (s : List ℕ) → rises s ≡ true → image (λ x. x) s ≡ s
image_same s h = same_members (image (λ x. x) s) s (rises_image (λ x. x) s) h (λ y. any_image (λ x. x) (eqb y) s)

pub image_fixed : (f : ℕ → ℕ) (n : ℕ) → ((e : ℕ) → e < n → f e ≡ e) → (s : List ℕ) → Below n s → rises s ≡ true → image f s ≡ s
image_fixed f n h s b r = image_agree (λ x. x) f n h s b ∙ image_same s r

module _ (f : ℕ → ℕ) (n : ℕ) (once : (e e' : ℕ) → e < n → e' < n → f e ≡ f e' → e ≡ e') where
  -- no later member of a set goes where the first goes
  pub image_new : (x : ℕ) (xs : List ℕ) → rises (x ∷ xs) ≡ true → Below n (x ∷ xs) → member (f x) (image f xs) ≡ false
  image_new x xs r b =
      refute (member (f x) (image f xs)) (λ m.
      let w = some_of_lem (λ z. eqb (f x) (f z)) xs (sym (any_image f (eqb (f x)) xs) ∙ m) in
      let q = once x w.0 b.0 (below_member n xs w.0 b.1 w.1) (eq_test (f x) (f w.0) w.2) in
      lt_irrefl x (subst (λ (z : ℕ). x < z) (sym q) (lowest_first x xs w.0 (and_left (all (ltb x) xs) (rises xs) r) w.1)))

  pub image_length : (s : List ℕ) → rises s ≡ true → Below n s → length (image f s) ≡ length s
  image_length [] r b = refl
  image_length (x ∷ xs) r b = length_with (f x) (image f xs) (image_new x xs r b) ∙ ap suc (image_length xs (and_right (all (ltb x) xs) (rises xs) r) b.1)

  into : (s u : List ℕ) → Below n s → Below n u → image f s ≡ image f u → (y : ℕ) → member y s ≡ true → member y u ≡ true
  into s u bs bu e y m =
      let w = some_of_lem (λ z. eqb (f y) (f z)) u
      (sym (any_image f (eqb (f y)) u) ∙ ap (λ (l : List ℕ). member (f y) l) (sym e) ∙ any_image f (eqb (f y)) s ∙ any_at (λ z. eqb (f y) (f z)) s y m (eqb_self (f y))) in
      subst (λ (z : ℕ). member z u ≡ true) (sym (once y w.0 (below_member n s y bs m) (below_member n u w.0 bu w.1) (eq_test (f y) (f w.0) w.2))) w.1

  pub image_once : (s u : List ℕ) → rises s ≡ true → rises u ≡ true → Below n s → Below n u → image f s ≡ image f u → s ≡ u
  image_once s u rs ru bs bu e = same_members s u rs ru (λ y. both_ways (member y s) (member y u) (into s u bs bu e y) (into u s bu bs (sym e) y))

-- ---- an element renumbered

pub renumbered_agree : (f f' : ℕ → ℕ) (n : ℕ) → ((e : ℕ) → e < n → f' e ≡ f e) → (y : Element) → Below n (boundary_of y) → renumbered f' y ≡ renumbered f y
renumbered_agree f f' n h (corner v) b = refl
renumbered_agree f f' n h (polytope r s k m) b = ap (λ (l : List ℕ). polytope r l k m) (image_agree f f' n h s b)

pub renumbered_once : (f : ℕ → ℕ) (n : ℕ) → ((e e' : ℕ) → e < n → e' < n → f e ≡ f e' → e ≡ e') → (y z : Element) → rises (boundary_of y) ≡ true → rises (boundary_of z) ≡ true
    → Below n (boundary_of y) → Below n (boundary_of z) → renumbered f y ≡ renumbered f z → y ≡ z
renumbered_once f n once (corner v) (corner w) ry rz by bz e = e
renumbered_once f n once (corner v) (polytope q c j o) ry rz by bz e = absurd (let z : ◌≡◌ {A = ℕ} 0 1 = cc in let w : ⊥ = omega arith in w)
renumbered_once f n once (polytope r b h m) (corner w) ry rz by bz e = absurd (let z : ◌≡◌ {A = ℕ} 0 1 = cc in let w : ⊥ = omega arith in w)
renumbered_once f n once (polytope r b h m) (polytope q c j o) ry rz by bz e =
    let i : image f b ≡ image f c = cc in let s : b ≡ c = image_once f n once b c ry rz by bz i in cc

pub renumbered_same : (y : Element) → rises (boundary_of y) ≡ true → renumbered (λ x. x) y ≡ y
renumbered_same (corner v) h = refl
renumbered_same (polytope r b k m) h = ap (λ (l : List ℕ). polytope r l k m) (image_same b h)

pub renumbered_twice : (f g : ℕ → ℕ) (y : Element) → renumbered g (renumbered f y) ≡ renumbered (λ x. g (f x)) y
renumbered_twice f g (corner v) = refl
renumbered_twice f g (polytope r b k m) = ap (λ (l : List ℕ). polytope r l k m) (image_image f g b)

pub boundary_renumbered : (f : ℕ → ℕ) (y : Element) → boundary_of (renumbered f y) ≡ image f (boundary_of y)
boundary_renumbered f (corner v) = refl
boundary_renumbered f (polytope r b h m) = refl

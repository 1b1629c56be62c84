-- Two tables that stand in each other are one up to a renumbering, since no two elements of a sound table are equal.
-- That needs no care for the order in which the elements came.
use Prim.Native.Nat.{ℕ, suc, zero, ◌<◌, ◌≤◌, ◌+◌, zero-le}
use mathlib.Core.Bool.{Bool, true, false}
use mathlib.Core.List.{List, [], ◌∷◌}
use mathlib.Core.Path.{◌≡◌, refl, ap, sym, ◌∙◌}
use native.Mathlib.Nat.{le_refl, le_trans, le_of_lt, not-suc-le-zero, le_of_suc-le-suc}
use native.Mathlib.Omega.{arith}
use lib.Dec.{ltb}
use lib.ListN.{length}
use Rattle.rules.specs.Lists.{rises, all, up_from}
use Rattle.rules.specs.Table.{Table, element, element_count}
use Rattle.carvings.specs.Renumbered.{image, renumbered, Renumbering}
use Rattle.rules.proofs.Apart.{Apart}
use Rattle.rules.proofs.Counting.{length_up}
use Rattle.rules.proofs.Extends.{Below, below_with, count_more}
use Rattle.carvings.proofs.Images.{image_length, rises_image, renumbered_agree, renumbered_same, renumbered_twice}
use Rattle.rules.proofs.Laws.{le_test, not_le, and_left, and_right}
use Rattle.rules.proofs.VertexSet.{up_rises}
use Rattle.carvings.proofs.Embeds.{Embeds}

-- each element comes back to itself: by induction, its boundary does, and no two elements are equal
pub comes_back : (T t u : Table) (f g : ℕ → ℕ) → Apart t → Embeds T u t f → Embeds T t u g → (k e : ℕ) → e < k → e < element_count t → g (f e) ≡ e
comes_back T t u f g a hf hg zero e l le = absurd (not-suc-le-zero l)
comes_back T t u f g a hf hg (suc k) e l le =
    a (g (f e)) e (hg.used (f e) (hf.used e le)) le
    (hg.content (f e) (hf.used e le) ∙ ap (renumbered g) (hf.content e le) ∙ renumbered_twice f g (element t e)
    ∙ renumbered_agree (λ x. x) (λ x. g (f x)) e (λ x lx. comes_back T t u f g a hf hg k x (le_trans lx (le_of_suc-le-suc l)) (le_trans lx (le_of_lt le))) (element t e) (hf.under e le)
    ∙ renumbered_same (element t e) (hf.rising e le))

-- ---- numbers below a count

up_below : (k n m : ℕ) → k + n ≤ m → Below m (up_from k n)
up_below k zero m l = tt
up_below k (suc n) m l = (omega arith, up_below (suc k) n m (omega arith))

rising_fits : (m x : ℕ) (xs : List ℕ) → all (ltb x) xs ≡ true → rises xs ≡ true → Below m xs → x < m → x + suc (length xs) ≤ m
rising_fits m x [] h r b l = omega arith
rising_fits m x (y ∷ ys) h r b l =
    let p = le_test (suc x) y (and_left (ltb x y) (all (ltb x) ys) h) in
    let q = rising_fits m y ys (and_left (all (ltb y) ys) (rises ys) r) (and_right (all (ltb y) ys) (rises ys) r) b.1 b.0 in
    omega (arith, p, q)

set_fits : (m : ℕ) (xs : List ℕ) → rises xs ≡ true → Below m xs → length xs ≤ m
set_fits m [] r b = zero-le
set_fits m (x ∷ xs) r b = let q = rising_fits m x xs (and_left (all (ltb x) xs) (rises xs) r) (and_right (all (ltb x) xs) (rises xs) r) b.1 b.0 in omega (arith, q)

image_below : (f : ℕ → ℕ) (n m : ℕ) → ((e : ℕ) → e < n → f e < m) → (s : List ℕ) → Below n s → Below m (image f s)
image_below f n m h [] b = tt
image_below f n m h (x ∷ xs) b = below_with m (f x) (image f xs) (h x b.0) (image_below f n m h xs b.1)

-- what goes one to one into m numbers is no more than m
pub no_more : (f : ℕ → ℕ) (n m : ℕ) → ((e : ℕ) → e < n → f e < m) → ((e e' : ℕ) → e < n → e' < n → f e ≡ f e' → e ≡ e') → n ≤ m
no_more f n m h once =
    let s = up_from 0 n in
    let b : Below n s = up_below 0 n n (omega arith) in
    let q = image_length f n once s (up_rises 0 n) b in
    let z = length_up 0 n in
    let w = set_fits m (image f s) (rises_image f s) (image_below f n m h s b) in
    omega (arith, q, z, w)

-- ---- the renumbering

module _ (T t u : Table) (f g : ℕ → ℕ) (at : Apart t) (au : Apart u) (hf : Embeds T u t f) (hg : Embeds T t u g) where
  pub renumbering : u.points ≡ t.points → u.planes ≡ t.planes → Renumbering (element_count T) t u f
  renumbering p q = record {
    dimension = hg.grown.dimension ∙ sym hf.grown.dimension;
    points = p;
    planes = q;
    count = let x = no_more f (element_count t) (element_count u) hf.used hf.once in let y = no_more g (element_count u) (element_count t) hg.used hg.once in omega (arith, x, y);
    old_stays = hf.old;
    appended = λ e l k. appended e l k (ltb (f e) (element_count T)) refl;
    in_use = hf.used;
    once = hf.once;
    onto = λ x l. (g x, hg.used x l, comes_back T u t g f au hg hf (suc x) x (le_refl (suc x)) l);
    elements = hf.content;
  }
    where
      appended : (e : ℕ) → element_count T ≤ e → e < element_count t → (b : Bool) → ltb (f e) (element_count T) ≡ b → element_count T ≤ f e
      appended e l k true z =
          let v = le_test (suc (f e)) (element_count T) z in
          let w = hf.once (f e) e (le_trans v (count_more hf.grown)) k (hf.old (f e) v) in
          omega (arith, v, w, l)
      appended e l k false z = le_of_suc-le-suc (not_le (suc (f e)) (element_count T) z)

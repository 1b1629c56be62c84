-- Loops over lists: what is left to go over, with what has been, makes up the whole. Laws over plain lists.
use Rattle.std.proofs.Common.{◌≡◌, ℕ, suc, ◌+◌, ◌*◌, ◌^◌, ◌<◌, ◌≤◌, List, [], ◌∷◌, ◌++◌, map, length, get_or, take, drop, set, ℤ, ◌+ℤ◌, nat_abs, sym, ap, ◌∙◌, ap₂, le_trans}
use Rattle.std.proofs.Common.{le_of_eq, add-zero, add_assoc, zero-add, add-one, arith, drop_of_length-le, length-take-le, drop-cons, get_or-take}
use lib.IntN.{+ℤ_assoc, +ℤ_idr}
use lib.Ieee.{Float}
use lib.Seq.{sets}
use Rattle.rules.specs.Areas.{units, sizes}
use Rattle.rules.proofs.AreaSizes.{units_few, turn_few}
use Rattle.areas.specs.Words.{first_of, second_of, corner_turn, turns_along, StepFits}

-- ---- the front of a list

pub in_front : (n : ℕ) (xs : List ℕ) (i x : ℕ) → i < n → x ≡ get_or xs i 0 → x ≡ get_or (take n xs) i 0
in_front n xs i x h e = e ∙ sym (get_or-take n xs i 0 h)

pub front_long : (n : ℕ) (xs : List ℕ) (i : ℕ) → n ≤ length xs → i < n → i < length (take n xs)
front_long n xs i h l = le_trans l (le_of_eq (sym (length-take-le n xs h)))

pub front_end : (n : ℕ) (xs : List ℕ) (i : ℕ) → n ≤ length xs → n ≤ i → length (take n xs) ≤ i
front_end n xs i h l = le_trans (le_of_eq (length-take-le n xs h)) l

-- ---- the turns of a walk

module _ (ps : List Float) (xs : List ℕ) where
  pub turns_go : (o s s' : ℤ) (k a b : ℕ) → 2 * k + 1 < length xs → a ≡ get_or xs (2 * k) 0 → b ≡ get_or xs (2 * k + 1) 0 → s' ≡ s +ℤ corner_turn ps a b
      → o ≡ s +ℤ turns_along ps (drop (2 * k) xs) → o ≡ s' +ℤ turns_along ps (drop (2 * (k + 1)) xs)
  unfolding turns_along
  turns_go o s s' k a b h fa fb q w =
      w
      ∙ ap (λ (l : List ℕ). s +ℤ turns_along ps l)
      (drop-cons xs (2 * k) 0 (let z : 2 * k < length xs = omega (arith, h) in z)
      ∙ ap (λ (l : List ℕ). get_or xs (2 * k) 0 ∷ l) (ap (λ (j : ℕ). drop j xs) (sym (add-one (2 * k))) ∙ drop-cons xs (2 * k + 1) 0 h
      ∙ ap (λ (j : ℕ). get_or xs (2 * k + 1) 0 ∷ drop j xs) (let z : suc (2 * k + 1) ≡ 2 * (k + 1) = omega arith in z)))
      ∙ ap₂ (λ (x y : ℕ). s +ℤ (corner_turn ps x y +ℤ turns_along ps (drop (2 * (k + 1)) xs))) (sym fa) (sym fb)
      ∙ sym (+ℤ_assoc s (corner_turn ps a b) (turns_along ps (drop (2 * (k + 1)) xs)))
      ∙ ap (λ (z : ℤ). z +ℤ turns_along ps (drop (2 * (k + 1)) xs)) (sym q)

  pub turns_end : (o s : ℤ) (k : ℕ) → length xs ≤ 2 * k → o ≡ s +ℤ turns_along ps (drop (2 * k) xs) → s ≡ o
  unfolding turns_along
  turns_end o s k h w = sym (w ∙ ap (λ (l : List ℕ). s +ℤ turns_along ps l) (drop_of_length-le xs h) ∙ +ℤ_idr s)

pub corner_turn_few : (ps : List Float) (a b : ℕ) → StepFits ps a b → nat_abs (corner_turn ps a b) ≤ 2 ^ 53
corner_turn_few ps a b S =
    turn_few (units (first_of ps a)) (units (second_of ps a)) (units (first_of ps b)) (units (second_of ps b)) (units_few _ S.from.first) (units_few _ S.from.second) (units_few _ S.to.first) (units_few _ S.to.second)

-- ---- a sheet

module _ (g : ℕ → ℤ) (fs : List ℕ) (i x : ℕ) (f : x ≡ get_or fs i 0) (h : i < length fs) where
  left_on : map g (drop i fs) ≡ g x ∷ map g (drop (i + 1) fs)
  left_on = ap (map g) (drop-cons fs i 0 h) ∙ ap₂ (λ (y k : ℕ). g y ∷ map g (drop k fs)) (sym f) (sym (add-one i))

  pub write_go : (o l : List ℤ) (v : ℤ) → v ≡ g x → o ≡ sets l i (map g (drop i fs)) → o ≡ sets (set l i v) (i + 1) (map g (drop (i + 1) fs))
  write_go o l v e w =
      w ∙ ap (sets l i) left_on ∙ ap₂ (λ (y : ℤ) (k : ℕ). sets (set l i y) k (map g (drop (i + 1) fs))) (sym e) (sym (add-one i))

  pub total_go : (n a : ℕ) → n ≡ a + sizes (map g (drop i fs)) → n ≡ a + nat_abs (g x) + sizes (map g (drop (i + 1) fs))
  total_go n a w = w ∙ ap (λ (l : List ℤ). a + sizes l) left_on ∙ sym (add_assoc a (nat_abs (g x)) (sizes (map g (drop (i + 1) fs))))

module _ (g : ℕ → ℤ) (fs : List ℕ) (i : ℕ) (h : length fs ≤ i) where
  none_left : map g (drop i fs) ≡ []
  none_left = ap (map g) (drop_of_length-le fs h)

  pub write_end : (o l : List ℤ) → o ≡ sets l i (map g (drop i fs)) → l ≡ o
  write_end o l w = sym (w ∙ ap (sets l i) none_left)

  pub total_end : (n a : ℕ) → n ≡ a + sizes (map g (drop i fs)) → a ≡ n
  total_end n a w = sym (w ∙ ap (λ (l : List ℤ). a + sizes l) none_left ∙ add-zero a)

-- what is written behind what was written
sets_after : (l : List ℤ) (i : ℕ) (ys zs : List ℤ) → sets l i (ys ++ zs) ≡ sets (sets l i ys) (i + length ys) zs
sets_after l i [] zs = ap (λ (k : ℕ). sets l k zs) (sym (add-zero i))
sets_after l i (y ∷ ys) zs = sets_after (set l i y) (suc i) ys zs ∙ ap (λ (k : ℕ). sets (sets (set l i y) (suc i) ys) k zs) (let z : suc i + length ys ≡ i + suc (length ys) = omega arith in z)

-- two numbers more, behind n
pub sheet_end : (room written ys : List ℤ) (n : ℕ) (c s a b : ℤ) → written ≡ sets room 0 ys → length ys ≡ n → c ≡ a → s ≡ b
    → set (set written n c) (n + 1) s ≡ sets room 0 (ys ++ a ∷ b ∷ [])
sheet_end room written ys n c s a b w l ec es =
    (λ i. set (set (w i) n (ec i)) (add-one n i) (es i)) ∙ ap (λ (k : ℕ). set (set (sets room 0 ys) k a) (suc k) b) (sym (zero-add (length ys) ∙ l)) ∙ sym (sets_after room 0 ys (a ∷ b ∷ []))

-- No element has a rank above the dimension, so every rank from 5 on has the same list, the empty one: 255 and all that no byte holds.
use Rattle.std.specs.Prelude.{if◌then◌else◌}
use Prim.Native.Nat.{ℕ, zero, suc, ◌≤◌, ◌<◌, zero-le}
use mathlib.Core.Bool.{Bool, true, false, not, cond}
use mathlib.Core.List.{List, [], ◌∷◌}
use mathlib.Core.Path.{◌≡◌, refl, sym, ap, ◌∙◌}
use native.Mathlib.Omega.{arith}
use lib.Dec.{leb, ltb, eqb, lit≤}
use lib.ListN.{get_or}
use Rattle.rules.specs.Limits.{desk}
use Rattle.rules.specs.Lists.{all, keep, all_from}
use Rattle.rules.specs.Table.{Table, Element, corner, polytope, rank_of, rank, element_count}
use Rattle.rules.specs.Sound.{sound_element}
use Rattle.rules.specs.Memory.{Memory, decode, sound_memory}
use Rattle.rules.specs.Questions.{Asked, no_answer, answer, sub_elements, with_rank}
use Rattle.rules.specs.Replies.{listed, with_rank_reply}
use Rattle.rules.proofs.Good.{Good, sound_good, whole}
use Rattle.rules.proofs.Laws.{le_test, test_le, test_above, not_le, not_eq, and_left, and_right}
use Rattle.rules.proofs.OneCall.{sound_table}
use Rattle.desk.specs.Words.{rank_byte}
use Rattle.rules.specs.Refusals.{Reply}
use Rattle.rules.specs.declared.Refusal.TheVariants.{NotInUse, NotSound}

-- ---- the byte

pub byte_low : (k : ℕ) → k ≤ 255 → k ≡ rank_byte k
byte_low k l = sym (ap (λ (b : Bool). cond b k 255) (test_le k 255 l))

pub byte_high : (k : ℕ) → 255 < k → 255 ≡ rank_byte k
byte_high k l = sym (ap (λ (b : Bool). cond b k 255) (test_above k 255 l))

-- ---- the list

none_kept : (p : ℕ → Bool) (xs : List ℕ) → ((x : ℕ) → p x ≡ false) → keep p xs ≡ []
none_kept p [] h = refl
none_kept p (x ∷ xs) h = ap (λ (b : Bool). if b then x ∷ keep p xs else keep p xs) (h x) ∙ none_kept p xs h

module _ (t : Table) where
  element_low : (n : ℕ) (y : Element) → sound_element t n y ≡ true → rank_of y ≤ t.dimension
  element_low n (corner v) k = zero-le
  element_low n (polytope r b h m) k = le_test r t.dimension (whole t n r b h m k).low_rank

  elements_low : (n : ℕ) (ys : List Element) (x : ℕ) → all_from n (sound_element t) ys ≡ true → rank_of (get_or ys x (corner 0)) ≤ t.dimension
  elements_low n [] x k = zero-le
  elements_low n (y ∷ ys) zero k = element_low n y (and_left (sound_element t n y) (all_from (suc n) (sound_element t) ys) k)
  elements_low n (y ∷ ys) (suc x) k = elements_low (suc n) ys x (and_right (sound_element t n y) (all_from (suc n) (sound_element t) ys) k)

  nobody : (k e : ℕ) → Good desk t → 4 < k → with_rank t k e ≡ []
  unfolding with_rank
  nobody k e g l = none_kept (λ x. eqb (rank t x) k) (sub_elements t e) (λ x. not_eq (rank t x) k (λ q.
      let a : rank t x ≤ t.dimension = elements_low 0 t.elements x g.elements in
      let b = le_test t.dimension 4 g.high in
      let z : ⊥ = omega (arith, a, b, l, q) in z))

module _ (m : Memory) (k e : ℕ) (room : List ℕ) where
  abbrev t : Table
  t = decode desk m

  byte_alike : with_rank_reply desk m (rank_byte k) e room ≡ with_rank_reply desk m k e room
  unfolding with_rank_reply
  byte_alike = go (leb k 255) refl
    where
      lists : (s u : Bool) → (s ≡ true → with_rank t 255 e ≡ with_rank t k e)
          → (if not s then no_answer NotSound else if not u then no_answer NotInUse else answer (with_rank t 255 e)) ≡ (if not s then no_answer NotSound else if not u then no_answer NotInUse else answer (with_rank t k e))
      lists false u h = refl
      lists true u h = ap (λ (xs : List ℕ). if not u then no_answer NotInUse else answer xs) (h refl)

      go : (b : Bool) → leb k 255 ≡ b → with_rank_reply desk m (cond b k 255) e room ≡ with_rank_reply desk m k e room
      go true q = refl
      go false q =
          ap (λ (q : Asked (List ℕ)). listed q room) (lists (sound_memory desk m) (all (λ e. ltb e (element_count t)) (e ∷ [])) (λ s.
          let g = sound_good desk t (sound_table desk m s) in
          let l = not_le k 255 q in
          nobody t 255 e g (lit≤ tt) ∙ sym (nobody t k e g (let z : 4 < k = omega (arith, l) in z))))

  pub byte_asked : {w : Reply ℕ × List ℕ} (b : ℕ) → b ≡ rank_byte k → w ≡ with_rank_reply desk m b e room → w ≡ with_rank_reply desk m k e room
  byte_asked b q h = h ∙ ap (λ (n : ℕ). with_rank_reply desk m n e room) q ∙ byte_alike

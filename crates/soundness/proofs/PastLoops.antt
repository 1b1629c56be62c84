-- The mask, and the loop over all the room of a boundary, in which it leaves out the first n words: the words past them join
-- what was seen before, place by place, so nothing is seen afterwards exactly when nothing was before and nothing stands there.
use Prim.Native.Nat.{ℕ, suc, ◌+◌, ◌-◌, ◌≤◌, ◌<◌}
use mathlib.Core.Path.{◌≡◌, refl, sym, ap, ap₂, ◌∙◌}
use mathlib.Core.Bool.{Bool, true, false, cond, ◌&&◌}
use mathlib.Core.List.{List, [], ◌∷◌}
use native.Mathlib.Nat.{not-suc-le-zero, zero-lt-suc}
use native.Mathlib.Omega.{arith}
use lib.Bits.{bit_or}
use lib.Dec.{eqb, ltb, lit≤}
use lib.ListN.{length, get_or, take, drop, set, replicate, get_or-replicate, length-set, length-drop}
use lib.Seq.{get_or-set_same, get_or-set_other, get_or-take, get_or-drop, length-take-le}
use borrow.Author.Tests.{lt-ltb, le-ltb, ltb-true, ltb-false}
use Rattle.rules.proofs.Growing.{all_get}
use Rattle.rules.proofs.Laws.{eq_test, test_eq, unlike_eq, and_left, and_right, both_ways}
use Rattle.space.proofs.NoBits.{no_bits}
use Rattle.soundness.specs.Words.{blank_words}
use Rattle.soundness.specs.Tests.{Kept}

-- ---- the mask, made up to entry k

abbrev pub MaskTo : ℕ → List ℕ → Type 0
MaskTo k l = (j : ℕ) → j < k → get_or l j 0 ≡ cond (ltb j 32) 0 65535

pub mask_start : MaskTo 32 (replicate 64 0)
mask_start j h = get_or-replicate 64 j 0 0 (let q : j < 64 = omega (arith, h) in q) ∙ sym (ap (λ (b : Bool). cond b 0 65535) (lt-ltb j 32 h))

pub mask_go : (k : ℕ) (l : List ℕ) → 32 ≤ k → k < length l → MaskTo k l → MaskTo (k + 1) (set l k 65535)
mask_go k l low fit m j h = go (ltb j k) refl
  where
    go : (b : Bool) → ltb j k ≡ b → get_or (set l k 65535) j 0 ≡ cond (ltb j 32) 0 65535
    go true t = let u = ltb-true j k t in get_or-set_other l k j 65535 0 (λ e. let z : ⊥ = omega (arith, u, e) in z) ∙ m j u
    go false t =
        let u = ltb-false j k t in
        let s : j ≡ k = omega (arith, u, h) in
        ap (λ (i : ℕ). get_or (set l k 65535) i 0) s ∙ get_or-set_same l k 65535 0 fit
        ∙ sym (ap (λ (b : Bool). cond b 0 65535) (le-ltb j 32 (let q : 32 ≤ j = omega (arith, u, low) in q)))

-- what an entry of the mask keeps of a word
pub kept_is : (m w x k : ℕ) → m ≡ cond (ltb k 32) 0 65535 → Kept w m x → x ≡ cond (ltb k 32) 0 w
kept_is m w x k e h = go (ltb k 32) e
  where
    go : (b : Bool) → m ≡ cond b 0 65535 → x ≡ cond b 0 w
    go true e = h.nothing e
    go false e = h.whole e

-- ---- the room of a boundary

-- the word at place j of it, where it stands past the first n
abbrev pub past_word : List ℕ → ℕ → ℕ → ℕ → ℕ
past_word es at n j = cond (ltb (32 - n + j) 32) 0 (get_or es (at + 4 + j) 0)

-- up to place j such words have joined what was seen before
pub record Joining (es : List ℕ) (at n : ℕ) (seen₀ seen : List ℕ) (j : ℕ) : Type 0 where
  pub within : j ≤ 32
  pub long : length seen ≡ 32
  pub done : (k : ℕ) → k < j → get_or seen k 0 ≡ bit_or (get_or seen₀ k 0) (past_word es at n k)
  pub still : (k : ℕ) → j ≤ k → get_or seen k 0 ≡ get_or seen₀ k 0

blank_at : (l : List ℕ) (k : ℕ) → blank_words l ≡ true → k < length l → get_or l k 0 ≡ 0
blank_at l k h i = sym (eq_test 0 (get_or l k 0) (all_get (eqb 0) l k 0 i h))

at_blank : (l : List ℕ) → ((k : ℕ) → k < length l → get_or l k 0 ≡ 0) → blank_words l ≡ true
at_blank [] h = refl
at_blank (x ∷ xs) h = ap₂ (λ (a b : Bool). a && b) (test_eq 0 x (sym (h 0 (zero-lt-suc (length xs))))) (at_blank xs (λ k l. h (suc k) (let z : suc k < suc (length xs) = omega (arith, l) in z)))

module _ (es : List ℕ) (at n : ℕ) (seen₀ : List ℕ) where
  pub joining_start : length seen₀ ≡ 32 → Joining es at n seen₀ seen₀ 0
  joining_start l = record { within = lit≤ tt; long = l; done = λ k h. absurd (not-suc-le-zero h); still = λ k h. refl }

  pub joining_go : (seen : List ℕ) (j x : ℕ) → Joining es at n seen₀ seen j → j < 32 → x ≡ past_word es at n j → Joining es at n seen₀ (set seen j (bit_or (get_or seen j 0) x)) (j + 1)
  joining_go seen j x J h e = record {
    within = let z : j + 1 ≤ 32 = omega (arith, h) in z;
    long = length-set seen j (bit_or (get_or seen j 0) x) ∙ J.long;
    done = λ k l. go k l (eqb k j) refl;
    still = λ k l. get_or-set_other seen j k (bit_or (get_or seen j 0) x) 0 (λ q. let z : ⊥ = omega (arith, q, l) in z) ∙ J.still k (let z : j ≤ k = omega (arith, l) in z);
  }
    where
      fits : j < length seen
      fits = let m = J.long in let z : j < length seen = omega (arith, m, h) in z

      go : (k : ℕ) → k < j + 1 → (b : Bool) → eqb k j ≡ b → get_or (set seen j (bit_or (get_or seen j 0) x)) k 0 ≡ bit_or (get_or seen₀ k 0) (past_word es at n k)
      go k l true t =
          let q = eq_test k j t in
          ap (λ (i : ℕ). get_or (set seen j (bit_or (get_or seen j 0) x)) i 0) q ∙ get_or-set_same seen j (bit_or (get_or seen j 0) x) 0 fits
          ∙ ap₂ bit_or (J.still j (let z : j ≤ j = omega arith in z)) e ∙ ap (λ (i : ℕ). bit_or (get_or seen₀ i 0) (past_word es at n i)) (sym q)
      go k l false t =
          let q = unlike_eq k j t in
          get_or-set_other seen j k (bit_or (get_or seen j 0) x) 0 q ∙ J.done k (let z : k < j = omega (arith, q, l) in z)

  module _ (few : n ≤ 32) (fit : at + 36 ≤ length es) (l₀ : length seen₀ ≡ 32) where
    abbrev rest : List ℕ
    rest = drop (at + 4 + n) (take (at + 36) es)

    rest_long : length rest ≡ 32 - n
    rest_long =
        let m = length-take-le (at + 36) es fit in
        let k = length-drop (at + 4 + n) (take (at + 36) es) in
        let z : length rest ≡ 32 - n = omega (arith, m, k, few) in z

    rest_at : (k : ℕ) → k < 32 - n → get_or rest k 0 ≡ get_or es (at + 4 + (n + k)) 0
    rest_at k h =
        get_or-drop (at + 4 + n) (take (at + 36) es) k 0
        ∙ ap (λ (i : ℕ). get_or (take (at + 36) es) i 0) (let z : at + 4 + n + k ≡ at + 4 + (n + k) = omega arith in z)
        ∙ get_or-take (at + 36) es (at + 4 + (n + k)) 0 (let z : at + 4 + (n + k) < at + 36 = omega (arith, h, few) in z)

    -- before place n nothing counts, and from there on the word itself
    before : (k : ℕ) → k < n → past_word es at n k ≡ 0
    before k h = ap (λ (b : Bool). cond b 0 (get_or es (at + 4 + k) 0)) (lt-ltb (32 - n + k) 32 (let z : 32 - n + k < 32 = omega (arith, h, few) in z))

    after : (k : ℕ) → n ≤ k → past_word es at n k ≡ get_or es (at + 4 + k) 0
    after k h = ap (λ (b : Bool). cond b 0 (get_or es (at + 4 + k) 0)) (le-ltb (32 - n + k) 32 (let z : 32 ≤ 32 - n + k = omega (arith, h, few) in z))

    pub joining_end : (seen : List ℕ) (j : ℕ) → Joining es at n seen₀ seen j → 32 ≤ j → blank_words seen ≡ (blank_words seen₀ && blank_words rest)
    joining_end seen j J h = both_ways (blank_words seen) (blank_words seen₀ && blank_words rest) down up
      where
        none : (k : ℕ) → blank_words seen ≡ true → k < 32 → (eqb (get_or seen₀ k 0) 0 && eqb (past_word es at n k) 0) ≡ true
        none k b l =
            sym (no_bits (get_or seen₀ k 0) (past_word es at n k))
            ∙ test_eq _ 0 (sym (J.done k (let z : k < j = omega (arith, h, l) in z)) ∙ blank_at seen k b (let m = J.long in let z : k < length seen = omega (arith, m, l) in z))

        down : blank_words seen ≡ true → (blank_words seen₀ && blank_words rest) ≡ true
        down b =
            ap₂ (λ (p q : Bool). p && q)
            (at_blank seen₀ (λ k l. eq_test _ 0 (and_left (eqb (get_or seen₀ k 0) 0) (eqb (past_word es at n k) 0) (none k b (let z : k < 32 = omega (arith, l, l₀) in z)))))
            (at_blank rest (λ k l.
            let m = rest_long in
            let u : k < 32 - n = omega (arith, l, m) in
            rest_at k u ∙ sym (after (n + k) (let z : n ≤ n + k = omega arith in z))
            ∙ eq_test _ 0 (and_right (eqb (get_or seen₀ (n + k) 0) 0) (eqb (past_word es at n (n + k)) 0) (none (n + k) b (let z : n + k < 32 = omega (arith, u) in z)))))

        zero_word : (k : ℕ) → blank_words rest ≡ true → k < 32 → (b : Bool) → ltb k n ≡ b → past_word es at n k ≡ 0
        zero_word k r l true t = before k (ltb-true k n t)
        zero_word k r l false t =
            let u = ltb-false k n t in
            let m = rest_long in
            let s : n + (k - n) ≡ k = omega (arith, u) in
            after k u ∙ ap (λ (i : ℕ). get_or es (at + 4 + i) 0) (sym s) ∙ sym (rest_at (k - n) (let z : k - n < 32 - n = omega (arith, u, l) in z))
            ∙ blank_at rest (k - n) r (let z : k - n < length rest = omega (arith, u, l, m) in z)

        up : (blank_words seen₀ && blank_words rest) ≡ true → blank_words seen ≡ true
        up b = at_blank seen (λ k l.
            let m = J.long in
            let u : k < 32 = omega (arith, l, m) in
            J.done k (let z : k < j = omega (arith, u, h) in z)
            ∙ ap₂ bit_or (blank_at seen₀ k (and_left (blank_words seen₀) (blank_words rest) b) (let z : k < length seen₀ = omega (arith, u, l₀) in z)) (zero_word k (and_right (blank_words seen₀) (blank_words rest) b) u (ltb k n) refl))

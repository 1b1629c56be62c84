-- Few edges are counted: each corner is met twice exactly when as many ends are met for the second time as there are edges.
use Prim.Native.Nat.{ℕ, ◌+◌, suc, zero, ◌<◌, ◌*◌, ◌≤◌}
use mathlib.Core.Bool.{cond, Bool, true, false, ◌&&◌}
use mathlib.Core.List.{List, ◌∷◌, []}
use mathlib.Core.Path.{◌≡◌, sym, ap, ◌∙◌, refl, subst}
use native.Mathlib.Nat.{zero-add}
use native.Mathlib.Omega.{arith}
use lib.Dec.{eqb, ltb}
use lib.ListN.{length, drop, get_or, set, length-set}
use lib.Seq.{drop-length, get_or-set_same, get_or-set_other}
use borrow.Author.Tests.{ltb-true, lt-ltb, le-ltb}
use Rattle.rules.specs.Lists.{occurrences, all}
use Rattle.rules.proofs.FaceEdges.{of_all}
use Rattle.rules.proofs.Laws.{eq_test, test_eq, not_eq, unlike_eq, and_true, refute}
use Rattle.rules.proofs.RingWalked.{all_of}
use Rattle.space.specs.Closed.{BothMet, EndsMet, EndsLow, Unmet, first_end, second_end, raw_ends, met_twice, met_next, meeting, is_second, both_met, seconds}
use Rattle.space.proofs.Meetings.{times_cons, bit, ends_on, met_in, in_met, spare, spare_none, spares, more_is, spares_more}
use Rattle.space.proofs.Sums.{sum_zeros, zeros_sum}
use Rattle.space.proofs.Webs.{more}

-- the lower end of an edge is within the room, for the higher one is
first_low : (es : List ℕ) (x : ℕ) → EndsLow es x → first_end es x < 512
first_low es x E = let p = E.apart in let q = E.second in omega (arith, p, q)

-- so is every end that occurs
occurs_low : (es b : List ℕ) → ((j : ℕ) → j < length b → EndsLow es (get_or b j 0)) → (v : ℕ) → 0 < occurrences v (raw_ends es b) → v < 512
unfolding raw_ends
occurs_low es b h v o = ltb-true v 512 (of_all (λ w. ltb w 512) (raw_ends es b) v (low b h) (in_met v (raw_ends es b) o))
  where
    low : (l : List ℕ) → ((j : ℕ) → j < length l → EndsLow es (get_or l j 0)) → all (λ w. ltb w 512) (raw_ends es l) ≡ true
    low [] g = refl
    low (x ∷ xs) g =
        let a = first_end es x in
        let c = second_end es x in
        let z = g 0 (omega arith) in
        and_true (ltb a 512) (ltb c 512 && all (λ w. ltb w 512) (raw_ends es xs)) (lt-ltb a 512 (first_low es x z))
        (and_true (ltb c 512) (all (λ w. ltb w 512) (raw_ends es xs)) (lt-ltb c 512 z.second) (low xs (λ j l. g (suc j) (omega arith))))

-- ---- the word of a corner

-- what stands at the place of a corner that is met c times
abbrev pub Word : ℕ → ℕ → ℕ → Type 0
Word s zero m = m < s
Word s (suc zero) m = m ≡ s
Word s (suc (suc c)) m = m ≡ s + 1

word_next : (s c m : ℕ) → Word s c m → Word s (suc c) (met_next s m)
word_next s zero m h = ap (λ (b : Bool). cond b s (s + 1)) (lt-ltb m s h)
word_next s (suc zero) m h = ap (λ (b : Bool). cond b s (s + 1)) (le-ltb m s (omega arith))
word_next s (suc (suc c)) m h = ap (λ (b : Bool). cond b s (s + 1)) (le-ltb m s (omega arith))

word_second : (s c m : ℕ) → Word s c m → 2 * cond (eqb m s) 1 0 + spare (suc c) ≡ spare c + 1
word_second s zero m h = ap (λ (b : Bool). 2 * cond b 1 0 + 1) (not_eq m s (λ e. omega arith))
word_second s (suc zero) m h = ap (λ (b : Bool). 2 * cond b 1 0 + 0) (test_eq m s h)
word_second s (suc (suc c)) m h = let o = bit (not_eq m s (λ e. omega arith)) in omega arith

word_under : (s c m : ℕ) → Word s c m → m < s + 2
word_under s zero m h = omega arith
word_under s (suc zero) m h = omega arith
word_under s (suc (suc c)) m h = omega arith

-- ---- the count

-- each number v is met c v times, and the second meetings with the spare ones make up all
pub record Counts (s : ℕ) (c : ℕ → ℕ) (met : List ℕ) (twice ends : ℕ) : Type 0 where
  pub long : length met ≡ 512
  pub word : (v : ℕ) → v < 512 → Word s (c v) (get_or met v 0)
  pub balance : 2 * twice + spares c ≡ ends

counts_go : (s : ℕ) (c : ℕ → ℕ) (met : List ℕ) (twice ends a : ℕ) → Counts s c met twice ends → a < 512 → Counts s (more a c) (meeting s met a) (twice + is_second s met a) (ends + 1)
unfolding meeting
counts_go s c met twice ends a C low = record {
  long = length-set met a (met_next s (get_or met a 0)) ∙ C.long;
  word = λ v h. go v h (eqb v a) refl;
  balance =
      let b = C.balance in
      let w = word_second s (c a) (get_or met a 0) (C.word a low) in
      let m = spares_more c a low in
      omega arith;
}
  where
    go : (v : ℕ) → v < 512 → (b : Bool) → eqb v a ≡ b → Word s (cond b (suc (c v)) (c v)) (get_or (set met a (met_next s (get_or met a 0))) v 0)
    go v h true e =
        let q = eq_test v a e in
        let l = C.long in
        let p : get_or (set met a (met_next s (get_or met a 0))) v 0 ≡ met_next s (get_or met v 0) =
        ap (λ (x : ℕ). get_or (set met a (met_next s (get_or met a 0))) x 0) q ∙ get_or-set_same met a (met_next s (get_or met a 0)) 0 (omega arith) ∙ ap (λ (x : ℕ). met_next s (get_or met x 0)) (sym q) in
        subst (λ (m : ℕ). Word s (suc (c v)) m) (sym p) (word_next s (c v) (get_or met v 0) (C.word v h))
    go v h false e = subst (λ (m : ℕ). Word s (c v) m) (sym (get_or-set_other met a v (met_next s (get_or met a 0)) 0 (unlike_eq v a e))) (C.word v h)

-- ---- both ends of an edge

pub ends_met : {s : ℕ} {es met after : List ℕ} {e a b r : ℕ} → a ≡ first_end es e → b ≡ second_end es e → BothMet s met a b r after → EndsMet s es met e r after
unfolding seconds both_met
ends_met {s} {es} {met} p q M = record {
  count = M.count ∙ (λ i. is_second s met (p i) + is_second s (meeting s met (p i)) (q i));
  words = M.words ∙ (λ i. meeting s (meeting s met (p i)) (q i));
  most = M.most;
}

-- ---- a round of edges

-- k edges are met: what is counted, and what is left to meet, make up the whole
pub record Round (es edges : List ℕ) (s : ℕ) (met : List ℕ) (twice k : ℕ) : Type 0 where
  pub times : ℕ → ℕ
  pub counts : Counts s times met twice (2 * k)
  pub whole : (v : ℕ) → occurrences v (raw_ends es edges) ≡ times v + occurrences v (raw_ends es (drop k edges))

pub round_start : (es edges : List ℕ) (s : ℕ) (met : List ℕ) → Unmet s met → Round es edges s met 0 0
unfolding spares
round_start es edges s met U = record {
  times = λ v. 0;
  counts = record { long = U.long; word = U.under; balance = let z = sum_zeros 512 (λ v. 0) (λ w l. refl) in omega arith };
  whole = λ v. sym (zero-add (occurrences v (raw_ends es edges)));
}

pub round_go : (es edges : List ℕ) (s : ℕ) (met : List ℕ) (twice k x : ℕ) → Round es edges s met twice k → k < length edges → x ≡ get_or edges k 0 → EndsLow es x
    → Round es edges s (both_met s es met x) (twice + seconds s es met x) (k + 1)
unfolding both_met seconds
round_go es edges s met twice k x R h e E =
    let a = first_end es x in
    let b = second_end es x in
    let rest = raw_ends es (drop (k + 1) edges) in
    let one = counts_go s R.times met twice (2 * k) a R.counts (first_low es x E) in
    let both = counts_go s (more a R.times) (meeting s met a) (twice + is_second s met a) (2 * k + 1) b one E.second in
    record {
      times = more b (more a R.times);
      counts = record { long = both.long; word = both.word; balance = let z = both.balance in omega arith };
      whole = λ v.
          let w = R.whole v in
          let on : occurrences v (raw_ends es (drop k edges)) ≡ occurrences v (a ∷ b ∷ rest) =
          ap (occurrences v) (ends_on es edges k h ∙ ap (λ (y : ℕ). first_end es y ∷ second_end es y ∷ rest) (sym e)) in
          let t₁ = times_cons v a (b ∷ rest) in
          let t₂ = times_cons v b rest in
          let m₁ = more_is (eqb v a) (R.times v) in
          let m₂ = more_is (eqb v b) (more a R.times v) in
          omega arith;
    }

-- the same, by what the call that meets both ends gives
pub round_met : (es edges : List ℕ) (s : ℕ) (met after : List ℕ) (twice k x r : ℕ) → Round es edges s met twice k → k < length edges → x ≡ get_or edges k 0 → EndsLow es x
    → r ≡ seconds s es met x → after ≡ both_met s es met x → Round es edges s after (twice + r) (k + 1)
round_met es edges s met after twice k x r R h e E p q = rw (p, q) (round_go es edges s met twice k x R h e E)

module _ (es edges : List ℕ) (s : ℕ) (met : List ℕ) (twice k : ℕ) (R : Round es edges s met twice k) where
  pub round_few : twice ≤ k
  round_few = let b = R.counts.balance in omega arith

  pub round_out : Unmet (s + 2) met
  round_out = record { long = R.counts.long; under = λ v h. word_under s (R.times v) (get_or met v 0) (R.counts.word v h) }

  module _ (all_met : k ≡ length edges) (low : (j : ℕ) → j < length edges → EndsLow es (get_or edges j 0)) where
    counted : (v : ℕ) → occurrences v (raw_ends es edges) ≡ R.times v
    unfolding raw_ends
    counted v =
        let w = R.whole v in
        let z : occurrences v (raw_ends es (drop k edges)) ≡ 0 = ap (λ (l : List ℕ). occurrences v (raw_ends es l)) (ap (λ (j : ℕ). drop j edges) all_met ∙ drop-length edges) in
        omega arith

    -- every end is met twice where as many are met for the second time as there are edges
    pairs : twice ≡ length edges → met_twice es edges ≡ true
    unfolding spares
    pairs e = all_of (λ v. eqb (occurrences v (raw_ends es edges)) 2) (raw_ends es edges) (λ v m.
        let o = met_in v (raw_ends es edges) m in
        let t = counted v in
        let b = R.counts.balance in
        let z = zeros_sum 512 v (λ w. spare (R.times w)) (omega arith) (occurs_low es edges low v o) in
        test_eq (occurrences v (raw_ends es edges)) 2 (t ∙ spare_none (R.times v) z (omega arith)))

    -- and only there
    no_spare : met_twice es edges ≡ true → (v : ℕ) → spare (R.times v) ≡ 0
    no_spare e v = go (R.times v) refl
      where
        go : (c : ℕ) → R.times v ≡ c → spare (R.times v) ≡ 0
        go zero q = ap spare q
        go (suc c) q =
            let t = counted v in
            ap spare (sym t ∙ eq_test (occurrences v (raw_ends es edges)) 2 (of_all (λ w. eqb (occurrences w (raw_ends es edges)) 2) (raw_ends es edges) v e (in_met v (raw_ends es edges) (omega arith))))

    only_pairs : met_twice es edges ≡ true → twice ≡ length edges
    unfolding spares
    only_pairs e =
        let z = sum_zeros 512 (λ v. spare (R.times v)) (λ v h. no_spare e v) in
        let b = R.counts.balance in
        omega arith

    pub round_end : eqb twice (length edges) ≡ met_twice es edges
    round_end = go (eqb twice (length edges)) refl
      where
        go : (y : Bool) → eqb twice (length edges) ≡ y → y ≡ met_twice es edges
        go true q = sym (pairs (eq_test twice (length edges) q))
        go false q = sym (refute (met_twice es edges) (λ e. unlike_eq twice (length edges) q (only_pairs e)))

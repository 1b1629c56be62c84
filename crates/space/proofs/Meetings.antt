-- How often the corners of a face are met, edge after edge: what counting their ends and joining paths have in common.
-- Two for each second meeting, and the spare meetings of each corner, make up the ends that are met.
use Rattle.std.specs.Prelude.{if◌then◌else◌}
use Prim.Native.Nat.{ℕ, ◌+◌, ◌-◌, suc, zero, ◌<◌, ◌≤◌}
use mathlib.Core.Bool.{cond, Bool, true, false, false≢true}
use mathlib.Core.List.{List, ◌∷◌, []}
use mathlib.Core.Path.{◌≡◌, sym, ap, ◌∙◌, refl, subst}
use native.Mathlib.Nat.{zero-add, not-suc-le-zero, le_of_suc-le-suc}
use native.Mathlib.Numerals.{add-one}
use native.Mathlib.Omega.{arith}
use lib.Dec.{eqb}
use lib.ListN.{length, drop, get_or, replicate, length-replicate, get_or-replicate, length-drop}
use lib.Seq.{drop-cons, get_or-drop}
use Rattle.rules.specs.Lists.{occurrences, member, keep}
use Rattle.rules.proofs.Laws.{eq_test, test_eq, not_eq, or_case, or_left, or_right, eqb_self}
use Rattle.space.specs.Closed.{Unmet, first_end, second_end, raw_ends}
use Rattle.space.proofs.Sums.{sum_to, sum_change}
use Rattle.space.proofs.Webs.{more}

-- ---- how often a number stands in a list

pub times_cons : (v x : ℕ) (xs : List ℕ) → occurrences v (x ∷ xs) ≡ cond (eqb v x) 1 0 + occurrences v xs
times_cons v x xs = go (eqb v x)
  where
    go : (b : Bool) → length (if b then x ∷ keep (eqb v) xs else keep (eqb v) xs) ≡ cond b 1 0 + length (keep (eqb v) xs)
    go true = let q : suc (length (keep (eqb v) xs)) ≡ 1 + length (keep (eqb v) xs) = omega arith in q
    go false = sym (zero-add (length (keep (eqb v) xs)))

-- a test as a number
pub bit : {b c : Bool} → b ≡ c → ◌≡◌ {A = ℕ} (cond b 1 0) (cond c 1 0)
bit e = ap (λ (b : Bool). cond b 1 0) e

-- the ends from edge k on
pub ends_on : (es b : List ℕ) (k : ℕ) → k < length b → raw_ends es (drop k b) ≡ first_end es (get_or b k 0) ∷ second_end es (get_or b k 0) ∷ raw_ends es (drop (k + 1) b)
unfolding raw_ends
ends_on es b k h =
    ap (raw_ends es) (drop-cons b k 0 h) ∙ ap (λ (j : ℕ). first_end es (get_or b k 0) ∷ second_end es (get_or b k 0) ∷ raw_ends es (drop j b)) (sym (add-one k))

pub met_in : (v : ℕ) (l : List ℕ) → member v l ≡ true → 0 < occurrences v l
met_in v [] h = absurd (false≢true h)
met_in v (x ∷ xs) h =
    let t = times_cons v x xs in
    or_case (eqb v x) (member v xs) h (0 < occurrences v (x ∷ xs)) (λ q. let o = bit q in omega (arith, t, o)) (λ m. let r = met_in v xs m in omega (arith, t, r))

pub in_met : (v : ℕ) (l : List ℕ) → 0 < occurrences v l → member v l ≡ true
in_met v [] h = absurd (omega (arith, h))
in_met v (x ∷ xs) h = go (eqb v x) refl (in_met v xs)
  where
    go : (b : Bool) → eqb v x ≡ b → (0 < occurrences v xs → member v xs ≡ true) → member v (x ∷ xs) ≡ true
    go true q later = or_left (eqb v x) (member v xs) q
    go false q later = let t = times_cons v x xs in let o = bit q in or_right (eqb v x) (member v xs) (later (omega (arith, t, o, h)))

-- v is an end of edge x
abbrev pub End : List ℕ → ℕ → ℕ → Type 0
End es v x = member v (first_end es x ∷ second_end es x ∷ []) ≡ true

pub end_case : (es : List ℕ) (v x : ℕ) → End es v x → (A : Type 0) → (v ≡ first_end es x → A) → (v ≡ second_end es x → A) → A
end_case es v x h A f g =
    or_case (eqb v (first_end es x)) _ h A (λ q. f (eq_test v (first_end es x) q))
    (λ k. or_case (eqb v (second_end es x)) false k A (λ q. g (eq_test v (second_end es x) q)) (λ z. absurd (false≢true z)))

pub first_end_lem : (es : List ℕ) (x : ℕ) → End es (first_end es x) x
first_end_lem es x = or_left (eqb (first_end es x) (first_end es x)) _ (eqb_self (first_end es x))

pub second_end_lem : (es : List ℕ) (x : ℕ) → End es (second_end es x) x
second_end_lem es x = or_right (eqb (second_end es x) (first_end es x)) _ (or_left (eqb (second_end es x) (second_end es x)) _ (eqb_self (second_end es x)))

-- an end is met
pub ends_in : (es l : List ℕ) (i v : ℕ) → i < length l → End es v (get_or l i 0) → 0 < occurrences v (raw_ends es l)
unfolding raw_ends
ends_in es [] i v h m = absurd (not-suc-le-zero h)
ends_in es (x ∷ xs) zero v h m =
    let t₁ = times_cons v (first_end es x) (second_end es x ∷ raw_ends es xs) in
    let t₂ = times_cons v (second_end es x) (raw_ends es xs) in
    end_case es v x m (0 < occurrences v (raw_ends es (x ∷ xs)))
    (λ q. let o = bit (test_eq v (first_end es x) q) in omega (arith, t₁, o)) (λ q. let o = bit (test_eq v (second_end es x) q) in omega (arith, t₁, t₂, o))
ends_in es (x ∷ xs) (suc i) v h m =
    let r = ends_in es xs i v (le_of_suc-le-suc h) m in
    let t₁ = times_cons v (first_end es x) (second_end es x ∷ raw_ends es xs) in
    let t₂ = times_cons v (second_end es x) (raw_ends es xs) in
    omega (arith, r, t₁, t₂)

-- and one of a later edge is met later
pub ends_later : (es l : List ℕ) (k j v : ℕ) → k ≤ j → j < length l → End es v (get_or l j 0) → 0 < occurrences v (raw_ends es (drop k l))
ends_later es l k j v h n m =
    let d = length-drop k l in
    ends_in es (drop k l) (j - k) v (let z : j - k < length (drop k l) = omega (arith, d, h, n) in z)
    (subst (λ (x : ℕ). End es v x) (sym (get_or-drop k l (j - k) 0 ∙ ap (λ (i : ℕ). get_or l i 0) (let z : k + (j - k) ≡ j = omega (arith, h) in z))) m)

-- ---- meetings that make up no two

-- how many of c meetings are neither the first nor the second of two
abbrev pub spare : ℕ → ℕ
spare zero = 0
spare (suc zero) = 1
spare (suc (suc c)) = c

pub spare_none : (c : ℕ) → spare c ≡ 0 → 0 < c → c ≡ 2
spare_none zero e h = absurd (omega arith)
spare_none (suc zero) e h = absurd (omega arith)
spare_none (suc (suc c)) e h = ap (λ (x : ℕ). suc (suc x)) e

-- the meetings that make up no two, over the room
unfoldable pub spares : (ℕ → ℕ) → ℕ
spares c = sum_to 512 (λ v. spare (c v))

pub more_is : (b : Bool) (n : ℕ) → cond b (suc n) n ≡ cond b 1 0 + n
more_is true n = let q : suc n ≡ 1 + n = omega arith in q
more_is false n = sym (zero-add n)

pub spares_more : (c : ℕ → ℕ) (a : ℕ) → a < 512 → spares c + spare (suc (c a)) ≡ spares (more a c) + spare (c a)
unfolding spares
spares_more c a h =
    let e : spare (more a c a) ≡ spare (suc (c a)) = ap (λ (b : Bool). spare (cond b (suc (c a)) (c a))) (test_eq a a refl) in
    let s = sum_change 512 a (λ v. spare (c v)) (λ v. spare (more a c v)) h (λ w u. sym (ap (λ (b : Bool). spare (cond b (suc (c w)) (c w))) (not_eq w a u))) in
    ap (λ (x : ℕ). sum_to 512 (λ v. spare (c v)) + x) (sym e) ∙ s

-- ---- before any edge

pub unmet_new : Unmet 1 (replicate 512 0)
unmet_new = record {
  long = length-replicate {A = ℕ} 512 0;
  under = λ v h. let e = get_or-replicate {A = ℕ} 512 v 0 0 h in (let q : get_or (replicate 512 0) v 0 < 1 = omega (arith, e) in q);
}

-- Sets of elements in use, each of one rank: what rules 4 and 5 gather. A set with a member more is still one, and stays one in a later table.
use Rattle.std.specs.Prelude.{if◌then◌else◌, Option, Some, None}
use Prim.Native.Nat.{ℕ, suc, ◌<◌, ◌≤◌}
use mathlib.Core.Bool.{Bool, true, false, ◌&&◌, ◌||◌, false≢true}
use mathlib.Core.List.{List, [], ◌∷◌}
use mathlib.Core.Path.{ap, ◌∙◌, ◌≡◌, refl, sym}
use native.Mathlib.Nat.{le_trans, le_of_lt, le_refl, le_of_suc-le-suc}
use native.Mathlib.Omega.{arith}
use lib.Dec.{ltb, eqb}
use Rattle.rules.specs.Lists.{all, with_member, rises}
use Rattle.rules.specs.Table.{rank, Table, element_count}
use Rattle.rules.specs.Cut.{including, nothing_yet, Gathered, gathering, gathering_output, corner_output}
use Rattle.rules.specs.Held.{Extends, Ranked, AllOf, SetOf, SomeOf, Sets, OutputOf, AnswerOf}
use Rattle.rules.specs.declared.ElementCutOutput.{ElementCutOutput}
use Rattle.rules.specs.declared.ElementCutOutput.TheVariants.{Flush, NonFlush}
use Rattle.rules.specs.declared.ElementAnswer.{ElementAnswer}
use Rattle.rules.specs.declared.Side.{Side}
use Rattle.rules.specs.declared.Side.TheVariants.{Inside, On, Outside}
use Rattle.rules.proofs.Extends.{count_more, rank_same}
use Rattle.rules.proofs.Laws.{and_true, and_left, and_right, test_le, le_test, test_eq, not_le, eq_test}
use Rattle.rules.specs.declared.ElementId.{ElementId}

pub ranked_later : {t l : Table} {q : ℕ} (x : ℕ) → Extends t l → Ranked t q x → Ranked l q x
ranked_later {t} {l} x e h = (le_trans h.0 (count_more e), ap suc (rank_same t l x e h.0) ∙ h.1)

pub all_later : {t l : Table} (q : ℕ) (s : List ℕ) → Extends t l → AllOf (Ranked t q) s → AllOf (Ranked l q) s
all_later q [] e h = tt
all_later q (x ∷ xs) e h = (ranked_later x e h.0, all_later q xs e h.1)

pub set_later : {t l : Table} {q : ℕ} (s : List ℕ) → Extends t l → SetOf t q s → SetOf l q s
set_later {q = q} s e h = record { rising = h.rising; ranked = all_later q s e h.ranked }

pub all_of_if : (P : ℕ → Type 0) (b : Bool) (xs ys : List ℕ) → AllOf P xs → AllOf P ys → AllOf P (if b then xs else ys)
all_of_if P true xs ys p q = p
all_of_if P false xs ys p q = q

pub all_of_with : (P : ℕ → Type 0) (x : ℕ) (xs : List ℕ) → P x → AllOf P xs → AllOf P (with_member x xs)
all_of_with P x [] l h = (l, tt)
all_of_with P x (y ∷ ys) l h =
    all_of_if P (ltb x y) (x ∷ y ∷ ys) _ (l, h) (all_of_if P (eqb x y) (y ∷ ys) (y ∷ with_member x ys) h (h.0, all_of_with P x ys l h.1))

pub all_if : (p : ℕ → Bool) (b : Bool) (xs ys : List ℕ) → all p xs ≡ true → all p ys ≡ true → all p (if b then xs else ys) ≡ true
all_if p true xs ys h k = h
all_if p false xs ys h k = k

pub all_with : (p : ℕ → Bool) (x : ℕ) (xs : List ℕ) → p x ≡ true → all p xs ≡ true → all p (with_member x xs) ≡ true
all_with p x [] l h = and_true (p x) true l refl
all_with p x (y ∷ ys) l h =
    all_if p (ltb x y) (x ∷ y ∷ ys) _ (and_true (p x) (all p (y ∷ ys)) l h)
    (all_if p (eqb x y) (y ∷ ys) (y ∷ with_member x ys) h
    (and_true (p y) (all p (with_member x ys)) (and_left (p y) (all p ys) h) (all_with p x ys l (and_right (p y) (all p ys) h))))

pub above_more : (x y : ℕ) (ys : List ℕ) → x < y → all (ltb y) ys ≡ true → all (ltb x) ys ≡ true
above_more x y [] l h = refl
above_more x y (z ∷ zs) l h =
    and_true (ltb x z) (all (ltb x) zs) (test_le (suc x) z (le_trans (le_trans l (le_of_lt (le_refl (suc y)))) (le_test (suc y) z (and_left (ltb y z) (all (ltb y) zs) h))))
    (above_more x y zs l (and_right (ltb y z) (all (ltb y) zs) h))

pub rises_with : (x : ℕ) (xs : List ℕ) → rises xs ≡ true → rises (with_member x xs) ≡ true
rises_with x [] h = refl
rises_with x (y ∷ ys) h = go (ltb x y) (eqb x y) refl refl (rises_with x ys (and_right (all (ltb y) ys) (rises ys) h))
  where
    go : (b c : Bool) → ltb x y ≡ b → eqb x y ≡ c → rises (with_member x ys) ≡ true → rises (if b then x ∷ y ∷ ys else if c then y ∷ ys else (y ∷ with_member x ys)) ≡ true
    go true c e k r =
        and_true (ltb x y && all (ltb x) ys) (rises (y ∷ ys))
        (and_true (ltb x y) (all (ltb x) ys) e (above_more x y ys (le_test (suc x) y e) (and_left (all (ltb y) ys) (rises ys) h))) h
    go false true e k r = h
    go false false e k r =
        let n : x ≡ y → ⊥ = λ q. false≢true (sym k ∙ test_eq x y q) in
        let m : y ≤ x = le_of_suc-le-suc (not_le (suc x) y e) in
        let w : y < x = omega (arith, n, m) in
        and_true (all (ltb y) (with_member x ys)) (rises (with_member x ys)) (all_with (ltb y) x ys (test_le (suc y) x w) (and_left (all (ltb y) ys) (rises ys) h)) r

pub set_with : (t : Table) (q x : ℕ) (s : List ℕ) → Ranked t q x → SetOf t q s → SetOf t q (with_member x s)
set_with t q x s h k = record { rising = rises_with x s k.rising; ranked = all_of_with (Ranked t q) x s h k.ranked }

pub set_under : (t : Table) (q : ℕ) (s : List ℕ) → AllOf (Ranked t q) s → all (λ x. ltb x (element_count t)) s ≡ true
set_under t q [] h = refl
set_under t q (x ∷ xs) h = and_true (ltb x (element_count t)) (all (λ y. ltb y (element_count t)) xs) (test_le (suc x) (element_count t) h.0.0) (set_under t q xs h.1)

pub set_ranks : (t : Table) (q : ℕ) (s : List ℕ) → AllOf (Ranked t q) s → all (λ x. eqb (suc (rank t x)) q) s ≡ true
set_ranks t q [] h = refl
set_ranks t q (x ∷ xs) h = and_true (eqb (suc (rank t x)) q) (all (λ y. eqb (suc (rank t y)) q) xs) (test_eq (suc (rank t x)) q h.0.1) (set_ranks t q xs h.1)

pub ranked_all : (t : Table) (n q : ℕ) (b : List ℕ) → n ≤ element_count t → all (λ x. ltb x n) b ≡ true → all (λ x. eqb (suc (rank t x)) q) b ≡ true → AllOf (Ranked t q) b
ranked_all t n q [] l h k = tt
ranked_all t n q (x ∷ xs) l h k = (
  (le_trans (le_test (suc x) n (and_left (ltb x n) (all (λ y. ltb y n) xs) h)) l, eq_test (suc (rank t x)) q (and_left (eqb (suc (rank t x)) q) (all (λ y. eqb (suc (rank t y)) q) xs) k)),
  ranked_all t n q xs l (and_right (ltb x n) (all (λ y. ltb y n) xs) h) (and_right (eqb (suc (rank t x)) q) (all (λ y. eqb (suc (rank t y)) q) xs) k),
)

pub some_later : {t l : Table} (q : ℕ) (p : Option ElementId) → Extends t l → SomeOf q p t → SomeOf q p l
some_later q None e h = tt
some_later q (Some x) e h = ranked_later x.0 e h

pub empty_set : (t : Table) (q : ℕ) → SetOf t q []
empty_set t q = record { rising = refl; ranked = tt }

pub set_including : (t : Table) (q : ℕ) (p : Option ElementId) (s : List ℕ) → SomeOf q p t → SetOf t q s → SetOf t q (including p s)
set_including t q None s h k = k
set_including t q (Some e) s h k = set_with t q e.0 s h k

pub sets_none : (r : ℕ) (t : Table) → Sets r nothing_yet t
sets_none r t = record { flush = tt; inside = empty_set t (suc r); outside = empty_set t (suc r); intersections = empty_set t r }

pub sets_later : {t l : Table} (r : ℕ) (g : Gathered) → Extends t l → Sets r g t → Sets r g l
sets_later r g e h = record {
  flush = all_later (suc r) g.flush e h.flush;
  inside = set_later g.inside e h.inside;
  outside = set_later g.outside e h.outside;
  intersections = set_later g.intersections e h.intersections;
}

pub sets_gathering : (r b : ℕ) (a : ElementAnswer) (g : Gathered) (t : Table) → Ranked t (suc r) b → AnswerOf r a t → Sets r g t → Sets r (gathering b a g) t
sets_gathering r b a g t hb ha h = go a.output (g.warning || a.warning) ha
  where
    go : (out : ElementCutOutput) (w : Bool) → OutputOf r out t → Sets r (gathering_output b out w g) t
    go Flush w ho = record {
      flush = (hb, h.flush);
      inside = h.inside;
      outside = h.outside;
      intersections = h.intersections;
    }
    go (NonFlush i o x) w ho = record {
      flush = h.flush;
      inside = set_including t (suc r) i g.inside ho.0 h.inside;
      outside = set_including t (suc r) o g.outside ho.1 h.outside;
      intersections = set_including t r x g.intersections ho.2 h.intersections;
    }

pub corner_answer_lem : (t : Table) (e : ℕ) (s : Side) → Ranked t 1 e → OutputOf 0 (corner_output e s) t
corner_answer_lem t e Inside h = (h, tt, tt)
corner_answer_lem t e On h = tt
corner_answer_lem t e Outside h = (tt, h, tt)

-- One crossing, one corner: a point is appended only where no earlier one matches it, so a table without matching vertices stays so.
use Prim.Native.Nat.{ℕ, ◌<◌, suc, zero, suc-le-suc}
use mathlib.Core.Bool.{Bool, true, false, not}
use mathlib.Core.List.{List, [], ◌∷◌}
use mathlib.Core.Path.{ap, ◌≡◌, refl, subst, sym}
use native.Mathlib.Nat.{not-suc-le-zero, le_of_suc-le-suc, zero-lt-suc}
use lib.Ieee.{Float}
use lib.ListN.{length, get_or}
use Rattle.rules.specs.Limits.{Limits, Readable}
use Rattle.rules.specs.Lists.{distinct, any}
use Rattle.rules.specs.Floats.{point_matches}
use Rattle.rules.specs.Table.{Table}
use Rattle.rules.specs.Memory.{Memory, decode}
use Rattle.rules.specs.Replies.{cut_reply}
use Rattle.rules.specs.Promises.{Unmatched}
use Rattle.rules.specs.declared.CutParams.{CutParams}
use Rattle.rules.proofs.Built.{Built, unchanged, element_more, point_more, plane_more}
use Rattle.rules.proofs.Growing.{apart_snoc}
use Rattle.rules.proofs.Laws.{not_true, and_left, or_false, and_right, and_true, neither}
use Rattle.rules.proofs.OneCall.{memory_built}
use Rattle.rules.proofs.Refusals.{refused_leaves}
use Rattle.rules.specs.Refusals.{Reply}
use Rattle.rules.specs.declared.ElementAnswer.{ElementAnswer}
use Rattle.std.specs.Prelude.{Err, Ok}

-- ---- no entry matches an earlier one, as a test and entry by entry

abbrev later_matches : List Float → List Float → Bool
later_matches later earlier = point_matches earlier later

apart_at : (ps : List (List Float)) → distinct later_matches ps ≡ true → (i j : ℕ) → i < j → j < length ps → point_matches (get_or ps i []) (get_or ps j []) ≡ false
apart_at [] h i j l k = absurd (not-suc-le-zero k)
apart_at (p ∷ ps) h i zero l k = absurd (not-suc-le-zero l)
apart_at (p ∷ ps) h zero (suc j) l k = none_at ps j (le_of_suc-le-suc k) (not_true (any (λ q. later_matches q p) ps) (and_left (not (any (λ q. later_matches q p) ps)) (distinct later_matches ps) h))
  where
    none_at : (qs : List (List Float)) (n : ℕ) → n < length qs → any (λ q. later_matches q p) qs ≡ false → point_matches p (get_or qs n []) ≡ false
    none_at [] n m e = absurd (not-suc-le-zero m)
    none_at (q ∷ qs) zero m e = (or_false (later_matches q p) (any (λ x. later_matches x p) qs) e).0
    none_at (q ∷ qs) (suc n) m e = none_at qs n (le_of_suc-le-suc m) (or_false (later_matches q p) (any (λ x. later_matches x p) qs) e).1
apart_at (p ∷ ps) h (suc i) (suc j) l k = apart_at ps (and_right (not (any (λ q. later_matches q p) ps)) (distinct later_matches ps) h) i j (le_of_suc-le-suc l) (le_of_suc-le-suc k)

at_apart : (ps : List (List Float)) → ((i j : ℕ) → i < j → j < length ps → point_matches (get_or ps i []) (get_or ps j []) ≡ false) → distinct later_matches ps ≡ true
at_apart [] h = refl
at_apart (p ∷ ps) h =
    and_true (not (any (λ q. later_matches q p) ps)) (distinct later_matches ps)
    (ap not (none_of ps (λ n m. h zero (suc n) (zero-lt-suc n) (suc-le-suc m)))) (at_apart ps (λ i j l k. h (suc i) (suc j) (suc-le-suc l) (suc-le-suc k)))
  where
    none_of : (qs : List (List Float)) → ((n : ℕ) → n < length qs → point_matches p (get_or qs n []) ≡ false) → any (λ q. later_matches q p) qs ≡ false
    none_of [] e = refl
    none_of (q ∷ qs) e = neither (later_matches q p) (any (λ x. later_matches x p) qs) (e zero (zero-lt-suc (length qs))) (none_of qs (λ n m. e (suc n) (suc-le-suc m)))

-- ---- what is built stays so

built_apart : {a b : Table} → Built a b → distinct later_matches a.points ≡ true → distinct later_matches b.points ≡ true
built_apart unchanged h = h
built_apart (element_more t e q) h = built_apart q h
built_apart (point_more t p n q) h = apart_snoc later_matches 0 t.points p (built_apart q h) n
built_apart (plane_more t g q) h = built_apart q h

pub built_unmatched : {a b : Table} → Built a b → Unmatched a → Unmatched b
built_unmatched {a} {b} q u = apart_at b.points (built_apart q (at_apart a.points u))

pub cut_unmatched : (L : Limits) → Readable L → (p : CutParams) (root : ℕ) (m : Memory)
    → Unmatched (decode L m) → Unmatched (decode L (cut_reply L p root m).1)
cut_unmatched L R p root m u = go (cut_reply L p root m).0 (cut_reply L p root m).1 refl
  where
    go : (r : Reply ElementAnswer) (m' : Memory) → cut_reply L p root m ≡ (r, m') → Unmatched (decode L m')
    go (Err n) m' e = subst (λ (x : Memory). Unmatched (decode L x)) (sym (refused_leaves L p root m m' n e)) u
    go (Ok a) m' e = built_unmatched (memory_built L R p root m a m' e) u

-- No more corners are tested than there is room for elements, so their count fits above the answer.
use Rattle.std.specs.Prelude.{if◌then◌else◌, Err, Ok}
use Prim.Native.Nat.{ℕ, suc, ◌+◌, ◌*◌, ◌≤◌}
use mathlib.Core.Bool.{Bool, true, false, not, ◌&&◌, ◌||◌}
use mathlib.Core.List.{List, [], ◌∷◌}
use mathlib.Core.Path.{◌≡◌, refl, sym, ap, subst, ◌∙◌}
use native.Mathlib.Nat.{le_trans, le_of_eq}
use native.Mathlib.Omega.{arith}
use lib.Dec.{ltb, lit≤}
use lib.Ieee.{Float, nan, inf, fin}
use lib.ListN.{length, length-map}
use Rattle.rules.specs.Limits.{desk}
use Rattle.rules.specs.Table.{Table, Plane, vertex_of, element, element_count}
use Rattle.rules.specs.Memory.{Memory, decode, sound_memory}
use Rattle.rules.specs.Questions.{with_rank, vertex_set}
use Rattle.rules.specs.Replies.{divider_fits, divider_of}
use Rattle.rules.specs.Touch.{vertex_side, corner_sides, is_inside, is_outside, tested_from, touch_at_distance, touch, touch_reply, touch_value}
use Rattle.rules.specs.declared.Hyperplane.{Hyperplane}
use Rattle.rules.specs.declared.Side.{Side}
use Rattle.desk.specs.Words.{longest, CountFits, touch_word}
use Rattle.desk.proofs.ListWords.{rank_fits_list}
use Rattle.rules.specs.Refusals.{Reply}
use Rattle.rules.specs.declared.Refusal.TheVariants.{Divider, NotInUse, NotSound}
use Rattle.rules.specs.declared.Touched.{Touched}

tested_few : (i o : Bool) (ss : List Side) → tested_from i o ss ≤ length ss
unfolding tested_from
tested_few i o [] = let z : 0 ≤ 0 = omega arith in z
tested_few i o (s ∷ ss) = go ((i || is_inside s) && (o || is_outside s)) (tested_few (i || is_inside s) (o || is_outside s) ss)
  where
    go : (b : Bool) → tested_from (i || is_inside s) (o || is_outside s) ss ≤ length ss → (if b then 1 else suc (tested_from (i || is_inside s) (o || is_outside s) ss)) ≤ suc (length ss)
    go true h = let z : 1 ≤ suc (length ss) = omega arith in z
    go false h = let z : suc (tested_from (i || is_inside s) (o || is_outside s) ss) ≤ suc (length ss) = omega (arith, h) in z

count_fits_lem : (h : Hyperplane) (root : ℕ) (m : Memory) → CountFits (touch_reply desk h root m)
unfolding touch_reply touch corner_sides vertex_set
count_fits_lem h root m = by (sound_memory desk m) (ltb root (element_count t)) (divider_fits desk t.dimension h) refl
  where
    t : Table
    t = decode desk m

    p : Plane
    p = divider_of t.dimension h

    corners : sound_memory desk m ≡ true → tested_from false false (corner_sides p t root) ≤ longest
    corners s =
        le_trans (tested_few false false (corner_sides p t root))
        (le_trans (le_of_eq (length-map (vertex_set t root) (vertex_side p t) ∙ length-map (with_rank t 0 root) (λ x. vertex_of (element t x)))) (le_trans (rank_fits_list m 0 root s) (lit≤ tt)))

    at : sound_memory desk m ≡ true → (x : Float) → CountFits (touch_at_distance p x root t)
    at s nan = corners s
    at s (inf false) = lit≤ tt
    at s (inf true) = lit≤ tt
    at s (fin a b c) = corners s

    by : (a b c : Bool) → sound_memory desk m ≡ a
        → CountFits (if not a then Err NotSound else if not b then Err NotInUse else if not c then Err Divider else touch_at_distance p h.distance root t)
    by false b c q = tt
    by true false c q = tt
    by true true false q = tt
    by true true true q = at q h.distance

pub count_low : {r : Reply Touched} (h : Hyperplane) (root : ℕ) (m : Memory) → r ≡ touch_reply desk h root m → CountFits r
count_low h root m q = subst CountFits (sym q) (count_fits_lem h root m)

-- ---- the number

pub touched_low : {r : Reply Touched} (t : Touched) → r ≡ Ok t → CountFits r → t.tested ≤ longest
touched_low t q f = subst CountFits q f

pub word_touched : (r : Reply Touched) (t : Touched) (v : ℕ) → r ≡ Ok t → v ≡ touch_value t.answer → v * 0x100 + t.tested * 0x10000 ≡ touch_word r
word_touched r t v q e = ap (λ (x : ℕ). x * 0x100 + t.tested * 0x10000) e ∙ sym (ap touch_word q)

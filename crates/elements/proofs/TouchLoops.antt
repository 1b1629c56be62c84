-- What is left of the corners makes of what was tested so far what all of them make of nothing; and that is what the rules read from the sides of the vertex set.
use Rattle.std.specs.Prelude.{if◌then◌else◌, Ok}
use Prim.Native.Nat.{ℕ, suc, ◌+◌, ◌*◌, ◌-◌, ◌/◌, ◌^◌, ◌<◌, ◌≤◌}
use mathlib.Core.Bool.{Bool, true, false, ◌&&◌, ◌||◌, true≢false}
use mathlib.Core.List.{List, [], ◌∷◌, ◌++◌, map}
use mathlib.Core.Path.{◌≡◌, refl, sym, ap, subst, ◌∙◌}
use native.Mathlib.Nat.{le_trans, add-zero}
use native.Mathlib.Omega.{arith}
use lib.Count.{count_trailing_zeros}
use lib.Dec.{eqb, lit≤}
use lib.ListN.{length, get_or, take}
use lib.Ieee.{Float, nan}
use Rattle.rules.specs.Limits.{desk}
use Rattle.rules.specs.Lists.{any, member, pad}
use Rattle.rules.specs.Floats.{plus_zero, signed_distance, side_of}
use Rattle.rules.specs.Table.{Table, Element, corner, polytope, element, element_count, rank, vertex_of}
use Rattle.rules.specs.Sound.{sound, sound_point}
use Rattle.rules.specs.Held.{Holds, points_of}
use Rattle.rules.specs.Questions.{with_rank, vertex_set}
use Rattle.rules.specs.Replies.{divider_of}
use Rattle.rules.specs.Touch.{vertex_side, corner_sides, is_inside, is_outside, touch_by, touch_of, tested_from, touched}
use Rattle.rules.specs.declared.Hyperplane.{Hyperplane}
use Rattle.rules.specs.declared.Side.{Side}
use Rattle.rules.specs.declared.Side.TheVariants.{Inside, On, Outside}
use Rattle.rules.proofs.Corners.{corner_named_lem}
use Rattle.rules.proofs.Good.{Good, sound_good, above_zero}
use Rattle.rules.proofs.Growing.{all_get, map_append}
use Rattle.rules.proofs.Laws.{or_left, or_right, eqb_self, le_test}
use Rattle.rules.proofs.RoundTrip.{point_back, point_long}
use Rattle.space.specs.Shared.{stored_point}
use Rattle.space.proofs.Room.{point_word_or}
use Rattle.space.proofs.RowAdds.{readable_desk}
use Rattle.space.proofs.VertexMemo.{four_is, dimension_is}
use Rattle.space.proofs.Slices.{slices}
use Rattle.soundness.proofs.ReadBack.{map_map}
use Rattle.elements.specs.Marks.{bits_from, words_from, marked_numbers}
use Rattle.elements.specs.Below.{Lent}
use Rattle.elements.specs.Ranks.{vertex_word}
use Rattle.elements.specs.Levels.{Level}
use Rattle.elements.specs.Touches.{corner_side, CornerReady, nothing_tested, with_side, tested_to, WordTestable, WordTested, CornersReady, TouchReady, FiniteTouched}
use Rattle.elements.specs.declared.touch.Tested.{Tested}
use Rattle.elements.proofs.MemberLaws.{word_marked}
use Rattle.elements.proofs.WordLoops.{Leaving, numbers_left, leaving_start, all_left, none_left, next_inside, next_left, leaving_next, words_whole, next_word, no_words}
use Rattle.elements.proofs.RankLoops.{vertex_named, wanted_used, wanted_rank, map_ranked}
use Rattle.rules.specs.Refusals.{Reply}
use Rattle.rules.specs.declared.Touched.{Touched}
use Rattle.rules.specs.Touch.{touch_with}

-- ---- in rising order, until both have been met

stays : (s : Tested) (ss : List Side) → (s.inside && s.outside) ≡ true → s ≡ tested_to s ss
unfolding tested_to
stays s [] q = refl
stays s (x ∷ xs) q = ap (λ (b : Bool). if b then s else tested_to (with_side s x) xs) (sym q)

goes_on : (s : Tested) (x : Side) (xs : List Side) → (s.inside && s.outside) ≡ false → tested_to s (x ∷ xs) ≡ tested_to (with_side s x) xs
unfolding tested_to
goes_on s x xs q = ap (λ (b : Bool). if b then s else tested_to (with_side s x) xs) q

one_more_lem : (s : Tested) (x : Side) → (with_side s x).corners ≡ s.corners + 1
one_more_lem s Inside = refl
one_more_lem s On = refl
one_more_lem s Outside = refl

tested_append : (s : Tested) (xs ys : List Side) → tested_to s (xs ++ ys) ≡ tested_to (tested_to s xs) ys
unfolding tested_to
tested_append s [] ys = refl
tested_append s (x ∷ xs) ys = go (s.inside && s.outside) refl (tested_append (with_side s x) xs ys)
  where
    go : (b : Bool) → (s.inside && s.outside) ≡ b → tested_to (with_side s x) (xs ++ ys) ≡ tested_to (tested_to (with_side s x) xs) ys
        → (if b then s else tested_to (with_side s x) (xs ++ ys)) ≡ tested_to (if b then s else tested_to (with_side s x) xs) ys
    go true q later = stays s ys q
    go false q later = later

tested_none : (s : Tested) → tested_to s [] ≡ s
unfolding tested_to
tested_none s = refl

module _ (d : ℕ) (h : Hyperplane) (ps : List Float) (es : List ℕ) where
  abbrev sides : List ℕ → List Side
  sides xs = map (corner_side d h ps es) xs

  -- ---- those of a word

  -- the numbers that are left of it are to come
  pub record Testing (word base : ℕ) (s₀ s : Tested) (x left : ℕ) : Type 0 where
    pub ready : WordTestable ps es word base s₀
    pub leaving : Leaving base x left
    pub vertex : (y : ℕ) → member y (numbers_left base x left) ≡ true → vertex_word es y < 256
    pub few : s.corners ≤ x
    pub same : tested_to s₀ (sides (bits_from 64 word base)) ≡ tested_to s (sides (numbers_left base x left))

  pub testing_start : (word base : ℕ) (s : Tested) → word < 2 ^ 64 → WordTestable ps es word base s → Testing word base s s base word
  testing_start word base s l r =
      let e = all_left base word in
      record {
        ready = r;
        leaving = leaving_start base word l;
        vertex = λ y m. r.vertex y (ap (member y) e ∙ m);
        few = r.few;
        same = ap (λ (xs : List ℕ). tested_to s (sides xs)) e;
      }

  module _ (word base : ℕ) (s₀ s : Tested) (x left : ℕ) (T : Testing word base s₀ s x left) where
    told_few : s.corners ≤ base + 64
    told_few = let f = T.few in let l = T.leaving.span in omega (arith, f, l)

    pub testing_stops : (s.inside && s.outside) ≡ true → WordTested d h ps es word base s₀ s
    testing_stops q = record { same = stays s (sides (numbers_left base x left)) q ∙ sym T.same; few = told_few }

    pub testing_ends : left ≡ 0 → WordTested d h ps es word base s₀ s
    testing_ends e = record { same = sym (T.same ∙ ap (λ (xs : List ℕ). tested_to s (sides xs)) (none_left base x left e) ∙ tested_none s); few = told_few }

    module _ (z : ℕ) (q : z ≡ count_trailing_zeros 64 left) (n : left ≡ 0 → ⊥) where
      abbrev rest : List ℕ
      rest = numbers_left base (x + z + 1) (left / 2 ^ z / 2 ^ 1)

      split : numbers_left base x left ≡ (x + z) ∷ rest
      split = next_left base x left T.leaving z q n

      pub testing_corner : CornerReady ps es (x + z)
      testing_corner = record {
        points = T.ready.points;
        elements = T.ready.elements;
        in_room = let l = next_inside base x left T.leaving z q n in let b = T.ready.low in omega (arith, l, b);
        vertex = T.vertex (x + z) (ap (member (x + z)) split ∙ or_left (eqb (x + z) (x + z)) (member (x + z) rest) (eqb_self (x + z)));
      }

      pub testing_next : (s.inside && s.outside) ≡ false → (side : Side) (r : Tested) → side ≡ corner_side d h ps es (x + z) → r ≡ with_side s side
          → Testing word base s₀ r (x + z + 1) (left / 2 ^ z / 2 ^ 1)
      testing_next b side r k e = record {
        ready = T.ready;
        leaving = leaving_next base x left T.leaving z q n;
        vertex = λ y m. T.vertex y (ap (member y) split ∙ or_right (eqb y (x + z)) (member y rest) m);
        few = let c = ap (λ (y : Tested). y.corners) e ∙ one_more_lem s side in let f = T.few in omega (arith, c, f);
        same =
            T.same ∙ ap (λ (xs : List ℕ). tested_to s (sides xs)) split
            ∙ goes_on s (corner_side d h ps es (x + z)) (sides rest) b
            ∙ ap (λ (y : Tested). tested_to y (sides rest)) (sym (e ∙ ap (with_side s) k));
      }

  -- ---- those of a set

  -- the words from w on are left
  pub record AllTesting (ws : List ℕ) (s : Tested) (w : ℕ) : Type 0 where
    pub few : s.corners ≤ w * 64
    pub same : tested_to nothing_tested (sides (marked_numbers ws)) ≡ tested_to s (sides (words_from (8 - w) w ws))

  pub all_start : (ws : List ℕ) → AllTesting ws nothing_tested 0
  all_start ws = record { few = omega arith; same = ap (λ (xs : List ℕ). tested_to nothing_tested (sides xs)) (words_whole ws) }

  module _ (ws : List ℕ) (s : Tested) (w : ℕ) (T : AllTesting ws s w) where
    pub all_ends : w ≡ 8 → s ≡ tested_to nothing_tested (sides (marked_numbers ws))
    all_ends e = sym (T.same ∙ ap (λ (xs : List ℕ). tested_to s (sides xs)) (no_words ws w e) ∙ tested_none s)

    pub word_testable : w < 8 → CornersReady ps es ws → WordTestable ps es (get_or ws w 0) (w * 64) s
    word_testable l r = record {
      points = r.points;
      elements = r.elements;
      low = omega (arith, l);
      vertex = λ x m. r.vertex x (word_marked ws x w m);
      few = T.few;
    }

    pub all_next : (r : Tested) → w < 8 → WordTested d h ps es (get_or ws w 0) (w * 64) s r → AllTesting ws r (w + 1)
    all_next r l W = record {
      few = let f = W.few in omega (arith, f);
      same =
          T.same ∙ ap (λ (xs : List ℕ). tested_to s (sides xs)) (next_word ws w l)
          ∙ ap (tested_to s) (map_append (corner_side d h ps es) word rest)
          ∙ tested_append s (sides word) (sides rest)
          ∙ ap (λ (y : Tested). tested_to y (sides rest)) (sym W.same);
    }
      where
        word : List ℕ
        word = bits_from 64 (get_or ws w 0) (w * 64)

        rest : List ℕ
        rest = words_from (8 - (w + 1)) (w + 1) ws

-- ---- what that tells

abbrev answer_of : Tested → Reply Touched
answer_of s = Ok (touch_with (touch_by s.inside s.outside) s.corners)

abbrev begun : Bool → Bool → ℕ → Tested
begun i o k = record { inside = i; outside = o; corners = k }

-- from any beginning at which not both have been met
abbrev Told : List Side → Type 0
Told ss = (i o : Bool) (k : ℕ) → (i && o) ≡ false
    → answer_of (tested_to (begun i o k) ss) ≡ Ok (touch_with (touch_by (i || any is_inside ss) (o || any is_outside ss)) (k + tested_from i o ss))

module _ (ss : List Side) (k : ℕ) where
  -- both are met at this corner, or it goes on
  last : answer_of (tested_to (begun true true (k + 1)) ss) ≡ Ok (touch_with (touch_by true true) (k + 1))
  last = sym (ap answer_of (stays (begun true true (k + 1)) ss refl))

  later : Told ss → (i o : Bool) → (i && o) ≡ false
      → answer_of (tested_to (begun i o (k + 1)) ss) ≡ Ok (touch_with (touch_by (i || any is_inside ss) (o || any is_outside ss)) (k + suc (tested_from i o ss)))
  later told i o q =
      told i o (k + 1) q ∙ ap (λ (n : ℕ). Ok (touch_with (touch_by (i || any is_inside ss) (o || any is_outside ss)) n)) (let z : k + 1 + tested_from i o ss ≡ k + suc (tested_from i o ss) = omega arith in z)

all_told : (ss : List Side) → Told ss
unfolding tested_to tested_from
all_told [] true true k q = absurd (true≢false q)
all_told [] true false k q = ap (λ (n : ℕ). Ok (touch_with (touch_by true false) n)) (sym (add-zero k))
all_told [] false true k q = ap (λ (n : ℕ). Ok (touch_with (touch_by false true) n)) (sym (add-zero k))
all_told [] false false k q = ap (λ (n : ℕ). Ok (touch_with (touch_by false false) n)) (sym (add-zero k))
all_told (x ∷ ss) true true k q = absurd (true≢false q)
all_told (Inside ∷ ss) true false k q = later ss k (all_told ss) true false refl
all_told (On ∷ ss) true false k q = later ss k (all_told ss) true false refl
all_told (Outside ∷ ss) true false k q = last ss k
all_told (Inside ∷ ss) false true k q = last ss k
all_told (On ∷ ss) false true k q = later ss k (all_told ss) false true refl
all_told (Outside ∷ ss) false true k q = later ss k (all_told ss) false true refl
all_told (Inside ∷ ss) false false k q = later ss k (all_told ss) true false refl
all_told (On ∷ ss) false false k q = later ss k (all_told ss) false false refl
all_told (Outside ∷ ss) false false k q = later ss k (all_told ss) false true refl

sides_told : (ss : List Side) → answer_of (tested_to nothing_tested ss) ≡ touched ss
unfolding touch_of
sides_told ss = all_told ss false false 0 refl ∙ ap (λ (n : ℕ). Ok (touch_with (touch_by (any is_inside ss) (any is_outside ss)) n)) (let z : 0 + tested_from false false ss ≡ tested_from false false ss = omega arith in z)

-- ---- the corners of a root of a sound table

module _ {cs : List ℕ} {ps hs : List Float} {es : List ℕ} {t : Table} (H : Holds desk cs ps hs es t) (s : sound desk t ≡ true) where
  pub lent : Lent es t
  lent = record { elements = H.elements; fits = H.fits; sound = s }

  good : Good desk t
  good = sound_good desk t s

  -- the point of a vertex is the lent one, over the dimension
  module _ (v : ℕ) (l : v < length t.points) where
    abbrev point : List Float
    point = get_or t.points v []

    point_sound : sound_point t.dimension point ≡ true
    point_sound = all_get (sound_point t.dimension) t.points v [] l good.points

    float_is : (j : ℕ) → j < 4 → get_or (points_of desk t) (v * 4 + j) nan ≡ get_or (pad plus_zero 4 point) j nan
    float_is j k = point_word_or desk t H.fits v j nan l k

    stored_is : stored_point ps v ≡ pad plus_zero 4 point
    stored_is =
        let first = ap (λ (j : ℕ). get_or (points_of desk t) j nan) (sym (add-zero (v * 4))) ∙ float_is 0 (lit≤ tt) in
        ap (λ (f : List Float). stored_point f v) H.points
        ∙ (λ i. first i ∷ float_is 1 (lit≤ tt) i ∷ float_is 2 (lit≤ tt) i ∷ float_is 3 (lit≤ tt) i ∷ [])
        ∙ four_is (pad plus_zero 4 point) (point_long desk readable_desk t.dimension (le_test t.dimension 4 good.high) point point_sound)

    point_is : take t.dimension (stored_point ps v) ≡ point
    point_is = ap (take t.dimension) stored_is ∙ point_back desk readable_desk t.dimension point point_sound

  -- a corner's vertex, and its side
  module _ (x : ℕ) (u : x < element_count t) (z : rank t x ≡ 0) where
    named : vertex_of (element t x) < length t.points
    named = go (element t x) refl
      where
        go : (y : Element) → element t x ≡ y → vertex_of y < length t.points
        go (corner v) q = corner_named_lem desk t good x v u q
        go (polytope r b k m) q = absurd (above_zero desk t x r b k m good u q z)

    pub vertex_low : vertex_word es x < 256
    vertex_low = subst (λ (v : ℕ). v < 256) (sym (vertex_named es t lent x u z)) (le_trans named H.fits.point_room)

    pub side_is : (d : ℕ) (h : Hyperplane) → d ≡ t.dimension → corner_side d h ps es x ≡ vertex_side (divider_of t.dimension h) t (vertex_of (element t x))
    side_is d h e =
        (λ i. side_of (signed_distance (take (e i) h.normal) h.distance (take (e i) (stored_point ps (vertex_named es t lent x u z i)))))
        ∙ ap (λ (p : List Float). side_of (signed_distance (take t.dimension h.normal) h.distance p)) (point_is (vertex_of (element t x)) named)

  module _ (root : ℕ) (u : root < element_count t) (ws : List ℕ) (v : Level es root 0 ws) where
    pub corners_ready : CornersReady ps es ws
    corners_ready = record {
      points = (slices H).points;
      elements = (slices H).elements;
      vertex = λ x m. (let w = sym (v.of t lent u x) ∙ m in vertex_low x (wanted_used es t lent root u 0 x w) (wanted_rank es t lent root u 0 x w));
    }

    pub sides_are : (d : ℕ) (h : Hyperplane) → d ≡ t.dimension → map (corner_side d h ps es) (marked_numbers ws) ≡ corner_sides (divider_of t.dimension h) t root
    unfolding corner_sides vertex_set
    sides_are d h e =
        map_ranked es t lent root u 0 ws v (corner_side d h ps es) (λ x. vertex_side (divider_of t.dimension h) t (vertex_of (element t x))) (λ x k z. side_is x k z d h e)
        ∙ sym (map_map (vertex_side (divider_of t.dimension h) t) (λ x. vertex_of (element t x)) (with_rank t 0 root))

-- ---- the contract of a finite touch

pub ready_corners : {cs : List ℕ} {ps : List Float} {es : List ℕ} {root : ℕ} {ws : List ℕ} → TouchReady cs ps es root → Level es root 0 ws → CornersReady ps es ws
ready_corners {root = root} {ws} R v = corners_ready R.holds R.sound root R.used ws v

pub finite_touched : {cs : List ℕ} {ps : List Float} {es : List ℕ} {h : Hyperplane} {root : ℕ} (ws : List ℕ) (d : ℕ) (s : Tested) {r : Touched}
    → Level es root 0 ws → d ≡ get_or cs 0 0 → s ≡ tested_to nothing_tested (map (corner_side d h ps es) (marked_numbers ws)) → r ≡ touch_with (touch_by s.inside s.outside) s.corners → FiniteTouched cs ps es h root r
finite_touched {h = h} {root} ws d s v e q a = record {
  of = λ hs t H k u. ap Ok a ∙ ap answer_of (q ∙ ap (tested_to nothing_tested) (sides_are H k root u ws v d h (dimension_is d e H)))
      ∙ sides_told (corner_sides (divider_of t.dimension h) t root);
}

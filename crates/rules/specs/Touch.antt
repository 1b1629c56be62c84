-- Document 02, order 6: where the corners of an element lie to a plane, without a cut; the whole reply, and what is promised of it. Definitions only.
use Rattle.std.specs.Prelude.{ℕ, suc, ◌≤◌, ◌<◌, ◌≡◌, Bool, true, false, not, ◌&&◌, ◌||◌, List, [], ◌∷◌, map, ltb, length, get_or, take, Float, if◌then◌else◌, Option, None, Err, Ok}
use Rattle.std.specs.Float.{nan, inf, fin}
use Rattle.rules.specs.Limits.{Limits}
use Rattle.rules.specs.Lists.{any, member}
use Rattle.rules.specs.Floats.{signed_distance, side_of, close_call}
use Rattle.rules.specs.Table.{ElementNumber, VertexNumber, Plane, Table, rank, element_count, point_at}
use Rattle.rules.specs.Sound.{sound, sound_plane}
use Rattle.rules.specs.Memory.{Memory, decode, sound_memory}
use Rattle.rules.specs.Cut.{Step, done, next, give, given, add_plane, keeping, cut}
use Rattle.rules.specs.Questions.{is_below, vertex_set}
use Rattle.rules.specs.Replies.{is_kept, divider_fits, divider_of, cut_by, written, cut_reply}
use Rattle.rules.specs.declared.Hyperplane.{Hyperplane}
use Rattle.rules.specs.declared.PolytopeFate.{PolytopeFate}
use Rattle.rules.specs.declared.Side.{Side}
use Rattle.rules.specs.declared.Side.TheVariants.{Inside, On, Outside}
use Rattle.rules.specs.declared.ElementCutOutput.{ElementCutOutput}
use Rattle.rules.specs.declared.ElementCutOutput.TheVariants.{Flush, NonFlush}
use Rattle.rules.specs.declared.ElementAnswer.{ElementAnswer}
use Rattle.rules.specs.declared.Touch.{Touch}
use Rattle.rules.specs.declared.Touch.TheVariants.{AllOn, InsideOrOn, OutsideOrOn, Both}
use Rattle.rules.specs.Refusals.{Reply, reply_number}
use Rattle.rules.specs.declared.ElementId.{ElementId}
use Rattle.rules.specs.declared.Refusal.TheVariants.{Divider, NotInUse, NotSound}
use Rattle.rules.specs.declared.Touched.{Touched}

-- ---- the sides of the full vertex set, and close calls in it

abbrev pub vertex_side : Plane → Table → VertexNumber → Side
vertex_side h t v = side_of (signed_distance h.normal h.distance (get_or t.points v []))

-- in rising vertex order
unfoldable pub corner_sides : Plane → Table → ElementNumber → List Side
corner_sides h t root = map (vertex_side h t) (vertex_set t root)

-- some vertex of the root's vertex set is a close call
abbrev pub some_close_call : Plane → Table → ElementNumber → Bool
some_close_call h t root = any (λ v. close_call (signed_distance h.normal h.distance (get_or t.points v []))) (vertex_set t root)

abbrev pub is_inside : Side → Bool
is_inside Inside = true
is_inside On = false
is_inside Outside = false

abbrev pub is_outside : Side → Bool
is_outside Inside = false
is_outside On = false
is_outside Outside = true

-- ---- the answer and the count

-- by whether a corner lies inside, and whether one lies outside
abbrev pub touch_by : Bool → Bool → Touch
touch_by false false = AllOn
touch_by true false = InsideOrOn
touch_by false true = OutsideOrOn
touch_by true true = Both

-- what is read from some sides
unfoldable pub touch_of : List Side → Touch
touch_of ss = touch_by (any is_inside ss) (any is_outside ss)

-- how many of these corners are tested, where an inside and an outside corner have been met before or not: up to and with the first at which both have been, or all
unfoldable pub tested_from : Bool → Bool → List Side → ℕ
tested_from i o [] = 0
tested_from i o (s ∷ ss) =
    let rest = tested_from (i || is_inside s) (o || is_outside s) ss in if (i || is_inside s) && (o || is_outside s) then 1 else suc rest

-- an answer, and how many corners were tested for it
abbrev pub touch_with : Touch → ℕ → Touched
touch_with a k = record { answer = a; tested = k }

abbrev pub touched : List Side → Reply Touched
touched ss = Ok (touch_with (touch_of ss) (tested_from false false ss))

-- an infinite distance tests none and gives the side of rule 1
abbrev pub touch_at_distance : Plane → Float → ElementNumber → Table → Reply Touched
touch_at_distance h (inf false) root t = Ok (touch_with InsideOrOn 0)
touch_at_distance h (inf true) root t = Ok (touch_with OutsideOrOn 0)
touch_at_distance h nan root t = touched (corner_sides h t root)
touch_at_distance h (fin s m e) root t = touched (corner_sides h t root)

unfoldable pub touch : Plane → ElementNumber → Table → Reply Touched
touch h root t = touch_at_distance h h.distance root t

-- 3, 4, 5 as a cut has them; the memory is read only
unfoldable pub touch_reply : Limits → Hyperplane → ElementNumber → Memory → Reply Touched
touch_reply L h root m =
    let t = decode L m in
    if not (sound_memory L m) then Err NotSound
    else if not (ltb root (element_count t)) then Err NotInUse
    else if not (divider_fits L t.dimension h) then Err Divider
    else touch (divider_of t.dimension h) root t

-- ---- the number and the values of each case

-- 1 where a corner lies inside, and 2 more where one lies outside
abbrev pub touch_value : Touch → ℕ
touch_value AllOn = 0
touch_value InsideOrOn = 1
touch_value OutsideOrOn = 2
touch_value Both = 3

-- the answer and the count; a refusal carries neither
abbrev pub touch_values : Reply Touched → List ℕ
touch_values (Err n) = []
touch_values (Ok t) = touch_value t.answer ∷ t.tested ∷ []

-- ---- promises: the reply

-- the number is 0 with an answer and a count, or 3, 4 or 5 with neither
pub record TouchNumbered (r : Reply Touched) : Type 0 where
  pub number : member (reply_number r) (0 ∷ 3 ∷ 4 ∷ 5 ∷ []) ≡ true
  pub answered : reply_number r ≡ 0 → (a : Touch) × (k : ℕ) × (r ≡ Ok (touch_with a k))
  pub refused : 0 < reply_number r → touch_values r ≡ []

abbrev pub TouchNumbers : Limits → Type 0
TouchNumbers L = (h : Hyperplane) (root : ElementNumber) (m : Memory) → TouchNumbered (touch_reply L h root m)

-- where it is not refused, an infinite distance tests no corner: all inside for +, all outside for -
abbrev pub TouchInfinite : Limits → Type 0
TouchInfinite L = (h : Hyperplane) (root : ElementNumber) (m : Memory) → reply_number (touch_reply L h root m) ≡ 0
    → (h.distance ≡ inf false → touch_reply L h root m ≡ Ok (touch_with InsideOrOn 0)) × (h.distance ≡ inf true → touch_reply L h root m ≡ Ok (touch_with OutsideOrOn 0))

-- ---- promises: the answer and the count, of an element in use in a sound table, by a plane that fits it

-- x is a corner of the root, and lies on this side
pub record CornerAt (side : Side) (h : Plane) (t : Table) (root x : ElementNumber) : Type 0 where
  pub below : is_below t root x ≡ true
  pub corner : rank t x ≡ 0
  pub lies : side_of (signed_distance h.normal h.distance (point_at t x)) ≡ side

abbrev pub SomeCorner : Side → Plane → Table → ElementNumber → Type 0
SomeCorner side h t root = (x : ElementNumber) × CornerAt side h t root x

-- what an answer says of the inside, and of the outside
abbrev pub says_inside : Touch → Bool
says_inside AllOn = false
says_inside InsideOrOn = true
says_inside OutsideOrOn = false
says_inside Both = true

abbrev pub says_outside : Touch → Bool
says_outside AllOn = false
says_outside InsideOrOn = false
says_outside OutsideOrOn = true
says_outside Both = true

-- it says so exactly where a corner lies there
pub record ReadFromCorners (h : Plane) (t : Table) (root : ElementNumber) (a : Touch) : Type 0 where
  pub inside : says_inside a ≡ true → SomeCorner Inside h t root
  pub inside_told : SomeCorner Inside h t root → says_inside a ≡ true
  pub outside : says_outside a ≡ true → SomeCorner Outside h t root
  pub outside_told : SomeCorner Outside h t root → says_outside a ≡ true

-- of these sides the first k were tested: they alone tell what all tell; no fewer have both an inside and an outside corner, and where some were not tested these have
pub record Counted (ss : List Side) (a : Touch) (k : ℕ) : Type 0 where
  pub whole : a ≡ touch_of ss
  pub enough : a ≡ touch_of (take k ss)
  pub few : k ≤ length ss
  pub first : (j : ℕ) → j < k → touch_of (take j ss) ≡ Both → ⊥
  pub stopped : k < length ss → a ≡ Both

-- a call on a sound table
pub record Touches (L : Limits) (h : Plane) (root : ElementNumber) (t : Table) : Type 0 where
  pub sound : sound L t ≡ true
  pub used : root < element_count t
  pub fits : sound_plane t.dimension h ≡ true

abbrev pub TouchIsRead : Limits → Type 0
TouchIsRead L = (h : Plane) (root : ElementNumber) (t : Table) (a : Touch) (k : ℕ) → Touches L h root t → touch h root t ≡ Ok (touch_with a k) → ReadFromCorners h t root a

abbrev pub TouchIsCounted : Limits → Type 0
TouchIsCounted L = (h : Plane) (root : ElementNumber) (t : Table) (a : Touch) (k : ℕ) → Touches L h root t → touch h root t ≡ Ok (touch_with a k) → Counted (corner_sides h t root) a k

-- ---- promises: the cut of the same root by the same plane, whichever sides are kept unless it is said

-- rule 2 and nothing more, and this answer with this warning
abbrev pub only_plane : Limits → Plane → ElementCutOutput → Bool → Step ElementAnswer
only_plane L h a w = λ t. next (add_plane L h t) (λ n. give (record { output = a; warning = w }))

-- all on: the cut is flush, without a warning
abbrev pub AllOnIsFlush : Limits → Type 0
AllOnIsFlush L = (h : Plane) (root : ElementNumber) (t : Table) (k : ℕ) → Touches L h root t → touch h root t ≡ Ok (touch_with AllOn k)
    → (i o : Bool) → cut L (keeping h i o) root t ≡ only_plane L h Flush false t

-- all inside or on with no corner on, and inside kept: the piece is missed, with a warning where a corner is a close call; the same for outside
abbrev pub OneSideIsMissed : Limits → Type 0
OneSideIsMissed L = (h : Plane) (root : ElementNumber) (t : Table) (k : ℕ) → Touches L h root t → (SomeCorner On h t root → ⊥)
    → let warning = some_close_call h t root in
    (touch h root t ≡ Ok (touch_with InsideOrOn k) → (o : Bool) → cut L (keeping h true o) root t ≡ only_plane L h (NonFlush (given root) None None) warning t)
    × (touch h root t ≡ Ok (touch_with OutsideOrOn k) → (i : Bool) → cut L (keeping h i true) root t ≡ only_plane L h (NonFlush None (given root) None) warning t)

-- unless both are met, the cut adds no vertex
abbrev pub OneSideAddsNoVertex : Limits → Type 0
OneSideAddsNoVertex L = (h : Plane) (root : ElementNumber) (t : Table) (a : Touch) (k : ℕ) → Touches L h root t → touch h root t ≡ Ok (touch_with a k) → (a ≡ Both → ⊥)
    → (i o : Bool) (b : ElementAnswer) (u : Table) → cut L (keeping h i o) root t ≡ done b u → u.points ≡ t.points

-- an edge that has both is cut at a corner: it is not flush, and not missed
abbrev pub BothCutsAnEdge : Limits → Type 0
BothCutsAnEdge L = (h : Plane) (root : ElementNumber) (t : Table) (k : ℕ) → Touches L h root t → touch h root t ≡ Ok (touch_with Both k) → rank t root ≡ 1
    → (i o : Bool) (b : ElementAnswer) (u : Table) → cut L (keeping h i o) root t ≡ done b u
    → (x : ElementNumber) × (p q : Option ElementId) × (b.output ≡ NonFlush p q (given x))

-- ---- promises: of the replies

-- the touch of a call is that of the memory's table by the divider as its hyperplane, which fits it, and so is the cut of the same root
pub record OfTheTable (L : Limits) (h : Hyperplane) (root : ElementNumber) (m : Memory) : Type 0 where
  pub fits : Touches L (divider_of (decode L m).dimension h) root (decode L m)
  pub touching : touch_reply L h root m ≡ touch (divider_of (decode L m).dimension h) root (decode L m)
  pub cutting : (i o : PolytopeFate) → cut_reply L (cut_by h i o) root m ≡ written L m (cut L (keeping (divider_of (decode L m).dimension h) (is_kept i) (is_kept o)) root (decode L m))

-- so it is where a touch is done and the distance is no infinity: what is promised of a table's touch and cut is promised of these replies
abbrev pub TouchIsOfTheTable : Limits → Type 0
TouchIsOfTheTable L = (h : Hyperplane) (root : ElementNumber) (m : Memory) → ((s : Bool) → h.distance ≡ inf s → ⊥)
    → reply_number (touch_reply L h root m) ≡ 0 → OfTheTable L h root m

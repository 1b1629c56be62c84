-- Document 01, "The cut", rules 1 to 8. Definitions only.
-- A step works on a table, and gives a value with the table after it, or is refused with a number. A choice on what a search or a test gives is a function of its own, by clauses.
use Rattle.std.specs.Prelude.{ℕ, zero, suc, ◌-◌, Bool, true, false, not, ◌&&◌, ◌||◌, List, [], ◌∷◌, ◌++◌, leb, ltb, eqb, length, get_or, drop, Float, if◌then◌else◌, Option, Some, None}
use Rattle.std.specs.Float.{nan, inf, fin}
use Rattle.rules.specs.Limits.{Limits}
use Rattle.rules.specs.Lists.{find, find_from, with_member}
use Rattle.rules.specs.Floats.{signed_distance, side_test, edge_test, crossing_point, matches, point_matches}
use Rattle.rules.specs.Table.{ElementNumber, HyperplaneNumber, VertexNumber, Element, corner, polytope, Plane, Table, rank_of, boundary_of, plane_of, is_primordial, same_element, element, rank, element_count, point_at, primordials}
use Rattle.rules.specs.Sound.{closed}
use Rattle.rules.specs.declared.Refusal.{Refusal}
use Rattle.rules.specs.declared.Side.{Side}
use Rattle.rules.specs.declared.Side.TheVariants.{Inside, On, Outside}
use Rattle.rules.specs.declared.SideTest.{SideTest}
use Rattle.rules.specs.declared.ElementCutOutput.{ElementCutOutput}
use Rattle.rules.specs.declared.ElementCutOutput.TheVariants.{Flush, NonFlush}
use Rattle.rules.specs.declared.ElementAnswer.{ElementAnswer}
use Rattle.rules.specs.declared.ElementId.{ElementId}
use Rattle.rules.specs.declared.Refusal.TheVariants.{BoundaryFull, ElementsFull, HyperplanesFull, NotClosed, VerticesFull}

-- ---- steps

pub data Outcome (A : Type 0) : Type 0 where
  refused : Refusal → Outcome A
  done : A → Table → Outcome A

abbrev pub Step : Type 0 → Type 0
Step A = Table → Outcome A

module _ {A : Type 0} where
  abbrev pub give : A → Step A
  give a = λ t. done a t

abbrev pub table : Step Table
table = λ t. done t t

module _ {A B : Type 0} where
  -- what is done goes on with its value and its table, and a refusal stays
  abbrev pub next : Outcome A → (A → Step B) → Outcome B
  next (refused n) f = refused n
  next (done a t) f = f a t

  infixl 1 ◌>>=◌
  abbrev pub ◌>>=◌ : Step A → (A → Step B) → Step B
  ◌>>=◌ m f = λ t. next (m t) f

-- ---- entries appended

abbrev pub with_element : Element → Table → Table
with_element e t = record { dimension = t.dimension; points = t.points; elements = t.elements ++ e ∷ []; planes = t.planes }

abbrev pub with_point : List Float → Table → Table
with_point p t = record { dimension = t.dimension; points = t.points ++ p ∷ []; elements = t.elements; planes = t.planes }

abbrev pub with_plane : Plane → Table → Table
with_plane h t = record { dimension = t.dimension; points = t.points; elements = t.elements; planes = t.planes ++ h ∷ [] }

-- the equal entry that was found, or a new one (9)
abbrev pub share_element : Limits → Element → Option ElementNumber → Step ElementNumber
share_element L e (Some i) = give i
share_element L e None = λ t. if ltb (element_count t) L.elements then done (element_count t) (with_element e t) else refused ElementsFull

unfoldable pub add_element : Limits → Element → Step ElementNumber
add_element L e = λ t. share_element L e (find (same_element e) t.elements) t

-- the element of a number
abbrev pub given : ElementNumber → Option ElementId
given e = Some (record { 0 = e })

-- rule 8: a new boundary whose count is not above its rank gives none; otherwise it is equal to an old entry, or is appended (11, 7, equal entry, 9)
unfoldable pub add_polytope : Limits → ℕ → List ElementNumber → Option HyperplaneNumber → Bool → Step (Option ElementId)
add_polytope L r b h m = λ t.
    if leb (length b) r then done None t
    else if ltb L.boundary (length b) then refused BoundaryFull
    else if not (closed t r b) then refused NotClosed
    else next (add_element L (polytope r b h m) t) (λ i. give (given i))

-- the element of the lowest match, which is there already; or a new vertex (8), then its element (9)
abbrev pub share_vertex : Limits → List Float → Option VertexNumber → Step ElementNumber
share_vertex L p (Some v) = add_element L (corner v)
share_vertex L p None = λ t.
    if ltb (length t.points) L.vertices then add_element L (corner (length t.points)) (with_point p t) else refused VerticesFull

unfoldable pub add_vertex : Limits → List Float → Step ElementNumber
add_vertex L p = λ t. share_vertex L p (find (λ q. point_matches q p) t.points) t

-- a hyperplane matches by all components and distance
unfoldable pub plane_matches : Plane → Plane → Bool
plane_matches earlier later = point_matches earlier.normal later.normal && matches earlier.distance later.distance

-- the lowest match, or a new hyperplane (10)
abbrev pub share_plane : Limits → Plane → Option HyperplaneNumber → Step HyperplaneNumber
share_plane L h (Some n) = give n
share_plane L h None = λ t. if ltb (length t.planes) L.hyperplanes then done (length t.planes) (with_plane h t) else refused HyperplanesFull

-- hyperplanes numbered below P are never matched
unfoldable pub add_plane : Limits → Plane → Step HyperplaneNumber
add_plane L h = λ t.
    let p = primordials t.dimension in share_plane L h (find_from p (λ g. plane_matches g h) (drop p t.planes)) t

-- ---- the cut of one element

-- the parameters of a cut: the divider as given, which the side tests use, and which sides are kept
pub record Params : Type 0 where
  pub divider : Plane
  pub keep_inside : Bool
  pub keep_outside : Bool

abbrev pub keeping : Plane → Bool → Bool → Params
keeping h i o = record { divider = h; keep_inside = i; keep_outside = o }

-- what a cut has at hand: its parameters, and the number of its divider's hyperplane
pub record Cutting : Type 0 where
  pub params : Params
  pub number : HyperplaneNumber

-- what rules 4 and 5 gather: flush answers, which are counted, the sets of inside, outside and intersection answers, and whether any answer came with a warning
pub record Gathered : Type 0 where
  pub flush : List ElementNumber
  pub inside : List ElementNumber
  pub outside : List ElementNumber
  pub intersections : List ElementNumber
  pub warning : Bool

abbrev pub nothing_yet : Gathered
nothing_yet = record { flush = []; inside = []; outside = []; intersections = []; warning = false }

abbrev pub distance_of : Cutting → List Float → Float
distance_of c p = signed_distance c.params.divider.normal c.params.divider.distance p

-- rule 3: On is Flush; else it is given on its side, also when that side is removed
abbrev pub corner_output : ElementNumber → Side → ElementCutOutput
corner_output e Inside = NonFlush (given e) None None
corner_output e On = Flush
corner_output e Outside = NonFlush None (given e) None

-- and the warning is that of its side test
abbrev pub corner_answer : ElementNumber → SideTest → ElementAnswer
corner_answer e s = record { output = corner_output e s.side; warning = s.warning }

unfoldable pub cut_corner : Cutting → ElementNumber → Step ElementAnswer
cut_corner c e = λ t. done (corner_answer e (side_test (distance_of c (point_at t e)))) t

-- a set with an element in it, or as it is
abbrev pub including : Option ElementId → List ElementNumber → List ElementNumber
including None s = s
including (Some e) s = with_member e.0 s

-- the output of boundary element b is counted or gathered, with this warning
abbrev pub gathering_output : ElementNumber → ElementCutOutput → Bool → Gathered → Gathered
gathering_output b Flush w g = record { flush = b ∷ g.flush; inside = g.inside; outside = g.outside; intersections = g.intersections; warning = w }
gathering_output b (NonFlush i o x) w g = record {
  flush = g.flush;
  inside = including i g.inside;
  outside = including o g.outside;
  intersections = including x g.intersections;
  warning = w;
}

-- the answer of boundary element b: one warning is enough
abbrev pub gathering : ElementNumber → ElementAnswer → Gathered → Gathered
gathering b a g = gathering_output b a.output (g.warning || a.warning) g

-- rule 7: that side's set and the intersection, with the old rank, hyperplane and mark; a removed side is none
abbrev pub side_of_cut : Limits → Bool → Element → Option ElementId → List ElementNumber → Step (Option ElementId)
side_of_cut L false e x s = give None
side_of_cut L true e x s = add_polytope L (rank_of e) (including x s) (plane_of e) (is_primordial e)

-- rule 7: then inside, then outside, if kept
unfoldable pub rule7 : Limits → Cutting → Element → Gathered → Option ElementId → Step ElementAnswer
rule7 L c e g x = do
  i ← side_of_cut L c.params.keep_inside e x g.inside
  o ← side_of_cut L c.params.keep_outside e x g.outside
  give (record { output = NonFlush i o x; warning = g.warning })

-- the divider's hyperplane if the rank is the dimension
abbrev pub plane_of_intersection : Table → Cutting → ℕ → Option HyperplaneNumber
plane_of_intersection t c r = if eqb r t.dimension then Some c.number else None

-- the gathered intersections form an element of rank - 1, not primordial
abbrev pub new_intersection : Limits → Cutting → ℕ → List ElementNumber → Step (Option ElementId)
new_intersection L c r s = λ t. add_polytope L (r - 1) s (plane_of_intersection t c r) false t

-- rule 6, by the flush answers: none, exactly one, more than one
unfoldable pub rule6 : Limits → Cutting → Element → Gathered → List ElementNumber → Step ElementAnswer
rule6 L c e g [] = do
  x ← new_intersection L c (rank_of e) g.intersections
  rule7 L c e g x
rule6 L c e g (f ∷ []) = rule7 L c e g (given f)
rule6 L c e g (f ∷ f' ∷ fs) = give (record { output = Flush; warning = g.warning })

-- rule 4: a crossing is matched or appended (vertex, then its element) and counts as the flush one
abbrev pub cross_edge : Limits → List Float → List Float → Option Float → Gathered → Step Gathered
cross_edge L p q None g = give g
cross_edge L p q (Some t) g = do
  v ← add_vertex L (crossing_point t p q)
  give (record { flush = v ∷ []; inside = g.inside; outside = g.outside; intersections = g.intersections; warning = g.warning })

-- rule 4: the ends a and b of an edge, at p and q; on the plane they are flush, and other ends go to their side
unfoldable pub cut_ends : Limits → Cutting → ElementNumber → ElementNumber → List Float → List Float → Step Gathered
cut_ends L c a b p q =
    let sa = distance_of c p in
    let sb = distance_of c q in
    cross_edge L p q (edge_test sa sb).crossing
    (gathering b (corner_answer b (side_test sb)) (gathering a (corner_answer a (side_test sa)) nothing_yet))

-- an edge of a sound table has two ends
unfoldable pub cut_edge : Limits → Cutting → Element → Step ElementAnswer
cut_edge L c e = do
  t ← table
  let a = get_or (boundary_of e) 0 0
  let b = get_or (boundary_of e) 1 0
  g ← cut_ends L c a b (point_at t a) (point_at t b)
  rule6 L c e g g.flush

-- rule 5: the boundary asks for each element, in rising number
abbrev pub cut_boundary : (ElementNumber → Step ElementAnswer) → List ElementNumber → Gathered → Step Gathered
cut_boundary ask [] g = give g
cut_boundary ask (b ∷ bs) g = do
  a ← ask b
  cut_boundary ask bs (gathering b a g)

-- rule 5: an element asks for its boundary
unfoldable pub cut_higher : Limits → Cutting → (ElementNumber → Step ElementAnswer) → Element → Step ElementAnswer
cut_higher L c ask e = do
  g ← cut_boundary ask (boundary_of e) nothing_yet
  rule6 L c e g g.flush

-- the element e, of rank r; its boundary elements have the rank below, since the table is sound
unfoldable pub cut_element : Limits → Cutting → ℕ → ElementNumber → Step ElementAnswer
cut_element L c zero e = cut_corner c e
cut_element L c (suc zero) e = λ t. cut_edge L c (element t e) t
cut_element L c (suc (suc r)) e = λ t. cut_higher L c (cut_element L c (suc r)) (element t e) t

-- ---- the whole cut

-- rule 2: the divider is matched or appended as a hyperplane, also for a flush or vertex root
abbrev pub cut_finite : Limits → Params → ElementNumber → Step ElementAnswer
cut_finite L p root = do
  n ← add_plane L p.divider
  t ← table
  cut_element L (record { params = p; number = n }) (rank t root) root

-- rule 1, by the distance: + infinity gives the root as inside, - as outside, whichever sides are kept; nothing is added, and no corner is tested
abbrev pub cut_at_distance : Limits → Params → Float → ElementNumber → Step ElementAnswer
cut_at_distance L p (inf false) root = give (record { output = NonFlush (given root) None None; warning = false })
cut_at_distance L p (inf true) root = give (record { output = NonFlush None (given root) None; warning = false })
cut_at_distance L p nan root = cut_finite L p root
cut_at_distance L p (fin s m e) root = cut_finite L p root

-- divider, keep or remove for inside, the same for outside, root element
unfoldable pub cut : Limits → Params → ElementNumber → Step ElementAnswer
cut L p root = cut_at_distance L p p.divider.distance root

-- What adding a vertex, a hyperplane or a polytope does to the lent memory: the step of the rules. Definitions only.
use Rattle.std.specs.Prelude.{ℕ, ◌+◌, ◌*◌, ◌≤◌, ◌<◌, ◌≡◌, Bool, true, not, List, [], ◌∷◌, leb, ltb, length, get_or, set, take, drop, Float, if◌then◌else◌, Option, Some, None, Ok, Err}
use Rattle.std.proofs.lemmas.List.Edits.{sets}
use Rattle.std.specs.Float.{nan}
use Rattle.rules.specs.Limits.{desk}
use Rattle.rules.specs.Lists.{pad, find, find_from}
use Rattle.rules.specs.Floats.{plus_zero, point_matches}
use Rattle.rules.specs.Table.{VertexNumber, HyperplaneNumber, Plane, Table, corner, polytope, primordials}
use Rattle.rules.specs.Sound.{sound, sound_point, sound_plane}
use Rattle.rules.specs.Memory.{plane_row, plane_named, plane_width}
use Rattle.rules.specs.Cut.{share_vertex, add_vertex, plane_matches, share_plane, add_plane, add_polytope}
use Rattle.rules.specs.Replies.{divider_of}
use Rattle.rules.specs.Held.{Holds, Came, element_words}
use Rattle.rules.specs.declared.Hyperplane.{Hyperplane}
use Rattle.hypermath.specs.Answers.{vertex_number, hyperplane_number, points_in, planes_in}
use Rattle.space.specs.Chains.{Indexed}
use Rattle.space.specs.Closed.{closed_raw, Edges}
use Rattle.space.specs.Found.{placed_at, RowOutcome, row_outcome}
use Rattle.rules.specs.declared.HyperplaneId.{HyperplaneId}
use Rattle.rules.specs.declared.VertexId.{VertexId}
use Rattle.rules.specs.Refusals.{Reply}
use Rattle.rules.specs.declared.ElementId.{ElementId}
use Rattle.rules.specs.declared.Refusal.TheVariants.{BoundaryFull, HyperplanesFull, NotClosed, VerticesFull}

-- ---- vertices

-- the four floats of a vertex, as the memory has them
abbrev pub stored_point : List Float → ℕ → List Float
stored_point ps v = get_or ps (v * 4) nan ∷ get_or ps (v * 4 + 1) nan ∷ get_or ps (v * 4 + 2) nan ∷ get_or ps (v * 4 + 3) nan ∷ []

abbrev pub four : List Float → List Float
four p = get_or p 0 nan ∷ get_or p 1 nan ∷ get_or p 2 nan ∷ get_or p 3 nan ∷ []

-- what was found is within the room
abbrev pub VertexInRoom : Option VertexId → Type 0
VertexInRoom None = Unit {0}
VertexInRoom (Some v) = v.0 < desk.vertices

-- what adding a vertex gives, of any words
pub record VertexOutcome : Type 0 where
  pub reply : Reply ElementId
  pub counts : List ℕ
  pub points : List Float
  pub elements : List ℕ

-- a row is added once the points stand
abbrev pub with_points : List Float → RowOutcome → VertexOutcome
with_points ps o = record { reply = o.reply; counts = o.counts; points = ps; elements = o.elements }

-- a new vertex, number n, and its row
abbrev pub new_vertex : List ℕ → List Float → List ℕ → List Float → ℕ → VertexOutcome
new_vertex cs ps es p n = with_points (sets ps (n * desk.dimensions) (four p)) (row_outcome (set cs 2 (n + 1)) es (element_words desk (corner n)))

-- where there is room for it, or 8
abbrev pub vertex_by : List ℕ → List Float → List ℕ → List Float → Bool → VertexOutcome
vertex_by cs ps es p room = if room then new_vertex cs ps es p (get_or cs 2 0) else record { reply = Err VerticesFull; counts = cs; points = ps; elements = es }

-- the row of the vertex that was found, or a new one
unfoldable pub share_outcome : List ℕ → List Float → List ℕ → List Float → Option VertexNumber → VertexOutcome
share_outcome cs ps es p (Some v) = with_points ps (row_outcome cs es (element_words desk (corner v)))
share_outcome cs ps es p None = vertex_by cs ps es p (ltb (get_or cs 2 0) desk.vertices)

-- with the lowest match among the points in use
unfoldable pub vertex_outcome : List ℕ → List Float → List ℕ → List Float → VertexOutcome
vertex_outcome cs ps es p = share_outcome cs ps es p (find (λ q. point_matches q (take (get_or cs 0 0) p)) (points_in (get_or cs 0 0) (get_or cs 2 0) ps))

-- `of`: whatever table the memory holds, and whatever point the four floats are written of, the step, once the search is done; and `words`, whatever the memory holds
pub record VertexShared (cs : List ℕ) (ps : List Float) (es : List ℕ) (p : List Float) (m : Option VertexId) (r : Reply ElementId) (cs' : List ℕ) (ps' : List Float) (es' : List ℕ) : Type 0 where
  pub words : record { reply = r; counts = cs'; points = ps'; elements = es' } ≡ share_outcome cs ps es p (vertex_number m)
  pub of : (hs : List Float) (t : Table) (q : List Float) → Holds desk cs ps hs es t → p ≡ pad plus_zero desk.dimensions q → length q ≤ desk.dimensions
      → Came placed_at Err (Holds desk cs' ps' hs es') t (share_vertex desk q (vertex_number m) t) r

-- and the rows in use are indexed then
pub record SharedIndexed (cs : List ℕ) (ps : List Float) (es : List ℕ) (p : List Float) (m : Option VertexId) (r : Reply ElementId) (cs' : List ℕ) (ps' : List Float) (es' ix' : List ℕ) : Type 0 where
  pub shared : VertexShared cs ps es p m r cs' ps' es'
  pub index : Indexed es' (get_or cs' 1 0) ix'

-- the same of the whole step, on a sound table
pub record VertexAdded (cs : List ℕ) (ps : List Float) (es : List ℕ) (p : List Float) (r : Reply ElementId) (cs' : List ℕ) (ps' : List Float) (es' : List ℕ) : Type 0 where
  pub words : record { reply = r; counts = cs'; points = ps'; elements = es' } ≡ vertex_outcome cs ps es p
  pub of : (hs : List Float) (t : Table) (q : List Float) → Holds desk cs ps hs es t → sound desk t ≡ true → p ≡ pad plus_zero desk.dimensions q → sound_point t.dimension q ≡ true
      → Came placed_at Err (Holds desk cs' ps' hs es') t (add_vertex desk q t) r

pub record VertexIndexed (cs : List ℕ) (ps : List Float) (es : List ℕ) (p : List Float) (r : Reply ElementId) (cs' : List ℕ) (ps' : List Float) (es' ix' : List ℕ) : Type 0 where
  pub added : VertexAdded cs ps es p r cs' ps' es'
  pub index : Indexed es' (get_or cs' 1 0) ix'

-- ---- hyperplanes

-- the row of a lent hyperplane
abbrev pub row_of : Hyperplane → List Float
row_of h = get_or h.normal 0 nan ∷ get_or h.normal 1 nan ∷ get_or h.normal 2 nan ∷ get_or h.normal 3 nan ∷ h.distance ∷ []

abbrev pub five : List Float → List Float
five p = get_or p 0 nan ∷ get_or p 1 nan ∷ get_or p 2 nan ∷ get_or p 3 nan ∷ get_or p 4 nan ∷ []

abbrev pub hyperplane_at : ℕ → Reply HyperplaneId
hyperplane_at i = Ok (record { 0 = i })

-- what adding a hyperplane gives, of any words
pub record HyperplaneOutcome : Type 0 where
  pub reply : Reply HyperplaneId
  pub counts : List ℕ
  pub planes : List Float

-- a new hyperplane, number n
abbrev pub new_hyperplane : List ℕ → List Float → List Float → ℕ → HyperplaneOutcome
new_hyperplane cs hs row n = record { reply = hyperplane_at n; counts = set cs 3 (n + 1); planes = sets hs (n * plane_width desk) (five row) }

-- where there is room for it, or 10
abbrev pub hyperplane_by : List ℕ → List Float → List Float → Bool → HyperplaneOutcome
hyperplane_by cs hs row room = if room then new_hyperplane cs hs row (get_or cs 3 0) else record { reply = Err HyperplanesFull; counts = cs; planes = hs }

-- the hyperplane that was found, or a new one
unfoldable pub plane_outcome : List ℕ → List Float → List Float → Option HyperplaneNumber → HyperplaneOutcome
plane_outcome cs hs row (Some k) = record { reply = hyperplane_at k; counts = cs; planes = hs }
plane_outcome cs hs row None = hyperplane_by cs hs row (ltb (get_or cs 3 0) desk.hyperplanes)

-- the lowest match among the hyperplanes in use, from the given one on
abbrev pub plane_found : ℕ → ℕ → ℕ → List Float → Hyperplane → Option HyperplaneNumber
plane_found d first n hs h = find_from first (λ g. plane_matches g (divider_of d h)) (drop first (planes_in d n hs))

-- with the lowest match that is not the cube's own
unfoldable pub hyperplane_outcome : List ℕ → List Float → Hyperplane → HyperplaneOutcome
hyperplane_outcome cs hs h = plane_outcome cs hs (row_of h) (plane_found (get_or cs 0 0) (primordials (get_or cs 0 0)) (get_or cs 3 0) hs h)

-- `of`: whatever table the memory holds, and whatever plane the row is written of, the step, once the search is done; and `words`, whatever the memory holds
pub record HyperplaneShared (cs : List ℕ) (hs : List Float) (row : List Float) (m : Option HyperplaneId) (r : Reply HyperplaneId) (cs' : List ℕ) (hs' : List Float) : Type 0 where
  pub words : record { reply = r; counts = cs'; planes = hs' } ≡ plane_outcome cs hs row (hyperplane_number m)
  pub of : (ps : List Float) (es : List ℕ) (t : Table) (g : Plane) → Holds desk cs ps hs es t → row ≡ plane_row desk g → length row ≡ plane_width desk
      → Came hyperplane_at Err (Holds desk cs' ps hs' es) t (share_plane desk g (hyperplane_number m) t) r

-- the same of the whole step, on a sound table
pub record HyperplaneAdded (cs : List ℕ) (hs : List Float) (h : Hyperplane) (r : Reply HyperplaneId) (cs' : List ℕ) (hs' : List Float) : Type 0 where
  pub words : record { reply = r; counts = cs'; planes = hs' } ≡ hyperplane_outcome cs hs h
  pub of : (ps : List Float) (es : List ℕ) (t : Table) (g : Plane) → Holds desk cs ps hs es t → sound desk t ≡ true → row_of h ≡ plane_row desk g → sound_plane t.dimension g ≡ true
      → Came hyperplane_at Err (Holds desk cs' ps hs' es) t (add_plane desk g t) r

-- ---- polytopes

-- what adding a polytope gives, of any words
pub record PolytopeOutcome : Type 0 where
  pub reply : Reply (Option ElementId)
  pub counts : List ℕ
  pub elements : List ℕ

-- an element that is placed is made
abbrev pub made_of : Reply ElementId → Reply (Option ElementId)
made_of (Err x) = Err x
made_of (Ok e) = Ok (Some e)

abbrev pub made_outcome : RowOutcome → PolytopeOutcome
made_outcome o = record { reply = made_of o.reply; counts = o.counts; elements = o.elements }

-- rule 8 by its three tests: none, 11, 7, or the row added
abbrev pub polytope_tested : List ℕ → List ℕ → List ℕ → Bool → Bool → Bool → PolytopeOutcome
polytope_tested cs es row few many closed =
    if few then record { reply = Ok None; counts = cs; elements = es }
    else if many then record { reply = Err BoundaryFull; counts = cs; elements = es }
    else if not closed then record { reply = Err NotClosed; counts = cs; elements = es }
    else made_outcome (row_outcome cs es row)

unfoldable pub polytope_outcome : List ℕ → List ℕ → ℕ → List ℕ → ℕ → Bool → PolytopeOutcome
polytope_outcome cs es rank b plane mark =
    polytope_tested cs es (element_words desk (polytope rank b (plane_named plane) mark)) (leb (length b) rank) (ltb desk.boundary (length b)) (closed_raw (get_or cs 0 0) es rank b)

-- `of`: whatever table the memory holds, for a boundary of edges where a face is asked for, rule 8; and `words`, whatever the memory holds
pub record PolytopeAdded (cs es : List ℕ) (rank : ℕ) (b : List ℕ) (plane : ℕ) (mark : Bool) (r : Reply (Option ElementId)) (cs' es' : List ℕ) : Type 0 where
  pub words : record { reply = r; counts = cs'; elements = es' } ≡ polytope_outcome cs es rank b plane mark
  pub of : (ps hs : List Float) (t : Table) → Holds desk cs ps hs es t → (rank < length b → 1 ≤ rank) → (rank ≡ 2 → Edges t b)
      → Came Ok Err (Holds desk cs' ps hs es') t (add_polytope desk rank b (plane_named plane) mark t) r

pub record PolytopeIndexed (cs es : List ℕ) (rank : ℕ) (b : List ℕ) (plane : ℕ) (mark : Bool) (r : Reply (Option ElementId)) (cs' es' ix' : List ℕ) : Type 0 where
  pub added : PolytopeAdded cs es rank b plane mark r cs' es'
  pub index : Indexed es' (get_or cs' 1 0) ix'

-- What a function asks of its caller: one record for each that asks more than one thing. Definitions only.
-- A slice's field is its length; `room` says that no more entries are in use than there is room for.
use Rattle.std.specs.Prelude.{ℕ, ◌+◌, ◌≤◌, ◌<◌, ◌≡◌, List, length, get_or, Float, Option}
use Rattle.rules.specs.Limits.{desk}
use Rattle.space.specs.Numbers.{row_width, point_slice, plane_slice, element_slice}
use Rattle.space.specs.Chains.{keys, Indexed}
use Rattle.space.specs.Closed.{Low, LowEnds}
use Rattle.space.specs.Shared.{VertexInRoom}
use Rattle.rules.specs.declared.VertexId.{VertexId}

-- ---- rows

-- the row of element e read
pub record ElementReady (es : List ℕ) (e : ℕ) : Type 0 where
  pub elements : length es ≡ element_slice
  pub room : e < desk.elements

-- and place i of its boundary
pub record BoundaryAtReady (es : List ℕ) (e i : ℕ) : Type 0 where
  pub elements : length es ≡ element_slice
  pub room : e < desk.elements
  pub place : i < desk.boundary

-- a row stored from word `at` on
pub record PutRowReady (es : List ℕ) (at : ℕ) (w : List ℕ) : Type 0 where
  pub place : at + row_width ≤ length es
  pub row : length w ≡ row_width

-- a row made, with a list as its boundary
pub record PolytopeRowReady (list : List ℕ) (r : ℕ) : Type 0 where
  pub size : length list ≤ desk.boundary
  pub rank : r < 65536

-- a row of the elements compared with one of some words
pub record SameRowReady (es : List ℕ) (at : ℕ) (words : List ℕ) (from : ℕ) : Type 0 where
  pub stored : at + row_width ≤ length es
  pub row : from + row_width ≤ length words

-- a search among the first n rows, for the row that stands at a place of some words
pub record SearchReady (es : List ℕ) (n : ℕ) (words : List ℕ) (from : ℕ) (ix : List ℕ) : Type 0 where
  pub elements : length es ≡ element_slice
  pub room : n ≤ desk.elements
  pub row : from + row_width ≤ length words
  pub index : Indexed es n ix

-- row n as the new start of a key's chain
pub record JoinReady (ix : List ℕ) (k n : ℕ) : Type 0 where
  pub index : length ix ≡ keys + desk.elements
  pub key : k < keys
  pub room : n < desk.elements

-- a row stored behind n others
pub record AppendReady (cs es ix w : List ℕ) (n : ℕ) : Type 0 where
  pub counts : length cs ≡ 4
  pub elements : length es ≡ element_slice
  pub room : n < desk.elements
  pub row : length w ≡ row_width
  pub index : Indexed es n ix

-- a row added
pub record AddRowReady (cs es ix w : List ℕ) : Type 0 where
  pub counts : length cs ≡ 4
  pub elements : length es ≡ element_slice
  pub room : get_or cs 1 0 ≤ desk.elements
  pub row : length w ≡ row_width
  pub index : Indexed es (get_or cs 1 0) ix

-- ---- vertices

-- the point of vertex v read
pub record PointReady (ps : List Float) (v : ℕ) : Type 0 where
  pub points : length ps ≡ point_slice
  pub room : v < desk.vertices

-- a vertex shared, once it is searched for
pub record ShareReady (cs : List ℕ) (ps : List Float) (es ix : List ℕ) (m : Option VertexId) : Type 0 where
  pub counts : length cs ≡ 4
  pub points : length ps ≡ point_slice
  pub elements : length es ≡ element_slice
  pub room : get_or cs 1 0 ≤ desk.elements
  pub found : VertexInRoom m
  pub index : Indexed es (get_or cs 1 0) ix

-- a vertex added
pub record VertexReady (cs : List ℕ) (ps : List Float) (es ix : List ℕ) : Type 0 where
  pub counts : length cs ≡ 4
  pub points : length ps ≡ point_slice
  pub elements : length es ≡ element_slice
  pub room : get_or cs 1 0 ≤ desk.elements
  pub vertex_room : get_or cs 2 0 ≤ desk.vertices
  pub index : Indexed es (get_or cs 1 0) ix

-- ---- hyperplanes

-- a hyperplane shared, once it is searched for
pub record ShareHyperplaneReady (cs : List ℕ) (hs : List Float) : Type 0 where
  pub counts : length cs ≡ 4
  pub planes : length hs ≡ plane_slice

-- a hyperplane added
pub record HyperplaneReady (cs : List ℕ) (hs : List Float) : Type 0 where
  pub counts : length cs ≡ 4
  pub planes : length hs ≡ plane_slice
  pub dimension : get_or cs 0 0 ≤ desk.dimensions
  pub room : get_or cs 3 0 ≤ desk.hyperplanes

-- ---- polytopes

-- a polytope added, with a list as its boundary
pub record PolytopeReady (cs es ix : List ℕ) (r : ℕ) (list : List ℕ) : Type 0 where
  pub counts : length cs ≡ 4
  pub elements : length es ≡ element_slice
  pub room : get_or cs 1 0 ≤ desk.elements
  pub size : length list ≤ desk.boundary + 1
  pub rank : r < 65536
  pub low : Low list (length list)
  pub edges : r ≡ 2 → LowEnds es list (length list)
  pub index : Indexed es (get_or cs 1 0) ix

-- ---- all memory

-- entries numbered from e, v and h on taken away
pub record RestoreReady (cs : List ℕ) (ps hs : List Float) (es : List ℕ) (e v h : ℕ) : Type 0 where
  pub counts : length cs ≡ 4
  pub points : length ps ≡ point_slice
  pub planes : length hs ≡ plane_slice
  pub elements : length es ≡ element_slice
  pub from_element : e ≤ get_or cs 1 0
  pub from_vertex : v ≤ get_or cs 2 0
  pub from_hyperplane : h ≤ get_or cs 3 0
  pub room : get_or cs 1 0 ≤ desk.elements
  pub vertex_room : get_or cs 2 0 ≤ desk.vertices
  pub plane_room : get_or cs 3 0 ≤ desk.hyperplanes

-- How much room there is: a parameter of every definition, so that a fact is proved once for every room. Definitions only.
use Rattle.std.specs.Prelude.{ℕ, ◌*◌, ◌^◌, ◌≤◌}

pub record Limits : Type 0 where
  pub dimensions : ℕ
  pub vertices : ℕ
  pub elements : ℕ
  pub hyperplanes : ℕ
  pub boundary : ℕ

-- the room of document 01
abbrev pub desk : Limits
desk = record { dimensions = 4; vertices = 256; elements = 512; hyperplanes = 64; boundary = 32 }

-- the room of document 02, order 9
abbrev pub large : Limits
large = record { dimensions = 7; vertices = 2048; elements = 8192; hyperplanes = 256; boundary = 64 }

-- FFFF, which stands in an element's row for no hyperplane
abbrev pub no_plane : ℕ
no_plane = 65535

-- a room whose rows can be read back: FFFF is no hyperplane's number, and a corner's row has a place for its vertex number
pub record Readable (L : Limits) : Type 0 where
  pub planes : L.hyperplanes ≤ no_plane
  pub boundary : 1 ≤ L.boundary

-- a room that has place for its cubes
pub record HasCubes (L : Limits) : Type 0 where
  pub vertices : 2 ^ L.dimensions ≤ L.vertices
  pub elements : 3 ^ L.dimensions ≤ L.elements
  pub hyperplanes : 2 * L.dimensions ≤ L.hyperplanes
  pub boundary : 2 * L.dimensions ≤ L.boundary

-- a room whose numbers have the width that a file gives them: a rank has one byte, all others two
pub record Fileable (L : Limits) : Type 0 where
  pub dimensions : L.dimensions ≤ 255
  pub vertices : L.vertices ≤ 65535
  pub elements : L.elements ≤ 65535
  pub hyperplanes : L.hyperplanes ≤ 65535
  pub boundary : L.boundary ≤ 65535

-- no list of M is shorter than that of L
pub record Roomier (L M : Limits) : Type 0 where
  pub dimensions : L.dimensions ≤ M.dimensions
  pub vertices : L.vertices ≤ M.vertices
  pub elements : L.elements ≤ M.elements
  pub hyperplanes : L.hyperplanes ≤ M.hyperplanes
  pub boundary : L.boundary ≤ M.boundary

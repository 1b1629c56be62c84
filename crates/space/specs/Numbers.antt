-- The numbers that the contracts cite: those of the room, worked out from its limits, and those that functions answer. Definitions only.
use Rattle.std.specs.Prelude.{ℕ, ◌*◌, ◌<◌, ◌≡◌}
use Rattle.rules.specs.Limits.{desk}
use Rattle.rules.specs.Memory.{element_width, plane_width}

-- how many words an element's row has
abbrev pub row_width : ℕ
row_width = element_width desk

-- the lengths of the slices of points, hyperplanes and elements
abbrev pub point_slice : ℕ
point_slice = desk.vertices * desk.dimensions

abbrev pub plane_slice : ℕ
plane_slice = desk.hyperplanes * plane_width desk

abbrev pub element_slice : ℕ
element_slice = desk.elements * row_width

-- a number that a function answers: which it is, and below what it lies
pub record NumberBelow (reply x top : ℕ) : Type 0 where
  pub value : reply ≡ x
  pub bound : reply < top

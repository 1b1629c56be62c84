-- What a memory that holds a table tells of its four slices: their lengths, and the four counts.
use Prim.Native.Nat.{ℕ, ◌≤◌}
use mathlib.Core.List.{List}
use mathlib.Core.Path.{◌≡◌, refl, ap, ◌∙◌}
use native.Mathlib.Nat.{le_trans, le_of_eq}
use lib.Ieee.{Float}
use lib.ListN.{length, get_or}
use Rattle.rules.specs.Held.{Holds, counts_of}
use Rattle.rules.specs.Limits.{desk}
use Rattle.rules.specs.Table.{Table}
use Rattle.rules.specs.Table as table
use Rattle.space.specs.Numbers.{point_slice, plane_slice, element_slice}
use Rattle.space.proofs.Room.{elements_size, points_size, planes_size}

-- the words of the slice of counts
record Counts (t : Table) : Type 0 where
  pub long : length (counts_of t) ≡ 4
  pub dimension : get_or (counts_of t) 0 0 ≡ t.dimension
  pub elements : get_or (counts_of t) 1 0 ≡ table.element_count t
  pub points : get_or (counts_of t) 2 0 ≡ length t.points
  pub planes : get_or (counts_of t) 3 0 ≡ length t.planes

counts_of_lem : (t : Table) → Counts t
unfolding counts_of
counts_of_lem t = record { long = refl; dimension = refl; elements = refl; points = refl; planes = refl }

pub record Slices (cs : List ℕ) (ps hs : List Float) (es : List ℕ) (t : Table) : Type 0 where
  pub counts : length cs ≡ 4
  pub points : length ps ≡ point_slice
  pub planes : length hs ≡ plane_slice
  pub elements : length es ≡ element_slice
  pub dimension : get_or cs 0 0 ≡ t.dimension
  pub element_count : get_or cs 1 0 ≡ table.element_count t
  pub point_count : get_or cs 2 0 ≡ length t.points
  pub plane_count : get_or cs 3 0 ≡ length t.planes
  pub elements_fit : get_or cs 1 0 ≤ desk.elements
  pub points_fit : get_or cs 2 0 ≤ desk.vertices
  pub planes_fit : get_or cs 3 0 ≤ desk.hyperplanes

pub slices : {cs : List ℕ} {ps hs : List Float} {es : List ℕ} {t : Table} → Holds desk cs ps hs es t → Slices cs ps hs es t
slices {cs} {t = t} H =
    let e = ap (λ (l : List ℕ). get_or l 1 0) H.counts ∙ (counts_of_lem t).elements in
    let v = ap (λ (l : List ℕ). get_or l 2 0) H.counts ∙ (counts_of_lem t).points in
    let p = ap (λ (l : List ℕ). get_or l 3 0) H.counts ∙ (counts_of_lem t).planes in
    record {
      counts = ap length H.counts ∙ (counts_of_lem t).long;
      points = ap length H.points ∙ points_size desk t H.fits;
      planes = ap length H.planes ∙ planes_size desk t H.fits;
      elements = ap length H.elements ∙ elements_size desk t H.fits;
      dimension = ap (λ (l : List ℕ). get_or l 0 0) H.counts ∙ (counts_of_lem t).dimension;
      element_count = e;
      point_count = v;
      plane_count = p;
      elements_fit = le_trans (le_of_eq e) H.fits.element_room;
      points_fit = le_trans (le_of_eq v) H.fits.point_room;
      planes_fit = le_trans (le_of_eq p) H.fits.plane_room;
    }

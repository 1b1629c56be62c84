-- The turn of each loop of `put`: the record at hand can be read, and once its row is put there is one row more.
use Prim.Native.Nat.{ℕ, ◌+◌, ◌*◌, ◌≤◌, ◌<◌}
use mathlib.Core.List.{List}
use mathlib.Core.Path.{◌≡◌, sym, ap, subst, ◌∙◌}
use lib.ListN.{length, get_or, drop}
use lib.Seq.{sets}
use lib.Ieee.{Float}
use Rattle.rules.specs.Limits.{desk}
use Rattle.rules.specs.Lists.{pad}
use Rattle.rules.specs.Floats.{plus_zero}
use Rattle.rules.specs.Bytes.{floats_at}
use Rattle.rules.specs.Memory.{plane_row}
use Rattle.rules.specs.Held.{element_words}
use Rattle.rules.specs.Files.{point_in, plane_in, element_in}
use Rattle.rules.specs.declared.Hyperplane.{Hyperplane}
use Rattle.space.specs.Shared.{four, row_of, five}
use Rattle.space.proofs.VertexMemo.{four_is}
use Rattle.files.specs.Runs.{Run}
use Rattle.files.specs.Entries.{PointReady, PlaneReady, plane_at, RowReady, row_at}
use Rattle.files.proofs.PutRows.{RowsSoFar, record_there, row_wide, row_put}
use Rattle.files.proofs.Standing.{PointHere, point_here, point_row, PlaneHere, plane_here, plane_row_lem, ElementHere, element_here, element_row_lem, boundary_fits}

module _ {bs : List ℕ} {from n at i : ℕ} where
  -- ---- a vertex

  module _ {d : ℕ} {xs : List Float} (s : RowsSoFar (point_in d) (pad plus_zero 4) 4 1024 bs from n at i xs) (low : d ≤ 4) (h : i < n) where
    stands : PointHere d bs s.ready.records.list s.ready.end at i
    stands = point_here d bs _ _ s.rest (record_there _ _ _ _ _ _ _ s h)

    pub point_ready : PointReady bs at d
    point_ready = record { axes = low; within = stands.within }

    pub point_put : {p new : List Float} → p ≡ pad plus_zero 4 (floats_at d (at + 2) bs) → new ≡ sets xs (i * 4) (four p)
        → RowsSoFar (point_in d) (pad plus_zero 4) 4 1024 bs from n (at + 2 + 8 * d) (i + 1) new
    point_put {p} e q =
        let row = e ∙ point_row _ _ _ _ stands in
        row_put _ _ _ _ _ _ _ s h _ (four_is p (ap length row ∙ row_wide _ _ _ _ _ _ _ s h _) ∙ row) q stands.rest

  -- ---- a hyperplane

  module _ {d : ℕ} {xs : List Float} (s : RowsSoFar (plane_in d) (plane_row desk) 5 320 bs from n at i xs) (low : d ≤ 4) (h : i < n) where
    lies : PlaneHere d bs s.ready.records.list s.ready.end at i
    lies = plane_here d bs _ _ s.rest (record_there _ _ _ _ _ _ _ s h)

    pub plane_ready : PlaneReady bs at d
    plane_ready = record { axes = low; within = lies.within }

    pub plane_put : {g : Hyperplane} {row new : List Float} → g ≡ plane_at at d bs → row ≡ row_of g → new ≡ sets xs (i * 5) (five row)
        → RowsSoFar (plane_in d) (plane_row desk) 5 320 bs from n (at + 10 + 8 * d) (i + 1) new
    plane_put e r q = row_put _ _ _ _ _ _ _ s h _ (ap five (r ∙ ap row_of e) ∙ plane_row_lem _ _ _ _ lies low) q lies.rest

  -- ---- an element

  module _ {xs : List ℕ} (s : RowsSoFar element_in (element_words desk) 36 18432 bs from n at i xs) (h : i < n) where
    names : ElementHere bs s.ready.records.list s.ready.end at i
    names = element_here bs _ _ s.rest (record_there _ _ _ _ _ _ _ s h)

    pub element_ready : RowReady bs at
    element_ready = record { boundary = boundary_fits _ _ _ names (row_wide _ _ _ _ _ _ _ s h _); within = names.within }

    pub element_put : {row new : List ℕ} {count : ℕ} → row ≡ pad 0 36 (row_at at bs) → count ≡ get_or row 3 0 → new ≡ sets xs (i * 36) row
        → RowsSoFar element_in (element_words desk) 36 18432 bs from n (at + 8 + 2 * count) (i + 1) new
    element_put {row} {new} {count} e k q =
        row_put _ _ _ _ _ _ _ s h _ (e ∙ element_row_lem _ _ _ names) q
        (subst (λ (c : ℕ). Run element_in bs (at + 8 + 2 * c) (drop (i + 1) s.ready.records.list) s.ready.end) (sym (k ∙ ap (λ (r : List ℕ). get_or r 3 0) e)) names.rest)

-- Each part behind the one before; what a sound memory tells of its words is what each part asks.
use Prim.Native.Nat.{ℕ}
use mathlib.Core.List.{List}
use mathlib.Core.Path.{◌≡◌}
use lib.ListN.{get_or}
use native.Mathlib.Omega.{arith}
use Rattle.files.proofs.SavedTable.{Counted, size_ready, header_ready, points_ready, planes_ready, elements_ready, file_put}
use Rattle.files.proofs.save.table.Goals as goal

-- the counts, as they were read
counted : (cs : List ℕ) {d n v h : ℕ} → d ≡ get_or cs 0 0 → n ≡ get_or cs 1 0 → v ≡ get_or cs 2 0 → h ≡ get_or cs 3 0 → Counted cs d n v h
counted cs d n v h = record { dimension = d; elements = n; vertices = v; hyperplanes = h }

pub bounds-memory-0 : goal.bounds-memory-0
bounds-memory-0 c = let l = (size_ready _ _ _ _ c.requires.is_sound).counts in
    omega (arith, l)

pub bounds-memory-1 : goal.bounds-memory-1
bounds-memory-1 c = let l = (size_ready _ _ _ _ c.requires.is_sound).counts in
    omega (arith, l)

pub bounds-memory-2 : goal.bounds-memory-2
bounds-memory-2 c = let l = (size_ready _ _ _ _ c.requires.is_sound).counts in
    omega (arith, l)

pub bounds-memory-3 : goal.bounds-memory-3
bounds-memory-3 c = let l = (size_ready _ _ _ _ c.requires.is_sound).counts in
    omega (arith, l)

pub header-points_at-requires : goal.header-points_at-requires
header-points_at-requires c =
    let told = counted c.args.memory.counts.now c.wide-d.ensures.value c.wide-n.ensures.value c.wide-v.ensures.value c.wide-h.ensures.value in
    header_ready _ _ _ _ c.requires.is_sound c.requires.fits_room told

pub elements-requires : goal.elements-requires
elements-requires c =
    let told = counted c.args.memory.counts.now c.wide-d.ensures.value c.wide-n.ensures.value c.wide-v.ensures.value c.wide-h.ensures.value in
    elements_ready _ _ _ _ c.requires.is_sound c.requires.fits_room told c.header-points_at.ensures c.vertices-planes_at.ensures
    c.hyperplanes-elements_at.ensures

pub returns : goal.returns
returns c =
    let told = counted c.args.memory.counts.now c.wide-d.ensures.value c.wide-n.ensures.value c.wide-v.ensures.value c.wide-h.ensures.value in
    file_put _ _ _ _ c.requires.is_sound c.requires.fits_room told c.header-points_at.ensures c.vertices-planes_at.ensures
    c.hyperplanes-elements_at.ensures c.elements.ensures

pub vertices-planes_at-requires : goal.vertices-planes_at-requires
vertices-planes_at-requires c =
    let told = counted c.args.memory.counts.now c.wide-d.ensures.value c.wide-n.ensures.value c.wide-v.ensures.value c.wide-h.ensures.value in
    let r = points_ready _ _ _ _ c.requires.is_sound c.requires.fits_room told c.header-points_at.ensures in record { d_le_dimensions = r.0; rows_ready = r.1 }

pub hyperplanes-elements_at-requires : goal.hyperplanes-elements_at-requires
hyperplanes-elements_at-requires c =
    let told = counted c.args.memory.counts.now c.wide-d.ensures.value c.wide-n.ensures.value c.wide-v.ensures.value c.wide-h.ensures.value in
    let r = planes_ready _ _ _ _ c.requires.is_sound c.requires.fits_room told c.header-points_at.ensures c.vertices-planes_at.ensures in record
    { d_le_dimensions = r.0; rows_ready = r.1 }

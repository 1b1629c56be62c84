-- The gathered intersections, added as an element of the rank below: the call of rule 8 is the step of the rules.
use Rattle.std.specs.Prelude.{if◌then◌else◌, Option, Some, None, Ok, Err}
use Prim.Native.Nat.{ℕ, ◌-◌, ◌≤◌, ◌<◌}
use mathlib.Core.Path.{◌≡◌, refl, sym, ap, ◌∙◌, subst}
use mathlib.Core.Bool.{Bool, true, false}
use mathlib.Core.List.{List}
use native.Mathlib.Nat.{le_trans}
use native.Mathlib.Omega.{arith}
use lib.Dec.{eqb}
use lib.ListN.{length, get_or}
use lib.Ieee.{Float}
use borrow.Author.Tests.{lt-leb, ne_eqb}
use Rattle.rules.specs.Limits.{desk, no_plane}
use Rattle.rules.specs.Table.{Table}
use Rattle.rules.specs.Memory.{plane_named}
use Rattle.rules.specs.Held.{Holds, Came, Ranked, AllOf}
use Rattle.rules.specs.Cut.{add_polytope, plane_of_intersection}
use Rattle.rules.proofs.Good.{sound_good}
use Rattle.rules.proofs.Laws.{le_test}
use Rattle.rules.proofs.Stays.{rank_above}
use Rattle.space.specs.Ready.{PolytopeReady}
use Rattle.space.specs.Chains.{Indexed}
use Rattle.space.proofs.RowMade.{taken, front_low, front_ends}
use Rattle.space.specs.Shared.{PolytopeAdded}
use Rattle.space.proofs.VertexMemo.{dimension_is}
use Rattle.space.proofs.Slices.{slices}
use Rattle.gathered.specs.Sets.{size_in, numbers_in}
use Rattle.gathered.specs.declared.sets.Set.{Set}
use Rattle.gathered.specs.Cutting.{cut_of, PlaneReady, IntersectionFit, IntersectionReady, IntersectionMade}
use Rattle.rules.specs.declared.Cutter.{Cutter}
use Rattle.gathered.proofs.Fitting.{low_of, edges_of, ends_low}
use Rattle.rules.specs.Refusals.{Reply}
use Rattle.rules.specs.declared.ElementId.{ElementId}

-- FFFF is no number in use
named : (n : ℕ) → n < 65535 → (b : Bool) → plane_named (if b then n else no_plane) ≡ (if b then Some n else None)
named n l true = ap (λ (c : Bool). if c then None else Some n) (ne_eqb n 65535 (λ e. (let z : ⊥ = omega (arith, e, l) in z)))
named n l false = refl

module _ {cs es : List ℕ} {r : ℕ} {k : Cutter} {set : Set} where
  -- what the calls ask for
  pub plane_asks : {ix : List ℕ} → IntersectionReady cs es ix r k set → PlaneReady cs k.number.0
  plane_asks R = record { counts = (slices R.fit.holds).counts; room = le_trans R.fit.plane R.fit.holds.fits.plane_room }

  pub intersection_asks : {ix : List ℕ} → IntersectionReady cs es ix r k set → length set.numbers ≡ 33 → (list : List ℕ) → list ≡ numbers_in set → PolytopeReady cs es ix (r - 1) list
  intersection_asks {ix} R long list whole =
      let F = R.fit in
      let t = R.table in
      let most = F.sized.most in
      let low = F.low in
      let four = le_test t.dimension 4 (sound_good desk t F.sound).high in
      let fit : size_in set ≤ length set.numbers = omega (arith, most, long) in
      let size = taken set.numbers (size_in set) fit in
      subst (PolytopeReady cs es ix (r - 1)) (sym whole) (record {
        counts = (slices F.holds).counts;
        elements = (slices F.holds).elements;
        room = (slices F.holds).elements_fit;
        size = omega (arith, size, most);
        rank = (let q : r - 1 < 65536 = omega (arith, low, four) in q);
        low = front_low set.numbers (size_in set) fit (low_of t F.holds.fits.element_room (r - 1) set F.sets.ranked);
        edges = (λ two.
            front_ends set.numbers (size_in set) fit
            (ends_low t F.holds.fits (sound_good desk t F.sound) es F.holds.elements set fit F.sets.rising
            (subst (λ (m : ℕ). AllOf (Ranked t m) (numbers_in set)) two F.sets.ranked)));
        index = R.indexed;
      })

  plane_is : {ps hs : List Float} {t : Table} (plane : ℕ) → plane ≡ (if eqb r (get_or cs 0 0) then k.number.0 else no_plane) → IntersectionFit cs ps hs es r k set t
      → plane_named plane ≡ plane_of_intersection t (cut_of t.dimension k) r
  plane_is {t = t} plane p F =
      let few = le_trans F.plane F.holds.fits.plane_room in
      ap plane_named (p ∙ ap (λ (d : ℕ). if eqb r d then k.number.0 else no_plane) (dimension_is (get_or cs 0 0) refl F.holds))
      ∙ named k.number.0 (let z : k.number.0 < 65535 = omega (arith, few) in z) (eqb r t.dimension)

  pub intersection_made : {y : Reply (Option ElementId)} {cs' es' ix' : List ℕ} (plane : ℕ) (list : List ℕ) → list ≡ numbers_in set → plane ≡ (if eqb r (get_or cs 0 0) then k.number.0 else no_plane)
      → PolytopeAdded cs es (r - 1) list plane false y cs' es' → Indexed es' (get_or cs' 1 0) ix' → IntersectionMade cs es r k set y cs' es' ix'
  intersection_made {y} {cs'} {es'} plane list whole p A indexed = record {
    of = λ ps hs t F.
        subst (λ (h : Option ℕ). Came Ok Err (Holds desk cs' ps hs es') t (add_polytope desk (r - 1) (numbers_in set) h false t) y) (plane_is plane p F)
        ((subst (λ (l : List ℕ). PolytopeAdded cs es (r - 1) l plane false y cs' es') whole A).of ps hs t F.holds
        (λ l. le_test 1 (r - 1) (rank_above t (r - 1) (numbers_in set) F.sets (lt-leb (length (numbers_in set)) (r - 1) l)))
        (λ two. edges_of t (sound_good desk t F.sound) (numbers_in set) F.sets.rising (subst (λ (n : ℕ). AllOf (Ranked t n) (numbers_in set)) two F.sets.ranked)));
    indexed = indexed;
  }

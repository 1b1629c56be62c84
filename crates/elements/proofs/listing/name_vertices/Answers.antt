-- Those before i are replaced, and those from i on are as they came.
use native.Mathlib.Omega.{arith}
use Rattle.elements.proofs.VertexLoops.{naming_start, naming_low, naming_next, naming_end}
use borrow.Author.Rules.{rules}
use Rattle.elements.proofs.listing.name_vertices.Goals as goal

pub loop-i-init : goal.loop-i-init
loop-i-init c = record { so_far = search rules; asked = c.requires; names = naming_start _ _ _ }

pub bounds-list-i : goal.bounds-list-i
bounds-list-i c = search (rules, c.loop-i.invariant.names.long, c.loop-i.invariant.asked.few)

pub boundary_at-requires : goal.boundary_at-requires
boundary_at-requires c = let low = naming_low _ _ _ _ _ c.loop-i.invariant.asked.few c.loop-i.invariant.names c.loop-i.invariant.asked.low (search rules) in
    record { elements = c.loop-i.invariant.asked.long; room = omega (arith, low, c.wide.ensures.value); place = omega arith }

pub bounds-list-i-in-loop-i : goal.bounds-list-i-in-loop-i
bounds-list-i-in-loop-i c = search (rules, c.loop-i.invariant.names.long, c.loop-i.invariant.asked.few)

pub loop-i-preserved : goal.loop-i-preserved
loop-i-preserved c = record {
  so_far = search rules;
  asked = c.loop-i.invariant.asked;
  names = naming_next _ _ _ _ _ c.loop-i.invariant.asked.few c.loop-i.invariant.names _ _ (search rules) c.wide.ensures.value c.boundary_at.ensures;
}

pub shape_of-list : goal.shape_of-list
shape_of-list c = c.loop-i.invariant.names.long

pub returns : goal.returns
returns c = naming_end _ _ _ _ _ c.loop-i.invariant.asked.few c.loop-i.invariant.names (omega arith)

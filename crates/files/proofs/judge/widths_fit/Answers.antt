-- The elements whose boundaries are left fit exactly where all do, up to the first that does not.
use Prim.Native.Nat.{ℕ, ◌<◌}
use mathlib.Core.List.{List}
use Rattle.rules.specs.Files.{element_in}
use Rattle.rules.specs.Table.{corner}
use borrow.Author.Rules.{rules}
use Rattle.files.specs.Judged.{width_fits}
use Rattle.files.specs.declared.layout.Laid.{Laid}
use Rattle.files.proofs.Standing.{ElementHere, element_here}
use Rattle.files.proofs.Judging.{Left, inside, left_on, left_no, left_none, widths_told, width_fits_lem, too_wide, stands_next}
use Rattle.files.proofs.judge.widths_fit.Goals as goal

-- the record of this turn
here : (bytes : List ℕ) (laid : Laid) {at e : ℕ} (s : Left element_in width_fits bytes laid.elements_at laid.elements at e) → e < laid.elements
    → ElementHere bytes s.list s.end at e
here bytes laid s h = element_here bytes s.list s.end s.stands (inside element_in width_fits bytes s h)

pub overflow_add-at : goal.overflow_add-at
overflow_add-at c = let w = (here c.args.bytes.now c.args.laid c.loop-e.invariant (search rules)).within in search rules

pub number-n-requires : goal.number-n-requires
number-n-requires c = let w = (here c.args.bytes.now c.args.laid c.loop-e.invariant (search rules)).within in search rules

pub returns-then-n-gt-BOUNDARY : goal.returns-then-n-gt-BOUNDARY
returns-then-n-gt-BOUNDARY c = let s = c.loop-e.invariant in
    let this = here c.args.bytes.now c.args.laid s (search rules) in
    widths_told c.args.bytes.now c.args.laid s
    (left_no element_in width_fits c.args.bytes.now s (corner 0) (search rules) (too_wide c.args.bytes.now s.list s.end this c.number-n.ensures.value (search rules)))

pub overflow_add-at-in-loop-e : goal.overflow_add-at-in-loop-e
overflow_add-at-in-loop-e c = let w = (here c.args.bytes.now c.args.laid c.loop-e.invariant (search rules)).within in search rules

pub overflow_add-at-in-loop-e-2 : goal.overflow_add-at-in-loop-e-2
overflow_add-at-in-loop-e-2 c = let w = (here c.args.bytes.now c.args.laid c.loop-e.invariant (search rules)).within in search rules

pub loop-e-preserved : goal.loop-e-preserved
loop-e-preserved c = let s = c.loop-e.invariant in
    let this = here c.args.bytes.now c.args.laid s (search rules) in
    left_on element_in width_fits c.args.bytes.now s _ (corner 0) (search rules) (width_fits_lem c.args.bytes.now s.list s.end this c.number-n.ensures.value (search rules))
    (stands_next c.args.bytes.now s.list s.end this c.number-n.ensures.value)

pub returns : goal.returns
returns c = let s = c.loop-e.invariant in
    widths_told c.args.bytes.now c.args.laid s (left_none element_in width_fits c.args.bytes.now s (corner 0) (search rules))

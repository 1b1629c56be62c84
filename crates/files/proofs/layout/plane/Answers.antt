-- Not begun, or its floats are there, whatever they are.
use mathlib.Core.Path.{sym, ◌∙◌}
use Rattle.files.proofs.Passes.{no_plane_lem, plane_ends}
use Rattle.files.proofs.layout.plane.Goals as goal

pub returns-then-not-begins_with : goal.returns-then-not-begins_with
returns-then-not-begins_with c = no_plane_lem c.args.bytes.now c.args.at c.args.d (sym c.begins_with.ensures ∙ c.if-not-begins_with.true)

pub returns : goal.returns
returns c = plane_ends c.args.bytes.now c.args.at c.args.d (sym c.begins_with.ensures ∙ c.if-not-begins_with.false)

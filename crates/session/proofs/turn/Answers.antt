-- No room; a cube; bad, for no table stands or it is no cut; a cut.
use mathlib.Core.Path.{sym, ap, ◌∙◌}
use mathlib.Core.Bool.{Bool, ◌&&◌}
use native.Mathlib.Omega.{arith}
use lib.ListN.{get_or}
use borrow.Author.Tests.{not-true, not-false}
use Rattle.rules.specs.Session.{is_cut}
use Rattle.rules.specs.Memory.{Memory}
use Rattle.rules.specs.Held.{memory_of}
use Rattle.session.proofs.Turns.{no_room, a_cube, a_cut, no_record}
use Rattle.session.proofs.turn.Goals as goal

pub returns-then-room-lt-LINE_ROOM : goal.returns-then-room-lt-LINE_ROOM
returns-then-room-lt-LINE_ROOM c =
    let memory : Memory =
    memory_of c.args.counts.now c.args.points.now c.args.planes.now c.args.elements.now in
    no_room c.args.stands memory c.args.input.now c.args.room.now (omega arith)

pub cube_turn-requires : goal.cube_turn-requires
cube_turn-requires c = record { asked = sym c.is_cube.ensures ∙ c.if-is_cube.true; room = omega arith }

pub returns-then-is_cube : goal.returns-then-is_cube
returns-then-is_cube c = c.cube_turn.ensures ∙ a_cube _ _ _ _ (omega arith) (sym c.is_cube.ensures ∙ c.if-is_cube.true)

pub returns-then-not-stands : goal.returns-then-not-stands
returns-then-not-stands c =
    let memory : Memory =
    memory_of c.args.counts.now c.args.points.now c.args.planes.now c.args.elements.now in
    no_record c.args.stands memory c.args.input.now c.args.room.now (omega arith) (sym c.is_cube.ensures ∙ c.if-is_cube.false)
    (ap (λ (b : Bool). b && is_cut (get_or c.args.counts.now 0 0) c.args.input.now) (not-true c.args.stands c.if-not-stands.true-raw))

pub returns-then-not-is_cut : goal.returns-then-not-is_cut
returns-then-not-is_cut c =
    let memory : Memory =
    memory_of c.args.counts.now c.args.points.now c.args.planes.now c.args.elements.now in
    no_record c.args.stands memory c.args.input.now c.args.room.now (omega arith) (sym c.is_cube.ensures ∙ c.if-is_cube.false)
    (ap (λ (b : Bool). b && is_cut (get_or c.args.counts.now 0 0) c.args.input.now) (not-false c.args.stands c.if-not-stands.false-raw)
    ∙ sym c.is_cut.ensures ∙ c.if-not-is_cut.true)

pub cut_turn-requires : goal.cut_turn-requires
cut_turn-requires c = record { asked = sym c.is_cut.ensures ∙ c.if-not-is_cut.false; room = omega arith }

pub returns : goal.returns
returns c = c.cut_turn.ensures
    ∙ a_cut _ _ _ _ (omega arith) (sym c.is_cube.ensures ∙ c.if-is_cube.false) c.if-not-stands.false
    (sym c.is_cut.ensures ∙ c.if-not-is_cut.false)

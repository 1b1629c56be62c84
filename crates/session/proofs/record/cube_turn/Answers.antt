-- The record is long enough for what is read; a cube that is made has four counts.
use native.Mathlib.Omega.{arith}
use lib.Dec.{lit≤}
use Rattle.session.proofs.Turns.{cube_long, cube_counts, cube_made, cube_refused}
use Rattle.session.proofs.record.cube_turn.Goals as goal

pub number-d-requires : goal.number-d-requires
number-d-requires c = let l = cube_long c.args.input.now c.requires.asked in
    omega (arith, l)

pub float-radius-requires : goal.float-radius-requires
float-radius-requires c = cube_long c.args.input.now c.requires.asked

pub counted-requires : goal.counted-requires
counted-requires c = record { name = lit≤ tt; counts = cube_counts _ _ _ _ _ c.with_primordial_cube_radius.ensures c.in-Ok.is; room = c.requires.room }

pub refused-requires : goal.refused-requires
refused-requires c = c.requires.room

pub returns-in-Ok : goal.returns-in-Ok
returns-in-Ok c = cube_made _ _ _ _ _ c.with_primordial_cube_radius.ensures c.args.input.now _ _ c.args.stands c.number-d.ensures.value c.float-radius.ensures _
    c.in-Ok.is c.counted.ensures

pub returns-in-Err : goal.returns-in-Err
returns-in-Err c = cube_refused _ _ _ _ _ c.with_primordial_cube_radius.ensures c.args.input.now _ _ c.args.stands c.number-d.ensures.value c.float-radius.ensures _
    _ c.in-Err.is c.refused.ensures

-- Five parts, one behind another; a corner has 12 bytes.
use native.Mathlib.Omega.{arith}
use Rattle.rules.proofs.ByteLaws.{bytes_long}
use Rattle.print.proofs.Fanning.{corner_twelve, room_left, triangle_put}
use Rattle.print.proofs.triangles.triangle.Goals as goal

pub corner-second-requires : goal.corner-second-requires
corner-second-requires c = let f = room_left 12 38 (bytes_long 12 0) c.number-normal.ensures c.requires.fits in
    let g = room_left 12 26 (corner_twelve c.args.points.now c.requires.points c.args.a.0 c.requires.first) c.corner-first.ensures f in
    record { points = c.requires.points; low = c.requires.second; fits = omega (arith, g) }

pub corner-third-requires : goal.corner-third-requires
corner-third-requires c = let f = room_left 12 38 (bytes_long 12 0) c.number-normal.ensures c.requires.fits in
    let g = room_left 12 26 (corner_twelve c.args.points.now c.requires.points c.args.a.0 c.requires.first) c.corner-first.ensures f in
    let h = room_left 12 14 (corner_twelve c.args.points.now c.requires.points c.args.b.0 c.requires.second) c.corner-second.ensures g in
    record { points = c.requires.points; low = c.requires.third; fits = omega (arith, h) }

pub number-requires : goal.number-requires
number-requires c = let f = room_left 12 38 (bytes_long 12 0) c.number-normal.ensures c.requires.fits in
    let g = room_left 12 26 (corner_twelve c.args.points.now c.requires.points c.args.a.0 c.requires.first) c.corner-first.ensures f in
    let h = room_left 12 14 (corner_twelve c.args.points.now c.requires.points c.args.b.0 c.requires.second) c.corner-second.ensures g in
    room_left 12 2 (corner_twelve c.args.points.now c.requires.points c.args.c.0 c.requires.third) c.corner-third.ensures h

pub returns : goal.returns
returns c = triangle_put _ _ _ _ c.number-normal.ensures c.corner-first.ensures c.corner-second.ensures c.corner-third.ensures c.number.ensures

-- The walk stands at the front of the list, which has room for it; the fan reads no further.
use native.Mathlib.Omega.{arith}
use Rattle.lent_bytes.proofs.Puts.{put_as}
use Rattle.print.proofs.Facing.{edges_are, walk_low, fan_is}
use Rattle.print.proofs.triangles.face.Goals as goal

pub size_of-n-requires : goal.size_of-n-requires
size_of-n-requires c = record { elements = c.requires.walks.face.bounds.long; room = c.requires.walks.face.bounds.used }

pub walk_face-requires : goal.walk_face-requires
walk_face-requires c = record { face = c.requires.walks.face; enough = (let n = c.requires.walks.walk.few in omega (arith, n)) }

pub fan-requires : goal.fan-requires
fan-requires c = let n = edges_are _ _ c.requires.walks _ c.size_of-n.ensures _ c.walk_face.ensures in
    record {
      points = c.requires.points;
      walk = walk_low _ _ c.requires.walks _ c.size_of-n.ensures _ c.walk_face.ensures;
      fits = (omega (arith, n, c.requires.fits));
    }

pub returns : goal.returns
returns c = put_as (fan_is _ _ c.requires.walks _ c.size_of-n.ensures _ c.walk_face.ensures _) c.fan.ensures

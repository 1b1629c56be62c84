-- The room is cleared; each end's answer is by its own signed distance, and the two are gathered in turn.
use lib.Dec.{lit≤}
use Rattle.ends.proofs.EndsGathered.{sized_more, end_room, ends_gathered}
use Rattle.ends.proofs.gather_ends.Goals as goal

pub gather_in-requires : goal.gather_in-requires
gather_in-requires c = record { sized = sized_more 0 31 (lit≤ tt) c.clear.ensures.nothing.sized; element = c.requires.first; answer = end_room _ c.args.sa c.requires.first c.end_output-first.ensures }

pub gather_in-requires-2 : goal.gather_in-requires-2
gather_in-requires-2 c = record {
  sized = sized_more 1 31 (lit≤ tt) (c.gather_in.ensures.sized 0 c.clear.ensures.nothing.sized);
  element = c.requires.second;
  answer = end_room _ c.args.sb c.requires.second c.end_output-second.ensures;
}

pub returns : goal.returns
returns c = ends_gathered _ _ c.args.sa c.args.sb c.clear.ensures c.end_output-first.ensures c.gather_in.ensures c.end_output-second.ensures c.gather_in-2.ensures

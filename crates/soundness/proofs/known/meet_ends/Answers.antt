-- The two ends that are known are the corners that are met.
use Rattle.space.proofs.EndsCounted.{ends_met}
use Rattle.soundness.proofs.known.meet_ends.Goals as goal

pub returns : goal.returns
returns c = ends_met c.end_known-a.ensures.value c.end_known-b.ensures.value c.meet_both.ensures

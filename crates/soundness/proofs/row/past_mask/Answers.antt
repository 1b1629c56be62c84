-- The mask is right up to the entry that is written next.
use Rattle.soundness.proofs.PastLoops.{mask_start, mask_go}
use borrow.Author.Rules.{rules}
use Rattle.soundness.proofs.row.past_mask.Goals as goal

pub loop-k-init : goal.loop-k-init
loop-k-init c = record { most = search rules; least = search rules; long = search rules; so_far = mask_start }

pub loop-k-preserved : goal.loop-k-preserved
loop-k-preserved c = record { most = search rules; least = search rules; long = search rules; so_far = mask_go c.loop-k.k c.loop-k.past c.loop-k.invariant.least (search rules) c.loop-k.invariant.so_far }

pub returns : goal.returns
returns c = λ j h. c.loop-k.invariant.so_far j (search rules)

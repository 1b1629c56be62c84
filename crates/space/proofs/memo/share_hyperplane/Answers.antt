-- A hyperplane found, no room, or a new one: each is the step of the rules with what was found.
use Rattle.space.proofs.HyperplaneMemo.{shared_full, shared_old, shared_new}
use Rattle.space.proofs.memo.share_hyperplane.Goals as goal

pub returns-then-n-ge-HYPERPLANES : goal.returns-then-n-ge-HYPERPLANES
returns-then-n-ge-HYPERPLANES c = shared_full _ c.wide-n.ensures.value c.in_default.is c.if-n-ge-HYPERPLANES.true

pub returns-in-Some : goal.returns-in-Some
returns-in-Some c = shared_old _ c.in-Some.is

pub returns : goal.returns
returns c = shared_new _ c.wide-n.ensures.value c.in_default.is c.if-n-ge-HYPERPLANES.false c.put_hyperplane.ensures

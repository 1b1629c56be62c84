-- Each test of the code is one of the rule.
use Rattle.cut.proofs.Listing.{too_long, not_kept, rows_fit_lem}
use Rattle.cut.proofs.lists.list_fits.Goals as goal

pub returns-then-n-gt-MOST_CUTS : goal.returns-then-n-gt-MOST_CUTS
returns-then-n-gt-MOST_CUTS c = too_long _ c.if-n-gt-MOST_CUTS.true

pub returns-then-kept-n : goal.returns-then-kept-n
returns-then-kept-n c = rows_fit_lem _ c.if-n-gt-MOST_CUTS.false c.if-kept-n.true

pub returns : goal.returns
returns c = not_kept _ c.if-n-gt-MOST_CUTS.false c.if-kept-n.false

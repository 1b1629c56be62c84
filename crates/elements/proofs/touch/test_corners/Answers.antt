-- The corners of the words that are left are to be tested.
use native.Mathlib.Omega.{arith}
use Rattle.elements.proofs.TouchLoops.{all_start, word_testable, all_next, all_ends}
use borrow.Author.Rules.{rules}
use Rattle.elements.proofs.touch.test_corners.Goals as goal

pub loop-w-init : goal.loop-w-init
loop-w-init c = record { so_far = search rules; testing = all_start _ _ _ _ _ }

pub test_word-s-requires : goal.test_word-s-requires
test_word-s-requires c = word_testable _ _ _ _ _ _ _ c.loop-w.invariant.testing (search rules) c.requires

pub loop-w-preserved : goal.loop-w-preserved
loop-w-preserved c = record { so_far = search rules; testing = all_next _ _ _ _ _ _ _ c.loop-w.invariant.testing _ (search rules) c.test_word-s.ensures }

pub returns : goal.returns
returns c = all_ends _ _ _ _ _ _ _ c.loop-w.invariant.testing (omega arith)

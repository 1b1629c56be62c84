-- The invariant: the rows are alike exactly when no bit has differed yet and the words that are left are alike.
use mathlib.Core.Path.{refl}
use native.Mathlib.Omega.{arith}
use Rattle.space.proofs.RowWords.{unlike_at, same_go, same_end}
use borrow.Author.Rules.{rules}
use borrow.Author.Tests.{ne_eqb}
use Rattle.space.proofs.chains.same_row.Goals as goal

pub returns-then-words-from : goal.returns-then-words-from
returns-then-words-from c = unlike_at c.args.elements.now c.args.words.now c.args.at c.args.from c.requires.row c.requires.stored 4 (omega arith) (ne_eqb _ _ c.if-words-from.true)

pub loop-j-init : goal.loop-j-init
loop-j-init c = record { most = search rules; so_far = refl }

pub loop-j-preserved : goal.loop-j-preserved
loop-j-preserved c = record { most = search rules; so_far = same_go c.args.elements.now c.args.words.now c.args.at c.args.from c.requires.row c.requires.stored c.loop-j.differ c.loop-j.j c.loop-j.invariant.so_far (search rules) }

pub returns : goal.returns
returns c = same_end c.args.elements.now c.args.words.now c.args.at c.args.from c.requires.row c.requires.stored c.loop-j.differ c.loop-j.j c.loop-j.invariant.so_far (omega arith)

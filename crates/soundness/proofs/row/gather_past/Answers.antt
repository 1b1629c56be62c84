-- Place by place the words past the boundary join what was seen before.
use Prim.Native.Nat.{ℕ, ◌+◌, ◌-◌}
use mathlib.Core.Bool.{Bool, ◌&&◌}
use mathlib.Core.Path.{sym, ap, ◌∙◌}
use lib.ListN.{get_or, take, drop}
use Rattle.soundness.specs.Words.{blank_words}
use Rattle.soundness.proofs.PastLoops.{kept_is, joining_start, joining_go, joining_end}
use Rattle.soundness.proofs.RowLoops.{past_is}
use borrow.Author.Rules.{rules}
use Rattle.soundness.proofs.row.gather_past.Goals as goal

pub loop-j-init : goal.loop-j-init
loop-j-init c = joining_start _ _ _ _ c.requires.places

pub overflow_sub-n : goal.overflow_sub-n
overflow_sub-n c = search (rules, c.requires.fits)

pub loop-j-preserved : goal.loop-j-preserved
loop-j-preserved c = let k = 32 - c.args.n + c.loop-j.j in
    joining_go c.args.words.now c.args.at c.args.n c.args.seen.now c.loop-j.seen c.loop-j.j _ c.loop-j.invariant (search rules)
    (kept_is (get_or c.args.past.now k 0) (get_or c.args.words.now (c.args.at + 4 + c.loop-j.j) 0) _ k (c.requires.mask k (search rules)) c.kept.ensures)

pub returns : goal.returns
returns c = record {
  clear = joining_end c.args.words.now c.args.at c.args.n c.args.seen.now c.requires.fits c.requires.row c.requires.places c.loop-j.seen c.loop-j.j c.loop-j.invariant (search rules)
      ∙ ap (λ (m : ℕ). blank_words c.args.seen.now && blank_words (drop (c.args.at + 4 + m) (take (c.args.at + 36) c.args.words.now))) c.requires.count
      ∙ ap (λ (b : Bool). blank_words c.args.seen.now && b) (sym (past_is c.args.at c.args.words.now));
  long = c.loop-j.invariant.long;
}

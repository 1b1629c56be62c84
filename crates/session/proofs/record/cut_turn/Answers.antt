-- The record is long enough for what is read; the reply is that of the call that it asks for.
use Prim.Native.Nat.{ℕ, ◌≤◌}
use mathlib.Core.Path.{sym, subst}
use native.Mathlib.Omega.{arith}
use lib.ListN.{length}
use Rattle.rules.specs.Replies.{cut_by}
use Rattle.rules.specs.Session.{cut_length}
use Rattle.session.proofs.Turns.{cut_long, line_fits, cut_taken}
use Rattle.session.proofs.record.cut_turn.Goals as goal

pub divider_at-divider-requires : goal.divider_at-divider-requires
divider_at-divider-requires c = record { word = c.dimension_of-d.ensures.bound; record_there = subst (λ (k : ℕ). cut_length k ≤ length c.args.input.now) (sym c.dimension_of-d.ensures.value) (cut_long c.args.input.now _ c.requires.asked) }

pub number-kept-requires : goal.number-kept-requires
number-kept-requires c = let l = cut_long c.args.input.now _ c.requires.asked in
    omega (arith, l)

pub number-requires : goal.number-requires
number-requires c = let l = cut_long c.args.input.now _ c.requires.asked in
    omega (arith, l)

pub cut_line-line-requires : goal.cut_line-line-requires
cut_line-line-requires c = let params = cut_by c.divider_at-divider.result c.from-inside.result c.from-outside.result in
    record { fits = line_fits params _ _ _ _ c.cut-reply.ensures; room = c.requires.room }

pub returns : goal.returns
returns c = cut_taken _ _ _ _ _ _ _ _ _ _ _ _ _ c.cut-reply.ensures c.dimension_of-d.ensures.value c.divider_at-divider.ensures c.number-kept.ensures.value
    c.from-inside.ensures c.from-outside.ensures c.number.ensures.value c.cut_line-line.ensures

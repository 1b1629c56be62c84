-- The ends that are met so far and those that are left make up the whole; n second meetings mean that each end is met twice.
use lib.ListN.{replicate}
use native.Mathlib.Omega.{arith}
use borrow.Author.Rules.{rules}
use Rattle.rules.specs.Limits.{desk}
use Rattle.space.proofs.TwiceMet.{edges_fine, TakenUp, taken_ends, taken_ready}
use Rattle.space.proofs.EndsCounted.{round_start, round_met, round_few, round_end}
use Rattle.space.proofs.Meetings.{unmet_new}
use Rattle.space.proofs.closed.each_twice.Goals as goal

pub loop-x-init : goal.loop-x-init
loop-x-init c = record { bound = search rules; round = round_start c.args.elements.now c.args.list.now 1 (replicate desk.elements 0) unmet_new }

pub meet_ends_in_face-twice-requires : goal.meet_ends_in_face-twice-requires
meet_ends_in_face-twice-requires c =
    let edge : TakenUp c.args.elements.now c.args.list.now c.loop-x.x-index c.wide.result =
    record { ready = c.requires; more = c.loop-x-test.true; read = c.wide.ensures.value } in
    taken_ready edge

pub overflow_add-twice : goal.overflow_add-twice
overflow_add-twice c =
    let few = round_few _ _ 1 c.loop-x.met c.loop-x.twice c.loop-x.x-index c.loop-x.invariant.round in
    omega (arith, few, c.meet_ends_in_face-twice.ensures.most, c.requires.size, c.loop-x.invariant.bound)

pub loop-x-preserved : goal.loop-x-preserved
loop-x-preserved c =
    let edge : TakenUp c.args.elements.now c.args.list.now c.loop-x.x-index c.wide.result =
    record { ready = c.requires; more = c.loop-x-test.true; read = c.wide.ensures.value } in
    let T = edge in
    record {
      bound = search rules;
      round = round_met _ _ 1 c.loop-x.met _ c.loop-x.twice c.loop-x.x-index c.wide.result _ c.loop-x.invariant.round T.more T.read (taken_ends T)
          c.meet_ends_in_face-twice.ensures.count c.meet_ends_in_face-twice.ensures.words;
    }

pub returns : goal.returns
returns c = round_end c.args.elements.now c.args.list.now 1 c.loop-x.met c.loop-x.twice c.loop-x.x-index c.loop-x.invariant.round (omega (arith, c.loop-x.invariant.bound, c.loop-x-test.false))
    (λ j q. (edges_fine c.args.elements.now c.args.list.now c.requires.low c.requires.ends j q).1)

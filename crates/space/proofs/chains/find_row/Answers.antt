-- What has been met is what a search from row x on gives.
use Prim.Native.Nat.{ℕ, suc, ◌-◌}
use mathlib.Core.Bool.{true, false}
use mathlib.Core.Logic.{inl, inr}
use mathlib.Core.Path.{◌≡◌, sym, ap, ◌∙◌}
use native.Mathlib.Omega.{arith}
use lib.ListN.{get_or, take, drop}
use Rattle.space.specs.Numbers.{row_width}
use Rattle.space.proofs.Indexing.{link_of, link_named, met_start, met_less, met_on, met_end}
use Rattle.space.proofs.chains.find_row.Goals as goal
use Rattle.space.proofs.chains.find_row.Goals.{then-same_row, else-same_row}

pub bounds-index-key_of : goal.bounds-index-key_of
bounds-index-key_of c = omega (arith, c.requires.index.long, c.key_of.ensures.bound)

pub loop-x-init : goal.loop-x-init
loop-x-init c = met_start c.args.elements.now c.args.n (take row_width (drop c.args.from c.args.words.now)) c.args.index.now c.wide-x.result c.requires.index (omega (arith, sym c.key_of.ensures.value, c.key_of.ensures.bound))
    (c.wide-x.ensures.value ∙ ap (λ (i : ℕ). get_or c.args.index.now i 0) c.key_of.ensures.value)

pub overflow_mul-x : goal.overflow_mul-x
overflow_mul-x c = omega arith

pub same_row-requires : goal.same_row-requires
same_row-requires c = record { stored = omega (arith, c.loop-x.invariant.room, c.requires.elements, c.requires.room, c.loop-x-test.true); row = c.requires.row }

pub overflow_add-x : goal.overflow_add-x
overflow_add-x c = omega arith

pub offset_bounds-index-x : goal.offset_bounds-index-x
offset_bounds-index-x c = omega arith

pub bounds-index-x : goal.bounds-index-x
bounds-index-x c = omega (arith, c.loop-x.invariant.room, c.requires.room, c.requires.index.long, c.loop-x-test.true)

pub loop-x-smaller : goal.loop-x-smaller
loop-x-smaller c = met_less c.args.elements.now c.args.n (take row_width (drop c.args.from c.args.words.now)) c.args.index.now (link_of c.loop-x.met) c.loop-x.x c.wide-x-in-loop-x.result c.requires.index c.loop-x.invariant
    c.loop-x-test.true c.wide-x-in-loop-x.ensures.value

pub loop-x-preserved : goal.loop-x-preserved
loop-x-preserved c =
    let on = met_on c.args.elements.now c.args.n (take row_width (drop c.args.from c.args.words.now)) c.args.index.now (link_of c.loop-x.met) c.loop-x.x c.wide-x-in-loop-x.result c.requires.index c.loop-x.invariant c.loop-x-test.true
    c.wide-x-in-loop-x.ensures.value
    {P = c.same_row.result ≡ true} {Q = c.same_row.result ≡ false} (link_of c.if-same_row.met) in
    let one_more : suc (c.loop-x.x - 1) ≡ c.loop-x.x = omega (arith, c.loop-x-test.true) in
    elim c.if-same_row.branch [
      | then-same_row w ↦ on (inl (w.if-same_row.true, ap link_of w.met-is ∙ one_more)) (λ p. sym c.same_row.ensures ∙ p) (λ q. sym c.same_row.ensures ∙ q)
      | else-same_row w ↦ on (inr (w.if-same_row.false, ap link_of w.met-is)) (λ p. sym c.same_row.ensures ∙ p) (λ q. sym c.same_row.ensures ∙ q)
    ]

pub returns : goal.returns
returns c = link_named c.loop-x.met ∙ met_end c.args.elements.now c.args.n (take row_width (drop c.args.from c.args.words.now)) (link_of c.loop-x.met) c.loop-x.x c.loop-x.invariant (omega (arith, c.loop-x-test.false))

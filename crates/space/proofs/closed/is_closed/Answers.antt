-- One case for each rank; of a face, few edges are counted and more are joined.
use Prim.Native.Nat.{ℕ, ◌≤◌, ◌<◌}
use mathlib.Core.List.{List}
use mathlib.Core.Path.{◌≡◌, refl, ap, ◌∙◌}
use native.Mathlib.Omega.{arith}
use lib.ListN.{get_or, length}
use Rattle.space.specs.Closed.{few}
use Rattle.space.proofs.TwiceMet.{closed_one, closed_few, closed_many, closed_other}
use Rattle.space.proofs.closed.is_closed.Goals as goal

few_at : {n r w d : ℕ} (l : List ℕ) → length l ≡ n → n ≤ r → r ≡ few w → w ≡ d → length l ≤ few d
few_at {n} {r} {w} {d} l e h p q = let z : r ≡ few d = p ∙ ap few q in omega (arith, e, h, z)

many_at : {n r w d : ℕ} (l : List ℕ) → length l ≡ n → r < n → r ≡ few w → w ≡ d → few d < length l
many_at {n} {r} {w} {d} l e h p q = let z : r ≡ few d = p ∙ ap few q in omega (arith, e, h, z)

pub returns-then-rank-eq1 : goal.returns-then-rank-eq1
returns-then-rank-eq1 c = closed_one (get_or c.args.counts.now 0 0) c.args.elements.now c.args.list.now c.args.rank (length c.args.list.now) refl c.if-rank-eq1.true

pub returns-then-rank-ne2 : goal.returns-then-rank-ne2
returns-then-rank-ne2 c = closed_other (get_or c.args.counts.now 0 0) c.args.elements.now c.args.list.now c.args.rank c.if-rank-eq1.false c.if-rank-ne2.true

pub each_twice-requires : goal.each_twice-requires
each_twice-requires c = record { elements = c.requires.elements; size = c.requires.size; low = c.requires.low; ends = c.requires.ends c.if-rank-ne2.false }

pub returns-then-n-few_edges : goal.returns-then-n-few_edges
returns-then-n-few_edges c = closed_few (get_or c.args.counts.now 0 0) c.args.elements.now c.args.list.now c.args.rank c.each_twice.ensures
    (few_at c.args.list.now refl c.if-n-few_edges.true c.few_edges.ensures c.wide.ensures.value) c.if-rank-ne2.false

pub is_ring-requires : goal.is_ring-requires
is_ring-requires c = record { elements = c.requires.elements; size = c.requires.size; low = c.requires.low; ends = c.requires.ends c.if-rank-ne2.false }

pub returns : goal.returns
returns c = closed_many (get_or c.args.counts.now 0 0) c.args.elements.now c.args.list.now c.args.rank c.is_ring.ensures
    (many_at c.args.list.now refl c.if-n-few_edges.false c.few_edges.ensures c.wide.ensures.value) c.if-rank-ne2.false

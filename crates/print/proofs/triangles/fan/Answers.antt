-- The invariant: the triangles from edge k on, put behind those that stand there, make the fan.
use Prim.Native.Nat.{◌+◌, ◌*◌}
use mathlib.Core.Path.{◌≡◌, refl, ap, ◌∙◌}
use native.Mathlib.Omega.{arith}
use Rattle.rules.specs.Print.{triangle_bytes}
use Rattle.lent_bytes.proofs.Puts.{put_as, put_length}
use Rattle.lent_bytes.proofs.Rests.{all_left, left_as}
use Rattle.print.specs.Pieces.{point_in, triangle_at}
use Rattle.print.proofs.Fanning.{left_start, next_fits, next_triangle, no_triangle}
use borrow.Author.Rules.{rules}
use Rattle.print.proofs.triangles.fan.Goals as goal

pub loop-k-init : goal.loop-k-init
loop-k-init c = (
  record {
    begun = search rules;
    within = (omega (arith, c.requires.walk.three));
    long = refl;
    rest = left_as (left_start c.args.points.now c.args.list.now c.args.n c.requires.points c.requires.walk) (all_left _ _ _);
  },
  c.wide.ensures.value,
  refl,
)

pub triangle-end-requires : goal.triangle-end-requires
triangle-end-requires c = record {
  points = c.requires.points;
  first = (let x = c.requires.walk.low 0 (omega (arith, c.requires.walk.three)) in omega (arith, x, c.loop-k.invariant.1));
  second = (let x = c.requires.walk.low (2 * c.loop-k.k) (search rules) in omega (arith, x, c.wide-in-loop-k.ensures.value));
  third = (let x = c.requires.walk.low (2 * c.loop-k.k + 1) (search rules) in omega (arith, x, c.wide-in-loop-k-2.ensures.value));
  fits = next_fits c.args.points.now c.args.list.now c.args.n c.requires.points c.requires.walk c.loop-k.k c.loop-k.invariant.0.rest (search rules) c.requires.fits c.loop-k.invariant.0.long;
}

pub loop-k-preserved : goal.loop-k-preserved
loop-k-preserved c = let same : _ ≡ triangle_at c.args.list.now c.loop-k.k = (λ i. (c.loop-k.invariant.1 i, c.wide-in-loop-k.ensures.value i, c.wide-in-loop-k-2.ensures.value i)) in (
  record {
    begun = search rules;
    within = search rules;
    long = put_length c.triangle-end.ensures ∙ c.loop-k.invariant.0.long;
    rest = next_triangle c.args.points.now c.args.list.now c.args.n c.requires.points c.requires.walk c.loop-k.k c.loop-k.invariant.0.rest (search rules)
        (put_as (ap (triangle_bytes (point_in c.args.points.now)) same) c.triangle-end.ensures);
  },
  c.loop-k.invariant.1,
  c.loop-k.invariant.2,
)

pub returns : goal.returns
returns c = no_triangle c.args.points.now c.args.list.now c.args.n c.requires.points c.requires.walk c.loop-k.k c.loop-k.invariant.0.rest (search rules)

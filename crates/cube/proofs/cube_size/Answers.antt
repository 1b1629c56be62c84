-- The invariant: a power of 3 for the axes so far.
use mathlib.Core.Path.{refl, sym, ap, ◌∙◌}
use Prim.Native.Nat.{◌*◌, ◌^◌}
use native.Mathlib.Omega.{arith}
use native.Mathlib.Nat.{pow-suc}
use native.Mathlib.Numerals.{add-one}
use Rattle.cube.proofs.CubeRows.{power_low}
use borrow.Author.Rules.{rules}
use Rattle.cube.proofs.cube_size.Goals as goal

pub loop-axis-init : goal.loop-axis-init
loop-axis-init c = record { so_far = omega arith; axes = search rules; power = refl }

pub overflow_mul-size : goal.overflow_mul-size
overflow_mul-size c = let l = power_low c.loop-axis.axis (omega arith) in omega (arith, l)

pub loop-axis-preserved : goal.loop-axis-preserved
loop-axis-preserved c = record {
  so_far = search rules;
  axes = search rules;
  power = ap (λ n. n * 3) c.loop-axis.invariant.power ∙ sym (pow-suc 3 c.loop-axis.axis) ∙ ap (λ n. 3 ^ n) (sym (add-one c.loop-axis.axis));
}

pub returns : goal.returns
returns c = let l = power_low c.loop-axis.axis (omega arith) in
    record { power = c.loop-axis.invariant.power ∙ ap (λ n. 3 ^ n) (omega arith); few = omega (arith, l, c.loop-axis.invariant.power) }

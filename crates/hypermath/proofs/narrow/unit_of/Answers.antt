-- 1, shifted, is a power of two.
use native.Mathlib.Nat.{one-mul, mod-eq_of_lt}
use lib.Pow.{pow-lt}
use Prim.Native.Nat.{ℕ, ◌*◌, ◌%◌, ◌^◌, ◌<◌}
use mathlib.Core.Path.{◌≡◌}
use Rattle.hypermath.proofs.narrow.unit_of.Goals as goal

shifted : (b : ℕ) → b < 64 → 1 * 2 ^ b % 18446744073709551616 ≡ 2 ^ b
shifted b h = rw one-mul (mod-eq_of_lt (pow-lt {i = b} {j = 64} h))

pub returns : goal.returns
returns c = shifted c.args.dropped c.requires

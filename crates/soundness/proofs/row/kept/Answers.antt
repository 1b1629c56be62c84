-- Zero bits leave nothing, and sixteen ones leave the word.
use Prim.Native.Nat.{ℕ, ◌<◌}
use mathlib.Core.Path.{◌≡◌, ap, ◌∙◌}
use native.Mathlib.Nat.{mod-eq_of_lt}
use lib.Bits.{bit_and, and_zero_r, and_mask}
use borrow.Author.Rules.{rules}
use Rattle.soundness.proofs.row.kept.Goals as goal

all_ones : (x m : ℕ) → x < 65536 → m ≡ 65535 → bit_and x m ≡ x
all_ones x m l e = ap (bit_and x) e ∙ and_mask x 16 ∙ mod-eq_of_lt l

pub returns : goal.returns
returns c = record { nothing = λ e. ap (bit_and c.args.x) e ∙ and_zero_r c.args.x; whole = λ e. all_ones c.args.x c.args.mask (search rules) e }

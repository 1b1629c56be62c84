-- A space, and the digits behind it.
use mathlib.Core.Path.{◌∙◌}
use native.Mathlib.Omega.{arith}
use lib.ListN.{length-set}
use borrow.Author.Rules.{rules}
use Rattle.lent_bytes.proofs.Decimals.{twenty_digits}
use Rattle.lent_bytes.proofs.Puts.{put_one, put_length, then}
use Rattle.session.proofs.write.spaced_number.Goals as goal

pub digits-requires : goal.digits-requires
digits-requires c = let q = twenty_digits c.args.n (search rules) in simp length-set (omega (arith, q))

pub shape_of-room : goal.shape_of-room
shape_of-room c = put_length c.digits.ensures ∙ length-set c.args.room.now _ 32

pub returns : goal.returns
returns c = then (put_one _ _ 32) c.digits.ensures

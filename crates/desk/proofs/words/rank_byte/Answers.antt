-- The rank, or 255 where it is above that.
use native.Mathlib.Omega.{arith}
use Rattle.desk.proofs.RankWords.{byte_low, byte_high}
use Rattle.desk.proofs.words.rank_byte.Goals as goal

pub returns-then-rank-gt255 : goal.returns-then-rank-gt255
returns-then-rank-gt255 c = byte_high _ c.if-rank-gt255.true

pub returns : goal.returns
returns c = byte_low _ (omega (arith, c.if-rank-gt255.false))

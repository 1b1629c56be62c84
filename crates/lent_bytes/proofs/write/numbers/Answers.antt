-- The part is a list of its own.
use Rattle.std.proofs.Common.{ap, sym}
use Rattle.rules.specs.Bytes.{bytes_of, number_bytes}
use Rattle.lent_bytes.proofs.Fronts.{part_is}
use Rattle.lent_bytes.proofs.Puts.{put_as}
use Rattle.lent_bytes.proofs.write.numbers.Goals as goal

pub returns : goal.returns
returns c = put_as (ap (number_bytes c.args.k) (sym (part_is c.args.from c.args.to c.args.words.now c.requires.part.rising))) (c.entries.ensures (bytes_of c.args.k) (λ x n p. ap (bytes_of c.args.k) p))

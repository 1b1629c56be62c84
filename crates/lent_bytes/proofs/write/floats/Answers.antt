-- The part is a list of its own, none of whose floats is a NaN.
use Rattle.std.proofs.Common.{ap, sym, map}
use Rattle.rules.specs.Lists.{joined}
use Rattle.rules.specs.Bytes.{bytes_of, float_byte8}
use Rattle.lent_bytes.proofs.Fronts.{part_is}
use Rattle.lent_bytes.proofs.Puts.{put_as}
use Rattle.lent_bytes.proofs.FloatParts.{part_numbers}
use Rattle.lent_bytes.proofs.write.floats.Goals as goal

pub entries-requires-clause-have_bits : goal.entries-requires-clause-have_bits
entries-requires-clause-have_bits c = part_numbers c.args.list.now c.args.from c.args.to c.requires.part.rising c.requires.are_numbers

pub returns : goal.returns
returns c = put_as (ap (λ xs. joined (map float_byte8 xs)) (sym (part_is c.args.from c.args.to c.args.list.now c.requires.part.rising))) (c.entries.ensures float_byte8 (λ x n p. ap (bytes_of 8) p))

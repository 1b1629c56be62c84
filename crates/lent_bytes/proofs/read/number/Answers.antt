-- The bytes, and zeros behind them.
use Rattle.std.proofs.Common.{◌≡◌, ◌<◌, ◌^◌, ◌∙◌, subst, sym, arith}
use Rattle.rules.specs.Bytes.{number_at}
use Rattle.lent_bytes.proofs.Numbers.{word_of, number_below}
use Rattle.lent_bytes.proofs.read.number.Goals as goal

pub returns : goal.returns
returns g c =
    let value : c.from_le_bytes.result ≡ number_at g.row.K c.args.at c.args.bytes.now =
    c.from_le_bytes.ensures ∙ word_of c.args.bytes.now c.copy_from_slice.new.self c.args.at g.row.K _ c.copy_from_slice.ensures.after (omega arith) c.requires.within c.requires.fits_word in
    record { value = value; below = subst (λ n. n < 256 ^ g.row.K) (sym value) (number_below g.row.K c.args.at c.args.bytes.now (λ i. (c.type_inv.bytes i).fits)) }

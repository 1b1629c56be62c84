-- The name, the number behind it, the end behind that.
use mathlib.Core.List.{[], ◌∷◌}
use native.Mathlib.Omega.{arith}
use borrow.Author.Rules.{rules}
use Rattle.lent_bytes.proofs.Puts.{put_length}
use Rattle.session.proofs.Puts.{then_number, then_line, number_fits_lem}
use Rattle.session.proofs.line.numbered.Goals as goal

pub word-requires : goal.word-requires
word-requires c = let l = put_length c.word-at.ensures in
    let m = put_length c.spaced_number-end.ensures in
    let q = number_fits_lem _ (search rules) c.spaced_number-end.ensures in
    omega (arith, l, m, c.word-at.ensures.place, q)

pub returns : goal.returns
returns c = then_line (_ ∷ []) c.word-at.ensures (then_number _ [] (10 ∷ []) c.spaced_number-end.ensures c.word.ensures)

-- The two lists are compared number by number.
use Rattle.std.proofs.lemmas.Slice.Eq.{slice_eq-Decides}
use Rattle.std.proofs.lemmas.Bool.Decides.{Decides-eqb}
use Rattle.gathered.proofs.OwnRows.{own_told}
use Rattle.gathered.proofs.answer.is_own.Goals as goal

pub returns : goal.returns
returns c = own_told c.args.elements.now c.args.e.0 _ c.requires c.size_of-size.ensures _ _ (slice_eq-Decides Decides-eqb _ _ _ c.eq.ensures)

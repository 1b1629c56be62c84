-- The rank is the first word of its element.
use mathlib.Core.Path.{sym, ◌∙◌}
use native.Mathlib.Omega.{arith}
use borrow.Author.Rules.{rules}
use Rattle.soundness.proofs.KnownRows.{Place, place, rank_is}
use Rattle.soundness.proofs.known.rank_known.Goals as goal

pub overflow_mul-at : goal.overflow_mul-at
overflow_mul-at c =
    let placed : Place c.args.earlier.now c.args.spacing c.args.x.0 c.requires.room =
    place c.args.earlier.now c.args.spacing c.args.x.0 c.requires.room c.requires.spaced in
    let p = placed.low in search rules

pub offset_bounds-earlier-at : goal.offset_bounds-earlier-at
offset_bounds-earlier-at c =
    let placed : Place c.args.earlier.now c.args.spacing c.args.x.0 c.requires.room =
    place c.args.earlier.now c.args.spacing c.args.x.0 c.requires.room c.requires.spaced in
    let p = placed.low in search rules

pub bounds-earlier-at : goal.bounds-earlier-at
bounds-earlier-at c =
    let placed : Place c.args.earlier.now c.args.spacing c.args.x.0 c.requires.room =
    place c.args.earlier.now c.args.spacing c.args.x.0 c.requires.room c.requires.spaced in
    let p = placed.within in
    omega (arith, p, c.requires.spaced.ends)

pub returns : goal.returns
returns c = record { value = c.wide.ensures.value ∙ sym (rank_is c.args.earlier.now c.args.spacing c.args.x.0 c.requires.room); bound = c.wide.ensures.bound }

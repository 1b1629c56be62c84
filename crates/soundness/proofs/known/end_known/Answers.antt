-- The two ends stand one after the other, from the place that the spacing says.
use mathlib.Core.Path.{◌∙◌}
use native.Mathlib.Omega.{arith}
use borrow.Author.Rules.{rules}
use Rattle.soundness.proofs.KnownRows.{Place, place, end_is}
use Rattle.soundness.proofs.known.end_known.Goals as goal

pub overflow_mul-at : goal.overflow_mul-at
overflow_mul-at c =
    let placed : Place c.args.earlier.now c.args.spacing c.args.x.0 c.requires.element.room =
    place c.args.earlier.now c.args.spacing c.args.x.0 c.requires.element.room c.requires.element.spaced in
    let p = placed.low in search rules

pub overflow_add-from : goal.overflow_add-from
overflow_add-from c =
    let placed : Place c.args.earlier.now c.args.spacing c.args.x.0 c.requires.element.room =
    place c.args.earlier.now c.args.spacing c.args.x.0 c.requires.element.room c.requires.element.spaced in
    let p = placed.low in search rules

pub overflow_add-from-2 : goal.overflow_add-from-2
overflow_add-from-2 c =
    let placed : Place c.args.earlier.now c.args.spacing c.args.x.0 c.requires.element.room =
    place c.args.earlier.now c.args.spacing c.args.x.0 c.requires.element.room c.requires.element.spaced in
    let p = placed.low in search rules

pub offset_bounds-earlier-from : goal.offset_bounds-earlier-from
offset_bounds-earlier-from c =
    let placed : Place c.args.earlier.now c.args.spacing c.args.x.0 c.requires.element.room =
    place c.args.earlier.now c.args.spacing c.args.x.0 c.requires.element.room c.requires.element.spaced in
    let p = placed.low in search rules

pub bounds-earlier-from : goal.bounds-earlier-from
bounds-earlier-from c =
    let placed : Place c.args.earlier.now c.args.spacing c.args.x.0 c.requires.element.room =
    place c.args.earlier.now c.args.spacing c.args.x.0 c.requires.element.room c.requires.element.spaced in
    let p = placed.within in
    omega (arith, p, c.requires.element.spaced.ends, c.requires.one)

pub returns : goal.returns
returns c = record {
  value = c.wide.ensures.value ∙ end_is c.args.earlier.now c.args.spacing c.args.x.0 c.requires.element.room c.args.i c.requires.one;
  bound = c.wide.ensures.bound;
}

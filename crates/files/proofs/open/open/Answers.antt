-- The reply is read off the tests in turn; a file that is taken is put over all that was lent.
use mathlib.Core.Path.{sym, ◌∙◌}
use Rattle.rules.specs.Held.{memory_of}
use Rattle.files.proofs.Opened.{told_says, open_broken, open_other_size, open_not_sound, open_taken}
use Rattle.files.proofs.PutTable.{sound_ready, put_memory}
use Rattle.files.proofs.open.open.Goals as goal

pub returns-in_default : goal.returns-in_default
returns-in_default c = open_broken _ _ c.in_default.ensures

pub returns-then-not-right_size : goal.returns-then-not-right_size
returns-then-not-right_size c =
    let lent = memory_of c.args.counts.now c.args.points.now c.args.planes.now c.args.elements.now in
    let says = told_says c.in-Some.ensures in
    open_other_size c.args.file.now lent says (sym c.right_size.ensures ∙ c.if-not-right_size.true)

pub returns-then-not-table_sound : goal.returns-then-not-table_sound
returns-then-not-table_sound c =
    let lent = memory_of c.args.counts.now c.args.points.now c.args.planes.now c.args.elements.now in
    let says = told_says c.in-Some.ensures in
    open_not_sound c.args.file.now lent says c.table_sound.ensures c.if-not-table_sound.true

pub put-requires : goal.put-requires
put-requires c =
    let lent = memory_of c.args.counts.now c.args.points.now c.args.planes.now c.args.elements.now in
    let says = told_says c.in-Some.ensures in
    let size_is = sym c.right_size.ensures ∙ c.if-not-right_size.false in
    let sound_is = sym (c.table_sound.ensures.told says.table says.whole) ∙ c.if-not-table_sound.false in
    sound_ready c.args.counts.now c.args.points.now c.args.planes.now c.args.elements.now says.table says.whole sound_is size_is

pub returns : goal.returns
returns c =
    let lent = memory_of c.args.counts.now c.args.points.now c.args.planes.now c.args.elements.now in
    let says = told_says c.in-Some.ensures in
    let size_is = sym c.right_size.ensures ∙ c.if-not-right_size.false in
    let sound_is = sym (c.table_sound.ensures.told says.table says.whole) ∙ c.if-not-table_sound.false in
    open_taken c.args.file.now lent says sound_is size_is (put_memory c.put.ensures says.table says.whole.says)

-- The name, three elements, the counts; an element takes six bytes at most.
use native.Mathlib.Omega.{arith}
use lib.ListN.{drop}
use borrow.Author.Rules.{rules}
use Rattle.lent_bytes.proofs.Puts.{then}
use Rattle.session.proofs.Puts.{Far, far_word, far_element, far_left, then_line}
use Rattle.session.proofs.line.cut.Goals as goal

pub returns : goal.returns
returns c = then_line (drop 1 c.args.counts.now)
    (then (then (then c.word-at.ensures c.element-i.ensures) c.element-o.ensures) c.element-x.ensures) c.counts_end.ensures

pub element-o-requires : goal.element-o-requires
element-o-requires c =
    let far_name : Far c.word-at.new.room c.word-at.result 3 =
    far_word c.requires.room c.word-at.ensures in
    let far_inside : Far c.element-i.new.room c.element-i.result 9 =
    far_element c.args.inside c.requires.inside far_name c.element-i.ensures in
    record { element = c.requires.outside; room = far_left 21 far_inside (omega arith) }

pub element-x-requires : goal.element-x-requires
element-x-requires c =
    let far_name : Far c.word-at.new.room c.word-at.result 3 =
    far_word c.requires.room c.word-at.ensures in
    let far_inside : Far c.element-i.new.room c.element-i.result 9 =
    far_element c.args.inside c.requires.inside far_name c.element-i.ensures in
    let far_outside : Far c.element-o.new.room c.element-o.result 15 =
    far_element c.args.outside c.requires.outside far_inside c.element-o.ensures in
    record { element = c.requires.intersection; room = far_left 21 far_outside (omega arith) }

pub counts_end-requires : goal.counts_end-requires
counts_end-requires c =
    let far_name : Far c.word-at.new.room c.word-at.result 3 =
    far_word c.requires.room c.word-at.ensures in
    let far_inside : Far c.element-i.new.room c.element-i.result 9 =
    far_element c.args.inside c.requires.inside far_name c.element-i.ensures in
    let far_outside : Far c.element-o.new.room c.element-o.result 15 =
    far_element c.args.outside c.requires.outside far_inside c.element-o.ensures in
    let far_intersection : Far c.element-x.new.room c.element-x.result 21 =
    far_element c.args.intersection c.requires.intersection far_outside c.element-x.ensures in
    record { counts = search rules; room = far_left 34 far_intersection (omega arith) }

-- Three numbers and the end of the line, each behind the one before; a count has five digits at most.
use Prim.Native.Nat.{ℕ}
use mathlib.Core.Path.{ap}
use mathlib.Core.List.{List, [], ◌∷◌, ◌++◌}
use native.Mathlib.Omega.{arith}
use borrow.Author.Rules.{rules}
use Rattle.rules.specs.Session.{spaced}
use Rattle.lent_bytes.proofs.Puts.{put_as, put_length}
use Rattle.session.proofs.Puts.{then_number, three_counts, number_short}
use Rattle.session.proofs.write.counts_end.Goals as goal

pub spaced_number-vertices-requires : goal.spaced_number-vertices-requires
spaced_number-vertices-requires c = let l = put_length c.spaced_number-elements.ensures in
    let q = number_short _ (search rules) c.spaced_number-elements.ensures in
    omega (arith, l, q)

pub spaced_number-hyperplanes-requires : goal.spaced_number-hyperplanes-requires
spaced_number-hyperplanes-requires c = let l = put_length c.spaced_number-elements.ensures in
    let m = put_length c.spaced_number-vertices.ensures in
    let q = number_short _ (search rules) c.spaced_number-elements.ensures in
    let r = number_short _ (search rules) c.spaced_number-vertices.ensures in
    omega (arith, l, m, q, r)

pub word-requires : goal.word-requires
word-requires c = let l = put_length c.spaced_number-elements.ensures in
    let m = put_length c.spaced_number-vertices.ensures in
    let n = put_length c.spaced_number-hyperplanes.ensures in
    let q = number_short _ (search rules) c.spaced_number-elements.ensures in
    let r = number_short _ (search rules) c.spaced_number-vertices.ensures in
    let s = number_short _ (search rules) c.spaced_number-hyperplanes.ensures in
    omega (arith, l, m, n, q, r, s, c.requires.room)

pub returns : goal.returns
returns c = put_as
    (ap (λ (ns : List ℕ). spaced ns ++ 10 ∷ [])
    (three_counts c.args.counts.now c.requires.counts _ _ _ c.wide.ensures.value c.wide-2.ensures.value c.wide-3.ensures.value))
    (then_number _ (_ ∷ _ ∷ []) (10 ∷ []) c.spaced_number-elements.ensures
    (then_number _ (_ ∷ []) (10 ∷ []) c.spaced_number-vertices.ensures (then_number _ [] (10 ∷ []) c.spaced_number-hyperplanes.ensures c.word.ensures)))

-- What has been met is what a search from row x on gives, in the rows of the table that the bytes say.
use Prim.Native.Nat.{ℕ, suc, ◌-◌, ◌<◌, ◌≤◌}
use mathlib.Core.Bool.{true, false}
use mathlib.Core.Logic.{inl, inr}
use mathlib.Core.Path.{◌≡◌, sym, ap, subst, ◌∙◌}
use native.Mathlib.Nat.{le_of_eq}
use native.Mathlib.Omega.{arith}
use lib.Dec.{eqb}
use lib.ListN.{get_or}
use lib.Seq.{take_all}
use Rattle.rules.specs.Held.{Fits, elements_of}
use Rattle.rules.specs.Limits.{desk}
use Rattle.rules.specs.Lists.{alike}
use Rattle.rules.specs.Table.{Table, element_count}
use Rattle.space.proofs.Indexing.{Met, met_start, met_on, met_end}
use Rattle.space.specs.Chains.{key_of}
use Rattle.files.proofs.KeptRows.{link_of, link_named, one_table, says_fits, says_few, says_room, kept_ready, kept_own}
use Rattle.files.proofs.rows.last_kept.Goals as goal
use Rattle.files.proofs.rows.last_kept.Goals.{then-same_as_kept, else-same_as_kept}

pub loop-x-init : goal.loop-x-init
loop-x-init c = λ t w.
    let key : c.key_of.result ≡ key_of c.args.row.now = c.key_of.ensures.value ∙ ap key_of (take_all 36 c.args.row.now (le_of_eq c.requires.long)) in
    met_start (elements_of desk t) c.args.n c.args.row.now c.args.index.now c.wide-x.result (c.requires.earlier t w) (omega (arith, key, c.key_of.ensures.bound))
    (c.wide-x.ensures.value ∙ ap (λ (i : ℕ). get_or c.args.index.now i 0) key)

pub same_as_kept-requires : goal.same_as_kept-requires
same_as_kept-requires c =
    let met : Met (elements_of desk c.requires.says.table) c.args.n c.args.row.now (link_of c.loop-x.met) c.loop-x.x =
    c.loop-x.invariant c.requires.says.table c.requires.says.whole in
    let m = met.room in
    kept_ready c.args.bytes.now c.args.laid c.requires.says.table (c.requires.keeps c.requires.says.table c.requires.says.whole) (says_fits c.requires.says) (omega (arith, m, c.loop-x-test.true))
    (says_few c.requires.says c.requires.few) c.args.row.now c.requires.long

pub overflow_add-x : goal.overflow_add-x
overflow_add-x c =
    let met : Met (elements_of desk c.requires.says.table) c.args.n c.args.row.now (link_of c.loop-x.met) c.loop-x.x =
    c.loop-x.invariant c.requires.says.table c.requires.says.whole in
    let m = met.room in
    let n = says_room c.requires.says c.requires.few in
    omega (arith, m, n)

pub offset_bounds-index-x : goal.offset_bounds-index-x
offset_bounds-index-x c =
    let met : Met (elements_of desk c.requires.says.table) c.args.n c.args.row.now (link_of c.loop-x.met) c.loop-x.x =
    c.loop-x.invariant c.requires.says.table c.requires.says.whole in
    let m = met.room in
    let n = says_room c.requires.says c.requires.few in
    omega (arith, m, n)

pub bounds-index-x : goal.bounds-index-x
bounds-index-x c =
    let met : Met (elements_of desk c.requires.says.table) c.args.n c.args.row.now (link_of c.loop-x.met) c.loop-x.x =
    c.loop-x.invariant c.requires.says.table c.requires.says.whole in
    let m = met.room in
    let n = says_room c.requires.says c.requires.few in
    omega (arith, m, n, c.loop-x-test.true)

pub returns : goal.returns
returns c = record { found = λ t w. link_named c.loop-x.met ∙ met_end (elements_of desk t) c.args.n c.args.row.now (link_of c.loop-x.met) c.loop-x.x (c.loop-x.invariant t w) (omega (arith, c.loop-x-test.false)) }

pub loop-x-preserved : goal.loop-x-preserved
loop-x-preserved c = λ t w.
    let m = c.loop-x.invariant t w in
    let h : c.loop-x.x - 1 < c.args.n = (let r = m.room in omega (arith, r, c.loop-x-test.true)) in
    let own = kept_own c.args.bytes.now c.args.laid t (c.requires.keeps t w) (subst (Fits desk) (one_table c.requires.says.whole w) (says_fits c.requires.says)) h
    (subst (λ (u : Table). c.args.n ≤ element_count u) (one_table c.requires.says.whole w) (says_few c.requires.says c.requires.few)) in
    let same = c.same_as_kept.ensures ∙ ap (alike eqb c.args.row.now) own in
    let on = met_on (elements_of desk t) c.args.n c.args.row.now c.args.index.now (link_of c.loop-x.met) c.loop-x.x c.wide-x-in-loop-x.result (c.requires.earlier t w) m c.loop-x-test.true c.wide-x-in-loop-x.ensures.value
    {P = c.same_as_kept.result ≡ true} {Q = c.same_as_kept.result ≡ false} (link_of c.if-same_as_kept.met) in
    let one_more : suc (c.loop-x.x - 1) ≡ c.loop-x.x = omega (arith, c.loop-x-test.true) in
    elim c.if-same_as_kept.branch [
      | then-same_as_kept w ↦ on (inl (w.if-same_as_kept.true, ap link_of w.met-is ∙ one_more)) (λ p. sym same ∙ p) (λ q. sym same ∙ q)
      | else-same_as_kept w ↦ on (inr (w.if-same_as_kept.false, ap link_of w.met-is)) (λ p. sym same ∙ p) (λ q. sym same ∙ q)
    ]

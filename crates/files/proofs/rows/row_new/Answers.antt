-- A row that is found is not new; one that is not found joins its chain.
use Prim.Native.Nat.{ℕ, ◌+◌}
use mathlib.Core.Bool.{false≢true}
use mathlib.Core.List.{List}
use mathlib.Core.Path.{◌≡◌, refl, sym, ap, subst, ◌∙◌}
use native.Mathlib.Nat.{le_of_eq}
use native.Mathlib.Omega.{arith}
use lib.Dec.{eqb}
use lib.Seq.{take_all}
use Rattle.rules.specs.Held.{elements_of}
use Rattle.rules.specs.Limits.{desk}
use Rattle.rules.specs.Lists.{alike, find, rows}
use Rattle.space.specs.Chains.{Indexed, key_of, new_start}
use Rattle.space.proofs.Indexing.{index_joined}
use Rattle.soundness.proofs.Distinct.{row_met, row_unmet}
use Rattle.files.proofs.KeptRows.{met_some, met_none, says_room}
use Rattle.files.proofs.rows.row_new.Goals as goal

pub returns-then-is_some : goal.returns-then-is_some
returns-then-is_some c = record {
  told = λ t w.
      let es = elements_of desk t in
      record {
        told = row_met es c.args.n _ (met_some c.last_kept.result c.if-is_some.ensures ∙ c.last_kept.ensures.found t w ∙ ap (λ (r : List ℕ). find (alike eqb r) (rows c.args.n 36 es)) (c.requires.own t w));
        indexed = λ q. absurd (false≢true q);
        joins = λ q. absurd (false≢true q);
        stays = λ q. refl;
      };
}

pub join-requires : goal.join-requires
join-requires c = let r = says_room c.requires.search.says c.requires.more in
    record { index = (c.requires.search.earlier c.requires.search.says.table c.requires.search.says.whole).long; key = c.key_of-key.ensures.bound; room = omega (arith, r) }

pub returns : goal.returns
returns c = let key : c.key_of-key.result ≡ key_of c.args.row.now = c.key_of-key.ensures.value ∙ ap key_of (take_all 36 c.args.row.now (le_of_eq c.requires.search.long)) in
    let room = says_room c.requires.search.says c.requires.more in
    record {
      told = λ t w.
          let es = elements_of desk t in
          let own = key ∙ ap key_of (c.requires.own t w) in
          record {
            told = row_unmet es c.args.n
                (sym (met_none c.last_kept.result c.if-is_some.ensures) ∙ c.last_kept.ensures.found t w ∙ ap (λ (r : List ℕ). find (alike eqb r) (rows c.args.n 36 es)) (c.requires.own t w));
            indexed = λ q.
                subst (λ (l : List ℕ). Indexed es (c.args.n + 1) l) (sym c.join.ensures)
                (index_joined es c.args.n c.args.index.now c.key_of-key.result (c.requires.search.earlier t w) own c.key_of-key.ensures.bound (omega (arith, room)));
            joins = λ q. c.join.ensures ∙ ap (λ (m : ℕ). new_start c.args.index.now m c.args.n) own;
            stays = λ q. absurd (false≢true (sym q));
          };
    }

-- A row that is found is not new; one that is not found joins its chain.
use Prim.Native.Nat.{ℕ, ◌+◌}
use mathlib.Core.List.{List}
use mathlib.Core.Path.{refl, sym, ap, subst, ◌∙◌}
use mathlib.Core.Bool.{false≢true}
use native.Mathlib.Omega.{arith}
use Rattle.space.proofs.Indexing.{index_joined}
use Rattle.space.specs.Found.{element_number}
use Rattle.space.specs.Chains.{Indexed, new_start}
use Rattle.soundness.proofs.Distinct.{row_met, row_unmet}
use Rattle.soundness.proofs.chains.row_new.Goals as goal

pub find_row-requires : goal.find_row-requires
find_row-requires c = record { elements = c.requires.long; room = omega (arith, c.requires.in_room); row = omega (arith, c.requires.in_room, c.requires.long); index = c.requires.earlier }

pub key_of-key-requires : goal.key_of-key-requires
key_of-key-requires c = omega (arith, c.requires.in_room, c.requires.long)

pub join-requires : goal.join-requires
join-requires c = record { index = c.requires.earlier.long; key = c.key_of-key.ensures.bound; room = c.requires.in_room }

pub returns-in-Some : goal.returns-in-Some
returns-in-Some c = record {
  told = row_met c.args.elements.now c.args.e.0 _ (ap element_number (sym c.in-Some.is) ∙ c.find_row.ensures);
  indexed = λ t. absurd (false≢true t);
  joins = λ t. absurd (false≢true t);
  stays = λ t. refl;
}

pub returns-in-None : goal.returns-in-None
returns-in-None c = record {
  told = row_unmet c.args.elements.now c.args.e.0 (ap element_number (sym c.in-None.is) ∙ c.find_row.ensures);
  indexed = λ t.
      subst (λ (l : List ℕ). Indexed c.args.elements.now (c.args.e.0 + 1) l) (sym c.join.ensures)
      (index_joined c.args.elements.now c.args.e.0 c.args.index.now c.key_of-key.result c.requires.earlier c.key_of-key.ensures.value c.key_of-key.ensures.bound c.requires.in_room);
  joins = λ t. c.join.ensures ∙ ap (λ (m : ℕ). new_start c.args.index.now m c.args.e.0) c.key_of-key.ensures.value;
  stays = λ t. absurd (false≢true (sym t));
}

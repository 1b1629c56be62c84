-- The refusals in their order; then the numbers of the greatest marks are the greatest common sub-elements.
use Rattle.std.proofs.lemmas.Result.{err_from_is_err_and}
use Prim.Native.Nat.{ℕ, ◌*◌}
use mathlib.Core.Path.{refl, sym, ap, ◌∙◌}
use native.Mathlib.Nat.{pos_of_ne-zero}
use lib.ListN.{get_or}
use Rattle.rules.proofs.Laws.{eq_test, unlike_eq}
use Rattle.rules.specs.Questions.{no_answer, answer}
use Rattle.elements.specs.Marks.{marked_numbers}
use Rattle.elements.specs.Ranks.{AllUsed}
use Rattle.elements.proofs.BelowLoops.{lent_long}
use Rattle.elements.proofs.CommonLoops.{roots_used_at, used_in_room, no_roots, unlike_roots, greatest_answered}
use Rattle.elements.proofs.QuestionReplies.{roots_used, roots_refused, roots_answered}
use Rattle.elements.proofs.questions.greatest_common_subelements.Goals as goal
use Rattle.rules.specs.declared.Refusal.TheVariants.{Rank}

pub returns-in_err-roots_asked : goal.returns-in_err-roots_asked
returns-in_err-roots_asked c = let x = err_from_is_err_and c.from_residual.result c.from_residual.ensures.1 in
    rw (x.1, x.2) (roots_refused _ _ _ _ _ _ c.roots_asked.ensures _ _ c.in_err-roots_asked.was)

pub returns-then-is_empty : goal.returns-then-is_empty
returns-then-is_empty c = roots_answered _ _ _ _ _ _ c.roots_asked.ensures c.args.list.now c.in_ok-roots_asked.was (no_answer Rank) _ refl (λ t l u. no_roots t _ (eq_test _ 0 (sym c.is_empty.ensures ∙ c.if-is_empty.true)))

pub rank_of-rank-requires : goal.rank_of-rank-requires
rank_of-rank-requires c =
    let used : AllUsed c.args.memory.elements.now c.args.roots.now =
    roots_used _ _ _ _ c.args.roots.now _ c.roots_asked.ensures c.in_ok-roots_asked.was in
    let w = used in
    record {
      elements = lent_long _ _ w.lent;
      room = used_in_room _ _ (roots_used_at _ _ 0 _ w (pos_of_ne-zero (unlike_eq _ 0 (sym c.is_empty.ensures ∙ c.if-is_empty.false))) c.wide.ensures.value);
    }

pub all_of_rank-requires : goal.all_of_rank-requires
all_of_rank-requires c =
    let used : AllUsed c.args.memory.elements.now c.args.roots.now =
    roots_used _ _ _ _ c.args.roots.now _ c.roots_asked.ensures c.in_ok-roots_asked.was in
    used

pub returns-then-not-all_of_rank : goal.returns-then-not-all_of_rank
returns-then-not-all_of_rank c = let rank = c.rank_of-rank.ensures ∙ ap (λ (x : ℕ). get_or c.args.memory.elements.now (x * 36) 0) c.wide.ensures.value in
    let same = sym c.all_of_rank.ensures ∙ c.if-not-all_of_rank.true in
    roots_answered _ _ _ _ c.args.roots.now _ c.roots_asked.ensures c.args.list.now c.in_ok-roots_asked.was (no_answer Rank) _ refl
    (λ t l u. unlike_roots _ t l _ c.args.roots.now u rank same)

pub common-s-requires : goal.common-s-requires
common-s-requires c =
    let used : AllUsed c.args.memory.elements.now c.args.roots.now =
    roots_used _ _ _ _ c.args.roots.now _ c.roots_asked.ensures c.in_ok-roots_asked.was in
    record { every = used; some = pos_of_ne-zero (unlike_eq _ 0 (sym c.is_empty.ensures ∙ c.if-is_empty.false)) }

pub greatest-some-requires : goal.greatest-some-requires
greatest-some-requires c =
    let used : AllUsed c.args.memory.elements.now c.args.roots.now =
    roots_used _ _ _ _ c.args.roots.now _ c.roots_asked.ensures c.in_ok-roots_asked.was in
    lent_long _ _ used.lent

pub returns : goal.returns
returns c = let some = pos_of_ne-zero (unlike_eq _ 0 (sym c.is_empty.ensures ∙ c.if-is_empty.false)) in
    let rank = c.rank_of-rank.ensures ∙ ap (λ (x : ℕ). get_or c.args.memory.elements.now (x * 36) 0) c.wide.ensures.value in
    let same = sym c.all_of_rank.ensures ∙ c.if-not-all_of_rank.false in
    let numbers = marked_numbers c.greatest-some.result.words in
    roots_answered _ _ _ _ c.args.roots.now _ c.roots_asked.ensures c.args.list.now c.in_ok-roots_asked.was (answer numbers) _ c.list_marks.ensures
    (λ t l u. greatest_answered _ t l _ c.args.roots.now _ _ u some rank same c.common-s.ensures c.greatest-some.ensures)

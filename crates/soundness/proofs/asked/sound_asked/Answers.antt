-- 4, then the two halves of 5: the normal, and the kind of the distance.
use Prim.Native.Nat.{ℕ}
use mathlib.Core.Path.{◌≡◌, sym, ap, ◌∙◌}
use mathlib.Core.Bool.{true}
use lib.Dec.{ltb}
use lib.ListN.{get_or}
use Rattle.hypermath.specs.Answers.{unit_normal}
use Rattle.soundness.proofs.AskedOnce.{asked_unused, asked_not_unit, asked_kind}
use borrow.Author.Rules.{rules}
use Rattle.soundness.proofs.asked.sound_asked.Goals as goal

-- a normal by value has four components
pub returns-then-not-in_use : goal.returns-then-not-in_use
returns-then-not-in_use c = asked_unused _ _ _ c.args.divider (search rules) (sym c.in_use.ensures ∙ c.if-not-in_use.true)

pub returns-then-not-is_unit : goal.returns-then-not-is_unit
returns-then-not-is_unit c =
    let used : ltb c.args.root.0 (get_or c.args.counts.now 1 0) ≡ true = sym c.in_use.ensures ∙ c.if-not-in_use.false in
    let told : unit_normal (get_or c.args.counts.now 0 0) c.args.divider.normal ≡ c.is_unit.result =
    ap (λ (k : ℕ). unit_normal k c.args.divider.normal) (sym c.wide.ensures.value) ∙ sym c.is_unit.ensures in
    asked_not_unit _ _ _ c.args.divider (search rules) used (told ∙ c.if-not-is_unit.true)

pub returns-in-Unfit : goal.returns-in-Unfit
returns-in-Unfit c =
    let used : ltb c.args.root.0 (get_or c.args.counts.now 1 0) ≡ true = sym c.in_use.ensures ∙ c.if-not-in_use.false in
    let told : unit_normal (get_or c.args.counts.now 0 0) c.args.divider.normal ≡ c.is_unit.result =
    ap (λ (k : ℕ). unit_normal k c.args.divider.normal) (sym c.wide.ensures.value) ∙ sym c.is_unit.ensures in
    asked_kind _ _ _ c.args.divider (search rules) used _ (told ∙ c.if-not-is_unit.false) c.in-Unfit.ensures

pub returns-in-PlusInfinity : goal.returns-in-PlusInfinity
returns-in-PlusInfinity c =
    let used : ltb c.args.root.0 (get_or c.args.counts.now 1 0) ≡ true = sym c.in_use.ensures ∙ c.if-not-in_use.false in
    let told : unit_normal (get_or c.args.counts.now 0 0) c.args.divider.normal ≡ c.is_unit.result =
    ap (λ (k : ℕ). unit_normal k c.args.divider.normal) (sym c.wide.ensures.value) ∙ sym c.is_unit.ensures in
    asked_kind _ _ _ c.args.divider (search rules) used _ (told ∙ c.if-not-is_unit.false) c.in-PlusInfinity.ensures

pub returns-in-MinusInfinity : goal.returns-in-MinusInfinity
returns-in-MinusInfinity c =
    let used : ltb c.args.root.0 (get_or c.args.counts.now 1 0) ≡ true = sym c.in_use.ensures ∙ c.if-not-in_use.false in
    let told : unit_normal (get_or c.args.counts.now 0 0) c.args.divider.normal ≡ c.is_unit.result =
    ap (λ (k : ℕ). unit_normal k c.args.divider.normal) (sym c.wide.ensures.value) ∙ sym c.is_unit.ensures in
    asked_kind _ _ _ c.args.divider (search rules) used _ (told ∙ c.if-not-is_unit.false) c.in-MinusInfinity.ensures

pub returns-in-Finite : goal.returns-in-Finite
returns-in-Finite c =
    let used : ltb c.args.root.0 (get_or c.args.counts.now 1 0) ≡ true = sym c.in_use.ensures ∙ c.if-not-in_use.false in
    let told : unit_normal (get_or c.args.counts.now 0 0) c.args.divider.normal ≡ c.is_unit.result =
    ap (λ (k : ℕ). unit_normal k c.args.divider.normal) (sym c.wide.ensures.value) ∙ sym c.is_unit.ensures in
    asked_kind _ _ _ c.args.divider (search rules) used _ (told ∙ c.if-not-is_unit.false) c.in-Finite.ensures

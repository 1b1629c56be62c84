-- One step after another, as code takes them: a refusal goes through, and what is made goes on with its table.
use Prim.Native.Nat.{ℕ}
use mathlib.Core.Bool.{Bool, ◌||◌}
use mathlib.Core.Path.{◌≡◌, refl, ap, ◌∙◌, subst, sym}
use native.Mathlib.Omega.{arith}
use Rattle.rules.specs.Table.{Table}
use Rattle.rules.specs.Cut.{Outcome, done, next, give, Step}
use Rattle.rules.specs.Held.{Extends, Came, went, stopped}
use Rattle.rules.specs.declared.ElementAnswer.{ElementAnswer}
use Rattle.gathered.specs.Cutting.{answered_by, Told}
use Rattle.gathered.specs.Cutting as told
use Rattle.rules.proofs.Extends.{extends_trans}
use Rattle.rules.specs.declared.ElementId.{ElementId}
use Rattle.std.specs.Prelude.{Option, Ok, Err}
use Rattle.rules.specs.Refusals.{Reply}
use Rattle.rules.specs.declared.ElementCutOutput.{ElementCutOutput}
use Rattle.rules.specs.declared.Refusal.{Refusal}

-- a step that was not refused
pub record Made (H : Table → Type 0) (o : Outcome (Option ElementId)) (p : Option ElementId) : Type 0 where
  pub table : Table
  pub made : o ≡ done p table
  pub holds : H table

module _ {H : Table → Type 0} {t : Table} {o : Outcome (Option ElementId)} {y : Reply (Option ElementId)} where
  pub made_is : (p : Option ElementId) → y ≡ Ok p → Came Ok Err H t o y → Made H o p
  made_is p q (stopped j u e w x h) = let z : ◌≡◌ {A = ℕ} 0 1 = cc in absurd (omega arith)
  made_is p q (went a u e w h) = let z : a ≡ p = cc in record { table = u; made = e ∙ ap (λ (v : Option ElementId). done v u) z; holds = h }

  pub came_refused : (n : Refusal) (f : Option ElementId → Step ElementAnswer) → y ≡ Err n → Came Ok Err H t o y
      → Came answered_by Err H t (next o f) (Err n)
  came_refused n f q (went a u e w h) = let z : ◌≡◌ {A = ℕ} 0 1 = cc in absurd (omega arith)
  came_refused n f q (stopped j u e w x h) =
      let z : n ≡ j = cc in stopped j u (ap (λ (v : Outcome (Option ElementId)). next v f) e) (ap Err z) x h

  pub came_answered : (p : Option ElementId) (f : Option ElementId → ElementAnswer) → y ≡ Ok p → Came Ok Err H t o y
      → Came answered_by Err H t (next o (λ x. give (f x))) (answered_by (f p))
  came_answered p f q c =
      let m = made_is p q c in
      went (f p) m.table (ap (λ (v : Outcome (Option ElementId)). next v (λ x. give (f x))) m.made) refl m.holds

-- a later step, seen from an earlier table
came_later : {H : Table → Type 0} {t u : Table} {o : Outcome ElementAnswer} {y : Reply ElementCutOutput} → Extends t u → Came answered_by Err H u o y
    → Came answered_by Err H t o y
came_later x (went a v e w h) = went a v e w h
came_later x (stopped j v e w z h) = stopped j v e w (extends_trans x z) h

pub came_next : {H : Table → Type 0} {t u : Table} {o : Outcome (Option ElementId)} {y : Reply ElementCutOutput} (p : Option ElementId) (f : Option ElementId → Step ElementAnswer) → o ≡ done p u → Extends t u
    → Came answered_by Err H u (f p u) y → Came answered_by Err H t (next o f) y
came_next {H} {t} {u} {o} {y} p f e x c =
    subst (λ (v : Outcome (Option ElementId)). Came answered_by Err H t (next v f) y) (sym e) (came_later x c)

-- ---- the reply with its warning

pub told_by : {H : Table → Type 0} {t : Table} {o : Outcome ElementAnswer} {y : Reply ElementCutOutput} {v w : Bool} → ((a : ElementAnswer) (u : Table) → o ≡ done a u → w ≡ (v || a.warning))
    → Came answered_by Err H t o y → Told H t o y v w
told_by k (went a u e l h) = told.went a u e l (k a u e) h
told_by k (stopped n u e l x h) = told.stopped n u e l x h

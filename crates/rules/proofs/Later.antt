-- A step that was done, and the step that replays it on any later table: it gives the same value, or that value with places left out, and adds nothing.
-- The hypothesis of every induction of the repeat is the record `Replays`; one law for each way to put steps together.
use Rattle.std.specs.Prelude.{if◌then◌else◌}
use Prim.Native.Nat.{ℕ, ◌<◌}
use mathlib.Core.Bool.{Bool, true, false}
use mathlib.Core.Path.{◌≡◌, refl, ◌∙◌, ap}
use Rattle.rules.specs.Table.{Table, element_count}
use Rattle.rules.specs.Cut.{Step, done, Outcome, refused, give, ◌>>=◌, next}
use Rattle.rules.specs.Held.{Extends}
use Rattle.rules.proofs.Extends.{extends_refl, extends_trans}
use Rattle.rules.proofs.Fine.{Fine}

pub record Replays {A B : Type 0} (φ : A → B) (Q : A → ℕ → Type 0) (before : Table) (again : Step B) (a : A) (after : Table) : Type 0 where
  pub extends : Extends before after
  pub fine : Fine after
  pub value : Q a (element_count after)
  pub replay : (later : Table) → Extends after later → again later ≡ done (φ a) later

abbrev pub Later : {A B : Type 0} → (A → B) → (A → ℕ → Type 0) → Table → Step B → Outcome A → Type 0
Later φ Q before again (refused n) = Unit {0}
Later φ Q before again (done a after) = Replays φ Q before again a after

module _ {A B : Type 0} (φ : A → B) (Q : A → ℕ → Type 0) where
  pub later_give : (t : Table) (a : A) → Fine t → Q a (element_count t) → Replays φ Q t (give (φ a)) a t
  later_give t a f q = record { extends = extends_refl t; fine = f; value = q; replay = λ l x. refl }

  -- the replaying step may be another that does the same on later tables
  pub later_same : (t : Table) (m n : Step B) (o : Outcome A) → ((l : Table) → Extends t l → m l ≡ n l) → Later φ Q t n o → Later φ Q t m o
  later_same t m n (refused k) e h = tt
  later_same t m n (done a t') e h = record {
    extends = h.extends;
    fine = h.fine;
    value = h.value;
    replay = λ l x. e l (extends_trans h.extends x) ∙ h.replay l x;
  }

  pub later_from : (t s : Table) (m : Step B) (o : Outcome A) → Extends t s → Later φ Q s m o → Later φ Q t m o
  later_from t s m (refused k) e h = tt
  later_from t s m (done a t') e h = record { extends = extends_trans e h.extends; fine = h.fine; value = h.value; replay = h.replay }

  pub later_if : (t : Table) (m : Step B) (b : Bool) (o p : Outcome A) → Later φ Q t m o → Later φ Q t m p → Later φ Q t m (if b then o else p)
  later_if t m true o p h k = h
  later_if t m false o p h k = k

  -- a value that is not asked for again
  pub later_drop : {C : Type 0} (c : C) (t : Table) (m : Step B) (o : Outcome A) → Later φ Q t m o → Later (λ (a : A). c) Q t (give c) o
  later_drop c t m (refused k) h = tt
  later_drop c t m (done a t') h = record { extends = h.extends; fine = h.fine; value = h.value; replay = λ l x. refl }

module _ {A B C D : Type 0} (φ : A → B) (Q : A → ℕ → Type 0) (ψ : C → D) (R : C → ℕ → Type 0) where
  pub then_done : (t : Table) (m : Step B) (f : B → Step D) (a : A) (s : Table) (o : Outcome C) → Replays φ Q t m a s → Later ψ R s (f (φ a)) o → Later ψ R t (m >>= f) o
  then_done t m f a s (refused k) h g = tt
  then_done t m f a s (done c u) h g = record {
    extends = extends_trans h.extends g.extends;
    fine = g.fine;
    value = g.value;
    replay = λ l x. ap (λ (o : Outcome B). next o f) (h.replay l (extends_trans g.extends x)) ∙ g.replay l x;
  }

  -- one step after another
  pub later_next : (t : Table) (m : Step B) (f : B → Step D) (o : Outcome A) (k : A → Step C) → Later φ Q t m o
      → ((a : A) (s : Table) → Extends t s → Fine s → Q a (element_count s) → Later ψ R s (f (φ a)) (k a s)) → Later ψ R t (m >>= f) (next o k)
  later_next t m f (refused n) k h g = tt
  later_next t m f (done a s) k h g = then_done t m f a s (k a s) h (g a s h.extends h.fine h.value)

pub later_as : {A B : Type 0} (φ ψ : A → B) (Q : A → ℕ → Type 0) (t : Table) (m : Step B) (o : Outcome A) → ((a : A) → φ a ≡ ψ a) → Later φ Q t m o → Later ψ Q t m o
later_as φ ψ Q t m (refused n) e h = tt
later_as {B = B} φ ψ Q t m (done a t') e h = record {
  extends = h.extends;
  fine = h.fine;
  value = h.value;
  replay = λ l x. h.replay l x ∙ ap (λ (b : B). done b l) (e a);
}

-- ---- what each value needs

abbrev pub same : {A : Type 0} → A → A
same a = a

abbrev pub InUse : ℕ → ℕ → Type 0
InUse i n = i < n

abbrev pub Anything : ℕ → ℕ → Type 0
Anything i n = Unit {0}

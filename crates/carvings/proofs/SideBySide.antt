-- Values of three runs side by side: of a cut on a table t that stands in B by f, and of the carvings for the inside and for the outside on B.
-- The values on B are those of t, renumbered; a side that t's cut does not keep may differ.
use Prim.Native.Nat.{ℕ, ◌<◌, ◌≤◌}
use mathlib.Core.Bool.{Bool, true, false, ◌||◌}
use mathlib.Core.List.{List, [], ◌∷◌, map}
use mathlib.Core.Path.{◌≡◌, refl, ap, ap₂, sym, ◌∙◌, subst}
use native.Mathlib.Nat.{le_trans}
use Rattle.rules.specs.Lists.{rises, with_member}
use Rattle.rules.specs.Cut.{Gathered, gathering, gathering_output, nothing_yet, including, given, corner_output}
use Rattle.carvings.specs.Renumbered.{image, renumbered_place}
use Rattle.rules.specs.declared.ElementCutOutput.{ElementCutOutput}
use Rattle.rules.specs.declared.ElementCutOutput.TheVariants.{Flush, NonFlush}
use Rattle.rules.specs.declared.ElementAnswer.{ElementAnswer}
use Rattle.rules.specs.declared.Side.{Side}
use Rattle.rules.specs.declared.Side.TheVariants.{Inside, On, Outside}
use Rattle.rules.proofs.Extends.{Below, below_more, below_with}
use Rattle.rules.proofs.Fine.{SomeIn}
use Rattle.carvings.proofs.Images.{image_with, image_agree}
use Rattle.rules.proofs.Ranked.{rises_with}
use Rattle.rules.specs.declared.ElementId.{ElementId}
use Rattle.std.specs.Prelude.{Option, Some, None}

-- ---- values side by side

-- a set of t's elements, and the set in B that is it renumbered
pub record SetIs (f : ℕ → ℕ) (n : ℕ) (s s' : List ℕ) : Type 0 where
  pub rising : rises s ≡ true
  pub under : Below n s
  pub is : s' ≡ image f s

abbrev pub OneIs : (ℕ → ℕ) → ℕ → Option ElementId → Option ElementId → Type 0
OneIs f n x x' = SomeIn x n × (x' ≡ renumbered_place f x)

abbrev pub IfKept : Bool → Type 0 → Type 0
IfKept true A = A
IfKept false A = Unit {0}

pub if_kept : {A C : Type 0} (k : Bool) → (A → C) → IfKept k A → IfKept k C
if_kept true f h = f h
if_kept false f h = tt

pub kept : {A : Type 0} (k : Bool) → A → IfKept k A
kept true a = a
kept false a = tt

pub set_more : (f g : ℕ → ℕ) (n m : ℕ) → ((e : ℕ) → e < n → g e ≡ f e) → n ≤ m → (s s' : List ℕ) → SetIs f n s s' → SetIs g m s s'
set_more f g n m a l s s' h = record { rising = h.rising; under = below_more s l h.under; is = h.is ∙ sym (image_agree f g n a s h.under) }

pub one_more_lem : (f g : ℕ → ℕ) (n m : ℕ) → ((e : ℕ) → e < n → g e ≡ f e) → n ≤ m → (x x' : Option ElementId) → OneIs f n x x' → OneIs g m x x'
one_more_lem f g n m a l None x' h = (tt, h.1)
one_more_lem f g n m a l (Some e) x' h = (le_trans h.0 l, h.1 ∙ ap given (sym (a e.0 h.0)))

pub set_including : (f : ℕ → ℕ) (n : ℕ) (x x' : Option ElementId) (s s' : List ℕ) → OneIs f n x x' → SetIs f n s s' → SetIs f n (including x s) (including x' s')
set_including f n None x' s s' h k = subst (λ (z : Option ElementId). SetIs f n s (including z s')) (sym h.1) k
set_including f n (Some e) x' s s' h k =
    subst (λ (z : Option ElementId). SetIs f n (with_member e.0 s) (including z s')) (sym h.1) (record {
      rising = rises_with e.0 s k.rising;
      under = below_with n e.0 s h.0 k.under;
      is = ap (with_member (f e.0)) k.is ∙ sym (image_with f e.0 s);
    })

-- what is gathered: of t, and of B by the carving for the inside and by that for the outside; a side that t's cut does not keep may differ
pub record GatheredIs (kI kO : Bool) (f : ℕ → ℕ) (n : ℕ) (g g₁ g₂ : Gathered) : Type 0 where
  pub under : Below n g.flush
  pub flush₁ : g₁.flush ≡ map f g.flush
  pub flush₂ : g₂.flush ≡ map f g.flush
  pub inside : IfKept kI (SetIs f n g.inside g₁.inside)
  pub outside : IfKept kO (SetIs f n g.outside g₂.outside)
  pub across₁ : SetIs f n g.intersections g₁.intersections
  pub across₂ : SetIs f n g.intersections g₂.intersections

abbrev pub OutputIs : Bool → Bool → (ℕ → ℕ) → ℕ → ElementCutOutput → ElementCutOutput → ElementCutOutput → Type 0
OutputIs kI kO f n Flush Flush Flush = Unit {0}
OutputIs kI kO f n Flush Flush (NonFlush i₂ o₂ x₂) = ⊥
OutputIs kI kO f n Flush (NonFlush i₁ o₁ x₁) b₂ = ⊥
OutputIs kI kO f n (NonFlush i o x) Flush b₂ = ⊥
OutputIs kI kO f n (NonFlush i o x) (NonFlush i₁ o₁ x₁) Flush = ⊥
OutputIs kI kO f n (NonFlush i o x) (NonFlush i₁ o₁ x₁) (NonFlush i₂ o₂ x₂) = IfKept kI (OneIs f n i i₁) × IfKept kO (OneIs f n o o₂) × OneIs f n x x₁ × OneIs f n x x₂

abbrev pub NoInside : ElementCutOutput → Type 0
NoInside Flush = Unit {0}
NoInside (NonFlush i o x) = i ≡ None

abbrev pub NoOutside : ElementCutOutput → Type 0
NoOutside Flush = Unit {0}
NoOutside (NonFlush i o x) = o ≡ None

-- and a removed side is none
abbrev pub AnswerIs : Bool → Bool → (ℕ → ℕ) → ℕ → ElementAnswer → ElementAnswer → ElementAnswer → Type 0
AnswerIs kI kO f n a b₁ b₂ = OutputIs kI kO f n a.output b₁.output b₂.output × NoOutside b₁.output × NoInside b₂.output

module _ (kI kO : Bool) (f : ℕ → ℕ) (n : ℕ) where
  pub gathered_start : GatheredIs kI kO f n nothing_yet nothing_yet nothing_yet
  gathered_start = record { under = tt; flush₁ = refl; flush₂ = refl; inside = kept kI empty; outside = kept kO empty; across₁ = empty; across₂ = empty }
    where
      empty : SetIs f n [] []
      empty = record { rising = refl; under = tt; is = refl }

  both_kept : {A C D : Type 0} (k : Bool) → (A → C → D) → IfKept k A → IfKept k C → IfKept k D
  both_kept true h a c = h a c
  both_kept false h a c = tt

  output_more : (b : ℕ) → b < n → f b ≡ b → (a b₁ b₂ : ElementCutOutput) → OutputIs kI kO f n a b₁ b₂ → (v v₁ v₂ : Bool) (g g₁ g₂ : Gathered) → GatheredIs kI kO f n g g₁ g₂
      → GatheredIs kI kO f n (gathering_output b a v g) (gathering_output b b₁ v₁ g₁) (gathering_output b b₂ v₂ g₂)
  output_more b l q Flush Flush Flush h v v₁ v₂ g g₁ g₂ k = record {
    under = (l, k.under);
    flush₁ = ap₂ (λ (x : ℕ) (xs : List ℕ). x ∷ xs) (sym q) k.flush₁;
    flush₂ = ap₂ (λ (x : ℕ) (xs : List ℕ). x ∷ xs) (sym q) k.flush₂;
    inside = k.inside;
    outside = k.outside;
    across₁ = k.across₁;
    across₂ = k.across₂;
  }
  output_more b l q Flush Flush (NonFlush i₂ o₂ x₂) h v v₁ v₂ g g₁ g₂ k = absurd h
  output_more b l q Flush (NonFlush i₁ o₁ x₁) b₂ h v v₁ v₂ g g₁ g₂ k = absurd h
  output_more b l q (NonFlush i o x) Flush b₂ h v v₁ v₂ g g₁ g₂ k = absurd h
  output_more b l q (NonFlush i o x) (NonFlush i₁ o₁ x₁) Flush h v v₁ v₂ g g₁ g₂ k = absurd h
  output_more b l q (NonFlush i o x) (NonFlush i₁ o₁ x₁) (NonFlush i₂ o₂ x₂) h v v₁ v₂ g g₁ g₂ k = record {
    under = k.under;
    flush₁ = k.flush₁;
    flush₂ = k.flush₂;
    inside = both_kept kI (set_including f n i i₁ g.inside g₁.inside) h.0 k.inside;
    outside = both_kept kO (set_including f n o o₂ g.outside g₂.outside) h.1 k.outside;
    across₁ = set_including f n x x₁ g.intersections g₁.intersections h.2 k.across₁;
    across₂ = set_including f n x x₂ g.intersections g₂.intersections h.3 k.across₂;
  }

  -- whatever the warnings
  pub gathered_more : (b : ℕ) → b < n → f b ≡ b → (a b₁ b₂ : ElementAnswer) → OutputIs kI kO f n a.output b₁.output b₂.output → (g g₁ g₂ : Gathered)
      → GatheredIs kI kO f n g g₁ g₂ → GatheredIs kI kO f n (gathering b a g) (gathering b b₁ g₁) (gathering b b₂ g₂)
  gathered_more b l q a b₁ b₂ h g g₁ g₂ k =
      output_more b l q a.output b₁.output b₂.output h (g.warning || a.warning) (g₁.warning || b₁.warning) (g₂.warning || b₂.warning) g g₁ g₂ k

  -- an old corner
  pub corner_is : (b : ℕ) → b < n → f b ≡ b → (s : Side) → OutputIs kI kO f n (corner_output b s) (corner_output b s) (corner_output b s)
  corner_is b l q Inside = (kept kI (l, ap given (sym q)), kept kO (tt, refl), (tt, refl), (tt, refl))
  corner_is b l q On = tt
  corner_is b l q Outside = (kept kI (tt, refl), kept kO (l, ap given (sym q)), (tt, refl), (tt, refl))

pub gathered_later : (kI kO : Bool) (f g : ℕ → ℕ) (n m : ℕ) → ((e : ℕ) → e < n → g e ≡ f e) → n ≤ m → (w w₁ w₂ : Gathered) → GatheredIs kI kO f n w w₁ w₂ → GatheredIs kI kO g m w w₁ w₂
gathered_later kI kO f g n m a l w w₁ w₂ h = record {
  under = below_more w.flush l h.under;
  flush₁ = h.flush₁ ∙ sym (mapped w.flush h.under);
  flush₂ = h.flush₂ ∙ sym (mapped w.flush h.under);
  inside = if_kept kI (set_more f g n m a l w.inside w₁.inside) h.inside;
  outside = if_kept kO (set_more f g n m a l w.outside w₂.outside) h.outside;
  across₁ = set_more f g n m a l w.intersections w₁.intersections h.across₁;
  across₂ = set_more f g n m a l w.intersections w₂.intersections h.across₂;
}
  where
    mapped : (xs : List ℕ) → Below n xs → map g xs ≡ map f xs
    mapped [] b = refl
    mapped (x ∷ xs) b = ap₂ (λ (y : ℕ) (ys : List ℕ). y ∷ ys) (a x b.0) (mapped xs b.1)

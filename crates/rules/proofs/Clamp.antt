-- A clamped coordinate lies between its ends, and keeps every bound that both ends keep: by comparisons alone, whatever was clamped, a NaN too.
use Rattle.std.specs.Prelude.{if◌then◌else◌}
use Prim.Native.Nat.{ℕ, ◌*◌}
use mathlib.Core.Bool.{false, true, false≢true, true≢false, Bool, ◌&&◌, ◌||◌}
use mathlib.Core.Path.{◌≡◌, refl, ◌∙◌}
use lib.Ieee.{le, Float, fin, is_nan, lt, neg, eq, nan, inf, up, down}
use lib.IntN.{ℤ}
use Rattle.rules.specs.Floats.{clamp, within, greater, lesser}
use Rattle.rules.specs.Promises.{Between}
use Rattle.rules.proofs.Comparisons.{fin_chain, test, turned, le_self, not_below}
use Rattle.rules.proofs.Laws.{either, or_false, and_left, and_right, and_true, or_left, or_right}

-- a bound ±2^j: F, with both signs
module _ (n : ℕ) (d : ℤ) where
  abbrev F : Float
  F = fin false n d

  -- x is not above a, and so not above the bound
  under : (a x : Float) → is_nan x ≡ false → lt a x ≡ false → le (neg F) a ≡ true → le a F ≡ true → le x F ≡ true
  unfolding le lt eq neg is_nan
  under nan x v h lo hi = absurd (false≢true hi)
  under (inf true) x v h lo hi = absurd (false≢true lo)
  under (inf false) x v h lo hi = absurd (false≢true hi)
  under (fin s m e) nan v h lo hi = absurd (true≢false v)
  under (fin s m e) (inf true) v h lo hi = refl
  under (fin s m e) (inf false) v h lo hi = absurd (true≢false h)
  under (fin s m e) (fin t k c) v h lo hi =
      fin_chain t s false k m n c e d (test t s (k * up c * down e) (m * up e * down c) (turned s t (m * up e * down c) (k * up c * down e) h)) hi

  over : (a x : Float) → is_nan x ≡ false → lt x a ≡ false → le (neg F) a ≡ true → le a F ≡ true → le (neg F) x ≡ true
  unfolding le lt eq neg is_nan
  over nan x v h lo hi = absurd (false≢true hi)
  over (inf true) x v h lo hi = absurd (false≢true lo)
  over (inf false) x v h lo hi = absurd (false≢true hi)
  over (fin s m e) nan v h lo hi = absurd (true≢false v)
  over (fin s m e) (inf true) v h lo hi = absurd (true≢false h)
  over (fin s m e) (inf false) v h lo hi = refl
  over (fin s m e) (fin t k c) v h lo hi =
      fin_chain true s t n m k d e c lo (test s t (m * up e * down c) (k * up c * down e) (turned t s (k * up c * down e) (m * up e * down c) h))

  not_both : (p q : Bool) → (p && q) ≡ false → (A : Type 0) → (p ≡ false → A) → (q ≡ false → A) → A
  not_both true q h A f g = g h
  not_both false q h A f g = f refl

  -- the clamp keeps to the bound of its ends
  pub clamp_within : (a b x : Float) → within F a ≡ true → within F b ≡ true → within F (clamp a b x) ≡ true
  unfolding within clamp
  clamp_within a b x ha hb = go (lt a x && lt b x) ((lt x a && lt x b) || is_nan x) refl refl
    where
      go : (p q : Bool) → (lt a x && lt b x) ≡ p → ((lt x a && lt x b) || is_nan x) ≡ q → within F (if p then greater a b else if q then lesser a b else x) ≡ true
      go true q e k = either (λ (y : Float). within F y ≡ true) (lt a b) b a hb ha
      go false true e k = either (λ (y : Float). within F y ≡ true) (lt b a) b a hb ha
      go false false e k =
          let z = or_false (lt x a && lt x b) (is_nan x) k in
          let la = and_left (le (neg F) a) (le a F) ha in
          let ra = and_right (le (neg F) a) (le a F) ha in
          let lb = and_left (le (neg F) b) (le b F) hb in
          let rb = and_right (le (neg F) b) (le b F) hb in
          and_true (le (neg F) x) (le x F)
          (not_both (lt x a) (lt x b) z.0 (le (neg F) x ≡ true) (λ h. over a x z.1 h la ra) (λ h. over b x z.1 h lb rb))
          (not_both (lt a x) (lt b x) e (le x F ≡ true) (λ h. under a x z.1 h la ra) (λ h. under b x z.1 h lb rb))

module _ (a b : Float) (na : is_nan a ≡ false) (nb : is_nan b ≡ false) where
  at_a : Between a b a
  at_a = record { above = or_left (le a a) (le b a) (le_self a na); under = or_left (le a a) (le a b) (le_self a na) }

  at_b : Between a b b
  at_b = record { above = or_right (le a b) (le b b) (le_self b nb); under = or_right (le b a) (le b b) (le_self b nb) }

  pub clamp_between : (x : Float) → Between a b (clamp a b x)
  unfolding clamp
  clamp_between x = go (lt a x) (lt b x) (lt x a) (lt x b) (is_nan x) refl refl refl refl refl
    where
      end : (p : Bool) (y z : Float) → Between a b y → Between a b z → Between a b (if p then y else z)
      end true y z f g = f
      end false y z f g = g

      inner : is_nan x ≡ false → (p q r s : Bool) → lt a x ≡ p → lt b x ≡ q → lt x a ≡ r → lt x b ≡ s → (p && q) ≡ false → (r && s) ≡ false → Between a b x
      inner n p q r s e₁ e₂ e₃ e₄ h k = record { above = up_side r s e₃ e₄ k; under = down_side p q e₁ e₂ h }
        where
          up_side : (r s : Bool) → lt x a ≡ r → lt x b ≡ s → (r && s) ≡ false → (le a x || le b x) ≡ true
          up_side true s e f k = or_right (le a x) (le b x) (not_below x b n nb (f ∙ k))
          up_side false s e f k = or_left (le a x) (le b x) (not_below x a n na e)

          down_side : (p q : Bool) → lt a x ≡ p → lt b x ≡ q → (p && q) ≡ false → (le x a || le x b) ≡ true
          down_side true q e f k = or_right (le x a) (le x b) (not_below b x nb n (f ∙ k))
          down_side false q e f k = or_left (le x a) (le x b) (not_below a x na n e)

      go : (p q r s n : Bool) → lt a x ≡ p → lt b x ≡ q → lt x a ≡ r → lt x b ≡ s → is_nan x ≡ n
          → Between a b (if p && q then greater a b else if (r && s) || n then lesser a b else x)
      go true true r s n e₁ e₂ e₃ e₄ e₅ = end (lt a b) b a at_b at_a
      go true false true true n e₁ e₂ e₃ e₄ e₅ = end (lt b a) b a at_b at_a
      go true false true false true e₁ e₂ e₃ e₄ e₅ = end (lt b a) b a at_b at_a
      go true false true false false e₁ e₂ e₃ e₄ e₅ = inner e₅ true false true false e₁ e₂ e₃ e₄ refl refl
      go true false false s true e₁ e₂ e₃ e₄ e₅ = end (lt b a) b a at_b at_a
      go true false false s false e₁ e₂ e₃ e₄ e₅ = inner e₅ true false false s e₁ e₂ e₃ e₄ refl refl
      go false q true true n e₁ e₂ e₃ e₄ e₅ = end (lt b a) b a at_b at_a
      go false q true false true e₁ e₂ e₃ e₄ e₅ = end (lt b a) b a at_b at_a
      go false q true false false e₁ e₂ e₃ e₄ e₅ = inner e₅ false q true false e₁ e₂ e₃ e₄ refl refl
      go false q false s true e₁ e₂ e₃ e₄ e₅ = end (lt b a) b a at_b at_a
      go false q false s false e₁ e₂ e₃ e₄ e₅ = inner e₅ false q false s e₁ e₂ e₃ e₄ refl refl

-- The loop over elements, and the whole test, each answer read off the tests that were taken.
use Prim.Native.Nat.{ℕ, ◌*◌}
use mathlib.Core.Bool.{Bool, true, ◌&&◌, false}
use mathlib.Core.List.{List}
use mathlib.Core.Path.{◌≡◌, sym, ◌∙◌, refl}
use lib.Ieee.{Float}
use lib.ListN.{get_or, drop}
use Rattle.rules.specs.Limits.{desk}
use Rattle.rules.specs.Lists.{all, rows}
use Rattle.rules.specs.Memory.{sound_memory, right_size}
use Rattle.rules.specs.Held.{memory_of}
use Rattle.soundness.specs.Words.{records_sound, record_words, blank_words, elements_sound, rows_in_use, counts_fit, points_sound, planes_sound, floats_sound, corners_sound, rows_distinct, rows_sound, words_sound}
use Rattle.soundness.proofs.ReadBack.{and_one, and_zero}
use Rattle.soundness.proofs.SoundWhole.{words_memory}

-- ---- the whole, test by test

pub floats_are : (d v h : ℕ) (ps hs : List Float) (a b : Bool) → points_sound desk d v ps ≡ a → planes_sound desk d h hs ≡ b → (a && b) ≡ floats_sound desk d v h ps hs
unfolding floats_sound
floats_are d v h ps hs a b p q = sym (λ i. p i && q i)

pub rows_both : (d n v h : ℕ) (es : List ℕ) (a b : Bool) → (rows_in_use desk d n v h es && rows_distinct desk n es) ≡ a → blank_words (drop (n * 36) es) ≡ b → (a && b) ≡ rows_sound desk d n v h es
unfolding rows_sound records_sound
rows_both d n v h es a b p q =
    sym (moved (all (record_words desk) (rows n 36 es)) (blank_words (drop (n * 36) es)) (corners_sound desk n v es) (elements_sound desk d n h es) (rows_distinct desk n es) ∙ (λ i. p i && q i))
  where
    moved : (w z k e c : Bool) → ((w && z) && k && e && c) ≡ (((w && k && e) && c) && z)
    moved false z k e c = refl
    moved true true k e c = sym (and_one ((k && e) && c))
    moved true false k e c = sym (and_zero ((k && e) && c))

grouped : (s c p h e o r d : Bool) → (s && c && p && h && e && o && r && d) ≡ (s && c && (p && h) && (e && o && r && d))
grouped false c p h e o r d = refl
grouped true false p h e o r d = refl
grouped true true false h e o r d = refl
grouped true true true false e o r d = refl
grouped true true true true e o r d = refl

pub memory_is : (cs : List ℕ) (ps hs : List Float) (es : List ℕ) (d n v h : ℕ) (s c f r : Bool) → d ≡ get_or cs 0 0 → n ≡ get_or cs 1 0 → v ≡ get_or cs 2 0 → h ≡ get_or cs 3 0
    → right_size desk (memory_of cs ps hs es) ≡ s → counts_fit desk d n v h ≡ c → floats_sound desk d v h ps hs ≡ f → rows_sound desk d n v h es ≡ r
    → (s && c && f && r) ≡ sound_memory desk (memory_of cs ps hs es)
unfolding words_sound floats_sound rows_sound
memory_is cs ps hs es d n v h s c f r ed en ev eh p₁ p₂ p₃ p₄ =
    sym (words_memory cs ps hs es ∙ grouped (right_size desk (memory_of cs ps hs es)) (counts_fit desk (get_or cs 0 0) (get_or cs 1 0) (get_or cs 2 0) (get_or cs 3 0)) _ _ _ _ _ _
    ∙ (λ i. right_size desk (memory_of cs ps hs es) && counts_fit desk ((sym ed) i) ((sym en) i) ((sym ev) i) ((sym eh) i) && floats_sound desk ((sym ed) i) ((sym ev) i) ((sym eh) i) ps hs
    && rows_sound desk ((sym ed) i) ((sym en) i) ((sym ev) i) ((sym eh) i) es)
    ∙ (λ i. p₁ i && p₂ i && p₃ i && p₄ i))

-- Records that stand one after another in the bytes of a file. Definitions only.
use Rattle.std.specs.Prelude.{ℕ, ◌≤◌, ◌≡◌, List, [], ◌∷◌, length, drop}
use Rattle.rules.specs.Files.{Reading, got}

module _ {A : Type 0} where
  -- what stands from an offset on is read as x, up to an end
  pub record Read (f : List ℕ → Reading A) (bs : List ℕ) (at : ℕ) (x : A) (end : ℕ) : Type 0 where
    pub says : f (drop at bs) ≡ got x (drop end bs)
    pub within : end ≤ length bs

  -- and the same of a list, each where the one before it ends
  abbrev pub Run : (List ℕ → Reading A) → List ℕ → ℕ → List A → ℕ → Type 0
  Run f bs at [] end = (at ≡ end) × (end ≤ length bs)
  Run f bs at (x ∷ xs) end = (mid : ℕ) × Read f bs at x mid × Run f bs mid xs end

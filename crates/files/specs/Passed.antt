-- What a pass over bytes tells: that a reading breaks, or where it ends. Definitions only.
use Rattle.std.specs.Prelude.{ℕ, zero, suc, ◌+◌, ◌≤◌, ◌<◌, Bool, ◌&&◌, ◌≡◌, List, [], ◌∷◌, leb, eqb, length, take, drop, Option, Some, None, MatchOption}
use Rattle.rules.specs.Lists.{alike}
use Rattle.rules.specs.Files.{Reading, broken, many}
use Rattle.files.specs.Runs.{Read, Run}

-- the bytes begin with a mark, and so many follow it
abbrev pub begins : ℕ → ℕ → ℕ → List ℕ → Bool
begins a b rest bs = leb (2 + rest) (length bs) && alike eqb (take 2 bs) (a ∷ b ∷ [])

-- a place in the bytes, and a dimension that two bytes can say
pub record Place (bs : List ℕ) (at d : ℕ) : Type 0 where
  pub within : at ≤ length bs
  pub dimension : d < 0x10000

-- a step again and again, by what a step tells: each begins where the one before it ends, up to the first that breaks
abbrev pub Repeats : (ℕ → Option ℕ → Type 0) → ℕ → ℕ → Option ℕ → Type 0
Repeats step at zero p = p ≡ Some at
Repeats step at (suc n) p = (q : Option ℕ) × step at q × (MatchOption q (p ≡ None) (λ end. Repeats step end n p))

module _ {A : Type 0} where
  -- one record
  pub data Ends (f : List ℕ → Reading A) (bs : List ℕ) (at : ℕ) (p : Option ℕ) : Type 0 where
    breaks : f (drop at bs) ≡ broken → p ≡ None → Ends f bs at p
    ends : (x : A) (end : ℕ) → Read f bs at x end → p ≡ Some end → Ends f bs at p

  -- n records stand one after another, up to an end
  pub record Together (f : List ℕ → Reading A) (bs : List ℕ) (at n end : ℕ) : Type 0 where
    pub list : List A
    pub counted : length list ≡ n
    pub run : Run f bs at list end

  pub data AllEnd (f : List ℕ → Reading A) (bs : List ℕ) (at n : ℕ) (p : Option ℕ) : Type 0 where
    all_break : many n f (drop at bs) ≡ broken → p ≡ None → AllEnd f bs at n p
    all_end : (end : ℕ) → Together f bs at n end → p ≡ Some end → AllEnd f bs at n p

-- What a record that is taken leaves of the block. Definitions only.
use Rattle.std.specs.Prelude.{ℕ, ◌≡◌, List}

-- what was read stays, and where it ends
pub record Kept (bytes : List ℕ) (end : ℕ) (bytes' : List ℕ) (end' : ℕ) : Type 0 where
  pub read : bytes' ≡ bytes
  pub stop : end' ≡ end

-- What is read out of lent bytes, and what is put into them. Definitions only.
use Rattle.std.specs.Prelude.{ℕ, ◌+◌, ◌^◌, ◌≤◌, ◌<◌, ◌≡◌, List, length}
use Rattle.std.proofs.lemmas.List.Edits.{sets}
use Rattle.rules.specs.Bytes.{number_at}

-- the number that stands in k bytes from `at` on
pub record ReadAt (k at : ℕ) (bytes : List ℕ) (n : ℕ) : Type 0 where
  pub value : n ≡ number_at k at bytes
  pub below : n < 256 ^ k

-- the bytes stand in the room from `at` on, and `end` is where they end
pub record Put (before : List ℕ) (at : ℕ) (bytes : List ℕ) (end : ℕ) (after : List ℕ) : Type 0 where
  pub place : end ≡ at + length bytes
  pub room : after ≡ sets before at bytes

-- a part of a list, from one index up to another
pub record Part {A : Type 0} (list : List A) (from to : ℕ) : Type 0 where
  pub rising : from ≤ to
  pub within : to ≤ length list

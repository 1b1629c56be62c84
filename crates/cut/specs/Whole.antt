-- The whole cut by a divider that is not infinite: its steps, its reply, and the memory after it. Definitions only.
use Rattle.std.specs.Prelude.{ℕ, ◌<◌, ◌≡◌, true, List, get_or, Float, Err, Ok}
use Rattle.rules.specs.Limits.{desk}
use Rattle.rules.specs.Memory.{Memory, plane_row, sound_memory}
use Rattle.rules.specs.Table.{Table, element_count}
use Rattle.rules.specs.Sound.{sound, sound_plane}
use Rattle.rules.specs.Held.{Holds, Came, memory_of}
use Rattle.rules.specs.Cut.{cut_finite}
use Rattle.rules.specs.Replies.{divider_of, params_of, written, cut_reply}
use Rattle.rules.specs.declared.Hyperplane.{Hyperplane}
use Rattle.rules.specs.declared.CutParams.{CutParams}
use Rattle.rules.specs.declared.ElementAnswer.{ElementAnswer}
use Rattle.space.specs.Chains.{Indexed}
use Rattle.space.specs.Shared.{row_of}
use Rattle.rules.specs.Refusals.{Reply}

-- a sound table that the memory holds, a root in use, and a divider that fits and is not infinite
pub record CutFit (cs : List ℕ) (ps hs : List Float) (es : List ℕ) (h : Hyperplane) (root : ℕ) (t : Table) : Type 0 where
  pub holds : Holds desk cs ps hs es t
  pub sound : sound desk t ≡ true
  pub used : root < element_count t
  pub plane : sound_plane t.dimension (divider_of t.dimension h) ≡ true
  pub row : row_of h ≡ plane_row desk (divider_of t.dimension h)

-- there is such a table, and the index is of its rows
pub record CutReady (cs : List ℕ) (ps hs : List Float) (es ix : List ℕ) (h : Hyperplane) (root : ℕ) : Type 0 where
  pub table : Table
  pub fit : CutFit cs ps hs es h root table
  pub indexed : Indexed es (get_or cs 1 0) ix

-- whatever such table the memory holds: the steps of the cut, and after a refusal the entries that it has appended; after an answer the index is of the rows
pub record CutTried (cs : List ℕ) (ps hs : List Float) (es : List ℕ) (p : CutParams) (root : ℕ) (r : Reply ElementAnswer) (cs' : List ℕ) (ps' hs' : List Float) (es' ix' : List ℕ) : Type 0 where
  pub of : (t : Table) → CutFit cs ps hs es p.divider root t
      → Came Ok Err (Holds desk cs' ps' hs' es') t (cut_finite desk (params_of t.dimension p) root t) r
  pub indexed : (a : ElementAnswer) → r ≡ Ok a → Indexed es' (get_or cs' 1 0) ix'

-- whatever such table the memory holds: the reply, and all memory given back where it is a refusal; after an answer the index is of the rows
pub record WholeCut (cs : List ℕ) (ps hs : List Float) (es : List ℕ) (p : CutParams) (root : ℕ) (r : Reply ElementAnswer) (cs' : List ℕ) (ps' hs' : List Float) (es' ix' : List ℕ) : Type 0 where
  pub of : (t : Table) → CutFit cs ps hs es p.divider root t
      → ◌≡◌ {A = Reply ElementAnswer × Memory} (r, memory_of cs' ps' hs' es') (written desk (memory_of cs ps hs es) (cut_finite desk (params_of t.dimension p) root t))
  pub indexed : (a : ElementAnswer) → r ≡ Ok a → Indexed es' (get_or cs' 1 0) ix'

-- ---- a cut of a memory that is known to be sound

-- the memory is sound, and the index is of its rows
pub record SoundIndexed (cs : List ℕ) (ps hs : List Float) (es ix : List ℕ) : Type 0 where
  pub sound : sound_memory desk (memory_of cs ps hs es) ≡ true
  pub indexed : Indexed es (get_or cs 1 0) ix

-- the reply and the memory of a cut; after an answer the memory is sound again, and the index is of its rows
pub record SoundCut (cs : List ℕ) (ps hs : List Float) (es : List ℕ) (p : CutParams) (root : ℕ) (r : Reply ElementAnswer) (cs' : List ℕ) (ps' hs' : List Float) (es' ix' : List ℕ) : Type 0 where
  pub reply : ◌≡◌ {A = Reply ElementAnswer × Memory} (r, memory_of cs' ps' hs' es') (cut_reply desk p root (memory_of cs ps hs es))
  pub indexed : (a : ElementAnswer) → r ≡ Ok a → SoundIndexed cs' ps' hs' es' ix'

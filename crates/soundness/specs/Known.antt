-- What the test of a row knows of the elements before it, read as rows of the memory. Definitions only.
use Rattle.std.specs.Prelude.{ℕ, ◌+◌, ◌*◌, ◌≤◌, ◌<◌, ◌≡◌, List, [], ◌∷◌, length, get_or}
use Rattle.rules.specs.Held.{laid}
use Rattle.rules.specs.Limits.{desk}
use Rattle.rules.specs.Lists.{pad, up_to}
use Rattle.space.specs.Numbers.{row_width, element_slice}
use Rattle.space.specs.Closed.{first_end, second_end, EndsLow, Stamped, stamp_room}
use Rattle.soundness.specs.declared.row.Spacing.{Spacing}

-- element x: its rank, the first two numbers of its boundary, and zeros for what is not known
abbrev pub known_row : List ℕ → Spacing → ℕ → List ℕ
known_row ws sp x =
    let at = x * sp.width in pad 0 row_width (get_or ws at 0 ∷ 0 ∷ 0 ∷ 0 ∷ get_or ws (at + sp.ends) 0 ∷ get_or ws (at + sp.ends + 1) 0 ∷ [])

-- every element of the room
unfoldable pub known_rows : List ℕ → Spacing → List ℕ
known_rows ws sp = laid 0 element_slice (known_row ws sp) (up_to desk.elements)

-- two memories say the same of the elements before row e: their ranks, and their first two numbers
pub record KnownAlike (es fs : List ℕ) (e : ℕ) : Type 0 where
  pub ranks : (x : ℕ) → x < e → get_or es (x * row_width) 0 ≡ get_or fs (x * row_width) 0
  pub first : (x : ℕ) → x < e → first_end es x ≡ first_end fs x
  pub second : (x : ℕ) → x < e → second_end es x ≡ second_end fs x

-- ---- what the functions ask for

-- words for every element of the room, each with place for a rank and two ends
pub record Spaced (ws : List ℕ) (sp : Spacing) : Type 0 where
  pub long : desk.elements * sp.width ≤ length ws
  pub ends : sp.ends + 2 ≤ sp.width
  pub width : sp.width ≤ row_width

pub record ElementKnown (ws : List ℕ) (sp : Spacing) (x : ℕ) : Type 0 where
  pub spaced : Spaced ws sp
  pub room : x < desk.elements

pub record EndKnown (ws : List ℕ) (sp : Spacing) (x i : ℕ) : Type 0 where
  pub element : ElementKnown ws sp x
  pub one : i < 2

-- the ends of edge x are taken up under a stamp
pub record EndsKnown (ws : List ℕ) (sp : Spacing) (x s : ℕ) : Type 0 where
  pub element : ElementKnown ws sp x
  pub ends : EndsLow (known_rows ws sp) x
  pub stamp : s < stamp_room

-- and they are the ends of paths
pub record PathsKnown (ws : List ℕ) (sp : Spacing) (x s : ℕ) (paths : List ℕ) : Type 0 where
  pub edge : EndsKnown ws sp x s
  pub stamped : Stamped s paths

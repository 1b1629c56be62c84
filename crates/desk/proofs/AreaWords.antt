-- A sheet has at most eighteen numbers: its size fits above the reply's number.
use Prim.Native.Nat.{ℕ, ◌≤◌}
use mathlib.Core.Bool.{Bool, true, false}
use mathlib.Core.List.{List}
use mathlib.Core.Path.{◌≡◌, refl, sym, ap, ◌∙◌}
use native.Mathlib.Omega.{arith}
use lib.IntN.{ℤ}
use lib.ListN.{length}
use Rattle.rules.specs.Limits.{desk}
use Rattle.rules.specs.Lists.{all}
use Rattle.rules.specs.Table.{Table}
use Rattle.rules.specs.Memory.{Memory, decode, sound_memory}
use Rattle.rules.specs.Questions.{Asked}
use Rattle.rules.specs.Replies.{list_size, listed}
use Rattle.rules.specs.Areas.{most_pieces, piece_on_grid, areas_reply}
use Rattle.rules.proofs.AreaReplies.{sheet_by, few, used, flat, sheet_by_lem, areas_fill_front}
use Rattle.rules.proofs.Laws.{le_test, none_some}
use Rattle.desk.specs.Words.{longest, SizeFits}
use Rattle.rules.specs.Refusals.{Reply}
use Rattle.std.specs.Prelude.{Ok, Err}

module _ (m : Memory) (pieces : List ℕ) (room : List ℤ) where
  abbrev t : Table
  t = decode desk m

  by_count : (b : Bool) → few pieces ≡ b → areas_reply desk m pieces room ≡ listed (sheet_by t pieces (sound_memory desk m) b (used t pieces) (flat t pieces) (all (piece_on_grid t) pieces)) room
  unfolding areas_reply
  by_count b q = ap (λ (a : Asked (List ℤ)). listed a room) (sheet_by_lem desk m pieces ∙ ap (λ (c : Bool). sheet_by t pieces (sound_memory desk m) c (used t pieces) (flat t pieces) (all (piece_on_grid t) pieces)) q)

  -- above the limit there is no size
  none_above : (s : Bool) (n : ℕ) → (listed (sheet_by t pieces s false (used t pieces) (flat t pieces) (all (piece_on_grid t) pieces)) room).0 ≡ Ok n → ⊥
  none_above false n e = none_some n (ap list_size e)
  none_above true n e = none_some n (ap list_size e)

  pub sheet_fits : SizeFits (areas_reply desk m pieces room).0
  sheet_fits = go (areas_reply desk m pieces room).0 refl
    where
      short : (n : ℕ) (b : Bool) → few pieces ≡ b → (areas_reply desk m pieces room).0 ≡ Ok n → length pieces ≤ most_pieces
      short n true q e = le_test (length pieces) most_pieces q
      short n false q e = absurd (none_above (sound_memory desk m) n (sym (ap (λ (x : Reply ℕ × List ℤ). x.0) (by_count false q)) ∙ e))

      go : (r : Reply ℕ) → (areas_reply desk m pieces room).0 ≡ r → SizeFits r
      go (Err n) e = tt
      go (Ok n) e =
          let l = short n (few pieces) refl e in
          let k = (areas_fill_front desk m pieces room n (ap list_size e)).0 in
          let z : n ≤ longest = omega (arith, l, k) in
          z

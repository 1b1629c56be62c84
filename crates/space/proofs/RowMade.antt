-- The row that the code writes of a polytope is the one that the rules write of it.
use Rattle.std.specs.Prelude.{if◌then◌else◌, Some, None}
use Prim.Native.Nat.{ℕ, suc, ◌+◌, ◌-◌, ◌≤◌, ◌<◌}
use mathlib.Core.Path.{◌≡◌, refl, sym, ap, ◌∙◌, subst}
use mathlib.Core.Bool.{Bool, true, false, cond}
use mathlib.Core.List.{List, ◌∷◌, ◌++◌}
use native.Mathlib.Nat.{zero-add, le_of_eq}
use native.Mathlib.Omega.{arith}
use lib.Dec.{eqb}
use lib.ListN.{length, get_or, take, set, replicate}
use lib.Seq.{sets, sets-eq, length-take-le, get_or-take, take_all}
use borrow.Author.Tests.{eqb-true}
use mir.Val.{bool_byte}
use Rattle.rules.specs.Limits.{desk, no_plane}
use Rattle.rules.specs.Lists.{pad, rises}
use Rattle.rules.specs.Table.{polytope}
use Rattle.rules.specs.Memory.{element_row, plane_number, plane_named}
use Rattle.rules.specs.Held.{element_words}
use Rattle.space.specs.Closed.{Low, LowEnds, EndsLow}
use Rattle.space.proofs.Laid.{drop_replicate}

-- a mark as a word
pub bit_is : (b : Bool) → bool_byte b ≡ cond b 1 0
bit_is true = refl
bit_is false = refl

module _ (list : List ℕ) where
  pub row_is : (r plane bit : ℕ) (mark : Bool) (row row₀ : List ℕ) → length list ≤ 32 → bit ≡ cond mark 1 0
      → row₀ ≡ set (set (set (set (replicate 36 0) 0 r) 1 bit) 2 plane) 3 (length list)
      → row ≡ sets row₀ 4 list → row ≡ element_words desk (polytope r list (plane_named plane) mark)
  unfolding element_row
  row_is r plane bit mark row row₀ l e f g =
      g ∙ ap (λ (s : List ℕ). sets s 4 list) f
      ∙ sets-eq words (replicate 36 0) 0 (let q : 0 + (suc (suc (suc (suc (length list))))) ≤ 36 = omega (arith, l) in q)
      ∙ ap (λ (s : List ℕ). words ++ s) (drop_replicate (0 + length words) 36 0 ∙ ap (λ (k : ℕ). replicate (36 - k) 0) (zero-add (length words)))
      ∙ (λ i. pad 0 36 (r ∷ e i ∷ plane_back i ∷ length list ∷ list))
    where
      words : List ℕ
      words = r ∷ bit ∷ plane ∷ length list ∷ list

      plane_back : plane ≡ plane_number (plane_named plane)
      plane_back = go (eqb plane no_plane) refl
        where
          go : (b : Bool) → eqb plane no_plane ≡ b → plane ≡ plane_number (if b then None else Some plane)
          go true q = eqb-true plane no_plane q
          go false q = refl

-- the first n numbers of a list, as a list
module _ (list : List ℕ) (n : ℕ) (fit : n ≤ length list) where
  pub taken : length (take n list) ≡ n
  taken = length-take-le n list fit

  entry : (k : ℕ) → k < length (take n list) → get_or list k 0 ≡ get_or (take n list) k 0
  entry k h = sym (get_or-take n list k 0 (let l = taken in let q : k < n = omega (arith, l, h) in q))

  pub front_low : Low list n → Low (take n list) (length (take n list))
  front_low L = record { at = λ k h. subst (λ (x : ℕ). x < 512) (entry k h) (L.at k (let l = taken in omega (arith, l, h))) }

  pub front_ends : {es : List ℕ} → LowEnds es list n → LowEnds es (take n list) (length (take n list))
  front_ends {es} E = record {
    rising = ap rises (take_all (length (take n list)) (take n list) (le_of_eq refl)) ∙ E.rising;
    each = λ k h. subst (EndsLow es) (entry k h) (E.each k (let l = taken in omega (arith, l, h)));
  }

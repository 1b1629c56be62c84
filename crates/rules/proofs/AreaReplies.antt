-- The promises of an area sheet. Its reply is what `listed` makes of it, so what holds of every list holds of it; its numbers are by cases on its tests.
use Rattle.std.specs.Prelude.{if◌then◌else◌, Some}
use Prim.Native.Nat.{ℕ, suc, ◌^◌, ◌≤◌}
use mathlib.Core.Bool.{Bool, true, false, not, ◌&&◌}
use mathlib.Core.List.{List, [], ◌∷◌, ◌++◌, map}
use mathlib.Core.Path.{◌≡◌, refl, sym, ap, ◌∙◌, subst}
use native.Mathlib.Nat.{le_trans, mul-le-mul_right}
use lib.Dec.{leb, ltb, eqb, lit≤}
use lib.IntN.{ℤ, pos, nat_abs}
use lib.ListN.{length}
use Rattle.rules.specs.Limits.{Limits}
use Rattle.rules.specs.Lists.{all}
use Rattle.rules.specs.Table.{Table, rank, element_count}
use Rattle.rules.specs.Sound.{sound}
use Rattle.rules.specs.Memory.{Memory, decode, sound_memory}
use Rattle.rules.specs.Questions.{Asked, no_answer, answer}
use Rattle.rules.specs.Replies.{list_size, listed}
use Rattle.rules.specs.Areas.{most_pieces, piece_on_grid, twice_area, sizes, sheet, area_sheet, areas_reply, AreasNumbers, RefusedAreasLeave, AreasFillFront, AreasFit}
use Rattle.rules.proofs.AreaSizes.{area_few, sizes_few}
use Rattle.rules.proofs.Laws.{and_true, le_test, test_le, none_some}
use Rattle.rules.proofs.OneCall.{sound_table}
use Rattle.rules.proofs.Refusals.{RefusedIn, listed_refused, listed_fills, listed_in, listed_by}
use Rattle.rules.specs.declared.Refusal.TheVariants.{ListLong, NotInUse, NotSound, OffGrid, Rank}
use Rattle.rules.specs.declared.Refusal.{Refusal}

-- ---- a refusal is no answer

abbrev entries : Asked (List ℤ) → List ℤ
entries (no_answer n) = []
entries (answer xs) = xs

abbrev Answered : Asked (List ℤ) → Type 0
Answered (no_answer n) = ⊥
Answered (answer xs) = Unit {0}

not_answered : {B : Type 0} (n : Refusal) (xs : List ℤ) → no_answer n ≡ answer xs → B
not_answered n xs q = absurd (subst Answered (sym q) tt)

-- ---- the tests in turn

abbrev pub sheet_by : Table → List ℕ → Bool → Bool → Bool → Bool → Bool → Asked (List ℤ)
sheet_by t pieces s n u r g =
    if not s then no_answer NotSound
    else if not n then no_answer ListLong
    else if not u then no_answer NotInUse
    else if not r then no_answer Rank
    else if not g then no_answer OffGrid
    else answer (sheet t pieces)

abbrev pub few : List ℕ → Bool
few pieces = leb (length pieces) most_pieces

abbrev pub used : Table → List ℕ → Bool
used t pieces = all (λ f. ltb f (element_count t)) pieces

abbrev pub flat : Table → List ℕ → Bool
flat t pieces = eqb t.dimension 2 && all (λ f. eqb (rank t f) 2) pieces

module _ (L : Limits) (m : Memory) (pieces : List ℕ) where
  abbrev t : Table
  t = decode L m

  pub sheet_by_lem : area_sheet L m pieces ≡ sheet_by t pieces (sound_memory L m) (few pieces) (used t pieces) (flat t pieces) (all (piece_on_grid t) pieces)
  unfolding area_sheet
  sheet_by_lem = refl

  abbrev numbers : List ℕ
  numbers = 3 ∷ 26 ∷ 4 ∷ 6 ∷ 25 ∷ 12 ∷ []

  sheet_in : RefusedIn numbers (area_sheet L m pieces)
  sheet_in = subst (RefusedIn numbers) (sym sheet_by_lem) (go (sound_memory L m) (few pieces) (used t pieces) (flat t pieces) (all (piece_on_grid t) pieces))
    where
      go : (s n u r g : Bool) → RefusedIn numbers (sheet_by t pieces s n u r g)
      go false n u r g = refl
      go true false u r g = refl
      go true true false r g = refl
      go true true true false g = refl
      go true true true true false = refl
      go true true true true true = tt

  -- what was answered is the sheet of a sound table, of few pieces
  answered : (xs : List ℤ) → area_sheet L m pieces ≡ answer xs → (sound_memory L m ≡ true) × (length pieces ≤ most_pieces) × (sheet t pieces ≡ xs)
  answered xs e = go (sound_memory L m) (few pieces) (used t pieces) (flat t pieces) (all (piece_on_grid t) pieces) refl refl (sym sheet_by_lem ∙ e)
    where
      go : (s n u r g : Bool) → sound_memory L m ≡ s → few pieces ≡ n → sheet_by t pieces s n u r g ≡ answer xs
          → (sound_memory L m ≡ true) × (length pieces ≤ most_pieces) × (sheet t pieces ≡ xs)
      go false n u r g p₁ p₂ q = not_answered NotSound xs q
      go true false u r g p₁ p₂ q = not_answered ListLong xs q
      go true true false r g p₁ p₂ q = not_answered NotInUse xs q
      go true true true false g p₁ p₂ q = not_answered Rank xs q
      go true true true true false p₁ p₂ q = not_answered OffGrid xs q
      go true true true true true p₁ p₂ q = (p₁, le_test (length pieces) most_pieces p₂, ap entries q)

-- ---- every number of it

long : (t : Table) (pieces : List ℕ) → length (sheet t pieces) ≡ suc (suc (length pieces))
unfolding sheet
long t pieces = two_more pieces (pos (length pieces)) (pos (sizes (map (twice_area t) pieces)))
  where
    two_more : (fs : List ℕ) (y z : ℤ) → length (map (twice_area t) fs ++ y ∷ z ∷ []) ≡ suc (suc (length fs))
    two_more [] y z = refl
    two_more (f ∷ fs) y z = ap suc (two_more fs y z)

module _ (L : Limits) (t : Table) (s : sound L t ≡ true) (b : L.boundary ≤ 32) (pieces : List ℕ) (n : length pieces ≤ most_pieces) where
  abbrev fits : ℤ → Bool
  fits z = leb (nat_abs z) (2 ^ 62)

  small : (n k : ℕ) → n ≤ k → k ≤ 2 ^ 62 → leb n (2 ^ 62) ≡ true
  small n k h l = test_le n (2 ^ 62) (le_trans h l)

  sizes_fit : sizes (map (twice_area t) pieces) ≤ 2 ^ 62
  sizes_fit = le_trans (sizes_few (twice_area t) (2 ^ 58) (area_few L t s b) pieces) (mul-le-mul_right (2 ^ 58) n)

  areas_then : (fs : List ℕ) (zs : List ℤ) → all fits zs ≡ true → all fits (map (twice_area t) fs ++ zs) ≡ true
  areas_then [] zs h = h
  areas_then (f ∷ fs) zs h =
      and_true (fits (twice_area t f)) (all fits (map (twice_area t) fs ++ zs)) (small (nat_abs (twice_area t f)) (2 ^ 58) (area_few L t s b f) (lit≤ tt)) (areas_then fs zs h)

  sheet_fits : all fits (sheet t pieces) ≡ true
  unfolding sheet
  sheet_fits =
      areas_then pieces _ (and_true (leb (length pieces) (2 ^ 62)) _ (small (length pieces) most_pieces n (lit≤ tt))
      (and_true (leb (sizes (map (twice_area t) pieces)) (2 ^ 62)) true (small _ (2 ^ 62) sizes_fit (lit≤ tt)) refl))

-- ---- the promises

pub areas_numbers : (L : Limits) → AreasNumbers L
unfolding areas_reply
areas_numbers L m pieces room = listed_in (3 ∷ 26 ∷ 4 ∷ 6 ∷ 25 ∷ 12 ∷ []) (area_sheet L m pieces) room (sheet_in L m pieces) refl refl

pub refused_areas_leave : (L : Limits) → RefusedAreasLeave L
unfolding areas_reply
refused_areas_leave L m pieces room h = listed_refused (area_sheet L m pieces) room h

pub areas_fill_front : (L : Limits) → AreasFillFront L
unfolding areas_reply
areas_fill_front L m pieces room n e = (go (area_sheet L m pieces) refl e, listed_fills (area_sheet L m pieces) room n e)
  where
    go : (a : Asked (List ℤ)) → area_sheet L m pieces ≡ a → list_size (listed a room).0 ≡ Some n → n ≡ suc (suc (length pieces))
    go (no_answer k) q z = none_some n z
    go (answer xs) q z = by (leb (length xs) (length room)) z
      where
        by : (b : Bool) → list_size (listed_by xs room b).0 ≡ Some n → n ≡ suc (suc (length pieces))
        by true w = let k : length xs ≡ n = cc in sym k ∙ ap length (sym (answered L m pieces xs q).2) ∙ long (decode L m) pieces
        by false w = none_some n w

pub areas_fit : (L : Limits) → AreasFit L
areas_fit L b m pieces xs e =
    let a = answered L m pieces xs e in
    subst (λ (zs : List ℤ). all (λ z. leb (nat_abs z) (2 ^ 62)) zs ≡ true) a.2 (sheet_fits L (decode L m) (sound_table L m a.0) b pieces a.1)

-- The loops over words and rows.
use Rattle.std.specs.Prelude.{if◌then◌else◌}
use Prim.Native.Nat.{◌-◌, ℕ, ◌≤◌, ◌*◌, zero, suc, ◌<◌, ◌+◌}
use mathlib.Core.Bool.{Bool, ◌&&◌, true, false}
use mathlib.Core.List.{List, [], ◌∷◌}
use mathlib.Core.Path.{◌≡◌, sym, ap, ◌∙◌, refl, ap₂}
use native.Mathlib.Nat.{sub-zero, zero-mul, le_trans, le_of_eq}
use native.Mathlib.Omega.{arith}
use lib.Dec.{leb, lit≤, eqb}
use lib.Ieee.{Float}
use lib.ListN.{drop, take, drop_of_length-le, length, get_or}
use lib.Seq.{drop-drop, take-take, take_all, get_or-take, get_or-drop}
use Rattle.rules.specs.Floats.{within, farthest}
use Rattle.rules.specs.Limits.{desk, no_plane}
use Rattle.rules.specs.Lists.{all, rows}
use Rattle.rules.specs.Table.{primordials}
use Rattle.rules.proofs.Indexed.{rows_on}
use Rattle.rules.proofs.Laws.{test_le, test_eq, not_eq, eq_test, le_test, and_right, and_when}
use Rattle.soundness.specs.Words.{counts_fit, blank_floats, blank_words, point_words, points_sound, record_words, head_words, past_blank, corner_named}

-- ---- counts

pub counts_are : (d n v h : ℕ) (a b c e f g : Bool) → leb 1 d ≡ a → leb d 4 ≡ b → leb v 256 ≡ c → leb n 512 ≡ e → leb h 64 ≡ f → leb (primordials d) h ≡ g → (a && b && c && e && f && g) ≡ counts_fit desk d n v h
unfolding counts_fit
counts_are d n v h a b c e f g p q r s t u = sym (λ i. p i && q i && r i && s i && t i && u i)

pub own_one : (d h : ℕ) → d ≡ 1 → leb (primordials d) h ≡ true
own_one d h e = ap (λ (k : ℕ). leb (primordials k) h) e ∙ test_le 0 h (let q : 0 ≤ h = omega arith in q)

pub own_more : (d h : ℕ) → 1 ≤ d → (d ≡ 1 → ⊥) → leb (primordials d) h ≡ leb (2 * d) h
own_more zero h l n = absurd (let z : ⊥ = omega (arith, l) in z)
own_more (suc zero) h l n = absurd (n refl)
own_more (suc (suc d)) h l n = refl

-- ---- a test of every row

module _ {A : Type 0} (p : List A → Bool) (w n : ℕ) (l : List A) where
  pub row_go : {reply : Bool} (b : Bool) (i : ℕ) → reply ≡ (all p (rows (n - i) w (drop (i * w) l)) && b) → i < n → p (take w (drop (i * w) l)) ≡ true → reply ≡ (all p (rows (n - (i + 1)) w (drop ((i + 1) * w) l)) && b)
  row_go b i e h q = e ∙ ap (λ (k : List (List A)). all p k && b) (rows_on w i n l h) ∙ ap (λ (c : Bool). (c && all p (rows (n - (i + 1)) w (drop ((i + 1) * w) l))) && b) q

  pub row_no : {reply : Bool} (b : Bool) (i : ℕ) → reply ≡ (all p (rows (n - i) w (drop (i * w) l)) && b) → i < n → p (take w (drop (i * w) l)) ≡ false → false ≡ reply
  row_no b i e h q = sym (e ∙ ap (λ (k : List (List A)). all p k && b) (rows_on w i n l h) ∙ ap (λ (c : Bool). (c && all p (rows (n - (i + 1)) w (drop ((i + 1) * w) l))) && b) q)

  pub row_end : {reply : Bool} (b : Bool) (i : ℕ) → reply ≡ (all p (rows (n - i) w (drop (i * w) l)) && b) → n ≤ i → b ≡ reply
  row_end b i e h = sym (e ∙ ap (λ (m : ℕ). all p (rows m w (drop (i * w) l)) && b) (let z : n - i ≡ 0 = omega arith in z))

  pub row_start : (b : Bool) → (all p (rows n w l) && b) ≡ (all p (rows (n - 0) w (drop (0 * w) l)) && b)
  row_start b = ap₂ (λ (m k : ℕ). all p (rows m w (drop k l)) && b) (sym (sub-zero n)) (sym (zero-mul w))

-- ---- parts of a row

module _ {A : Type 0} where
  pub drop_take : (a k : ℕ) (l : List A) → drop a (take (a + k) l) ≡ take k (drop a l)
  drop_take zero k l = ap (λ (n : ℕ). take n l) (let q : zero + k ≡ k = omega arith in q)
  drop_take (suc a) k [] = drop_of_length-le (take (suc a + k) []) (nil (suc a + k)) ∙ sym (empty k)
    where
      empty : (n : ℕ) → ◌≡◌ {A = List A} (take n []) []
      empty zero = refl
      empty (suc n) = refl

      nil : (n : ℕ) → length (take {A = A} n []) ≤ suc a
      nil n = le_trans (le_of_eq (ap length (empty n))) (let q : 0 ≤ suc a = omega arith in q)
  drop_take (suc a) k (x ∷ l) = ap (λ (n : ℕ). drop (suc a) (take n (x ∷ l))) (let q : suc a + k ≡ suc (a + k) = omega arith in q) ∙ drop_take a k l

  -- the words from at + j up to the end of a row of w
  row_part : (at j w : ℕ) (l : List A) → j ≤ w → drop (at + j) (take (at + w) l) ≡ drop j (take w (drop at l))
  row_part at j w l h = sym (drop-drop j at (take (at + w) l)) ∙ ap (drop j) (drop_take at w l)

  pub front : (at j w : ℕ) (l : List A) → j ≤ w → drop at (take (at + j) l) ≡ take j (take w (drop at l))
  front at j w l h = drop_take at j l ∙ sym (take-take j w (drop at l) h)

pub point_is : (d at : ℕ) (ps : List Float) (a b : Bool) → d ≤ 4 → a ≡ all (within farthest) (drop at (take (at + d) ps)) → b ≡ blank_floats (drop (at + d) (take (at + 4) ps)) → (a && b) ≡ point_words d (take 4 (drop at ps))
unfolding point_words
point_is d at ps a b h p q = ap₂ (λ (x y : Bool). x && y) (p ∙ ap (all (within farthest)) (front at d 4 ps h)) (q ∙ ap blank_floats (row_part at d 4 ps h))

-- ---- points

pub points_start : (d v : ℕ) (ps : List Float) → points_sound desk d v ps ≡ (all (point_words d) (rows (v - 0) 4 (drop (0 * 4) ps)) && blank_floats (drop (v * 4) ps))
unfolding points_sound
points_start d v ps = row_start (point_words d) 4 v ps (blank_floats (drop (v * 4) ps))

pub whole_room : {A : Type 0} (p : List A → Bool) (k n : ℕ) (l : List A) → length l ≡ n → p (drop k (take n l)) ≡ p (drop k l)
whole_room {A} p k n l e = ap (λ (m : List A). p (drop k m)) (take_all n l (le_of_eq e))

-- ---- heads and records

pub row_word : (at j : ℕ) (es : List ℕ) → j < 36 → get_or (take 36 (drop at es)) j 0 ≡ get_or es (at + j) 0
row_word at j es h = get_or-take 36 (drop at es) j 0 h ∙ get_or-drop at es j 0

pub row_first : (at : ℕ) (es : List ℕ) → get_or (take 36 (drop at es)) 0 0 ≡ get_or es at 0
row_first at es = row_word at 0 es (lit≤ tt) ∙ ap (λ (k : ℕ). get_or es k 0) (let q : at + 0 ≡ at = omega arith in q)

row_fifth : (at : ℕ) (es : List ℕ) → get_or (take 36 (drop at es)) 4 0 ≡ get_or es (at + 4) 0
row_fifth at es = row_word at 4 es (lit≤ tt)

abbrev head_tests : ℕ → ℕ → ℕ → ℕ → Bool
head_tests a m p n = if eqb a 0 then eqb 0 m && eqb no_plane p && eqb 1 n else (leb m 1 && leb n 32)

module _ (at : ℕ) (es : List ℕ) where
  abbrev row : List ℕ
  row = take 36 (drop at es)

  head_are : head_words desk row ≡ head_tests (get_or es at 0) (get_or es (at + 1) 0) (get_or es (at + 2) 0) (get_or es (at + 3) 0)
  unfolding head_words
  head_are = λ i. head_tests (row_first at es i) (row_word at 1 es (lit≤ tt) i) (row_word at 2 es (lit≤ tt) i) (row_word at 3 es (lit≤ tt) i)

  abbrev by_rank : Bool → Bool
  by_rank y = if y then eqb 0 (get_or es (at + 1) 0) && eqb no_plane (get_or es (at + 2) 0) && eqb 1 (get_or es (at + 3) 0) else (leb (get_or es (at + 1) 0) 1 && leb (get_or es (at + 3) 0) 32)

  pub head_corner : (b c e : Bool) → get_or es at 0 ≡ 0 → eqb 0 (get_or es (at + 1) 0) ≡ b → eqb no_plane (get_or es (at + 2) 0) ≡ c → eqb 1 (get_or es (at + 3) 0) ≡ e
      → (b && c && e) ≡ head_words desk row
  head_corner b c e z p q r = sym (head_are ∙ ap by_rank (test_eq _ 0 z) ∙ (λ i. p i && q i && r i))

  pub head_polytope : (b c : Bool) → (get_or es at 0 ≡ 0 → ⊥) → leb (get_or es (at + 1) 0) 1 ≡ b → leb (get_or es (at + 3) 0) 32 ≡ c → (b && c) ≡ head_words desk row
  head_polytope b c z p q = sym (head_are ∙ ap by_rank (not_eq _ 0 z) ∙ (λ i. p i && q i))

  -- the count of a row whose head is sound fits the room
  pub head_few : head_words desk row ≡ true → get_or es (at + 3) 0 ≤ 32
  head_few w = go (eqb (get_or es at 0) 0) (sym head_are ∙ w)
    where
      go : (y : Bool) → by_rank y ≡ true → get_or es (at + 3) 0 ≤ 32
      go true t =
          let q = eq_test 1 (get_or es (at + 3) 0) (and_right (eqb 0 (get_or es (at + 1) 0) && eqb no_plane (get_or es (at + 2) 0)) (eqb 1 (get_or es (at + 3) 0)) t) in
          let z : get_or es (at + 3) 0 ≤ 32 = omega (arith, q) in z
      go false t = le_test (get_or es (at + 3) 0) 32 (and_right (leb (get_or es (at + 1) 0) 1) (leb (get_or es (at + 3) 0) 32) t)

  -- past the boundary, in the row and in the memory
  pub past_is : past_blank row ≡ blank_words (drop (at + 4 + get_or es (at + 3) 0) (take (at + 36) es))
  unfolding past_blank
  past_is =
      ap (λ (k : ℕ). blank_words (drop k (drop 4 row))) (row_word at 3 es (lit≤ tt))
      ∙ ap blank_words (ap (drop (get_or es (at + 3) 0)) (sym (row_part at 4 36 es (lit≤ tt))) ∙ drop-drop (get_or es (at + 3) 0) (at + 4) (take (at + 36) es))

-- a record is its head, and nothing past its boundary
pub record_parts : (r : List ℕ) → record_words desk r ≡ (head_words desk r && past_blank r)
unfolding record_words head_words past_blank
record_parts r = go (eqb (get_or r 0 0) 0)
  where
    go : (y : Bool) → (if y then eqb 0 (get_or r 1 0) && eqb no_plane (get_or r 2 0) && eqb 1 (get_or r 3 0) && blank_words (drop 5 r) else (leb (get_or r 1 0) 1 && leb (get_or r 3 0) 32 && blank_words (drop (get_or r 3 0) (drop 4 r))))
        ≡ ((if y then eqb 0 (get_or r 1 0) && eqb no_plane (get_or r 2 0) && eqb 1 (get_or r 3 0) else (leb (get_or r 1 0) 1 && leb (get_or r 3 0) 32)) && blank_words (drop (get_or r 3 0) (drop 4 r)))
    go true =
        and_when (eqb 0 (get_or r 1 0) && eqb no_plane (get_or r 2 0) && eqb 1 (get_or r 3 0)) (blank_words (drop 5 r)) (blank_words (drop (get_or r 3 0) (drop 4 r)))
        (λ t. sym (ap (λ (k : ℕ). blank_words (drop k (drop 4 r))) (sym (eq_test 1 (get_or r 3 0) (and_right (eqb 0 (get_or r 1 0) && eqb no_plane (get_or r 2 0)) (eqb 1 (get_or r 3 0)) t))) ∙ ap blank_words (drop-drop 1 4 r)))
    go false = refl

-- ---- corners

pub named_is : (at k : ℕ) (es : List ℕ) (b : Bool) → eqb (get_or es at 0) 0 ≡ b → (if b then eqb (get_or es (at + 4) 0) k else true) ≡ corner_named k (take 36 (drop at es))
named_is at k es b e = sym (ap₂ (λ (x y : ℕ). if eqb x 0 then eqb y k else true) (row_first at es) (row_fifth at es) ∙ ap (λ (c : Bool). if c then eqb (get_or es (at + 4) 0) k else true) e)

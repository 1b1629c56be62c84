-- The room behind what is listed takes what is left to list: after each step the whole list is still what is to come.
use Prim.Native.Nat.{ℕ, suc, ◌+◌, ◌*◌, ◌-◌, ◌/◌, ◌^◌, ◌<◌, ◌≤◌}
use mathlib.Core.Bool.{Bool, true, false}
use mathlib.Core.List.{List, [], ◌∷◌, ◌++◌}
use mathlib.Core.Path.{◌≡◌, refl, sym, ap, ap₂, ◌∙◌}
use native.Mathlib.Numerals.{add-one}
use native.Mathlib.Omega.{arith}
use lib.Count.{count_trailing_zeros}
use lib.Dec.{leb}
use lib.ListN.{length, get_or, set, drop, length-set, length-append}
use lib.Seq.{sets, sets-eq, length-sets}
use Rattle.rules.specs.Questions.{answer}
use Rattle.rules.specs.Replies.{listed}
use Rattle.rules.specs.Refusals.{Reply}
use Rattle.rules.specs.declared.Refusal.{Refusal}
use Rattle.rules.proofs.Laws.{if_true, if_false, test_le, test_above, le_test, not_both}
use Rattle.elements.specs.Marks.{bits_from, words_from, marked_numbers, CountOf, WordListed}
use Rattle.elements.proofs.WordLoops.{Leaving, numbers_left, leaving_start, all_left, none_left, next_left, leaving_next, next_word, no_words}
use Rattle.rules.specs.declared.Refusal.TheVariants.{RoomShort}
use Rattle.std.specs.Prelude.{Ok, Err}

-- ---- one word

-- left holds the digits from x on, and they go to the places from at on
pub record Listing (l₀ : List ℕ) (from word base : ℕ) (l : List ℕ) (at x left : ℕ) : Type 0 where
  pub long : length l ≡ length l₀
  pub leaving : Leaving base x left
  pub size : at + length (numbers_left base x left) ≡ from + length (bits_from 64 word base)
  pub list : sets l at (numbers_left base x left) ≡ sets l₀ from (bits_from 64 word base)

pub listing_start : (l : List ℕ) (from word base : ℕ) → word < 2 ^ 64 → Listing l from word base l from base word
listing_start l from word base h =
    let e = sym (all_left base word) in
    record { long = refl; leaving = leaving_start base word h; size = ap (λ (xs : List ℕ). from + length xs) e; list = ap (sets l from) e }

module _ (l₀ : List ℕ) (from word base : ℕ) (l : List ℕ) (at x left : ℕ) (i : Listing l₀ from word base l at x left) where
  pub listing_end : left ≡ 0 → WordListed l₀ from word base at l
  listing_end e =
      let none = none_left base x left e in
      record { next = let s = i.size in let n = ap length none in omega (arith, s, n); written = sym (ap (sets l at) none) ∙ i.list }

  module _ (z : ℕ) (q : z ≡ count_trailing_zeros 64 left) (n : left ≡ 0 → ⊥) where
    split : numbers_left base x left ≡ (x + z) ∷ numbers_left base (x + z + 1) (left / 2 ^ z / 2 ^ 1)
    split = next_left base x left i.leaving z q n

    pub listing_room : from + length (bits_from 64 word base) ≤ length l₀ → at < length l
    listing_room r =
        let s = ap length split in
        let e = i.size in
        let m = i.long in
        omega (arith, s, e, m, r)

    pub listing_next : Listing l₀ from word base (set l at (x + z)) (at + 1) (x + z + 1) (left / 2 ^ z / 2 ^ 1)
    listing_next = record {
      long = length-set l at (x + z) ∙ i.long;
      leaving = leaving_next base x left i.leaving z q n;
      size = let e = i.size in let s = ap length split in omega (arith, e, s);
      list = ap (λ (k : ℕ). sets (set l at (x + z)) k (numbers_left base (x + z + 1) (left / 2 ^ z / 2 ^ 1))) (add-one at) ∙ sym (ap (sets l at) split) ∙ i.list;
    }

-- ---- all words

sets_append : (xs ys l : List ℕ) (at : ℕ) → sets l at (xs ++ ys) ≡ sets (sets l at xs) (at + length xs) ys
sets_append [] ys l at = ap (λ (k : ℕ). sets l k ys) (let q : at ≡ at + 0 = omega arith in q)
sets_append (x ∷ xs) ys l at = sets_append xs ys (set l at x) (suc at) ∙ ap (λ (k : ℕ). sets (sets (set l at x) (suc at) xs) k ys) (let q : suc at + length xs ≡ at + suc (length xs) = omega arith in q)

-- the words from w on are left, and go to the places from at on
pub record Filling (ws l₀ l : List ℕ) (at w : ℕ) : Type 0 where
  pub long : length l ≡ length l₀
  pub size : at + length (words_from (8 - w) w ws) ≡ length (marked_numbers ws)
  pub list : sets l at (words_from (8 - w) w ws) ≡ sets l₀ 0 (marked_numbers ws)

pub filling_start : (ws l : List ℕ) → Filling ws l l 0 0
unfolding marked_numbers
filling_start ws l = record { long = refl; size = omega arith; list = refl }

module _ (ws l₀ l : List ℕ) (at w : ℕ) (f : Filling ws l₀ l at w) where
  pub filling_end : w ≡ 8 → l ≡ sets l₀ 0 (marked_numbers ws)
  filling_end e = sym (ap (sets l at) (no_words ws w e)) ∙ f.list

  module _ (less : w < 8) where
    word : List ℕ
    word = bits_from 64 (get_or ws w 0) (w * 64)

    word_split : words_from (8 - w) w ws ≡ word ++ words_from (8 - (w + 1)) (w + 1) ws
    unfolding word
    word_split = next_word ws w less

    lengths : at + length word + length (words_from (8 - (w + 1)) (w + 1) ws) ≡ length (marked_numbers ws)
    lengths = let e = ap length word_split in let s = length-append word (words_from (8 - (w + 1)) (w + 1) ws) in let z = f.size in omega (arith, e, s, z)

    pub filling_room : length (marked_numbers ws) ≤ length l₀ → at + length (bits_from 64 (get_or ws w 0) (w * 64)) ≤ length l
    unfolding word
    filling_room r = let e = lengths in let m = f.long in omega (arith, e, m, r)

    pub filling_next : (at' : ℕ) (l' : List ℕ) → at' ≡ at + length (bits_from 64 (get_or ws w 0) (w * 64)) → l' ≡ sets l at (bits_from 64 (get_or ws w 0) (w * 64)) → Filling ws l₀ l' at' (w + 1)
    unfolding word
    filling_next at' l' p q = record {
      long = ap length q ∙ length-sets l at word ∙ f.long;
      size = ap (λ (k : ℕ). k + length (words_from (8 - (w + 1)) (w + 1) ws)) p ∙ lengths;
      list =
          ap₂ (λ (m : List ℕ) (k : ℕ). sets m k (words_from (8 - (w + 1)) (w + 1) ws)) q p
          ∙ sym (sets_append word (words_from (8 - (w + 1)) (w + 1) ws) l at)
          ∙ sym (ap (sets l at) word_split)
          ∙ f.list;
    }

-- ---- the size

-- n marks so far, the words from w on are left
pub record Counting (ws : List ℕ) (n w : ℕ) : Type 0 where
  pub size : n + length (words_from (8 - w) w ws) ≡ length (marked_numbers ws)
  pub most : n ≤ 64 * w

pub counting_start : (ws : List ℕ) → Counting ws 0 0
unfolding marked_numbers
counting_start ws = record { size = omega arith; most = omega arith }

pub counting_next : (ws : List ℕ) (n w c : ℕ) → w < 8 → CountOf (get_or ws w 0) c → Counting ws n w → Counting ws (n + c) (w + 1)
counting_next ws n w c less h k = record {
  size =
      let t = ap length (next_word ws w less) in
      let u = length-append (bits_from 64 (get_or ws w 0) (w * 64)) (words_from (8 - (w + 1)) (w + 1) ws) in
      let v = h.of (w * 64) in
      let z = k.size in
      omega (arith, t, u, v, z);
  most = let z = k.most in let m = h.most in omega (arith, z, m);
}

pub counting_end : (ws : List ℕ) (n w : ℕ) → w ≡ 8 → Counting ws n w → n ≡ length (marked_numbers ws)
counting_end ws n w e k =
    let z = k.size in
    let t = ap length (no_words ws w e) in
    omega (arith, z, t)

-- ---- the reply

pub no_room : (xs l : List ℕ) (n : ℕ) → n ≡ length xs → length l < n → (Err RoomShort, l) ≡ listed (answer xs) l
no_room xs l n e h = sym (if_false (leb (length xs) (length l)) (Ok (length xs), xs ++ drop (length xs) l) (Err RoomShort, l) (test_above (length xs) (length l) (omega (arith, e, h))))

pub in_front : (xs l l' : List ℕ) (n : ℕ) → n ≡ length xs → n ≤ length l → l' ≡ sets l 0 xs → (Ok n, l') ≡ listed (answer xs) l
in_front xs l l' n e h q =
    ap₂ (λ (k : ℕ) (m : List ℕ). (Ok k, m)) e (q ∙ sets-eq xs l 0 (omega (arith, e, h)) ∙ ap (λ (k : ℕ). xs ++ drop k l) (let z : 0 + length xs ≡ length xs = omega arith in z))
    ∙ sym (if_true (leb (length xs) (length l)) (Ok (length xs), xs ++ drop (length xs) l) (Err RoomShort, l) (test_le (length xs) (length l) (omega (arith, e, h))))

-- ---- what is read from the reply

pub record Fitted (xs l l' : List ℕ) (n : ℕ) : Type 0 where
  pub size : n ≡ length xs
  pub room : n ≤ length l
  pub list : l' ≡ sets l 0 xs

abbrev how_many : Reply ℕ → ℕ
how_many (Ok n) = n
how_many (Err x) = 0

module _ (xs l l' : List ℕ) (r : Reply ℕ) (told : (r, l') ≡ listed (answer xs) l) where
  with_room : leb (length xs) (length l) ≡ true → ◌≡◌ {A = Reply ℕ × List ℕ} (r, l') (Ok (length xs), xs ++ drop (length xs) l)
  with_room e = told ∙ if_true (leb (length xs) (length l)) (Ok (length xs), xs ++ drop (length xs) l) (Err RoomShort, l) e

  without_room : leb (length xs) (length l) ≡ false → ◌≡◌ {A = Reply ℕ × List ℕ} (r, l') (Err RoomShort, l)
  without_room e = told ∙ if_false (leb (length xs) (length l)) (Ok (length xs), xs ++ drop (length xs) l) (Err RoomShort, l) e

  pub fitted : (n : ℕ) → r ≡ Ok n → Fitted xs l l' n
  fitted n q = go (leb (length xs) (length l)) refl
    where
      go : (b : Bool) → leb (length xs) (length l) ≡ b → Fitted xs l l' n
      go true e =
          let size : n ≡ length xs = sym (ap how_many q) ∙ ap (λ (p : Reply ℕ × List ℕ). how_many p.0) (with_room e) in
          let room = le_test (length xs) (length l) e in
          record {
            size = size;
            room = omega (arith, size, room);
            list = ap (λ (p : Reply ℕ × List ℕ). p.1) (with_room e) ∙ sym (sets-eq xs l 0 (omega (arith, room)) ∙ ap (λ (k : ℕ). xs ++ drop k l) (let z : 0 + length xs ≡ length xs = omega arith in z));
          }
      go false e = not_both (sym (ap (λ (p : Reply ℕ × List ℕ). p.0) (without_room e)) ∙ q)

  -- any list as long has the same refusal
  pub refused_alike : (x : Refusal) → r ≡ Err x → (ys : List ℕ) → length ys ≡ length xs → (Err x, l') ≡ listed (answer ys) l
  refused_alike x q ys s = go (leb (length xs) (length l)) refl
    where
      go : (b : Bool) → leb (length xs) (length l) ≡ b → (Err x, l') ≡ listed (answer ys) l
      go true e = not_both (sym q ∙ ap (λ (p : Reply ℕ × List ℕ). p.0) (with_room e))
      go false e =
          ap (λ (k : Reply ℕ). (k, l')) (sym q)
          ∙ without_room e
          ∙ sym (if_false (leb (length ys) (length l)) (Ok (length ys), ys ++ drop (length ys) l) (Err RoomShort, l) (ap (λ (k : ℕ). leb k (length l)) s ∙ e))

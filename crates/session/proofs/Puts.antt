-- The parts of a line, put one after another, and how much room they take.
use Prim.Native.Nat.{ℕ, ◌+◌, ◌≤◌, ◌<◌}
use mathlib.Core.List.{List, [], ◌∷◌, ◌++◌, append_assoc}
use mathlib.Core.Path.{◌≡◌, sym, ap, ◌∙◌}
use native.Mathlib.Omega.{arith}
use lib.ListN.{length, get_or, drop, drop_of_length-le}
use lib.Seq.{drop-cons}
use Rattle.rules.specs.Promises.{OneBelow}
use Rattle.rules.specs.Bytes.{decimal}
use Rattle.rules.specs.Session.{spaced, place}
use Rattle.lent_bytes.specs.Lent.{Put}
use Rattle.lent_bytes.proofs.Decimals.{five_digits, twenty_digits}
use Rattle.lent_bytes.proofs.Puts.{put_as, put_length, then}
use Rattle.session.specs.Written.{line_room}
use Rattle.rules.specs.declared.ElementId.{ElementId}
use Rattle.std.specs.Prelude.{Option, Some, None}

-- ---- numbers one after another

-- a number put before the rest of a line
pub then_number : {room mid after : List ℕ} {at p end : ℕ} (n : ℕ) (ns xs : List ℕ) → Put room at (32 ∷ decimal n) p mid → Put mid p (spaced ns ++ xs) end after → Put room at (spaced (n ∷ ns) ++ xs) end after
then_number n ns xs a b = put_as (sym (append_assoc (32 ∷ decimal n) (spaced ns) xs)) (then a b)

-- numbers and the line's end, behind what stands before them
pub then_line : {room mid after : List ℕ} {at p end : ℕ} {xs : List ℕ} (ns : List ℕ) → Put room at xs p mid → Put mid p (spaced ns ++ 10 ∷ []) end after → Put room at (xs ++ spaced ns ++ 10 ∷ []) end after
then_line {xs = xs} ns a b = put_as (sym (append_assoc xs (spaced ns) (10 ∷ []))) (then a b)

-- the three counts that are printed
pub three_counts : (cs : List ℕ) → length cs ≡ 4 → (x y z : ℕ) → x ≡ get_or cs 1 0 → y ≡ get_or cs 2 0 → z ≡ get_or cs 3 0 → x ∷ y ∷ z ∷ [] ≡ drop 1 cs
three_counts cs e x y z p q r =
    (λ i. p i ∷ q i ∷ r i ∷ [])
    ∙ sym (drop-cons cs 1 0 (omega (arith, e)) ∙ ap (λ (xs : List ℕ). get_or cs 1 0 ∷ xs)
    (drop-cons cs 2 0 (omega (arith, e)) ∙ ap (λ (xs : List ℕ). get_or cs 2 0 ∷ xs)
    (drop-cons cs 3 0 (omega (arith, e)) ∙ ap (λ (xs : List ℕ). get_or cs 3 0 ∷ xs) (drop_of_length-le cs {i = 4} (omega (arith, e))))))

-- ---- how much room they take

pub number_short : {room after : List ℕ} {at end : ℕ} (n : ℕ) → n < 0x10000 → Put room at (32 ∷ decimal n) end after → end ≤ at + 6
number_short n l p = let q = five_digits n l in let e = p.place in omega (arith, q, e)

pub number_fits_lem : {room after : List ℕ} {at end : ℕ} (n : ℕ) → n < 0x10000000000000000 → Put room at (32 ∷ decimal n) end after → end ≤ at + 21
number_fits_lem n l p = let q = twenty_digits n l in let e = p.place in omega (arith, q, e)

pub element_short : {room after : List ℕ} {at end : ℕ} (e : Option ElementId) → OneBelow 512 e → Put room at (place e) end after → end ≤ at + 6
element_short None l p = let e = p.place in omega (arith, e)
element_short (Some id) l p = number_short id.0 (let z : id.0 < 0x10000 = omega (arith, l) in z) p

-- ---- how far a line has come

-- it ends no later than `most`, in room that is enough for every line
pub record Far (room : List ℕ) (end most : ℕ) : Type 0 where
  pub place : end ≤ most
  pub enough : line_room ≤ length room

pub far_word : {room after : List ℕ} {end : ℕ} {xs : List ℕ} → line_room ≤ length room → Put room 0 xs end after → Far after end (length xs)
far_word l p = record { place = (let e = p.place in omega (arith, e)); enough = (let k = put_length p in omega (arith, k, l)) }

pub far_element : {room after : List ℕ} {at end most : ℕ} (e : Option ElementId) → OneBelow 512 e → Far room at most → Put room at (place e) end after → Far after end (most + 6)
far_element e l f p = record {
  place = (let q = element_short e l p in let m = f.place in omega (arith, q, m));
  enough = (let k = put_length p in let m = f.enough in omega (arith, k, m));
}

-- what is left of the room
pub far_left : {room : List ℕ} {end most : ℕ} (k : ℕ) → Far room end most → most + k ≤ line_room → end + k ≤ length room
far_left k f l = let a = f.place in let b = f.enough in omega (arith, a, b, l)

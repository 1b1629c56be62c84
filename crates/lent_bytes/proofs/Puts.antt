-- What was put, and more behind it, is one thing put.
use Prim.Native.Nat.{ℕ, suc, ◌+◌, ◌≤◌}
use mathlib.Core.List.{List, [], ◌∷◌, ◌++◌, append-nil, append_assoc}
use mathlib.Core.Path.{◌≡◌, refl, sym, ap, ap₂, ◌∙◌}
use native.Mathlib.Omega.{arith}
use lib.ListN.{length, set, take, drop, length-append, drop_of_length-le}
use lib.Seq.{sets, length-sets, drop-drop}
use Rattle.std.proofs.lemmas.List.Edits.{sets-eq}
use borrow.Rule.Slice.PartMut.{put_mid}
use Rattle.lent_bytes.specs.Lent.{Put}

pub sets_on : (room : List ℕ) (at : ℕ) (xs ys : List ℕ) → sets (sets room at xs) (at + length xs) ys ≡ sets room at (xs ++ ys)
sets_on room at [] ys = ap (λ (k : ℕ). sets room k ys) (let q : at + 0 ≡ at = omega arith in q)
sets_on room at (x ∷ xs) ys = ap (λ (k : ℕ). sets (sets (set room at x) (suc at) xs) k ys) (let q : at + suc (length xs) ≡ suc at + length xs = omega arith in q) ∙ sets_on (set room at x) (suc at) xs ys

pub put_one : (room : List ℕ) (at x : ℕ) → Put room at (x ∷ []) (at + 1) (set room at x)
put_one room at x = record { place = refl; room = refl }

-- one thing put behind another
pub then : {room mid after : List ℕ} {at p end : ℕ} {xs ys : List ℕ} → Put room at xs p mid → Put mid p ys end after → Put room at (xs ++ ys) end after
then {room} {mid} {after} {at} {p} {end} {xs} {ys} a b = record {
  place = (let l = length-append xs ys in let q = a.place in let z = b.place in omega (arith, l, q, z));
  room = b.room ∙ ap₂ (λ (r : List ℕ) (k : ℕ). sets r k ys) a.room a.place ∙ sets_on room at xs ys;
}

-- the room does not change its size
pub put_length : {room after : List ℕ} {at end : ℕ} {xs : List ℕ} → Put room at xs end after → length after ≡ length room
put_length {room} {after} {at} {end} {xs} p = ap length p.room ∙ length-sets room at xs

-- the same bytes by another word for them
pub put_as : {room after : List ℕ} {at end : ℕ} {xs ys : List ℕ} → xs ≡ ys → Put room at xs end after → Put room at ys end after
put_as {room} {after} {at} {end} e p = record { place = p.place ∙ ap (λ (zs : List ℕ). at + length zs) e; room = p.room ∙ ap (sets room at) e }

-- a part of k bytes of the room, all of them written
pub put_part : (room part bytes : List ℕ) (at k n : ℕ) → at + k ≤ length room → length bytes ≡ k → n ≡ k → part ≡ bytes → Put room at bytes (at + k) (put_mid at n room part)
put_part room part bytes at k n h l m e = record {
  place = omega (arith, l);
  room =
      ap (put_mid at n room) e
      ∙ ap (λ (xs : List ℕ). take at room ++ (bytes ++ xs)) (drop-drop n at room ∙ ap (λ (j : ℕ). drop j room) (let q : at + n ≡ at + length bytes = omega (arith, l, m) in q))
      ∙ sym (sets-eq bytes room at (omega (arith, h, l)) ∙ append_assoc (take at room) bytes (drop (at + length bytes) room));
}

-- and the part, written from its front on
pub whole_part : {part after bytes : List ℕ} {end : ℕ} → length part ≡ length bytes → Put part 0 bytes end after → after ≡ bytes
whole_part {part} {after} {bytes} {end} n p =
    p.room
    ∙ sets-eq bytes part 0 (omega (arith, n))
    ∙ ap (λ (xs : List ℕ). bytes ++ xs) (drop_of_length-le part {i = 0 + length bytes} (omega (arith, n)))
    ∙ append-nil bytes

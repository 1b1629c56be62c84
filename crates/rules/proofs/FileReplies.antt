-- Saving and opening at their replies: each reply is a chain of tests over `layout`, so each promise goes by cases on them and cites the laws of a table's one file.
use Rattle.std.specs.Prelude.{if◌then◌else◌, Some, Ok, Err, T}
use Prim.Native.Nat.{ℕ, ◌<◌}
use mathlib.Core.Bool.{Bool, true, false, not, ◌&&◌, false≢true}
use mathlib.Core.List.{List, [], ◌∷◌, ◌++◌, append-nil}
use mathlib.Core.Path.{◌≡◌, refl, sym, ap, ap₂, subst, ◌∙◌}
use native.Mathlib.Nat.{lt_irrefl, suc-ne-zero}
use lib.Dec.{leb, eqb}
use lib.ListN.{length, get_or, take, drop}
use lib.Seq.{take_at}
use lib.Ieee.{binary64, fits}
use Rattle.rules.specs.Limits.{Limits, Readable, Fileable}
use Rattle.rules.specs.Lists.{all, all_from, distinct, member}
use Rattle.rules.specs.Bytes.{are_bytes}
use Rattle.rules.specs.Floats.{plus_zero}
use Rattle.rules.specs.Table.{Table, same_element, primordials}
use Rattle.rules.specs.Sound.{sound, room_fits, sound_point, sound_plane, corners_in_order, sound_element}
use Rattle.rules.specs.Memory.{Memory, plane_width, read_plane, encode, decode, right_size, sound_memory}
use Rattle.rules.specs.Questions.{Asked, no_answer, answer}
use Rattle.rules.specs.Replies.{listed, list_size}
use Rattle.rules.specs.Files.{Reading, broken, got, file_of, layout, judged, table_in, save_reply, opened, open_reply, are_floats, table_floats}
use Rattle.rules.specs.Saving.{RefusedOpenLeaves, OpenNumbers, OpenIsSound, SavedOpens, OpenedSaves, OpensRoomier, LayoutAlone}
use Rattle.rules.proofs.Each.{all_take, all_get_d, all_rows}
use Rattle.rules.proofs.Good.{sound_good}
use Rattle.rules.proofs.Laws.{and_true, or_right, test_le, if_true, if_false, none_some}
use Rattle.rules.proofs.OneCall.{sound_table}
use Rattle.rules.proofs.OneFile.{write_file, sound_no_nan, read_file}
use Rattle.rules.proofs.Refusals.{listed_by}
use Rattle.rules.proofs.Roomier.{sound_alike}
use Rattle.rules.proofs.RoundTrip.{written_sound, table_back, memory_back}
use Rattle.rules.specs.Refusals.{Reply, reply_number, refusal_number}
use Rattle.rules.specs.declared.Refusal.TheVariants.{NotSound, RoomShort, Layout}

-- ---- what an answer tells

abbrev is_answer : {A : Type 0} → Asked A → Bool
is_answer (no_answer n) = false
is_answer (answer x) = true

-- the bytes were read to their end, as a sound table
pub record Accepted (L : Limits) (bs : List ℕ) (t : Table) : Type 0 where
  pub reads : layout bs ≡ got t []
  pub is_sound : sound L t ≡ true

pub accepted : (L : Limits) (bs : List ℕ) (t : Table) → table_in L bs ≡ answer t → Accepted L bs t
unfolding table_in
accepted L bs t h = go (layout bs) refl h
  where
    by : (u : Table) (b : Bool) → sound L u ≡ b → layout bs ≡ got u [] → (if b then answer u else no_answer NotSound) ≡ answer t → Accepted L bs t
    by u true s e k = let v : u ≡ t = cc in record { reads = e ∙ ap (λ (x : Table). got x []) v; is_sound = ap (sound L) (sym v) ∙ s }
    by u false s e k = absurd (false≢true (ap is_answer k))

    go : (r : Reading Table) → layout bs ≡ r → judged L r ≡ answer t → Accepted L bs t
    go broken e k = absurd (false≢true (ap is_answer k))
    go (got u []) e k = by u (sound L u) refl e k
    go (got u (b ∷ cs)) e k = absurd (false≢true (ap is_answer k))

pub judge : (L : Limits) (bs : List ℕ) (t : Table) → layout bs ≡ got t [] → table_in L bs ≡ (if sound L t then answer t else no_answer NotSound)
unfolding table_in
judge L bs t e = ap (judged L) e

pub accept : (L : Limits) (bs : List ℕ) (t : Table) → Accepted L bs t → table_in L bs ≡ answer t
accept L bs t a = judge L bs t a.reads ∙ if_true (sound L t) (answer t) (no_answer NotSound) a.is_sound

-- ---- a table has one file

pub table_of_file : (L : Limits) → Readable L → Fileable L → (t : Table) → sound L t ≡ true → table_floats t ≡ true → table_in L (file_of t) ≡ answer t
table_of_file L U W t s f = accept L (file_of t) t (record { reads = write_file L W t (sound_good L t s) U f; is_sound = s })

pub file_of_table_lem : (L : Limits) (t : Table) (bs : List ℕ) → are_bytes bs ≡ true → table_in L bs ≡ answer t → bs ≡ file_of t
file_of_table_lem L t bs b h =
    let a = accepted L bs t h in
    (read_file bs t [] b (sound_no_nan L t a.is_sound) a.reads).is ∙ append-nil (file_of t)

-- ---- rooms

-- what is sound in some room is sound in each whose limits it fits: of the tests, only the first looks at the room
abbrev sound_with : Table → Bool → Bool
sound_with t fits-room =
    fits-room && all (sound_point t.dimension) t.points && all (sound_plane t.dimension) t.planes
    && leb (primordials t.dimension) (length t.planes)
    && corners_in_order t && all_from 0 (sound_element t) t.elements && distinct same_element t.elements

fits_sound : (L M : Limits) (t : Table) → sound M t ≡ true → sound L t ≡ room_fits L t
unfolding sound
fits_sound L M t s = go (room_fits L t) (room_fits M t) s
  where
    go : (a b : Bool) → sound_with t b ≡ true → sound_with t a ≡ a
    go false b h = refl
    go true true h = h
    go true false h = absurd (false≢true h)

pub opens_roomier : (L : Limits) → OpensRoomier L
opens_roomier L M R bs t = (
  λ h. (let a = accepted L bs t h in accept M bs t (record { reads = a.reads; is_sound = sound_alike L M R t a.is_sound })),
  λ h. (let a = accepted M bs t h in judge L bs t a.reads ∙ ap (λ (b : Bool). if b then answer t else no_answer NotSound) (fits_sound L M t a.is_sound)),
)

-- ---- opening

module _ (L : Limits) (bs : List ℕ) (m : Memory) where
  abbrev open_by : Bool → Asked Table → Reply (Unit {0}) × Memory
  open_by b (no_answer r) = (Err r, m)
  open_by b (answer t) = if b then (Ok tt, encode L t) else (Err NotSound, m)

  open_by_lem : open_reply L bs m ≡ open_by (right_size L m) (table_in L bs)
  unfolding open_reply
  open_by_lem = go (table_in L bs)
    where
      go : (a : Asked Table) → opened L m a ≡ open_by (right_size L m) a
      go (no_answer n) = refl
      go (answer t) = refl

pub refused_open_leaves : (L : Limits) → RefusedOpenLeaves L
refused_open_leaves L bs m k =
    ap (λ (x : Reply (Unit {0}) × Memory). x.1) (open_by_lem L bs m) ∙ go (right_size L m) (table_in L bs) (subst (λ (x : Reply (Unit {0}) × Memory). 0 < reply_number x.0) (open_by_lem L bs m) k)
  where
    go : (b : Bool) (a : Asked Table) → 0 < reply_number (open_by L bs m b a).0 → (open_by L bs m b a).1 ≡ m
    go b (no_answer n) l = refl
    go false (answer t) l = refl
    go true (answer t) l = absurd (lt_irrefl 0 l)

-- a refusal of the file is 13 or 3
abbrev FileNumber : Asked Table → Type 0
FileNumber (no_answer n) = member (refusal_number n) (3 ∷ 13 ∷ []) ≡ true
FileNumber (answer t) = Unit {0}

file_number : (L : Limits) (bs : List ℕ) → FileNumber (table_in L bs)
unfolding table_in
file_number L bs = go (layout bs)
  where
    by : (t : Table) (b : Bool) → FileNumber (if b then answer t else no_answer NotSound)
    by t true = tt
    by t false = refl

    go : (r : Reading Table) → FileNumber (judged L r)
    go broken = refl
    go (got t []) = by t (sound L t)
    go (got t (b ∷ cs)) = refl

pub open_numbers : (L : Limits) → OpenNumbers L
open_numbers L bs m = subst (λ (x : Reply (Unit {0}) × Memory). member (reply_number x.0) (0 ∷ 3 ∷ 13 ∷ []) ≡ true) (sym (open_by_lem L bs m)) (go (right_size L m) (table_in L bs) (file_number L bs))
  where
    go : (b : Bool) (a : Asked Table) → FileNumber a → member (reply_number (open_by L bs m b a).0) (0 ∷ 3 ∷ 13 ∷ []) ≡ true
    go b (no_answer n) k = or_right (eqb (refusal_number n) 0) (member (refusal_number n) (3 ∷ 13 ∷ [])) k
    go false (answer t) k = refl
    go true (answer t) k = refl

-- a file that was taken: its table, and the memory written of it
pub record Taken (L : Limits) (bs : List ℕ) (m : Memory) : Type 0 where
  pub table : Table
  pub says : table_in L bs ≡ answer table
  pub writes : (open_reply L bs m).1 ≡ encode L table

pub taken : (L : Limits) (bs : List ℕ) (m : Memory) → reply_number (open_reply L bs m).0 ≡ 0 → Taken L bs m
taken L bs m z =
    go (right_size L m) (table_in L bs) refl (file_number L bs) (ap (λ (x : Reply (Unit {0}) × Memory). x.1) (open_by_lem L bs m))
    (ap (λ (x : Reply (Unit {0}) × Memory). reply_number x.0) (sym (open_by_lem L bs m)) ∙ z)
  where
    go : (b : Bool) (a : Asked Table) → table_in L bs ≡ a → FileNumber a → (open_reply L bs m).1 ≡ (open_by L bs m b a).1 → reply_number (open_by L bs m b a).0 ≡ 0 → Taken L bs m
    go b (no_answer k) e f w n = absurd (false≢true (subst (λ (j : ℕ). member j (3 ∷ 13 ∷ []) ≡ true) n f))
    go false (answer t) e f w n = absurd (suc-ne-zero 2 n)
    go true (answer t) e f w n = record { table = t; says = e; writes = w }

-- what a file that is accepted does in room of the right size
pub open_accepted : (L : Limits) (bs : List ℕ) (m : Memory) (t : Table) → table_in L bs ≡ answer t → right_size L m ≡ true → open_reply L bs m ≡ (Ok tt, encode L t)
open_accepted L bs m t e r = open_by_lem L bs m ∙ ap₂ (open_by L bs m) r e

pub open_is_sound : (L : Limits) → Readable L → OpenIsSound L
open_is_sound L U bs m z =
    let k = taken L bs m z in
    subst (λ (x : Memory). sound_memory L x ≡ true) (sym k.writes) (written_sound L U k.table (accepted L bs k.table k.says).is_sound)

-- a reply with another number
no_layout : (r : Reply (Unit {0})) → r ≡ Err Layout → T (not (eqb (reply_number r) 13)) → ⊥
no_layout r q s = (subst (λ (x : Reply (Unit {0})). T (not (eqb (reply_number x) 13))) q s)

-- 13 is told by the layout
pub layout_alone : (L : Limits) → LayoutAlone L
unfolding table_in
layout_alone L M bs m n h = open_by_lem M bs n ∙ go (layout bs) (ap (λ (x : Reply (Unit {0}) × Memory). x.0) (sym (open_by_lem L bs m)) ∙ h)
  where
    by : (t : Table) (b c : Bool) → (open_by L bs m c (if b then answer t else no_answer NotSound)).0 ≡ Err Layout → ⊥
    by t true true k = no_layout _ k tt
    by t true false k = no_layout _ k tt
    by t false c k = no_layout _ k tt

    go : (r : Reading Table) → (open_by L bs m (right_size L m) (judged L r)).0 ≡ Err Layout → open_by M bs n (right_size M n) (judged M r) ≡ (Err Layout, n)
    go broken k = refl
    go (got t []) k = absurd (by t (sound L t) (right_size L m) k)
    go (got t (b ∷ cs)) k = refl

-- ---- saving

save_by : (L : Limits) (m : Memory) (room : List ℕ) → sound_memory L m ≡ true → save_reply L m room ≡ listed (answer (file_of (decode L m))) room
unfolding save_reply
save_by L m room s = ap (λ (a : Asked (List ℕ)). listed a room) (if_false (not (sound_memory L m)) (no_answer NotSound) (answer (file_of (decode L m))) (ap not s))

-- a file that was saved: of a sound memory, at the front of the room
pub record Saved (L : Limits) (m : Memory) (filled : List ℕ) (n : ℕ) : Type 0 where
  pub is_sound : sound_memory L m ≡ true
  pub front : take n filled ≡ file_of (decode L m)

pub saved : (L : Limits) (m : Memory) (room : List ℕ) (n : ℕ) → list_size (save_reply L m room).0 ≡ Some n → Saved L m (save_reply L m room).1 n
saved L m room n e = go (sound_memory L m) refl
  where
    by : (b : Bool) → sound_memory L m ≡ true → (xs : List ℕ) → xs ≡ file_of (decode L m) → list_size (listed_by xs room b).0 ≡ Some n → Saved L m (listed_by xs room b).1 n
    by true s xs q h = let k : length xs ≡ n = cc in record { is_sound = s; front = take_at xs (drop (length xs) room) n k ∙ q }
    by false s xs q h = none_some n h

    refused_save : sound_memory L m ≡ false → save_reply L m room ≡ (Err NotSound, room)
    refused_save s = unfold save_reply in ap (λ (a : Asked (List ℕ)). listed a room) (if_true (not (sound_memory L m)) (no_answer NotSound) (answer (file_of (decode L m))) (ap not s))

    go : (b : Bool) → sound_memory L m ≡ b → Saved L m (save_reply L m room).1 n
    go true s =
        subst (λ (x : Reply ℕ × List ℕ). Saved L m x.1 n) (sym (save_by L m room s))
        (by (leb (length (file_of (decode L m))) (length room)) s (file_of (decode L m)) refl (subst (λ (x : Reply ℕ × List ℕ). list_size x.0 ≡ Some n) (save_by L m room s) e))
    go false s = none_some n (subst (λ (x : Reply ℕ × List ℕ). list_size x.0 ≡ Some n) (refused_save s) e)

-- ---- the floats of a memory are those of its table

pub decoded_floats : (L : Limits) (m : Memory) → are_floats m.points ≡ true → are_floats m.planes ≡ true → table_floats (decode L m) ≡ true
unfolding decode read_plane
decoded_floats L m h k =
    let d = get_or m.counts 0 0 in
    and_true _ _ (all_rows (λ x. fits binary64 x) (take d) are_floats (λ r q. all_take (λ x. fits binary64 x) d r q) (get_or m.counts 2 0) L.dimensions m.points h)
    (all_rows (λ x. fits binary64 x) (read_plane L d) (λ y. are_floats y.normal && fits binary64 y.distance)
    (λ r q. and_true (are_floats (take d r)) (fits binary64 (get_or r L.dimensions plus_zero)) (all_take (λ x. fits binary64 x) d r q) (all_get_d (λ x. fits binary64 x) r L.dimensions plus_zero (unfold fits in refl) q))
    (get_or m.counts 3 0) (plane_width L) m.planes k)

-- ---- saved and opened, opened and saved

pub saved_opens : (L : Limits) → Readable L → Fileable L → SavedOpens L
saved_opens L U W m n room k f g r e =
    let s = saved L m room k e in
    ap (λ (b : List ℕ). open_reply L b n) s.front
    ∙ open_accepted L (file_of (decode L m)) n (decode L m) (table_of_file L U W (decode L m) (sound_table L m s.is_sound) (decoded_floats L m f g)) r
    ∙ ap (λ (x : Memory). (Ok tt, x)) (memory_back L m s.is_sound)

pub opened_saves : (L : Limits) → Readable L → OpenedSaves L
opened_saves L U bs room m b z l =
    (ap (λ (x : Reply ℕ × List ℕ). list_size x.0) whole, ap (λ (x : Reply ℕ × List ℕ). take (length bs) x.1) whole ∙ take_at bs (drop (length bs) room) (length bs) refl)
  where
    whole : save_reply L (open_reply L bs m).1 room ≡ (Ok (length bs), bs ++ drop (length bs) room)
    whole =
        let k = taken L bs m z in
        let t = k.table in
        let s = (accepted L bs t k.says).is_sound in
        let f : file_of (decode L (open_reply L bs m).1) ≡ bs = ap (λ (x : Memory). file_of (decode L x)) k.writes ∙ ap file_of (table_back L U t s) ∙ sym (file_of_table_lem L t bs b k.says) in
        save_by L (open_reply L bs m).1 room (open_is_sound L U bs m z)
        ∙ ap (λ (x : List ℕ). listed (answer x) room) f
        ∙ if_true (leb (length bs) (length room)) (Ok (length bs), bs ++ drop (length bs) room) (Err RoomShort, room) (test_le (length bs) (length room) l)

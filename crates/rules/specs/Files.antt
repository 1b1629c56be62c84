-- Document 02, order 1: the one file of a table, what bytes say when they are read, and the replies of saving and opening. Definitions only.
use Rattle.std.specs.Prelude.{ℕ, zero, suc, Bool, true, ◌&&◌, List, [], ◌∷◌, ◌++◌, map, leb, eqb, length, take, drop, Float, if◌then◌else◌, Err, Ok}
use Rattle.std.specs.Float.{binary64}
use Rattle.std.specs.Float.Ieee.{of_bits, fits}
use Rattle.rules.specs.Limits.{Limits, no_plane}
use Rattle.rules.specs.Lists.{all, joined, alike}
use Rattle.rules.specs.Bytes.{little_endian, number_bytes, float_byte8, float_bytes}
use Rattle.rules.specs.Table.{Element, Plane, Table, element_count}
use Rattle.rules.specs.Sound.{sound}
use Rattle.rules.specs.Memory.{Memory, element_row, read_element, encode, decode, right_size}
use Rattle.rules.specs.Questions.{Asked, no_answer, answer}
use Rattle.rules.specs.Replies.{asked, listed}
use Rattle.rules.specs.Refusals.{Reply}
use Rattle.rules.specs.declared.Refusal.TheVariants.{Layout, NotSound}

-- ---- written: records in the order of their marks, little-endian, no padding

-- 48 44, dimension, how many elements, vertices and hyperplanes there are
unfoldable pub header : Table → List ℕ
header t = 0x48 ∷ 0x44 ∷ number_bytes 2 (t.dimension ∷ element_count t ∷ length t.points ∷ length t.planes ∷ [])

-- 56 58, the coordinates
unfoldable pub point_record : List Float → List ℕ
point_record p = 0x56 ∷ 0x58 ∷ float_bytes p

-- 48 50, the normal, then the distance
unfoldable pub plane_record : Plane → List ℕ
plane_record h = 0x48 ∷ 0x50 ∷ (float_bytes h.normal ++ float_byte8 h.distance)

-- 45 4C, the words of a row: rank and mark in a byte each, all else in two
abbrev pub row_record : List ℕ → List ℕ
row_record row = 0x45 ∷ 0x4C ∷ (number_bytes 1 (take 2 row) ++ number_bytes 2 (drop 2 row))

unfoldable pub element_record : Element → List ℕ
element_record e = row_record (element_row e)

unfoldable pub file_of : Table → List ℕ
file_of t =
    header t ++ (joined (map point_record t.points) ++ (joined (map plane_record t.planes) ++ joined (map element_record t.elements)))

-- ---- read

-- what was read and the bytes after it; or they do not fit the layout
pub data Reading (A : Type 0) : Type 0 where
  broken : Reading A
  got : A → List ℕ → Reading A

module _ {A B : Type 0} where
  -- read on, after what was got
  abbrev pub and_then : Reading A → (A → List ℕ → Reading B) → Reading B
  and_then broken f = broken
  and_then (got x bs) f = f x bs

module _ {A : Type 0} where
  -- what follows a mark
  unfoldable pub after_mark : ℕ → ℕ → (List ℕ → Reading A) → List ℕ → Reading A
  after_mark a b f bs = if alike eqb (take 2 bs) (a ∷ b ∷ []) then f (drop 2 bs) else broken

  -- n of them, one after another
  abbrev pub many : ℕ → (List ℕ → Reading A) → List ℕ → Reading (List A)
  many zero f bs = got [] bs
  many (suc n) f bs = and_then (f bs) (λ x cs. and_then (many n f cs) (λ xs ds. got (x ∷ xs) ds))

-- a number of k bytes
unfoldable pub number : ℕ → List ℕ → Reading ℕ
number k bs = if leb k (length bs) then got (little_endian (take k bs)) (drop k bs) else broken

-- every NaN's bits are the one NaN
unfoldable pub float : List ℕ → Reading Float
float bs = and_then (number 8 bs) (λ n cs. got (of_bits binary64 n) cs)

unfoldable pub point_in : ℕ → List ℕ → Reading (List Float)
point_in d bs = after_mark 0x56 0x58 (many d float) bs

abbrev pub plane_after : ℕ → List ℕ → Reading Plane
plane_after d bs = and_then (many d float bs) (λ n cs. and_then (float cs) (λ x ds. got (record { normal = n; distance = x }) ds))

unfoldable pub plane_in : ℕ → List ℕ → Reading Plane
plane_in d bs = after_mark 0x48 0x50 (plane_after d) bs

-- a primordial byte is 0 or 1; a corner is rank 0, mark 0, FFFF, count 1
abbrev pub element_fits : ℕ → ℕ → ℕ → ℕ → Bool
element_fits r m h c = leb m 1 && (if eqb r 0 then (eqb m 0 && eqb h no_plane && eqb c 1) else true)

abbrev pub element_after : List ℕ → Reading Element
element_after bs =
    and_then (number 1 bs) (λ r b₁. and_then (number 1 b₁) (λ m b₂. and_then (number 2 b₂) (λ h b₃. and_then (number 2 b₃) (λ c b₄.
    and_then (many c (number 2) b₄) (λ b b₅. if element_fits r m h c then got (read_element (r ∷ m ∷ h ∷ c ∷ b)) b₅ else broken)))))

unfoldable pub element_in : List ℕ → Reading Element
element_in bs = after_mark 0x45 0x4C element_after bs

-- the header's numbers say how many records follow, and how many floats they have
abbrev pub records_in : ℕ → ℕ → ℕ → ℕ → List ℕ → Reading Table
records_in d ne nv nh bs =
    and_then (many nv (point_in d) bs) (λ ps b₁. and_then (many nh (plane_in d) b₁) (λ hs b₂. and_then (many ne element_in b₂) (λ es b₃.
    got (record { dimension = d; points = ps; elements = es; planes = hs }) b₃)))

abbrev pub table_after : List ℕ → Reading Table
table_after bs =
    and_then (number 2 bs) (λ d b₁. and_then (number 2 b₁) (λ ne b₂. and_then (number 2 b₂) (λ nv b₃. and_then (number 2 b₃) (λ nh b₄.
    records_in d ne nv nh b₄))))

unfoldable pub layout : List ℕ → Reading Table
layout bs = after_mark 0x48 0x44 table_after bs

-- 13 for the layout alone, bytes after the last record too; then 3 for the table that the file says
abbrev pub judged : Limits → Reading Table → Asked Table
judged L broken = no_answer Layout
judged L (got t []) = if sound L t then answer t else no_answer NotSound
judged L (got t (b ∷ bs)) = no_answer Layout

unfoldable pub table_in : Limits → List ℕ → Asked Table
table_in L bs = judged L (layout bs)

-- ---- the replies

-- saving: 3, then 12; it fills the front of the room lent and leaves the remainder
unfoldable pub save_reply : Limits → Memory → List ℕ → Reply ℕ × List ℕ
save_reply L m room = listed (asked L m [] (answer (file_of (decode L m)))) room

-- a file that is taken replaces all of the memory; a room of another size is refused last, so 13 comes before every 3
abbrev pub opened : Limits → Memory → Asked Table → Reply (Unit {0}) × Memory
opened L m (no_answer r) = (Err r, m)
opened L m (answer t) = if right_size L m then (Ok tt, encode L t) else (Err NotSound, m)

-- opening: 13, then 3
unfoldable pub open_reply : Limits → List ℕ → Memory → Reply (Unit {0}) × Memory
open_reply L bs m = opened L m (table_in L bs)

-- ---- for the promises

-- floats of the 64-bit format, each written in its one way: what a slice of floats holds always
abbrev pub are_floats : List Float → Bool
are_floats xs = all (λ x. fits binary64 x) xs

abbrev pub table_floats : Table → Bool
table_floats t = all are_floats t.points && all (λ h. are_floats h.normal && fits binary64 h.distance) t.planes

-- The soundness of the lent memory, told by its words and rows alone: nothing is read into a table. Definitions only.
use Rattle.std.specs.Prelude.{ℕ, ◌+◌, ◌*◌, ◌<◌, suc, ◌≡◌, Bool, ◌&&◌, true, not, cond, List, [], ◌∷◌, eqb, leb, ltb, Float, length, take, drop, get_or, if◌then◌else◌}
use Rattle.rules.specs.Floats.{same_bits, plus_zero, within, farthest, unit, farthest_plane}
use Rattle.rules.specs.Limits.{Limits, desk, no_plane}
use Rattle.rules.specs.Lists.{all, any, rows, rises, all_from, distinct, alike}
use Rattle.rules.specs.Memory.{plane_width, element_width, right_size}
use Rattle.rules.specs.Held.{memory_of}
use Rattle.rules.specs.Table.{primordials}
use Rattle.space.specs.Numbers.{row_width}
use Rattle.space.specs.Chains.{stored_row}
use Rattle.space.specs.Closed.{closed_raw, met_twice, ring_raw, inside, EndsLow}

abbrev pub blank_words : List ℕ → Bool
blank_words = all (eqb 0)

abbrev pub blank_floats : List Float → Bool
blank_floats = all (same_bits plus_zero)

-- ---- counts: dimension, elements, vertices, hyperplanes

unfoldable pub counts_fit : Limits → ℕ → ℕ → ℕ → ℕ → Bool
counts_fit L d n v h =
    leb 1 d && leb d L.dimensions && leb v L.vertices && leb n L.elements && leb h L.hyperplanes && leb (primordials d) h

-- ---- rows of floats

unfoldable pub point_words : ℕ → List Float → Bool
point_words d row = all (within farthest) (take d row) && blank_floats (drop d row)

unfoldable pub plane_words : Limits → ℕ → List Float → Bool
plane_words L d row = unit (take d row) && within farthest_plane (get_or row L.dimensions plus_zero) && blank_floats (drop d (take L.dimensions row))

-- ---- rows of elements: rank, mark, hyperplane, count, boundary

-- a zero for each place of a boundary, and then as many words of ones
abbrev pub Mask : List ℕ → Type 0
Mask l = (k : ℕ) → k < 2 * desk.boundary → get_or l k 0 ≡ cond (ltb k desk.boundary) 0 65535

-- the row is what is written of some element
unfoldable pub record_words : Limits → List ℕ → Bool
record_words L row =
    if eqb (get_or row 0 0) 0 then eqb 0 (get_or row 1 0) && eqb no_plane (get_or row 2 0) && eqb 1 (get_or row 3 0) && blank_words (drop 5 row)
    else (leb (get_or row 1 0) 1 && leb (get_or row 3 0) L.boundary && blank_words (drop (get_or row 3 0) (drop 4 row)))

-- its first words are those of some element: a vertex has one fixed form
unfoldable pub head_words : Limits → List ℕ → Bool
head_words L row =
    if eqb (get_or row 0 0) 0 then eqb 0 (get_or row 1 0) && eqb no_plane (get_or row 2 0) && eqb 1 (get_or row 3 0)
    else (leb (get_or row 1 0) 1 && leb (get_or row 3 0) L.boundary)

-- and nothing stands past its boundary
unfoldable pub past_blank : List ℕ → Bool
past_blank row = blank_words (drop (get_or row 3 0) (drop 4 row))

-- what stands there has joined what was seen before
pub record PastSeen (row before after : List ℕ) : Type 0 where
  pub clear : blank_words after ≡ (blank_words before && past_blank row)
  pub long : length after ≡ desk.boundary

-- corners name vertices from k up to v, in order
abbrev pub in_order : ℕ → ℕ → List (List ℕ) → Bool
in_order k v [] = eqb k v
in_order k v (r ∷ rs) = let go = in_order (suc k) v rs in let on = in_order k v rs in if eqb (get_or r 0 0) 0 then eqb (get_or r 4 0) k && go else on

-- one row of those
abbrev pub corner_named : ℕ → List ℕ → Bool
corner_named k r = if eqb (get_or r 0 0) 0 then eqb (get_or r 4 0) k else true

abbrev pub boundary_in : List ℕ → List ℕ
boundary_in row = take (get_or row 3 0) (drop 4 row)

-- a number is no lower than the least that it may be, below the element's own, and of rank one less
abbrev pub number_fits : Limits → List ℕ → ℕ → ℕ → ℕ → ℕ → Bool
number_fits L es e r low x = leb low x && ltb x e && eqb (suc (get_or es (x * element_width L) 0)) r

-- the numbers rise, are below the element's own, and are of rank one less
abbrev pub numbers_fit : Limits → List ℕ → ℕ → ℕ → List ℕ → Bool
numbers_fit L es e r b = rises b && all (λ x. ltb x e) b && all (λ x. eqb (suc (get_or es (x * element_width L) 0)) r) b

unfoldable pub boundary_sound : Limits → List ℕ → ℕ → ℕ → ℕ → List ℕ → Bool
boundary_sound L es d e r b =
    rises b && all (λ x. ltb x e) b && all (λ x. eqb (suc (get_or es (x * element_width L) 0)) r) b && ltb r (length b) && closed_raw d es r b

-- the boundary of a row, for rank r: its count fits the room, and it is sound
unfoldable pub polytope_words : Limits → List ℕ → ℕ → ℕ → ℕ → List ℕ → Bool
polytope_words L es d e r row = leb (get_or row 3 0) L.boundary && boundary_sound L es d e r (boundary_in row)

-- the boundary of a face of few edges: its numbers fit, and each corner met lies on exactly two of its edges
abbrev pub few_words : Limits → List ℕ → ℕ → List ℕ → Bool
few_words L es e b = numbers_fit L es e 2 b && met_twice es b

-- the boundary of any other face: its numbers fit, and its edges make one ring
abbrev pub face_words : Limits → List ℕ → ℕ → List ℕ → Bool
face_words L es e b = numbers_fit L es e 2 b && ring_raw es b

-- the stamp of an element, above every word that was written for the elements before it
abbrev pub stamp_of : ℕ → ℕ
stamp_of e = suc inside * e + 1

unfoldable pub facet_words : ℕ → ℕ → ℕ → ℕ → ℕ → Bool
facet_words d h r plane mark = if eqb (suc r) d then ltb plane h else (eqb plane no_plane && not (eqb mark 1))

-- each edge before row e has two ends within the room, the lower first
pub record EdgesLow (es : List ℕ) (e : ℕ) : Type 0 where
  pub ends : (x : ℕ) → x < e → get_or es (x * row_width) 0 ≡ 1 → EndsLow es x

-- the row of element e
unfoldable pub element_sound : Limits → List ℕ → ℕ → ℕ → ℕ → List ℕ → Bool
element_sound L es d h e row =
    if eqb (get_or row 0 0) 0 then true
    else (leb (get_or row 0 0) d && boundary_sound L es d e (get_or row 0 0) (boundary_in row) && facet_words d h (get_or row 0 0) (get_or row 2 0) (get_or row 1 0))

-- the row of element e, where vertex k is the next to be named, but for what stands past its boundary
abbrev pub row_sound : Limits → List ℕ → ℕ → ℕ → ℕ → ℕ → List ℕ → Bool
row_sound L es d h k e row = head_words L row && corner_named k row && element_sound L es d h e row

-- ---- the whole

unfoldable pub points_sound : Limits → ℕ → ℕ → List Float → Bool
points_sound L d v ps = all (point_words d) (rows v L.dimensions ps) && blank_floats (drop (v * L.dimensions) ps)

unfoldable pub planes_sound : Limits → ℕ → ℕ → List Float → Bool
planes_sound L d h hs = all (plane_words L d) (rows h (plane_width L) hs) && blank_floats (drop (h * plane_width L) hs)

unfoldable pub records_sound : Limits → ℕ → List ℕ → Bool
records_sound L n es = all (record_words L) (rows n (element_width L) es) && blank_words (drop (n * element_width L) es)

unfoldable pub corners_sound : Limits → ℕ → ℕ → List ℕ → Bool
corners_sound L n v es = in_order 0 v (rows n (element_width L) es)

unfoldable pub elements_sound : Limits → ℕ → ℕ → ℕ → List ℕ → Bool
elements_sound L d n h es = all_from 0 (element_sound L es d h) (rows n (element_width L) es)

-- the rows in use, but for the test that no two are equal
abbrev pub rows_in_use : Limits → ℕ → ℕ → ℕ → ℕ → List ℕ → Bool
rows_in_use L d n v h es = all (record_words L) (rows n (element_width L) es) && corners_sound L n v es && elements_sound L d n h es

-- row i is equal to no earlier one
unfoldable pub row_new : List ℕ → ℕ → Bool
row_new es i = not (any (alike eqb (stored_row es i)) (rows i row_width es))

unfoldable pub rows_distinct : Limits → ℕ → List ℕ → Bool
rows_distinct L n es = distinct (alike eqb) (rows n (element_width L) es)

-- the two slices of floats
unfoldable pub floats_sound : Limits → ℕ → ℕ → ℕ → List Float → List Float → Bool
floats_sound L d v h ps hs = points_sound L d v ps && planes_sound L d h hs

-- the slice of elements
unfoldable pub rows_sound : Limits → ℕ → ℕ → ℕ → ℕ → List ℕ → Bool
rows_sound L d n v h es = records_sound L n es && corners_sound L n v es && elements_sound L d n h es && rows_distinct L n es

unfoldable pub words_sound : Limits → List ℕ → List Float → List Float → List ℕ → Bool
words_sound L cs ps hs es =
    let d = get_or cs 0 0 in let n = get_or cs 1 0 in let v = get_or cs 2 0 in let h = get_or cs 3 0 in
    right_size L (memory_of cs ps hs es) && counts_fit L d n v h && points_sound L d v ps && planes_sound L d h hs && records_sound L n es
    && corners_sound L n v es && elements_sound L d n h es && rows_distinct L n es

-- The words of a sound memory can be written, and the records that are written of them are the one file of its table.
use Rattle.std.specs.Prelude.{if◌then◌else◌, Ok, Err}
use Prim.Native.Nat.{ℕ, suc, ◌+◌, ◌*◌, ◌≤◌, ◌<◌}
use mathlib.Core.Bool.{Bool, true, false, not, ◌&&◌, cond}
use mathlib.Core.List.{List, [], ◌∷◌, ◌++◌, map}
use mathlib.Core.Path.{◌≡◌, refl, sym, ap, ap₂, subst, ◌∙◌}
use native.Mathlib.Nat.{zero-mul, suc-mul}
use native.Mathlib.Omega.{arith}
use lib.Dec.{leb, eqb, lit≤}
use lib.ListN.{length, get_or, take, drop, length-append, length-map}
use lib.Seq.{take-append_seam, sets-eq}
use lib.Ieee.{Float, is_nan}
use Rattle.rules.specs.Limits.{desk, no_plane}
use Rattle.rules.specs.Lists.{all, joined, rows}
use Rattle.rules.specs.Bytes.{number_bytes}
use Rattle.rules.specs.Table.{Element, corner, polytope, Plane}
use Rattle.rules.specs.Memory.{plane_number, element_row, read_element, read_plane, decode, right_size, sound_memory}
use Rattle.rules.specs.Held.{memory_of, element_words, Wide}
use Rattle.rules.specs.Questions.{Asked, no_answer, answer}
use Rattle.rules.specs.Replies.{listed}
use Rattle.rules.specs.Files.{header, point_record, plane_record, row_record, element_record, file_of, save_reply}
use Rattle.rules.proofs.Each.{all_map}
use Rattle.rules.proofs.Laws.{and_left, and_right, eq_test, test_le, test_above, if_true, if_false}
use Rattle.rules.proofs.OneCall.{sound_table}
use Rattle.rules.proofs.OneFile.{NoNan, sound_no_nan}
use Rattle.space.proofs.Sizes.{Lengths, size_known}
use Rattle.soundness.specs.Words.{counts_fit, points_sound, planes_sound, records_sound, corners_sound, elements_sound, rows_distinct, words_sound, record_words, blank_words}
use Rattle.soundness.proofs.ReadBack.{rows_length, rows_wide, map_map, all_map as all-mapped}
use Rattle.soundness.proofs.SoundLines.{Own, records_own}
use Rattle.soundness.proofs.SoundWhole.{CountsLow, fit_counts, words_memory}
use Rattle.lent_bytes.specs.Lent.{Put}
use Rattle.lent_bytes.proofs.Puts.{then as behind, put_as, put_length}
use Rattle.files.specs.Saved.{header_saved, point_saved, plane_saved, row_saved, are_numbers, point_clear, plane_clear, count_fits, saved, file_size, RowsReady, HeaderReady, SizeReady}
use Rattle.files.proofs.SavedSizes.{elements_few, points_few, planes_few}
use Rattle.files.proofs.SavedRecords.{header_long, point_long, plane_long, rows_front_long}
use Rattle.rules.specs.declared.Refusal.TheVariants.{NotSound, RoomShort}

-- ---- a row that is what is written of its element

-- as many words as its count says are the element's row
own_front : (e : Element) (zs : List ℕ) → take (4 + get_or (element_row e ++ zs) 3 0) (element_row e ++ zs) ≡ element_row e
unfolding element_row
own_front (corner v) zs = refl
own_front (polytope r b h m) zs =
    ap (λ (k : ℕ). take k (element_row (polytope r b h m) ++ zs)) (let q : 4 + length b ≡ suc (suc (suc (suc (length b)))) = omega arith in q)
    ∙ ap (λ (ys : List ℕ). r ∷ cond m 1 0 ∷ plane_number h ∷ length b ∷ ys) (take-append_seam b zs)

row_own : (r : List ℕ) → element_words desk (read_element r) ≡ r → element_record (read_element r) ≡ row_saved r
unfolding element_record row_saved
row_own r q = sym (ap row_record (own_front (read_element r) _)) ∙ ap (λ (x : List ℕ). row_record (take (4 + get_or x 3 0) x)) q

rows_own : (rs : List (List ℕ)) → Own desk rs → map element_record (map read_element rs) ≡ map row_saved rs
rows_own [] o = refl
rows_own (r ∷ rs) o = ap₂ (λ (x : List ℕ) (xs : List (List ℕ)). x ∷ xs) (row_own r o.0) (rows_own rs o.1)

count_fits_lem : (r : List ℕ) → record_words desk r ≡ true → count_fits r ≡ true
unfolding record_words count_fits
count_fits_lem r = go (eqb (get_or r 0 0) 0)
  where
    go : (b : Bool) → (if b then eqb 0 (get_or r 1 0) && eqb no_plane (get_or r 2 0) && eqb 1 (get_or r 3 0) && blank_words (drop 5 r)
        else (leb (get_or r 1 0) 1 && leb (get_or r 3 0) 32 && blank_words (drop (get_or r 3 0) (drop 4 r)))) ≡ true → leb (get_or r 3 0) 32 ≡ true
    go true q =
        let x = eqb 0 (get_or r 1 0) && eqb no_plane (get_or r 2 0) in
        let e = eq_test 1 (get_or r 3 0) (and_right x (eqb 1 (get_or r 3 0)) (and_left (x && eqb 1 (get_or r 3 0)) (blank_words (drop 5 r)) q)) in
        test_le (get_or r 3 0) 32 (let z : get_or r 3 0 ≤ 32 = omega (arith, e) in z)
    go false q =
        and_right (leb (get_or r 1 0) 1) (leb (get_or r 3 0) 32)
        (and_left (leb (get_or r 1 0) 1 && leb (get_or r 3 0) 32) (blank_words (drop (get_or r 3 0) (drop 4 r))) q)

-- ---- the records of rows of one width

rows_long : {A : Type 0} (f : List A → List ℕ) (w k : ℕ) → ((r : List A) → length r ≡ w → length (f r) ≡ k) → (rs : List (List A)) → Wide w rs → length (joined (map f rs)) ≡ length rs * k
rows_long f w k each [] o = sym (zero-mul k)
rows_long f w k each (r ∷ rs) o =
    let a = length-append (f r) (joined (map f rs)) in
    let b = each r o.0 in
    let c = rows_long f w k each rs o.1 in
    let m = suc-mul (length rs) k in
    omega (arith, a, b, c, m)

-- the four counts are the words
counts_are : (cs : List ℕ) (n v h : ℕ) → length cs ≡ 4 → n ≡ get_or cs 1 0 → v ≡ get_or cs 2 0 → h ≡ get_or cs 3 0 → get_or cs 0 0 ∷ n ∷ v ∷ h ∷ [] ≡ cs
counts_are [] n v h e p q r = absurd (let z : ⊥ = omega (arith, e) in z)
counts_are (a ∷ []) n v h e p q r = absurd (let z : ⊥ = omega (arith, e) in z)
counts_are (a ∷ b ∷ []) n v h e p q r = absurd (let z : ⊥ = omega (arith, e) in z)
counts_are (a ∷ b ∷ c ∷ []) n v h e p q r = absurd (let z : ⊥ = omega (arith, e) in z)
counts_are (a ∷ b ∷ c ∷ d ∷ []) n v h e p q r = λ i. a ∷ p i ∷ q i ∷ r i ∷ []
counts_are (a ∷ b ∷ c ∷ d ∷ x ∷ l) n v h e p q r = absurd (let z : ⊥ = omega (arith, e) in z)

-- ---- what the words of a sound memory tell

-- the four counts, by other names
pub record Counted (cs : List ℕ) (d n v h : ℕ) : Type 0 where
  pub dimension : d ≡ get_or cs 0 0
  pub elements : n ≡ get_or cs 1 0
  pub vertices : v ≡ get_or cs 2 0
  pub hyperplanes : h ≡ get_or cs 3 0

pub record Words (cs : List ℕ) (ps hs : List Float) (es : List ℕ) : Type 0 where
  pub sizes : Lengths cs ps hs es
  pub low : CountsLow (get_or cs 0 0) (get_or cs 1 0) (get_or cs 2 0) (get_or cs 3 0)
  pub records : all (record_words desk) (rows (get_or cs 1 0) 36 es) ≡ true

module _ (cs : List ℕ) (ps hs : List Float) (es : List ℕ) (s : sound_memory desk (memory_of cs ps hs es) ≡ true) where
  abbrev d : ℕ
  d = get_or cs 0 0

  abbrev n : ℕ
  n = get_or cs 1 0

  abbrev v : ℕ
  v = get_or cs 2 0

  abbrev h : ℕ
  h = get_or cs 3 0

  words : Words cs ps hs es
  unfolding words_sound records_sound
  words =
      let S = right_size desk (memory_of cs ps hs es) in
      let C = counts_fit desk d n v h in
      let P = points_sound desk d v ps in
      let H = planes_sound desk d h hs in
      let E = all (record_words desk) (rows n 36 es) && blank_words (drop (n * 36) es) in
      let O = corners_sound desk n v es in
      let R = elements_sound desk d n h es in
      let k₁ = and_left (S && C && P && H && E && O && R) (rows_distinct desk n es) (sym (words_memory cs ps hs es) ∙ s) in
      let k₂ = and_left (S && C && P && H && E) O (and_left (S && C && P && H && E && O) R k₁) in
      let k₃ = and_left (S && C) P (and_left (S && C && P) H (and_left (S && C && P && H) E k₂)) in
      record {
        sizes = size_known cs ps hs es (and_left S C k₃);
        low = fit_counts d n v h (and_right S C k₃);
        records = and_left (all (record_words desk) (rows n 36 es)) (blank_words (drop (n * 36) es)) (and_right (S && C && P && H) E k₂);
      }

  numbers : NoNan (decode desk (memory_of cs ps hs es))
  numbers = sound_no_nan desk (decode desk (memory_of cs ps hs es)) (sound_table desk (memory_of cs ps hs es) s)

  points_clear : all (point_clear d) (rows v 4 ps) ≡ true
  unfolding decode point_clear
  points_clear = sym (all-mapped are_numbers (take d) (rows v 4 ps)) ∙ numbers.points

  planes_clear : all (plane_clear d) (rows h 5 hs) ≡ true
  unfolding decode plane_clear read_plane
  planes_clear = sym (all-mapped (λ (x : Plane). are_numbers x.normal && not (is_nan x.distance)) (read_plane desk d) (rows h 5 hs)) ∙ numbers.planes

  elements_clear : all count_fits (rows n 36 es) ≡ true
  elements_clear = all_map (record_words desk) count_fits count_fits_lem (rows n 36 es) words.records

  pub size_ready : SizeReady cs es
  size_ready = record {
    counts = words.sizes.counts;
    dimension = words.low.dimension;
    vertices = words.low.vertices;
    hyperplanes = words.low.hyperplanes;
    elements = record { elements = words.sizes.elements; room = words.low.elements; clear = elements_clear };
  }

  file_is : file_of (decode desk (memory_of cs ps hs es)) ≡ header_saved cs ++ (saved (point_saved d) 4 v ps ++ (saved (plane_saved d) 5 h hs ++ saved row_saved 36 n es))
  unfolding file_of decode header header_saved saved point_saved plane_saved
  file_is = λ i. numbered i ++ (joined (map_map point_record (take d) (rows v 4 ps) i) ++ (joined (map_map plane_record (read_plane desk d) (rows h 5 hs) i) ++ joined (owned i)))
    where
      numbered : 0x48 ∷ 0x44 ∷ number_bytes 2 (d ∷ length (map read_element (rows n 36 es)) ∷ length (map (take d) (rows v 4 ps)) ∷ length (map (read_plane desk d) (rows h 5 hs)) ∷ [])
          ≡ 0x48 ∷ 0x44 ∷ number_bytes 2 cs
      numbered =
          ap (λ (xs : List ℕ). 0x48 ∷ 0x44 ∷ number_bytes 2 xs)
          (counts_are cs _ _ _ words.sizes.counts (length-map (rows n 36 es) read_element ∙ rows_length n 36 es) (length-map (rows v 4 ps) (take d) ∙ rows_length v 4 ps)
          (length-map (rows h 5 hs) (read_plane desk d) ∙ rows_length h 5 hs))

      owned : map element_record (map read_element (rows n 36 es)) ≡ map row_saved (rows n 36 es)
      owned =
          rows_own (rows n 36 es)
          (records_own desk (lit≤ tt) (rows n 36 es) (rows_wide 36 n 512 es words.low.elements words.sizes.elements) words.records)

  parts_long : length (file_of (decode desk (memory_of cs ps hs es))) ≡ length (header_saved cs) + length (saved (point_saved d) 4 v ps) + length (saved (plane_saved d) 5 h hs) + length (saved row_saved 36 n es)
  parts_long =
      let f = ap length file_is in
      let a = length-append (header_saved cs) (saved (point_saved d) 4 v ps ++ (saved (plane_saved d) 5 h hs ++ saved row_saved 36 n es)) in
      let b = length-append (saved (point_saved d) 4 v ps) (saved (plane_saved d) 5 h hs ++ saved row_saved 36 n es) in
      let c = length-append (saved (plane_saved d) 5 h hs) (saved row_saved 36 n es) in
      omega (arith, f, a, b, c)

  points_long : length (saved (point_saved d) 4 v ps) ≡ v * (2 + 8 * d)
  unfolding saved
  points_long =
      rows_long (point_saved d) 4 (2 + 8 * d) (λ r e. point_long d r (rows_front_long 4 d r e words.low.dimension)) (rows v 4 ps)
      (rows_wide 4 v 256 ps words.low.vertices words.sizes.points)
      ∙ ap (λ (k : ℕ). k * (2 + 8 * d)) (rows_length v 4 ps)

  planes_long : length (saved (plane_saved d) 5 h hs) ≡ h * (10 + 8 * d)
  unfolding saved
  planes_long =
      rows_long (plane_saved d) 5 (10 + 8 * d) (λ r e. plane_long d r (rows_front_long 5 d r e (let z = words.low.dimension in omega (arith, z)))) (rows h 5 hs)
      (rows_wide 5 h 64 hs words.low.hyperplanes words.sizes.planes)
      ∙ ap (λ (k : ℕ). k * (10 + 8 * d)) (rows_length h 5 hs)

  -- the size that is counted is the file's
  pub size_is : file_size cs es ≡ length (file_of (decode desk (memory_of cs ps hs es)))
  unfolding file_size
  size_is =
      let a = header_long cs words.sizes.counts in
      let b = points_long in
      let c = planes_long in
      let e = parts_long in
      omega (arith, a, b, c, e)

  -- and it fits two bytes
  pub file_short : length (file_of (decode desk (memory_of cs ps hs es))) ≤ 65535
  unfolding file_size
  file_short =
      let e = size_is in
      let u = size_ready in
      let a = points_few v d u.vertices u.dimension in
      let b = planes_few h d u.hyperplanes u.dimension in
      let c = elements_few es n u.elements in
      let r = u.elements.room in
      omega (arith, e, a, b, c, r)

  -- ---- each part, where all of it fits the room

  module _ {room : List ℕ} (fit : length (file_of (decode desk (memory_of cs ps hs es))) ≤ length room) {d' n' v' h' : ℕ} (k : Counted cs d' n' v' h') where
    pub header_ready : HeaderReady cs room 0
    header_ready = record {
      counts = words.sizes.counts;
      fits = (let l = parts_long in let a = header_long cs words.sizes.counts in omega (arith, l, a, fit));
    }

    module _ {p : ℕ} {first : List ℕ} (a : Put room 0 (header_saved cs) p first) where
      pub points_ready : (d' ≤ 4) × RowsReady (point_clear d') (point_saved d') 4 v' ps first p
      points_ready =
          subst (λ (x : ℕ). (x ≤ 4) × RowsReady (point_clear x) (point_saved x) 4 v' ps first p) (sym k.dimension)
          (subst (λ (x : ℕ). (d ≤ 4) × RowsReady (point_clear d) (point_saved d) 4 x ps first p) (sym k.vertices) (
            words.low.dimension,
            record {
              stored = (let m = words.low.vertices in let l = words.sizes.points in omega (arith, m, l));
              clear = points_clear;
              fits = (let l = parts_long in let q = a.place in let m = put_length a in omega (arith, l, q, m, fit));
            },
          ))

      module _ {q : ℕ} {second : List ℕ} (b' : Put first p (saved (point_saved d') 4 v' ps) q second) where
        b : Put first p (saved (point_saved d) 4 v ps) q second
        b = put_as (λ i. saved (point_saved (k.dimension i)) 4 (k.vertices i) ps) b'

        pub planes_ready : (d' ≤ 4) × RowsReady (plane_clear d') (plane_saved d') 5 h' hs second q
        planes_ready =
            subst (λ (x : ℕ). (x ≤ 4) × RowsReady (plane_clear x) (plane_saved x) 5 h' hs second q) (sym k.dimension)
            (subst (λ (x : ℕ). (d ≤ 4) × RowsReady (plane_clear d) (plane_saved d) 5 x hs second q) (sym k.hyperplanes) (
              words.low.dimension,
              record {
                stored = (let m = words.low.hyperplanes in let l = words.sizes.planes in omega (arith, m, l));
                clear = planes_clear;
                fits =
                    (let l = parts_long in
                    let x = a.place in
                    let m = put_length a in
                    let y = b.place in
                    let o = put_length b in
                    omega (arith, l, x, m, y, o, fit));
              },
            ))

        module _ {r : ℕ} {third : List ℕ} (c' : Put second q (saved (plane_saved d') 5 h' hs) r third) where
          c : Put second q (saved (plane_saved d) 5 h hs) r third
          c = put_as (λ i. saved (plane_saved (k.dimension i)) 5 (k.hyperplanes i) hs) c'

          pub elements_ready : RowsReady count_fits row_saved 36 n' es third r
          elements_ready =
              subst (λ (x : ℕ). RowsReady count_fits row_saved 36 x es third r) (sym k.elements)
              (record {
                stored = (let m = words.low.elements in let l = words.sizes.elements in omega (arith, m, l));
                clear = elements_clear;
                fits =
                    (let l = parts_long in
                    let x = a.place in
                    let m = put_length a in
                    let y = b.place in
                    let o = put_length b in
                    let z = c.place in
                    let u = put_length c in
                    omega (arith, l, x, m, y, o, z, u, fit));
              })

          pub file_put : {end : ℕ} {last : List ℕ} → Put third r (saved row_saved 36 n' es) end last → Put room 0 (file_of (decode desk (memory_of cs ps hs es))) end last
          file_put e = put_as (sym file_is) (behind a (behind b (behind c (put_as (λ i. saved row_saved 36 (k.elements i) es) e))))

-- ---- the replies

module _ (cs : List ℕ) (ps hs : List Float) (es : List ℕ) (room : List ℕ) where
  pub save_three : sound_memory desk (memory_of cs ps hs es) ≡ false → (Err NotSound, room) ≡ save_reply desk (memory_of cs ps hs es) room
  unfolding save_reply
  save_three s =
      sym (ap (λ (a : Asked (List ℕ)). listed a room) (if_true (not (sound_memory desk (memory_of cs ps hs es))) (no_answer NotSound) (answer (file_of (decode desk (memory_of cs ps hs es)))) (ap not s)))

  module _ (s : sound_memory desk (memory_of cs ps hs es) ≡ true) where
    xs : List ℕ
    xs = file_of (decode desk (memory_of cs ps hs es))

    save_by : save_reply desk (memory_of cs ps hs es) room ≡ listed (answer xs) room
    unfolding save_reply xs
    save_by = ap (λ (a : Asked (List ℕ)). listed a room) (if_false (not (sound_memory desk (memory_of cs ps hs es))) (no_answer NotSound) (answer (file_of (decode desk (memory_of cs ps hs es)))) (ap not s))

    pub save_twelve : {n : ℕ} → n ≡ file_size cs es → length room < n → (Err RoomShort, room) ≡ save_reply desk (memory_of cs ps hs es) room
    unfolding xs
    save_twelve {n} e h =
        let z = size_is cs ps hs es s in
        sym (save_by ∙ if_false (leb (length xs) (length room)) (Ok (length xs), xs ++ drop (length xs) room) (Err RoomShort, room) (test_above (length xs) (length room) (omega (arith, e, h, z))))

    pub save_fits : {n : ℕ} → n ≡ file_size cs es → n ≤ length room → length (file_of (decode desk (memory_of cs ps hs es))) ≤ length room
    save_fits {n} e h = let z = size_is cs ps hs es s in omega (arith, e, h, z)

    pub save_done : {n : ℕ} {after : List ℕ} → length (file_of (decode desk (memory_of cs ps hs es))) ≤ length room → Put room 0 (file_of (decode desk (memory_of cs ps hs es))) n after
        → (Ok n, after) ≡ save_reply desk (memory_of cs ps hs es) room
    unfolding xs
    save_done {n} {after} h p =
        ap₂ (λ (k : ℕ) (m : List ℕ). (Ok k, m)) (let q = p.place in let z : n ≡ length xs = omega (arith, q) in z)
        (p.room ∙ sets-eq xs room 0 (omega (arith, h)) ∙ ap (λ (k : ℕ). xs ++ drop k room) (let z : 0 + length xs ≡ length xs = omega arith in z))
        ∙ sym (save_by ∙ if_true (leb (length xs) (length room)) (Ok (length xs), xs ++ drop (length xs) room) (Err RoomShort, room) (test_le (length xs) (length room) h))

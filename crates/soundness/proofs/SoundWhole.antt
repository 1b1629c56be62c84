-- The words are sound exactly when the memory is.
use Rattle.std.specs.Prelude.{if◌then◌else◌}
use Prim.Native.Nat.{ℕ, ◌≤◌, zero, suc, ◌+◌, ◌*◌}
use mathlib.Core.Bool.{Bool, true, ◌&&◌, false}
use mathlib.Core.List.{List, ◌∷◌, [], map}
use mathlib.Core.Path.{◌≡◌, sym, ◌∙◌, refl, ap}
use native.Mathlib.Omega.{arith}
use lib.Dec.{eqb, leb, lit≤}
use lib.Ieee.{Float}
use lib.ListN.{length, get_or, take, drop, length-drop, length-map}
use Rattle.rules.specs.Floats.{same_bits, plus_zero}
use Rattle.rules.specs.Held.{element_words}
use Rattle.rules.specs.Limits.{desk}
use Rattle.rules.specs.Lists.{alike, all, rows, pad, joined, all_from, distinct, keep, up_to}
use Rattle.rules.specs.Memory.{read_element, plane_named, Memory, read_plane, sound_memory, right_size, same_memory, encode, decode, plane_row}
use Rattle.rules.specs.Sound.{room_fits, sound, corners_in_order, sound_point, sound_plane, sound_element}
use Rattle.rules.specs.Table.{boundary_of, Element, corner, polytope, Plane, Table, primordials, same_element, vertex_of, is_corner}
use Rattle.rules.proofs.Laws.{and_left, and_right, and_true, eqb_self, test_eq, test_le, le_test, both_ways}
use Rattle.soundness.specs.Words.{counts_fit, words_sound, corners_sound, rows_distinct, records_sound, points_sound, planes_sound, elements_sound, record_words, blank_words}
use Rattle.soundness.proofs.ReadBack.{take_short, take_few, rows_length, and_one, rows_wide}
use Rattle.space.proofs.Sizes.{size_known}
use Rattle.soundness.proofs.SoundElements.{elements_same}
use Rattle.soundness.proofs.SoundLines.{points_same, planes_same, records_same, order_same, distinct_same, records_own}

-- the two conjunctions, over plain truth values
both : (S A1 A2 A3 A4 F B2 B3 B4 B5 B6 B7 C P H E O R D : Bool)
    → (S ≡ true → C ≡ true → A1 ≡ true) → (F && B4) ≡ C → (S ≡ true → C ≡ true → (A2 && B2) ≡ P) → (S ≡ true → C ≡ true → (A3 && B3) ≡ H) → (S ≡ true → C ≡ true → A4 ≡ E)
    → B5 ≡ O → (S ≡ true → C ≡ true → B7 ≡ true → B6 ≡ R) → (S ≡ true → C ≡ true → E ≡ true → B7 ≡ D)
    → ((S && (((A1 && A2) && A3) && A4)) && ((((((F && B2) && B3) && B4) && B5) && B6) && B7)) ≡ (((((((S && C) && P) && H) && E) && O) && R) && D)
both S A1 A2 A3 A4 F B2 B3 B4 B5 B6 B7 C P H E O R D a1 c p h e o r dd =
    both_ways _ _
    (λ k.
    let x = and_left (S && (((A1 && A2) && A3) && A4)) ((((((F && B2) && B3) && B4) && B5) && B6) && B7) k in
    let y = and_right (S && (((A1 && A2) && A3) && A4)) ((((((F && B2) && B3) && B4) && B5) && B6) && B7) k in
    let s = and_left S (((A1 && A2) && A3) && A4) x in
    let x₁ = and_right S (((A1 && A2) && A3) && A4) x in
    let a4 = and_right ((A1 && A2) && A3) A4 x₁ in
    let x₂ = and_left ((A1 && A2) && A3) A4 x₁ in
    let a3 = and_right (A1 && A2) A3 x₂ in
    let a2 = and_right A1 A2 (and_left (A1 && A2) A3 x₂) in
    let b7 = and_right (((((F && B2) && B3) && B4) && B5) && B6) B7 y in
    let y₁ = and_left (((((F && B2) && B3) && B4) && B5) && B6) B7 y in
    let b6 = and_right ((((F && B2) && B3) && B4) && B5) B6 y₁ in
    let y₂ = and_left ((((F && B2) && B3) && B4) && B5) B6 y₁ in
    let b5 = and_right (((F && B2) && B3) && B4) B5 y₂ in
    let y₃ = and_left (((F && B2) && B3) && B4) B5 y₂ in
    let b4 = and_right ((F && B2) && B3) B4 y₃ in
    let y₄ = and_left ((F && B2) && B3) B4 y₃ in
    let b3 = and_right (F && B2) B3 y₄ in
    let b2 = and_right F B2 (and_left (F && B2) B3 y₄) in
    let f = and_left F B2 (and_left (F && B2) B3 y₄) in
    let cc : C ≡ true = sym c ∙ and_true F B4 f b4 in
    let ee : E ≡ true = sym (e s cc) ∙ a4 in
    let points = and_true _ _ (and_true S C s cc) (sym (p s cc) ∙ and_true A2 B2 a2 b2) in
    let planes = and_true _ _ points (sym (h s cc) ∙ and_true A3 B3 a3 b3) in
    let named = and_true _ _ (and_true _ _ planes ee) (sym o ∙ b5) in
    and_true _ _ (and_true _ _ named (sym (r s cc b7) ∙ b6)) (sym (dd s cc ee) ∙ b7))
    (λ k.
    let d₁ = and_right ((((((S && C) && P) && H) && E) && O) && R) D k in
    let k₁ = and_left ((((((S && C) && P) && H) && E) && O) && R) D k in
    let r₁ = and_right (((((S && C) && P) && H) && E) && O) R k₁ in
    let k₂ = and_left (((((S && C) && P) && H) && E) && O) R k₁ in
    let o₁ = and_right ((((S && C) && P) && H) && E) O k₂ in
    let k₃ = and_left ((((S && C) && P) && H) && E) O k₂ in
    let e₁ = and_right (((S && C) && P) && H) E k₃ in
    let k₄ = and_left (((S && C) && P) && H) E k₃ in
    let h₁ = and_right ((S && C) && P) H k₄ in
    let k₅ = and_left ((S && C) && P) H k₄ in
    let p₁ = and_right (S && C) P k₅ in
    let s = and_left S C (and_left (S && C) P k₅) in
    let cc = and_right S C (and_left (S && C) P k₅) in
    let fb : (F && B4) ≡ true = c ∙ cc in
    let pp : (A2 && B2) ≡ true = p s cc ∙ p₁ in
    let hh : (A3 && B3) ≡ true = h s cc ∙ h₁ in
    let b7 : B7 ≡ true = dd s cc e₁ ∙ d₁ in
    and_true _ _
    (and_true S _ s (and_true _ A4 (and_true _ A3 (and_true A1 A2 (a1 s cc) (and_left A2 B2 pp)) (and_left A3 B3 hh)) (e s cc ∙ e₁)))
    (and_true _ B7 (and_true _ B6 (and_true _ B5 (and_true _ B4 (and_true _ B3 (and_true F B2 (and_left F B4 fb) (and_right A2 B2 pp)) (and_right A3 B3 hh)) (and_right F B4 fb)) (o ∙ o₁)) (r s cc b7 ∙ r₁)) b7))

-- the counts that fit
pub record CountsLow (d n v h : ℕ) : Type 0 where
  pub dimension : d ≤ 4
  pub vertices : v ≤ 256
  pub elements : n ≤ 512
  pub hyperplanes : h ≤ 64

pub fit_counts : (d n v h : ℕ) → counts_fit desk d n v h ≡ true → CountsLow d n v h
unfolding counts_fit
fit_counts d n v h k =
    let a = leb 1 d in
    let b = leb d 4 in
    let c = leb v 256 in
    let e = leb n 512 in
    let f = leb h 64 in
    let k₁ = and_left (a && b && c && e && f) (leb (primordials d) h) k in
    let k₂ = and_left (a && b && c && e) f k₁ in
    let k₃ = and_left (a && b && c) e k₂ in
    let k₄ = and_left (a && b) c k₃ in
    record {
      dimension = le_test d 4 (and_right a b k₄);
      vertices = le_test v 256 (and_right (a && b) c k₃);
      elements = le_test n 512 (and_right (a && b && c) e k₂);
      hyperplanes = le_test h 64 (and_right (a && b && c && e) f k₁);
    }

-- four counts are written again
counts_back : (cs : List ℕ) (n v h : ℕ) → length cs ≡ 4 → n ≡ get_or cs 1 0 → v ≡ get_or cs 2 0 → h ≡ get_or cs 3 0 → alike eqb (get_or cs 0 0 ∷ n ∷ v ∷ h ∷ []) cs ≡ true
counts_back [] n v h e p q r = absurd (let z : ⊥ = omega (arith, e) in z)
counts_back (a ∷ []) n v h e p q r = absurd (let z : ⊥ = omega (arith, e) in z)
counts_back (a ∷ b ∷ []) n v h e p q r = absurd (let z : ⊥ = omega (arith, e) in z)
counts_back (a ∷ b ∷ c ∷ []) n v h e p q r = absurd (let z : ⊥ = omega (arith, e) in z)
counts_back (a ∷ b ∷ c ∷ d ∷ []) n v h e p q r = and_true _ _ (eqb_self a) (and_true _ _ (test_eq n b p) (and_true _ _ (test_eq v c q) (and_true _ _ (test_eq h d r) refl)))
counts_back (a ∷ b ∷ c ∷ d ∷ x ∷ l) n v h e p q r = absurd (let z : ⊥ = omega (arith, e) in z)

-- a row's boundary is never wider than the row
narrow : (n : ℕ) (l : List ℕ) → all (λ e. leb (length (boundary_of e)) 32) (map read_element (rows n 36 l)) ≡ true
unfolding read_element
narrow zero l = refl
narrow (suc n) l = and_true _ _ (test_le _ 32 (go (eqb (get_or r 0 0) 0))) (narrow n (drop 36 l))
  where
    r : List ℕ
    r = take 36 l

    go : (b : Bool) → length (boundary_of (if b then corner (get_or r 4 0) else polytope (get_or r 0 0) (take (get_or r 3 0) (drop 4 r)) (plane_named (get_or r 2 0)) (eqb (get_or r 1 0) 1))) ≤ 32
    go true = let z : 0 ≤ 32 = omega arith in z
    go false =
        let a = take_short (get_or r 3 0) (drop 4 r) in
        let k = length-drop 4 r in
        let b = take_few 36 l in
        let z : length (take (get_or r 3 0) (drop 4 r)) ≤ 32 = omega (arith, a, k, b) in z

module _ (cs : List ℕ) (ps hs : List Float) (es : List ℕ) where
  abbrev memory : Memory
  memory = record { counts = cs; points = ps; planes = hs; elements = es }

  abbrev d : ℕ
  d = get_or cs 0 0

  abbrev n : ℕ
  n = get_or cs 1 0

  abbrev v : ℕ
  v = get_or cs 2 0

  abbrev h : ℕ
  h = get_or cs 3 0

  abbrev S : Bool
  S = right_size desk memory

  abbrev C : Bool
  C = counts_fit desk d n v h

  abbrev P : List (List Float)
  P = map (take d) (rows v 4 ps)

  abbrev E : List Element
  E = map read_element (rows n 36 es)

  abbrev H : List Plane
  H = map (read_plane desk d) (rows h 5 hs)

  abbrev t : Table
  t = record { dimension = d; points = P; elements = E; planes = H }

  np : length P ≡ v
  np = length-map (rows v 4 ps) (take d) ∙ rows_length v 4 ps

  ne : length E ≡ n
  ne = length-map (rows n 36 es) read_element ∙ rows_length n 36 es

  nh : length H ≡ h
  nh = length-map (rows h 5 hs) (read_plane desk d) ∙ rows_length h 5 hs

  low : C ≡ true → CountsLow d n v h
  low = fit_counts d n v h

  room : (room_fits desk t && leb (primordials d) (length H)) ≡ C
  unfolding room_fits counts_fit
  room =
      ap (λ (b : Bool). (leb 1 d && leb d 4 && leb (length P) 256 && leb (length E) 512 && leb (length H) 64 && b) && leb (primordials d) (length H)) (narrow n es)
      ∙ ap (λ (b : Bool). b && leb (primordials d) (length H)) (and_one (leb 1 d && leb d 4 && leb (length P) 256 && leb (length E) 512 && leb (length H) 64))
      ∙ (λ i. leb 1 d && leb d 4 && leb (np i) 256 && leb (ne i) 512 && leb (nh i) 64 && leb (primordials d) (nh i))

  pub words_memory : sound_memory desk memory ≡ words_sound desk cs ps hs es
  unfolding sound_memory right_size same_memory encode decode sound corners_in_order words_sound corners_sound rows_distinct records_sound
  words_memory =
      both S (alike eqb (d ∷ length E ∷ length P ∷ length H ∷ []) cs)
      (alike same_bits (pad plus_zero 1024 (joined (map (pad plus_zero 4) P))) ps)
      (alike same_bits (pad plus_zero 320 (joined (map (plane_row desk) H))) hs)
      (alike eqb (pad 0 18432 (joined (map (element_words desk) E))) es)
      (room_fits desk t) (all (sound_point d) P) (all (sound_plane d) H) (leb (primordials d) (length H)) (corners_in_order t) (all_from 0 (sound_element t) E) (distinct same_element E)
      C (points_sound desk d v ps) (planes_sound desk d h hs) (records_sound desk n es) (corners_sound desk n v es) (elements_sound desk d n h es) (rows_distinct desk n es)
      (λ s k. counts_back cs (length E) (length P) (length H) (size_known cs ps hs es s).counts ne np nh)
      room
      (λ s k. points_same desk d (low k).dimension v ps (low k).vertices (size_known cs ps hs es s).points)
      (λ s k. planes_same desk d (low k).dimension h hs (low k).hyperplanes (size_known cs ps hs es s).planes)
      (λ s k. records_same desk (lit≤ tt) n es (low k).elements (size_known cs ps hs es s).elements)
      (ap (λ (j : ℕ). alike eqb (map vertex_of (keep is_corner E)) (up_to j)) np ∙ order_same (rows n 36 es) 0 v v (let q : 0 + v ≡ v = omega arith in q))
      (λ s k u. elements_same t es n (size_known cs ps hs es s).elements (low k).elements refl h nh (low k).hyperplanes u)
      (λ s k r. distinct_same desk (rows n 36 es) (records_own desk (lit≤ tt) (rows n 36 es) (rows_wide 36 n 512 es (low k).elements (size_known cs ps hs es s).elements)
      (and_left (all (record_words desk) (rows n 36 es)) (blank_words (drop (n * 36) es)) r)))

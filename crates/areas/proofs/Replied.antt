-- The reply of an area sheet, test by test: each way the code goes is a case of it.
use Rattle.std.specs.Prelude.{if◌then◌else◌, Ok, Err}
use Rattle.std.proofs.Common.{◌≡◌, ℕ, zero, suc, ◌+◌, ◌*◌, ◌<◌, ◌≤◌, Bool, true, false, not, ◌&&◌, eqb, ltb, List, [], ◌∷◌, ◌++◌, map, length, get_or, drop, ℤ, sym, refl, ap, ◌∙◌, le_trans, le_of_eq}
use Rattle.std.proofs.Common.{le_of_suc-le-suc, not-suc-le-zero, zero-add, length-append}
use lib.ListN.{length-map}
use lib.Ieee.{Float}
use lib.Seq.{sets, sets-eq}
use Rattle.rules.specs.Limits.{desk}
use Rattle.rules.specs.Lists.{all}
use Rattle.rules.specs.Table.{Table, element_count, rank}
use Rattle.rules.specs.Sound.{sound}
use Rattle.rules.specs.Memory.{sound_memory}
use Rattle.rules.specs.Held.{Holds, memory_of}
use Rattle.rules.specs.Questions.{Asked, no_answer, answer}
use Rattle.rules.specs.Replies.{listed}
use Rattle.rules.specs.Areas.{most_pieces, piece_on_grid, areas_reply}
use Rattle.rules.proofs.AreaReplies.{sheet_by, few, used, flat, sheet_by_lem}
use Rattle.rules.proofs.Laws.{and_left, and_right, le_test, test_le, test_above, test_eq, not_eq}
use Rattle.space.proofs.Room.{rank_word}
use Rattle.space.proofs.Slices.{slices}
use Rattle.space.proofs.Lent.{memory_sound_table}
use Rattle.space.proofs.RowAdds.{readable_desk}
use Rattle.soundness.proofs.AskedOnce as ask
use Rattle.areas.specs.Words.{word_area, words_on_grid, word_sheet, sheet_asked, row_is_face, PiecesFit, PiecesUsed}
use Rattle.areas.proofs.Sheets.{grids_are, sheet_is, all_fit}
use Rattle.rules.specs.Refusals.{Reply}
use Rattle.rules.specs.declared.Refusal.TheVariants.{ListLong, NotInUse, NotSound, OffGrid, Rank, RoomShort}

-- ---- 25, 12 and the sheet, of the words

module _ (ps : List Float) (es fs : List ℕ) (room : List ℤ) where
  long : length (word_sheet ps es fs) ≡ length fs + 2
  unfolding word_sheet
  long = length-append (map (word_area ps es) fs) _ ∙ ap (λ (k : ℕ). k + 2) (length-map fs (word_area ps es))

  abbrev asked : Bool → Reply ℕ × List ℤ
  asked b = listed (if not b then no_answer OffGrid else answer (word_sheet ps es fs)) room

  abbrev choice : Bool → Reply ℕ × List ℤ
  choice b = if b then (Ok (length (word_sheet ps es fs)), word_sheet ps es fs ++ drop (length (word_sheet ps es fs)) room) else (Err RoomShort, room)

  pub off_grid : all (words_on_grid ps es) fs ≡ false → (Err OffGrid, room) ≡ listed (sheet_asked ps es fs) room
  off_grid q = ap asked (sym q)

  module _ (q : all (words_on_grid ps es) fs ≡ true) where
    pub no_room : length room < length fs + 2 → (Err RoomShort, room) ≡ listed (sheet_asked ps es fs) room
    no_room l = ap choice (sym (test_above (length (word_sheet ps es fs)) (length room) (le_trans l (le_of_eq (sym long))))) ∙ ap asked (sym q)

    pub sheet_done : (n : ℕ) (out : List ℤ) → n ≡ length fs + 2 → length fs + 2 ≤ length room → out ≡ sets room 0 (word_sheet ps es fs) → (Ok n, out) ≡ listed (sheet_asked ps es fs) room
    sheet_done n out e l w =
        let k = length (word_sheet ps es fs) in
        let fit : k ≤ length room = le_trans (le_of_eq long) l in
        let start = zero-add k in
        (λ i. (Ok ((e ∙ sym long) i), (w ∙ sets-eq (word_sheet ps es fs) room 0 (le_trans (le_of_eq start) fit) ∙ ap (λ (j : ℕ). word_sheet ps es fs ++ drop j room) start) i))
        ∙ ap choice (sym (test_le k (length room) fit)) ∙ ap asked (sym q)

-- ---- test by test

module _ (cs : List ℕ) (ps hs : List Float) (es fs : List ℕ) (room : List ℤ) where
  abbrev t : Table
  t = ask.table cs ps hs es

  abbrev reply : Reply ℕ × List ℤ
  reply = areas_reply desk (memory_of cs ps hs es) fs room

  abbrev grid : Bool
  grid = all (piece_on_grid t) fs

  by_tests : (a b c d : Bool) → sound_memory desk (memory_of cs ps hs es) ≡ a → few fs ≡ b → used t fs ≡ c → flat t fs ≡ d → listed (sheet_by t fs a b c d grid) room ≡ reply
  unfolding areas_reply
  by_tests a b c d p₁ p₂ p₃ p₄ = (λ i. listed (sheet_by t fs (sym p₁ i) (sym p₂ i) (sym p₃ i) (sym p₄ i) grid) room) ∙ ap (λ (x : Asked (List ℤ)). listed x room) (sym (sheet_by_lem desk (memory_of cs ps hs es) fs))

  pub unsound : sound_memory desk (memory_of cs ps hs es) ≡ false → (Err NotSound, room) ≡ reply
  unsound s = by_tests false _ _ _ s refl refl refl

  module _ (s : sound_memory desk (memory_of cs ps hs es) ≡ true) where
    H : Holds desk cs ps hs es t
    H = ask.held cs ps hs es s

    S : sound desk t ≡ true
    S = memory_sound_table desk readable_desk (memory_of cs ps hs es) s

    pub too_many : most_pieces < length fs → (Err ListLong, room) ≡ reply
    too_many l = by_tests true false _ _ s (test_above (length fs) most_pieces l) refl refl

    module _ (l : length fs ≤ most_pieces) where
      enough : few fs ≡ true
      enough = test_le (length fs) most_pieces l

      module _ (n : ℕ) (e : n ≡ get_or cs 1 0) where
        counted : n ≡ element_count t
        counted = e ∙ (slices H).element_count

        use_is : (b : Bool) → b ≡ all (λ f. ltb f n) fs → used t fs ≡ b
        use_is b q = sym (q ∙ ap (λ (k : ℕ). all (λ f. ltb f k) fs) counted)

        pub not_in_use : (b : Bool) → b ≡ all (λ f. ltb f n) fs → b ≡ false → (Err NotInUse, room) ≡ reply
        not_in_use b q z = by_tests true true false _ s enough (use_is b q ∙ z) refl

        module _ (b : Bool) (q : b ≡ all (λ f. ltb f n) fs) (z : b ≡ true) where
          in_use_lem : used t fs ≡ true
          in_use_lem = use_is b q ∙ z

          pub not_flat : (get_or cs 0 0 ≡ 2 → ⊥) → (Err Rank, room) ≡ reply
          not_flat w =
              by_tests true true true false s enough in_use_lem
              (ap (λ (x : Bool). x && all (λ f. eqb (rank t f) 2) fs) (not_eq t.dimension 2 (λ y. w (ask.dimension_known cs ps hs es s ∙ y))))

          pub pieces_used : PiecesUsed es fs
          pieces_used = record { elements = (slices H).elements; each = below fs in_use_lem }
            where
              below : (xs : List ℕ) → all (λ f. ltb f (element_count t)) xs ≡ true → (i : ℕ) → i < length xs → get_or xs i 0 < 512
              below [] h i k = absurd (not-suc-le-zero k)
              below (x ∷ xs) h zero k = le_trans (le_test (suc x) (element_count t) (and_left (ltb x (element_count t)) _ h)) H.fits.element_room
              below (x ∷ xs) h (suc i) k = below xs (and_right (ltb x (element_count t)) _ h) i (le_of_suc-le-suc k)

          faces_are : (xs : List ℕ) → all (λ f. ltb f (element_count t)) xs ≡ true → all (row_is_face es) xs ≡ all (λ f. eqb (rank t f) 2) xs
          faces_are [] h = refl
          faces_are (x ∷ xs) h =
              λ i.
              eqb ((ap (λ (k : List ℕ). get_or k (x * 36) 0) H.elements ∙ rank_word desk t H.fits x (le_test (suc x) (element_count t) (and_left (ltb x (element_count t)) _ h))) i) 2
              && faces_are xs (and_right (ltb x (element_count t)) _ h) i

          module _ (d : get_or cs 0 0 ≡ 2) where
            plane : t.dimension ≡ 2
            plane = sym (ask.dimension_known cs ps hs es s) ∙ d

            face_is : (c : Bool) → c ≡ all (row_is_face es) fs → flat t fs ≡ c
            face_is c r = (λ i. test_eq t.dimension 2 plane i && sym (faces_are fs in_use_lem) i) ∙ sym r

            pub no_face : (c : Bool) → c ≡ all (row_is_face es) fs → c ≡ false → (Err Rank, room) ≡ reply
            no_face c r y = by_tests true true true false s enough in_use_lem (face_is c r ∙ y)

            module _ (c : Bool) (r : c ≡ all (row_is_face es) fs) (y : c ≡ true) where
              faces : (used t fs ≡ true) × (all (λ f. eqb (rank t f) 2) fs ≡ true)
              faces = (in_use_lem, sym (faces_are fs in_use_lem) ∙ sym r ∙ y)

              pub pieces_fit : PiecesFit ps es fs
              pieces_fit = record { few = l; each = all_fit H S plane fs faces }

              pub replied : {x : Reply ℕ × List ℤ} → x ≡ listed (sheet_asked ps es fs) room → x ≡ reply
              replied h =
                  h
                  ∙ (λ i. listed (if not (grids_are H S plane fs faces i) then no_answer OffGrid else answer (sheet_is H S plane fs faces i)) room)
                  ∙ by_tests true true true true s enough in_use_lem (face_is c r ∙ y)

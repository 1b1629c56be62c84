-- The reply, test by test: what the question after a primordial facet tells, and then the dimension.
use Rattle.std.specs.Prelude.{if◌then◌else◌, Option, Some, None, Ok, Err}
use Prim.Native.Nat.{ℕ, ◌*◌, ◌<◌}
use mathlib.Core.Path.{◌≡◌, refl, sym, ap, ◌∙◌}
use mathlib.Core.Bool.{Bool, true, false, not, ◌&&◌}
use mathlib.Core.List.{List}
use native.Mathlib.Nat.{le_trans, le_of_eq}
use native.Mathlib.Omega.{arith}
use lib.Dec.{ltb, eqb}
use lib.ListN.{length, get_or, take, drop}
use lib.Ieee.{Float}
use Rattle.rules.specs.Limits.{desk}
use Rattle.rules.specs.Lists.{any}
use Rattle.rules.specs.Table.{Table, is_primordial, element, rank, boundary, element_count}
use Rattle.rules.specs.Memory.{Memory, decode, sound_memory}
use Rattle.rules.specs.Questions.{no_answer, answer, primordial_facet}
use Rattle.rules.specs.Replies.{facet_value, listed, facet_answer, primordial_facet_reply}
use Rattle.rules.specs.Held.{memory_of}
use Rattle.rules.specs.Print.{vertex_at, print_file, unless_facet, printed, print_reply}
use Rattle.rules.proofs.Laws.{le_test, eq_test, test_eq, not_eq, none_some}
use Rattle.lent_bytes.proofs.Fronts.{drop_front}
use Rattle.space.proofs.Slices.{slices}
use Rattle.space.proofs.Lent.{memory_sound_table}
use Rattle.space.proofs.RowAdds.{readable_desk}
use Rattle.soundness.proofs.AskedOnce as ask
use Rattle.print.specs.Pieces.{point_in, file_in, SolidReady}
use Rattle.print.proofs.Printing.{row_point, solid_ready, file_is}
use Rattle.rules.specs.Refusals.{Reply}
use Rattle.rules.specs.declared.Refusal.TheVariants.{NotInUse, NotSound, PrimordialFacet, Rank}
use Rattle.rules.specs.declared.Refusal.{Refusal}

abbrev some_bool : Option Bool → Bool
some_bool None = false
some_bool (Some b) = b

module _ (cs : List ℕ) (ps hs : List Float) (es : List ℕ) (root : ℕ) where
  abbrev m : Memory
  m = memory_of cs ps hs es

  abbrev t : Table
  t = decode desk m

  abbrev facet : Bool
  facet = any (λ b. is_primordial (element t b)) (boundary t root)

  -- ---- 3, 4, and 6 for the rank

  pub refused : (room : List ℕ) (n : Refusal) (r : Reply Bool) → r ≡ primordial_facet_reply desk m root → r ≡ Err n → (Err n, room) ≡ print_reply desk m root room
  unfolding primordial_facet_reply primordial_facet print_reply printed
  refused room n r e h = go (sound_memory desk m) (ltb root (element_count t)) (eqb (rank t root) t.dimension) (eqb t.dimension 3) facet (sym e ∙ h)
    where
      same : {x : Refusal} → ◌≡◌ {A = Reply Bool} (Err x) (Err n) → n ≡ x
      same q = cc

      go : (a b c k d : Bool) → facet_answer (if not a then no_answer NotSound else if not (b && true) then no_answer NotInUse else if c then answer d else no_answer Rank) ≡ Err n
          → (Err n, room) ≡ listed (if not a then no_answer NotSound else if not (b && true) then no_answer NotInUse else if k then unless_facet (if c then answer d else no_answer Rank) (print_file t root) else no_answer Rank) room
      go false b c k d q = ap (λ (j : Refusal). (Err j, room)) (same q)
      go true false c k d q = ap (λ (j : Refusal). (Err j, room)) (same q)
      go true true false true d q = ap (λ (j : Refusal). (Err j, room)) (same q)
      go true true false false d q = ap (λ (j : Refusal). (Err j, room)) (same q)
      go true true true k d q = none_some d (sym (ap facet_value q))

  -- ---- an answer: the memory is sound, the root in use and of full rank

  pub record Known (d : Bool) : Type 0 where
    pub sound : sound_memory desk m ≡ true
    pub used : ltb root (element_count t) ≡ true
    pub ranked : eqb (rank t root) t.dimension ≡ true
    pub told : facet ≡ d

  pub known : (d : Bool) (r : Reply Bool) → r ≡ primordial_facet_reply desk m root → r ≡ Ok d → Known d
  unfolding primordial_facet_reply primordial_facet
  known d r e h = go (sound_memory desk m) (ltb root (element_count t)) (eqb (rank t root) t.dimension) refl refl refl (sym e ∙ h)
    where
      go : (a b c : Bool) → sound_memory desk m ≡ a → ltb root (element_count t) ≡ b → eqb (rank t root) t.dimension ≡ c
          → facet_answer (if not a then no_answer NotSound else if not (b && true) then no_answer NotInUse else if c then answer facet else no_answer Rank) ≡ Ok d → Known d
      go false b c x y z q = none_some d (ap facet_value q)
      go true false c x y z q = none_some d (ap facet_value q)
      go true true false x y z q = none_some d (ap facet_value q)
      go true true true x y z q = record { sound = x; used = y; ranked = z; told = ap (λ (f : Reply Bool). some_bool (facet_value f)) q }

  module _ {d : Bool} (K : Known d) where
    pub four_counts : length cs ≡ 4
    four_counts = ask.counts_long cs ps hs es K.sound

    reply_by_lem : (k : Bool) → eqb t.dimension 3 ≡ k → (room : List ℕ) → listed (if k then unless_facet (answer d) (print_file t root) else no_answer Rank) room ≡ print_reply desk m root room
    unfolding primordial_facet print_reply printed
    reply_by_lem k e room i =
        listed (if not (sym K.sound i) then no_answer NotSound else if not (sym K.used i && true) then no_answer NotInUse
        else if sym e i then unless_facet (if sym K.ranked i then answer (sym K.told i) else no_answer Rank) (print_file t root) else no_answer Rank) room

    module _ (w : ℕ) (e : w ≡ get_or cs 0 0) where
      dimension_is : w ≡ t.dimension
      dimension_is = e ∙ ask.dimension_known cs ps hs es K.sound

      pub not_solid : (room : List ℕ) → (w ≡ 3 → ⊥) → (Err Rank, room) ≡ print_reply desk m root room
      not_solid room h = reply_by_lem false (not_eq t.dimension 3 (λ z. h (dimension_is ∙ z))) room

      module _ (z : w ≡ 3) where
        three : t.dimension ≡ 3
        three = sym dimension_is ∙ z

        pub has_facet : (room : List ℕ) → d ≡ true → (Err PrimordialFacet, room) ≡ print_reply desk m root room
        has_facet room h = ap (λ (b : Bool). listed (unless_facet (answer b) (print_file t root)) room) (sym h) ∙ reply_by_lem true (test_eq t.dimension 3 three) room

        in_use_lem : root < element_count t
        in_use_lem = le_test _ (element_count t) K.used

        full : rank t root ≡ 3
        full = eq_test (rank t root) t.dimension K.ranked ∙ three

        pub solid_asked : SolidReady ps es root
        solid_asked = solid_ready (ask.held cs ps hs es K.sound) (memory_sound_table desk readable_desk m K.sound) root in_use_lem full

        at_row : (v : ℕ) → v < length t.points → point_in ps v ≡ vertex_at t v
        unfolding decode
        at_row v l =
            let n = (slices (ask.held cs ps hs es K.sound)).point_count in
            drop_front (v * 4) 3 ps ∙ ap (λ (j : ℕ). take j (drop (v * 4) ps)) (sym z ∙ e)
            ∙ sym (row_point (get_or cs 0 0) (get_or cs 2 0) 4 v ps (le_trans l (le_of_eq (sym n))) (omega (arith, z, e)))

        pub printed_solid : {x : Reply ℕ × List ℕ} (room : List ℕ) → d ≡ false → x ≡ listed (answer (file_in ps es root)) room → x ≡ print_reply desk m root room
        printed_solid room h q =
            q ∙ ap (λ (xs : List ℕ). listed (answer xs) room) (file_is (ask.held cs ps hs es K.sound) (memory_sound_table desk readable_desk m K.sound) root in_use_lem full three at_row)
            ∙ ap (λ (b : Bool). listed (unless_facet (answer b) (print_file t root)) room) (sym h) ∙ reply_by_lem true (test_eq t.dimension 3 three) room

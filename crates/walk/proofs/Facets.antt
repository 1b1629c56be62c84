-- The reply about a primordial facet by what was asked; the marks in the rows are the elements' own.
use Prim.Native.Nat.{ℕ, suc, ◌+◌, ◌-◌, ◌*◌, ◌≤◌, ◌<◌}
use mathlib.Core.Path.{◌≡◌, refl, sym, ap, ◌∙◌}
use mathlib.Core.Bool.{Bool, true, false, ◌||◌}
use mathlib.Core.List.{List, [], ◌∷◌}
use native.Mathlib.Omega.{arith}
use lib.Dec.{eqb}
use lib.ListN.{get_or, drop}
use lib.Ieee.{Float}
use Rattle.rules.specs.Limits.{desk}
use Rattle.rules.specs.Lists.{any}
use Rattle.rules.specs.Table.{Table, is_primordial, element, element_count, rank, boundary}
use Rattle.rules.specs.Held.{Holds, AllOf, Ranked, memory_of}
use Rattle.rules.specs.Questions.{no_answer, answer, primordial_facet}
use Rattle.rules.specs.Replies.{facet_answer, primordial_facet_reply}
use Rattle.rules.proofs.Good.{Good}
use Rattle.rules.proofs.Laws.{if_true, if_false, test_eq, not_eq, le_test, mark_back}
use Rattle.space.proofs.Room.{mark_word}
use Rattle.soundness.specs.Asked.{roots_asked}
use Rattle.soundness.proofs.AskedOnce as once
use Rattle.soundness.proofs.AskedOnce.{table}
use Rattle.walk.specs.Boundaries.{row_boundary, BoundaryFits}
use Rattle.walk.specs.Facets.{row_primordial}
use Rattle.walk.proofs.Asking as ask
use Rattle.walk.proofs.Boundaries.{row_on, row_end, bounds, boundary_fits, boundary_is}
use Rattle.rules.specs.declared.Refusal.TheVariants.{Rank}
use Rattle.std.specs.Prelude.{Ok, Err}
use Rattle.rules.specs.Refusals.{Reply}
use Rattle.rules.specs.declared.Refusal.{Refusal}

-- ---- a search for one of which p holds

module _ (es : List ℕ) (e n : ℕ) (B : BoundaryFits es e) (q : n ≡ get_or es (e * 36 + 3) 0) where
  module _ (p : ℕ → Bool) (b : Bool) (i x : ℕ) (f : x ≡ get_or es (e * 36 + (4 + i)) 0) (h : i < n) (w : b ≡ any p (drop i (row_boundary es e))) where
    any_on : b ≡ (p x || any p (drop (i + 1) (row_boundary es e)))
    any_on = w ∙ ap (any p) (row_on es e n B q i h) ∙ ap (λ (y : ℕ). p y || any p (drop (i + 1) (row_boundary es e))) (sym f)

    pub any_here : p x ≡ true → true ≡ b
    any_here k = sym (any_on ∙ ap (λ (c : Bool). c || any p (drop (i + 1) (row_boundary es e))) k)

    pub any_go : p x ≡ false → b ≡ any p (drop (i + 1) (row_boundary es e))
    any_go k = any_on ∙ ap (λ (c : Bool). c || any p (drop (i + 1) (row_boundary es e))) k

  pub any_end : (p : ℕ → Bool) (b : Bool) (i : ℕ) → n ≤ i → b ≡ any p (drop i (row_boundary es e)) → false ≡ b
  any_end p b i h w = sym (w ∙ ap (any p) (row_end es e n B q i h))

-- ---- the reply

-- elements of a list have the mark in their rows exactly when they are primordial
marks_are : {cs : List ℕ} {ps hs : List Float} {es : List ℕ} {t : Table} (q : ℕ) → Holds desk cs ps hs es t → (xs : List ℕ) → AllOf (Ranked t q) xs
    → any (row_primordial es) xs ≡ any (λ b. is_primordial (element t b)) xs
marks_are q H [] h = refl
marks_are {es = es} {t} q H (x ∷ xs) h =
    λ i. ((ap (λ (l : List ℕ). eqb (get_or l (x * 36 + 1) 0) 1) H.elements ∙ ap (λ (n : ℕ). eqb n 1) (mark_word desk t H.fits x h.0.0) ∙ mark_back (is_primordial (element t x))) i
    || marks_are q H xs h.1 i)

-- n is what the code found
module _ (root : ℕ) (cs : List ℕ) (ps hs : List Float) (es : List ℕ) (n : Reply (Unit {0})) (e : n ≡ roots_asked (memory_of cs ps hs es) (root ∷ [])) where
  abbrev t : Table
  t = table cs ps hs es

  pub refused : (x : Refusal) → n ≡ Err x → Err x ≡ primordial_facet_reply desk (memory_of cs ps hs es) root
  unfolding primordial_facet_reply
  refused x z = ap facet_answer (once.refused cs ps hs es (root ∷ []) n e (primordial_facet t root) x z)

  module _ (z : n ≡ Ok tt) where
    H : Holds desk cs ps hs es t
    H = ask.holds cs ps hs es root n e z

    g : Good desk t
    g = ask.good cs ps hs es root n e z

    used : root < element_count t
    used = ask.in_use_lem cs ps hs es root n e z

    goes : facet_answer (primordial_facet t root) ≡ primordial_facet_reply desk (memory_of cs ps hs es) root
    unfolding primordial_facet_reply
    goes = ap facet_answer (once.question_is cs ps hs es (root ∷ []) n e z (primordial_facet t root))

    module _ (r d : ℕ) (er : r ≡ get_or es (root * 36) 0) (ed : d ≡ get_or cs 0 0) where
      rank_is : r ≡ rank t root
      rank_is = ask.rank_is cs ps hs es root n e z r er

      dimension_is : d ≡ t.dimension
      dimension_is = ed ∙ ask.dimension_is cs ps hs es root n e z

      pub another_rank : (r ≡ d → ⊥) → Err Rank ≡ primordial_facet_reply desk (memory_of cs ps hs es) root
      unfolding primordial_facet
      another_rank w =
          ap facet_answer (sym (if_false (eqb (rank t root) t.dimension) (answer (any (λ b. is_primordial (element t b)) (boundary t root))) (no_answer Rank)
          (not_eq (rank t root) t.dimension (λ y. w (rank_is ∙ y ∙ sym dimension_is))))) ∙ goes

      module _ (w : r ≡ d) where
        full : rank t root ≡ suc (rank t root - 1)
        full =
            let a = le_test 1 t.dimension g.low in
            let b : rank t root ≡ t.dimension = sym rank_is ∙ w ∙ dimension_is in
            omega (arith, a, b)

        pub facets_fit : BoundaryFits es root
        facets_fit = boundary_fits H g root (rank t root - 1) used full

        pub has : (b : Bool) → b ≡ any (row_primordial es) (row_boundary es root) → Ok b ≡ primordial_facet_reply desk (memory_of cs ps hs es) root
        unfolding primordial_facet
        has b h =
            ap Ok (h ∙ ap (any (row_primordial es)) (boundary_is H g root (rank t root - 1) used full)
            ∙ marks_are (suc (rank t root - 1)) H (boundary t root) (bounds H g root (rank t root - 1) used full))
            ∙ ap facet_answer (sym (if_true (eqb (rank t root) t.dimension) (answer (any (λ b. is_primordial (element t b)) (boundary t root))) (no_answer Rank)
            (test_eq (rank t root) t.dimension (sym rank_is ∙ w ∙ dimension_is)))) ∙ goes

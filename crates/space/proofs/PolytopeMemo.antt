-- Rule 8: each way the code goes is an outcome of the step, since its tests are the step's tests.
use Rattle.std.specs.Prelude.{if◌then◌else◌, Option, Some, None, Ok, Err}
use Prim.Native.Nat.{ℕ, ◌≤◌, ◌<◌}
use mathlib.Core.Path.{◌≡◌, refl, sym, ap, ◌∙◌, subst}
use mathlib.Core.Bool.{Bool, true, false, not, ◌&&◌}
use mathlib.Core.List.{List}
use native.Mathlib.Nat.{le_trans, le_of_eq}
use native.Mathlib.Omega.{arith}
use lib.Dec.{leb, ltb, eqb}
use lib.ListN.{length, get_or}
use lib.Ieee.{Float}
use borrow.Author.Tests.{lt-ltb, le-ltb, le-leb, lt-leb}
use Rattle.rules.specs.Limits.{Limits, desk, no_plane}
use Rattle.rules.specs.Table.{polytope, Table}
use Rattle.rules.specs.Sound.{closed, names_none}
use Rattle.rules.specs.Memory.{plane_number, plane_named}
use Rattle.rules.specs.Cut.{Outcome, refused, done, next, give, given, add_element, add_polytope}
use Rattle.rules.specs.Held.{Holds, element_words, fitting, Came, went, stopped}
use Rattle.rules.specs.declared.ElementId.{ElementId}
use Rattle.rules.proofs.Laws.{and_true}
use Rattle.rules.proofs.Extends.{extends_refl}
use Rattle.space.specs.Closed.{closed_raw, Edges}
use Rattle.space.specs.Found.{placed_at, row_outcome, RowAdded}
use Rattle.space.specs.Shared.{made_of, made_outcome, polytope_tested, polytope_outcome, PolytopeAdded}
use Rattle.space.proofs.Slices.{slices}
use Rattle.space.proofs.TwiceMet.{closed_is}
use Rattle.rules.specs.declared.Refusal.TheVariants.{BoundaryFull, NotClosed}
use Rattle.rules.specs.Refusals.{Reply}
use Rattle.rules.specs.declared.Refusal.TheVariants.{BoundaryFull, NotClosed}
use Rattle.rules.specs.declared.Refusal.{Refusal}

-- ---- the outcome, from the tests

module _ (L : Limits) (r : ℕ) (b : List ℕ) (h : Option ℕ) (m : Bool) (t : Table) where
  abbrev by : Bool → Bool → Bool → Outcome (Option ElementId)
  by few many good =
      if few then done None t else if many then refused BoundaryFull else if not good then refused NotClosed else next (add_element L (polytope r b h m) t) (λ i. give (given i))

  tested : (few many good : Bool) → leb (length b) r ≡ few → ltb L.boundary (length b) ≡ many → closed t r b ≡ good → add_polytope L r b h m t ≡ by few many good
  unfolding add_polytope
  tested few many good p q s = λ i. by (p i) (q i) (s i)

  pub fits_row : 1 ≤ r → length b ≤ L.boundary → (n : ℕ) → h ≡ plane_named n → fitting L (polytope r b h m) ≡ true
  fits_row low short n e =
      and_true (leb 1 r && leb (length b) L.boundary) (not (eqb (plane_number h) no_plane && not (names_none h))) (and_true (leb 1 r) (leb (length b) L.boundary) (le-leb 1 r low) (le-leb (length b) L.boundary short))
      (ap (λ (x : Option ℕ). not (eqb (plane_number x) no_plane && not (names_none x))) e ∙ go (eqb n no_plane) refl)
    where
      go : (c : Bool) → eqb n no_plane ≡ c → not (eqb (plane_number (if c then None else Some n)) no_plane && not (names_none (if c then None else Some n))) ≡ true
      go true q = refl
      go false q = ap (λ (c : Bool). not (c && true)) q

module _ (cs es : List ℕ) (r : ℕ) (b : List ℕ) (plane : ℕ) (mark : Bool) (n : ℕ) (len : length b ≡ n) where
  abbrev row_of : List ℕ
  row_of = element_words desk (polytope r b (plane_named plane) mark)

  -- the outcome by the three tests
  raw : (few many good : Bool) → leb (length b) r ≡ few → ltb 32 (length b) ≡ many → closed_raw (get_or cs 0 0) es r b ≡ good
      → polytope_tested cs es row_of few many good ≡ polytope_outcome cs es r b plane mark
  unfolding polytope_outcome
  raw few many good p q s = sym (λ i. polytope_tested cs es row_of (p i) (q i) (s i))

  pub poly_few : n ≤ r → PolytopeAdded cs es r b plane mark (Ok None) cs es
  poly_few h = record {
    words = raw true _ _ (le-leb (length b) r (le_trans (le_of_eq len) h)) refl refl;
    of = λ ps hs t H low edges. went None t (tested desk r b (plane_named plane) mark t true _ _ (le-leb (length b) r (le_trans (le_of_eq len) h)) refl refl) refl H;
  }

  module _ (more : r < n) where
    more_b : r < length b
    more_b = subst (λ (k : ℕ). r < k) (sym len) more

    pub poly_many : 32 < n → PolytopeAdded cs es r b plane mark (Err BoundaryFull) cs es
    poly_many h = record {
      words = raw false true _ (lt-leb (length b) r more_b) (lt-ltb 32 (length b) (subst (λ (k : ℕ). 32 < k) (sym len) h)) refl;
      of = λ ps hs t H low edges. stopped BoundaryFull t (tested desk r b (plane_named plane) mark t false true _ (lt-leb (length b) r more_b) (lt-ltb 32 (length b) (subst (λ (k : ℕ). 32 < k) (sym len) h)) refl) refl (extends_refl t) H;
    }

    module _ (room : n ≤ 32) where
      room_b : length b ≤ 32
      room_b = le_trans (le_of_eq len) room

      pub poly_open : closed_raw (get_or cs 0 0) es r b ≡ false → PolytopeAdded cs es r b plane mark (Err NotClosed) cs es
      poly_open q = record {
        words = raw false false false (lt-leb (length b) r more_b) (le-ltb 32 (length b) room_b) q;
        of = λ ps hs t H low edges.
            (let not-closed = sym (closed_is (get_or cs 0 0) es t (slices H).dimension H.elements H.fits r b edges) ∙ q in
            stopped NotClosed t (tested desk r b (plane_named plane) mark t false false false (lt-leb (length b) r more_b) (le-ltb 32 (length b) room_b) not-closed) refl (extends_refl t) H);
      }

      module _ (q : closed_raw (get_or cs 0 0) es r b ≡ true) (row cs' es' : List ℕ) (p : Reply ElementId) (w : row ≡ element_words desk (polytope r b (plane_named plane) mark)) (A : RowAdded cs es row p cs' es') where
        module _ (ps hs : List Float) (t : Table) (H : Holds desk cs ps hs es t) (low : r < length b → 1 ≤ r) (edges : r ≡ 2 → Edges t b) where
          whole : add_polytope desk r b (plane_named plane) mark t ≡ next (add_element desk (polytope r b (plane_named plane) mark) t) (λ i. give (given i))
          whole = tested desk r b (plane_named plane) mark t false false true (lt-leb (length b) r more_b) (le-ltb 32 (length b) room_b) (sym (closed_is (get_or cs 0 0) es t (slices H).dimension H.elements H.fits r b edges) ∙ q)

          added_row : Came placed_at Err (Holds desk cs' ps hs es') t (add_element desk (polytope r b (plane_named plane) mark) t) p
          added_row = A.of ps hs t (polytope r b (plane_named plane) mark) H w (fits_row desk r b (plane_named plane) mark t (low more_b) room_b plane refl)

        -- what was placed is made
        made_raw : (x : Reply ElementId) → p ≡ x → record { reply = made_of x; counts = cs'; elements = es' } ≡ polytope_outcome cs es r b plane mark
        made_raw x g =
            ap (λ (y : Reply ElementId). record { reply = made_of y; counts = cs'; elements = es' }) (sym g) ∙ ap made_outcome (A.words ∙ ap (row_outcome cs es) w)
            ∙ raw false false true (lt-leb (length b) r more_b) (le-ltb 32 (length b) room_b) q

        pub poly_refused : (x : Refusal) → p ≡ Err x → PolytopeAdded cs es r b plane mark (Err x) cs' es'
        poly_refused x g = record { words = made_raw (Err x) g; of = λ ps hs t H low edges. go ps hs t (whole ps hs t H low edges) (added_row ps hs t H low edges) }
          where
            go : (ps hs : List Float) (t : Table) → add_polytope desk r b (plane_named plane) mark t ≡ next (add_element desk (polytope r b (plane_named plane) mark) t) (λ i. give (given i))
                → Came placed_at Err (Holds desk cs' ps hs es') t (add_element desk (polytope r b (plane_named plane) mark) t) p
                → Came Ok Err (Holds desk cs' ps hs es') t (add_polytope desk r b (plane_named plane) mark t) (Err x)
            go ps hs t e (went i u o s K) = let z : ◌≡◌ {A = ℕ} 0 1 = cc in absurd (omega arith)
            go ps hs t e (stopped k u o s x' K) =
                let y : x ≡ k = cc in
                stopped k u (e ∙ ap (λ (c : Outcome ℕ). next c (λ i. give (given i))) o) (ap Err y) x' K

        pub poly_made : (x : ElementId) → p ≡ Ok x → PolytopeAdded cs es r b plane mark (Ok (Some x)) cs' es'
        poly_made x g = record { words = made_raw (Ok x) g; of = λ ps hs t H low edges. go ps hs t (whole ps hs t H low edges) (added_row ps hs t H low edges) }
          where
            go : (ps hs : List Float) (t : Table) → add_polytope desk r b (plane_named plane) mark t ≡ next (add_element desk (polytope r b (plane_named plane) mark) t) (λ i. give (given i))
                → Came placed_at Err (Holds desk cs' ps hs es') t (add_element desk (polytope r b (plane_named plane) mark) t) p
                → Came Ok Err (Holds desk cs' ps hs es') t (add_polytope desk r b (plane_named plane) mark t) (Ok (Some x))
            go ps hs t e (went i u o s K) =
                let y : x ≡ record { 0 = i } = cc in
                went (given i) u (e ∙ ap (λ (c : Outcome ℕ). next c (λ i. give (given i))) o) (ap (λ (k : ElementId). Ok (Some k)) y) K
            go ps hs t e (stopped k u o s x' K) = let z : ◌≡◌ {A = ℕ} 0 1 = cc in absurd (omega arith)

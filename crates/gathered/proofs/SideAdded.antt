-- A side's set with the intersection, added with the old rank, hyperplane and mark: the call of rule 8 is the step of the rules.
-- A side that is the element's own boundary needs no call: the step gives the element itself.
use Prim.Native.Nat.{ℕ, ◌+◌, ◌*◌, ◌≤◌, ◌<◌}
use mathlib.Core.Path.{◌≡◌, refl, sym, ap, ◌∙◌, subst}
use mathlib.Core.Bool.{Bool, true, false, not, ◌&&◌}
use mathlib.Core.List.{List}
use native.Mathlib.Nat.{le_trans}
use native.Mathlib.Omega.{arith}
use lib.Dec.{leb, eqb, lit≤}
use lib.ListN.{length, get_or}
use lib.Seq.{ext_get_or}
use lib.Ieee.{Float}
use Rattle.rules.specs.Limits.{desk, no_plane}
use Rattle.rules.specs.Lists.{rises}
use Rattle.rules.specs.Table.{Element, corner, polytope, Table, rank_of, plane_of, is_primordial, element}
use Rattle.rules.specs.Sound.{names_none}
use Rattle.rules.specs.Memory.{plane_number, plane_named}
use Rattle.rules.specs.Held.{Holds, Came, went, SetOf, Ranked, AllOf, fitting}
use Rattle.rules.specs.Cut.{Outcome, done, given, add_polytope, including, side_of_cut}
use Rattle.rules.proofs.Good.{sound_good}
use Rattle.rules.proofs.Growing.{all_get}
use Rattle.rules.proofs.Laws.{le_test, and_left, and_right, mark_back}
use Rattle.rules.proofs.Missed.{own_polytope}
use Rattle.rules.proofs.Ranked.{set_including}
use Rattle.rules.proofs.RoundTrip.{plane_back}
use Rattle.space.specs.Ready.{ElementReady, PolytopeReady}
use Rattle.space.specs.Chains.{Indexed}
use Rattle.space.specs.Closed.{Edges}
use Rattle.space.proofs.RowMade.{taken, front_low, front_ends}
use Rattle.space.specs.Shared.{PolytopeAdded}
use Rattle.space.proofs.Room.{size_of, list_of, plane_word, mark_word, size_word_lem, list_word_lem}
use Rattle.space.proofs.RowAdds.{readable_desk}
use Rattle.space.proofs.Slices.{slices}
use Rattle.gathered.specs.Sets.{size_in, numbers_in, IncludeReady, Included}
use Rattle.gathered.specs.declared.sets.Set.{Set}
use Rattle.gathered.specs.Cutting.{RowReadable, OwnBoundary, SideFit, SideReady, SideMade}
use Rattle.gathered.proofs.Fitting.{some_fits, low_of, edges_of, ends_low, rank_low}
use Rattle.rules.specs.declared.ElementId.{ElementId}
use Rattle.std.specs.Prelude.{Option, None, Ok, Err}
use Rattle.rules.specs.Refusals.{Reply}

-- a row that fits names its hyperplane, or none
plane_named_lem : (z : Element) → fitting desk z ≡ true → plane_named (plane_number (plane_of z)) ≡ plane_of z
plane_named_lem (corner v) f = refl
plane_named_lem (polytope a b h c) f = plane_back desk readable_desk h (and_right (leb 1 a && leb (length b) 32) (not (eqb (plane_number h) no_plane && not (names_none h))) f)

-- and has no more numbers than a row has places
row_short : (z : Element) → fitting desk z ≡ true → size_of z ≤ 32
row_short (corner v) f = lit≤ tt
row_short (polytope a b h c) f = le_test (length b) 32 (and_right (leb 1 a) (leb (length b) 32) (and_left (leb 1 a && leb (length b) 32) _ f))

list_size_lem : (z : Element) → length (list_of z) ≡ size_of z
list_size_lem (corner v) = refl
list_size_lem (polytope a b h c) = refl

module _ {cs es : List ℕ} {r e : ℕ} {set : Set} {x : Option ElementId} where
  -- what the calls ask for
  pub reads_ask : {ix : List ℕ} → SideReady cs es ix r e set x → ElementReady es e
  reads_ask R = record { elements = (slices R.fit.holds).elements; room = le_trans R.fit.used R.fit.holds.fits.element_room }

  pub including_asks : {ix : List ℕ} → SideReady cs es ix r e set x → IncludeReady set x
  including_asks R = record { sized = R.fit.sized; room = some_fits R.table R.fit.holds.fits.element_room r x R.fit.intersection }

  set_with : {ps hs : List Float} {t : Table} → SideFit cs ps hs es r e set x t → SetOf t r (including x (numbers_in set))
  set_with {t = t} F = set_including t r x (numbers_in set) F.intersection F.sets

  pub side_asks : {ix : List ℕ} → SideReady cs es ix r e set x → (all : Set) → Included set x all → (list : List ℕ) → list ≡ numbers_in all → PolytopeReady cs es ix r list
  side_asks {ix} R all I list whole =
      let F = R.fit in
      let t = R.table in
      let z = I.sized 32 F.sized in
      let most = z.most in
      let long = I.long in
      let g = sound_good desk t F.sound in
      let low = rank_low t e r g F.used F.ranked F.some in
      let four = le_test t.dimension 4 g.high in
      let fit : size_in all ≤ length all.numbers = omega (arith, most, long) in
      let size = taken all.numbers (size_in all) fit in
      subst (PolytopeReady cs es ix r) (sym whole) (record {
        counts = (slices F.holds).counts;
        elements = (slices F.holds).elements;
        room = (slices F.holds).elements_fit;
        size = omega (arith, size, most);
        rank = (let q : r < 65536 = omega (arith, low, four) in q);
        low = front_low all.numbers (size_in all) fit (low_of t F.holds.fits.element_room r all (subst (AllOf (Ranked t r)) (sym I.of) (set_with F).ranked));
        edges = (λ two.
            front_ends all.numbers (size_in all) fit
            (ends_low t F.holds.fits g es F.holds.elements all fit (subst (λ (ys : List ℕ). rises ys ≡ true) (sym I.of) (set_with F).rising)
            (subst (λ (m : ℕ). AllOf (Ranked t m) (numbers_in all)) two (subst (AllOf (Ranked t r)) (sym I.of) (set_with F).ranked))));
        index = R.indexed;
      })

  pub side_removed : {ix : List ℕ} {keep : Bool} → SideReady cs es ix r e set x → keep ≡ false → SideMade cs es r e keep set x (Ok None) cs es ix set
  side_removed R q = record {
    of = λ ps hs t F. went None t (ap (λ (b : Bool). side_of_cut desk b (element t e) x (numbers_in set) t) q) refl F.holds;
    indexed = R.indexed;
  }

  module _ {ps hs : List Float} {t : Table} (F : SideFit cs ps hs es r e set x t) where
    own_fits : fitting desk (element t e) ≡ true
    own_fits = all_get (fitting desk) t.elements e (corner 0) F.used F.holds.fits.kinds

    own_size : get_or es (e * 36 + 3) 0 ≡ size_of (element t e)
    own_size = ap (λ (l : List ℕ). get_or l (e * 36 + 3) 0) F.holds.elements ∙ size_word_lem desk t F.holds.fits e F.used

    own_plane : (plane : ℕ) → plane ≡ get_or es (e * 36 + 2) 0 → plane_named plane ≡ plane_of (element t e)
    own_plane plane p =
        ap plane_named (p ∙ ap (λ (l : List ℕ). get_or l (e * 36 + 2) 0) F.holds.elements ∙ plane_word desk t F.holds.fits e F.used)
        ∙ plane_named_lem (element t e) own_fits

    own_mark : (mark : Bool) → mark ≡ eqb (get_or es (e * 36 + 1) 0) 1 → mark ≡ is_primordial (element t e)
    own_mark mark m =
        m ∙ ap (λ (l : List ℕ). eqb (get_or l (e * 36 + 1) 0) 1) F.holds.elements ∙ ap (λ (n : ℕ). eqb n 1) (mark_word desk t F.holds.fits e F.used)
        ∙ mark_back (is_primordial (element t e))

    side_edges : (b : List ℕ) → b ≡ including x (numbers_in set) → r ≡ 2 → Edges t b
    side_edges b q two =
        subst (Edges t) (sym q)
        (edges_of t (sound_good desk t F.sound) (including x (numbers_in set)) (set_with F).rising (subst (λ (n : ℕ). AllOf (Ranked t n) (including x (numbers_in set))) two (set_with F).ranked))

    -- the set's numbers are those of the row, so the search would find the element itself
    module _ (all : Set) (I : Included set x all) (O : OwnBoundary es e (numbers_in all) (length (numbers_in all))) where
      own_list : numbers_in all ≡ list_of (element t e)
      own_list =
          let count = sym O.size ∙ own_size ∙ sym (list_size_lem (element t e)) in
          let short = row_short (element t e) own_fits in
          let listed = list_size_lem (element t e) in
          ext_get_or 0 (numbers_in all) (list_of (element t e)) count
          (λ i l.
          O.same i l
          ∙ ap (λ (w : List ℕ). get_or w (e * 36 + (4 + i)) 0) F.holds.elements
          ∙ list_word_lem desk t F.holds.fits e F.used i
          (let q : i < length (list_of (element t e)) = omega (arith, l, count) in q)
          (let q : 4 + i < 36 = omega (arith, l, count, listed, short) in q))

      own_found : side_of_cut desk true (element t e) x (numbers_in set) t ≡ done (given e) t
      own_found = go (element t e) refl F.ranked
        where
          go : (y : Element) → element t e ≡ y → rank_of y ≡ r → side_of_cut desk true y x (numbers_in set) t ≡ done (given e) t
          go (corner v) own k = absurd (let some = F.some in let z : ⊥ = omega (arith, k, some) in z)
          go (polytope a b h m) own k =
              ap (λ (l : List ℕ). add_polytope desk a l h m t) (sym I.of ∙ own_list ∙ ap list_of own)
              ∙ own_polytope desk t (sound_good desk t F.sound) e a b h m F.used own

  -- what the look at the element's own row asks for
  pub own_asks : {ix : List ℕ} → SideReady cs es ix r e set x → RowReadable es e
  own_asks R = record {
    long = (reads_ask R).elements;
    low = (reads_ask R).room;
    short = subst (λ (n : ℕ). n ≤ 32) (sym (own_size R.fit)) (row_short (element R.table e) (own_fits R.fit));
  }

  pub side_own : {ix : List ℕ} {keep : Bool} → SideReady cs es ix r e set x → (all : Set) (list : List ℕ) → list ≡ numbers_in all → keep ≡ true → Included set x all → OwnBoundary es e list (length list)
      → SideMade cs es r e keep set x (Ok (given e)) cs es ix all
  side_own R all list whole q I O = record {
    of = λ ps hs t F.
        went (given e) t (ap (λ (b : Bool). side_of_cut desk b (element t e) x (numbers_in set) t) q ∙ own_found F all I (subst (λ (l : List ℕ). OwnBoundary es e l (length l)) whole O)) refl F.holds;
    indexed = R.indexed;
  }

  pub side_kept : {ix : List ℕ} {keep : Bool} {y : Reply (Option ElementId)} {cs' es' ix' : List ℕ} → SideReady cs es ix r e set x → (plane : ℕ) (mark : Bool) (all : Set) (list : List ℕ) → list ≡ numbers_in all → keep ≡ true
      → plane ≡ get_or es (e * 36 + 2) 0 → mark ≡ eqb (get_or es (e * 36 + 1) 0) 1 → Included set x all
      → PolytopeAdded cs es r list plane mark y cs' es' → Indexed es' (get_or cs' 1 0) ix' → SideMade cs es r e keep set x y cs' es' ix' all
  side_kept {ix} {keep} {y} {cs'} {es'} R plane mark all list whole q p m I A indexed = record {
    of = λ ps hs t F.
        subst (λ (o : Outcome (Option ElementId)). Came Ok Err (Holds desk cs' ps hs es') t o y)
        ((λ i. add_polytope desk (sym F.ranked i) (I.of i) (own_plane F plane p i) (own_mark F mark m i) t) ∙ sym (ap (λ (b : Bool). side_of_cut desk b (element t e) x (numbers_in set) t) q))
        ((subst (λ (l : List ℕ). PolytopeAdded cs es r l plane mark y cs' es') whole A).of ps hs t F.holds (λ l. F.some) (side_edges F (numbers_in all) I.of));
    indexed = indexed;
  }

-- Rule 3: the words of a vertex's row and of its point are the table's, so its signed distance from the divider is the rules'.
use Prim.Native.Nat.{ℕ, suc, ◌+◌, ◌*◌, ◌<◌}
use mathlib.Core.Path.{◌≡◌, refl, sym, ap, ap₂, ◌∙◌, subst}
use mathlib.Core.Bool.{true, ◌||◌}
use mathlib.Core.List.{List, [], ◌∷◌}
use native.Mathlib.Nat.{le_trans, add-zero}
use lib.Dec.{lit≤}
use lib.ListN.{length, get_or, take}
use lib.Ieee.{Float, nan}
use Rattle.rules.specs.Limits.{desk}
use Rattle.rules.specs.Lists.{pad}
use Rattle.rules.specs.Floats.{plus_zero, signed_distance, side_test}
use Rattle.rules.specs.Table.{Element, corner, polytope, Table, element, point_at, point_of}
use Rattle.rules.specs.Sound.{sound_point}
use Rattle.rules.specs.Held.{points_of}
use Rattle.rules.specs.Cut.{corner_output, distance_of, cut_element, cut_corner}
use Rattle.rules.specs.declared.ElementCutOutput.{ElementCutOutput}
use Rattle.rules.specs.declared.SideTest.{SideTest}
use Rattle.hypermath.specs.Answers.{distance_to}
use Rattle.rules.proofs.Corners.{corner_named_lem}
use Rattle.rules.proofs.Good.{Good, sound_good, above_zero}
use Rattle.rules.proofs.Laws.{le_test}
use Rattle.rules.proofs.RoundTrip.{point_back, point_long}
use Rattle.rules.proofs.StaysCut.{point_at_sound}
use Rattle.space.specs.Chains.{Indexed}
use Rattle.space.specs.Shared.{stored_point}
use Rattle.space.proofs.Room.{list_of, list_word_lem, point_word_or}
use Rattle.space.proofs.RowAdds.{readable_desk}
use Rattle.space.proofs.VertexMemo.{four_is, dimension_is}
use Rattle.space.proofs.Slices.{slices}
use Rattle.gathered.specs.Sets.{warning_in, Noted}
use Rattle.gathered.specs.declared.sets.Room.{Room}
use Rattle.gathered.specs.Cutting.{Fit, cut_of, went}
use Rattle.rules.specs.declared.Cutter.{Cutter}
use Rattle.ends.specs.Ends.{PointAsked, CornerReady, corner_at, CornerCut}
use Rattle.ends.specs.Elements.{LowAsked, LowLeft}
use Rattle.std.specs.Prelude.{Ok}

module _ {cs : List ℕ} {ps hs : List Float} {es : List ℕ} {e : ℕ} {k : Cutter} {t : Table} (F : Fit cs ps hs es 0 e k t) where
  good : Good desk t
  good = sound_good desk t F.sound

  found : (v : ℕ) × (element t e ≡ corner v)
  found = go (element t e) refl
    where
      go : (y : Element) → element t e ≡ y → (v : ℕ) × (element t e ≡ corner v)
      go (corner v) q = (v, q)
      go (polytope r b h m) q = absurd (above_zero desk t e r b h m good F.used q F.ranked)

  used : found.0 < length t.points
  used = corner_named_lem desk t good e found.0 F.used found.1

  number_is : get_or es (e * 36 + 4) 0 ≡ found.0
  number_is =
      let x : list_of (element t e) ≡ found.0 ∷ [] = ap list_of found.1 in
      ap (λ (l : List ℕ). get_or l (e * 36 + 4) 0) F.holds.elements
      ∙ list_word_lem desk t F.holds.fits e F.used 0 (subst (λ (l : List ℕ). 0 < length l) (sym x) (lit≤ tt)) (lit≤ tt)
      ∙ ap (λ (l : List ℕ). get_or l 0 0) x

  -- what the point's reader asks
  pub point_asked : PointAsked ps es e
  point_asked = record {
    points = (slices F.holds).points;
    elements = (slices F.holds).elements;
    low = le_trans F.used F.holds.fits.element_room;
    vertex = le_trans (subst (λ (i : ℕ). i < length t.points) (sym number_is) used) F.holds.fits.point_room;
  }

  pub point_sound : sound_point t.dimension (point_at t e) ≡ true
  point_sound = point_at_sound desk t e good (F.used, ap suc F.ranked)

  float_is : (j : ℕ) → j < 4 → get_or (points_of desk t) (found.0 * 4 + j) nan ≡ get_or (pad plus_zero 4 (point_at t e)) j nan
  float_is j l =
      point_word_or desk t F.holds.fits found.0 j nan used l
      ∙ ap (λ (y : Element). get_or (pad plus_zero 4 (point_of t.points y)) j nan) (sym found.1)

  stored_is : stored_point ps (get_or es (e * 36 + 4) 0) ≡ pad plus_zero 4 (point_at t e)
  stored_is =
      let first = ap (λ (j : ℕ). get_or (points_of desk t) j nan) (sym (add-zero (found.0 * 4))) ∙ float_is 0 (lit≤ tt) in
      ap₂ stored_point F.holds.points number_is
      ∙ (λ i. first i ∷ float_is 1 (lit≤ tt) i ∷ float_is 2 (lit≤ tt) i ∷ float_is 3 (lit≤ tt) i ∷ [])
      ∙ four_is (pad plus_zero 4 (point_at t e)) (point_long desk readable_desk t.dimension (le_test t.dimension 4 good.high) (point_at t e) point_sound)

  pub taken_is : (p : List Float) → p ≡ stored_point ps (get_or es (e * 36 + 4) 0) → take t.dimension p ≡ point_at t e
  taken_is p h = ap (take t.dimension) (h ∙ stored_is) ∙ point_back desk readable_desk t.dimension (point_at t e) point_sound

  pub distance_is : (d : ℕ) (p : List Float) → d ≡ get_or cs 0 0 → p ≡ stored_point ps (get_or es (e * 36 + 4) 0)
      → distance_to d k.params.divider p ≡ distance_of (cut_of t.dimension k) (point_at t e)
  distance_is d p hd hp =
      ap (λ (n : ℕ). distance_to n k.params.divider p) (dimension_is d hd F.holds)
      ∙ ap (signed_distance (take t.dimension k.params.divider.normal) k.params.divider.distance) (taken_is p hp)

pub corner_cut : {cs : List ℕ} {ps : List Float} {es : List ℕ} {e : ℕ} {k : Cutter} {s₀ s₁ : Room} {r : ElementCutOutput} (d : ℕ) (p : List Float) (s : Float) (test : SideTest) → d ≡ get_or cs 0 0
    → p ≡ stored_point ps (get_or es (e * 36 + 4) 0) → s ≡ distance_to d k.params.divider p → test ≡ side_test s → Noted s₀ test.warning s₁ → r ≡ corner_output e test.side
    → CornerCut cs ps es e k s₀ r s₁
corner_cut {cs} {ps} {es} {e} {k} {s₀} d p s test hd hp hs ht N hr = record {
  of = λ planes t F. hr ∙ ap (λ (x : SideTest). corner_output e x.side) (tested F);
  warning = λ planes t F. N.warning ∙ ap (λ (x : SideTest). warning_in s₀ || x.warning) (tested F);
}
  where
    tested : {planes : List Float} {t : Table} → Fit cs ps planes es 0 e k t → test ≡ side_test (distance_of (cut_of t.dimension k) (point_at t e))
    tested F = ht ∙ ap side_test (hs ∙ distance_is F d p hd hp)

-- ---- an element of rank 0

pub low_at : {cs : List ℕ} {ps : List Float} {es ix : List ℕ} {r e : ℕ} {k : Cutter} {s : Room} (n : ℕ) → r ≡ n → LowAsked cs ps es ix r e k s → LowAsked cs ps es ix n e k s
low_at {cs} {ps} {es} {ix} {r} {e} {k} {s} n q A = subst (λ (i : ℕ). LowAsked cs ps es ix i e k s) q A

pub corner_ready : {cs : List ℕ} {ps : List Float} {es ix : List ℕ} {e : ℕ} {k : Cutter} {s : Room} → LowAsked cs ps es ix 0 e k s → CornerReady cs ps es e k s
corner_ready A = record { ready = A.ready }

pub corner_left : {cs : List ℕ} {ps : List Float} {es ix : List ℕ} {r e : ℕ} {k : Cutter} {s s' : Room} {y : ElementCutOutput} → r ≡ 0 → CornerCut cs ps es e k s y s'
    → Indexed es (get_or cs 1 0) ix → LowLeft cs ps es r e k s (Ok y) cs ps es ix s'
unfolding cut_element cut_corner
corner_left {cs} {ps} {es} {ix} {r} {e} {k} q C I = record {
  cut = record {
    of = λ hs t F.
        (let G : Fit cs ps hs es 0 e k t = subst (λ (n : ℕ). Fit cs ps hs es n e k t) q F in
        went (corner_at k t e) t (ap (λ (n : ℕ). cut_element desk (cut_of t.dimension k) n e t) q) (ap Ok (C.of hs t G)) (C.warning hs t G) F.holds);
  };
  indexed = I;
}

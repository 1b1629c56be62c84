-- One slice is two carvings. The slice's table S and the carvings' table W each stand in the other, renumbered:
-- both carvings leave S as it is (they are the slice for fewer sides) and leave W as it is (they are made again), so S has what the carvings add, and W what the slice adds (Contains, ContainsCut).
-- The points are the same lists, since they do not depend on the sides kept (Crossings). Two tables that stand in each other are one up to a renumbering (EachInOther).
use Prim.Native.Nat.{ℕ, suc, ◌<◌}
use mathlib.Core.Bool.{Bool, true, false}
use mathlib.Core.List.{List, [], append-nil}
use mathlib.Core.Path.{◌≡◌, refl, ap, sym, ◌∙◌, subst}
use native.Mathlib.Nat.{le_trans}
use lib.Ieee.{Float, fin, inf, nan}
use lib.ListN.{length}
use Rattle.rules.specs.Limits.{Limits}
use Rattle.rules.specs.Table.{Plane, Table, element_count, rank}
use Rattle.rules.specs.Cut.{Outcome, done, next, keeping, Cutting, add_plane, cut_element, cut_finite, cut_at_distance, cut}
use Rattle.carvings.specs.Promises.{Sliceable, SliceIsTwoCarvings, SliceTakenAsCarvings}
use Rattle.rules.specs.Held.{Begins, Extends, AnswerOf}
use Rattle.carvings.specs.Renumbered.{Renumbering, Corresponds, AnswersCorrespond}
use Rattle.rules.specs.declared.ElementCutOutput.{ElementCutOutput}
use Rattle.rules.specs.declared.ElementCutOutput.TheVariants.{Flush, NonFlush}
use Rattle.rules.specs.declared.ElementAnswer.{ElementAnswer}
use Rattle.rules.proofs.Apart.{distinct_apart}
use Rattle.rules.proofs.Calls.{not_infinite, one_more_lem}
use Rattle.carvings.proofs.Contains.{Went}
use Rattle.carvings.proofs.ContainsCut.{element_sim}
use Rattle.rules.proofs.Corners.{good_fine}
use Rattle.carvings.proofs.Crossings.{Points, points_of_element, Moved, Moves, element_moved}
use Rattle.carvings.proofs.EachInOther.{renumbering}
use Rattle.carvings.proofs.Embeds.{done_value, done_table, Embeds, Grown, embeds_start}
use Rattle.rules.proofs.Extends.{begins_length, count_more, extends_refl, extends_trans, rank_same}
use Rattle.rules.proofs.Fewer.{Dropped, less_answer, less_cutting}
use Rattle.rules.proofs.Fine.{Fine, AnswerIn}
use Rattle.rules.proofs.Good.{Good, sound_good}
use Rattle.rules.proofs.Later.{Later, Replays, Anything, same}
use Rattle.rules.proofs.LaterAppends.{add_plane_lem}
use Rattle.carvings.proofs.LeftAsIs.{next_done}
use Rattle.rules.proofs.Missed.{Unmoved, plane_unmoved}
use Rattle.rules.proofs.Repeat.{NotInfinite, cut_any, cut_element_lem}
use Rattle.carvings.proofs.SideBySide.{OutputIs, NoInside, NoOutside, AnswerIs}
use Rattle.rules.proofs.Stays.{Stays, Kept, plane_stays}
use Rattle.rules.proofs.CloseBelow.{close_below}
use Rattle.rules.proofs.StaysCut.{element_stays}
use Rattle.rules.proofs.Warned.{Done, Warns, warned}

-- what stands beside the slice's answer, as the promise says it
corresponds : (f : ℕ → ℕ) (n : ℕ) (a b₁ b₂ : ElementCutOutput) → OutputIs true true f n a b₁ b₂ × NoOutside b₁ × NoInside b₂ → Corresponds f a b₁ b₂
corresponds f n Flush Flush Flush h = (refl, refl)
corresponds f n Flush Flush (NonFlush i₂ o₂ x₂) h = absurd h.0
corresponds f n Flush (NonFlush i₁ o₁ x₁) b₂ h = absurd h.0
corresponds f n (NonFlush i o x) Flush b₂ h = absurd h.0
corresponds f n (NonFlush i o x) (NonFlush i₁ o₁ x₁) Flush h = absurd h.0
corresponds f n (NonFlush i o x) (NonFlush i₁ o₁ x₁) (NonFlush i₂ o₂ x₂) h =
    (λ k. NonFlush (h.0.0.1 k) (h.1 k) (h.0.2.1 k), λ k. NonFlush (h.2 k) (h.0.1.1 k) (h.0.3.1 k))

abbrev inside_only : Dropped
inside_only = record { inside = false; outside = true }

abbrev outside_only : Dropped
outside_only = record { inside = true; outside = false }

-- equal lists begin alike
begins_equal : {A : Type 0} (xs ys : List A) → ys ≡ xs → Begins xs ys
begins_equal xs ys e = ([], e ∙ sym (append-nil xs))

-- ---- after rule 2

module _ (L : Limits) (h : Plane) (num : ℕ) (root r : ℕ) where
  abbrev keep : Bool → Bool → Cutting
  keep i o = record { params = keeping h i o; number = num }

  abbrev root_cut : Bool → Bool → Table → Outcome ElementAnswer
  root_cut i o t = cut_element L (keep i o) (suc r) root t

  -- a table on which the root can be cut
  record Ready (t : Table) : Type 0 where
    good : Good L t
    planes : num < length t.planes
    used : root < element_count t
    ranked : rank t root ≡ suc r

  cut_extends : (i o : Bool) (t : Table) → Ready t → (a : ElementAnswer) (u : Table) → root_cut i o t ≡ done a u → Kept L (AnswerOf (suc r)) t a u
  cut_extends i o t y a u e = subst (Stays L (AnswerOf (suc r)) t) e (element_stays L (keep i o) r root t y.good y.planes y.used y.ranked)

  -- it still can be, after an unrefused cut of it
  ready : (i o : Bool) (t : Table) → Ready t → (a : ElementAnswer) (u : Table) → root_cut i o t ≡ done a u → Ready u
  ready i o t y a u e =
      let s = cut_extends i o t y a u e in
      record {
        good = s.good;
        planes = le_trans y.planes (begins_length t.planes u.planes s.extends.planes);
        used = le_trans y.used (count_more s.extends);
        ranked = rank_same t u root s.extends y.used ∙ y.ranked;
      }

  module _ (T : Table) (y : Ready T) where
    fine : Fine T
    fine = good_fine L T y.good

    -- the points after a cut of the root, whichever sides are kept
    abbrev path : Points → Points
    path = points_of_element T h (suc r) root

    moves : (i o : Bool) (t : Table) → Extends T t → (b : ElementAnswer) (u : Table) → root_cut i o t ≡ done b u → Moves path t u
    moves i o t x b u e = subst (Moved path t) e (element_moved L (keep i o) T fine (suc r) root y.used t x)

    -- and the warning
    warning : (i o : Bool) (t : Table) → Extends T t → (b : ElementAnswer) (u : Table) → root_cut i o t ≡ done b u → b.warning ≡ close_below h T (suc r) root
    warning i o t x b u e = subst (Done (Warns (close_below h T (suc r) root))) e (warned L (keep i o) T y.good (suc r) root y.used y.ranked t x)

    -- ---- from the slice to the carvings: they leave its table as it is, for they are the slice for fewer sides

    module _ (a : ElementAnswer) (S : Table) (slice : root_cut true true T ≡ done a S) where
      to_S : Extends T S
      to_S = (cut_extends true true T y a S slice).extends

      good_S : Good L S
      good_S = (cut_extends true true T y a S slice).good

      carved : (d : Dropped) → cut_element L (less_cutting d (keep true true)) (suc r) root S ≡ done (less_answer d a) S
      carved d =
          let p : Replays (less_answer d) AnswerIn T (cut_element L (less_cutting d (keep true true)) (suc r) root) a S =
          subst (Later (less_answer d) AnswerIn T (cut_element L (less_cutting d (keep true true)) (suc r) root)) slice (cut_element_lem L (keep true true) d r root T fine y.used) in
          p.replay S (extends_refl S)

      S-points : S.points ≡ path T.points
      S-points = (moves true true T (extends_refl T) a S slice).points

      S-again : S.points ≡ path S.points
      S-again = (moves false true S to_S (less_answer outside_only a) S (carved outside_only)).points

      -- a carving of a table that stands in S
      carving : (i o : Bool) (t : Table) (f : ℕ → ℕ) → Embeds T S t f → Begins (path t.points) S.points
          → Went L T S fine good_S to_S (path t.points) t f (root_cut i o t) (λ b u g. AnswerIs i o g (element_count u) b (less_answer inside_only a) (less_answer outside_only a))
      carving i o t f em p =
          element_sim L T S fine good_S to_S h num i o r root y.used t f em (less_answer inside_only a) (less_answer outside_only a) (carved inside_only) (carved outside_only) p

      first_carving : Went L T S fine good_S to_S (path T.points) T (λ x. x) (root_cut true false T)
          (λ b u g. AnswerIs true false g (element_count u) b (less_answer inside_only a) (less_answer outside_only a))
      first_carving = carving true false T (λ x. x) (embeds_start L T S y.good to_S) (begins_equal (path T.points) S.points S-points)

      first_points : first_carving.after.points ≡ S.points
      first_points = first_carving.points ∙ sym S-points

      second_carving : Went L T S fine good_S to_S (path first_carving.after.points) first_carving.after first_carving.grown.map (root_cut false true first_carving.after)
          (λ b u g. AnswerIs false true g (element_count u) b (less_answer inside_only a) (less_answer outside_only a))
      second_carving =
          carving false true first_carving.after first_carving.grown.map first_carving.grown.embeds
          (begins_equal (path first_carving.after.points) S.points (S-again ∙ ap path (sym first_points)))

      second_points : second_carving.after.points ≡ S.points
      second_points = second_carving.points ∙ ap path first_points ∙ sym S-again

    -- ---- from the carvings to the slice: they leave the second one's table as it is, for they are made again

    module _ (a₁ a₂ : ElementAnswer) (U W : Table) (first : root_cut true false T ≡ done a₁ U) (second : root_cut false true U ≡ done a₂ W) where
      ready_U : Ready U
      ready_U = ready true false T y a₁ U first

      to_U : Extends T U
      to_U = (cut_extends true false T y a₁ U first).extends

      U-to-W : Extends U W
      U-to-W = (cut_extends false true U ready_U a₂ W second).extends

      good_W : Good L W
      good_W = (cut_extends false true U ready_U a₂ W second).good

      to_W : Extends T W
      to_W = extends_trans to_U U-to-W

      W-inside : root_cut true false W ≡ done a₁ W
      W-inside =
          let p : Replays same AnswerIn T (cut_element L (keep true false) (suc r) root) a₁ U =
          subst (Later same AnswerIn T (cut_element L (keep true false) (suc r) root)) first (cut_any L (keep true false) (suc r) root T fine y.used) in
          p.replay W U-to-W

      W-outside : root_cut false true W ≡ done a₂ W
      W-outside =
          let p : Replays same AnswerIn U (cut_element L (keep false true) (suc r) root) a₂ W =
          subst (Later same AnswerIn U (cut_element L (keep false true) (suc r) root)) second (cut_any L (keep false true) (suc r) root U (good_fine L U ready_U.good) ready_U.used) in
          p.replay W (extends_refl W)

      the_slice : Went L T W fine good_W to_W (path T.points) T (λ x. x) (root_cut true true T) (λ b u g. AnswerIs true true g (element_count u) b a₁ a₂)
      the_slice =
          element_sim L T W fine good_W to_W h num true true r root y.used T (λ x. x) (embeds_start L T W y.good to_W) a₁ a₂ W-inside W-outside
          (subst (λ (ps : Points). Begins ps W.points) (moves true false T (extends_refl T) a₁ U first).points U-to-W.points)

      -- ---- each table stands in the other

      module _ (a : ElementAnswer) (S : Table) (slice : root_cut true true T ≡ done a S) where
        S-in-W : Grown T W T (λ x. x) S (λ g. AnswerIs true true g (element_count S) a a₁ a₂)
        S-in-W =
            let q = sym the_slice.runs ∙ slice in
            subst (λ (u : Table). Grown T W T (λ x. x) u (λ g. AnswerIs true true g (element_count u) a a₁ a₂)) (done_table q)
            (subst (λ (b : ElementAnswer). Grown T W T (λ x. x) the_slice.after (λ g. AnswerIs true true g (element_count the_slice.after) b a₁ a₂)) (done_value q) the_slice.grown)

        one : (first_carving a S slice).after ≡ U
        one = done_table (sym (first_carving a S slice).runs ∙ first)

        two : (second_carving a S slice).after ≡ W
        two = done_table (sym (second_carving a S slice).runs ∙ ap (root_cut false true) one ∙ second)

        W-in-S : Embeds T S W (second_carving a S slice).grown.map
        W-in-S = subst (λ (u : Table). Embeds T S u (second_carving a S slice).grown.map) two (second_carving a S slice).grown.embeds

        W-points : W.points ≡ S.points
        W-points = ap (λ (u : Table). u.points) (sym two) ∙ second_points a S slice

        W-planes : W.planes ≡ S.planes
        W-planes = (moves false true U to_U a₂ W second).planes ∙ (moves true false T (extends_refl T) a₁ U first).planes ∙ sym (moves true true T (extends_refl T) a S slice).planes

        after_plane : (f : ℕ → ℕ) × Renumbering (element_count T) S W f × AnswersCorrespond f a a₁ a₂
        after_plane = (
          S-in-W.map,
          renumbering T S W S-in-W.map (second_carving a S slice).grown.map (distinct_apart S (good_S a S slice).apart) (distinct_apart W good_W.apart) S-in-W.embeds W-in-S W-points W-planes,
          record {
            outputs = corresponds S-in-W.map (element_count S) a.output a₁.output a₂.output S-in-W.value;
            inside_warning = warning true false T (extends_refl T) a₁ U first ∙ sym (warning true true T (extends_refl T) a S slice);
            outside_warning = warning false true U to_U a₂ W second ∙ sym (warning true true T (extends_refl T) a S slice);
          },
        )

-- ---- the promise, at tables

cut_finite_lem : (L : Limits) (h : Plane) (i o : Bool) (root : ℕ) (t : Table) → NotInfinite h.distance → cut L (keeping h i o) root t ≡ cut_finite L (keeping h i o) root t
unfolding cut
cut_finite_lem L h i o root t z = at h.distance z
  where
    at : (d : Float) → NotInfinite d → cut_at_distance L (keeping h i o) d root t ≡ cut_finite L (keeping h i o) root t
    at (inf b) z = absurd z
    at nan z = refl
    at (fin s m e) z = refl

module _ (L : Limits) (h : Plane) (root : ℕ) (t : Table) (can : Sliceable L h root t) where
  good_t : Good L t
  good_t = sound_good L t can.is_sound

  z : NotInfinite h.distance
  z = not_infinite h.distance can.finite

  -- the cut of the root on the table that rule 2 leaves
  abbrev cut_on : Bool → Bool → ℕ → Table → Outcome ElementAnswer
  cut_on i o num = λ s. cut_element L (record { params = keeping h i o; number = num }) (rank s root) root s

  abbrev r : ℕ
  r = (one_more_lem (rank t root) can.no_corner).0

  -- rule 2 was not refused: the hyperplane's number and the table with it
  module _ (num : ℕ) (T : Table) (ruled : add_plane L h t ≡ done num T) where
    kept : Kept L (λ (n : ℕ) (s : Table). n < length s.planes) t num T
    kept = subst (Stays L (λ (n : ℕ) (s : Table). n < length s.planes) t) ruled (plane_stays L t good_t h can.divider)

    on_T : Ready L h num root r T
    on_T = record {
      good = kept.good;
      planes = kept.value;
      used = le_trans can.in_use (count_more kept.extends);
      ranked = rank_same t T root kept.extends can.in_use ∙ (one_more_lem (rank t root) can.no_corner).1;
    }

    -- it finds the hyperplane again on every later table
    again : (l : Table) → Extends T l → add_plane L h l ≡ done num l
    again =
        let p : Replays same Anything t (add_plane L h) num T = subst (Later same Anything t (add_plane L h)) ruled (add_plane_lem L h t (good_fine L t good_t)) in p.replay

    -- so a cut is that of the root
    as_root : (i o : Bool) (s l : Table) → add_plane L h s ≡ done num l → rank l root ≡ suc r → cut L (keeping h i o) root s ≡ root_cut L h num root r i o l
    as_root i o s l q k =
        cut_finite_lem L h i o root s z ∙ ap (λ (p : Outcome ℕ). next p (cut_on i o)) q
        ∙ ap (λ (n : ℕ). cut_element L (record { params = keeping h i o; number = num }) n root l) k

    on_t : (i o : Bool) → cut L (keeping h i o) root t ≡ root_cut L h num root r i o T
    on_t i o = as_root i o t T ruled on_T.ranked

    on_later : (i o : Bool) (a : ElementAnswer) (u : Table) → root_cut L h num root r i o T ≡ done a u → (i' o' : Bool) → cut L (keeping h i' o') root u ≡ root_cut L h num root r i' o' u
    on_later i o a u e i' o' =
        as_root i' o' u u (again u (cut_extends L h num root r i o T on_T a u e).extends) (ready L h num root r i o T on_T a u e).ranked

    old_count : element_count T ≡ element_count t
    old_count = ap length (subst (Unmoved t) ruled (plane_unmoved L h t)).0

  -- an unrefused cut is past rule 2
  ruled_by : (i o : Bool) (a : ElementAnswer) (u : Table) → cut L (keeping h i o) root t ≡ done a u → (n : ℕ) × (T : Table) × (add_plane L h t ≡ done n T)
  ruled_by i o a u e = let w = next_done (add_plane L h t) (cut_on i o) a u (sym (cut_finite_lem L h i o root t z) ∙ e) in (w.0, w.1, w.2)

  to_carvings : (a : ElementAnswer) (slice : Table) → cut L (keeping h true true) root t ≡ done a slice
      → (a₁ : ElementAnswer) × (first : Table) × (a₂ : ElementAnswer) × (second : Table)
      × (cut L (keeping h true false) root t ≡ done a₁ first) × (cut L (keeping h false true) root first ≡ done a₂ second)
  to_carvings a S e = go (ruled_by true true a S e)
    where
      go : (n : ℕ) × (T : Table) × (add_plane L h t ≡ done n T)
          → (a₁ : ElementAnswer) × (first : Table) × (a₂ : ElementAnswer) × (second : Table)
          × (cut L (keeping h true false) root t ≡ done a₁ first) × (cut L (keeping h false true) root first ≡ done a₂ second)
      go (n, T, q) =
          let slice = sym (on_t n T q true true) ∙ e in
          let f = first_carving L h n root r T (on_T n T q) a S slice in
          let s = second_carving L h n root r T (on_T n T q) a S slice in
          (f.value, f.after, s.value, s.after, on_t n T q true false ∙ f.runs, on_later n T q true false f.value f.after f.runs false true ∙ s.runs)

  to_slice : (a₁ a₂ : ElementAnswer) (first second : Table) → cut L (keeping h true false) root t ≡ done a₁ first → cut L (keeping h false true) root first ≡ done a₂ second
      → (a : ElementAnswer) × (slice : Table) × (cut L (keeping h true true) root t ≡ done a slice)
  to_slice a₁ a₂ U W e₁ e₂ = go (ruled_by true false a₁ U e₁)
    where
      sliced : (n : ℕ) (T : Table) (q : add_plane L h t ≡ done n T) (a : ElementAnswer) (S : Table) → root_cut L h n root r true true T ≡ done a S
          → (a : ElementAnswer) × (slice : Table) × (cut L (keeping h true true) root t ≡ done a slice)
      sliced n T q a S e = (a, S, on_t n T q true true ∙ e)

      go : (n : ℕ) × (T : Table) × (add_plane L h t ≡ done n T) → (a : ElementAnswer) × (slice : Table) × (cut L (keeping h true true) root t ≡ done a slice)
      go (n, T, q) =
          let first = sym (on_t n T q true false) ∙ e₁ in
          let second = sym (on_later n T q true false a₁ U first false true) ∙ e₂ in
          let s = the_slice L h n root r T (on_T n T q) a₁ a₂ U W first second in
          sliced n T q s.value s.after s.runs

  renumbers : (a a₁ a₂ : ElementAnswer) (S U W : Table) → cut L (keeping h true true) root t ≡ done a S → cut L (keeping h true false) root t ≡ done a₁ U → cut L (keeping h false true) root U ≡ done a₂ W
      → (f : ℕ → ℕ) × Renumbering (element_count t) S W f × AnswersCorrespond f a a₁ a₂
  renumbers a a₁ a₂ S U W e e₁ e₂ = go (ruled_by true true a S e)
    where
      go : (n : ℕ) × (T : Table) × (add_plane L h t ≡ done n T) → (f : ℕ → ℕ) × Renumbering (element_count t) S W f × AnswersCorrespond f a a₁ a₂
      go (n, T, q) =
          let first = sym (on_t n T q true false) ∙ e₁ in
          let second = sym (on_later n T q true false a₁ U first false true) ∙ e₂ in
          subst (λ (m : ℕ). (f : ℕ → ℕ) × Renumbering m S W f × AnswersCorrespond f a a₁ a₂) (old_count n T q)
          (after_plane L h n root r T (on_T n T q) a₁ a₂ U W first second a S (sym (on_t n T q true true) ∙ e))

pub slice_is_two_carvings : (L : Limits) → SliceIsTwoCarvings L
slice_is_two_carvings L h root t S U W a a₁ a₂ p e e₁ e₂ = renumbers L h root t p a a₁ a₂ S U W e e₁ e₂

pub slice_taken_as_carvings : (L : Limits) → SliceTakenAsCarvings L
slice_taken_as_carvings L h root t p = (to_carvings L h root t p, to_slice L h root t p)

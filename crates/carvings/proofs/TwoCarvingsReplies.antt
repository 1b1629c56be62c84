-- One slice is two carvings, at the public replies: the table in memory after each call is the one that the cut left.
use Prim.Native.Nat.{ℕ, ◌<◌}
use mathlib.Core.Bool.{true, false}
use mathlib.Core.List.{List, [], ◌∷◌, map}
use mathlib.Core.Path.{◌≡◌, refl, ap, sym, ◌∙◌, subst}
use native.Mathlib.Nat.{le_trans}
use lib.ListN.{length, set}
use Rattle.rules.specs.Limits.{Limits, Readable}
use Rattle.rules.specs.Table.{Plane, Table, element_count, rank}
use Rattle.rules.specs.Memory.{Memory, encode, decode}
use Rattle.rules.specs.Cut.{done, keeping, cut}
use Rattle.rules.specs.Replies.{output_values, element_value, is_kept, cut_by, params_of, cut_reply, divider_fits, divider_of, written}
use Rattle.rules.specs.Promises.{Finite, Passes}
use Rattle.carvings.specs.Promises.{Sliceable, AsTwoCarvings, SliceRepliesAsTwoCarvings, SliceDoneAsCarvings}
use Rattle.carvings.specs.Renumbered.{Renumbering, Corresponds, AnswersCorrespond, renumbered_place, renumbered_value}
use Rattle.rules.specs.declared.PolytopeFate.{PolytopeFate}
use Rattle.rules.specs.declared.PolytopeFate.TheVariants.{Remove, Keep}
use Rattle.rules.specs.declared.CutParams.{CutParams}
use Rattle.rules.specs.declared.ElementAnswer.{ElementAnswer}
use Rattle.rules.specs.declared.Hyperplane.{Hyperplane}
use Rattle.rules.specs.declared.ElementCutOutput.{ElementCutOutput}
use Rattle.rules.specs.declared.ElementCutOutput.TheVariants.{Flush, NonFlush}
use Rattle.rules.proofs.Built.{built_extends}
use Rattle.rules.proofs.Calls.{not_infinite}
use Rattle.carvings.proofs.Crossings.{Points}
use Rattle.carvings.proofs.Embeds.{done_table}
use Rattle.rules.proofs.Extends.{count_more}
use Rattle.rules.proofs.Good.{Good}
use Rattle.rules.proofs.Laws.{le_test}
use Rattle.rules.proofs.OneCall.{Did, it, good_before, memory_built, memory_sound, memory_table, divider_sound, passed, sound_table}
use Rattle.rules.proofs.Refusals.{cut_numbers}
use Rattle.carvings.proofs.TwoCarvings.{slice_is_two_carvings, slice_taken_as_carvings}
use Rattle.rules.specs.Refusals.{Reply, reply_number}
use Rattle.rules.specs.declared.ElementId.{ElementId}
use Rattle.std.specs.Prelude.{Option, Some, None, Ok}

module _ (L : Limits) (t u : Table) where
  same_counts : u.dimension ≡ t.dimension → element_count u ≡ element_count t → u.points ≡ t.points → u.planes ≡ t.planes → (encode L u).counts ≡ (encode L t).counts
  unfolding encode
  same_counts d e p q = λ k. d k ∷ e k ∷ length (p k) ∷ length (q k) ∷ []

  same_points : u.points ≡ t.points → (encode L u).points ≡ (encode L t).points
  unfolding encode
  same_points p = ap (λ (ps : Points). (encode L (record { dimension = 0; points = ps; elements = []; planes = [] })).points) p

  same_planes : u.planes ≡ t.planes → (encode L u).planes ≡ (encode L t).planes
  unfolding encode
  same_planes q = ap (λ (hs : List Plane). (encode L (record { dimension = 0; points = []; elements = []; planes = hs })).planes) q

-- answers that correspond have values that do
module _ (f : ℕ → ℕ) where
  same_value : (x : Option ElementId) → element_value (renumbered_place f x) ≡ renumbered_value f (element_value x)
  same_value None = refl
  same_value (Some e) = refl

  values_correspond : (a a₁ a₂ : ElementCutOutput) → Corresponds f a a₁ a₂
      → (output_values a₁ ≡ set (map (renumbered_value f) (output_values a)) 1 None) × (output_values a₂ ≡ set (map (renumbered_value f) (output_values a)) 0 None)
  values_correspond Flush a₁ a₂ c = (ap output_values c.0, ap output_values c.1)
  values_correspond (NonFlush i o x) a₁ a₂ c = (
    ap output_values c.0 ∙ (λ j. same_value i j ∷ None ∷ same_value x j ∷ []),
    ap output_values c.1 ∙ (λ j. None ∷ same_value o j ∷ same_value x j ∷ []),
  )

module _ (L : Limits) (R : Readable L) where
  -- a memory on which a cut with this divider and root is past the fixed refusals
  sliceable : (h : Hyperplane) (root : ℕ) (m : Memory) → Finite h.distance → 0 < rank (decode L m) root → Passes L h root m → Good L (decode L m)
      → Sliceable L (divider_of (decode L m).dimension h) root (decode L m)
  sliceable h root m finite ranked p good = record {
    is_sound = sound_table L m p.sound;
    divider = divider_sound L (decode L m).dimension h (le_test (decode L m).dimension L.dimensions good.high) p.fits (not_infinite h.distance finite);
    finite = finite;
    in_use = p.used;
    no_corner = ranked;
  }

  -- of three answers
  answers_as_two : (h : Hyperplane) (root : ℕ) (m slice first second : Memory) (a a₁ a₂ : ElementAnswer)
      → Finite h.distance → 0 < rank (decode L m) root
      → cut_reply L (cut_by h Keep Keep) root m ≡ (Ok a, slice) → cut_reply L (cut_by h Keep Remove) root m ≡ (Ok a₁, first) → cut_reply L (cut_by h Remove Keep) root first ≡ (Ok a₂, second)
      → AsTwoCarvings L m (Ok a, slice) (Ok a₁, first) (Ok a₂, second)
  answers_as_two h root m slice first second a a₁ a₂ finite ranked e e₁ e₂ = record {
    counts = ap (λ (x : Memory). x.counts) W.writes ∙ same_counts L s w rn.dimension rn.count rn.points rn.planes ∙ sym (ap (λ (x : Memory). x.counts) S.writes);
    points = ap (λ (x : Memory). x.points) W.writes ∙ same_points L s w rn.points ∙ sym (ap (λ (x : Memory). x.points) S.writes);
    planes = ap (λ (x : Memory). x.planes) W.writes ∙ same_planes L s w rn.planes ∙ sym (ap (λ (x : Memory). x.planes) S.writes);
    number = found.0;
    elements = subst (λ (x : Table). Renumbering (element_count t) x (decode L second) found.0) (sym (memory_table L R (cut_by h Keep Keep) root m a slice e))
        (subst (λ (x : Table). Renumbering (element_count t) s x found.0) (sym (memory_table L R (cut_by h Remove Keep) root first a₂ second e₂)) rn);
    inside = (values_correspond found.0 a.output a₁.output a₂.output found.2.outputs).0;
    outside = (values_correspond found.0 a.output a₁.output a₂.output found.2.outputs).1;
    inside_warning = found.2.inside_warning;
    outside_warning = found.2.outside_warning;
  }
    where
      S : Did L (cut_by h Keep Keep) root m a slice
      S = it L R (cut_by h Keep Keep) root m a slice e

      U : Did L (cut_by h Keep Remove) root m a₁ first
      U = it L R (cut_by h Keep Remove) root m a₁ first e₁

      W : Did L (cut_by h Remove Keep) root first a₂ second
      W = it L R (cut_by h Remove Keep) root first a₂ second e₂

      t : Table
      t = decode L m

      s : Table
      s = S.table_after_lem

      w : Table
      w = W.table_after_lem

      good : Good L t
      good = good_before L R (cut_by h Keep Keep) root m a slice e

      -- the second carving, on the table that the first one left
      after_first_lem : cut L (keeping (divider_of (decode L m).dimension h) false true) root U.table_after_lem ≡ done a₂ w
      after_first_lem =
          subst (λ (x : Table). cut L (keeping (divider_of (decode L m).dimension h) false true) root x ≡ done a₂ w) (memory_table L R (cut_by h Keep Remove) root m a₁ first e₁)
          (subst (λ (d : ℕ). cut L (keeping (divider_of d h) false true) root (decode L first) ≡ done a₂ w) (built_extends (memory_built L R (cut_by h Keep Remove) root m a₁ first e₁)).dimension W.cuts)

      found : (f : ℕ → ℕ) × Renumbering (element_count (decode L m)) s w f × AnswersCorrespond f a a₁ a₂
      found =
          slice_is_two_carvings L (divider_of (decode L m).dimension h) root (decode L m) s U.table_after_lem w a a₁ a₂
          (sliceable h root m finite ranked S.passes good) S.cuts U.cuts after_first_lem

      rn : Renumbering (element_count (decode L m)) s w found.0
      rn = found.1

  -- a reply whose number is 0 is an answer
  answered : (p : CutParams) (root : ℕ) (m : Memory) → reply_number (cut_reply L p root m).0 ≡ 0 → (a : ElementAnswer) × (cut_reply L p root m ≡ (Ok a, (cut_reply L p root m).1))
  answered p root m z = let a = (cut_numbers L p root m).answered z in (a.0, λ j. (a.1 j, (cut_reply L p root m).1))

  module _ (h : Hyperplane) (root : ℕ) (m : Memory) (finite : Finite h.distance) (ranked : 0 < rank (decode L m) root) where
    abbrev divider : Plane
    divider = divider_of (decode L m).dimension h

    -- what the tables promise, of a memory on which some cut was done
    taken : (i o : PolytopeFate) (a : ElementAnswer) (m' : Memory) → cut_reply L (cut_by h i o) root m ≡ (Ok a, m')
        → ((b : ElementAnswer) (slice : Table) → cut L (keeping divider true true) root (decode L m) ≡ done b slice
        → (a₁ : ElementAnswer) × (first : Table) × (a₂ : ElementAnswer) × (second : Table)
        × (cut L (keeping divider true false) root (decode L m) ≡ done a₁ first) × (cut L (keeping divider false true) root first ≡ done a₂ second))
        × ((a₁ a₂ : ElementAnswer) (first second : Table) → cut L (keeping divider true false) root (decode L m) ≡ done a₁ first → cut L (keeping divider false true) root first ≡ done a₂ second
        → (b : ElementAnswer) × (slice : Table) × (cut L (keeping divider true true) root (decode L m) ≡ done b slice))
    taken i o a m' e =
        slice_taken_as_carvings L divider root (decode L m) (sliceable h root m finite ranked (it L R (cut_by h i o) root m a m' e).passes (good_before L R (cut_by h i o) root m a m' e))

    -- a cut that is done on the table of such a memory
    cut_done : (p : Passes L h root m) (i o : PolytopeFate) (b : ElementAnswer) (u : Table) → cut L (keeping divider (is_kept i) (is_kept o)) root (decode L m) ≡ done b u → cut_reply L (cut_by h i o) root m ≡ (Ok b, encode L u)
    cut_done p i o b u q = passed L (cut_by h i o) root m p ∙ ap (written L m) q

    -- the second cut, on the memory of the first one
    module _ (i o : PolytopeFate) (a : ElementAnswer) (m' : Memory) (e : cut_reply L (cut_by h i o) root m ≡ (Ok a, m')) where
      on_after : (i' o' : PolytopeFate) → cut L (params_of (decode L m').dimension (cut_by h i' o')) root (decode L m') ≡ cut L (keeping divider (is_kept i') (is_kept o')) root (it L R (cut_by h i o) root m a m' e).table_after_lem
      on_after i' o' =
          ap (λ (d : ℕ). cut L (params_of d (cut_by h i' o')) root (decode L m')) (built_extends (memory_built L R (cut_by h i o) root m a m' e)).dimension
          ∙ ap (cut L (keeping divider (is_kept i') (is_kept o')) root) (memory_table L R (cut_by h i o) root m a m' e)

      passes_after : Passes L h root m'
      passes_after =
          let x = built_extends (memory_built L R (cut_by h i o) root m a m' e) in
          let p = (it L R (cut_by h i o) root m a m' e).passes in
          record {
            sound = memory_sound L R (cut_by h i o) root m a m' e;
            used = le_trans p.used (count_more x);
            fits = subst (λ (d : ℕ). divider_fits L d h ≡ true) (sym x.dimension) p.fits;
          }

    -- the carvings' replies, where their cuts are done
    module _ (p : Passes L h root m) (a₁ a₂ : ElementAnswer) (U W : Table) (q₁ : cut L (keeping divider true false) root (decode L m) ≡ done a₁ U) (q₂ : cut L (keeping divider false true) root U ≡ done a₂ W) where
      first_reply : cut_reply L (cut_by h Keep Remove) root m ≡ (Ok a₁, encode L U)
      first_reply = cut_done p Keep Remove a₁ U q₁

      left_U : (it L R (cut_by h Keep Remove) root m a₁ (encode L U) first_reply).table_after_lem ≡ U
      left_U = done_table (sym (it L R (cut_by h Keep Remove) root m a₁ (encode L U) first_reply).cuts ∙ q₁)

      second_reply : cut_reply L (cut_by h Remove Keep) root (encode L U) ≡ (Ok a₂, encode L W)
      second_reply =
          passed L (cut_by h Remove Keep) root (encode L U) (passes_after Keep Remove a₁ (encode L U) first_reply)
          ∙ ap (written L (encode L U)) (on_after Keep Remove a₁ (encode L U) first_reply Remove Keep ∙ ap (cut L (keeping divider false true) root) left_U ∙ q₂)

      both_done : (reply_number (cut_reply L (cut_by h Keep Remove) root m).0 ≡ 0) × (reply_number (cut_reply L (cut_by h Remove Keep) root (cut_reply L (cut_by h Keep Remove) root m).1).0 ≡ 0)
      both_done = (
        ap (λ (x : Reply ElementAnswer × Memory). reply_number x.0) first_reply,
        ap (λ (x : Reply ElementAnswer × Memory). reply_number (cut_reply L (cut_by h Remove Keep) root x.1).0) first_reply ∙ ap (λ (x : Reply ElementAnswer × Memory). reply_number x.0) second_reply,
      )

    slice_first : reply_number (cut_reply L (cut_by h Keep Keep) root m).0 ≡ 0
        → (reply_number (cut_reply L (cut_by h Keep Remove) root m).0 ≡ 0) × (reply_number (cut_reply L (cut_by h Remove Keep) root (cut_reply L (cut_by h Keep Remove) root m).1).0 ≡ 0)
    slice_first z = let e = answered (cut_by h Keep Keep) root m z in go e.0 (cut_reply L (cut_by h Keep Keep) root m).1 e.1
      where
        go : (a : ElementAnswer) (m' : Memory) → cut_reply L (cut_by h Keep Keep) root m ≡ (Ok a, m')
            → (reply_number (cut_reply L (cut_by h Keep Remove) root m).0 ≡ 0) × (reply_number (cut_reply L (cut_by h Remove Keep) root (cut_reply L (cut_by h Keep Remove) root m).1).0 ≡ 0)
        go a m' e =
            let d = it L R (cut_by h Keep Keep) root m a m' e in
            let w = (taken Keep Keep a m' e).0 a d.table_after_lem d.cuts in both_done d.passes w.0 w.2 w.1 w.3 w.4 w.5

    carvings_first : reply_number (cut_reply L (cut_by h Keep Remove) root m).0 ≡ 0 → reply_number (cut_reply L (cut_by h Remove Keep) root (cut_reply L (cut_by h Keep Remove) root m).1).0 ≡ 0
        → reply_number (cut_reply L (cut_by h Keep Keep) root m).0 ≡ 0
    carvings_first z z₂ =
        let m₁ : Memory = (cut_reply L (cut_by h Keep Remove) root m).1 in
        let e₁ = answered (cut_by h Keep Remove) root m z in
        let e₂ = answered (cut_by h Remove Keep) root m₁ z₂ in
        go e₁.0 e₂.0 m₁ (cut_reply L (cut_by h Remove Keep) root m₁).1 e₁.1 e₂.1
      where
        sliced : (p : Passes L h root m) (a : ElementAnswer) (S : Table) → cut L (keeping divider true true) root (decode L m) ≡ done a S → reply_number (cut_reply L (cut_by h Keep Keep) root m).0 ≡ 0
        sliced p a S e = ap (λ (x : Reply ElementAnswer × Memory). reply_number x.0) (cut_done p Keep Keep a S e)

        go : (a₁ a₂ : ElementAnswer) (m₁ m₂ : Memory) → cut_reply L (cut_by h Keep Remove) root m ≡ (Ok a₁, m₁) → cut_reply L (cut_by h Remove Keep) root m₁ ≡ (Ok a₂, m₂)
            → reply_number (cut_reply L (cut_by h Keep Keep) root m).0 ≡ 0
        go a₁ a₂ m₁ m₂ e₁ e₂ =
            let d₁ = it L R (cut_by h Keep Remove) root m a₁ m₁ e₁ in
            let d₂ = it L R (cut_by h Remove Keep) root m₁ a₂ m₂ e₂ in
            let w = (taken Keep Remove a₁ m₁ e₁).1 a₁ a₂ d₁.table_after_lem d₂.table_after_lem d₁.cuts (sym (on_after Keep Remove a₁ m₁ e₁ Remove Keep) ∙ d₂.cuts) in
            sliced d₁.passes w.0 w.1 w.2

  pub slice_done_as_carvings : SliceDoneAsCarvings L
  slice_done_as_carvings h root m finite ranked = (slice_first h root m finite ranked, carvings_first h root m finite ranked)

  pub slice_replies_as_two_carvings : SliceRepliesAsTwoCarvings L
  slice_replies_as_two_carvings h root m finite ranked z =
      let both = slice_first h root m finite ranked z in
      let e = answered (cut_by h Keep Keep) root m z in
      let e₁ = answered (cut_by h Keep Remove) root m both.0 in
      let m₁ = (cut_reply L (cut_by h Keep Remove) root m).1 in
      let e₂ = answered (cut_by h Remove Keep) root m₁ both.1 in
      subst (λ (x : Reply ElementAnswer × Memory). AsTwoCarvings L m x (cut_reply L (cut_by h Keep Remove) root m) (cut_reply L (cut_by h Remove Keep) root m₁)) (sym e.1)
      (subst (λ (x : Reply ElementAnswer × Memory). AsTwoCarvings L m (Ok e.0, (cut_reply L (cut_by h Keep Keep) root m).1) x (cut_reply L (cut_by h Remove Keep) root m₁)) (sym e₁.1)
      (subst (λ (x : Reply ElementAnswer × Memory). AsTwoCarvings L m (Ok e.0, (cut_reply L (cut_by h Keep Keep) root m).1) (Ok e₁.0, m₁) x) (sym e₂.1)
      (answers_as_two h root m (cut_reply L (cut_by h Keep Keep) root m).1 m₁ (cut_reply L (cut_by h Remove Keep) root m₁).1 e.0 e₁.0 e₂.0 finite ranked e.1 e₁.1 e₂.1)))

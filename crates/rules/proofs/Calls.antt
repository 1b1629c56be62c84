-- Demand 3 at the public replies, for whole sequences of calls: every memory that follows a sound one is sound and goes on from it,
-- so what was answered once is answered again, from the table that is there.
use Rattle.std.specs.Prelude.{if◌then◌else◌, Option, None, Err, Ok}
use Prim.Native.Nat.{ℕ, ◌<◌, suc, zero}
use mathlib.Core.Bool.{not, true, Bool, false}
use mathlib.Core.List.{List, [], ◌∷◌}
use mathlib.Core.Path.{◌≡◌, refl, subst, sym, ◌∙◌, ap, ap₂}
use native.Mathlib.Nat.{lt_irrefl, le_trans, suc-ne-zero}
use lib.Ieee.{inf, fin, Float, nan}
use Rattle.rules.specs.Limits.{Limits, Readable}
use Rattle.rules.specs.Table.{Table, rank}
use Rattle.rules.specs.Memory.{Memory, sound_memory, decode}
use Rattle.rules.specs.Cut.{Params, cut, done, cut_at_distance, corner_output}
use Rattle.rules.specs.Replies.{cut_reply, is_kept, cut_by, params_of, divider_fits, written, cut_values, cut_warning, output_values, element_value}
use Rattle.rules.specs.Calls.{after, Call, asking, cutting, cubing, opening, after_calls, LeavesTable, TableStays, Gives}
use Rattle.rules.specs.Promises.{Finite, AgainLater, OneSideLater, FlushLater, InfiniteDistance}
use Rattle.rules.specs.Held.{Extends}
use Rattle.rules.specs.declared.Side.TheVariants.{Inside, Outside}
use Rattle.rules.specs.declared.ElementCutOutput.{ElementCutOutput}
use Rattle.rules.specs.declared.ElementCutOutput.TheVariants.{NonFlush, Flush}
use Rattle.rules.specs.declared.ElementAnswer.{ElementAnswer}
use Rattle.rules.specs.declared.PolytopeFate.{PolytopeFate}
use Rattle.rules.specs.declared.PolytopeFate.TheVariants.{Remove, Keep}
use Rattle.rules.specs.declared.CutParams.{CutParams}
use Rattle.rules.proofs.Built.{built_extends}
use Rattle.rules.proofs.Corners.{good_fine}
use Rattle.rules.proofs.Extends.{extends_refl, extends_trans, count_more}
use Rattle.rules.proofs.Fewer.{Dropped, less_kept, less_params, less_answer}
use Rattle.rules.proofs.FileReplies.{refused_open_leaves}
use Rattle.rules.proofs.Fine.{AnswerIn}
use Rattle.rules.proofs.Later.{same, Later}
use Rattle.rules.proofs.OneCall.{it, memory_sound, memory_built, memory_table, after_built, passed, good_before}
use Rattle.rules.proofs.Refusals.{refused_leaves, refused_cube_leaves, cut_numbers}
use Rattle.rules.proofs.Repeat.{NotInfinite, cut_again, cut_fewer}
use Rattle.rules.proofs.RoundTrip.{memory_back}
use Rattle.rules.specs.Refusals.{Reply, reply_number}
use Rattle.rules.specs.declared.ElementId.{ElementId}
use Rattle.rules.specs.Replies.{answer_with}

-- ---- hypotheses as the repeat has them

-- a number above 0 is one more than another
pub one_more_lem : (n : ℕ) → 0 < n → (k : ℕ) × (n ≡ suc k)
one_more_lem zero l = absurd (lt_irrefl 0 l)
one_more_lem (suc k) l = (k, refl)

pub not_infinite : (d : Float) → Finite d → NotInfinite d
not_infinite nan f = tt
not_infinite (inf s) f = f s refl
not_infinite (fin s m e) f = tt

-- a reply that is an answer, by its values
pub gives : {r : Reply ElementAnswer × Memory} {a : ElementAnswer} {vs : List (Option ℕ)} {m : Memory} → r ≡ (Ok a, m) → output_values a.output ≡ vs → Gives r vs a.warning m
gives e v = record {
  number = ap (λ (x : Reply ElementAnswer × Memory). reply_number x.0) e;
  values = ap (λ (x : Reply ElementAnswer × Memory). cut_values x.0) e ∙ v;
  warning = ap (λ (x : Reply ElementAnswer × Memory). cut_warning x.0) e;
  memory = ap (λ (x : Reply ElementAnswer × Memory). x.1) e;
}

-- the parameters with sides removed, as the rules have them
abbrev less_fate : Bool → PolytopeFate → PolytopeFate
less_fate true f = Remove
less_fate false f = f

abbrev less_cut : Dropped → CutParams → CutParams
less_cut d p = cut_by p.divider (less_fate d.inside p.inside) (less_fate d.outside p.outside)

less_params_lem : (d : Dropped) (p : CutParams) (n : ℕ) → params_of n (less_cut d p) ≡ less_params d (params_of n p)
less_params_lem d p n = λ j. record { divider = (params_of n p).divider; keep_inside = kept d.inside p.inside j; keep_outside = kept d.outside p.outside j }
  where
    kept : (b : Bool) (f : PolytopeFate) → is_kept (less_fate b f) ≡ less_kept b (is_kept f)
    kept true f = refl
    kept false f = refl

-- ---- what follows a sound memory

pub record Follows (L : Limits) (m m' : Memory) : Type 0 where
  pub sound_after : sound_memory L m' ≡ true
  pub extends : Extends (decode L m) (decode L m')

module _ (L : Limits) (R : Readable L) where
  pub follows_itself : (m : Memory) → sound_memory L m ≡ true → Follows L m m
  follows_itself m s = record { sound_after = s; extends = extends_refl (decode L m) }

  pub cut_follows : (p : CutParams) (root : ℕ) (m : Memory) → sound_memory L m ≡ true → Follows L m (cut_reply L p root m).1
  cut_follows p root m s = go (cut_reply L p root m).0 (cut_reply L p root m).1 refl
    where
      go : (r : Reply ElementAnswer) (m' : Memory) → cut_reply L p root m ≡ (r, m') → Follows L m m'
      go (Err n) m' e = subst (λ (x : Memory). Follows L m x) (sym (refused_leaves L p root m m' n e)) (follows_itself m s)
      go (Ok a) m' e = record {
        sound_after = memory_sound L R p root m a m' e;
        extends = built_extends (memory_built L R p root m a m' e);
      }

  pub follows_on : {a b c : Memory} → Follows L a b → Follows L b c → Follows L a c
  follows_on f g = record { sound_after = g.sound_after; extends = extends_trans f.extends g.extends }

  pub call_follows : (c : Call) (m : Memory) → sound_memory L m ≡ true → LeavesTable L c m → Follows L m (after L c m)
  call_follows asking m s n = follows_itself m s
  call_follows (cubing d radius) m s n = subst (λ (x : Memory). Follows L m x) (sym (refused_cube_leaves L d radius m n)) (follows_itself m s)
  call_follows (opening bs) m s n = subst (λ (x : Memory). Follows L m x) (sym (refused_open_leaves L bs m n)) (follows_itself m s)
  call_follows (cutting p root) m s n = cut_follows p root m s

  pub calls_follow : (cs : List Call) (m : Memory) → sound_memory L m ≡ true → TableStays L cs m → Follows L m (after_calls L cs m)
  calls_follow [] m s n = follows_itself m s
  calls_follow (c ∷ cs) m s n = let f = call_follows c m s n.0 in follows_on f (calls_follow cs (after L c m) f.sound_after n.1)

  -- ---- an answer, replayed

  module _ (p : CutParams) (root : ℕ) (m : Memory) (a : ElementAnswer) (m' : Memory) (e : cut_reply L p root m ≡ (Ok a, m')) where
    abbrev dimension : ℕ
    dimension = (decode L m).dimension

    -- what a step replays on every table that goes on from the answer's, the call gives on every memory that follows
    pub replayed : (i o : PolytopeFate) (b : ElementAnswer)
        → ((l : Table) → Extends (it L R p root m a m' e).table_after_lem l → cut L (params_of dimension (cut_by p.divider i o)) root l ≡ done b l)
        → (later : Memory) → Follows L m' later → cut_reply L (cut_by p.divider i o) root later ≡ (Ok b, later)
    replayed i o b again later f =
        let x : Extends (it L R p root m a m' e).table_after_lem (decode L later) = subst (λ (t : Table). Extends t (decode L later)) (memory_table L R p root m a m' e) f.extends in
        let y : Extends (decode L m) (decode L later) = extends_trans (built_extends (after_built L R p root m a m' e)) x in
        let g = (it L R p root m a m' e).passes in
        passed L (cut_by p.divider i o) root later (record {
          sound = f.sound_after;
          used = le_trans g.used (count_more y);
          fits = subst (λ (k : ℕ). divider_fits L k p.divider ≡ true) (sym y.dimension) g.fits;
        })
        ∙ ap (λ (k : ℕ). written L later (cut L (params_of k (cut_by p.divider i o)) root (decode L later))) y.dimension
        ∙ ap (written L later) (again (decode L later) x)
        ∙ ap (λ (z : Memory). (Ok b, z)) (memory_back L later f.sound_after)

    -- the same sides
    pub same_sides : (later : Memory) → Follows L m' later → cut_reply L p root later ≡ (Ok a, later)
    same_sides later f =
        replayed p.inside p.outside a
        (subst (Later same AnswerIn (decode L m) (cut L (params_of dimension p) root)) (it L R p root m a m' e).cuts
        (cut_again L (params_of dimension p) root (decode L m) (good_fine L (decode L m) (good_before L R p root m a m' e)) (it L R p root m a m' e).passes.used)).replay later f

    -- fewer sides: a finite divider, and a root that is no corner
    pub fewer_sides : (d : Dropped) (r : ℕ) → rank (decode L m) root ≡ suc r → NotInfinite p.divider.distance → (later : Memory) → Follows L m' later
        → cut_reply L (less_cut d p) root later ≡ (Ok (less_answer d a), later)
    fewer_sides d r k z later f =
        replayed (less_fate d.inside p.inside) (less_fate d.outside p.outside) (less_answer d a)
        (λ l x. ap (λ (q : Params). cut L q root l) (less_params_lem d p dimension)
        ∙ (subst (Later (less_answer d) AnswerIn (decode L m) (cut L (less_params d (params_of dimension p)) root)) (it L R p root m a m' e).cuts
        (cut_fewer L (params_of dimension p) root (decode L m) (good_fine L (decode L m) (good_before L R p root m a m' e)) (it L R p root m a m' e).passes.used d r k z)).replay l x) later f

  -- ---- the promises

  pub again_later : AgainLater L
  again_later p root m z cs n =
      let a = (cut_numbers L p root m).answered z in
      let e : cut_reply L p root m ≡ (Ok a.0, (cut_reply L p root m).1) = λ j. (a.1 j, (cut_reply L p root m).1) in
      let later = after_calls L cs (cut_reply L p root m).1 in
      same_sides p root m a.0 (cut_reply L p root m).1 e later
      (calls_follow cs (cut_reply L p root m).1 (memory_sound L R p root m a.0 (cut_reply L p root m).1 e) n)
      ∙ (λ j. (sym a.1 j, later))

  -- what is answered with three values
  three : (r : Reply ElementAnswer) (i o x : Option ℕ) → cut_values r ≡ i ∷ o ∷ x ∷ []
      → (a : Option ElementId) × (b : Option ElementId) × (c : Option ElementId) × (r ≡ Ok (answer_with (NonFlush a b c) (cut_warning r))) × (element_value a ≡ i) × (element_value b ≡ o) × (element_value c ≡ x)
  three (Err n) i o x e = absurd (let z : ◌≡◌ {A = ℕ} 0 1 = cc in suc-ne-zero 0 (sym z))
  three (Ok r) i o x e = go r.output refl e
    where
      go : (y : ElementCutOutput) → r.output ≡ y → output_values y ≡ i ∷ o ∷ x ∷ []
          → (a : Option ElementId) × (b : Option ElementId) × (c : Option ElementId) × (◌≡◌ {A = Reply ElementAnswer} (Ok r) (Ok (answer_with (NonFlush a b c) r.warning)))
          × (element_value a ≡ i) × (element_value b ≡ o) × (element_value c ≡ x)
      go Flush p e = absurd (let z : ◌≡◌ {A = ℕ} 0 1 = cc in suc-ne-zero 0 (sym z))
      go (NonFlush a b c) p e = (a, b, c, ap (λ (y : ElementCutOutput). Ok (answer_with y r.warning)) p, cc, cc, cc)

  pub one_side_later : OneSideLater L
  one_side_later h root m i o x f k v cs n =
      let slice = cut_reply L (cut_by h Keep Keep) root m in
      let w = three slice.0 i o x v in
      let a : ElementAnswer = record { output = NonFlush w.0 w.1 w.2; warning = cut_warning slice.0 } in
      let m' = slice.1 in
      let later = after_calls L cs m' in
      let e : cut_reply L (cut_by h Keep Keep) root m ≡ (Ok a, m') = λ j. (w.3 j, m') in
      let s = one_more_lem (rank (decode L m) root) k in
      let z = not_infinite h.distance f in
      let after' = calls_follow cs m' (memory_sound L R (cut_by h Keep Keep) root m a m' e) n in (
        gives (fewer_sides (cut_by h Keep Keep) root m a m' e (record { inside = false; outside = true }) s.0 s.1 z later after') (ap₂ (λ (p q : Option ℕ). p ∷ None ∷ q ∷ []) w.4 w.6),
        gives (fewer_sides (cut_by h Keep Keep) root m a m' e (record { inside = true; outside = false }) s.0 s.1 z later after') (ap₂ (λ (p q : Option ℕ). None ∷ p ∷ q ∷ []) w.5 w.6),
      )

  pub flush_later : FlushLater L
  flush_later h root m f k d v i o cs n =
      let p = cut_by h Keep Keep in
      let a = (cut_numbers L p root m).answered d in
      let m' = (cut_reply L p root m).1 in
      let later = after_calls L cs m' in
      let b : ElementAnswer = record { output = Flush; warning = a.0.warning } in
      let r = a.1 ∙ ap (λ (x : ElementCutOutput). Ok (answer_with x a.0.warning)) (flush a.0.output (sym (ap cut_values a.1) ∙ v)) in
      let e : cut_reply L p root m ≡ (Ok b, m') = λ j. (r j, m') in
      let s = one_more_lem (rank (decode L m) root) k in
      let z = not_infinite h.distance f in
      subst (λ (x : PolytopeFate). cut_reply L (cut_by h x o) root later ≡ ((cut_reply L p root m).0, later)) (kept i)
      (subst (λ (y : PolytopeFate). cut_reply L (cut_by h (less_fate (not (is_kept i)) Keep) y) root later ≡ ((cut_reply L p root m).0, later)) (kept o)
      (fewer_sides p root m b m' e (record { inside = not (is_kept i); outside = not (is_kept o) }) s.0 s.1 z later
      (calls_follow cs m' (memory_sound L R p root m b m' e) n) ∙ (λ j. (sym r j, later))))
    where
      kept : (x : PolytopeFate) → less_fate (not (is_kept x)) Keep ≡ x
      kept Keep = refl
      kept Remove = refl

      flush : (b : ElementCutOutput) → output_values b ≡ [] → b ≡ Flush
      flush Flush q = refl
      flush (NonFlush p q x) u = absurd (let z : ◌≡◌ {A = ℕ} 0 1 = cc in suc-ne-zero 0 (sym z))

  -- ---- an infinite distance

  pub infinite_distance : InfiniteDistance L
  unfolding cut
  infinite_distance p root m g = (λ q. gives (at false q) refl, λ q. gives (at true q) refl)
    where
      given_back_lem : Bool → ElementAnswer
      given_back_lem s = record { output = corner_output root (if s then Outside else Inside); warning = false }

      at : (s : Bool) → p.divider.distance ≡ inf s → cut_reply L p root m ≡ (Ok (given_back_lem s), m)
      at false q = passed L p root m g ∙ ap (λ (d : Float). written L m (cut_at_distance L (params_of (decode L m).dimension p) d root (decode L m))) q
          ∙ ap (λ (z : Memory). (Ok (given_back_lem false), z)) (memory_back L m g.sound)
      at true q = passed L p root m g ∙ ap (λ (d : Float). written L m (cut_at_distance L (params_of (decode L m).dimension p) d root (decode L m))) q
          ∙ ap (λ (z : Memory). (Ok (given_back_lem true), z)) (memory_back L m g.sound)

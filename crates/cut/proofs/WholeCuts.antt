-- The whole cut: the hyperplane's step, then the root's; a refusal of either gives back the memory, since all that was done is to append.
use Prim.Native.Nat.{ℕ, ◌*◌, ◌<◌}
use mathlib.Core.Bool.{Bool, false}
use mathlib.Core.Path.{◌≡◌, sym, ap, ap₂, ◌∙◌, subst}
use mathlib.Core.List.{List}
use native.Mathlib.Nat.{le_trans, le_of_eq}
use native.Mathlib.Omega.{arith}
use lib.ListN.{length, get_or, replicate}
use lib.Ieee.{Float}
use Rattle.rules.specs.Limits.{desk}
use Rattle.rules.specs.Memory.{Memory}
use Rattle.rules.specs.Table.{Element, Plane, Table, element_count, rank}
use Rattle.rules.specs.Held as held
use Rattle.rules.specs.Held.{Extends, Holds, Came, memory_of}
use Rattle.rules.specs.Cut.{Outcome, done, next, add_plane, cut_element, cut_finite}
use Rattle.rules.specs.Replies.{divider_of, params_of, written}
use Rattle.rules.specs.declared.Hyperplane.{Hyperplane}
use Rattle.rules.specs.declared.HyperplaneId.{HyperplaneId}
use Rattle.rules.specs.declared.ElementCutOutput.{ElementCutOutput}
use Rattle.rules.specs.declared.CutParams.{CutParams}
use Rattle.rules.proofs.Extends.{extends_trans, count_more, begins_length}
use Rattle.rules.proofs.Good.{Good, sound_good, good_sound}
use Rattle.rules.proofs.Laws.{le_test, not_both}
use Rattle.rules.proofs.Missed.{Unmoved, plane_unmoved}
use Rattle.rules.proofs.Stays.{Stays, Kept, plane_stays}
use Rattle.space.specs.Shared.{HyperplaneAdded, hyperplane_at}
use Rattle.space.specs.Ready.{ElementReady, HyperplaneReady, RestoreReady}
use Rattle.space.specs.Restored.{Restored}
use Rattle.space.proofs.Indexing.{index_count}
use Rattle.space.proofs.Lent.{holds_memory}
use Rattle.space.proofs.Room.{rank_word}
use Rattle.space.proofs.RowAdds.{readable_desk}
use Rattle.space.proofs.Slices.{slices}
use Rattle.gathered.specs.Sets.{empty_room, warning_in}
use Rattle.gathered.specs.declared.sets.Room.{Room}
use Rattle.gathered.specs.Cutting.{Fit, cut_of}
use Rattle.rules.specs.declared.Cutter.{Cutter}
use Rattle.cut.specs.Known.{output_at}
use Rattle.cut.specs.Rounds.{AskReady, ElementAsked, ElementEnded, went, stopped}
use Rattle.cut.specs.Whole.{CutFit, CutReady, CutTried, WholeCut}
use Rattle.cut.proofs.StaysKnown.{knows_nothing}
use Rattle.rules.specs.Refusals.{Reply}
use Rattle.rules.specs.declared.ElementAnswer.{ElementAnswer}
use Rattle.std.specs.Prelude.{Err, Ok}
use Rattle.rules.specs.Replies.{answer_with}
use Rattle.rules.specs.declared.Refusal.{Refusal}

-- ---- the hyperplane, then the root

-- a hyperplane adds no element
plane_count_lem : (g : Plane) (t u : Table) (v : ℕ) → add_plane desk g t ≡ done v u → element_count u ≡ element_count t
plane_count_lem g t u v e = ap (λ (es : List Element). length es) (subst (Unmoved t) e (plane_unmoved desk g t)).0

-- the table once the hyperplane is there
record Named (ps : List Float) (es : List ℕ) (h : Hyperplane) (cs₁ : List ℕ) (hs₁ : List Float) (v : ℕ) (t : Table) : Type 0 where
  pub table : Table
  pub ended : add_plane desk (divider_of t.dimension h) t ≡ done v table
  pub extends : Extends t table
  pub good : Good desk table
  pub numbered : v < length table.planes
  pub holds : Holds desk cs₁ ps hs₁ es table

abbrev Added : List Float → List ℕ → Hyperplane → Reply HyperplaneId → List ℕ → List Float → Table → Type 0
Added ps es h x cs₁ hs₁ t = Came hyperplane_at Err (Holds desk cs₁ ps hs₁ es) t (add_plane desk (divider_of t.dimension h) t) x

abbrev cutter : CutParams → HyperplaneId → Cutter
cutter p v = record { params = p; number = v }

module _ {cs : List ℕ} {ps hs : List Float} {es : List ℕ} {h : Hyperplane} {root : ℕ} where
  pub counts_ready : {ix : List ℕ} → CutReady cs ps hs es ix h root → length cs ≡ 4
  counts_ready R = (slices R.fit.holds).counts

  pub plane_asked : {ix : List ℕ} → CutReady cs ps hs es ix h root → HyperplaneReady cs hs
  plane_asked R =
      let s = slices R.fit.holds in
      let g = sound_good desk R.table R.fit.sound in
      record { counts = s.counts; planes = s.planes; dimension = le_trans (le_of_eq s.dimension) (le_test R.table.dimension 4 g.high); room = s.planes_fit }

  pub root_low : {ix : List ℕ} → CutReady cs ps hs es ix h root → root < 512
  root_low R = le_trans R.fit.used R.fit.holds.fits.element_room

  pub rank_asked : {ix : List ℕ} → CutReady cs ps hs es ix h root → ElementReady es root
  rank_asked R = record { elements = (slices R.fit.holds).elements; room = root_low R }

module _ (p : CutParams) {cs : List ℕ} {ps hs : List Float} {es : List ℕ} {root : ℕ} where
  module _ {x : Reply HyperplaneId} {cs₁ : List ℕ} {hs₁ : List Float} (P : HyperplaneAdded cs hs p.divider x cs₁ hs₁) where
    added : {t : Table} → CutFit cs ps hs es p.divider root t → Added ps es p.divider x cs₁ hs₁ t
    added {t} F = P.of ps es t (divider_of t.dimension p.divider) F.holds F.sound F.row F.plane

    -- no room for the hyperplane
    pub plane_refused : {ix : List ℕ} (n : Refusal) → x ≡ Err n → CutTried cs ps hs es p root (Err n) cs₁ ps hs₁ es ix
    plane_refused n q = record { of = λ t F. go t (added F); indexed = λ a w. let z : ◌≡◌ {A = ℕ} 0 1 = cc in absurd (omega arith) }
      where
        go : (t : Table) → Added ps es p.divider x cs₁ hs₁ t → Came Ok Err (Holds desk cs₁ ps hs₁ es) t (cut_finite desk (params_of t.dimension p) root t) (Err n)
        go t (held.went j u m w H) = let z : ◌≡◌ {A = ℕ} 0 1 = cc in absurd (omega arith)
        go t (held.stopped j u m w y H) =
            let z : n ≡ j = cc in
            held.stopped j u
            (ap (λ (q' : Outcome ℕ). next q' (λ v l. cut_element desk (record { params = params_of t.dimension p; number = v }) (rank l root) root l)) m)
            (ap Err z) y H

    -- the hyperplane's number is known
    module _ (v : HyperplaneId) (q : x ≡ Ok v) where
      named : {t : Table} → CutFit cs ps hs es p.divider root t → Named ps es p.divider cs₁ hs₁ v.0 t
      named {t} F = go (added F)
        where
          go : Added ps es p.divider x cs₁ hs₁ t → Named ps es p.divider cs₁ hs₁ v.0 t
          go (held.stopped j u m w y H) = let z : ◌≡◌ {A = ℕ} 0 1 = cc in absurd (omega arith)
          go (held.went j u m w H) =
              let same : ◌≡◌ {A = HyperplaneId} (record { 0 = j }) v = cc in
              let z : j ≡ v.0 = ap (λ (n : HyperplaneId). n.0) same in
              let m' : add_plane desk (divider_of t.dimension p.divider) t ≡ done v.0 u = m ∙ ap (λ (n : ℕ). done n u) z in
              let K : Kept desk (λ (n : ℕ) (s : Table). n < length s.planes) t v.0 u =
              subst (Stays desk (λ (n : ℕ) (s : Table). n < length s.planes) t) m' (plane_stays desk t (sound_good desk t F.sound) (divider_of t.dimension p.divider) F.plane) in
              record { table = u; ended = m'; extends = K.extends; good = K.good; numbered = K.value; holds = H }

      module _ (r : ℕ) (read : r ≡ get_or es (root * 36) 0) {s₁ : Room} (blank : s₁ ≡ empty_room) where
        root_fit : {t : Table} → (F : CutFit cs ps hs es p.divider root t) → Fit cs₁ ps hs₁ es r root (cutter p v) (named F).table
        root_fit F =
            let A = named F in
            let used : root < element_count A.table = le_trans F.used (count_more A.extends) in
            record {
              holds = A.holds;
              sound = good_sound desk A.table A.good;
              plane = A.numbered;
              used = used;
              ranked = sym (read ∙ ap (λ (l : List ℕ). get_or l (root * 36) 0) A.holds.elements ∙ rank_word desk A.table A.holds.fits root used);
            }

        -- the index is still of the rows
        count_same : {ix : List ℕ} → CutReady cs ps hs es ix p.divider root → get_or cs 1 0 ≡ get_or cs₁ 1 0
        count_same R =
            let A = named R.fit in
            (slices R.fit.holds).element_count ∙ sym (plane_count_lem (divider_of R.table.dimension p.divider) R.table A.table v.0 A.ended)
            ∙ sym (slices A.holds).element_count

        -- nothing is known yet
        pub root_ready : {ix : List ℕ} → CutReady cs ps hs es ix p.divider root → AskReady cs₁ ps es ix (replicate 512 0) s₁ r root (cutter p v)
        root_ready R = record {
          planes = hs₁;
          table = (named R.fit).table;
          fit = root_fit R.fit;
          knows = knows_nothing (cutter p v) (warning_in s₁) (named R.fit).table;
          indexed = index_count _ _ _ _ (count_same R) R.indexed;
        }

        -- how the cut of the root ended is the reply
        module _ {y : Reply (Unit {0})} {cs₂ : List ℕ} {ps₂ : List Float} {es₂ ix₂ ms₂ : List ℕ} {s₂ : Room} (C : ElementAsked cs₁ ps es (replicate 512 0) s₁ r root (cutter p v) y cs₂ ps₂ es₂ ix₂ ms₂ s₂) where
          root_ended : {t : Table} (F : CutFit cs ps hs es p.divider root t) → ElementEnded cs₂ ps₂ hs₁ es₂ ms₂ (warning_in s₂) r root (cutter p v) y false (named F).table
          root_ended F =
              subst (λ (b : Bool). ElementEnded cs₂ ps₂ hs₁ es₂ ms₂ (warning_in s₂) r root (cutter p v) y b (named F).table) (ap warning_in blank)
              (C.of hs₁ (named F).table (root_fit F) (knows_nothing (cutter p v) (warning_in s₁) (named F).table))

          steps : {t : Table} (F : CutFit cs ps hs es p.divider root t)
              → cut_finite desk (params_of t.dimension p) root t ≡ cut_element desk (cut_of (named F).table.dimension (cutter p v)) r root (named F).table
          steps {t} F =
              ap (λ (q' : Outcome ℕ). next q' (λ n l. cut_element desk (record { params = params_of t.dimension p; number = n }) (rank l root) root l)) (named F).ended
              ∙ ap₂ (λ (d n : ℕ). cut_element desk (cut_of d (cutter p v)) n root (named F).table) (sym (named F).extends.dimension) (root_fit F).ranked

          pub root_refused : (x : Refusal) → y ≡ Err x → CutTried cs ps hs es p root (Err x) cs₂ ps₂ hs₁ es₂ ix₂
          root_refused x ended = record { of = λ t F. go t F (root_ended F); indexed = λ a w. C.indexed }
            where
              go : (t : Table) (F : CutFit cs ps hs es p.divider root t) → ElementEnded cs₂ ps₂ hs₁ es₂ ms₂ (warning_in s₂) r root (cutter p v) y false (named F).table
                  → Came Ok Err (Holds desk cs₂ ps₂ hs₁ es₂) t (cut_finite desk (params_of t.dimension p) root t) (Err x)
              go t F (went a u m d w H) = not_both (sym ended ∙ d)
              go t F (stopped j u m d z H) = let w : ◌≡◌ {A = Reply (Unit {0})} (Err x) (Err j) = sym ended ∙ d in let q : x ≡ j = cc in held.stopped j u (steps F ∙ m) (ap Err q) (extends_trans (named F).extends z) H

          pub root_answered : y ≡ Ok tt → (o : ElementCutOutput) (w : Bool) → o ≡ output_at ms₂ root → w ≡ warning_in s₂ → CutTried cs ps hs es p root (Ok (answer_with o w)) cs₂ ps₂ hs₁ es₂ ix₂
          root_answered ended o w told warned = record { of = λ t F. go t F (root_ended F); indexed = λ a q. C.indexed }
            where
              go : (t : Table) (F : CutFit cs ps hs es p.divider root t) → ElementEnded cs₂ ps₂ hs₁ es₂ ms₂ (warning_in s₂) r root (cutter p v) y false (named F).table
                  → Came Ok Err (Holds desk cs₂ ps₂ hs₁ es₂) t (cut_finite desk (params_of t.dimension p) root t) (Ok (answer_with o w))
              go t F (stopped j u m d z H) = not_both (sym d ∙ ended)
              go t F (went a u m d n H) = held.went a u (steps F ∙ m) (λ l. Ok (answer_with ((told ∙ H.output) l) ((warned ∙ n) l))) H.holds

-- ---- the counts, lent in an array of their own

pub counts_lent : {cs cs₁ us : List ℕ} {hs hs₁ : List Float} {h : Hyperplane} {x : Reply HyperplaneId} → us ≡ cs₁ → HyperplaneAdded cs hs h x cs₁ hs₁ → HyperplaneAdded cs hs h x us hs₁
counts_lent {cs} {hs = hs} {hs₁} {h} {x} e = subst (λ (l : List ℕ). HyperplaneAdded cs hs h x l hs₁) (sym e)

pub counts_back : {cs cs' us : List ℕ} {ps hs ps' hs' : List Float} {es es' ix' : List ℕ} {p : CutParams} {root : ℕ} {r : Reply ElementAnswer}
    → cs' ≡ us → CutTried cs ps hs es p root r us ps' hs' es' ix' → CutTried cs ps hs es p root r cs' ps' hs' es' ix'
counts_back {cs} {ps = ps} {hs} {ps'} {hs'} {es} {es'} {ix'} {p} {root} {r} e = subst (λ (l : List ℕ). CutTried cs ps hs es p root r l ps' hs' es' ix') (sym e)

-- ---- the memory given back

-- what restoring asks
abbrev RestoreAsks : List ℕ → List ℕ → List Float → List Float → List ℕ → Type 0
RestoreAsks cs₀ cs ps hs es = RestoreReady cs ps hs es (get_or cs₀ 1 0) (get_or cs₀ 2 0) (get_or cs₀ 3 0)

restore_asks : {cs₀ : List ℕ} {ps₀ hs₀ : List Float} {es₀ : List ℕ} {t u : Table} {cs : List ℕ} {ps hs : List Float} {es : List ℕ}
    → Holds desk cs₀ ps₀ hs₀ es₀ t → Extends t u → Holds desk cs ps hs es u → RestoreAsks cs₀ cs ps hs es
restore_asks {t = t} {u} H₀ X H =
    let a = slices H₀ in
    let b = slices H in
    record {
      counts = b.counts;
      points = b.points;
      planes = b.planes;
      elements = b.elements;
      from_element = le_trans (le_of_eq a.element_count) (le_trans (count_more X) (le_of_eq (sym b.element_count)));
      from_vertex = le_trans (le_of_eq a.point_count) (le_trans (begins_length t.points u.points X.points) (le_of_eq (sym b.point_count)));
      from_hyperplane = le_trans (le_of_eq a.plane_count) (le_trans (begins_length t.planes u.planes X.planes) (le_of_eq (sym b.plane_count)));
      room = b.elements_fit;
      vertex_room = b.points_fit;
      plane_room = b.planes_fit;
    }

module _ {cs : List ℕ} {ps hs : List Float} {es : List ℕ} {p : CutParams} {root : ℕ} {y : Reply ElementAnswer} {cs₁ : List ℕ} {ps₁ hs₁ : List Float} {es₁ ix₁ : List ℕ}
    (T : CutTried cs ps hs es p root y cs₁ ps₁ hs₁ es₁ ix₁) where
  abbrev Tried : Table → Type 0
  Tried t = Came Ok Err (Holds desk cs₁ ps₁ hs₁ es₁) t (cut_finite desk (params_of t.dimension p) root t) y

  pub whole_done : (a : ElementAnswer) → y ≡ Ok a → WholeCut cs ps hs es p root (Ok a) cs₁ ps₁ hs₁ es₁ ix₁
  whole_done a w = record { of = λ t F. go t (T.of t F); indexed = λ b q. T.indexed b (w ∙ q) }
    where
      go : (t : Table) → Tried t
          → ◌≡◌ {A = Reply ElementAnswer × Memory} (Ok a, memory_of cs₁ ps₁ hs₁ es₁) (written desk (memory_of cs ps hs es) (cut_finite desk (params_of t.dimension p) root t))
      go t (held.stopped j u m w' z H) = let e : ◌≡◌ {A = ℕ} 0 1 = cc in absurd (omega arith)
      go t (held.went b u m w' H) = (λ l. ((sym w ∙ w') l, holds_memory desk readable_desk H l)) ∙ sym (ap (written desk (memory_of cs ps hs es)) m)

  module _ (n : Refusal) (w : y ≡ Err n) where
    pub whole_asks : {ix : List ℕ} → CutReady cs ps hs es ix p.divider root → RestoreAsks cs cs₁ ps₁ hs₁ es₁
    whole_asks R = go (T.of R.table R.fit)
      where
        go : Tried R.table → RestoreAsks cs cs₁ ps₁ hs₁ es₁
        go (held.went b u m w' H) = let e : ◌≡◌ {A = ℕ} 0 1 = cc in absurd (omega arith)
        go (held.stopped j u m w' z H) = restore_asks R.fit.holds z H

    pub whole_refused : {cs' : List ℕ} {ps' hs' : List Float} {es' ix' : List ℕ} → Restored cs₁ ps₁ hs₁ es₁ (get_or cs 1 0) (get_or cs 2 0) (get_or cs 3 0) cs' ps' hs' es'
        → WholeCut cs ps hs es p root (Err n) cs' ps' hs' es' ix'
    whole_refused {cs'} {ps'} {hs'} {es'} R = record { of = λ t F. go t F (T.of t F); indexed = λ a q. let z : ◌≡◌ {A = ℕ} 0 1 = cc in absurd (omega arith) }
      where
        go : (t : Table) → CutFit cs ps hs es p.divider root t → Tried t
            → ◌≡◌ {A = Reply ElementAnswer × Memory} (Err n, memory_of cs' ps' hs' es') (written desk (memory_of cs ps hs es) (cut_finite desk (params_of t.dimension p) root t))
        go t F (held.went b u m w' H) = let e : ◌≡◌ {A = ℕ} 0 1 = cc in absurd (omega arith)
        go t F (held.stopped j u m w' z H) =
            let e : n ≡ j = cc in
            let s = slices F.holds in
            let back : ◌≡◌ {A = Memory} (memory_of cs' ps' hs' es') (memory_of cs ps hs es) =
            holds_memory desk readable_desk (R.of t u z H s.element_count s.point_count s.plane_count) ∙ sym (holds_memory desk readable_desk F.holds) in
            (λ l. (Err (e l), back l)) ∙ sym (ap (written desk (memory_of cs ps hs es)) m)

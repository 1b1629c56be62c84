-- Rule 4: the two numbers of an edge's row are its ends, and each call is at a table that goes on from the one before.
use Prim.Native.Nat.{ℕ, ◌+◌, ◌*◌, ◌<◌}
use mathlib.Core.Bool.{Bool, ◌||◌}
use mathlib.Core.Path.{◌≡◌, refl, sym, ap, ap₂, ◌∙◌, subst}
use mathlib.Core.List.{List, [], ◌∷◌}
use native.Mathlib.Nat.{le_trans}
use native.Mathlib.Omega.{arith}
use lib.Dec.{lit≤}
use lib.ListN.{length, get_or, take}
use lib.Ieee.{Float}
use Rattle.rules.specs.Limits.{desk}
use Rattle.rules.specs.Lists.{pad}
use Rattle.rules.specs.Floats.{plus_zero, close_call, side_of, side_test, crossing_of, edge_test, crossing_point}
use Rattle.rules.specs.Table.{Element, Table, rank_of, rank, boundary, element, point_at}
use Rattle.rules.specs.Held.{Extends, Holds, Came, went, stopped, Sets, Ranked}
use Rattle.rules.specs.Cut.{Outcome, done, next, give, Cutting, Gathered, corner_answer, nothing_yet, gathering, add_vertex, cross_edge, cut_ends, cut_edge, cut_element, rule6}
use Rattle.rules.specs.declared.EdgeTest.{EdgeTest}
use Rattle.rules.specs.declared.ElementId.{ElementId}
use Rattle.rules.specs.declared.ElementAnswer.{ElementAnswer}
use Rattle.rules.proofs.Extends.{extends_trans, begins_length, count_more, element_same}
use Rattle.rules.proofs.Good.{Good, sound_good, good_sound}
use Rattle.rules.proofs.Ranked.{corner_answer_lem, sets_gathering, sets_none}
use Rattle.rules.proofs.Stays.{Kept, Stays}
use Rattle.rules.proofs.StaysCut.{Facts, facts, ranked_get, crossing_sound, cross_stays}
use Rattle.rules.proofs.Warned.{Done, Warns, gathering_warns, after_gathered, crossed_warns}
use Rattle.hypermath.specs.Answers.{distance_to}
use Rattle.space.specs.Found.{placed_at}
use Rattle.space.specs.Chains.{Indexed}
use Rattle.space.specs.Ready.{BoundaryAtReady, VertexReady}
use Rattle.space.specs.Shared.{VertexAdded}
use Rattle.space.proofs.Room.{list_of, list_bound, list_word_lem}
use Rattle.space.proofs.VertexMemo.{dimension_is}
use Rattle.space.proofs.Slices.{slices}
use Rattle.gathered.specs.Sets.{warning_in, Noted}
use Rattle.gathered.specs.declared.sets.Room.{Room}
use Rattle.gathered.specs.Cutting.{Fit, cut_of, answered_by, Rule6Fit, Rule6Ready, Rule6Done}
use Rattle.rules.specs.declared.Cutter.{Cutter}
use Rattle.gathered.proofs.Steps.{told_by}
use Rattle.ends.specs.Ends.{PointAsked, EndsReady, EndsRead, EndsAsked, ends_of, EndsGathered, crossed_of, after_ends, CrossedFit, CrossedReady, CrossedAsked, CrossedLeft}
use Rattle.ends.specs.declared.EdgeEnds.{EdgeEnds}
use Rattle.ends.specs.Elements.{Ready, LowAsked, LowLeft}
use Rattle.ends.proofs.EndsGathered.{sized_more, Crossed}
use Rattle.ends.proofs.Vertices as vertex
use Rattle.std.specs.Prelude.{Option, Some, None, Ok, Err}
use Rattle.rules.specs.Refusals.{Reply}
use Rattle.rules.specs.declared.ElementCutOutput.{ElementCutOutput}
use Rattle.rules.specs.declared.Refusal.{Refusal}

-- ---- the crossing is matched or appended

-- an element that may be cut, in a sound table that goes on from its own
pub fit_later : {cs : List ℕ} {ps hs : List Float} {es : List ℕ} {r e : ℕ} {k : Cutter} {t u : Table} {cs' : List ℕ} {ps' hs' : List Float} {es' : List ℕ} → Fit cs ps hs es r e k t
    → Extends t u → Good desk u → Holds desk cs' ps' hs' es' u → Fit cs' ps' hs' es' r e k u
fit_later {e = e} {t = t} {u} F x g H = record {
  holds = H;
  sound = good_sound desk u g;
  plane = le_trans F.plane (begins_length t.planes u.planes x.planes);
  used = le_trans F.used (count_more x);
  ranked = ap rank_of (element_same t u e x F.used) ∙ F.ranked;
}

pub vertex_asked : {cs : List ℕ} {ps : List Float} {es ix : List ℕ} {e : ℕ} {k : Cutter} {s : Room} {x : List Float} → CrossedAsked cs ps es ix e k s x → VertexReady cs ps es ix
vertex_asked A =
    let H = A.ready.fit.fit.holds in
    record {
      counts = (slices H).counts;
      points = (slices H).points;
      elements = (slices H).elements;
      room = (slices H).elements_fit;
      vertex_room = (slices H).points_fit;
      index = A.indexed;
    }

abbrev number_of : Reply ElementId → ℕ
number_of (Err n) = 0
number_of (Ok i) = i.0

module _ {cs : List ℕ} {ps : List Float} {es : List ℕ} {e : ℕ} {k : Cutter} {s : Room} {x : List Float} {w : Reply ElementId} {cs' : List ℕ} {ps' : List Float} {es' : List ℕ}
    (N : VertexAdded cs ps es x w cs' ps' es') where
  module _ {hs : List Float} {t : Table} {p q : List Float} {f : Float} {g : Gathered} (X : CrossedFit cs ps hs es e k s x t p q f g) where
    added : Came placed_at Err (Holds desk cs' ps' hs es') t (add_vertex desk (crossing_point f p q) t) w
    added = N.of hs t (crossing_point f p q) X.fit.holds X.fit.sound X.point (crossing_sound f t.dimension p q X.first X.second)

    crossing_kept : Stays desk (Sets 0) t (cross_edge desk p q (Some f) g t)
    crossing_kept = cross_stays desk (cut_of t.dimension k) p q (Some f) g t (sound_good desk t X.fit.sound) X.first X.second X.sets

    -- the edge, once its crossing is vertex element i
    record Left (i : ℕ) : Type 0 where
      pub table : Table
      pub ended : cross_edge desk p q (Some f) g t ≡ done (crossed_of i g) table
      pub kept : Kept desk (Sets 0) t (crossed_of i g) table
      pub holds : Holds desk cs' ps' hs es' table

    left : (i : ℕ) → w ≡ placed_at i → Left i
    left i h = go added
      where
        go : Came placed_at Err (Holds desk cs' ps' hs es') t (add_vertex desk (crossing_point f p q) t) w → Left i
        go (stopped j u o l n H) = let r : ◌≡◌ {A = ℕ} 0 1 = cc in absurd (omega arith)
        go (went j u o l H) =
            let r : j ≡ i = sym (ap number_of l) ∙ ap number_of h in
            let z : cross_edge desk p q (Some f) g t ≡ done (crossed_of i g) u = ap (λ (y : Outcome ℕ). next y (λ v. give (crossed_of v g))) (o ∙ ap (λ (n : ℕ). done n u) r) in
            record { table = u; ended = z; kept = subst (Stays desk (Sets 0) t) z crossing_kept; holds = H }

    abbrev whole : Outcome ElementAnswer
    whole = after_ends (cut_of t.dimension k) (element t e) (cross_edge desk p q (Some f) g t)

    module _ (i : ℕ) (Q : Left i) where
      -- it is in use, so its number is within the room
      left_low : i < 512
      left_low = le_trans Q.kept.value.flush.0.0 Q.holds.fits.element_room

      -- rule 6 may go on from its table
      left_ready : {s' : Room} → Crossed s i s' → Rule6Fit cs' ps' hs es' 1 e k s' Q.table (crossed_of i g)
      left_ready C = record {
        fit = fit_later X.fit Q.kept.extends Q.kept.good Q.holds;
        some = lit≤ tt;
        gathers = C.of g X.gathers;
        sized = sized_more 2 32 (lit≤ tt) (C.sized 2 (lit≤ tt) X.sized);
        sets = Q.kept.value;
      }

      abbrev rest : Outcome ElementAnswer
      rest = rule6 desk (cut_of Q.table.dimension k) (element Q.table e) (crossed_of i g) (i ∷ []) Q.table

      same : whole ≡ rest
      same =
          ap (after_ends (cut_of t.dimension k) (element t e)) Q.ended
          ∙ ap₂ (λ (n : ℕ) (z : Element). rule6 desk (cut_of n k) z (crossed_of i g) (i ∷ []) Q.table)
          (sym Q.kept.extends.dimension) (sym (element_same t Q.table e Q.kept.extends X.fit.used))

      after_left : {y : Reply ElementCutOutput} {cs'' es'' : List ℕ} → Came answered_by Err (Holds desk cs'' ps' hs es'') Q.table rest y
          → Came answered_by Err (Holds desk cs'' ps' hs es'') t whole y
      after_left (went a u o l H) = went a u (same ∙ o) l H
      after_left (stopped n u o l z H) = stopped n u (same ∙ o) l (extends_trans Q.kept.extends z) H

    not_added : (n : Refusal) → w ≡ Err n → Came placed_at Err (Holds desk cs' ps' hs es') t (add_vertex desk (crossing_point f p q) t) w
        → Came answered_by Err (Holds desk cs' ps' hs es') t whole (Err n)
    not_added n h (went j u o l H) = let r : ◌≡◌ {A = ℕ} 0 1 = cc in absurd (omega arith)
    not_added n h (stopped j u o l z H) =
        let r : n ≡ j = cc in
        stopped j u (ap (λ (y : Outcome ℕ). after_ends (cut_of t.dimension k) (element t e) (next y (λ v. give (crossed_of v g)))) o) (ap Err r) z H

  pub crossed_refused : {ix' : List ℕ} → CrossedReady cs ps es e k s x → Indexed es' (get_or cs' 1 0) ix' → (n : Refusal) → w ≡ Err n → CrossedLeft cs ps es e k s x (Err n) cs' ps' es' ix' s
  crossed_refused R indexed n h = record {
    cut = record { of = λ hs t p q f g X. not_added X n h (added X) };
    indexed = indexed;
    used = record { warning = refl };
  }

  module _ (v : ElementId) (h : w ≡ Ok v) where
    -- the number fits a word
    pub crossed_low : CrossedReady cs ps es e k s x → v.0 < 512
    crossed_low R = left_low R.fit v.0 (left R.fit v.0 h)

    module _ {s' : Room} (C : Crossed s v.0 s') where
      pub crossed_ready : {ix' : List ℕ} → CrossedReady cs ps es e k s x → Indexed es' (get_or cs' 1 0) ix' → Rule6Ready cs' es' ix' 1 e k s'
      crossed_ready R indexed =
          let Q = left R.fit v.0 h in
          record { points = ps'; planes = R.planes; table = Q.table; gathered = crossed_of v.0 R.gathered; fit = left_ready R.fit v.0 Q C; indexed = indexed }

      pub crossed_done : {y : Reply ElementCutOutput} {cs'' es'' ix'' : List ℕ} {s'' : Room} → Rule6Done cs' es' 1 e k s' y cs'' es'' ix'' s'' → CrossedLeft cs ps es e k s x y cs'' ps' es'' ix'' s''
      crossed_done D = record {
        cut = record {
          of = λ hs t p q f g X. (let Q = left X v.0 h in after_left X v.0 Q (D.of ps' hs Q.table (crossed_of v.0 g) (left_ready X v.0 Q C)));
        };
        indexed = D.indexed;
        used = record { warning = D.used.warning ∙ C.warning };
      }

-- ---- what is read of an edge

module _ {cs : List ℕ} {ps hs : List Float} {es : List ℕ} {e : ℕ} {k : Cutter} {t : Table} (F : Fit cs ps hs es 1 e k t) where
  own : Facts t 0 (element t e)
  own = facts desk t e 0 (sound_good desk t F.sound) F.used F.ranked

  module _ (i x : ℕ) (l : i < 2) (h : x ≡ get_or es (e * 36 + (4 + i)) 0) where
    there : i < length (boundary t e)
    there = le_trans l own.two

    end_is : x ≡ get_or (boundary t e) i 0
    end_is =
        let b : list_of (element t e) ≡ boundary t e = list_bound (element t e) 0 F.ranked in
        h ∙ ap (λ (m : List ℕ). get_or m (e * 36 + (4 + i)) 0) F.holds.elements
        ∙ list_word_lem desk t F.holds.fits e F.used i (subst (λ (m : List ℕ). i < length m) (sym b) there) (let z : 4 + i < 36 = omega (arith, l) in z)
        ∙ ap (λ (m : List ℕ). get_or m i 0) b

    end_ranked : Ranked t 1 x
    end_ranked = subst (Ranked t 1) (sym end_is) (ranked_get desk (cut_of t.dimension k) t 1 (boundary t e) i there own.bounds)

    end_fit : Fit cs ps hs es 0 x k t
    end_fit = record {
      holds = F.holds;
      sound = F.sound;
      plane = F.plane;
      used = end_ranked.0;
      ranked = (let q = end_ranked.1 in let z : rank t x ≡ 0 = omega (arith, q) in z);
    }

pub ends_ready : {cs : List ℕ} {ps : List Float} {es : List ℕ} {e : ℕ} {k : Cutter} → Ready cs ps es 1 e k → EndsReady ps es e
ends_ready {cs} {k = k} R = record { counts = cs; planes = R.planes; cutter = k; table = R.table; fit = R.fit }

module _ {ps : List Float} {es : List ℕ} {e : ℕ} (R : EndsReady ps es e) where
  pub number_asked : (i : ℕ) → i < 2 → BoundaryAtReady es e i
  number_asked i l = record {
    elements = (slices R.fit.holds).elements;
    room = le_trans R.fit.used R.fit.holds.fits.element_room;
    place = (let z : i < desk.boundary = omega (arith, l) in z);
  }

  pub end_asked : (i x : ℕ) → i < 2 → x ≡ get_or es (e * 36 + (4 + i)) 0 → PointAsked ps es x
  end_asked i x l h = vertex.point_asked (end_fit R.fit i x l h)

  -- both numbers are within the room
  pub ends_asked : {r : EdgeEnds} {s : Room} → EndsRead ps es e r → EndsAsked r.a.0 r.b.0 s
  ends_asked E = record { first = (end_asked 0 _ (lit≤ tt) E.first).low; second = (end_asked 1 _ (lit≤ tt) E.second).low }

-- ---- the edge

-- what the edge test says of the two ends
abbrev pub tested : ℕ → Cutter → EdgeEnds → EdgeTest
tested d k r = edge_test (distance_to d k.params.divider r.p) (distance_to d k.params.divider r.q)

-- an edge's answer has the warning of what its ends answered
crossed_warning : (c : Cutting) (y : Element) (p q : List Float) (z : Option Float) (g : Gathered) (t : Table) {u : Table} {a : ElementAnswer} → after_ends c y (cross_edge desk p q z g t) ≡ done a u
    → a.warning ≡ g.warning
crossed_warning c y p q z g t o = subst (Done (Warns g.warning)) o (after_gathered desk c g.warning y (cross_edge desk p q z g t) (crossed_warns desk c p q z g t))

-- the crossing, by what the test is
crossing_is : {z w : EdgeTest} {x : Option Float} → z ≡ w → z.crossing ≡ x → x ≡ w.crossing
crossing_is says m = sym m ∙ ap (λ (y : EdgeTest). y.crossing) says

-- and that is whether one of them was a close call
ends_warning : (a b : ℕ) (sa sb : Float) → (ends_of a b sa sb).warning ≡ (close_call sa || close_call sb)
ends_warning a b sa sb =
    let first = corner_answer a (side_test sa) in
    gathering_warns b (corner_answer b (side_test sb)) (gathering a first nothing_yet) ∙ ap (λ (w : Bool). w || close_call sb) (gathering_warns a first nothing_yet)

module _ (k : Cutter) (d : ℕ) (r : EdgeEnds) (sa sb : Float) where
  abbrev a : ℕ
  a = r.a.0

  abbrev b : ℕ
  b = r.b.0

  abbrev answered : Gathered
  answered = ends_of a b sa sb

  module _ {cs : List ℕ} {ps : List Float} {es : List ℕ} {e : ℕ} (hd : d ≡ get_or cs 0 0) (E : EndsRead ps es e r) (ha : sa ≡ distance_to d k.params.divider r.p)
      (hb : sb ≡ distance_to d k.params.divider r.q) where
    module _ {hs : List Float} {t : Table} (F : Fit cs ps hs es 1 e k t) where
      abbrev c : Cutting
      c = cut_of t.dimension k

      fa : Fit cs ps hs es 0 a k t
      fa = end_fit F 0 a (lit≤ tt) E.first

      fb : Fit cs ps hs es 0 b k t
      fb = end_fit F 1 b (lit≤ tt) E.second

      -- the rule, on the ends as they were read
      opened : (z : Option Float) → z ≡ (tested d k r).crossing → cut_element desk c 1 e t ≡ after_ends c (element t e) (cross_edge desk (point_at t a) (point_at t b) z answered t)
      unfolding cut_element cut_edge cut_ends
      opened z h =
          ap₂ (λ (x y : ℕ). after_ends c (element t e) (cut_ends desk c x y (point_at t x) (point_at t y) t))
          (sym (end_is F 0 a (lit≤ tt) E.first)) (sym (end_is F 1 b (lit≤ tt) E.second))
          ∙ ap₂ (λ (x y : Float). after_ends c (element t e) (cross_edge desk (point_at t a) (point_at t b) (crossing_of x y) (ends_of a b x y) t))
          (sym (ha ∙ vertex.distance_is fa d r.p hd E.first_point)) (sym (hb ∙ vertex.distance_is fb d r.q hd E.second_point))
          ∙ ap (λ (x : Option Float). after_ends c (element t e) (cross_edge desk (point_at t a) (point_at t b) x answered t)) (sym (h ∙ ap₂ crossing_of (sym ha) (sym hb)))

      -- the answer's warning is that of the edge test
      warned : (z : Option Float) → z ≡ (tested d k r).crossing → {u : Table} {y : ElementAnswer} → cut_element desk c 1 e t ≡ done y u → y.warning ≡ (tested d k r).warning
      warned z h o =
          crossed_warning c (element t e) (point_at t a) (point_at t b) z answered t (sym (opened z h) ∙ o) ∙ ends_warning a b sa sb ∙ (λ i. close_call (ha i) || close_call (hb i))

      ends_sets : Sets 0 answered t
      ends_sets =
          let ra = end_ranked F 0 a (lit≤ tt) E.first in
          let rb = end_ranked F 1 b (lit≤ tt) E.second in
          sets_gathering 0 b (corner_answer b (side_test sb)) _ t rb (corner_answer_lem t b (side_of sb) rb)
          (sets_gathering 0 a (corner_answer a (side_test sa)) nothing_yet t ra (corner_answer_lem t a (side_of sa) ra) (sets_none 0 t))

    -- the room as it came, with the test's warning, and with what the ends answered; z and x are what the test says
    module _ {s s₁ s₂ : Room} {z : EdgeTest} (says : z ≡ tested d k r) (N : Noted s z.warning s₁) (G : EndsGathered a b sa sb s₁ s₂) where
      -- the cut's warning after it all
      noted_by : {x : Option Float} (s₃ : Room) → z.crossing ≡ x → warning_in s₃ ≡ warning_in s₂ → {hs : List Float} {t : Table} → Fit cs ps hs es 1 e k t → (y : ElementAnswer) (u : Table)
          → cut_element desk (cut_of t.dimension k) 1 e t ≡ done y u → warning_in s₃ ≡ (warning_in s || y.warning)
      noted_by {x} s₃ m l F y u o =
          l ∙ G.warning ∙ N.warning ∙ ap (λ (w : Bool). warning_in s || w) (ap (λ (q : EdgeTest). q.warning) says ∙ sym (warned F x (crossing_is says m) o))

      -- no crossing
      missed_fit : {hs : List Float} {t : Table} → Fit cs ps hs es 1 e k t → Rule6Fit cs ps hs es 1 e k s₂ t answered
      missed_fit F = record { fit = F; some = lit≤ tt; gathers = G.of; sized = sized_more 2 32 (lit≤ tt) G.sized; sets = ends_sets F }

      pub missed_ready : {ix : List ℕ} → LowAsked cs ps es ix 1 e k s → Rule6Ready cs es ix 1 e k s₂
      missed_ready A = record {
        points = ps;
        planes = A.ready.planes;
        table = A.ready.table;
        gathered = answered;
        fit = missed_fit A.ready.fit;
        indexed = A.indexed;
      }

      pub missed_cut : {y : Reply ElementCutOutput} {cs' es' ix' : List ℕ} {s₃ : Room} → z.crossing ≡ None → Rule6Done cs es 1 e k s₂ y cs' es' ix' s₃
          → LowLeft cs ps es 1 e k s y cs' ps es' ix' s₃
      missed_cut {y} {cs'} {es'} {s₃ = s₃} m D = record {
        cut = record {
          of = λ hs t F.
              told_by (noted_by s₃ m D.used.warning F)
              (subst (λ (o : Outcome ElementAnswer). Came answered_by Err (Holds desk cs' ps hs es') t o y) (sym (opened F None (crossing_is says m)))
              (D.of ps hs t answered (missed_fit F)));
        };
        indexed = D.indexed;
      }

      -- a crossing at parameter f
      module _ (f : Float) (x : List Float) (hx : x ≡ pad plus_zero 4 (crossing_point f (take d r.p) (take d r.q))) where
        crossing_fit : {hs : List Float} {t : Table} → Fit cs ps hs es 1 e k t → CrossedFit cs ps hs es e k s₂ x t (point_at t a) (point_at t b) f answered
        crossing_fit {t = t} F = record {
          fit = F;
          point = hx ∙ ap (λ (n : ℕ). pad plus_zero 4 (crossing_point f (take n r.p) (take n r.q))) (dimension_is d hd F.holds)
              ∙ ap₂ (λ (i j : List Float). pad plus_zero 4 (crossing_point f i j)) (vertex.taken_is (fa F) r.p E.first_point) (vertex.taken_is (fb F) r.q E.second_point);
          first = vertex.point_sound (fa F);
          second = vertex.point_sound (fb F);
          gathers = G.of;
          sized = G.sized;
          sets = ends_sets F;
        }

        pub crossing_ready : Ready cs ps es 1 e k → CrossedReady cs ps es e k s₂ x
        crossing_ready R = record {
          planes = R.planes;
          table = R.table;
          low = point_at R.table a;
          high = point_at R.table b;
          parameter = f;
          gathered = answered;
          fit = crossing_fit R.fit;
        }

        pub crossing_cut : {y : Reply ElementCutOutput} {cs' : List ℕ} {ps' : List Float} {es' ix' : List ℕ} {s₃ : Room} → z.crossing ≡ Some f → CrossedLeft cs ps es e k s₂ x y cs' ps' es' ix' s₃
            → LowLeft cs ps es 1 e k s y cs' ps' es' ix' s₃
        crossing_cut {y} {cs'} {ps'} {es'} {s₃ = s₃} m D = record {
          cut = record {
            of = λ hs t F.
                told_by (noted_by s₃ m D.used.warning F)
                (subst (λ (o : Outcome ElementAnswer). Came answered_by Err (Holds desk cs' ps' hs es') t o y) (sym (opened F (Some f) (crossing_is says m)))
                (D.cut.of hs t (point_at t a) (point_at t b) f answered (crossing_fit F)));
          };
          indexed = D.indexed;
        }

-- ---- an element of rank 1

pub edge_left : {cs : List ℕ} {ps : List Float} {es : List ℕ} {r e : ℕ} {k : Cutter} {s : Room} {y : Reply ElementCutOutput} {cs' : List ℕ} {ps' : List Float} {es' ix' : List ℕ} {s' : Room} → r ≡ 1
    → LowLeft cs ps es 1 e k s y cs' ps' es' ix' s' → LowLeft cs ps es r e k s y cs' ps' es' ix' s'
edge_left {cs} {ps} {es} {r} {e} {k} {s} {y} {cs'} {ps'} {es'} {ix'} {s'} q C = subst (λ (n : ℕ). LowLeft cs ps es n e k s y cs' ps' es' ix' s') (sym q) C

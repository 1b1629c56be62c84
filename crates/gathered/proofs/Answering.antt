-- Rules 6 and 7 from the contracts of what they call: each call is at a table that goes on from the one before, and in it what was gathered is still in use.
use Prim.Native.Nat.{ℕ, suc, ◌-◌, ◌≤◌, ◌<◌}
use mathlib.Core.Path.{◌≡◌, refl, sym, ap, ap₂, ◌∙◌, subst}
use mathlib.Core.Bool.{Bool}
use mathlib.Core.List.{List, [], ◌∷◌}
use native.Mathlib.Nat.{le_trans, le_of_eq}
use native.Mathlib.Omega.{arith}
use lib.ListN.{length, get_or}
use lib.Ieee.{Float}
use Rattle.rules.specs.Limits.{desk}
use Rattle.rules.specs.Table.{Element, Table, rank_of, element}
use Rattle.rules.specs.Held.{Extends, Holds, Came, went, Ranked, AllOf, SetOf, SomeOf}
use Rattle.rules.specs.Replies.{is_kept}
use Rattle.rules.specs.Cut.{Outcome, done, next, give, Gathered, Cutting, new_intersection, side_of_cut, rule7, rule6}
use Rattle.rules.specs.declared.ElementAnswer.{ElementAnswer}
use Rattle.rules.specs.declared.ElementCutOutput.TheVariants.{Flush, NonFlush}
use Rattle.rules.proofs.Extends.{extends_refl, begins_length, count_more, element_same}
use Rattle.rules.proofs.Good.{Good, sound_good, good_sound}
use Rattle.rules.proofs.Laws.{test_le}
use Rattle.rules.proofs.Ranked.{set_later, some_later}
use Rattle.rules.proofs.Stays.{Kept, Stays}
use Rattle.rules.proofs.StaysCut.{new_intersection_stays, side_stays}
use Rattle.gathered.specs.Sets.{numbers_in, inside_in, outside_in, intersections_in, SizedSet, Used}
use Rattle.gathered.specs.declared.sets.Set.{Set}
use Rattle.gathered.specs.declared.sets.Room.{Room}
use Rattle.gathered.specs.Cutting.{cut_of, answered_by, Fit, IntersectionFit, IntersectionReady, IntersectionMade, SideFit, SideReady, SideMade, Rule6Fit, Rule6Ready, Rule6Done, SideSet, Rule7Fit, Rule7Ready, Rule7Done}
use Rattle.rules.specs.declared.Cutter.{Cutter}
use Rattle.gathered.proofs.Fitting.{rank_before, owner_of, rank_low}
use Rattle.gathered.proofs.Gathering.{inside_sized, outside_sized, intersections_sized}
use Rattle.gathered.proofs.Steps.{made_is, came_refused, came_answered, came_next}
use Rattle.rules.specs.declared.ElementId.{ElementId}
use Rattle.std.specs.Prelude.{Option, Some, Ok, Err}
use Rattle.rules.specs.Refusals.{Reply}
use Rattle.rules.specs.declared.ElementCutOutput.{ElementCutOutput}
use Rattle.rules.specs.declared.Refusal.{Refusal}

-- ---- in a later table

-- a table that goes on from t, is sound, and is held with the same points and planes
record Later (cs : List ℕ) (ps hs : List Float) (es : List ℕ) (t u : Table) : Type 0 where
  pub extends : Extends t u
  pub good : Good desk u
  pub holds : Holds desk cs ps hs es u

side_later : {r : ℕ} {t u : Table} {set : Set} {xs : List ℕ} → Extends t u → SideSet r t set xs → SideSet r u set xs
side_later {xs = xs} x S = record { held = S.held; sized = S.sized; sets = set_later xs x S.sets }

module _ {cs es : List ℕ} {r e : ℕ} {k : Cutter} {ps hs : List Float} {t : Table} (F : Fit cs ps hs es r e k t) (some : 1 ≤ r) where
  good : Good desk t
  good = sound_good desk t F.sound

  here : Later cs ps hs es t t
  here = record { extends = extends_refl t; good = good; holds = F.holds }

  module _ {cs₁ es₁ : List ℕ} {u : Table} (U : Later cs₁ ps hs es₁ t u) where
    fit_later : Fit cs₁ ps hs es₁ r e k u
    fit_later = record {
      holds = U.holds;
      sound = good_sound desk u U.good;
      plane = le_trans F.plane (begins_length t.planes u.planes U.extends.planes);
      used = le_trans F.used (count_more U.extends);
      ranked = ap rank_of (element_same t u e U.extends F.used) ∙ F.ranked;
    }

    -- a side of the element may be added
    module _ (x : Option ElementId) (h : SomeOf r x t) {set : Set} {xs : List ℕ} (S : SideSet r t set xs) where
      set_now : SetOf u r (numbers_in set)
      set_now = subst (λ (l : List ℕ). SetOf u r l) (sym S.held) (set_later xs U.extends S.sets)

      side_fit : SideFit cs₁ ps hs es₁ r e set x u
      side_fit = record {
        holds = U.holds;
        sound = good_sound desk u U.good;
        used = fit_later.used;
        ranked = fit_later.ranked;
        some = some;
        sized = S.sized;
        sets = set_now;
        intersection = some_later r x U.extends h;
      }

      same_step : (keep : Bool) → side_of_cut desk keep (element u e) x (numbers_in set) u ≡ side_of_cut desk keep (element t e) x xs u
      same_step keep = ap₂ (λ (y : Element) (l : List ℕ). side_of_cut desk keep y x l u) (element_same t u e U.extends F.used) S.held

      side_came : {cs₂ es₂ ix₂ : List ℕ} {set₂ : Set} {keep : Bool} {y : Reply (Option ElementId)} → SideMade cs₁ es₁ r e keep set x y cs₂ es₂ ix₂ set₂
          → Came Ok Err (Holds desk cs₂ ps hs es₂) u (side_of_cut desk keep (element t e) x xs u) y
      side_came {cs₂} {es₂} {keep = keep} {y} M =
          subst (λ (o : Outcome (Option ElementId)). Came Ok Err (Holds desk cs₂ ps hs es₂) u o y) (same_step keep) (M.of ps hs u side_fit)

      side_keeps : (keep : Bool) → Stays desk (SomeOf (suc (suc (r - 1)))) u (side_of_cut desk keep (element t e) x xs u)
      side_keeps keep =
          let n = rank_before r some in
          let f = fit_later in
          subst (Stays desk (SomeOf (suc (suc (r - 1)))) u) (same_step keep)
          (side_stays desk (cut_of u.dimension k) u (r - 1) keep (element u e) x (numbers_in set) U.good (owner_of u e r U.good f.used f.ranked some)
          (subst (λ (q : ℕ). SomeOf q x u) n (some_later r x U.extends h)) (subst (λ (q : ℕ). SetOf u q (numbers_in set)) n set_now))

      -- the table after a side that was not refused
      side_after : {cs₂ es₂ ix₂ : List ℕ} {set₂ : Set} {keep : Bool} {y : Reply (Option ElementId)} → SideMade cs₁ es₁ r e keep set x y cs₂ es₂ ix₂ set₂ → (i : Option ElementId) → y ≡ Ok i
          → (v : Table) × (side_of_cut desk keep (element t e) x xs u ≡ done i v) × Later cs₂ ps hs es₂ u v
      side_after {keep = keep} M i q =
          let m = made_is i q (side_came M) in
          let K : Kept desk (SomeOf (suc (suc (r - 1)))) u i m.table = subst (Stays desk (SomeOf (suc (suc (r - 1)))) u) m.made (side_keeps keep) in
          (m.table, m.made, record { extends = K.extends; good = K.good; holds = m.holds })

-- ---- rule 7

-- the three places and the warning
abbrev sides : Option ElementId → Option ElementId → Option ElementId → Bool → ElementAnswer
sides i o x w = record { output = NonFlush i o x; warning = w }

module _ {cs es : List ℕ} {r e : ℕ} {k : Cutter} {s : Room} {x : Option ElementId} where
  pub inside_ready : {ix : List ℕ} → Rule7Ready cs es ix r e k s x → SideReady cs es ix r e (inside_in s) x
  inside_ready R =
      let F = R.fit in
      record {
        points = R.points;
        planes = R.planes;
        table = R.table;
        fit = side_fit F.fit F.some (here F.fit F.some) x F.intersection F.inside;
        indexed = R.indexed;
      }

  module _ {y : Reply (Option ElementId)} {cs₁ es₁ ix₁ : List ℕ} {i : Set} (M : SideMade cs es r e (is_kept k.params.inside) (inside_in s) x y cs₁ es₁ ix₁ i) where
    pub inside_refused : {s' : Room} → s'.warning ≡ s.warning → (n : Refusal) → y ≡ Err n → Rule7Done cs es r e k s x (Err n) cs₁ es₁ ix₁ s'
    unfolding rule7
    inside_refused W n q = record {
      of = λ ps hs t g F. came_refused n _ q (side_came F.fit F.some (here F.fit F.some) x F.intersection F.inside M);
      indexed = M.indexed;
      used = record { warning = W };
    }

    module _ (a : Option ElementId) (q : y ≡ Ok a) where
      inner : {ps hs : List Float} {t : Table} {g : Gathered} → Rule7Fit cs ps hs es r e k s x t g
          → (v : Table) × (side_of_cut desk (is_kept k.params.inside) (element t e) x g.inside t ≡ done a v) × Later cs₁ ps hs es₁ t v
      inner F = side_after F.fit F.some (here F.fit F.some) x F.intersection F.inside M a q

      pub outside_ready : {ix : List ℕ} → Rule7Ready cs es ix r e k s x → SideReady cs₁ es₁ ix₁ r e (outside_in s) x
      outside_ready R =
          let F = R.fit in
          let m = inner F in
          record {
            points = R.points;
            planes = R.planes;
            table = m.0;
            fit = side_fit F.fit F.some m.2 x F.intersection F.outside;
            indexed = M.indexed;
          }

      module _ {z : Reply (Option ElementId)} {cs₂ es₂ ix₂ : List ℕ} {o : Set} (N : SideMade cs₁ es₁ r e (is_kept k.params.outside) (outside_in s) x z cs₂ es₂ ix₂ o) where
        outer : {ps hs : List Float} {t : Table} {g : Gathered} (F : Rule7Fit cs ps hs es r e k s x t g)
            → Came Ok Err (Holds desk cs₂ ps hs es₂) (inner F).0 (side_of_cut desk (is_kept k.params.outside) (element t e) x g.outside (inner F).0) z
        outer F =
            side_came F.fit F.some (inner F).2 x F.intersection F.outside N

        pub outside_refused : {s' : Room} → s'.warning ≡ s.warning → (n : Refusal) → z ≡ Err n → Rule7Done cs es r e k s x (Err n) cs₂ es₂ ix₂ s'
        unfolding rule7
        outside_refused W n w = record {
          of = λ ps hs t g F. came_next a _ (inner F).1 (inner F).2.extends (came_refused n (λ b. give (sides a b x g.warning)) w (outer F));
          indexed = N.indexed;
          used = record { warning = W };
        }

        pub rule7_answered : {s' : Room} → s'.warning ≡ s.warning → (b : Option ElementId) → z ≡ Ok b → Rule7Done cs es r e k s x (Ok (NonFlush a b x)) cs₂ es₂ ix₂ s'
        unfolding rule7
        rule7_answered W b w = record {
          of = λ ps hs t g F. came_next a _ (inner F).1 (inner F).2.extends (came_answered b (λ d. sides a d x g.warning) w (outer F));
          indexed = N.indexed;
          used = record { warning = W };
        }

-- ---- rule 6, by the flush answers

many_flush : (c : Cutting) (y : Element) (g : Gathered) (fs : List ℕ) (t : Table) → 1 < length fs → rule6 desk c y g fs t ≡ done (record { output = Flush; warning = g.warning }) t
unfolding rule6
many_flush c y g [] t h = absurd (let z : ⊥ = omega (arith, h) in z)
many_flush c y g (a ∷ []) t h = absurd (let z : ⊥ = omega (arith, h) in z)
many_flush c y g (a ∷ b ∷ fs) t h = refl

one_flush : (fs : List ℕ) (f : ℕ) → length fs ≡ 1 → f ≡ get_or fs 0 0 → fs ≡ f ∷ []
one_flush [] f h q = absurd (let z : ⊥ = omega (arith, h) in z)
one_flush (a ∷ []) f h q = ap (λ (n : ℕ). n ∷ []) (sym q)
one_flush (a ∷ b ∷ fs) f h q = absurd (let z : ⊥ = omega (arith, h) in z)

no_flush : (fs : List ℕ) → length fs ≤ 1 → (length fs ≡ 1 → ⊥) → fs ≡ []
no_flush [] h n = refl
no_flush (a ∷ []) h n = absurd (n refl)
no_flush (a ∷ b ∷ fs) h n = absurd (let z : ⊥ = omega (arith, h) in z)

-- the intersection's step, as rule 6 asks for it
abbrev intersected : Cutter → ℕ → Table → Gathered → Outcome (Option ElementId)
intersected k e t g = new_intersection desk (cut_of t.dimension k) (rank_of (element t e)) g.intersections t

-- from what rule 6 has: its sets for rule 7, and its intersection
module _ {cs es : List ℕ} {r e : ℕ} {k : Cutter} {s : Room} {ps hs : List Float} {t : Table} {g : Gathered} (F : Rule6Fit cs ps hs es r e k s t g) where
  side_set : {set : Set} {xs : List ℕ} → numbers_in set ≡ xs → SizedSet set 32 → SetOf t (suc (r - 1)) xs → SideSet r t set xs
  side_set {xs = xs} h z q = record { held = h; sized = z; sets = subst (λ (n : ℕ). SetOf t n xs) (sym (rank_before r F.some)) q }

  rule7_fit : {cs₁ es₁ : List ℕ} {u : Table} (U : Later cs₁ ps hs es₁ t u) (x : Option ElementId) → SomeOf r x u → Rule7Fit cs₁ ps hs es₁ r e k s x u g
  rule7_fit U x h = record {
    fit = fit_later F.fit F.some U;
    some = F.some;
    inside = side_later U.extends (side_set F.gathers.inside (inside_sized F.sized) F.sets.inside);
    outside = side_later U.extends (side_set F.gathers.outside (outside_sized F.sized) F.sets.outside);
    intersection = h;
  }

  intersection_fit : IntersectionFit cs ps hs es r k (intersections_in s) t
  intersection_fit = record {
    holds = F.fit.holds;
    sound = F.fit.sound;
    plane = F.fit.plane;
    some = F.some;
    low = rank_low t e r (good F.fit F.some) F.fit.used F.fit.ranked F.some;
    sized = intersections_sized F.sized;
    sets = subst (SetOf t (r - 1)) (sym F.gathers.intersections) F.sets.intersections;
  }

  intersection_keeps : Stays desk (SomeOf r) t (new_intersection desk (cut_of t.dimension k) r (numbers_in (intersections_in s)) t)
  intersection_keeps =
      let n = rank_before r F.some in
      let f = intersection_fit in
      subst (λ (q : ℕ). Stays desk (SomeOf q) t (new_intersection desk (cut_of t.dimension k) q (numbers_in (intersections_in s)) t)) (sym n)
      (new_intersection_stays desk (cut_of t.dimension k) t (r - 1) (numbers_in (intersections_in s)) (good F.fit F.some) f.plane
      (test_le (suc (r - 1)) t.dimension (subst (λ (q : ℕ). q ≤ t.dimension) n f.low)) f.sets)

-- the room where no side was asked for
untouched : {s : Room} → Used s s
untouched = record { warning = refl }

module _ {cs es : List ℕ} {r e : ℕ} {k : Cutter} {s : Room} where
  pub rule6_flush : 1 < s.flushes → {ix : List ℕ} → Rule6Ready cs es ix r e k s → Rule6Done cs es r e k s (Ok Flush) cs es ix s
  rule6_flush h R = record {
    of = λ ps hs t g F.
        went (record { output = Flush; warning = g.warning }) t (many_flush (cut_of t.dimension k) (element t e) g g.flush t (le_trans h (le_of_eq F.gathers.flushes)))
        refl F.fit.holds;
    indexed = R.indexed;
    used = untouched;
  }

  -- exactly one
  module _ (h : s.flushes ≡ 1) (f : ElementId) (w : f ≡ s.flush) where
    sole : {ps hs : List Float} {t : Table} {g : Gathered} → Rule6Fit cs ps hs es r e k s t g → g.flush ≡ f.0 ∷ []
    sole {g = g} F = one_flush g.flush f.0 (sym F.gathers.flushes ∙ h) (ap (λ (y : ElementId). y.0) w ∙ F.gathers.flush)

    flush_fit : {ps hs : List Float} {t : Table} {g : Gathered} → Rule6Fit cs ps hs es r e k s t g → Rule7Fit cs ps hs es r e k s (Some f) t g
    flush_fit {t = t} F =
        rule7_fit F (here F.fit F.some) (Some f)
        (subst (λ (n : ℕ). Ranked t n f.0) (sym (rank_before r F.some)) (subst (AllOf (Ranked t (suc (r - 1)))) (sole F) F.sets.flush).0)

    pub flush_ready : {ix : List ℕ} → Rule6Ready cs es ix r e k s → Rule7Ready cs es ix r e k s (Some f)
    flush_ready R = record { points = R.points; planes = R.planes; table = R.table; gathered = R.gathered; fit = flush_fit R.fit; indexed = R.indexed }

    pub rule6_one : {y : Reply ElementCutOutput} {cs' es' ix' : List ℕ} {s' : Room} → Rule7Done cs es r e k s (Some f) y cs' es' ix' s' → Rule6Done cs es r e k s y cs' es' ix' s'
    unfolding rule6
    rule6_one {y} {cs'} {es'} D = record {
      of = λ ps hs t g F.
          subst (λ (fs : List ℕ). Came answered_by Err (Holds desk cs' ps hs es') t (rule6 desk (cut_of t.dimension k) (element t e) g fs t) y) (sym (sole F))
          (D.of ps hs t g (flush_fit F));
      indexed = D.indexed;
      used = D.used;
    }

  -- none
  pub intersection_ready : {ix : List ℕ} → Rule6Ready cs es ix r e k s → IntersectionReady cs es ix r k (intersections_in s)
  intersection_ready R = record { points = R.points; planes = R.planes; table = R.table; fit = intersection_fit R.fit; indexed = R.indexed }

  module _ (h : s.flushes ≤ 1) (n : s.flushes ≡ 1 → ⊥) {y : Reply (Option ElementId)} {cs₁ es₁ ix₁ : List ℕ}
      (M : IntersectionMade cs es r k (intersections_in s) y cs₁ es₁ ix₁) where
    none_flush : {ps hs : List Float} {t : Table} {g : Gathered} → Rule6Fit cs ps hs es r e k s t g → [] ≡ g.flush
    none_flush {g = g} F =
        let q = F.gathers.flushes in sym (no_flush g.flush (subst (λ (m : ℕ). m ≤ 1) q h) (subst (λ (m : ℕ). m ≡ 1 → ⊥) q n))

    same_intersection : {ps hs : List Float} {t : Table} {g : Gathered} → Rule6Fit cs ps hs es r e k s t g
        → new_intersection desk (cut_of t.dimension k) r (numbers_in (intersections_in s)) t ≡ intersected k e t g
    same_intersection {t = t} F = ap₂ (λ (m : ℕ) (l : List ℕ). new_intersection desk (cut_of t.dimension k) m l t) (sym F.fit.ranked) F.gathers.intersections

    middle : {ps hs : List Float} {t : Table} {g : Gathered} → Rule6Fit cs ps hs es r e k s t g → Came Ok Err (Holds desk cs₁ ps hs es₁) t (intersected k e t g) y
    middle {ps} {hs} {t} F =
        subst (λ (o : Outcome (Option ElementId)). Came Ok Err (Holds desk cs₁ ps hs es₁) t o y) (same_intersection F) (M.of ps hs t (intersection_fit F))

    module _ {ps hs : List Float} {t : Table} {g : Gathered} (F : Rule6Fit cs ps hs es r e k s t g) where
      -- rule 6 without a flush answer
      by_none : {z : Reply ElementCutOutput} {cs₂ es₂ : List ℕ}
          → Came answered_by Err (Holds desk cs₂ ps hs es₂) t (next (intersected k e t g) (rule7 desk (cut_of t.dimension k) (element t e) g)) z
          → Came answered_by Err (Holds desk cs₂ ps hs es₂) t (rule6 desk (cut_of t.dimension k) (element t e) g g.flush t) z
      unfolding rule6
      by_none {z} {cs₂} {es₂} c =
          subst (λ (fs : List ℕ). Came answered_by Err (Holds desk cs₂ ps hs es₂) t (rule6 desk (cut_of t.dimension k) (element t e) g fs t) z) (none_flush F) c

    pub intersection_refused : {ix : List ℕ} → Rule6Ready cs es ix r e k s → (j : Refusal) → y ≡ Err j → Rule6Done cs es r e k s (Err j) cs₁ es₁ ix₁ s
    intersection_refused R j q = record { of = λ ps hs t g F. by_none F (came_refused j _ q (middle F)); indexed = M.indexed; used = untouched }

    module _ (x : Option ElementId) (q : y ≡ Ok x) where
      -- the table after the intersection
      crossed : {ps hs : List Float} {t : Table} {g : Gathered} → Rule6Fit cs ps hs es r e k s t g
          → (u : Table) × (intersected k e t g ≡ done x u) × Later cs₁ ps hs es₁ t u × Rule7Fit cs₁ ps hs es₁ r e k s x u g
      crossed {ps} {hs} {t} {g} F =
          let m = made_is x q (middle F) in
          let K : Kept desk (SomeOf r) t x m.table = subst (Stays desk (SomeOf r) t) (same_intersection F ∙ m.made) (intersection_keeps F) in
          let U : Later cs₁ ps hs es₁ t m.table = record { extends = K.extends; good = K.good; holds = m.holds } in
          (m.table, m.made, U, rule7_fit F U x K.value)

      pub intersection_known : {ix : List ℕ} → Rule6Ready cs es ix r e k s → Rule7Ready cs₁ es₁ ix₁ r e k s x
      intersection_known R =
          let m = crossed R.fit in
          record { points = R.points; planes = R.planes; table = m.0; gathered = R.gathered; fit = m.3; indexed = M.indexed }

      pub rule6_none : {z : Reply ElementCutOutput} {cs₂ es₂ ix₂ : List ℕ} {s₂ : Room} → Rule7Done cs₁ es₁ r e k s x z cs₂ es₂ ix₂ s₂ → Rule6Done cs es r e k s z cs₂ es₂ ix₂ s₂
      rule6_none {z} {cs₂} {es₂} D = record {
        of = λ ps hs t g F. (
            let m = crossed F in
            let X = m.2.extends in
            by_none F (came_next x (rule7 desk (cut_of t.dimension k) (element t e) g) m.1 X
            (subst (λ (o : Outcome ElementAnswer). Came answered_by Err (Holds desk cs₂ ps hs es₂) m.0 o z)
            (ap₂ (λ (d : ℕ) (v : Element). rule7 desk (cut_of d k) v g x m.0) X.dimension (element_same t m.0 e X F.fit.used)) (D.of ps hs m.0 g m.3)))
            );
        indexed = D.indexed;
        used = D.used;
      }

-- A table B that both carvings leave as it is has, renumbered, all that a cut adds to a table inside it, whichever sides that cut keeps; and so that cut is not refused.
-- Here one step after another, and one entry; the rules of the cut are in ContainsCut.
use Rattle.std.specs.Prelude.{if◌then◌else◌, Option, Some, None}
use Prim.Native.Nat.{ℕ, suc, ◌<◌, ◌≤◌}
use mathlib.Core.Bool.{Bool, true, false}
use mathlib.Core.List.{List, [], ◌∷◌, ◌++◌, append_assoc}
use mathlib.Core.Path.{◌≡◌, refl, ap, sym, ◌∙◌, subst}
use native.Mathlib.Nat.{le_refl, le_trans, zero-add, le_of_lt, suc_inj}
use native.Mathlib.Omega.{arith}
use lib.Dec.{ltb, leb, eqb}
use lib.Ieee.{Float}
use lib.ListN.{length}
use Rattle.rules.specs.Limits.{Limits}
use Rattle.rules.specs.Lists.{find, rises, member}
use Rattle.rules.specs.Floats.{point_matches}
use Rattle.rules.specs.Table.{Element, corner, polytope, Table, element, element_count, boundary_of, same_element, rank, boundary}
use Rattle.rules.specs.Sound.{closed}
use Rattle.rules.specs.Cut.{Outcome, done, refused, give, Step, next, with_point, add_element, add_polytope, share_vertex, add_vertex, given, with_element, share_element}
use Rattle.rules.specs.Held.{Begins, Extends}
use Rattle.carvings.specs.Renumbered.{renumbered, image}
use Rattle.rules.proofs.Apart.{distinct_apart}
use Rattle.rules.proofs.Built.{After, Builds}
use Rattle.carvings.proofs.ClosedIn.{closed_in}
use Rattle.carvings.proofs.Crossings.{Points, stay, shared, points_with, Moves, Moved, add_element_lem}
use Rattle.carvings.proofs.EachInOther.{no_more}
use Rattle.carvings.proofs.Embeds.{added, was_there, done_value, Embeds, Grown, element_grown, embeds_new, sending, not_there}
use Rattle.rules.proofs.Extends.{Below, begins_trans, extends_trans, grown_point, begins_length}
use Rattle.rules.proofs.FaceEdges.{of_all, Two, edge_two}
use Rattle.rules.proofs.Fine.{Fine}
use Rattle.rules.proofs.Good.{Good, good_sound, whole_at}
use Rattle.rules.proofs.Growing.{find_found, find_new, length_snoc}
use Rattle.carvings.proofs.Images.{image_length}
use Rattle.rules.proofs.LaterAppends.{polytope_by}
use Rattle.rules.proofs.Laws.{le_test, test_le, not_le, eq_test}
use Rattle.carvings.proofs.LeftAsIs.{left_next, Poly, few, one, poly}
use Rattle.rules.proofs.Selves.{point_self}
use Rattle.carvings.proofs.SideBySide.{SetIs, OneIs}
use Rattle.rules.specs.declared.ElementId.{ElementId}
use Rattle.rules.specs.declared.Refusal.TheVariants.{ElementsFull, VerticesFull}

-- ---- three runs side by side

module _ (L : Limits) (T B : Table) (fine : Fine T) (good : Good L B) (on : Extends T B) where
  -- the step was not refused: its value, its table with these points, and where that stands in B
  pub record Went {X : Type 0} (ps : Points) (t : Table) (f : ℕ → ℕ) (o : Outcome X) (Q : X → Table → (ℕ → ℕ) → Type 0) : Type 0 where
    pub value : X
    pub after : Table
    pub runs : o ≡ done value after
    pub points : after.points ≡ ps
    pub grown : Grown T B t f after (Q value after)

  -- F says the points after the step; B has them
  abbrev pub Sim : {X : Type 0} → (Points → Points) → ((ℕ → ℕ) → ℕ → X → X → X → Type 0) → Table → (ℕ → ℕ) → Outcome X → Outcome X → Outcome X → Type 0
  Sim {X} F R t f o o₁ o₂ = (b₁ b₂ : X) → o₁ ≡ done b₁ B → o₂ ≡ done b₂ B → Begins (F t.points) B.points
      → Went (F t.points) t f o (λ a u g. R g (element_count u) a b₁ b₂)

  pub grown_here : (t : Table) (f : ℕ → ℕ) → Embeds T B t f → (R : (ℕ → ℕ) → Type 0) → R f → Grown T B t f t R
  grown_here t f h R v = record { map = f; embeds = h; agree = λ e l. refl; more = le_refl (element_count t); value = v }

  pub grown_as : {t u : Table} {f : ℕ → ℕ} (R Q : (ℕ → ℕ) → Type 0) → ((g : ℕ → ℕ) → R g → Q g) → Grown T B t f u R → Grown T B t f u Q
  grown_as R Q h k = record { map = k.map; embeds = k.embeds; agree = k.agree; more = k.more; value = h k.map k.value }

  grown_twice : {t s u : Table} {f : ℕ → ℕ} (R Q : (ℕ → ℕ) → Type 0) (m : Grown T B t f s R) → Grown T B s m.map u Q → Grown T B t f u Q
  grown_twice R Q m n = record {
    map = n.map;
    embeds = n.embeds;
    agree = λ e l. n.agree e (le_trans l m.more) ∙ m.agree e l;
    more = le_trans m.more n.more;
    value = n.value;
  }

  pub went_as : {X : Type 0} (ps : Points) (t : Table) (f : ℕ → ℕ) (o : Outcome X) (Q S : X → Table → (ℕ → ℕ) → Type 0)
      → ((a : X) (u : Table) (g : ℕ → ℕ) → Q a u g → S a u g) → Went ps t f o Q → Went ps t f o S
  went_as ps t f o Q S h w = record {
    value = w.value;
    after = w.after;
    runs = w.runs;
    points = w.points;
    grown = grown_as (Q w.value w.after) (S w.value w.after) (h w.value w.after) w.grown;
  }

  module _ {X : Type 0} (R : (ℕ → ℕ) → ℕ → X → X → X → Type 0) where
    pub sim_give : (t : Table) (f : ℕ → ℕ) → Embeds T B t f → (a b₁ b₂ : X) → R f (element_count t) a b₁ b₂ → Sim stay R t f (done a t) (done b₁ B) (done b₂ B)
    sim_give t f h a b₁ b₂ v b₁' b₂' e₁ e₂ p = record {
      value = a;
      after = t;
      runs = refl;
      points = refl;
      grown = grown_here t f h (λ g. R g (element_count t) a b₁' b₂')
          (subst (λ (x : X). R f (element_count t) a x b₂') (done_value e₁) (subst (λ (x : X). R f (element_count t) a b₁ x) (done_value e₂) v));
    }

    pub sim_next : {Y : Type 0} (F G : Points → Points) (Q : (ℕ → ℕ) → ℕ → Y → Y → Y → Type 0) (t : Table) (f : ℕ → ℕ) (o o₁ o₂ : Outcome X) (k k₁ k₂ : X → Step Y)
        → ((ps : Points) → Begins ps (G ps)) → After B o₁ → After B o₂ → ((x : X) → Builds (k₁ x)) → ((x : X) → Builds (k₂ x)) → Sim F R t f o o₁ o₂
        → ((a b₁ b₂ : X) (s : Table) (g : ℕ → ℕ) → Embeds T B s g → ((e : ℕ) → e < element_count t → g e ≡ f e) → element_count t ≤ element_count s
        → R g (element_count s) a b₁ b₂ → Sim G Q s g (k a s) (k₁ b₁ B) (k₂ b₂ B))
        → Sim (λ ps. G (F ps)) Q t f (next o k) (next o₁ k₁) (next o₂ k₂)
    sim_next F G Q t f o o₁ o₂ k k₁ k₂ more ho₁ ho₂ hk₁ hk₂ first second b₁ b₂ e₁ e₂ p =
        let w₁ = left_next B o₁ k₁ b₁ ho₁ hk₁ e₁ in
        let w₂ = left_next B o₂ k₂ b₂ ho₂ hk₂ e₂ in
        let qs : Points = F t.points in
        let m = first w₁.0 w₂.0 w₁.1 w₂.1 (begins_trans qs (G qs) B.points (more qs) p) in
        went_next F G Q t f o k b₁ b₂ w₁.0 w₂.0 m
        (second m.value w₁.0 w₂.0 m.after m.grown.map m.grown.embeds m.grown.agree m.grown.more m.grown.value b₁ b₂ w₁.2 w₂.2
        (subst (λ (ps : Points). Begins (G ps) B.points) (sym m.points) p))
      where
        went_next : {Y : Type 0} (F G : Points → Points) (Q : (ℕ → ℕ) → ℕ → Y → Y → Y → Type 0) (t : Table) (f : ℕ → ℕ) (o : Outcome X) (k : X → Step Y) (b₁ b₂ : Y) (c₁ c₂ : X)
            → (m : Went (F t.points) t f o (λ a u g. R g (element_count u) a c₁ c₂))
            → Went (G m.after.points) m.after m.grown.map (k m.value m.after) (λ a u g. Q g (element_count u) a b₁ b₂)
            → Went (G (F t.points)) t f (next o k) (λ a u g. Q g (element_count u) a b₁ b₂)
        went_next {Y} F G Q t f o k b₁ b₂ c₁ c₂ m n = record {
          value = n.value;
          after = n.after;
          runs = ap (λ (z : Outcome X). next z k) m.runs ∙ n.runs;
          points = n.points ∙ ap G m.points;
          grown = grown_twice (λ g. R g (element_count m.after) m.value c₁ c₂) (λ g. Q g (element_count n.after) n.value b₁ b₂) m.grown n.grown;
        }

  -- ---- one entry

  -- what B has, t has or has room for
  add_runs : (t : Table) (f : ℕ → ℕ) → Embeds T B t f → (y : Element) → rises (boundary_of y) ≡ true → Below (element_count t) (boundary_of y)
      → (j : ℕ) → j < element_count B → element B j ≡ renumbered f y → (i : ℕ) × (u : Table) × (add_element L y t ≡ done i u)
  unfolding add_element
  add_runs t f em y ry by j lj ej = go (find (same_element y) t.elements) refl
    where
      room : (c : Bool) → ltb (element_count t) L.elements ≡ c → find (same_element y) t.elements ≡ None
          → (i : ℕ) × (u : Table) × ((if c then done (element_count t) (with_element y t) else refused ElementsFull) ≡ done i u)
      room true e q = (element_count t, with_element y t, refl)
      room false e q =
          let em' = embeds_new T B (distinct_apart B good.apart) t f em y ry by (not_there y t q) j lj ej in
          let n = no_more (sending (element_count t) j f) (element_count (with_element y t)) (element_count B) em'.used em'.once in
          let long : element_count (with_element y t) ≡ suc (element_count t) = length_snoc t.elements y in
          let r = le_test (element_count B) L.elements good.element_room in
          let z = not_le (suc (element_count t)) L.elements e in
          absurd (let w : ⊥ = omega (arith, n, long, r, z) in w)

      go : (o : Option ℕ) → find (same_element y) t.elements ≡ o → (i : ℕ) × (u : Table) × (share_element L y o t ≡ done i u)
      go (Some i) e = (i, t, refl)
      go None e = room (ltb (element_count t) L.elements) refl e

  pub element_went : (t : Table) (f : ℕ → ℕ) → Embeds T B t f → (y : Element) → rises (boundary_of y) ≡ true → Below (element_count t) (boundary_of y)
      → (j : ℕ) → j < element_count B → element B j ≡ renumbered f y → Went t.points t f (add_element L y t) (λ i u g. (j ≡ g i) × (i < element_count u))
  element_went t f em y ry by j lj ej =
      let w = add_runs t f em y ry by j lj ej in
      let m : Moves stay t w.1 = subst (Moved stay t) w.2 (add_element_lem L y t) in
      record {
        value = w.0;
        after = w.1;
        runs = w.2;
        points = m.points;
        grown = element_grown T B (distinct_apart B good.apart) t f em y ry by w.0 w.1 (added L y t w.0 w.1 w.2) j lj ej;
      }

  pub poly_went : (t : Table) (f : ℕ → ℕ) → Embeds T B t f → (r : ℕ) (b b' : List ℕ) (h : Option ℕ) (m : Bool) → SetIs f (element_count t) b b'
      → (a' : Option ElementId) → add_polytope L r b' h m B ≡ done a' B → Went t.points t f (add_polytope L r b h m t) (λ a u g. OneIs g (element_count u) a a')
  unfolding add_polytope
  poly_went t f em r b b' h m s a' e' = go (poly L r b' h m B a' B e')
    where
      long : length b' ≡ length b
      long = ap length s.is ∙ image_length f (element_count t) em.once b s.rising s.under

      tests : (x y z : Bool) → leb (length b) r ≡ x → ltb L.boundary (length b) ≡ y → closed t r b ≡ z
          → polytope_by L r b h m (leb (length b) r) (ltb L.boundary (length b)) (closed t r b) t ≡ polytope_by L r b h m x y z t
      tests x y z p q o = λ k. polytope_by L r b h m (p k) (q k) (o k) t

      -- in B the face is there, so its edges have two ends each
      sides : (i : ℕ) → i < element_count B → element B i ≡ polytope r b' h m → r ≡ 2 → (x : ℕ) → member x (image f b) ≡ true → Two (boundary B x)
      sides i l e q x k =
          let g = (whole_at L B i r b' h m good l e).bound in
          let k' : member x b' ≡ true = subst (λ (l : List ℕ). member x l ≡ true) (sym s.is) k in
          let under = le_test (suc x) i (of_all (λ y. ltb y i) b' x g.under k') in
          let ranked = eq_test (suc (rank B x)) r (of_all (λ y. eqb (suc (rank B y)) r) b' x g.ranks k') in
          edge_two L B (good_sound L B good) x (le_trans under (le_of_lt l)) (suc_inj (ranked ∙ q))

      go : Poly L r b' h m B a' B → Went t.points t f (add_polytope L r b h m t) (λ a u g. OneIs g (element_count u) a a')
      go (few q n v) = record {
        value = None;
        after = t;
        runs = tests true (ltb L.boundary (length b)) (closed t r b) (ap (λ (k : ℕ). leb k r) (sym long) ∙ q) refl refl;
        points = refl;
        grown = grown_here t f em (λ g. OneIs g (element_count t) None a') (tt, sym n);
      }
      go (one q q₂ q₃ i n v) =
          let w = was_there (polytope r b' h m) B i v in
          let y : Element = polytope r b h m in
          let z = element_went t f em y s.rising s.under i w.0 (w.1 ∙ ap (λ (l : List ℕ). polytope r l h m) s.is) in
          record {
            value = given z.value;
            after = z.after;
            runs = tests false false true (ap (λ (k : ℕ). leb k r) (sym long) ∙ q) (ap (λ (k : ℕ). ltb L.boundary k) (sym long) ∙ q₂)
                (closed_in T B t f em r b s.rising s.under (sides i w.0 w.1) (ap (closed B r) (sym s.is) ∙ q₃))
                ∙ ap (λ (o : Outcome ℕ). next o (λ k. give (given k))) z.runs;
            points = z.points;
            grown = grown_as (λ g. (i ≡ g z.value) × (z.value < element_count z.after)) (λ g. OneIs g (element_count z.after) (given z.value) a')
                (λ g x. (x.1, sym n ∙ ap given x.0)) z.grown;
          }

  pub vertex_went : (t : Table) (f : ℕ → ℕ) → Embeds T B t f → (p : List Float) (j : ℕ) → add_vertex L p B ≡ done j B → Begins (points_with p t.points) B.points
      → Went (points_with p t.points) t f (add_vertex L p t) (λ i u g. (j ≡ g i) × (i < element_count u))
  unfolding add_vertex
  vertex_went t f em p j e' = go (find (λ q. point_matches q p) t.points) refl
    where
      n : ℕ
      n = length t.points

      search : (o : Option ℕ) → find (λ q. point_matches q p) B.points ≡ o → share_vertex L p o B ≡ done j B
      search o q = subst (λ (x : Option ℕ). share_vertex L p x B ≡ done j B) q e'

      settle : ltb n L.vertices ≡ true → Went (t.points ++ p ∷ []) (with_point p t) f (add_element L (corner n) (with_point p t)) (λ i u g. (j ≡ g i) × (i < element_count u))
          → Went (t.points ++ p ∷ []) t f (if ltb n L.vertices then add_element L (corner n) (with_point p t) else refused VerticesFull) (λ i u g. (j ≡ g i) × (i < element_count u))
      settle room z = record {
        value = z.value;
        after = z.after;
        runs = ap (λ (c : Bool). if c then add_element L (corner n) (with_point p t) else refused VerticesFull) room ∙ z.runs;
        points = z.points;
        grown = record { map = z.grown.map; embeds = z.grown.embeds; agree = z.grown.agree; more = z.grown.more; value = z.grown.value };
      }

      go : (o : Option ℕ) → find (λ q. point_matches q p) t.points ≡ o → Begins (shared p t.points o) B.points
          → Went (shared p t.points o) t f (share_vertex L p o t) (λ i u g. (j ≡ g i) × (i < element_count u))
      go (Some v) q x =
          let found : find (λ q. point_matches q p) B.points ≡ Some v = ap (find (λ q. point_matches q p)) x.1 ∙ find_found (λ q. point_matches q p) 0 v t.points x.0 q in
          let w = was_there (corner v) B j (added L (corner v) B j B (search (Some v) found)) in
          element_went t f em (corner v) refl tt j w.0 w.1
      go None q x =
          let found : find (λ q. point_matches q p) B.points ≡ Some n =
          (ap (find (λ q. point_matches q p)) (x.1 ∙ append_assoc t.points (p ∷ []) x.0) ∙ find_new (λ q. point_matches q p) 0 p t.points x.0 (point_self p) q ∙ ap {B = Option ℕ} Some (zero-add n)) in
          let w = was_there (corner n) B j (added L (corner n) B j B (search (Some n) found)) in
          let em' : Embeds T B (with_point p t) f = record {
            content = em.content;
            used = em.used;
            once = em.once;
            rising = em.rising;
            under = em.under;
            old = em.old;
            grown = extends_trans em.grown (grown_point p t);
          } in
          let z = element_went (with_point p t) f em' (corner n) refl tt j w.0 w.1 in
          settle (test_le (suc n) L.vertices
          (le_trans (subst (λ (k : ℕ). k ≤ length B.points) (length_snoc t.points p) (begins_length (t.points ++ p ∷ []) B.points x)) (le_test (length B.points) L.vertices good.vertex_room))) z

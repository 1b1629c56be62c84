-- A missed piece is its old entry: where all corners of an element lie on one kept side, the cut gives the element itself on that side and leaves the table.
-- By induction over the rank: the boundary gathers itself, and the search for the new piece finds the old one.
use Rattle.std.specs.Prelude.{if◌then◌else◌, Option, Some, None}
use Prim.Native.Nat.{◌-◌, ℕ, ◌<◌, suc, zero, ◌+◌}
use mathlib.Core.Bool.{Bool, true, false, not, false≢true, ◌||◌}
use mathlib.Core.List.{List, [], ◌∷◌, ◌++◌, append-nil, append_assoc}
use mathlib.Core.Path.{◌≡◌, ◌∙◌, ap, sym, refl, subst, ap₂, fun_ext}
use native.Mathlib.Nat.{not-suc-le-zero, le_of_suc-le-suc, add-zero, suc_inj, zero-add, suc-ne-zero, le_of_lt}
use native.Mathlib.Omega.{arith}
use lib.Dec.{ltb, eqb, leb, leb-zero}
use lib.Ieee.{fin, Float, below, inf, nan}
use lib.ListN.{length, get_or, drop}
use Rattle.rules.specs.Limits.{Limits}
use Rattle.rules.specs.Lists.{find, any, distinct, find_from, all, rises, with_member}
use Rattle.rules.specs.Floats.{opposite, side_of, signed_distance, crossing_of}
use Rattle.rules.specs.Table.{corner, element, Element, Table, Plane, rank, point_at, element_count, polytope, rank_of, plane_of, is_primordial, same_element, boundary_of, primordials, point_of}
use Rattle.rules.specs.Sound.{closed, sound_plane}
use Rattle.rules.specs.Cut.{next, Cutting, Params, Gathered, nothing_yet, gathering, corner_output, Step, done, cut_boundary, cut, Outcome, give, add_polytope, side_of_cut, given, add_element, share_element}
use Rattle.rules.specs.Cut.{rule7, rule6, plane_of_intersection, cut_edge, cut_higher, cut_element, cut_ends, cut_corner, distance_of, refused, add_plane, plane_matches, share_plane, cut_at_distance}
use Rattle.rules.specs.Questions.{reaches}
use Rattle.rules.specs.Held.{AllOf, Extends, Ranked}
use Rattle.rules.specs.declared.ElementAnswer.{ElementAnswer}
use Rattle.rules.specs.declared.Side.{Side}
use Rattle.rules.specs.declared.Side.TheVariants.{Inside, Outside}
use Rattle.rules.proofs.CloseBelow.{close_below, close_later}
use Rattle.rules.proofs.Corners.{good_fine}
use Rattle.rules.proofs.Good.{Good, whole_at}
use Rattle.rules.proofs.Growing.{all_get}
use Rattle.rules.proofs.Laws.{or_false, or_none, or_shift, if_true, if_false, not_true, and_left, and_right, le_test, test_above, not_eq, or_left, or_right, eqb_self, eq_test, either}
use Rattle.rules.proofs.Ranked.{ranked_all}
use Rattle.rules.proofs.Repeat.{NotInfinite}
use Rattle.rules.proofs.Selves.{element_self}
use Rattle.rules.proofs.Stays.{Stays, plane_stays}

-- ---- lists

-- where no two entries agree, a search for an entry finds it at its own number
module _ {A : Type 0} (p : A → A → Bool) (self : (x : A) → p x x ≡ true) where
  none_at : (xs : List A) (i : ℕ) (d y : A) → i < length xs → any (λ x. p x y) xs ≡ false → p (get_or xs i d) y ≡ false
  none_at [] i d y l h = absurd (not-suc-le-zero l)
  none_at (x ∷ xs) zero d y l h = (or_false (p x y) (any (λ z. p z y) xs) h).0
  none_at (x ∷ xs) (suc i) d y l h = none_at xs i d y (le_of_suc-le-suc l) (or_false (p x y) (any (λ z. p z y) xs) h).1

  pub find_own : (n i : ℕ) (xs : List A) (d : A) → i < length xs → distinct p xs ≡ true → find_from n (p (get_or xs i d)) xs ≡ Some (n + i)
  find_own n i [] d l h = absurd (not-suc-le-zero l)
  find_own n zero (x ∷ xs) d l h = if_true (p x x) (Some n) _ (self x) ∙ ap {B = Option ℕ} Some (sym (add-zero n))
  find_own n (suc i) (x ∷ xs) d l h =
      let e : suc n + i ≡ n + suc i = omega arith in
      if_false (p (get_or xs i d) x) (Some n) _ (none_at xs i d x (le_of_suc-le-suc l) (not_true _ (and_left (not (any (λ y. p y x) xs)) (distinct p xs) h)))
      ∙ find_own (suc n) i xs d (le_of_suc-le-suc l) (and_right (not (any (λ y. p y x) xs)) (distinct p xs) h) ∙ ap {B = Option ℕ} Some e

all_middle : (p : ℕ → Bool) (xs : List ℕ) (y : ℕ) (ys : List ℕ) → all p (xs ++ y ∷ ys) ≡ true → p y ≡ true
all_middle p [] y ys h = and_left (p y) (all p ys) h
all_middle p (x ∷ xs) y ys h = all_middle p xs y ys (and_right (p x) (all p (xs ++ y ∷ ys)) h)

-- the next number of a rising list comes last in the set of those before it
with_last : (xs : List ℕ) (y : ℕ) (ys : List ℕ) → rises (xs ++ y ∷ ys) ≡ true → with_member y xs ≡ xs ++ y ∷ []
with_last [] y ys h = refl
with_last (x ∷ xs) y ys h =
    let l = le_test (suc x) y (all_middle (ltb x) xs y ys (and_left (all (ltb x) (xs ++ y ∷ ys)) (rises (xs ++ y ∷ ys)) h)) in
    if_false (ltb y x) _ _ (test_above (suc y) x (omega arith)) ∙ if_false (eqb y x) _ _ (not_eq y x (omega arith))
    ∙ ap (λ (zs : List ℕ). x ∷ zs) (with_last xs y ys (and_right (all (ltb x) (xs ++ y ∷ ys)) (rises (xs ++ y ∷ ys)) h))

pub all_of_map : (P Q : ℕ → Type 0) → ((x : ℕ) → P x → Q x) → (xs : List ℕ) → AllOf P xs → AllOf Q xs
all_of_map P Q f [] h = tt
all_of_map P Q f (x ∷ xs) h = (f x h.0, all_of_map P Q f xs h.1)

-- ---- one side for both: the inside, or else the outside

abbrev pub side_by : Bool → Side
side_by true = Inside
side_by false = Outside

same_side : (inside : Bool) → opposite (side_by inside) (side_by inside) ≡ false
same_side true = refl
same_side false = refl

abbrev keeps : Cutting → Bool → Bool
keeps c inside = if inside then c.params.keep_inside else c.params.keep_outside

-- only that side's set has members
abbrev gathered_by : Bool → List ℕ → Bool → Gathered
gathered_by inside s w = record { flush = []; inside = if inside then s else []; outside = if inside then [] else s; intersections = []; warning = w }

gathered_none : (inside : Bool) → nothing_yet ≡ gathered_by inside [] false
gathered_none true = refl
gathered_none false = refl

-- the element itself on that side, as a corner is, with a warning
abbrev pub given_back : Bool → ℕ → Bool → ElementAnswer
given_back inside e w = record { output = corner_output e (side_by inside); warning = w }

gathered_more : (inside : Bool) (b : ℕ) (s : List ℕ) (v w : Bool) → gathering b (given_back inside b v) (gathered_by inside s w) ≡ gathered_by inside (with_member b s) (w || v)
gathered_more true b s v w = refl
gathered_more false b s v w = refl

-- the element answers itself, and leaves the table
abbrev Itself : Bool → (ℕ → Bool) → (ℕ → Step ElementAnswer) → Table → ℕ → Type 0
Itself inside W ask t e = ask e t ≡ done (given_back inside e (W e)) t

-- a boundary whose elements answer themselves gathers itself
boundary_gathers : (inside : Bool) (W : ℕ → Bool) (ask : ℕ → Step ElementAnswer) (t : Table) (s bs : List ℕ) (w : Bool) → AllOf (Itself inside W ask t) bs → rises (s ++ bs) ≡ true
    → cut_boundary ask bs (gathered_by inside s w) t ≡ done (gathered_by inside (s ++ bs) (w || any W bs)) t
boundary_gathers inside W ask t s [] w h r = λ j. done (gathered_by inside (sym (append-nil s) j) (sym (or_none w) j)) t
boundary_gathers inside W ask t s (b ∷ bs) w h r =
    let e = append_assoc s (b ∷ []) bs in
    ap (λ (o : Outcome ElementAnswer). next o (λ a. cut_boundary ask bs (gathering b a (gathered_by inside s w)))) h.0
    ∙ ap (λ (g : Gathered). cut_boundary ask bs g t) (gathered_more inside b s (W b) w ∙ ap (λ (l : List ℕ). gathered_by inside l (w || W b)) (with_last s b bs r))
    ∙ boundary_gathers inside W ask t (s ++ b ∷ []) bs (w || W b) h.1 (ap rises e ∙ r)
    ∙ (λ j. done (gathered_by inside (e j) (or_shift w (W b) (any W bs) j)) t)

-- ---- corners of whose sides something holds: P

abbrev CornerOn : Table → Plane → (Side → Type 0) → ℕ → Type 0
CornerOn t h P x = rank t x ≡ 0 → P (side_of (signed_distance h.normal h.distance (point_at t x)))

-- all corners of element e, of rank r
abbrev pub CornersOn : Table → Plane → (Side → Type 0) → ℕ → ℕ → Type 0
CornersOn t h P r e = (x : ℕ) → reaches t r e x ≡ true → CornerOn t h P x

pub record Clear (t : Table) (h : Plane) (P : Side → Type 0) (r e : ℕ) : Type 0 where
  pub used : e < element_count t
  pub ranked : rank t e ≡ r
  pub on : CornersOn t h P r e

clear_all : (t : Table) (h : Plane) (P : Side → Type 0) (r : ℕ) (bs : List ℕ) → AllOf (Ranked t (suc r)) bs
    → ((x : ℕ) → any (λ b. reaches t r b x) bs ≡ true → CornerOn t h P x) → AllOf (Clear t h P r) bs
clear_all t h P r [] u k = tt
clear_all t h P r (b ∷ bs) u k = (
  record { used = u.0.0; ranked = suc_inj u.0.1; on = λ x a. k x (or_left (reaches t r b x) (any (λ d. reaches t r d x) bs) a) },
  clear_all t h P r bs u.1 (λ x a. k x (or_right (reaches t r b x) (any (λ d. reaches t r d x) bs) a)),
)

-- of an element with a boundary, so have all of the boundary
pub clear_boundary : (L : Limits) (t : Table) (good : Good L t) (h : Plane) (P : Side → Type 0) (r e : ℕ) (b : List ℕ) (j : Option ℕ) (m : Bool)
    → element t e ≡ polytope (suc r) b j m → Clear t h P (suc r) e → AllOf (Clear t h P r) b
unfolding reaches
clear_boundary L t good h P r e b j m q k =
    let w = (whole_at L t e (suc r) b j m good k.used q).bound in
    clear_all t h P r b (ranked_all t e (suc r) b (le_of_lt k.used) w.under w.ranks)
    (λ x a. k.on x (or_right (eqb e x) _ (ap (λ (y : Element). any (λ d. reaches t r d x) (boundary_of y)) q ∙ a)))

-- every corner lies on this side
abbrev pub Lies : Side → Side → Type 0
Lies side s = s ≡ side

-- ---- an edge that is not crossed asks its two ends, as a higher element asks its boundary

module _ (L : Limits) (t : Table) (c : Cutting) (P : Side → Type 0) (apart : (a b : Side) → P a → P b → opposite a b ≡ false) where
  no_crossing : (sa sb : Float) → P (side_of sa) → P (side_of sb) → crossing_of sa sb ≡ None
  unfolding crossing_of
  no_crossing sa sb p q = if_false (opposite (side_of sa) (side_of sb)) _ _ (apart (side_of sa) (side_of sb) p q)

  edge_asks : (r : ℕ) (b : List ℕ) (h : Option ℕ) (m : Bool) → length b ≡ 2 → AllOf (Clear t c.params.divider P 0) b
      → cut_edge L c (polytope r b h m) t ≡ cut_higher L c (cut_element L c 0) (polytope r b h m) t
  unfolding cut_edge cut_ends cut_higher cut_element cut_corner reaches
  edge_asks r [] h m z k = absurd (let n : ⊥ = omega arith in n)
  edge_asks r (x ∷ []) h m z k = absurd (let n : ⊥ = omega arith in n)
  edge_asks r (x ∷ y ∷ []) h m z k =
      let p = k.0.on x (eqb_self x) k.0.ranked in
      let q = k.1.0.on y (eqb_self y) k.1.0.ranked in
      rw (no_crossing (distance_of c (point_at t x)) (distance_of c (point_at t y)) p q)
  edge_asks r (x ∷ y ∷ w ∷ ws) h m z k = absurd (let n : ⊥ = omega arith in n)

  pub asks : (r e : ℕ) (b : List ℕ) (h : Option ℕ) (m : Bool) → element t e ≡ polytope (suc r) b h m → closed t (suc r) b ≡ true → AllOf (Clear t c.params.divider P r) b
      → cut_element L c (suc r) e t ≡ cut_higher L c (cut_element L c r) (polytope (suc r) b h m) t
  unfolding cut_element
  asks zero e b h m q z k = ap (λ (y : Element). cut_edge L c y t) q ∙ edge_asks 1 b h m (eq_test (length b) 2 z) k
  asks (suc r) e b h m q z k = ap (λ (y : Element). cut_higher L c (cut_element L c (suc r)) y t) q

-- ---- an element that is missed

module _ (L : Limits) (t : Table) (good : Good L t) where
  module _ (e r : ℕ) (b : List ℕ) (h : Option ℕ) (m : Bool) (used : e < element_count t) (own : element t e ≡ polytope r b h m) where
    found : find (same_element (polytope r b h m)) t.elements ≡ Some e
    found =
        subst (λ (y : Element). find (same_element y) t.elements ≡ Some e) own
        (find_own same_element element_self 0 e t.elements (corner 0) used good.apart ∙ ap {B = Option ℕ} Some (zero-add e))

    -- its own boundary gives the element itself
    pub own_polytope : add_polytope L r b h m t ≡ done (given e) t
    unfolding add_polytope add_element
    own_polytope =
        let w = (whole_at L t e r b h m good used own).bound in
        let n = le_test (suc r) (length b) w.enough in
        let short = all_get (λ y. leb (length (boundary_of y)) L.boundary) t.elements e (corner 0) used good.boundary_room in
        let l = le_test (length b) L.boundary (subst (λ (y : Element). leb (length (boundary_of y)) L.boundary ≡ true) own short) in
        if_false (leb (length b) r) _ _ (test_above (length b) r n)
        ∙ if_false (ltb L.boundary (length b)) _ _ (test_above (suc L.boundary) (length b) (omega arith))
        ∙ if_false (not (closed t r b)) _ _ (ap not w.tight)
        ∙ ap (λ (o : Option ℕ). next (share_element L (polytope r b h m) o t) (λ i. give (given i))) found

module _ (L : Limits) (t : Table) (good : Good L t) (c : Cutting) where
  -- an empty boundary gives none
  empty_polytope : (r : ℕ) (h : Option ℕ) (m : Bool) → add_polytope L r [] h m t ≡ done None t
  unfolding add_polytope
  empty_polytope r h m = if_true (leb 0 r) _ _ (leb-zero r)

  empty_side : (k : Bool) (y : Element) → side_of_cut L k y None [] t ≡ done None t
  empty_side true y = empty_polytope (rank_of y) (plane_of y) (is_primordial y)
  empty_side false y = refl

  module _ (e r : ℕ) (b : List ℕ) (h : Option ℕ) (m : Bool) (used : e < element_count t) (own : element t e ≡ polytope r b h m) where
    own_side : (k : Bool) → k ≡ true → side_of_cut L k (polytope r b h m) None b t ≡ done (given e) t
    own_side true z = own_polytope L t good e r b h m used own
    own_side false z = absurd (false≢true z)

    own_rule7 : (inside w : Bool) → keeps c inside ≡ true → rule7 L c (polytope r b h m) (gathered_by inside b w) None t ≡ done (given_back inside e w) t
    unfolding rule7
    own_rule7 true w k = rw (own_side c.params.keep_inside k, empty_side c.params.keep_outside (polytope r b h m))
    own_rule7 false w k = rw (empty_side c.params.keep_inside (polytope r b h m), own_side c.params.keep_outside k)

    own_rule6 : (inside w : Bool) → keeps c inside ≡ true → rule6 L c (polytope r b h m) (gathered_by inside b w) [] t ≡ done (given_back inside e w) t
    unfolding rule6
    own_rule6 inside w k = rw (empty_polytope (r - 1) (plane_of_intersection t c r) false) (own_rule7 inside w k)

  module _ (inside : Bool) (kept : keeps c inside ≡ true) where
    abbrev ClearOf : ℕ → ℕ → Type 0
    ClearOf r e = Clear t c.params.divider (Lies (side_by inside)) r e

    abbrev close : ℕ → ℕ → Bool
    close r e = close_below c.params.divider t r e

    abbrev Missed : ℕ → ℕ → Type 0
    Missed r e = Itself inside (close r) (cut_element L c r) t e

    one_side : (a b : Side) → a ≡ side_by inside → b ≡ side_by inside → opposite a b ≡ false
    one_side a b p q = ap₂ opposite p q ∙ same_side inside

    -- from the boundary to the element
    missed_up : (r e : ℕ) → ((x : ℕ) → ClearOf r x → Missed r x) → ClearOf (suc r) e → Missed (suc r) e
    unfolding cut_higher reaches close_below
    missed_up r e below k = go (element t e) refl k.ranked
      where
        go : (y : Element) → element t e ≡ y → rank_of y ≡ suc r → Missed (suc r) e
        go (corner v) q z = absurd (suc-ne-zero r (sym z))
        go (polytope s b h m) q z =
            let own : element t e ≡ polytope (suc r) b h m = q ∙ ap (λ (n : ℕ). polytope n b h m) z in
            let w = (whole_at L t e (suc r) b h m good k.used own).bound in
            let clear = clear_boundary L t good c.params.divider (Lies (side_by inside)) r e b h m own k in
            let rest : Gathered → Step ElementAnswer = λ g. rule6 L c (polytope (suc r) b h m) g g.flush in
            asks L t c (Lies (side_by inside)) one_side r e b h m own w.tight clear
            ∙ ap (λ (g : Gathered). next (cut_boundary (cut_element L c r) b g t) rest) (gathered_none inside)
            ∙ ap (λ (o : Outcome Gathered). next o rest)
            (boundary_gathers inside (close r) (cut_element L c r) t [] b false (all_of_map (ClearOf r) (Missed r) below b clear) w.rising)
            ∙ own_rule6 e (suc r) b h m k.used own inside (any (close r) b) kept
            ∙ ap (λ (y : Element). done (given_back inside e (any (close r) (boundary_of y))) t) (sym q)

    missed : (r e : ℕ) → ClearOf r e → Missed r e
    unfolding cut_element cut_corner reaches close_below
    missed zero e k = ap (λ (s : Side). done (record { output = corner_output e s; warning = close 0 e }) t) (k.on e (eqb_self e) k.ranked)
    missed (suc r) e k = missed_up r e (missed r) k

-- ---- the whole cut

-- the divider's hyperplane is all that may be added before the elements are cut
abbrev pub Unmoved : Table → Outcome ℕ → Type 0
Unmoved t (refused n) = Unit {0}
Unmoved t (done n s) = (s.elements ≡ t.elements) × (s.points ≡ t.points)

pub plane_unmoved : (L : Limits) (h : Plane) (t : Table) → Unmoved t (add_plane L h t)
unfolding add_plane
plane_unmoved L h t = go (find_from (primordials t.dimension) (λ g. plane_matches g h) (drop (primordials t.dimension) t.planes))
  where
    go : (o : Option ℕ) → Unmoved t (share_plane L h o t)
    go (Some n) = (refl, refl)
    go None = either (Unmoved t) (ltb (length t.planes) L.hyperplanes) _ _ (refl, refl) tt

reaches_same : (t s : Table) → s.elements ≡ t.elements → (r e x : ℕ) → reaches s r e x ≡ reaches t r e x
unfolding reaches
reaches_same t s q zero e x = refl
reaches_same t s q (suc r) e x =
    ap₂ (λ (p : ℕ → Bool) (es : List Element). eqb e x || any p (boundary_of (get_or es e (corner 0)))) (fun_ext (λ b. reaches_same t s q r b x)) q

-- a table with the same elements and points has the same corners on that side
clear_same : (t s : Table) (h : Plane) (P : Side → Type 0) (r e : ℕ) → s.elements ≡ t.elements → s.points ≡ t.points → Clear t h P r e → Clear s h P r e
clear_same t s h P r e q p k = record {
  used = subst (λ (es : List Element). e < length es) (sym q) k.used;
  ranked = ranks e ∙ k.ranked;
  on = λ x a z.
      subst P (sym (ap₂ (λ (es : List Element) (ps : List (List Float)). side_of (signed_distance h.normal h.distance (point_of ps (get_or es x (corner 0))))) q p))
      (k.on x (sym (reaches_same t s q r e x) ∙ a) (sym (ranks x) ∙ z));
}
  where
    ranks : (x : ℕ) → rank s x ≡ rank t x
    ranks x = ap (λ (es : List Element). rank_of (get_or es x (corner 0))) q

-- the parameters of a cut, with the number of its divider's hyperplane
abbrev pub numbered : Params → ℕ → Cutting
numbered p n = record { params = p; number = n }

module _ (L : Limits) (t : Table) (good : Good L t) (p : Params) (fits : sound_plane t.dimension p.divider ≡ true) (finite : NotInfinite p.divider.distance)
    (root : ℕ) (used : root < element_count t) where
  abbrev h : Plane
  h = p.divider

  -- a cut whose elements leave the table adds at most the divider's hyperplane
  pub only_plane_lem : (P : Side → Type 0) (a : ElementAnswer) → CornersOn t h P (rank t root) root
      → ((n : ℕ) (s : Table) → Good L s → Extends t s → Clear s h P (rank t root) root → cut_element L (numbered p n) (rank t root) root s ≡ done a s)
      → cut L p root t ≡ next (add_plane L h t) (λ n. give a)
  unfolding cut
  only_plane_lem P a on leaves = at h.distance finite
    where
      go : (x : Outcome ℕ) → Stays L (λ (n : ℕ) (s : Table). n < length s.planes) t x → Unmoved t x
          → next x (λ n s. cut_element L (numbered p n) (rank s root) root s) ≡ next x (λ n. give a)
      go (refused n) k m = refl
      go (done n s) k m =
          let clear = clear_same t s h P (rank t root) root m.0 m.1 (record { used = used; ranked = refl; on = on }) in
          ap (λ (r : ℕ). cut_element L (numbered p n) r root s) clear.ranked ∙ leaves n s k.good k.extends clear

      at : (d : Float) → NotInfinite d → cut_at_distance L p d root t ≡ next (add_plane L h t) (λ n. give a)
      at (inf false) z = absurd z
      at (inf true) z = absurd z
      at nan z = go (add_plane L h t) (plane_stays L t good h fits) (plane_unmoved L h t)
      at (fin b m e) z = go (add_plane L h t) (plane_stays L t good h fits) (plane_unmoved L h t)

  -- a cut that misses the root gives it back on its side
  pub missed_cut : (inside : Bool) → (if inside then p.keep_inside else p.keep_outside) ≡ true → CornersOn t h (Lies (side_by inside)) (rank t root) root
      → cut L p root t ≡ next (add_plane L h t) (λ n. give (given_back inside root (close_below h t (rank t root) root)))
  missed_cut inside kept on =
      only_plane_lem (Lies (side_by inside)) (given_back inside root (close_below h t (rank t root) root)) on (λ n s k x clear.
      missed L s k (numbered p n) inside kept (rank t root) root clear
      ∙ ap (λ (w : Bool). done (given_back inside root w) s) (close_later h t s (good_fine L t good) x (rank t root) root used))

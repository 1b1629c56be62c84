-- 3, 4 and 5: a sound memory's counts tell what the table tells, and the reply of every entry point is read off what was asked.
use Rattle.std.specs.Prelude.{if◌then◌else◌, Err, Ok}
use Prim.Native.Nat.{ℕ, suc, ◌<◌}
use mathlib.Core.Bool.{Bool, true, false, not, ◌&&◌, false≢true}
use mathlib.Core.List.{List}
use mathlib.Core.Path.{◌≡◌, refl, sym, ap, ◌∙◌}
use native.Mathlib.Omega.{arith}
use lib.Dec.{eqb, ltb}
use lib.Ieee.{Float, nan, inf, fin}
use lib.ListN.{length, get_or, take, drop}
use Rattle.rules.specs.Limits.{desk}
use Rattle.rules.specs.Floats.{plus_zero, same_bits, within, farthest_plane, unit}
use Rattle.rules.specs.Lists.{all}
use Rattle.rules.specs.Table.{Table, element_count}
use Rattle.rules.specs.Memory.{Memory, decode, sound_memory}
use Rattle.rules.specs.Held.{Holds, memory_of}
use Rattle.rules.specs.Questions.{Asked, no_answer}
use Rattle.rules.specs.Replies as replies
use Rattle.rules.specs.Replies.{distance_fits, divider_fits}
use Rattle.rules.specs.declared.Hyperplane.{Hyperplane}
use Rattle.rules.proofs.Laws.{not_both, and_left, and_right, le_test, test_eq, eq_test}
use Rattle.hypermath.specs.Answers.{unit_normal, distance_kind}
use Rattle.hypermath.specs.declared.DistanceKind.{DistanceKind}
use Rattle.hypermath.specs.declared.DistanceKind.TheVariants.{Unfit, Finite, PlusInfinity, MinusInfinity}
use Rattle.space.proofs.Lent.{memory_holds}
use Rattle.space.proofs.RowAdds.{readable_desk}
use Rattle.space.proofs.Slices.{slices}
use Rattle.soundness.specs.Asked.{at_distance, asked_of, asked, roots_asked}
use Rattle.soundness.specs.declared.asked.Asking.{Asking}
use Rattle.soundness.specs.declared.asked.Asking.TheVariants as asking
use Rattle.rules.specs.declared.Refusal.TheVariants.{NotInUse, NotSound, Divider}
use Rattle.rules.specs.Refusals.{Reply}
use Rattle.rules.specs.declared.Refusal.{Refusal}

-- ---- what a sound memory tells of its table

module _ (cs : List ℕ) (ps hs : List Float) (es : List ℕ) where
  abbrev pub memory : Memory
  memory = memory_of cs ps hs es

  abbrev pub table : Table
  table = decode desk (memory_of cs ps hs es)

  abbrev pub in_use : List ℕ → Bool
  in_use roots = all (λ e. ltb e (element_count (decode desk (memory_of cs ps hs es)))) roots

  module _ (s : sound_memory desk memory ≡ true) where
    pub held : Holds desk cs ps hs es table
    held = memory_holds desk readable_desk memory s

    pub counts_long : length cs ≡ 4
    counts_long = (slices held).counts

    pub dimension_known : get_or cs 0 0 ≡ table.dimension
    dimension_known = (slices held).dimension

    pub count_known : get_or cs 1 0 ≡ element_count table
    count_known = (slices held).element_count

    pub counted : (roots : List ℕ) {b : Bool} → all (λ e. ltb e (get_or cs 1 0)) roots ≡ b → in_use roots ≡ b
    counted roots e = sym (ap (λ (n : ℕ). all (λ y. ltb y n) roots) count_known) ∙ e

-- ---- a root and a divider

-- the answer by the three tests and the distance
abbrev asked_by : Bool → Bool → Bool → Float → Reply Asking
asked_by a b c x =
    if not a then Err NotSound
    else if not b then Err NotInUse
    else if not c then Err Divider else at_distance (Ok asking.AllInside) (Ok asking.AllOutside) (Ok asking.Finite) x

pub asked_three : (cs : List ℕ) (ps hs : List Float) (es : List ℕ) (h : Hyperplane) (root : ℕ) → sound_memory desk (memory_of cs ps hs es) ≡ false
    → Err NotSound ≡ asked (memory_of cs ps hs es) h root
unfolding asked
asked_three cs ps hs es h root p i = if not (sym p i) then Err NotSound else asked_of (table cs ps hs es).dimension (element_count (table cs ps hs es)) h root

pub asked_sound : (cs : List ℕ) (ps hs : List Float) (es : List ℕ) (h : Hyperplane) (root : ℕ) → sound_memory desk (memory_of cs ps hs es) ≡ true
    → asked_of (get_or cs 0 0) (get_or cs 1 0) h root ≡ asked (memory_of cs ps hs es) h root
unfolding asked
asked_sound cs ps hs es h root p =
    (λ i. asked_of (dimension_known cs ps hs es p i) (count_known cs ps hs es p i) h root)
    ∙ (λ i. if not (sym p i) then Err NotSound else asked_of (table cs ps hs es).dimension (element_count (table cs ps hs es)) h root)

-- of a distance by its kind
abbrev pub kind_asked : DistanceKind → Reply Asking
kind_asked Unfit = Err Divider
kind_asked Finite = Ok asking.Finite
kind_asked PlusInfinity = Ok asking.AllInside
kind_asked MinusInfinity = Ok asking.AllOutside

abbrev fit_asked : Bool → Float → Reply Asking
fit_asked b x = if not b then Err Divider else at_distance (Ok asking.AllInside) (Ok asking.AllOutside) (Ok asking.Finite) x

kind_is : (x : Float) → kind_asked (distance_kind x) ≡ fit_asked (distance_fits x) x
unfolding distance_kind
kind_is nan = refl
kind_is (inf false) = refl
kind_is (inf true) = refl
kind_is (fin s k e) = go (within farthest_plane (fin s k e))
  where
    go : (b : Bool) → kind_asked (if b then Finite else Unfit) ≡ fit_asked b (fin s k e)
    go true = refl
    go false = refl

-- the code's tests, of a normal by value, which has a component for each axis
module _ (d n root : ℕ) (h : Hyperplane) (long : length h.normal ≡ 4) where
  asked_by_lem : (b c : Bool) → ltb root n ≡ b → divider_fits desk d h ≡ c → (if not b then Err NotInUse else fit_asked c h.distance) ≡ asked_of d n h root
  unfolding asked_of
  asked_by_lem b c p q i = if not (sym p i) then Err NotInUse else fit_asked (sym q i) h.distance

  divider_is : (u : Bool) → unit_normal d h.normal ≡ u → divider_fits desk d h ≡ (u && distance_fits h.distance)
  unfolding divider_fits
  divider_is u p =
      ap (λ (b : Bool). ((b && unit (take d h.normal)) && all (same_bits plus_zero) (drop d h.normal)) && distance_fits h.distance) (test_eq (length h.normal) 4 long)
      ∙ ap (λ (b : Bool). b && distance_fits h.distance) p

  pub asked_unused : ltb root n ≡ false → Err NotInUse ≡ asked_of d n h root
  asked_unused p = asked_by_lem false _ p refl

  module _ (used : ltb root n ≡ true) where
    pub asked_not_unit : unit_normal d h.normal ≡ false → Err Divider ≡ asked_of d n h root
    asked_not_unit p = asked_by_lem true false used (divider_is false p)

    pub asked_kind : (k : DistanceKind) → unit_normal d h.normal ≡ true → k ≡ distance_kind h.distance → kind_asked k ≡ asked_of d n h root
    asked_kind k p q = ap kind_asked q ∙ kind_is h.distance ∙ asked_by_lem true (distance_fits h.distance) used (divider_is true p)

-- what an entry point makes of an answer: of a refusal, of each side of rule 1, and of a plane to be tested against
abbrev pub answered : {A : Type 0} → (Refusal → A) → A → A → A → Reply Asking → A
answered refuse inside outside finite (Err n) = refuse n
answered refuse inside outside finite (Ok asking.AllInside) = inside
answered refuse inside outside finite (Ok asking.AllOutside) = outside
answered refuse inside outside finite (Ok asking.Finite) = finite

-- the reply of an entry point, by the rules
abbrev pub replied : {A : Type 0} → (Refusal → A) → A → Memory → Hyperplane → ℕ → A
replied refuse go m h root =
    let t = decode desk m in
    if not (sound_memory desk m) then refuse NotSound
    else if not (ltb root (element_count t)) then refuse NotInUse
    else if not (divider_fits desk t.dimension h) then refuse Divider
    else go

-- the one law: whatever an entry point makes of what was asked is its reply
pub asked_law : {A : Type 0} (refuse : Refusal → A) (inside outside finite : A) (m : Memory) (h : Hyperplane) (root : ℕ)
    → answered refuse inside outside finite (asked m h root) ≡ replied refuse (at_distance inside outside finite h.distance) m h root
unfolding asked asked_of
asked_law {A} refuse inside outside finite m h root =
    go (sound_memory desk m) (ltb root (element_count (decode desk m))) (divider_fits desk (decode desk m).dimension h) h.distance
  where
    go : (a b c : Bool) (x : Float) → answered refuse inside outside finite (asked_by a b c x)
        ≡ (if not a then refuse NotSound else if not b then refuse NotInUse else if not c then refuse Divider else at_distance inside outside finite x)
    go false b c x = refl
    go true false c x = refl
    go true true false x = refl
    go true true true nan = refl
    go true true true (inf false) = refl
    go true true true (inf true) = refl
    go true true true (fin s k e) = refl

-- what fits, part by part
pub record DividerParts (d : ℕ) (h : Hyperplane) : Type 0 where
  pub long : length h.normal ≡ 4
  pub units : unit (take d h.normal) ≡ true
  pub zeros : all (same_bits plus_zero) (drop d h.normal) ≡ true
  pub distance : distance_fits h.distance ≡ true

divider_parts : (d : ℕ) (h : Hyperplane) → divider_fits desk d h ≡ true → DividerParts d h
unfolding divider_fits
divider_parts d h f =
    parts (eqb (length h.normal) 4) (unit (take d h.normal)) (all (same_bits plus_zero) (drop d h.normal)) (distance_fits h.distance) refl refl refl refl f
  where
    parts : (a b c e : Bool) → eqb (length h.normal) 4 ≡ a → unit (take d h.normal) ≡ b → all (same_bits plus_zero) (drop d h.normal) ≡ c → distance_fits h.distance ≡ e
        → (((a && b) && c) && e) ≡ true → DividerParts d h
    parts a b c e p q r s f =
        let x = and_left ((a && b) && c) e f in
        let y = and_left (a && b) c x in
        record {
          long = eq_test (length h.normal) 4 (p ∙ and_left a b y);
          units = q ∙ and_right a b y;
          zeros = r ∙ and_right (a && b) c x;
          distance = s ∙ and_right ((a && b) && c) e f;
        }

finite_within : (x : Float) → distance_fits x ≡ true → at_distance {A = ℕ} 1 1 0 x ≡ 0 → within farthest_plane x ≡ true
finite_within nan f z = absurd (false≢true f)
finite_within (inf false) f z = absurd (let y : ⊥ = omega (arith, z) in y)
finite_within (inf true) f z = absurd (let y : ⊥ = omega (arith, z) in y)
finite_within (fin s k e) f z = f

-- every test was passed
pub record TestsPassed (m : Memory) (h : Hyperplane) (root : ℕ) : Type 0 where
  pub sound : sound_memory desk m ≡ true
  pub used : root < element_count (decode desk m)
  pub fits : DividerParts (decode desk m).dimension h

-- what was answered tells whether it was refused, and then whether the distance is infinite
module _ (m : Memory) (h : Hyperplane) (root : ℕ) where
  abbrev tests : {A : Type 0} → (Refusal → A) → A → Bool → Bool → Bool → A
  tests refuse go a b c = if not a then refuse NotSound else if not b then refuse NotInUse else if not c then refuse Divider else go

  passed_by : (n : ℕ) → replied (λ k. 1) n m h root ≡ 0 → TestsPassed m h root × (n ≡ 0)
  passed_by n z =
      go (sound_memory desk m) (ltb root (element_count (decode desk m))) (divider_fits desk (decode desk m).dimension h) refl refl refl z
    where
      go : (a b c : Bool) → sound_memory desk m ≡ a → ltb root (element_count (decode desk m)) ≡ b → divider_fits desk (decode desk m).dimension h ≡ c
          → tests (λ k. 1) n a b c ≡ 0 → TestsPassed m h root × (n ≡ 0)
      go false b c p u f z = absurd (let y : ⊥ = omega (arith, z) in y)
      go true false c p u f z = absurd (let y : ⊥ = omega (arith, z) in y)
      go true true false p u f z = absurd (let y : ⊥ = omega (arith, z) in y)
      go true true true p u f z =
          (record { sound = p; used = le_test (suc root) (element_count (decode desk m)) u; fits = divider_parts (decode desk m).dimension h f }, z)

  pub asked_passed : {a : Reply Asking} → a ≡ asked m h root → answered {A = ℕ} (λ n. 1) 0 0 0 a ≡ 0 → TestsPassed m h root
  asked_passed {a} q z =
      (passed_by _ (sym (asked_law {A = ℕ} (λ n. 1) 0 0 0 m h root) ∙ ap (answered {A = ℕ} (λ n. 1) 0 0 0) (sym q) ∙ z)).0

  pub asked_finite : Ok asking.Finite ≡ asked m h root → within farthest_plane h.distance ≡ true
  asked_finite q =
      let p = passed_by _ (sym (asked_law {A = ℕ} (λ n. 1) 1 1 0 m h root) ∙ ap (answered {A = ℕ} (λ n. 1) 1 1 0) (sym q)) in
      finite_within h.distance p.0.fits.distance p.1

-- ---- some roots

module _ (cs : List ℕ) (ps hs : List Float) (es roots : List ℕ) where
  abbrev m : Memory
  m = memory_of cs ps hs es

  asked_tests : (a b : Bool) → sound_memory desk m ≡ a → in_use cs ps hs es roots ≡ b
      → (if not a then Err NotSound else if not b then Err NotInUse else Ok tt) ≡ roots_asked m roots
  unfolding roots_asked
  asked_tests a b p r i = if not (sym p i) then Err NotSound else if not (sym r i) then Err NotInUse else Ok tt

  pub three : sound_memory desk m ≡ false → Err NotSound ≡ roots_asked m roots
  three s = asked_tests false _ s refl

  pub four : sound_memory desk m ≡ true → in_use cs ps hs es roots ≡ false → Err NotInUse ≡ roots_asked m roots
  four s u = asked_tests true false s u

  pub none_refused : sound_memory desk m ≡ true → in_use cs ps hs es roots ≡ true → Ok tt ≡ roots_asked m roots
  none_refused s u = asked_tests true true s u

  -- r is what the code found; q is what is asked where nothing is refused
  module _ (r : Reply (Unit {0})) (e : r ≡ roots_asked m roots) where
    question_by : {A : Type 0} (q : Asked A) (a b : Bool) → sound_memory desk m ≡ a → in_use cs ps hs es roots ≡ b
        → (if not a then no_answer NotSound else if not b then no_answer NotInUse else q) ≡ replies.asked desk m roots q
    question_by q a b p u i = if not (sym p i) then no_answer NotSound else if not (sym u i) then no_answer NotInUse else q

    pub refused : {A : Type 0} (q : Asked A) (x : Refusal) → r ≡ Err x → no_answer x ≡ replies.asked desk m roots q
    refused {A} q x z = go (sound_memory desk m) (in_use cs ps hs es roots) refl refl
      where
        same : (y : Refusal) → Err y ≡ roots_asked m roots → x ≡ y
        same y f = let w : ◌≡◌ {A = Reply (Unit {0})} (Err x) (Err y) = sym z ∙ e ∙ sym f in cc

        go : (a b : Bool) → sound_memory desk m ≡ a → in_use cs ps hs es roots ≡ b → no_answer x ≡ replies.asked desk m roots q
        go false b p u = ap (λ (n : Refusal). no_answer n) (same NotSound (asked_tests false b p u)) ∙ question_by q false b p u
        go true false p u = ap (λ (n : Refusal). no_answer n) (same NotInUse (asked_tests true false p u)) ∙ question_by q true false p u
        go true true p u = not_both (sym z ∙ e ∙ sym (asked_tests true true p u))

    module _ (z : r ≡ Ok tt) where
      pub goes_on : (sound_memory desk m ≡ true) × (in_use cs ps hs es roots ≡ true)
      goes_on = go (sound_memory desk m) (in_use cs ps hs es roots) refl refl
        where
          go : (a b : Bool) → sound_memory desk m ≡ a → in_use cs ps hs es roots ≡ b → (a ≡ true) × (b ≡ true)
          go false b p u = not_both (asked_tests false b p u ∙ sym e ∙ z)
          go true false p u = not_both (asked_tests true false p u ∙ sym e ∙ z)
          go true true p u = (refl, refl)

      pub question_is : {A : Type 0} (q : Asked A) → q ≡ replies.asked desk m roots q
      question_is q = question_by q true true goes_on.0 goes_on.1

-- Sharing a hyperplane is the step of the rules; and its search, over the hyperplanes that are read back, is theirs.
use Rattle.std.specs.Prelude.{if◌then◌else◌, Option, Some, None, Ok, Err}
use Prim.Native.Nat.{ℕ, ◌<◌, zero, suc, ◌≤◌, ◌*◌, ◌+◌}
use mathlib.Core.Bool.{Bool, true, false}
use mathlib.Core.List.{List, ◌∷◌, []}
use mathlib.Core.Path.{◌≡◌, refl, ◌∙◌, ap, subst, sym, ap₂}
use native.Mathlib.Nat.{le_trans, le_of_eq}
use native.Mathlib.Omega.{arith}
use lib.Dec.{ltb}
use lib.Ieee.{Float}
use lib.ListN.{set, length, get_or, length-append, drop}
use lib.Seq.{sets, take-take}
use Rattle.rules.specs.Cut.{share_plane, done, with_plane, refused, plane_matches, add_plane}
use Rattle.rules.specs.Floats.{plus_zero}
use Rattle.rules.specs.Held.{Holds, went, stopped, elements_of, points_of, Fits, planes_of, Came}
use Rattle.rules.specs.Limits.{desk}
use Rattle.rules.specs.Lists.{find_from}
use Rattle.rules.specs.Memory.{plane_row, read_plane}
use Rattle.rules.specs.Replies.{divider_of}
use Rattle.rules.specs.Sound.{sound_plane}
use Rattle.rules.specs.Table.{primordials, Table, Plane}
use Rattle.rules.specs.declared.Hyperplane.{Hyperplane}
use Rattle.rules.specs.declared.HyperplaneId.{HyperplaneId}
use Rattle.hypermath.specs.Answers.{hyperplane_number, hyperplane_of, planes_in}
use Rattle.rules.proofs.Extends.{extends_refl}
use Rattle.rules.proofs.Good.{Good, sound_good}
use Rattle.rules.proofs.Laws.{le_test}
use Rattle.rules.proofs.RoundTrip.{plane_read, plane_long}
use Rattle.rules.proofs.Rows.{read_rows}
use Rattle.space.specs.Shared.{five, new_hyperplane, hyperplane_by, plane_outcome, plane_found, hyperplane_outcome, HyperplaneShared, hyperplane_at, row_of, HyperplaneAdded}
use Rattle.space.proofs.Room.{wide_more, plane_counted_lem, plane_stored}
use Rattle.space.proofs.RowAdds.{readable_desk}
use Rattle.space.proofs.Slices.{slices}
use Rattle.space.proofs.VertexMemo.{four_is, dimension_is}
use borrow.Author.Tests.{le-ltb, lt-ltb}
use Rattle.rules.specs.declared.Refusal.TheVariants.{HyperplanesFull}
use Rattle.rules.specs.Refusals.{Reply}
use Rattle.rules.specs.declared.Refusal.TheVariants.{HyperplanesFull}

pub primordials_none : (d : ℕ) → d < 2 → 0 ≡ primordials d
primordials_none zero h = refl
primordials_none (suc zero) h = refl
primordials_none (suc (suc d)) h = absurd (let z : ⊥ = omega arith in z)

pub primordials_two : (d : ℕ) → 2 ≤ d → 2 * d ≡ primordials d
primordials_two zero h = absurd (let z : ⊥ = omega arith in z)
primordials_two (suc zero) h = absurd (let z : ⊥ = omega arith in z)
primordials_two (suc (suc d)) h = refl

pub five_is : (p : List Float) → length p ≡ 5 → five p ≡ p
five_is [] h = absurd (let z : ⊥ = omega (arith, h) in z)
five_is (a ∷ []) h = absurd (let z : ⊥ = omega (arith, h) in z)
five_is (a ∷ b ∷ []) h = absurd (let z : ⊥ = omega (arith, h) in z)
five_is (a ∷ b ∷ c ∷ []) h = absurd (let z : ⊥ = omega (arith, h) in z)
five_is (a ∷ b ∷ c ∷ d ∷ []) h = absurd (let z : ⊥ = omega (arith, h) in z)
five_is (a ∷ b ∷ c ∷ d ∷ e ∷ []) h = refl
five_is (a ∷ b ∷ c ∷ d ∷ e ∷ f ∷ r) h = absurd (let z : ⊥ = omega (arith, h) in z)

number : {cs : List ℕ} {ps hs : List Float} {es : List ℕ} {t : Table} (n : ℕ) → n ≡ get_or cs 3 0 → Holds desk cs ps hs es t → n ≡ length t.planes
number n k H = k ∙ (slices H).plane_count

-- the outcome where none was found, by the test for room
by_room : (cs : List ℕ) (hs row : List Float) (m : Option HyperplaneId) → m ≡ None → (b : Bool) → ltb (get_or cs 3 0) 64 ≡ b → plane_outcome cs hs row (hyperplane_number m) ≡ hyperplane_by cs hs row b
unfolding plane_outcome
by_room cs hs row m e b t = ap (λ (x : Option HyperplaneId). plane_outcome cs hs row (hyperplane_number x)) e ∙ ap (hyperplane_by cs hs row) t

module _ {cs : List ℕ} {hs : List Float} {row : List Float} {m : Option HyperplaneId} where
  pub shared_old : (k : HyperplaneId) → m ≡ Some k → HyperplaneShared cs hs row m (Ok k) cs hs
  unfolding plane_outcome
  shared_old k e = record {
    words = sym (ap (λ (x : Option HyperplaneId). plane_outcome cs hs row (hyperplane_number x)) e);
    of = λ ps es t g H w l. went k.0 t (ap (λ (x : Option HyperplaneId). share_plane desk g (hyperplane_number x) t) e) refl H;
  }

  module _ (n : ℕ) (k : n ≡ get_or cs 3 0) (e : m ≡ None) where
    pub shared_full : 64 ≤ n → HyperplaneShared cs hs row m (Err HyperplanesFull) cs hs
    shared_full h = record {
      words = sym (by_room cs hs row m e false (le-ltb (get_or cs 3 0) 64 (subst (λ (i : ℕ). 64 ≤ i) k h)));
      of = λ ps es t g H w l.
          stopped HyperplanesFull t
          (ap (λ (x : Option HyperplaneId). share_plane desk g (hyperplane_number x) t) e
          ∙ ap (λ (b : Bool). if b then done (length t.planes) (with_plane g t) else refused HyperplanesFull) (le-ltb (length t.planes) 64 (subst (λ (i : ℕ). 64 ≤ i) (number n k H) h)))
          refl (extends_refl t) H;
    }

    pub shared_new : {hs' : List Float} → n < 64 → hs' ≡ sets hs (n * 5) (five row) → HyperplaneShared cs hs row m (hyperplane_at n) (set cs 3 (n + 1)) hs'
    unfolding elements_of points_of
    shared_new {hs'} h s = record {
      words = (λ i. record { reply = hyperplane_at n; counts = set cs 3 (n + 1); planes = s i }) ∙ ap (new_hyperplane cs hs row) k ∙ sym (by_room cs hs row m e true (lt-ltb (get_or cs 3 0) 64 (subst (λ (j : ℕ). j < 64) k h)));
      of = λ ps es t g H w l.
          (let i = number n k H in
          let u : length t.planes < 64 = subst (λ (j : ℕ). j < 64) i h in
          let z : length (plane_row desk g) ≡ 5 = sym (ap length w) ∙ l in
          let H' : Holds desk (set cs 3 (n + 1)) ps hs' es (with_plane g t) = record {
            counts = ap₂ (λ (c : List ℕ) (j : ℕ). set c 3 (j + 1)) H.counts i ∙ sym (plane_counted_lem desk t H.fits g);
            points = H.points;
            planes = s ∙ ap (sets hs (n * 5)) (five_is row l) ∙ (λ j. sets (H.planes j) (i j * 5) (w j)) ∙ sym (plane_stored desk t H.fits g u z);
            elements = H.elements;
            fits = fitted t H.fits g u z;
          } in
          went n (with_plane g t)
          (ap (λ (x : Option HyperplaneId). share_plane desk g (hyperplane_number x) t) e
          ∙ ap (λ (b : Bool). if b then done (length t.planes) (with_plane g t) else refused HyperplanesFull) (lt-ltb (length t.planes) 64 u)
          ∙ ap (λ (j : ℕ). done j (with_plane g t)) (sym i)) refl H');
    }
      where
        fitted : (t : Table) → Fits desk t → (g : Plane) → length t.planes < 64 → length (plane_row desk g) ≡ 5 → Fits desk (with_plane g t)
        fitted t F g u z = record {
          element_room = F.element_room;
          point_room = F.point_room;
          plane_room = le_trans (le_of_eq (length-append t.planes (g ∷ []))) (let y : length t.planes + 1 ≤ 64 = omega (arith, u) in y);
          elements = F.elements;
          kinds = F.kinds;
          points = F.points;
          planes = wide_more 5 (plane_row desk) t.planes g F.planes z;
        }

-- ---- the hyperplanes of a sound table, as they are read back

row_back : (d : ℕ) → d ≤ 4 → (g : Plane) → sound_plane d g ≡ true → divider_of d (hyperplane_of (plane_row desk g)) ≡ g
unfolding read_plane
row_back d l g s =
    (λ i. record { normal = take-take d 4 (plane_row desk g) l i; distance = get_or (plane_row desk g) 4 plus_zero })
    ∙ plane_read desk readable_desk d l g s

planes_back : (t : Table) → Good desk t → planes_in t.dimension (length t.planes) (planes_of desk t) ≡ t.planes
unfolding planes_of
planes_back t g =
    let d = t.dimension in
    let l = le_test d 4 g.high in
    read_rows plus_zero (64 * 5) 5 (plane_row desk) (λ row. divider_of d (hyperplane_of row)) (sound_plane d) t.planes (plane_long desk readable_desk d l) (row_back d l) g.planes

-- a lent hyperplane is the plane that its row is written of
plane_is : (d : ℕ) → d ≤ 4 → (h : Hyperplane) → length h.normal ≡ 4 → (g : Plane) → row_of h ≡ plane_row desk g → sound_plane d g ≡ true → divider_of d h ≡ g
plane_is d l h k g w s =
    (λ i. divider_of d (record { normal = sym (four_is h.normal k) i; distance = h.distance }))
    ∙ ap (λ (row : List Float). divider_of d (hyperplane_of row)) w ∙ row_back d l g s

pub hyperplane_added : {cs : List ℕ} {hs : List Float} {h : Hyperplane} {row : List Float} {m : Option HyperplaneId} {r : Reply HyperplaneId} {cs' : List ℕ} {hs' : List Float} (d k n : ℕ)
    → d ≡ get_or cs 0 0 → k ≡ primordials d → n ≡ get_or cs 3 0 → length h.normal ≡ 4 → row ≡ row_of h
    → hyperplane_number m ≡ find_from k (λ g. plane_matches g (divider_of d h)) (drop k (planes_in d n hs)) → HyperplaneShared cs hs row m r cs' hs' → HyperplaneAdded cs hs h r cs' hs'
unfolding add_plane hyperplane_outcome
hyperplane_added {cs} {hs} {h} {row} {m} {r} {cs'} {hs'} d k n hd hk hn long hr f S = record {
  words = S.words ∙ ap₂ (plane_outcome cs hs) hr (f ∙ ap (λ (j : ℕ). plane_found d j n hs h) hk ∙ (λ i. plane_found (hd i) (primordials (hd i)) (hn i) hs h));
  of = λ ps es t g H z w s.
      (let G = sound_good desk t z in
      let P = primordials t.dimension in
      let i : n ≡ length t.planes = number n hn H in
      let j : d ≡ t.dimension = dimension_is d hd H in
      let p : k ≡ P = hk ∙ ap primordials j in
      let o : hyperplane_number m ≡ find_from P (λ x. plane_matches x g) (drop P t.planes) =
      f ∙ (λ a. find_from (p a) (λ x. plane_matches x (divider_of (j a) h)) (drop (p a) (planes_in (j a) (i a) (H.planes a))))
      ∙ ap₂ (λ (y : Plane) (xs : List Plane). find_from P (λ x. plane_matches x y) (drop P xs)) (plane_is t.dimension (le_test t.dimension 4 G.high) h long g w s) (planes_back t G) in
      subst (λ (x : Option ℕ). Came hyperplane_at Err (Holds desk cs' ps hs' es) t (share_plane desk g x t) r) o (S.of ps es t g H (hr ∙ w) (ap length hr)));
}

-- The pass: what is marked is reached from the root, and from each element that it has gone by, the boundary is marked; so at the end the marks are what is reached.
use Prim.Native.Nat.{ℕ, suc, ◌+◌, ◌*◌, ◌-◌, ◌<◌, ◌≤◌}
use mathlib.Core.Bool.{Bool, true, false, ◌||◌, false≢true}
use mathlib.Core.List.{List, [], ◌∷◌, map}
use mathlib.Core.Path.{◌≡◌, refl, sym, ap, ap₂, subst, ◌∙◌}
use native.Mathlib.Nat.{not-suc-le-zero, zero-lt-suc, le_trans, le_of_lt, le_refl, pos_of_ne-zero}
use native.Mathlib.Numerals.{add-one}
use native.Mathlib.Omega.{arith}
use lib.Dec.{eqb, ltb, leb}
use lib.ListN.{length, get_or}
use Rattle.rules.specs.Limits.{desk}
use Rattle.rules.specs.Lists.{all, member, up_from, up_to}
use Rattle.rules.specs.Table.{Table, Element, corner, polytope, element, element_count, rank, rank_of, boundary, boundary_of}
use Rattle.rules.specs.Questions.{is_below, sub_elements}
use Rattle.rules.specs.Asking.{Reaches, itself, lower, border}
use Rattle.rules.specs.Promises.{Bordered}
use Rattle.rules.proofs.Borders.{sound_bordered}
use Rattle.rules.proofs.Good.{above_zero, sound_good}
use Rattle.rules.proofs.Growing.{all_get}
use Rattle.rules.proofs.FaceEdges.{member_at}
use Rattle.rules.proofs.Laws.{or_case, or_left, or_right, eq_test, test_le, le_test, not_le, and_true, refute, eqb_self, unlike_eq, both_ways}
use Rattle.rules.proofs.Reach.{some_at, is_below_lem}
use Rattle.space.proofs.Room.{elements_size, size_of, list_of, rank_word, size_word_lem, list_word_lem}
use Rattle.elements.specs.Marks.{is_marked, marking, marking_all, NoneMarked, DownTo, marked_numbers}
use Rattle.elements.specs.Below.{Lent, Used, boundary_word, boundary_numbers, BoundaryReady, PassedFrom, Onward, Below}
use Rattle.elements.proofs.MarkLaws.{marking_long, marking_all_long, marked_all, marked_alone}
use Rattle.elements.proofs.MemberLaws.{members_are}

-- ---- the boundary's numbers, one after another

-- those from i on are left to mark
pub record Marking (es : List ℕ) (e n : ℕ) (ws₀ ws : List ℕ) (i : ℕ) : Type 0 where
  pub of : marking_all ws₀ (boundary_numbers es e) ≡ marking_all ws (map (boundary_word es e) (up_from i (n - i)))

marking_on : (ws xs : List ℕ) (x : ℕ) → marking_all ws (x ∷ xs) ≡ marking_all (marking ws x) xs
unfolding marking_all
marking_on ws xs x = refl

marking_none : (ws : List ℕ) → marking_all ws [] ≡ ws
unfolding marking_all
marking_none ws = refl

pub marking_start : (es : List ℕ) (e n : ℕ) (ws : List ℕ) → n ≡ get_or es (e * 36 + 3) 0 → Marking es e n ws ws 0
unfolding boundary_numbers
marking_start es e n ws q = record { of = ap (λ (k : ℕ). marking_all ws (map (boundary_word es e) (up_from 0 k))) (let z : get_or es (e * 36 + 3) 0 ≡ n - 0 = omega (arith, q) in z) }

module _ (es : List ℕ) (e n : ℕ) (ws₀ ws : List ℕ) (i : ℕ) (m : Marking es e n ws₀ ws i) where
  pub marking_next : (x : ℕ) (ws' : List ℕ) → i < n → x ≡ boundary_word es e i → ws' ≡ marking ws x → Marking es e n ws₀ ws' (i + 1)
  marking_next x ws' l p q = record {
    of =
        m.of
        ∙ ap (λ (k : ℕ). marking_all ws (map (boundary_word es e) (up_from i k))) (let z : n - i ≡ suc (n - (i + 1)) = omega (arith, l) in z)
        ∙ marking_on ws (map (boundary_word es e) (up_from (suc i) (n - (i + 1)))) (boundary_word es e i)
        ∙ ap₂ (λ (v : List ℕ) (k : ℕ). marking_all v (map (boundary_word es e) (up_from k (n - (i + 1))))) (sym (q ∙ ap (marking ws) p)) (sym (add-one i));
  }

  pub marking_end : n ≤ i → ws ≡ marking_all ws₀ (boundary_numbers es e)
  marking_end l =
      sym (m.of ∙ ap (λ (k : ℕ). marking_all ws (map (boundary_word es e) (up_from i k))) (let z : n - i ≡ 0 = omega (arith, l) in z) ∙ marking_none ws)

-- ---- the boundary in words is the boundary

places : (f : ℕ → ℕ) (k : ℕ) (b : List ℕ) → ((i : ℕ) → i < length b → f (k + i) ≡ get_or b i 0) → map f (up_from k (length b)) ≡ b
places f k [] h = refl
places f k (x ∷ b) h =
    ap₂ (λ (y : ℕ) (ys : List ℕ). y ∷ ys) (ap f (let q : k ≡ k + 0 = omega arith in q) ∙ h 0 (zero-lt-suc (length b)))
    (places f (suc k) b (λ i l. ap f (let q : suc k + i ≡ k + suc i = omega arith in q) ∙ h (suc i) (omega (arith, l))))

pub lent_long : (es : List ℕ) (t : Table) → Lent es t → length es ≡ 18432
lent_long es t lent = ap length lent.elements ∙ elements_size desk t lent.fits

module _ (es : List ℕ) (t : Table) (lent : Lent es t) (e : ℕ) (u : e < element_count t) where
  pub in_room_lem : e < 512
  in_room_lem = le_trans u lent.fits.element_room

  pub lent_rank : get_or es (e * 36) 0 ≡ rank t e
  lent_rank = ap (λ (l : List ℕ). get_or l (e * 36) 0) lent.elements ∙ rank_word desk t lent.fits e u

  -- a vertex has no boundary
  pub no_border : (n : ℕ) → rank t e ≡ 0 → n < length (boundary t e) → ⊥
  no_border n k l = go (element t e) refl
    where
      go : (y : Element) → element t e ≡ y → ⊥
      go (corner v) q = not-suc-le-zero (subst (λ (z : Element). n < length (boundary_of z)) q l)
      go (polytope r b h m) q = above_zero desk t e r b h m (sound_good desk t lent.sound) u q k

  pub border_ranked : (n : ℕ) → n < length (boundary t e) → 0 < rank t e
  border_ranked n l = pos_of_ne-zero (λ k. no_border n k l)

  pub polytope_ranked : (get_or es (e * 36) 0 ≡ 0 → ⊥) → 0 < rank t e
  polytope_ranked z = pos_of_ne-zero (λ q. z (lent_rank ∙ q))

  module _ (p : 0 < rank t e) where
    bordered : Bordered t e
    bordered = sound_bordered desk t lent.sound e u p

    same_list : (list_of (element t e) ≡ boundary t e) × (size_of (element t e) ≡ length (boundary t e))
    same_list = go (element t e) refl
      where
        go : (y : Element) → element t e ≡ y → (list_of y ≡ boundary_of y) × (size_of y ≡ length (boundary_of y))
        go (corner v) q = absurd (not-suc-le-zero (subst (λ (z : Element). 0 < rank_of z) q p))
        go (polytope r b h m) q = (refl, refl)

    few : length (boundary t e) ≤ 32
    few = le_test (length (boundary t e)) 32 (all_get (λ y. leb (length (boundary_of y)) 32) t.elements e (corner 0) u (sound_good desk t lent.sound).boundary_room)

    size_is : get_or es (e * 36 + 3) 0 ≡ length (boundary t e)
    size_is = ap (λ (l : List ℕ). get_or l (e * 36 + 3) 0) lent.elements ∙ size_word_lem desk t lent.fits e u ∙ same_list.1

    word_is : (i : ℕ) → i < length (boundary t e) → boundary_word es e i ≡ border t e i
    word_is i l =
        let f = few in
        ap (λ (m : List ℕ). get_or m (e * 36 + (4 + i)) 0) lent.elements
        ∙ list_word_lem desk t lent.fits e u i (subst (λ (b : List ℕ). i < length b) (sym same_list.0) l) (omega (arith, f, l))
        ∙ ap (λ (b : List ℕ). get_or b i 0) same_list.0

    pub boundary_is : boundary_numbers es e ≡ boundary t e
    unfolding boundary_numbers
    boundary_is =
        ap (λ (n : ℕ). map (boundary_word es e) (up_to n)) size_is
        ∙ places (boundary_word es e) 0 (boundary t e) (λ i l. ap (boundary_word es e) (let q : 0 + i ≡ i = omega arith in q) ∙ word_is i l)

    pub boundary_ready : BoundaryReady es e
    boundary_ready = record {
      long = lent_long es t lent;
      in_room = in_room_lem;
      few = subst (λ (n : ℕ). n ≤ 32) (sym size_is) few;
      low = λ i k.
          let h = subst (λ (n : ℕ). i < n) size_is k in
          subst (λ (x : ℕ). x < 512) (sym (word_is i h)) (le_trans (bordered.earlier i h) (le_of_lt in_room_lem));
    }

    pub border_earlier : (n : ℕ) → n < length (boundary t e) → border t e n < e
    border_earlier = bordered.earlier

    pub border_lower : (n : ℕ) → n < length (boundary t e) → suc (rank t (border t e n)) ≡ rank t e
    border_lower = bordered.ranks

-- ---- what is reached

pub further : {t : Table} {r e : ℕ} → Reaches t r e → (n : ℕ) → n < length (boundary t e) → Reaches t r (border t e n)
further (itself e) n l = lower e n _ l (itself _)
further (lower r k e l h) n j = lower r k _ l (further h n j)

-- marks that have the root, and with each element its boundary, have all that the root reaches
all_reached : {t : Table} (ws : List ℕ) {r x : ℕ} → ((y n : ℕ) → is_marked ws y ≡ true → n < length (boundary t y) → is_marked ws (border t y n) ≡ true)
    → Reaches t r x → is_marked ws r ≡ true → is_marked ws x ≡ true
all_reached ws c (itself e) m = m
all_reached ws c (lower e n x l h) m = all_reached ws c h (c e n m l)

each_at : (p : ℕ → Bool) (b : List ℕ) → ((n : ℕ) → n < length b → p (get_or b n 0) ≡ true) → all p b ≡ true
each_at p [] h = refl
each_at p (y ∷ ys) h = and_true (p y) (all p ys) (h 0 (zero-lt-suc (length ys))) (each_at p ys (λ n l. h (suc n) (omega (arith, l))))

-- ---- one element further

module _ (es : List ℕ) (t : Table) (lent : Lent es t) (e : ℕ) (u : e < element_count t) (root : ℕ) (ws : List ℕ) (P : PassedFrom t root (suc e) ws) where
  -- it is this element, or one that the pass has gone by
  here_or_past : (A : Type 0) (x : ℕ) → e ≤ x → (x ≡ e → A) → (suc e ≤ x → A) → A
  here_or_past A x l f g = go (eqb x e) refl
    where
      go : (b : Bool) → eqb x e ≡ b → A
      go true q = f (eq_test x e q)
      go false q = g (let n = unlike_eq x e q in omega (arith, l, n))

  stay : ((n : ℕ) → is_marked ws e ≡ true → n < length (boundary t e) → ⊥) → PassedFrom t root e ws
  stay none = record {
    long = P.long;
    top = P.top;
    reached = P.reached;
    closed = λ x n l m k. here_or_past (is_marked ws (border t x n) ≡ true) x l
        (λ q. absurd (none n (subst (λ (y : ℕ). is_marked ws y ≡ true) q m) (subst (λ (y : ℕ). n < length (boundary t y)) q k)))
        (λ h. P.closed x n h m k);
  }

  pub not_below : is_marked ws e ≡ false → PassedFrom t root e ws
  not_below f = stay (λ n m k. false≢true (sym f ∙ m))

  pub a_vertex : get_or es (e * 36) 0 ≡ 0 → PassedFrom t root e ws
  a_vertex z = stay (λ n m k. no_border es t lent e u n (sym (lent_rank es t lent e u) ∙ z) k)

  module _ (m : is_marked ws e ≡ true) (z : get_or es (e * 36) 0 ≡ 0 → ⊥) where
    ranked : 0 < rank t e
    ranked = polytope_ranked es t lent e u z

    pub go_on : (ws' : List ℕ) → ws' ≡ marking_all ws (boundary_numbers es e) → PassedFrom t root e ws'
    go_on ws' q = record {
      long = ap length q ∙ marking_all_long ws (boundary_numbers es e) ∙ P.long;
      top = told root ∙ or_right (member root b) (is_marked ws root) P.top;
      reached = λ x h. or_case (member x b) (is_marked ws x) (sym (told x) ∙ h) (Reaches t root x)
          (λ k. let s = some_at (eqb x) b k in subst (Reaches t root) (sym (eq_test x (border t e s.0) s.2)) (further (P.reached e m) s.0 s.1))
          (P.reached x);
      closed = λ x n l h k. here_or_past (is_marked ws' (border t x n) ≡ true) x l
          (λ y. told (border t x n) ∙ or_left (member (border t x n) b) (is_marked ws (border t x n))
          (subst (λ (v : ℕ). n < length (boundary t v) → member (border t v n) b ≡ true) (sym y) (member_at b n) k))
          (λ y. or_case (member x b) (is_marked ws x) (sym (told x) ∙ h) (is_marked ws' (border t x n) ≡ true)
          (λ j. let s = some_at (eqb x) b j in let c = border_earlier es t lent e u ranked s.0 s.1 in let d = eq_test x (border t e s.0) s.2 in absurd (omega (arith, c, d, y)))
          (λ j. told (border t x n) ∙ or_right (member (border t x n) b) (is_marked ws (border t x n)) (P.closed x n y j k)));
    }
      where
        b : List ℕ
        b = boundary t e

        told : (x : ℕ) → is_marked ws' x ≡ (member x (boundary t e) || is_marked ws x)
        told x =
            ap (λ (v : List ℕ). is_marked v x) (q ∙ ap (marking_all ws) (boundary_is es t lent e u ranked))
            ∙ marked_all ws (boundary t e) x P.long (each_at (λ y. ltb y 512) (boundary t e)
            (λ n l. test_le (suc (border t e n)) 512 (le_trans (border_earlier es t lent e u ranked n l) (le_of_lt (in_room_lem es t lent e u)))))

-- ---- the whole pass

-- whatever table is lent, the pass has come down to y
pub record Going (es : List ℕ) (root y : ℕ) (ws : List ℕ) : Type 0 where
  pub of : (t : Table) → Lent es t → root < element_count t → PassedFrom t root y ws

pub going_start : (es : List ℕ) (root : ℕ) (none ws : List ℕ) → length none ≡ 8 → NoneMarked none → root < 512 → ws ≡ marking none root → Going es (root + 1 - 1) (root + 1) ws
going_start es root none ws l none' r q = subst (λ (k : ℕ). Going es k (root + 1) ws) (let z : root ≡ root + 1 - 1 = omega arith in z) record {
  of = λ t lent u. record {
    long = ap length q ∙ marking_long none root ∙ l;
    top = told root ∙ eqb_self root;
    reached = λ x h. subst (Reaches t root) (sym (only x h)) (itself root);
    closed = λ x n k h j. let e = only x h in absurd (omega (arith, k, e));
  };
}
  where
    told : (x : ℕ) → is_marked ws x ≡ eqb x root
    told x = marked_alone none ws root x l none' r q

    only : (x : ℕ) → is_marked ws x ≡ true → x ≡ root
    only x h = eq_test x root (sym (told x) ∙ h)

-- down to e: between nothing is marked, and e is gone by
pub going_next : (es : List ℕ) (root y e : ℕ) (ws ws' : List ℕ) → 0 < y → y ≤ root + 1 → DownTo ws (y - 1) e → Onward es e ws ws' → Going es root y ws → Going es root e ws'
going_next es root y e ws ws' p h d o g = record { of = λ t lent u. o.of t lent (let l = d.low in omega (arith, l, h, u)) root (skipped t (g.of t lent u)) }
  where
    skipped : (t : Table) → PassedFrom t root y ws → PassedFrom t root (suc e) ws
    skipped t P = record {
      long = P.long;
      top = P.top;
      reached = P.reached;
      closed = λ x n l m k. past x n l m k (leb y x) refl;
    }
      where
        past : (x n : ℕ) → suc e ≤ x → is_marked ws x ≡ true → n < length (boundary t x) → (b : Bool) → leb y x ≡ b → is_marked ws (border t x n) ≡ true
        past x n l m k true q = P.closed x n (le_test y x q) m k
        past x n l m k false q = absurd (false≢true (sym (d.none x l (let j = not_le y x q in omega (arith, j))) ∙ m))

pub going_end : (es : List ℕ) (root y : ℕ) (ws : List ℕ) → y ≡ 0 → Going es (root + 1 - 1) y ws → Below es root ws
going_end es root y ws z g = record {
  of = λ t lent u x.
      let P = (subst (λ (k : ℕ). Going es k y ws) (let q : root + 1 - 1 ≡ root = omega arith in q) g).of t lent u in
      let i = is_below_lem desk t lent.sound root x u in
      both_ways (is_marked ws x) (is_below t root x) (λ h. i.1 (P.reached x h))
      (λ h. all_reached ws (λ v n m l. P.closed v n (omega (arith, z)) m l) (i.0 h) P.top);
}

-- every element from the root down is in use
pub used_below : (es : List ℕ) (root e : ℕ) → e ≤ root → Used es root → Used es e
used_below es root e l w = record { table = w.table; lent = w.lent; used = let u = w.used in omega (arith, l, u) }

-- ---- the marks are the sub-elements

pub reached_earlier : (es : List ℕ) (t : Table) → Lent es t → {e x : ℕ} → Reaches t e x → e < element_count t → x ≤ e
reached_earlier es t lent (itself e) u = le_refl e
reached_earlier es t lent (lower e n x l h) u =
    let b = border_earlier es t lent e u (border_ranked es t lent e u n l) n l in
    let r = reached_earlier es t lent h (omega (arith, b, u)) in
    omega (arith, b, r)

-- nothing past the root lies below it, and nothing that is not in use
none_above : (es : List ℕ) (t : Table) (root x : ℕ) → Lent es t → root < element_count t → root < x → is_below t root x ≡ false
none_above es t root x lent u h = refute (is_below t root x) (λ k. let r = reached_earlier es t lent ((is_below_lem desk t lent.sound root x u).0 k) u in omega (arith, r, h))

pub none_below : (es : List ℕ) (t : Table) (root x : ℕ) → Lent es t → root < element_count t → element_count t ≤ x → is_below t root x ≡ false
none_below es t root x lent u h = none_above es t root x lent u (omega (arith, u, h))

pub sub_elements_marked : (es : List ℕ) (t : Table) (root : ℕ) (ws : List ℕ) → Lent es t → root < element_count t → Below es root ws → marked_numbers ws ≡ sub_elements t root
unfolding sub_elements
sub_elements_marked es t root ws lent u b = members_are ws (element_count t) (is_below t root) lent.fits.element_room (b.of t lent u) (λ x h. none_below es t root x lent u h)

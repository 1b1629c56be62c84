-- Marks by rank, downwards from one marked element to the next; those that are left have no mark yet. The numbers of a level are the sub-elements of its rank.
use Rattle.std.specs.Prelude.{if◌then◌else◌}
use Prim.Native.Nat.{ℕ, ◌+◌, ◌*◌, ◌-◌, ◌<◌, ◌≤◌}
use mathlib.Core.Bool.{Bool, true, false, ◌&&◌, ◌||◌}
use mathlib.Core.List.{List, [], ◌∷◌, map}
use mathlib.Core.Path.{◌≡◌, refl, sym, ap, ap₂, subst, ◌∙◌}
use native.Mathlib.Omega.{arith}
use lib.Dec.{eqb, leb}
use lib.ListN.{length, get_or}
use Rattle.rules.specs.Limits.{desk}
use Rattle.rules.specs.Lists.{keep, up_to}
use Rattle.rules.specs.Table.{Table, Element, corner, polytope, element, element_count, rank, vertex_of}
use Rattle.rules.specs.Held.{elements_of}
use Rattle.rules.specs.Questions.{is_below, sub_elements, with_rank, vertex_set}
use Rattle.rules.proofs.Good.{above_zero, sound_good}
use Rattle.rules.proofs.Laws.{eqb_self, eq_test, test_eq, unlike_eq, not_eq, and_left, and_right, le_test, not_le}
use Rattle.space.proofs.Room.{list_of, list_word_lem}
use Rattle.elements.specs.Marks.{is_marked, marking, marked_numbers, NoneMarked, DownTo}
use Rattle.elements.specs.Below.{Lent}
use Rattle.elements.specs.Ranks.{is_of_rank, one_more, OfRank, vertex_word}
use Rattle.elements.specs.Levels.{Level}
use Rattle.elements.proofs.MarkLaws.{marking_long, marked_one, marked_high}
use Rattle.elements.proofs.MemberLaws.{members_are, true_below}
use Rattle.elements.proofs.BelowLoops.{none_below}

-- ---- one element more

module _ (es ws : List ℕ) (rank e : ℕ) (out : List ℕ) where
  chosen : (b : Bool) → is_of_rank es ws rank e ≡ b → (if b then marking out e else out) ≡ one_more es ws rank e out
  unfolding one_more
  chosen b q i = if sym q i then marking out e else out

  pub not_marked : is_marked ws e ≡ false → out ≡ one_more es ws rank e out
  not_marked m = chosen false (ap (λ (b : Bool). b && eqb (get_or es (e * 36) 0) rank) m)

  module _ (m : is_marked ws e ≡ true) where
    pub other_rank : (get_or es (e * 36) 0 ≡ rank → ⊥) → out ≡ one_more es ws rank e out
    other_rank n = chosen false (ap₂ (λ (a b : Bool). a && b) m (not_eq (get_or es (e * 36) 0) rank n))

    pub this_rank : get_or es (e * 36) 0 ≡ rank → marking out e ≡ one_more es ws rank e out
    this_rank n = chosen true (ap₂ (λ (a b : Bool). a && b) m (test_eq (get_or es (e * 36) 0) rank n))

  one_more_long : length (one_more es ws rank e out) ≡ length out
  unfolding one_more
  one_more_long = go (is_of_rank es ws rank e)
    where
      go : (b : Bool) → length (if b then marking out e else out) ≡ length out
      go true = marking_long out e
      go false = refl

  module _ (l : length out ≡ 8) (h : e < 512) where
    one_more_here : is_marked out e ≡ false → is_marked (one_more es ws rank e out) e ≡ is_of_rank es ws rank e
    unfolding one_more
    one_more_here m = go (is_of_rank es ws rank e)
      where
        go : (b : Bool) → is_marked (if b then marking out e else out) e ≡ b
        go true = marked_one out e e l h ∙ ap (λ (c : Bool). c || is_marked out e) (eqb_self e)
        go false = m

    one_more_other : (x : ℕ) → (x ≡ e → ⊥) → is_marked (one_more es ws rank e out) x ≡ is_marked out x
    unfolding one_more
    one_more_other x n = go (is_of_rank es ws rank e)
      where
        go : (b : Bool) → is_marked (if b then marking out e else out) x ≡ is_marked out x
        go true = marked_one out e x l h ∙ ap (λ (c : Bool). c || is_marked out x) (not_eq x e n)
        go false = refl

-- ---- all elements

-- those from y on are as they should be, and before y none is marked
pub record Ranking (es ws : List ℕ) (rank : ℕ) (out : List ℕ) (y : ℕ) : Type 0 where
  pub long : length out ≡ 8
  pub done : (x : ℕ) → y ≤ x → is_marked out x ≡ is_of_rank es ws rank x
  pub rest : (x : ℕ) → x < y → is_marked out x ≡ false

none_ranked : (es ws : List ℕ) (rank x : ℕ) → is_marked ws x ≡ false → is_of_rank es ws rank x ≡ false
none_ranked es ws rank x m = ap (λ (b : Bool). b && eqb (get_or es (x * 36) 0) rank) m

pub ranking_start : (es ws : List ℕ) (rank : ℕ) (out : List ℕ) → length out ≡ 8 → length ws ≡ 8 → NoneMarked out → Ranking es ws rank out 512
ranking_start es ws rank out l w n = record {
  long = l;
  done = λ x h. n.of x ∙ sym (none_ranked es ws rank x (marked_high ws x w h));
  rest = λ x h. n.of x;
}

module _ (es ws : List ℕ) (rank : ℕ) (out : List ℕ) (y : ℕ) (r : Ranking es ws rank out y) where
  pub ranking_next : (e : ℕ) (out' : List ℕ) → 0 < y → y ≤ 512 → DownTo ws (y - 1) e → out' ≡ one_more es ws rank e out → Ranking es ws rank out' e
  ranking_next e out' p h d q = record {
    long = ap length q ∙ one_more_long es ws rank e out ∙ r.long;
    done = λ x l. from x l (eqb x e) refl;
    rest = λ x l. other x (λ j. omega (arith, j, l)) ∙ r.rest x (let k = before in omega (arith, k, l));
  }
    where
      before : e < y
      before = let k = d.low in omega (arith, k, p)

      other : (x : ℕ) → (x ≡ e → ⊥) → is_marked out' x ≡ is_marked out x
      other x n = ap (λ (v : List ℕ). is_marked v x) q ∙ one_more_other es ws rank e out r.long (let k = before in omega (arith, k, h)) x n

      here : is_marked out' e ≡ is_of_rank es ws rank e
      here = ap (λ (v : List ℕ). is_marked v e) q ∙ one_more_here es ws rank e out r.long (let k = before in omega (arith, k, h)) (r.rest e before)

      -- past e: gone by before, or between, where nothing is marked
      past : (x : ℕ) → e < x → (b : Bool) → leb y x ≡ b → is_marked out x ≡ is_of_rank es ws rank x
      past x l true j = r.done x (le_test y x j)
      past x l false j = let k = not_le y x j in r.rest x k ∙ sym (none_ranked es ws rank x (d.none x l (omega (arith, k))))

      from : (x : ℕ) → e ≤ x → (b : Bool) → eqb x e ≡ b → is_marked out' x ≡ is_of_rank es ws rank x
      from x l true j = subst (λ (n : ℕ). is_marked out' n ≡ is_of_rank es ws rank n) (sym (eq_test x e j)) here
      from x l false j = let n = unlike_eq x e j in other x n ∙ past x (omega (arith, l, n)) (leb y x) refl

  pub ranking_end : y ≡ 0 → OfRank es ws rank out
  ranking_end z = record { of = λ x. r.done x (omega (arith, z)) }

-- ---- sub-elements of a rank

keep_keep : (p q : ℕ → Bool) (xs : List ℕ) → keep (λ x. p x && q x) xs ≡ keep q (keep p xs)
keep_keep p q [] = refl
keep_keep p q (x ∷ xs) = go (p x) (keep_keep p q xs)
  where
    go : (b : Bool) → keep (λ y. p y && q y) xs ≡ keep q (keep p xs)
        → (if b && q x then x ∷ keep (λ y. p y && q y) xs else keep (λ y. p y && q y) xs) ≡ keep q (if b then x ∷ keep p xs else keep p xs)
    go true e = ap (λ (ys : List ℕ). if q x then x ∷ ys else ys) e
    go false e = e

-- what is alike wherever p holds makes the same of what is kept
map_kept : {A : Type 0} (p : ℕ → Bool) (f g : ℕ → A) → ((x : ℕ) → p x ≡ true → f x ≡ g x) → (xs : List ℕ) → map f (keep p xs) ≡ map g (keep p xs)
map_kept p f g h [] = refl
map_kept {A} p f g h (x ∷ xs) = both (p x) refl (map_kept p f g h xs)
  where
    both : (c : Bool) → p x ≡ c → map f (keep p xs) ≡ map g (keep p xs) → map f (if c then x ∷ keep p xs else keep p xs) ≡ map g (if c then x ∷ keep p xs else keep p xs)
    both true q e = ap₂ (λ (y : A) (ys : List A). y ∷ ys) (h x q) e
    both false q e = e

-- the row of a vertex element has its vertex's number
pub vertex_named : (es : List ℕ) (t : Table) → Lent es t → (x : ℕ) → x < element_count t → rank t x ≡ 0 → vertex_word es x ≡ vertex_of (element t x)
vertex_named es t lent x v z = ap (λ (l : List ℕ). get_or l (x * 36 + (4 + 0)) 0) lent.elements ∙ go (element t x) refl
  where
    go : (y : Element) → element t x ≡ y → get_or (elements_of desk t) (x * 36 + (4 + 0)) 0 ≡ vertex_of y
    go (corner c) q =
        list_word_lem desk t lent.fits x v 0 (subst (λ (y : Element). 0 < length (list_of y)) (sym q) (omega arith)) (omega arith)
        ∙ ap (λ (y : Element). get_or (list_of y) 0 0) q
    go (polytope p c h m) q = absurd (above_zero desk t x p c h m (sound_good desk t lent.sound) v q z)

below_used : (es : List ℕ) (t : Table) → Lent es t → (root : ℕ) → root < element_count t → (x : ℕ) → is_below t root x ≡ true → x < element_count t
below_used es t lent root u = true_below (is_below t root) (element_count t) (λ x h. none_below es t root x lent u h)

module _ (es : List ℕ) (t : Table) (lent : Lent es t) (root : ℕ) (u : root < element_count t) (k : ℕ) where
  abbrev wanted : ℕ → Bool
  wanted x = is_below t root x && eqb (rank t x) k

  pub wanted_used : (x : ℕ) → wanted x ≡ true → x < element_count t
  wanted_used x h = below_used es t lent root u x (and_left (is_below t root x) (eqb (rank t x) k) h)

  pub wanted_rank : (x : ℕ) → wanted x ≡ true → rank t x ≡ k
  wanted_rank x h = eq_test (rank t x) k (and_right (is_below t root x) (eqb (rank t x) k) h)

  module _ (out : List ℕ) (v : Level es root k out) where
    pub ranked_kept : marked_numbers out ≡ keep wanted (up_to (element_count t))
    ranked_kept =
        members_are out (element_count t) wanted lent.fits.element_room
        (v.of t lent u)
        (λ x h. ap (λ (c : Bool). c && eqb (rank t x) k) (none_below es t root x lent u h))

    kept_ranked : keep wanted (up_to (element_count t)) ≡ with_rank t k root
    unfolding with_rank sub_elements
    kept_ranked = keep_keep (is_below t root) (λ x. eqb (rank t x) k) (up_to (element_count t))

    pub with_rank_marked : marked_numbers out ≡ with_rank t k root
    with_rank_marked = ranked_kept ∙ kept_ranked

    -- what two functions make of them, where both make the same of what has the rank
    pub map_ranked : {A : Type 0} (f g : ℕ → A) → ((x : ℕ) → x < element_count t → rank t x ≡ k → f x ≡ g x) → map f (marked_numbers out) ≡ map g (with_rank t k root)
    map_ranked f g h =
        ap (map f) ranked_kept
        ∙ map_kept wanted f g (λ x w. h x (wanted_used x w) (wanted_rank x w)) (up_to (element_count t))
        ∙ ap (map g) kept_ranked

-- ---- vertices

pub vertices_named : (es : List ℕ) (t : Table) → Lent es t → (root : ℕ) → root < element_count t → (out : List ℕ) → Level es root 0 out → map (vertex_word es) (marked_numbers out) ≡ vertex_set t root
unfolding vertex_set
vertices_named es t lent root u out v = map_ranked es t lent root u 0 out v (vertex_word es) (λ x. vertex_of (element t x)) (vertex_named es t lent)

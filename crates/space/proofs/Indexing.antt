-- The search along a chain: a row that is equal to the one looked for has its key, so that the rows which the chain passes by are not.
-- What a search from row x on gives is what has been met so far; and the index of n rows becomes that of n + 1.
use Prim.Native.Nat.{ℕ, zero, suc, ◌+◌, ◌*◌, ◌-◌, ◌%◌, ◌≤◌, ◌<◌}
use mathlib.Core.Bool.{Bool, true, false}
use mathlib.Core.Logic.{◌⊎◌, inl, inr}
use mathlib.Core.List.{List, ◌++◌}
use mathlib.Core.Path.{◌≡◌, refl, sym, ap, ap₂, ◌∙◌, subst}
use native.Mathlib.Nat.{le_trans}
use native.Mathlib.Omega.{arith}
use lib.Dec.{eqb, lit≤}
use lib.ListN.{length, get_or, get_or-replicate, replicate, take, drop, set, length-set, length-drop, length-append, take-append-drop}
use lib.Seq.{sets, sets-eq, get_or-set_same, get_or-set_other, get_or-take, get_or-drop, drop-append-le, take-append-le, length-take-le, drop_at, take_all}
use Rattle.rules.specs.Lists.{alike, find, rows}
use Rattle.rules.proofs.Indexed.{sought_on, sought_here, sought_none}
use Rattle.rules.proofs.Laws.{refute, eq_test, unlike_eq}
use Rattle.rules.proofs.Selves.{alike_eq}
use Rattle.space.specs.Chains.{keys, spread, index_words, stored_row, key_of, number_of, Last, Indexed, new_start}
use Rattle.space.proofs.RowWords.{row_from, row_start}
use Rattle.std.specs.Prelude.{Option, Some, None}
use Rattle.rules.specs.declared.ElementId.{ElementId}
use Rattle.space.specs.Found.{element_number}

-- what was met as a number of the index: one more than its row's, or 0
abbrev pub link_of : Option ElementId → ℕ
link_of None = 0
link_of (Some e) = suc e.0

pub link_named : (p : Option ElementId) → element_number p ≡ number_of (link_of p)
link_named None = refl
link_named (Some e) = refl

-- ---- the search

module _ (es : List ℕ) (n : ℕ) (row : List ℕ) where
  abbrev from : ℕ → Option ℕ
  from x = row_from (alike eqb row) n es x

  apart : (j : ℕ) → (key_of (stored_row es j) ≡ key_of row → ⊥) → alike eqb row (stored_row es j) ≡ false
  apart j h = refute (alike eqb row (stored_row es j)) (λ e. h (ap key_of (sym (alike_eq row (stored_row es j) e))))

  -- rows from x up to m that do not have the key
  pass : (d x m : ℕ) → x + d ≡ m → m ≤ n → ((j : ℕ) → x ≤ j → j < m → key_of (stored_row es j) ≡ key_of row → ⊥) → from x ≡ from m
  pass zero x m e l h = ap from (let q : x ≡ m = omega arith in q)
  pass (suc d) x m e l h =
      sought_on (λ r. r) (alike eqb row) 36 n es x (let q : x < n = omega arith in q) refl (apart x (h x (let q : x ≤ x = omega arith in q) (let q : x < m = omega arith in q)))
      ∙ pass d (x + 1) m (let q : x + 1 + d ≡ m = omega arith in q) l (λ j a b. h j (let q : x ≤ j = omega arith in q) b)

  -- the rows between x, where a chain leads, and m do not have the key
  skipped : (m k x : ℕ) → m ≤ n → k ≡ key_of row → Last es m k x → x ≤ m → from x ≡ from m
  skipped m k x l q L h = pass (m - x) x m (let z : x + (m - x) ≡ m = omega arith in z) l (λ j a b e. (let z = L.over j b (e ∙ sym q) in omega (arith, z, a)))

  -- a search that has come down to row x: the row before it has the key, and what was met last is what a search from x on gives
  pub record Met (met x : ℕ) : Type 0 where
    pub room : x ≤ n
    pub key : 0 < x → key_of (stored_row es (x - 1)) ≡ key_of row
    pub found : number_of met ≡ from x

  low : (m k x : ℕ) → Last es m k x → x ≤ m
  low m k zero L = omega arith
  low m k (suc x) L = (L.there (omega arith)).0

  pub met_start : (ix : List ℕ) (x : ℕ) → Indexed es n ix → key_of row < keys → x ≡ get_or ix (key_of row) 0 → Met 0 x
  met_start ix x I k e =
      let L = subst (Last es n (key_of row)) (sym e) (I.starts (key_of row) k) in
      let l = low n (key_of row) x L in
      record {
        room = l;
        key = λ h. (L.there h).1;
        found = sought_none (λ r. r) (alike eqb row) 36 n es n (let q : n ≤ n = omega arith in q) refl ∙ sym (skipped n (key_of row) x (let q : n ≤ n = omega arith in q) refl L l);
      }

  -- the row before x, and where it leads
  module _ (ix : List ℕ) (met x y : ℕ) (I : Indexed es n ix) (M : Met met x) (h : 0 < x) (e : y ≡ get_or ix (keys + (x - 1)) 0) where
    link : Last es (x - 1) (key_of row) y
    link = subst (λ (k : ℕ). Last es (x - 1) k y) (M.key h) (subst (Last es (x - 1) (key_of (stored_row es (x - 1)))) (sym e) (I.links (x - 1) (let m = M.room in omega (arith, m, h))))

    pub met_less : y < x
    met_less = let l = low (x - 1) (key_of row) y link in omega (arith, l, h)

    on : (z : ℕ) → number_of z ≡ from (x - 1) → Met z y
    on z q =
        let l = low (x - 1) (key_of row) y link in
        let m = M.room in
        record {
          room = omega (arith, l, m, h);
          key = λ g. (link.there g).1;
          found = q ∙ sym (skipped (x - 1) (key_of row) y (omega (arith, m)) refl link l);
        }

    here : alike eqb row (stored_row es (x - 1)) ≡ true → Met x y
    here q =
        let m = M.room in
        on x (ap number_of (let z : x ≡ suc (x - 1) = omega (arith, h) in z) ∙ sought_here (λ r. r) (alike eqb row) 36 n es (x - 1) (omega (arith, m, h)) refl q)

    not_here : alike eqb row (stored_row es (x - 1)) ≡ false → Met met y
    not_here q =
        let m = M.room in
        on met (M.found ∙ ap from (let z : x ≡ x - 1 + 1 = omega (arith, h) in z) ∙ sym (sought_on (λ r. r) (alike eqb row) 36 n es (x - 1) (omega (arith, m, h)) refl q))

    pub met_on : {P Q : Type 0} (z : ℕ) → (P × (z ≡ x)) ⊎ (Q × (z ≡ met)) → (P → alike eqb row (stored_row es (x - 1)) ≡ true) → (Q → alike eqb row (stored_row es (x - 1)) ≡ false) → Met z y
    met_on z (inl p) a b = subst (λ (m : ℕ). Met m y) (sym p.1) (here (a p.0))
    met_on z (inr q) a b = subst (λ (m : ℕ). Met m y) (sym q.1) (not_here (b q.0))

  pub met_end : (met x : ℕ) → Met met x → x ≡ 0 → number_of met ≡ find (alike eqb row) (rows n 36 es)
  met_end met x M e = M.found ∙ ap from e ∙ sym (row_start (alike eqb row) n es)

-- ---- the index of one row more

-- a table that begins with the same rows has the same index
last_same : (es es' : List ℕ) (m k x : ℕ) → ((j : ℕ) → j < m → stored_row es' j ≡ stored_row es j) → Last es m k x → Last es' m k x
last_same es es' m k x s L = record {
  there = λ h. (let p = L.there h in let l = p.0 in (l, ap key_of (s (x - 1) (omega (arith, l, h))) ∙ p.1));
  over = λ j l e. L.over j l (ap key_of (sym (s j l)) ∙ e);
}

pub index_same : (es es' : List ℕ) (n : ℕ) (ix : List ℕ) → ((j : ℕ) → j < n → stored_row es' j ≡ stored_row es j) → Indexed es n ix → Indexed es' n ix
index_same es es' n ix s I = record {
  long = I.long;
  starts = λ k l. last_same es es' n k (get_or ix k 0) s (I.starts k l);
  links = λ j l.
      subst (λ (k : ℕ). Last es' j k (get_or ix (keys + j) 0)) (ap key_of (sym (s j l)))
      (last_same es es' j (key_of (stored_row es j)) (get_or ix (keys + j) 0) (λ i m. s i (omega (arith, m, l))) (I.links j l));
}

-- of no rows: every chain is at its end
pub index_blank : (es : List ℕ) → Indexed es 0 (replicate index_words 0)
index_blank es = record {
  long = refl;
  starts = λ k h. (let e = get_or-replicate {A = ℕ} index_words k 0 0 (le_trans h (lit≤ tt)) in record { there = λ g. absurd (let q : ⊥ = omega (arith, e, g) in q); over = λ j g. absurd (let q : ⊥ = omega (arith, g) in q) });
  links = λ j h. absurd (let q : ⊥ = omega (arith, h) in q);
}

module _ (es : List ℕ) (n : ℕ) (ix : List ℕ) (k : ℕ) (I : Indexed es n ix) (q : k ≡ key_of (stored_row es n)) (kl : k < keys) (nl : n < 512) where
  abbrev ix₁ : List ℕ
  ix₁ = set ix (keys + n) (get_or ix k 0)

  long₁ : length ix₁ ≡ index_words
  long₁ = length-set ix (keys + n) (get_or ix k 0) ∙ I.long

  start : (m : ℕ) → m < keys → (b : Bool) → eqb m k ≡ b → Last es (n + 1) m (get_or (new_start ix k n) m 0)
  start m l true t =
      let f = eq_test m k t in
      let e : get_or (new_start ix k n) m 0 ≡ n + 1 = ap (λ (r : ℕ). get_or (new_start ix k n) r 0) f ∙ get_or-set_same ix₁ k (n + 1) 0 (let g = long₁ in omega (arith, g, kl)) in
      subst (Last es (n + 1) m) (sym e) (record {
        there = λ h. (omega arith, ap (λ (i : ℕ). key_of (stored_row es i)) (let z : n + 1 - 1 ≡ n = omega arith in z) ∙ sym q ∙ sym f);
        over = λ j h g. h;
      })
  start m l false t =
      let f = unlike_eq m k t in
      let e : get_or (new_start ix k n) m 0 ≡ get_or ix m 0 = get_or-set_other ix₁ k m (n + 1) 0 f ∙ get_or-set_other ix (keys + n) m (get_or ix k 0) 0 (λ z. omega (arith, z, l)) in
      let L = I.starts m l in
      subst (Last es (n + 1) m) (sym e) (record {
        there = λ h. (let p = L.there h in let z = p.0 in (omega (arith, z), p.1));
        over = λ j h g. below L j h g (eqb j n) refl;
      })
    where
      below : Last es n m (get_or ix m 0) → (j : ℕ) → j < n + 1 → key_of (stored_row es j) ≡ m → (b : Bool) → eqb j n ≡ b → j < get_or ix m 0
      below L j h g true s = absurd (unlike_eq m k t (sym g ∙ ap (λ (i : ℕ). key_of (stored_row es i)) (eq_test j n s) ∙ sym q))
      below L j h g false s = let u = unlike_eq j n s in L.over j (omega (arith, u, h)) g

  linked : (j : ℕ) → j < n + 1 → (b : Bool) → eqb j n ≡ b → Last es j (key_of (stored_row es j)) (get_or (new_start ix k n) (keys + j) 0)
  linked j h true t =
      let f = eq_test j n t in
      let e : get_or (new_start ix k n) (keys + n) 0 ≡ get_or ix k 0 = get_or-set_other ix₁ k (keys + n) (n + 1) 0 (λ z. omega (arith, z, kl)) ∙ get_or-set_same ix (keys + n) (get_or ix k 0) 0 (let g = I.long in omega (arith, g, nl)) in
      subst (λ (i : ℕ). Last es i (key_of (stored_row es i)) (get_or (new_start ix k n) (keys + i) 0)) (sym f)
      (subst (Last es n (key_of (stored_row es n))) (sym e) (subst (λ (m : ℕ). Last es n m (get_or ix k 0)) q (I.starts k kl)))
  linked j h false t =
      let u = unlike_eq j n t in
      let e : get_or (new_start ix k n) (keys + j) 0 ≡ get_or ix (keys + j) 0 = get_or-set_other ix₁ k (keys + j) (n + 1) 0 (λ z. omega (arith, z, kl)) ∙ get_or-set_other ix (keys + n) (keys + j) (get_or ix k 0) 0
      (λ z. u (omega (arith, z))) in
      subst (Last es j (key_of (stored_row es j))) (sym e) (I.links j (omega (arith, u, h)))

  pub index_joined : Indexed es (n + 1) (new_start ix k n)
  index_joined = record {
    long = length-set ix₁ k (n + 1) ∙ long₁;
    starts = λ m l. start m l (eqb m k) refl;
    links = λ j l. linked j l (eqb j n) refl;
  }

-- ---- a row stored behind the last

-- a part of the front is the same whatever stands behind it
part_front : (i k : ℕ) (xs ys : List ℕ) → i + k ≤ length xs → take k (drop i (xs ++ ys)) ≡ take k (drop i xs)
part_front i k xs ys h =
    let e = length-drop i xs in
    ap (take k) (drop-append-le i xs ys (omega (arith, h))) ∙ take-append-le k (drop i xs) ys (omega (arith, e, h))

module _ (es row : List ℕ) (n : ℕ) (fit : n * 36 + 36 ≤ length es) (r : length row ≡ 36) where
  abbrev front : List ℕ
  front = take (n * 36) es

  front_long : length front ≡ n * 36
  front_long = length-take-le (n * 36) es (omega (arith, fit))

  both_long : length (front ++ row) ≡ n * 36 + 36
  both_long = length-append front row ∙ ap₂ ◌+◌ front_long r

  stored : sets es (n * 36) row ≡ front ++ row ++ drop (n * 36 + length row) es
  stored = sets-eq row es (n * 36) (omega (arith, fit, r))

  earlier : (j : ℕ) → j < n → stored_row (sets es (n * 36) row) j ≡ stored_row es j
  earlier j h =
      let f = front_long in
      let b = both_long in
      ap (λ (l : List ℕ). stored_row l j) stored
      ∙ part_front (j * 36) 36 (front ++ row) (drop (n * 36 + length row) es) (omega (arith, b, h))
      ∙ part_front (j * 36) 36 front row (omega (arith, f, h))
      ∙ sym (part_front (j * 36) 36 front (drop (n * 36) es) (omega (arith, f, h)))
      ∙ ap (λ (l : List ℕ). stored_row l j) (take-append-drop (n * 36) es)

  last_row : stored_row (sets es (n * 36) row) n ≡ row
  last_row =
      let b = both_long in
      ap (λ (l : List ℕ). stored_row l n) stored
      ∙ part_front (n * 36) 36 (front ++ row) (drop (n * 36 + length row) es) (omega (arith, b))
      ∙ ap (take 36) (drop_at front row (n * 36) front_long)
      ∙ take_all 36 row (omega (arith, r))

  pub index_appended : (ix : List ℕ) (k : ℕ) → Indexed es n ix → k ≡ key_of (take 36 row) → k < keys → n < 512 → (es' ix' : List ℕ) → es' ≡ sets es (n * 36) row → ix' ≡ new_start ix k n → Indexed es' (n + 1) ix'
  index_appended ix k I q kl nl es' ix' e j =
      subst (λ (l : List ℕ). Indexed l (n + 1) ix') (sym e)
      (subst (λ (l : List ℕ). Indexed (sets es (n * 36) row) (n + 1) l) (sym j)
      (index_joined (sets es (n * 36) row) n ix k (index_same es (sets es (n * 36) row) n ix earlier I) (q ∙ ap key_of (take_all 36 row (omega (arith, r)) ∙ sym last_row)) kl nl))

-- ---- what the code reads

pub index_count : (es : List ℕ) (m n : ℕ) (ix : List ℕ) → m ≡ n → Indexed es m ix → Indexed es n ix
index_count es m n ix e I = subst (λ (k : ℕ). Indexed es k ix) e I

pub key_words : (words : List ℕ) (at : ℕ) → (get_or words (at + 4) 0 * spread + get_or words (at + 5) 0) % keys ≡ key_of (take 36 (drop at words))
unfolding key_of
key_words words at = sym (ap₂ (λ (a b : ℕ). (a * spread + b) % keys) (word 4 (omega arith)) (word 5 (omega arith)))
  where
    word : (i : ℕ) → i < 36 → get_or (take 36 (drop at words)) i 0 ≡ get_or words (at + i) 0
    word i h = get_or-take 36 (drop at words) i 0 h ∙ get_or-drop at words i 0

-- Rows laid out one after another in a room of zeros: reading a word of a row, storing a row behind the last, and taking back what was stored.
-- Stated once, over any width and any way to write an entry.
use Prim.Native.Nat.{◌-◌, ◌+◌, ℕ, ◌*◌, zero, suc, ◌≤◌, ◌<◌}
use mathlib.Core.List.{map, List, ◌++◌, [], ◌∷◌, append_assoc, append-nil}
use mathlib.Core.Path.{ap, ◌≡◌, refl, ◌∙◌, sym, subst, ap₂}
use native.Mathlib.Nat.{zero-mul, suc-mul, not-suc-le-zero, zero-add, le_of_suc-le-suc, le_trans, le_of_eq, mul-le-mul_right}
use native.Mathlib.Omega.{arith}
use lib.ListN.{length, length-append, drop, replicate, length-replicate, get_or, get_or-append, length-map, take, replicate-append-replicate}
use lib.Seq.{get_or-append-add, sets, sets-eq, take_at, drop-append-add, drop_at}
use Rattle.rules.specs.Held.{Wide, laid, Begins}
use Rattle.rules.specs.Lists.{joined, pad}

module _ {A B : Type 0} where
  pub map_append : (f : A → B) (xs ys : List A) → map f (xs ++ ys) ≡ map f xs ++ map f ys
  map_append f [] ys = refl
  map_append f (x ∷ xs) ys = ap (λ (l : List B). f x ∷ l) (map_append f xs ys)

module _ {A : Type 0} where
  pub concat_append : (xs ys : List (List A)) → joined (xs ++ ys) ≡ joined xs ++ joined ys
  concat_append [] ys = refl
  concat_append (x ∷ xs) ys = ap (λ (l : List A). x ++ l) (concat_append xs ys) ∙ sym (append_assoc x (joined xs) (joined ys))

  pub wide_length : (w : ℕ) (xs : List (List A)) → Wide w xs → length (joined xs) ≡ length xs * w
  wide_length w [] h = sym (zero-mul w)
  wide_length w (x ∷ xs) h =
      let e = length-append x (joined xs) in
      let k = wide_length w xs h.1 in
      let q = h.0 in
      let m = suc-mul (length xs) w in
      omega (arith, e, k, q, m)

  pub wide_append : (w : ℕ) (xs : List (List A)) (x : List A) → Wide w xs → length x ≡ w → Wide w (xs ++ x ∷ [])
  wide_append w [] x h k = (k, tt)
  wide_append w (y ∷ ys) x h k = (h.0, wide_append w ys x h.1 k)

  pub wide_left : (w : ℕ) (us vs : List (List A)) → Wide w (us ++ vs) → Wide w us
  wide_left w [] vs g = tt
  wide_left w (u ∷ us) vs g = (g.0, wide_left w us vs g.1)

  pub drop_replicate : (k n : ℕ) (z : A) → drop k (replicate n z) ≡ replicate (n - k) z
  drop_replicate zero n z = ap (λ (m : ℕ). replicate m z) (let q : n ≡ n - zero = omega arith in q)
  drop_replicate (suc k) zero z = ap (λ (m : ℕ). replicate m z) (let q : 0 ≡ 0 - suc k = omega arith in q)
  drop_replicate (suc k) (suc n) z = drop_replicate k n z ∙ ap (λ (m : ℕ). replicate m z) (let q : n - k ≡ suc n - suc k = omega arith in q)

  pub length_padded : (z : A) (n : ℕ) (xs : List A) → length xs ≤ n → length (pad z n xs) ≡ n
  length_padded z n xs h =
      let e = length-append xs (replicate (n - length xs) z) in
      let k = length-replicate (n - length xs) z in
      omega (arith, e, k, h)

module _ {A B : Type 0} (w : ℕ) (f : A → List B) where
  -- ---- reading

  rows_read_lem : (xs : List A) (zs : List B) (i j : ℕ) (a : A) (d : B) → Wide w (map f xs) → i < length xs → j < w
      → get_or (joined (map f xs) ++ zs) (i * w + j) d ≡ get_or (f (get_or xs i a)) j d
  rows_read_lem [] zs i j a d h l k = absurd (not-suc-le-zero l)
  rows_read_lem (x ∷ xs) zs zero j a d h l k =
      let q : zero * w + j ≡ j = ap (λ (n : ℕ). n + j) (zero-mul w) ∙ zero-add j in
      let s : j < length (f x) = subst (λ (n : ℕ). j < n) (sym h.0) k in
      ap (λ (n : ℕ). get_or ((f x ++ joined (map f xs)) ++ zs) n d) q
      ∙ ap (λ (l : List B). get_or l j d) (append_assoc (f x) (joined (map f xs)) zs)
      ∙ get_or-append (f x) (joined (map f xs) ++ zs) d j s
  rows_read_lem (x ∷ xs) zs (suc i) j a d h l k =
      let m = suc-mul i w in
      let e = h.0 in
      let q : suc i * w + j ≡ length (f x) + (i * w + j) = omega (arith, m, e) in
      ap (λ (n : ℕ). get_or ((f x ++ joined (map f xs)) ++ zs) n d) q
      ∙ ap (λ (l : List B). get_or l (length (f x) + (i * w + j)) d) (append_assoc (f x) (joined (map f xs)) zs)
      ∙ get_or-append-add (f x) (joined (map f xs) ++ zs) (i * w + j) d
      ∙ rows_read_lem xs zs i j a d h.1 (le_of_suc-le-suc l) k

  pub laid_read : (z : B) (room : ℕ) (xs : List A) (i j : ℕ) (a : A) (d : B) → Wide w (map f xs) → i < length xs → j < w
      → get_or (laid z room f xs) (i * w + j) d ≡ get_or (f (get_or xs i a)) j d
  laid_read z room xs i j a d h l k = rows_read_lem xs (replicate (room - length (joined (map f xs))) z) i j a d h l k

  pub laid_size : (z : B) (room : ℕ) (xs : List A) → Wide w (map f xs) → length xs * w ≤ room → length (laid z room f xs) ≡ room
  laid_size z room xs h r =
      length_padded z room (joined (map f xs)) (le_trans (le_of_eq (wide_length w (map f xs) h ∙ ap (λ (m : ℕ). m * w) (length-map xs f))) r)

  -- ---- appending

  pub rows_size : (xs : List A) → Wide w (map f xs) → length (joined (map f xs)) ≡ length xs * w
  rows_size xs h = wide_length w (map f xs) h ∙ ap (λ (m : ℕ). m * w) (length-map xs f)

  pub laid_append : (z : B) (room : ℕ) (xs : List A) (x : A) (ys : List B) → Wide w (map f xs) → f x ≡ pad z w ys → length ys ≤ w → length xs * w + w ≤ room
      → laid z room f (xs ++ x ∷ []) ≡ sets (laid z room f xs) (length xs * w) ys
  laid_append z room xs x ys h e s r =
      ap (pad z room) rows_more
      ∙ split
      ∙ sym (sets-eq ys (laid z room f xs) n inside ∙ ap₂ (λ (p q : List B). p ++ ys ++ q) front back)
    where
      C : List B
      C = joined (map f xs)

      n : ℕ
      n = length xs * w

      c : length C ≡ n
      c = rows_size xs h

      rows_more : joined (map f (xs ++ x ∷ [])) ≡ C ++ pad z w ys
      rows_more =
          ap joined (map_append f xs (x ∷ [])) ∙ concat_append (map f xs) (f x ∷ [])
          ∙ ap (λ (l : List B). C ++ l) (append-nil (f x) ∙ e)

      inside : n + length ys ≤ length (laid z room f xs)
      inside = let q = laid_size z room xs h (let b : n ≤ room = omega (arith, r) in b) in let b : n + length ys ≤ length (laid z room f xs) = omega (arith, q, s, r) in b

      front : take n (laid z room f xs) ≡ C
      front = take_at C (replicate (room - length C) z) n c

      back : drop (n + length ys) (laid z room f xs) ≡ replicate (room - n - length ys) z
      back =
          ap (λ (k : ℕ). drop (k + length ys) (laid z room f xs)) (sym c)
          ∙ drop-append-add C (replicate (room - length C) z) (length ys)
          ∙ drop_replicate (length ys) (room - length C) z
          ∙ ap (λ (k : ℕ). replicate (room - k - length ys) z) c

      long : length (C ++ pad z w ys) ≡ n + w
      long = length-append C (pad z w ys) ∙ ap₂ (λ (p q : ℕ). p + q) c (length_padded z w ys s)

      split : pad z room (C ++ pad z w ys) ≡ C ++ ys ++ replicate (room - n - length ys) z
      split =
          ap (λ (k : ℕ). (C ++ pad z w ys) ++ replicate (room - k) z) long
          ∙ ap (λ (l : List B). l ++ replicate (room - (n + w)) z) (sym (append_assoc C ys (replicate (w - length ys) z)))
          ∙ append_assoc (C ++ ys) (replicate (w - length ys) z) (replicate (room - (n + w)) z)
          ∙ ap (λ (l : List B). (C ++ ys) ++ l) (replicate-append-replicate (w - length ys) (room - (n + w)) z)
          ∙ ap (λ (k : ℕ). (C ++ ys) ++ replicate k z) (let q : w - length ys + (room - (n + w)) ≡ room - n - length ys = omega (arith, r, s) in q)

  -- ---- truncating: zeros from the old rows' end to the new rows' end

  pub laid_back : (z : B) (room : ℕ) (xs ys : List A) → Wide w (map f ys) → Begins xs ys → length ys * w ≤ room
      → sets (laid z room f ys) (length xs * w) (replicate (length ys * w - length xs * w) z) ≡ laid z room f xs
  laid_back z room xs ys h b r =
      sets-eq (replicate k z) (laid z room f ys) n inside
      ∙ ap₂ (λ (p q : List B). p ++ replicate k z ++ q) front back
      ∙ append_assoc C (replicate k z) (replicate (room - m) z)
      ∙ ap (λ (l : List B). C ++ l) (replicate-append-replicate k (room - m) z)
      ∙ ap (λ (i : ℕ). C ++ replicate i z) (let q : k + (room - m) ≡ room - length C = omega (arith, c, r, less) in q)
    where
      C : List B
      C = joined (map f xs)

      D : List B
      D = joined (map f b.0)

      n : ℕ
      n = length xs * w

      m : ℕ
      m = length ys * w

      k : ℕ
      k = m - n

      c : length C ≡ n
      c = rows_size xs (wide_left w (map f xs) (map f b.0) (subst (Wide w) (ap (map f) b.1 ∙ map_append f xs b.0) h))

      whole : joined (map f ys) ≡ C ++ D
      whole = ap (λ (l : List A). joined (map f l)) b.1 ∙ ap joined (map_append f xs b.0) ∙ concat_append (map f xs) (map f b.0)

      less : n ≤ m
      less = mul-le-mul_right w (let q = ap length b.1 ∙ length-append xs b.0 in let z : length xs ≤ length ys = omega (arith, q) in z)

      size : length (laid z room f ys) ≡ room
      size = laid_size z room ys h r

      inside : n + length (replicate k z) ≤ length (laid z room f ys)
      inside = let q = length-replicate k z in let s = size in let l = less in let b : n + length (replicate k z) ≤ length (laid z room f ys) = omega (arith, q, s, l, r) in b

      front : take n (laid z room f ys) ≡ C
      front =
          ap (λ (l : List B). take n (l ++ replicate (room - length (joined (map f ys))) z)) whole
          ∙ ap (take n) (append_assoc C D (replicate (room - length (joined (map f ys))) z))
          ∙ take_at C (D ++ replicate (room - length (joined (map f ys))) z) n c

      back : drop (n + length (replicate k z)) (laid z room f ys) ≡ replicate (room - m) z
      back =
          let q = length-replicate k z in
          let l = less in
          ap (λ (i : ℕ). drop i (laid z room f ys)) (let e : n + length (replicate k z) ≡ m = omega (arith, q, l) in e)
          ∙ drop_at (joined (map f ys)) (replicate (room - length (joined (map f ys))) z) m (rows_size ys h)
          ∙ ap (λ (i : ℕ). replicate (room - i) z) (rows_size ys h)

-- How a reading goes by lengths alone: one that takes a number of bytes reads where they are there, and breaks where they are not.
-- Floats, numbers, and many of them, take so many each; a head of numbers wants so many at least, whatever stands behind it.
use Rattle.std.specs.Prelude.{if◌then◌else◌}
use Prim.Native.Nat.{ℕ, zero, suc, ◌+◌, ◌*◌, ◌≤◌, ◌<◌}
use mathlib.Core.Bool.{Bool, true, false, ◌&&◌}
use mathlib.Core.List.{List, [], ◌∷◌}
use mathlib.Core.Path.{◌≡◌, refl, sym, ap, subst, ◌∙◌}
use native.Mathlib.Nat.{suc-mul, zero-mul}
use native.Mathlib.Omega.{arith}
use lib.Dec.{leb, eqb}
use lib.ListN.{length, take, drop, length-take, length-drop}
use lib.Seq.{drop-drop}
use lib.Ieee.{binary64, of_bits}
use Rattle.rules.specs.Lists.{alike}
use Rattle.rules.specs.Bytes.{little_endian, number_at}
use Rattle.rules.specs.Files.{Reading, broken, got, and_then, after_mark, many, number, float, plane_after}
use Rattle.rules.proofs.ByteLaws.{and_then_lem}
use Rattle.rules.proofs.Laws.{and_left, and_right, le_test, test_le, not_le, test_above, if_true, if_false}
use Rattle.rules.proofs.Selves.{alike_eq}
use Rattle.files.specs.Passed.{begins}
use Rattle.files.proofs.Runs.{broken_then}

-- ---- sizes

module _ {A : Type 0} where
  -- it breaks on fewer bytes
  abbrev pub Wants : ℕ → (List ℕ → Reading A) → Type 0
  Wants k f = (bs : List ℕ) → length bs < k → f bs ≡ broken

  -- and it takes just so many
  pub record Takes (k : ℕ) (f : List ℕ → Reading A) : Type 0 where
    pub wants : Wants k f
    pub value : List ℕ → A
    pub there : (bs : List ℕ) → k ≤ length bs → f bs ≡ got (value bs) (drop k bs)

module _ {A B : Type 0} where
  -- what follows may want more
  pub then_wants : (k j : ℕ) {f : List ℕ → Reading A} (g : A → List ℕ → Reading B) → Takes k f → ((x : A) → Wants j (g x)) → Wants (k + j) (λ bs. and_then (f bs) g)
  then_wants k j {f} g t w bs h = go (leb k (length bs)) refl
    where
      go : (b : Bool) → leb k (length bs) ≡ b → and_then (f bs) g ≡ broken
      go true e =
          and_then_lem (f bs) g (t.value bs) (drop k bs) (t.there bs (le_test k (length bs) e))
          ∙ w (t.value bs) (drop k bs) (let l = length-drop k bs in let q = le_test k (length bs) e in omega (arith, l, q, h))
      go false e = broken_then (f bs) g (t.wants bs (not_le k (length bs) e))

  pub first_wants : (k : ℕ) {f : List ℕ → Reading A} (g : A → List ℕ → Reading B) → Takes k f → Wants k (λ bs. and_then (f bs) g)
  first_wants k {f} g t bs h = broken_then (f bs) g (t.wants bs h)

-- ---- numbers and floats

pub number_takes : (k : ℕ) → Takes k (number k)
unfolding number
number_takes k = record {
  wants = λ bs h. if_false (leb k (length bs)) _ _ (test_above k (length bs) h);
  value = λ bs. little_endian (take k bs);
  there = λ bs h. if_true (leb k (length bs)) _ _ (test_le k (length bs) h);
}

pub float_takes : Takes 8 float
unfolding float
float_takes = record {
  wants = λ bs h. broken_then (number 8 bs) _ ((number_takes 8).wants bs h);
  value = λ bs. of_bits binary64 ((number_takes 8).value bs);
  there = λ bs h. and_then_lem (number 8 bs) _ ((number_takes 8).value bs) (drop 8 bs) ((number_takes 8).there bs h);
}

-- ---- many of a size

module _ {A : Type 0} (k : ℕ) (f : List ℕ → Reading A) (t : Takes k f) where
  abbrev values : ℕ → List ℕ → List A
  values zero bs = []
  values (suc n) bs = t.value bs ∷ values n (drop k bs)

  many_wants : (n : ℕ) → Wants (n * k) (many n f)
  many_wants zero bs h = absurd (let z = zero-mul k in omega (arith, z, h))
  many_wants (suc n) bs h =
      then_wants k (n * k) _ t (λ x cs l. broken_then (many n f cs) _ (many_wants n cs l)) bs (let s = suc-mul n k in omega (arith, s, h))

  many_there : (n : ℕ) (bs : List ℕ) → n * k ≤ length bs → many n f bs ≡ got (values n bs) (drop (n * k) bs)
  many_there zero bs h = ap (λ (i : ℕ). got [] (drop i bs)) (sym (zero-mul k))
  many_there (suc n) bs h =
      let s = suc-mul n k in
      let l = length-drop k bs in
      and_then_lem (f bs) _ (t.value bs) (drop k bs) (t.there bs (omega (arith, s, h)))
      ∙ and_then_lem (many n f (drop k bs)) _ (values n (drop k bs)) (drop (n * k) (drop k bs)) (many_there n (drop k bs) (omega (arith, s, l, h)))
      ∙ ap (got (t.value bs ∷ values n (drop k bs))) (drop-drop (n * k) k bs)
      ∙ ap (λ (i : ℕ). got (t.value bs ∷ values n (drop k bs)) (drop i bs)) (let z : k + n * k ≡ suc n * k = omega (arith, s) in z)

  pub many_takes : (n : ℕ) → Takes (n * k) (many n f)
  many_takes n = record { wants = many_wants n; value = values n; there = many_there n }

-- as the code has it, with the size first
pub floats_take : (d : ℕ) → Takes (8 * d) (many d float)
floats_take d = subst (λ (k : ℕ). Takes k (many d float)) (let z : d * 8 ≡ 8 * d = omega arith in z) (many_takes 8 float float_takes d)

pub numbers_take : (n : ℕ) → Takes (2 * n) (many n (number 2))
numbers_take n = subst (λ (k : ℕ). Takes k (many n (number 2))) (let z : n * 2 ≡ 2 * n = omega arith in z) (many_takes 2 (number 2) (number_takes 2) n)

-- a hyperplane's floats
pub plane_takes : (d : ℕ) → Takes (8 * d + 8) (plane_after d)
plane_takes d =
    let t = floats_take d in record {
      wants = then_wants (8 * d) 8 _ t (λ n. first_wants 8 _ float_takes);
      value = λ bs. record { normal = t.value bs; distance = float_takes.value (drop (8 * d) bs) };
      there =
          λ bs h.
          let l = length-drop (8 * d) bs in
          and_then_lem (many d float bs) _ (t.value bs) (drop (8 * d) bs) (t.there bs (omega (arith, h)))
          ∙ and_then_lem (float (drop (8 * d) bs)) _ (float_takes.value (drop (8 * d) bs)) (drop 8 (drop (8 * d) bs)) (float_takes.there (drop (8 * d) bs) (omega (arith, l, h)))
          ∙ ap (got (record { normal = t.value bs; distance = float_takes.value (drop (8 * d) bs) })) (drop-drop 8 (8 * d) bs);
    }

-- ---- a number where it stands, and the next place

pub then_number : {B : Type 0} (bs : List ℕ) (k at next : ℕ) (g : ℕ → List ℕ → Reading B) → at + k ≡ next → next ≤ length bs
    → and_then (number k (drop at bs)) g ≡ g (number_at k at bs) (drop next bs)
unfolding number_takes
then_number bs k at next g e h =
    let l = length-drop at bs in
    and_then_lem (number k (drop at bs)) g (number_at k at bs) (drop k (drop at bs)) ((number_takes k).there (drop at bs) (omega (arith, l, e, h)))
    ∙ ap (g (number_at k at bs)) (drop-drop k at bs ∙ ap (λ (i : ℕ). drop i bs) e)

-- ---- a mark

module _ {A : Type 0} (a b k : ℕ) (f : List ℕ → Reading A) where
  -- no mark, or too few bytes behind it
  pub not_begun : (cs : List ℕ) → Wants k f → begins a b k cs ≡ false → after_mark a b f cs ≡ broken
  unfolding after_mark
  not_begun cs w h = go (alike eqb (take 2 cs) (a ∷ b ∷ [])) refl
    where
      short : (x : Bool) → (x && true) ≡ false → x ≡ false
      short false e = refl
      short true e = e

      go : (m : Bool) → alike eqb (take 2 cs) (a ∷ b ∷ []) ≡ m → (if alike eqb (take 2 cs) (a ∷ b ∷ []) then f (drop 2 cs) else broken) ≡ broken
      go false e = if_false (alike eqb (take 2 cs) (a ∷ b ∷ [])) (f (drop 2 cs)) broken e
      go true e =
          let two = ap length (alike_eq (take 2 cs) (a ∷ b ∷ []) e) in
          let m = length-take 2 cs in
          let d = length-drop 2 cs in
          let l = not_le (2 + k) (length cs) (short (leb (2 + k) (length cs)) (ap (λ (x : Bool). leb (2 + k) (length cs) && x) (sym e) ∙ h)) in
          if_true (alike eqb (take 2 cs) (a ∷ b ∷ [])) (f (drop 2 cs)) broken e ∙ w (drop 2 cs) (omega (arith, two, m, d, l))

  pub begun : (bs : List ℕ) (at : ℕ) → begins a b k (drop at bs) ≡ true → after_mark a b f (drop at bs) ≡ f (drop (at + 2) bs)
  unfolding after_mark
  begun bs at h =
      if_true (alike eqb (take 2 (drop at bs)) (a ∷ b ∷ [])) (f (drop 2 (drop at bs))) broken (and_right (leb (2 + k) (length (drop at bs))) _ h)
      ∙ ap f (drop-drop 2 at bs)

-- the bytes behind a mark are there
pub begun_within : (a b k : ℕ) (bs : List ℕ) (at : ℕ) → begins a b k (drop at bs) ≡ true → at + 2 + k ≤ length bs
begun_within a b k bs at h =
    let l = length-drop at bs in
    let t = le_test (2 + k) (length (drop at bs)) (and_left (leb (2 + k) (length (drop at bs))) _ h) in
    omega (arith, l, t)

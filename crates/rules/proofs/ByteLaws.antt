-- Numbers and floats as bytes, there and back: what was written is read, and what is read of bytes was written so.
-- A float needs that its format holds it, one way, and that it is no NaN, the other; the kit's laws of bit patterns do the rest.
use Rattle.std.specs.Prelude.{if◌then◌else◌}
use Prim.Native.Nat.{ℕ, zero, suc, ◌+◌, ◌*◌, ◌/◌, ◌%◌, ◌^◌, ◌<◌}
use mathlib.Core.Bool.{Bool, true, false, false≢true}
use mathlib.Core.List.{List, [], ◌∷◌, ◌++◌, append_assoc, map}
use mathlib.Core.Path.{◌≡◌, refl, sym, ap, ap₂, subst, ◌∙◌}
use native.Mathlib.Nat.{mod-add-div, div-lt_iff_lt-mul, zero-lt-suc, pow-suc, add-mul-mod_self_left, mod-eq_of_lt}
use native.Mathlib.Omega.{arith}
use lib.Dec.{leb, ltb, eqb}
use lib.ListN.{length, take, drop, length-append, take-append-drop}
use lib.Seq.{take_at, drop_at, length-take-le}
use lib.Ieee.{Float, binary64, of_bits, to_bits, fits, is_nan, top}
use lib.Ieee.Bits.{of_bits-to_bits, to_bits-lt, to_bits-of_bits}
use Rattle.rules.specs.Lists.{all, joined, alike}
use Rattle.rules.specs.Bytes.{little_endian, are_bytes, bytes_of, float_byte8}
use Rattle.rules.specs.Files.{Reading, broken, got, and_then, after_mark, many, number, float}
use Rattle.rules.proofs.Laws.{and_left, and_right, and_true, le_test, test_le, truly, falsely, if_true}
use Rattle.rules.proofs.Selves.{alike_eq, eq_alike}

-- ---- lists of bytes

pub bytes_front : (xs ys : List ℕ) → are_bytes (xs ++ ys) ≡ true → are_bytes xs ≡ true
bytes_front [] ys h = refl
bytes_front (x ∷ xs) ys h = and_true (ltb x 256) (are_bytes xs) (and_left (ltb x 256) (are_bytes (xs ++ ys)) h) (bytes_front xs ys (and_right (ltb x 256) (are_bytes (xs ++ ys)) h))

pub bytes_rest : (xs ys : List ℕ) → are_bytes (xs ++ ys) ≡ true → are_bytes ys ≡ true
bytes_rest [] ys h = h
bytes_rest (x ∷ xs) ys h = bytes_rest xs ys (and_right (ltb x 256) (are_bytes (xs ++ ys)) h)

-- ---- numbers

pub bytes_long : (k n : ℕ) → length (bytes_of k n) ≡ k
bytes_long zero n = refl
bytes_long (suc k) n = ap suc (bytes_long k (n / 256))

pub number_there : (k n : ℕ) → n < 256 ^ k → little_endian (bytes_of k n) ≡ n
number_there zero n h = omega arith
number_there (suc k) n h =
    ap (λ (m : ℕ). n % 256 + 256 * m) (number_there k (n / 256) ((div-lt_iff_lt-mul (zero-lt-suc 255)).1 (subst (λ (x : ℕ). n < x) (pow-suc 256 k) h)))
    ∙ mod-add-div n 256

-- the byte and the rest of a number
low_byte : (b n : ℕ) → b < 256 → (b + 256 * n) % 256 ≡ b
low_byte b n h = add-mul-mod_self_left b 256 n ∙ mod-eq_of_lt h

high_bytes : (b n : ℕ) → b < 256 → (b + 256 * n) / 256 ≡ n
high_bytes b n h =
    let l = low_byte b n h in
    let e = mod-add-div (b + 256 * n) 256 in
    omega (arith, l, e)

pub number_back : (bs : List ℕ) → are_bytes bs ≡ true → bytes_of (length bs) (little_endian bs) ≡ bs
number_back [] h = refl
number_back (b ∷ bs) h =
    let l = le_test (suc b) 256 (and_left (ltb b 256) (are_bytes bs) h) in
    ap₂ (λ (x : ℕ) (xs : List ℕ). x ∷ xs) (low_byte b (little_endian bs) l)
    (ap (bytes_of (length bs)) (high_bytes b (little_endian bs) l) ∙ number_back bs (and_right (ltb b 256) (are_bytes bs) h))

pub number_below : (bs : List ℕ) → are_bytes bs ≡ true → little_endian bs < 256 ^ length bs
number_below [] h = omega arith
number_below (b ∷ bs) h =
    let l = le_test (suc b) 256 (and_left (ltb b 256) (are_bytes bs) h) in
    let r = number_below bs (and_right (ltb b 256) (are_bytes bs) h) in
    let p = pow-suc 256 (length bs) in
    omega (arith, l, r, p)

-- ---- what is read of the front of some bytes

-- the bytes are those of w, and then some
pub record Front (w bs rest : List ℕ) : Type 0 where
  pub is : bs ≡ w ++ rest
  pub bytes : are_bytes rest ≡ true

pub front : (w bs rest : List ℕ) → are_bytes bs ≡ true → bs ≡ w ++ rest → Front w bs rest
front w bs rest h e = record { is = e; bytes = bytes_rest w rest (subst (λ (l : List ℕ). are_bytes l ≡ true) e h) }

-- one after another
pub fronts : (v w : List ℕ) (bs cs ds : List ℕ) → Front v bs cs → Front w cs ds → Front (v ++ w) bs ds
fronts v w bs cs ds f g = record { is = f.is ∙ ap (λ (l : List ℕ). v ++ l) g.is ∙ sym (append_assoc v w ds); bytes = g.bytes }

abbrev pub is_got : {A : Type 0} → Reading A → Bool
is_got broken = false
is_got (got x bs) = true

pub never : {A B : Type 0} (x : A) (bs : List ℕ) → broken ≡ got x bs → B
never x bs h = absurd (false≢true (ap is_got h))

pub got_value : {A : Type 0} (x y : A) (bs cs : List ℕ) → got x bs ≡ got y cs → x ≡ y
got_value x y bs cs h = cc

pub got_rest : {A : Type 0} (x y : A) (bs cs : List ℕ) → got x bs ≡ got y cs → bs ≡ cs
got_rest x y bs cs h = cc

-- what was read before the rest was
pub record Before {A B : Type 0} (r : Reading A) (f : A → List ℕ → Reading B) (y : B) (rest : List ℕ) : Type 0 where
  pub value : A
  pub after : List ℕ
  pub first : r ≡ got value after
  pub second : f value after ≡ got y rest

pub before : {A B : Type 0} (r : Reading A) (f : A → List ℕ → Reading B) (y : B) (rest : List ℕ) → and_then r f ≡ got y rest → Before r f y rest
before broken f y rest h = never y rest h
before (got x bs) f y rest h = record { value = x; after = bs; first = refl; second = h }

pub and_then_lem : {A B : Type 0} (r : Reading A) (f : A → List ℕ → Reading B) (x : A) (bs : List ℕ) → r ≡ got x bs → and_then r f ≡ f x bs
and_then_lem r f x bs e = ap (λ q. and_then q f) e

-- a choice that was got was taken
pub chosen : {A : Type 0} (b : Bool) (r : Reading A) (x : A) (bs : List ℕ) → (if b then r else broken) ≡ got x bs → (b ≡ true) × (r ≡ got x bs)
chosen true r x bs h = (refl, h)
chosen false r x bs h = never x bs h

-- ---- a number

pub write_number : (k n : ℕ) (rest : List ℕ) → n < 256 ^ k → number k (bytes_of k n ++ rest) ≡ got n rest
unfolding number
write_number k n rest h =
    if_true (leb k (length (bytes_of k n ++ rest))) _ _ (test_le k _ (let a = length-append (bytes_of k n) rest in let b = bytes_long k n in omega (arith, a, b)))
    ∙ ap₂ (λ (x : ℕ) (l : List ℕ). got x l) (ap little_endian (take_at (bytes_of k n) rest k (bytes_long k n)) ∙ number_there k n h) (drop_at (bytes_of k n) rest k (bytes_long k n))

pub read_number : (k : ℕ) (bs : List ℕ) (n : ℕ) (rest : List ℕ) → are_bytes bs ≡ true → number k bs ≡ got n rest → Front (bytes_of k n) bs rest × (n < 256 ^ k)
unfolding number
read_number k bs n rest h e =
    let c = chosen (leb k (length bs)) (got (little_endian (take k bs)) (drop k bs)) n rest e in
    let l : length (take k bs) ≡ k = length-take-le k bs (le_test k (length bs) c.0) in
    let g = c.1 in
    let v : little_endian (take k bs) ≡ n = cc in
    let w : drop k bs ≡ rest = cc in
    let s : are_bytes (take k bs) ≡ true = bytes_front (take k bs) (drop k bs) (subst (λ (x : List ℕ). are_bytes x ≡ true) (sym (take-append-drop k bs)) h) in (
      front (bytes_of k n) bs rest h
          (sym (take-append-drop k bs)
          ∙ ap₂ (λ (x y : List ℕ). x ++ y) (sym (ap₂ bytes_of (sym l) (sym v) ∙ number_back (take k bs) s)) w),
      subst (λ (x : ℕ). x < 256 ^ k) v (subst (λ (x : ℕ). little_endian (take k bs) < 256 ^ x) l (number_below (take k bs) s)),
    )

-- ---- a float

pub write_float : (x : Float) (rest : List ℕ) → fits binary64 x ≡ true → float (float_byte8 x ++ rest) ≡ got x rest
unfolding float
write_float x rest h =
    let t = truly (fits binary64 x) h in
    let l : to_bits binary64 x < 256 ^ 8 = to_bits-lt binary64 x t in
    and_then_lem (number 8 (float_byte8 x ++ rest)) (λ n cs. got (of_bits binary64 n) cs) (to_bits binary64 x) rest (write_number 8 (to_bits binary64 x) rest l)
    ∙ ap (λ (y : Float). got y rest) (of_bits-to_bits binary64 x t)

pub read_float : (bs : List ℕ) (x : Float) (rest : List ℕ) → are_bytes bs ≡ true → float bs ≡ got x rest → is_nan x ≡ false → Front (float_byte8 x) bs rest
unfolding float
read_float bs x rest h e k =
    let b = before (number 8 bs) (λ n cs. got (of_bits binary64 n) cs) x rest e in
    let n = b.value in
    let g = b.second in
    let r = read_number 8 bs n b.after h b.first in
    let v : of_bits binary64 n ≡ x = cc in
    let w : b.after ≡ rest = cc in
    let l : n < 2 * top binary64 = r.1 in
    let p : to_bits binary64 x ≡ n = ap (to_bits binary64) (sym v) ∙ to_bits-of_bits binary64 n l (falsely (is_nan (of_bits binary64 n)) (ap is_nan v ∙ k)) in
    front (float_byte8 x) bs rest h (r.0.is ∙ ap₂ (λ (i : ℕ) (l : List ℕ). bytes_of 8 i ++ l) (sym p) w)

-- ---- a mark

pub write_mark : {A : Type 0} (a b : ℕ) (f : List ℕ → Reading A) (rest : List ℕ) → after_mark a b f (a ∷ b ∷ rest) ≡ f rest
unfolding after_mark
write_mark a b f rest = if_true (alike eqb (a ∷ b ∷ []) (a ∷ b ∷ [])) (f rest) broken (eq_alike (a ∷ b ∷ []))

-- what follows the mark was read, and the mark stood there
pub read_mark : {A : Type 0} (a b : ℕ) (f : List ℕ → Reading A) (bs : List ℕ) (x : A) (rest : List ℕ) → are_bytes bs ≡ true → after_mark a b f bs ≡ got x rest
    → Front (a ∷ b ∷ []) bs (drop 2 bs) × (f (drop 2 bs) ≡ got x rest)
unfolding after_mark
read_mark a b f bs x rest h e =
    let c = chosen (alike eqb (take 2 bs) (a ∷ b ∷ [])) (f (drop 2 bs)) x rest e in
    (front (a ∷ b ∷ []) bs (drop 2 bs) h (sym (take-append-drop 2 bs) ∙ ap (λ (l : List ℕ). l ++ drop 2 bs) (alike_eq (take 2 bs) (a ∷ b ∷ []) c.0)), c.1)

-- ---- many of one kind: one law each way, over how one of them is written and read

module _ {A : Type 0} (f : A → List ℕ) (g : List ℕ → Reading A) (p : A → Bool) where
  pub write_many : ((x : A) (rest : List ℕ) → p x ≡ true → g (f x ++ rest) ≡ got x rest) → (xs : List A) (rest : List ℕ) → all p xs ≡ true
      → many (length xs) g (joined (map f xs) ++ rest) ≡ got xs rest
  write_many one [] rest h = refl
  write_many one (x ∷ xs) rest h =
      let k = write_many one xs rest (and_right (p x) (all p xs) h) in
      and_then_lem (g ((f x ++ joined (map f xs)) ++ rest)) _ x (joined (map f xs) ++ rest)
      (ap g (append_assoc (f x) (joined (map f xs)) rest) ∙ one x (joined (map f xs) ++ rest) (and_left (p x) (all p xs) h))
      ∙ and_then_lem (many (length xs) g (joined (map f xs) ++ rest)) _ xs rest k

  pub read_many : ((bs : List ℕ) (x : A) (rest : List ℕ) → are_bytes bs ≡ true → g bs ≡ got x rest → p x ≡ true → Front (f x) bs rest)
      → (n : ℕ) (bs : List ℕ) (xs : List A) (rest : List ℕ) → are_bytes bs ≡ true → many n g bs ≡ got xs rest → all p xs ≡ true → Front (joined (map f xs)) bs rest
  read_many one zero bs xs rest h e k =
      let v : [] ≡ xs = cc in
      let w : bs ≡ rest = cc in
      front (joined (map f xs)) bs rest h (w ∙ ap (λ (l : List A). joined (map f l) ++ rest) v)
  read_many one (suc n) bs xs rest h e k =
      let b = before (g bs) _ xs rest e in
      let x = b.value in
      let c = before (many n g b.after) _ xs rest b.second in
      let q = c.second in
      let v : x ∷ c.value ≡ xs = cc in
      let w : c.after ≡ rest = cc in
      let k' : all p (x ∷ c.value) ≡ true = ap (all p) v ∙ k in
      let r = one bs x b.after h b.first (and_left (p x) (all p c.value) k') in
      let s = read_many one n b.after c.value c.after r.bytes c.first (and_right (p x) (all p c.value) k') in
      subst (λ (l : List ℕ). Front (joined (map f xs)) bs l) w
      (subst (λ (l : List A). Front (joined (map f l)) bs c.after) v (fronts (f x) (joined (map f c.value)) bs b.after c.after r s))

pub many_long : {A : Type 0} (g : List ℕ → Reading A) (n : ℕ) (bs : List ℕ) (xs : List A) (rest : List ℕ) → many n g bs ≡ got xs rest → length xs ≡ n
many_long g zero bs xs rest e = let v : [] ≡ xs = cc in sym (ap length v)
many_long g (suc n) bs xs rest e =
    let b = before (g bs) _ xs rest e in
    let c = before (many n g b.after) _ xs rest b.second in
    let q = c.second in
    let v : b.value ∷ c.value ≡ xs = cc in
    sym (ap length v) ∙ ap suc (many_long g n b.after c.value c.after c.first)

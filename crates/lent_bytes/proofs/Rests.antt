-- A loop that puts one thing after another: what stands there, and the rest put behind it, make all of it. So nothing is said of what was put before.
use Prim.Native.Nat.{ℕ, suc, ◌+◌, ◌*◌, ◌-◌, ◌/◌, ◌%◌, ◌≤◌, ◌<◌}
use mathlib.Core.List.{List, [], ◌∷◌, ◌++◌, map}
use mathlib.Core.Path.{◌≡◌, refl, sym, ap, ap₂, subst, ◌∙◌}
use native.Mathlib.Nat.{zero-mul, suc-mul}
use native.Mathlib.Omega.{arith}
use lib.ListN.{length, get_or, set, take, drop, length-append}
use lib.Seq.{sets, drop-cons, length-slice}
use Rattle.rules.specs.Lists.{joined}
use Rattle.rules.specs.Bytes.{bytes_of}
use Rattle.lent_bytes.specs.Lent.{Put}
use Rattle.lent_bytes.proofs.Puts.{sets_on, put_one, put_as}

-- of all that is to stand from `at` on, the rest is to be put at `end`
pub record Rest (before : List ℕ) (at : ℕ) (whole : List ℕ) (after : List ℕ) (end : ℕ) (rest : List ℕ) : Type 0 where
  pub place : end + length rest ≡ at + length whole
  pub room : sets after end rest ≡ sets before at whole

pub all_left : (before : List ℕ) (at : ℕ) (whole : List ℕ) → Rest before at whole before at whole
all_left before at whole = record { place = refl; room = refl }

-- the first of the rest was put
pub less_left : {before after next : List ℕ} {at end on : ℕ} {whole first rest : List ℕ} → Rest before at whole after end (first ++ rest) → Put after end first on next → Rest before at whole next on rest
less_left {before} {after} {next} {at} {end} {on} {whole} {first} {rest} l p = record {
  place = (let a = length-append first rest in let q = p.place in let z = l.place in omega (arith, a, q, z));
  room = ap₂ (λ (r : List ℕ) (k : ℕ). sets r k rest) p.room p.place ∙ sets_on after end first rest ∙ l.room;
}

pub none_left : {before after : List ℕ} {at end : ℕ} {whole : List ℕ} → Rest before at whole after end [] → Put before at whole end after
none_left {before} {after} {at} {end} {whole} l = record { place = (let z = l.place in omega (arith, z)); room = l.room }

pub left_as : {before after : List ℕ} {at end : ℕ} {whole xs ys : List ℕ} → xs ≡ ys → Rest before at whole after end xs → Rest before at whole after end ys
left_as {before} {after} {at} {end} {whole} e l = subst (λ (zs : List ℕ). Rest before at whole after end zs) e l

-- ---- a number's bytes: what is left of it is written into those that are left

module _ {before after whole : List ℕ} {at : ℕ} (k i n : ℕ) (l : Rest before at whole after i (bytes_of (k - i) n)) where
  pub next_low : i < k → Rest before at whole (set after i (n % 256)) (i + 1) (bytes_of (k - (i + 1)) (n / 256))
  next_low h = less_left (left_as (ap (λ (j : ℕ). bytes_of j n) (let q : k - i ≡ suc (k - (i + 1)) = omega (arith, h) in q)) l) (put_one after i (n % 256))

  pub no_low : i ≡ k → Put before at whole i after
  no_low h = none_left (left_as (ap (λ (j : ℕ). bytes_of j n) (let q : k - i ≡ 0 = omega (arith, h) in q)) l)

-- ---- a part of a list, each entry by its bytes

module _ {A : Type 0} (f : A → List ℕ) (k : ℕ) (each : (x : A) → length (f x) ≡ k) where
  pub joined_long : (xs : List A) → length (joined (map f xs)) ≡ length xs * k
  joined_long [] = sym (zero-mul k)
  joined_long (x ∷ xs) =
      let a = length-append (f x) (joined (map f xs)) in
      let b = each x in
      let r = joined_long xs in
      let m = suc-mul (length xs) k in
      omega (arith, a, b, r, m)

  pub part_long : (xs : List A) (from to : ℕ) → to ≤ length xs → length (joined (map f (drop from (take to xs)))) ≡ (to - from) * k
  part_long xs from to h = joined_long (drop from (take to xs)) ∙ ap (λ (j : ℕ). j * k) (length-slice from to xs h)

module _ {A : Type 0} (f : A → List ℕ) {before after whole : List ℕ} {at end : ℕ} (xs : List A) (i : ℕ) (l : Rest before at whole after end (joined (map f (drop i xs)))) where
  pub next_entry : {next bytes : List ℕ} {on : ℕ} (z : A) → i < length xs → bytes ≡ f (get_or xs i z) → Put after end bytes on next → Rest before at whole next on (joined (map f (drop (i + 1) xs)))
  next_entry z h e p =
      less_left
      (left_as
      (ap (λ (ys : List A). joined (map f ys)) (drop-cons xs i z h)
      ∙ ap (λ (j : ℕ). f (get_or xs i z) ++ joined (map f (drop j xs))) (let q : suc i ≡ i + 1 = omega arith in q))
      l)
      (put_as e p)

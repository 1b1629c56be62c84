-- Rows written one after another and read again: what a list of rows says is read read-rows, and its room is filled exactly.
-- One law for points, planes and elements, over how one of them is written and read.
use Prim.Native.Nat.{◌-◌, ℕ, ◌≤◌, ◌*◌}
use mathlib.Core.Bool.{Bool, true}
use mathlib.Core.List.{List, ◌++◌, [], ◌∷◌, append_assoc, map}
use mathlib.Core.Path.{◌≡◌, refl, ap, ap₂, ◌∙◌, sym}
use native.Mathlib.Nat.{zero-mul, suc-mul, le_trans, le_of_eq, mul-le-mul_right}
use native.Mathlib.Omega.{arith}
use lib.ListN.{length, take, drop, length-append, replicate, length-replicate, length-map}
use lib.Seq.{take_at, drop_at}
use Rattle.rules.specs.Lists.{rows, joined, pad, all}
use Rattle.rules.specs.Held.{Wide}
use Rattle.rules.proofs.Laws.{and_left, and_right}

pub rows_back : {A : Type 0} (w : ℕ) (xs : List (List A)) (zs : List A) → Wide w xs → rows (length xs) w (joined xs ++ zs) ≡ xs
rows_back w [] zs h = refl
rows_back {A} w (x ∷ xs) zs h =
    let e = append_assoc x (joined xs) zs in
    ap₂ (λ (y : List A) (ys : List (List A)). y ∷ ys)
    (ap (take w) e ∙ take_at x (joined xs ++ zs) w h.0)
    (ap (λ (l : List A). rows (length xs) w (drop w l)) e ∙ ap (rows (length xs) w) (drop_at x (joined xs ++ zs) w h.0) ∙ rows_back w xs zs h.1)

pub length_pad : {A : Type 0} (z : A) (n : ℕ) (xs : List A) → length xs ≤ n → length (pad z n xs) ≡ n
length_pad z n xs h =
    let e = length-append xs (replicate (n - length xs) z) in
    let k = length-replicate (n - length xs) z in
    omega (arith, e, k, h)

pub length_joined : {A : Type 0} (w : ℕ) (xs : List (List A)) → Wide w xs → length (joined xs) ≡ length xs * w
length_joined w [] h = sym (zero-mul w)
length_joined w (x ∷ xs) h =
    let e = length-append x (joined xs) in
    let k = length_joined w xs h.1 in
    let q = h.0 in
    let m = suc-mul (length xs) w in
    omega (arith, e, k, q, m)

pub map_back : {A B : Type 0} (f : A → B) (g : B → A) (p : A → Bool) → ((x : A) → p x ≡ true → g (f x) ≡ x) → (xs : List A) → all p xs ≡ true → map g (map f xs) ≡ xs
map_back f g p h [] k = refl
map_back {A} f g p h (x ∷ xs) k =
    ap₂ (λ (y : A) (ys : List A). y ∷ ys) (h x (and_left (p x) (all p xs) k)) (map_back f g p h xs (and_right (p x) (all p xs) k))

pub wide_map : {A B : Type 0} (w : ℕ) (f : A → List B) (p : A → Bool) → ((x : A) → p x ≡ true → length (f x) ≡ w) → (xs : List A) → all p xs ≡ true → Wide w (map f xs)
wide_map w f p h [] k = tt
wide_map w f p h (x ∷ xs) k = (h x (and_left (p x) (all p xs) k), wide_map w f p h xs (and_right (p x) (all p xs) k))

-- n records written and read: with f to write one, and g to read it
pub read_rows : {A B : Type 0} (z : B) (room w : ℕ) (f : A → List B) (g : List B → A) (p : A → Bool) (xs : List A)
    → ((x : A) → p x ≡ true → length (f x) ≡ w) → ((x : A) → p x ≡ true → g (f x) ≡ x) → all p xs ≡ true
    → map g (rows (length xs) w (pad z room (joined (map f xs)))) ≡ xs
read_rows {B = B} z room w f g p xs long read k =
    ap (λ (n : ℕ). map g (rows n w (pad z room (joined (map f xs))))) (sym (length-map xs f))
    ∙ ap (map g) (rows_back w (map f xs) (replicate (room - length (joined (map f xs))) z) (wide_map w f p long xs k))
    ∙ map_back f g p read xs k

pub rows_fill : {A B : Type 0} (z : B) (n w : ℕ) (f : A → List B) (p : A → Bool) (xs : List A) → ((x : A) → p x ≡ true → length (f x) ≡ w) → all p xs ≡ true → length xs ≤ n
    → length (pad z (n * w) (joined (map f xs))) ≡ n * w
rows_fill z n w f p xs long k h =
    length_pad z (n * w) (joined (map f xs))
    (le_trans (le_of_eq (length_joined w (map f xs) (wide_map w f p long xs k) ∙ ap (λ (m : ℕ). m * w) (length-map xs f))) (mul-le-mul_right w h))

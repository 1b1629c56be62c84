-- A cube's element read digit by digit: its digits from the lowest axis up, its boundary from the highest axis down.
-- A digit's place is worth a power of 3, so a face is the element's number less one or two of them.
use Rattle.std.specs.Prelude.{if◌then◌else◌}
use Prim.Native.Nat.{ℕ, suc, ◌+◌, ◌-◌, ◌*◌, ◌^◌, ◌/◌, ◌%◌, ◌≤◌, ◌<◌}
use mathlib.Core.Bool.{Bool, true, false}
use mathlib.Core.Path.{◌≡◌, refl, sym, ap, ap₂, subst, ◌∙◌}
use mathlib.Core.List.{List, [], ◌∷◌, ◌++◌, map, append_assoc, append-nil}
use native.Mathlib.Nat.{pow-suc, pow-le-pow_right, mul_comm, mul_left_comm}
use native.Mathlib.Numerals.{add-one}
use native.Mathlib.Omega.{arith}
use lib.Dec.{eqb}
use lib.ListN.{length, get_or, set, take, drop, replicate, length-append, length-drop, length-map, get_or-append}
use lib.Seq.{take-suc, drop-cons, drop-length, length-take-le, take-length, split_at}
use Rattle.rules.specs.Lists.{pad}
use Rattle.rules.specs.Cube.{digits, of_digits, faces}
use Rattle.rules.proofs.CubeDigits.{digits_length, of_digits_lem}
use Rattle.rules.proofs.Growing.{length_snoc}
use Rattle.rules.proofs.Laws.{eq_test}
use Rattle.hypermath.proofs.Filling.{fill_next}
use Rattle.cube.specs.Cubes.{AcrossReady, FacesSoFar, FacesMore, across}
use Rattle.cube.specs.declared.Faces.{Faces}
use Rattle.space.proofs.Laid.{map_append}

-- ---- digits, from the lowest axis up

-- the digits so far are in the front, and the remaining ones are those of what is left of the number
pub record Reading (d e : ℕ) (axis : ℕ) (ks : List ℕ) (rest : ℕ) : Type 0 where
  pub read : ks ≡ pad 0 4 (take axis (digits d e))
  pub left : drop axis (digits d e) ≡ digits (d - axis) rest

pub reading_start : (d e : ℕ) → Reading d e 0 (0 ∷ 0 ∷ 0 ∷ 0 ∷ []) e
reading_start d e = record { read = refl; left = ap (λ (m : ℕ). digits m e) (let q : d ≡ d - 0 = omega arith in q) }

pub reading_next : (d e axis : ℕ) (ks : List ℕ) (rest : ℕ) → d ≤ 4 → axis < d → Reading d e axis ks rest → Reading d e (axis + 1) (set ks axis (rest % 3)) (rest / 3)
reading_next d e axis ks rest low h r = record {
  read =
      ap (λ (l : List ℕ). set l axis (rest % 3)) r.read
      ∙ ap (λ (i : ℕ). set (pad 0 4 (take axis ds)) i (rest % 3)) (sym here)
      ∙ fill_next 0 4 (take axis ds) (rest % 3) (omega (arith, here))
      ∙ ap (λ (k : ℕ). pad 0 4 (take axis ds ++ k ∷ [])) (sym digit)
      ∙ ap (pad 0 4) (sym (take-suc ds axis 0 in_use_lem) ∙ ap (λ (k : ℕ). take k ds) (sym (add-one axis)));
  left = ap (λ (k : ℕ). drop k ds) (add-one axis) ∙ ap tail_of (sym (drop-cons ds axis 0 in_use_lem) ∙ parts) ∙ ap (λ (m : ℕ). digits m (rest / 3)) (let q : d - suc axis ≡ d - (axis + 1) = omega arith in q);
}
  where
    ds : List ℕ
    ds = digits d e

    size : length ds ≡ d
    size = digits_length d e

    in_use_lem : axis < length ds
    in_use_lem = omega (arith, size)

    here : length (take axis ds) ≡ axis
    here = length-take-le axis ds (omega (arith, size))

    parts : drop axis ds ≡ rest % 3 ∷ digits (d - suc axis) (rest / 3)
    parts = r.left ∙ ap (λ (m : ℕ). digits m rest) (let q : d - axis ≡ suc (d - suc axis) = omega arith in q)

    head_of : List ℕ → ℕ
    head_of [] = 0
    head_of (x ∷ xs) = x

    tail_of : List ℕ → List ℕ
    tail_of [] = []
    tail_of (x ∷ xs) = xs

    digit : get_or ds axis 0 ≡ rest % 3
    digit = ap head_of (sym (drop-cons ds axis 0 in_use_lem) ∙ parts)

pub reading_end : (d e axis : ℕ) (ks : List ℕ) (rest : ℕ) → axis ≡ d → Reading d e axis ks rest → ks ≡ pad 0 4 (digits d e)
reading_end d e axis ks rest h r =
    r.read
    ∙ ap (λ (k : ℕ). pad 0 4 (take k (digits d e))) (h ∙ sym (digits_length d e))
    ∙ ap (pad 0 4) (take-length (digits d e))

-- ---- powers of 3

pub power_low : (i : ℕ) → i ≤ 4 → 3 ^ i ≤ 81
power_low i h = pow-le-pow_right (let q : 0 < 3 = omega arith in q) h

-- ---- faces, from the highest axis down

-- what a digit is worth at its place
pub worth : (xs : List ℕ) (k : ℕ) (ys : List ℕ) → of_digits (xs ++ k ∷ ys) ≡ of_digits (xs ++ 0 ∷ ys) + k * 3 ^ length xs
worth [] k ys = omega arith
worth (x ∷ xs) k ys =
    let h = worth xs k ys in
    let s = pow-suc 3 (length xs) in
    let m : k * 3 ^ suc (length xs) ≡ 3 * (k * 3 ^ length xs) = ap (λ (p : ℕ). k * p) s ∙ moved k (3 ^ length xs) in
    omega (arith, h, m)
  where
    moved : (a b : ℕ) → a * (b * 3) ≡ 3 * (a * b)
    moved a b = ap (λ (p : ℕ). a * p) (mul_comm b 3) ∙ mul_left_comm a 3 b

-- the faces across the axes from a on
abbrev pub faces_from : List ℕ → ℕ → List ℕ
faces_from ds a = map (λ g. of_digits (take a ds ++ g)) (faces (drop a ds))

faces_split : (xs : List ℕ) (k : ℕ) (ys : List ℕ) → map (λ g. of_digits (xs ++ g)) (faces (k ∷ ys)) ≡ map (λ g. of_digits ((xs ++ k ∷ []) ++ g)) (faces ys) ++ across k (of_digits (xs ++ k ∷ ys)) (3 ^ length xs)
faces_split xs k ys =
    map_append written (map (λ f. k ∷ f) (faces ys)) _
    ∙ ap₂ (λ (l r : List ℕ). l ++ r) (moved (faces ys)) (ends (eqb k 2) refl)
  where
    written : List ℕ → ℕ
    written g = of_digits (xs ++ g)

    moved : (zs : List (List ℕ)) → map written (map (λ f. k ∷ f) zs) ≡ map (λ g. of_digits ((xs ++ k ∷ []) ++ g)) zs
    moved [] = refl
    moved (z ∷ zs) = ap₂ (λ (x : ℕ) (l : List ℕ). x ∷ l) (ap of_digits (sym (append_assoc xs (k ∷ []) z))) (moved zs)

    two : of_digits (xs ++ 0 ∷ ys) ∷ of_digits (xs ++ 1 ∷ ys) ∷ [] ≡ (of_digits (xs ++ 2 ∷ ys) - 2 * 3 ^ length xs) ∷ (of_digits (xs ++ 2 ∷ ys) - 3 ^ length xs) ∷ []
    two =
        let a = worth xs 1 ys in
        let b = worth xs 2 ys in
        ap₂ (λ (x y : ℕ). x ∷ y ∷ []) (omega (arith, a, b)) (omega (arith, a, b))

    ends : (b : Bool) → eqb k 2 ≡ b → map written (if b then (0 ∷ ys) ∷ (1 ∷ ys) ∷ [] else []) ≡ (if b then (of_digits (xs ++ k ∷ ys) - 2 * 3 ^ length xs) ∷ (of_digits (xs ++ k ∷ ys) - 3 ^ length xs) ∷ [] else [])
    ends true q = two ∙ ap (λ (j : ℕ). (of_digits (xs ++ j ∷ ys) - 2 * 3 ^ length xs) ∷ (of_digits (xs ++ j ∷ ys) - 3 ^ length xs) ∷ []) (sym (eq_test k 2 q))
    ends false q = refl

-- going down to an axis adds the faces across it
pub faces_next : (ds : List ℕ) (a : ℕ) → a < length ds → faces_from ds a ≡ faces_from ds (suc a) ++ across (get_or ds a 0) (of_digits ds) (3 ^ a)
faces_next ds a h =
    ap (λ (l : List ℕ). map (λ g. of_digits (take a ds ++ g)) (faces l)) (drop-cons ds a 0 h)
    ∙ faces_split (take a ds) (get_or ds a 0) (drop (suc a) ds)
    ∙ ap₂ (λ (l r : List ℕ). l ++ r)
    (ap (λ (l : List ℕ). map (λ g. of_digits (l ++ g)) (faces (drop (suc a) ds))) (sym (take-suc ds a 0 h)))
    (ap₂ (λ (e p : ℕ). across (get_or ds a 0) e (3 ^ p)) (ap of_digits (sym (split_at ds a 0 h))) (length-take-le a ds (omega (arith, h))))

-- above the highest axis there are none
pub faces_start : (ds : List ℕ) (a : ℕ) → a ≡ length ds → faces_from ds a ≡ []
faces_start ds a h = ap (faces_from ds) h ∙ ap (λ (l : List ℕ). map (λ g. of_digits (take (length ds) ds ++ g)) (faces l)) (drop-length ds)

-- across a spanned axis the element's number is at least two of its steps
pub spans : (ds : List ℕ) (a : ℕ) → a < length ds → get_or ds a 0 ≡ 2 → 2 * 3 ^ a ≤ of_digits ds
spans ds a h q =
    let w = worth (take a ds) (get_or ds a 0) (drop (suc a) ds) in
    let s = ap of_digits (split_at ds a 0 h) in
    let l = length-take-le a ds (omega (arith, h)) in
    let p : get_or ds a 0 * 3 ^ length (take a ds) ≡ 2 * 3 ^ a = ap₂ (λ (k i : ℕ). k * 3 ^ i) q l in
    omega (arith, w, s, p)

-- an axis that is not spanned adds no face
pub across_none : (f : Faces) (k e step : ℕ) → eqb k 2 ≡ false → FacesMore f k e step f
across_none f k e step q = record { of = λ xs g. subst (FacesSoFar f) (sym (ap (λ (l : List ℕ). xs ++ l) (ap (λ (b : Bool). if b then (e - 2 * step) ∷ (e - step) ∷ [] else []) q) ∙ append-nil xs)) g }

-- a spanned one adds two
pub across_two : (f : Faces) (k e step : ℕ) → f.n < 31 → eqb k 2 ≡ true → FacesMore f k e step (record { list = set (set f.list f.n (e - 2 * step)) (f.n + 1) (e - step); n = f.n + 2 })
across_two f k e step low q = record { of = λ xs g. subst (FacesSoFar _) (sym (ap (λ (l : List ℕ). xs ++ l) (ap (λ (b : Bool). if b then (e - 2 * step) ∷ (e - step) ∷ [] else []) q))) (made xs g) }
  where
    made : (xs : List ℕ) → FacesSoFar f xs → FacesSoFar (record { list = set (set f.list f.n (e - 2 * step)) (f.n + 1) (e - step); n = f.n + 2 }) (xs ++ (e - 2 * step) ∷ (e - step) ∷ [])
    made xs g =
        let s = g.size in
        let one = length_snoc xs (e - 2 * step) in
        record {
          size = let z = length-append xs ((e - 2 * step) ∷ (e - step) ∷ []) in omega (arith, s, z);
          list =
              ap₂ (λ (l : List ℕ) (n : ℕ). set (set l n (e - 2 * step)) (n + 1) (e - step)) g.list s
              ∙ ap (λ (l : List ℕ). set l (length xs + 1) (e - step)) (fill_next 0 33 xs (e - 2 * step) (omega (arith, s, low)))
              ∙ ap (λ (n : ℕ). set (pad 0 33 (xs ++ (e - 2 * step) ∷ [])) n (e - step)) (add-one (length xs) ∙ sym one)
              ∙ fill_next 0 33 (xs ++ (e - 2 * step) ∷ []) (e - step) (omega (arith, s, low, one))
              ∙ ap (pad 0 33) (append_assoc xs ((e - 2 * step) ∷ []) ((e - step) ∷ []));
        }

faces_short : (ks : List ℕ) → length (faces ks) ≤ 2 * length ks
faces_short [] = omega arith
faces_short (k ∷ ks) =
    let h = faces_short ks in
    let m = length-map (faces ks) (λ (f : List ℕ). k ∷ f) in
    let a = length-append (map (λ f. k ∷ f) (faces ks)) (if eqb k 2 then (0 ∷ ks) ∷ (1 ∷ ks) ∷ [] else []) in
    let t = most (eqb k 2) in
    omega (arith, h, m, a, t)
  where
    most : (b : Bool) → length (if b then (0 ∷ ks) ∷ (1 ∷ ks) ∷ [] else []) ≤ 2
    most true = omega arith
    most false = omega arith

-- the digits are read, the faces across the axes from one on are gathered, and that axis has its step
pub record Descending (d e : ℕ) (ks : List ℕ) (f : Faces) (step axis : ℕ) : Type 0 where
  pub read : ks ≡ pad 0 4 (digits d e)
  pub number : of_digits (digits d e) ≡ e
  pub power : step ≡ 3 ^ axis
  pub gathered : FacesSoFar f (faces_from (digits d e) axis)

pub descend_start : (d e : ℕ) (ks : List ℕ) (step : ℕ) → e < 3 ^ d → ks ≡ pad 0 4 (digits d e) → step ≡ 3 ^ d → Descending d e ks (record { list = replicate 33 0; n = 0 }) step d
descend_start d e ks step low read power = record {
  read = read;
  number = of_digits_lem d e low;
  power = power;
  gathered = subst (FacesSoFar _) (sym (faces_start (digits d e) d (sym (digits_length d e)))) (record { size = refl; list = refl });
}

module _ (d e : ℕ) (ks : List ℕ) (f : Faces) (step axis : ℕ) (low : d ≤ 4) (in_use_lem : axis ≤ d) (more : 0 < axis) (g : Descending d e ks f step axis) where
  next_axis : axis ≡ suc (axis - 1)
  next_axis = omega arith

  known : axis - 1 < length (digits d e)
  known = let s = digits_length d e in omega (arith, s)

  next_power : step / 3 ≡ 3 ^ (axis - 1)
  next_power =
      let p = g.power ∙ ap (λ (i : ℕ). 3 ^ i) next_axis ∙ pow-suc 3 (axis - 1) in
      omega (arith, p)

  next_digit : get_or ks (axis - 1) 0 ≡ get_or (digits d e) (axis - 1) 0
  next_digit = ap (λ (l : List ℕ). get_or l (axis - 1) 0) g.read ∙ get_or-append (digits d e) (replicate (4 - length (digits d e)) 0) 0 (axis - 1) known

  pub descend_ready : AcrossReady f (get_or ks (axis - 1) 0) e (step / 3)
  descend_ready = record {
    place = place;
    near = near;
    spanned = spanned;
  }
    where
      place : f.n < 31
      place =
          let s = g.gathered.size in
          let m = length-map (faces (drop axis (digits d e))) (λ (h : List ℕ). of_digits (take axis (digits d e) ++ h)) in
          let h = faces_short (drop axis (digits d e)) in
          let l = length-drop axis (digits d e) in
          let z = digits_length d e in
          omega (arith, s, m, h, l, z)

      near : step / 3 < 82
      near =
          let p = next_power in
          let l = power_low (axis - 1) (omega arith) in
          omega (arith, p, l)

      spanned : get_or ks (axis - 1) 0 ≡ 2 → 2 * (step / 3) ≤ e
      spanned q =
          let s = spans (digits d e) (axis - 1) known (sym next_digit ∙ q) in
          let p = next_power in
          let n = g.number in
          omega (arith, s, p, n)

  pub descend_next : (r : Faces) → FacesMore f (get_or ks (axis - 1) 0) e (step / 3) r → Descending d e ks r (step / 3) (axis - 1)
  descend_next r h = record {
    read = g.read;
    number = g.number;
    power = next_power;
    gathered = subst (FacesSoFar r) more_faces (h.of _ g.gathered);
  }
    where
      more_faces : faces_from (digits d e) axis ++ across (get_or ks (axis - 1) 0) e (step / 3) ≡ faces_from (digits d e) (axis - 1)
      more_faces =
          ap₂ (λ (i : ℕ) (k : ℕ). faces_from (digits d e) i ++ across k e (step / 3)) next_axis next_digit
          ∙ ap₂ (λ (n s : ℕ). faces_from (digits d e) (suc (axis - 1)) ++ across (get_or (digits d e) (axis - 1) 0) n s) (sym g.number) next_power
          ∙ sym (faces_next (digits d e) (axis - 1) known)

pub descend_end : (d e : ℕ) (ks : List ℕ) (f : Faces) (step axis : ℕ) → axis ≡ 0 → Descending d e ks f step axis → FacesSoFar f (map of_digits (faces (digits d e)))
descend_end d e ks f step axis q g = subst (λ (i : ℕ). FacesSoFar f (faces_from (digits d e) i)) q g.gathered

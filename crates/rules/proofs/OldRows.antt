-- Old entries keep number and content, word for word: what is written of a table that goes on from another has the old rows at its front.
-- A row is found by its number, since all rows of a slice have one width.
use Prim.Native.Nat.{◌-◌, ℕ, ◌<◌, ◌+◌, suc, zero, ◌*◌, ◌≤◌, zero-le}
use mathlib.Core.List.{List, ◌++◌, [], ◌∷◌, append_assoc, map}
use mathlib.Core.Path.{◌≡◌, ap, ◌∙◌, subst, sym, refl}
use native.Mathlib.Nat.{not-suc-le-zero, zero-mul, suc-mul, le_of_suc-le-suc, le_trans, le_of_eq}
use native.Mathlib.Omega.{arith}
use lib.ListN.{length, get_or, take, drop, replicate, length-map, get_or-append}
use lib.Seq.{take_at, drop-append-add}
use Rattle.rules.specs.Limits.{Limits, Readable}
use Rattle.rules.specs.Lists.{joined, pad}
use Rattle.rules.specs.Floats.{plus_zero}
use Rattle.rules.specs.Table.{Table, corner, Plane, element_count}
use Rattle.rules.specs.Sound.{sound_point, sound_plane}
use Rattle.rules.specs.Memory.{encode, element_width, element_row, plane_width, plane_row, Memory, decode}
use Rattle.rules.specs.Calls.{after_calls}
use Rattle.rules.specs.Promises.{row_at, Keeps, OldEntriesStay}
use Rattle.rules.specs.Held.{Wide, Begins, Extends, fitting}
use Rattle.rules.proofs.Calls.{calls_follow}
use Rattle.rules.proofs.Extends.{begins_length, count_more}
use Rattle.rules.proofs.Good.{Good, sound_good}
use Rattle.rules.proofs.Laws.{le_test}
use Rattle.rules.proofs.OneCall.{sound_table}
use Rattle.rules.proofs.RoundTrip.{element_long, element_fits_lem, point_long, plane_long, memory_back}
use Rattle.rules.proofs.Rows.{wide_map}

-- the n-th of some rows written one after another
row_of : {A : Type 0} (w : ℕ) (xs : List (List A)) (zs : List A) (n : ℕ) → Wide w xs → n < length xs → row_at w (joined xs ++ zs) n ≡ get_or xs n []
row_of w [] zs n h l = absurd (not-suc-le-zero l)
row_of {A} w (x ∷ xs) zs zero h l =
    ap (λ (k : ℕ). take w (drop k (x ++ joined xs ++ zs))) (zero-mul w)
    ∙ ap (take w) (append_assoc x (joined xs) zs) ∙ take_at x (joined xs ++ zs) w h.0
row_of {A} w (x ∷ xs) zs (suc n) h l =
    let past : suc n * w ≡ length x + n * w = suc-mul n w ∙ (let q = h.0 in omega (arith, q)) in
    ap (λ (k : ℕ). take w (drop k (x ++ joined xs ++ zs))) past
    ∙ ap (λ (ys : List A). take w (drop (length x + n * w) ys)) (append_assoc x (joined xs) zs)
    ∙ ap (take w) (drop-append-add x (joined xs ++ zs) (n * w))
    ∙ row_of w xs zs n h.1 (le_of_suc-le-suc l)

-- entries written by f, in rows of w, of a list that goes on from another
module _ {A B : Type 0} (z : B) (room w : ℕ) (f : A → List B) (xs ys : List A) (x : Begins xs ys) (wide : Wide w (map f ys)) (d : A) where
  written_at : (n : ℕ) (vs : List A) → Wide w (map f vs) → n < length vs → row_at w (pad z room (joined (map f vs))) n ≡ f (get_or vs n d)
  written_at n vs h l =
      row_of w (map f vs) (replicate (room - length (joined (map f vs))) z) n h (subst (λ (k : ℕ). n < k) (sym (length-map vs f)) l) ∙ mapped vs n l
    where
      mapped : (us : List A) (k : ℕ) → k < length us → get_or (map f us) k [] ≡ f (get_or us k d)
      mapped [] k m = absurd (not-suc-le-zero m)
      mapped (u ∷ us) zero m = refl
      mapped (u ∷ us) (suc k) m = mapped us k (le_of_suc-le-suc m)

  front_wide : Wide w (map f xs)
  front_wide = go xs x.0 (subst (λ (vs : List A). Wide w (map f vs)) x.1 wide)
    where
      go : (us vs : List A) → Wide w (map f (us ++ vs)) → Wide w (map f us)
      go [] vs h = tt
      go (u ∷ us) vs h = (h.0, go us vs h.1)

  pub same_row : (n : ℕ) → n < length xs → row_at w (pad z room (joined (map f ys))) n ≡ row_at w (pad z room (joined (map f xs))) n
  same_row n l =
      written_at n ys wide (le_trans l (begins_length xs ys x))
      ∙ ap f (ap (λ (vs : List A). get_or vs n d) x.1 ∙ get_or-append xs x.0 d n l)
      ∙ sym (written_at n xs front_wide l)

module _ (L : Limits) (R : Readable L) where
  -- of two tables
  pub table_keeps : (t l : Table) → Good L l → Extends t l → Keeps L (encode L t) (encode L l)
  unfolding encode
  table_keeps t l g x =
      let fits = le_test l.dimension L.dimensions g.high in
      record {
        dimension = x.dimension;
        elements = same_row 0 (L.elements * element_width L) (element_width L) (λ e. pad 0 (element_width L) (element_row e)) t.elements l.elements x.elements
            (wide_map (element_width L) _ (fitting L) (element_long L R) l.elements (element_fits_lem L R l g)) (corner 0);
        vertices = same_row plus_zero (L.vertices * L.dimensions) L.dimensions (pad plus_zero L.dimensions) t.points l.points x.points
            (wide_map L.dimensions _ (sound_point l.dimension) (point_long L R l.dimension fits) l.points g.points) [];
        hyperplanes = same_row plus_zero (L.hyperplanes * plane_width L) (plane_width L) (plane_row L) t.planes l.planes x.planes
            (wide_map (plane_width L) _ (sound_plane l.dimension) (plane_long L R l.dimension fits) l.planes g.planes) no_plane_yet;
        no_fewer = more;
      }
    where
      no_plane_yet : Plane
      no_plane_yet = record { normal = []; distance = plus_zero }

      more : (k : ℕ) → get_or (t.dimension ∷ element_count t ∷ length t.points ∷ length t.planes ∷ []) k 0
          ≤ get_or (l.dimension ∷ element_count l ∷ length l.points ∷ length l.planes ∷ []) k 0
      more zero = le_of_eq (sym x.dimension)
      more (suc zero) = count_more x
      more (suc (suc zero)) = begins_length t.points l.points x.points
      more (suc (suc (suc zero))) = begins_length t.planes l.planes x.planes
      more (suc (suc (suc (suc k)))) = zero-le

  pub old_entries_stay : OldEntriesStay L
  old_entries_stay cs m s n =
      let f = calls_follow L R cs m s n in
      subst (λ (x : Memory). Keeps L x (after_calls L cs m)) (memory_back L m s)
      (subst (λ (x : Memory). Keeps L (encode L (decode L m)) x) (memory_back L (after_calls L cs m) f.sound_after)
      (table_keeps (decode L m) (decode L (after_calls L cs m)) (sound_good L _ (sound_table L (after_calls L cs m) f.sound_after)) f.extends))

-- The boundary that an element's row has, as a part of the words: a list is that part, or not.
use Prim.Native.Nat.{ℕ, ◌+◌, ◌-◌, ◌*◌, ◌<◌}
use mathlib.Core.Path.{◌≡◌, sym, ap, ◌∙◌}
use mathlib.Core.Bool.{Bool}
use mathlib.Core.List.{List}
use native.Mathlib.Omega.{arith}
use lib.ListN.{length, get_or, take, drop, length-drop}
use lib.Seq.{get_or-take, get_or-drop, length-take-le, ext_get_or}
use Rattle.std.specs.Bool.{Decides}
use Rattle.gathered.specs.Cutting.{RowReadable, OwnTold}

-- size is how many numbers the row has, as it was read
module _ (es : List ℕ) (e size : ℕ) (row : RowReadable es e) (count : size ≡ get_or es (e * 36 + 3) 0) where
  abbrev part : List ℕ
  part = take (e * 36 + 4 + size - (e * 36 + 4)) (drop (e * 36 + 4) es)

  part_long : length part ≡ size
  part_long =
      let long = row.long in
      let low = row.low in
      let short = row.short in
      let d = length-drop (e * 36 + 4) es in
      length-take-le (e * 36 + 4 + size - (e * 36 + 4)) (drop (e * 36 + 4) es) (omega (arith, long, low, short, count, d)) ∙ (let q : e * 36 + 4 + size - (e * 36 + 4) ≡ size = omega arith in q)

  part_at : (j : ℕ) → j < size → get_or part j 0 ≡ get_or es (e * 36 + (4 + j)) 0
  part_at j h =
      get_or-take (e * 36 + 4 + size - (e * 36 + 4)) (drop (e * 36 + 4) es) j 0 (omega (arith, h)) ∙ get_or-drop (e * 36 + 4) es j 0
      ∙ ap (λ (n : ℕ). get_or es n 0) (let q : e * 36 + 4 + j ≡ e * 36 + (4 + j) = omega arith in q)

  pub own_told : (list : List ℕ) (r : Bool) → Decides r (part ≡ list) → OwnTold es e list (length list) r
  own_told list r d = record {
    only = λ h. (
        let same = ap length (d.0 h) in
        let long = part_long in
        record {
          size = sym count ∙ sym long ∙ same;
          same = λ j l. ap (λ (w : List ℕ). get_or w j 0) (sym (d.0 h)) ∙ part_at j (omega (arith, l, same, long));
        });
    wherever = λ own. (
        let long = part_long in
        let size = own.size in
        d.1 (ext_get_or 0 part list (long ∙ count ∙ size) (λ j l. part_at j (omega (arith, l, long)) ∙ sym (own.same j (omega (arith, l, long, count, size))))));
  }

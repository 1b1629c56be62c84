-- A table has one file: what was written of a sound table is read back, and a file that is read as a sound table is the one that is written of it.
use Rattle.std.specs.Prelude.{if◌then◌else◌, Option, Some, None}
use Prim.Native.Nat.{ℕ, suc, ◌≤◌, ◌<◌}
use mathlib.Core.Bool.{Bool, true, false, not, ◌&&◌, false≢true}
use mathlib.Core.List.{List, [], ◌∷◌, ◌++◌, map, append-nil}
use mathlib.Core.Path.{◌≡◌, refl, sym, ap, subst, ◌∙◌}
use native.Mathlib.Nat.{le_trans}
use native.Mathlib.Omega.{arith}
use lib.Dec.{leb, ltb, eqb}
use lib.ListN.{length, drop}
use lib.Ieee.{Float, binary64, fits, is_nan}
use Rattle.rules.specs.Limits.{Limits, Readable, Fileable}
use Rattle.rules.specs.Lists.{all, joined}
use Rattle.rules.specs.Floats.{within, farthest_plane, unit, one}
use Rattle.rules.specs.Bytes.{are_bytes, bytes_of}
use Rattle.rules.specs.Table.{Element, corner, polytope, Plane, Table, boundary_of, element, element_count}
use Rattle.rules.specs.Sound.{sound, sound_point, sound_plane, sound_facet, names_plane, names_none}
use Rattle.rules.specs.Memory.{plane_number}
use Rattle.rules.specs.Held.{fitting}
use Rattle.rules.specs.Files.{got, many, number, header, point_record, plane_record, element_record, file_of, point_in, plane_in, element_in, records_in, table_after, layout, are_floats, table_floats}
use Rattle.rules.proofs.ByteLaws.{Front, fronts, got_value, got_rest, before, and_then_lem, write_number, read_number, write_mark, read_mark, write_many, read_many, many_long}
use Rattle.rules.proofs.Boxes.{in_range, all_numbers, point_long, point_numbers}
use Rattle.rules.proofs.Corners.{corner_named_lem}
use Rattle.rules.proofs.Each.{all_map, all_both, all_each}
use Rattle.rules.proofs.FileRecords.{no_nans, write_point, read_point, plane_floats, write_plane, read_plane_lem, small_element, write_element, read_element_lem}
use Rattle.rules.proofs.Good.{Good, sound_good, whole_at}
use Rattle.rules.proofs.Growing.{all_get}
use Rattle.rules.proofs.Laws.{and_left, and_right, and_true, le_test, test_le, test_eq}
use Rattle.rules.proofs.RoundTrip.{element_fits_lem, normal_long}

-- ---- a sound table has no NaN

abbrev no_nan_plane : Plane → Bool
no_nan_plane h = no_nans h.normal && not (is_nan h.distance)

plane_no_nan : (d : ℕ) (h : Plane) → sound_plane d h ≡ true → no_nan_plane h ≡ true
unfolding sound_plane
plane_no_nan d h k =
    let u = and_right (eqb (length h.normal) d) (unit h.normal) (and_left (eqb (length h.normal) d && unit h.normal) _ k) in
    and_true (no_nans h.normal) (not (is_nan h.distance))
    (all_numbers one h.normal (components h.normal u))
    (in_range farthest_plane h.distance (and_right (eqb (length h.normal) d && unit h.normal) (within farthest_plane h.distance) k))
  where
    components : (n : List Float) → unit n ≡ true → all (within one) n ≡ true
    components n q = unfold unit in and_left (all (within one) n) _ (and_left (all (within one) n && _) _ q)

-- ---- a sound table's numbers have the width that the file gives them

module _ (L : Limits) (W : Fileable L) (t : Table) (g : Good L t) where
  small_element_lem : (e : ℕ) → e < element_count t → small_element (element t e) ≡ true
  small_element_lem e l = go (element t e) refl
    where
      room : element_count t ≤ 65535
      room = le_trans (le_test (element_count t) L.elements g.element_room) W.elements

      plane_small : (r : ℕ) (h : Option ℕ) (m : Bool) → sound_facet t r h m ≡ true → ltb (plane_number h) 65536 ≡ true
      plane_small r None m k = refl
      plane_small r (Some n) m k = named (eqb (suc r) t.dimension) (unfold sound_facet in k)
        where
          named : (b : Bool) → (if b then names_plane t (Some n) else (names_none (Some n) && not m)) ≡ true → ltb n 65536 ≡ true
          named true q =
              let a = le_test (suc n) (length t.planes) q in
              let b = le_test (length t.planes) L.hyperplanes g.plane_room in
              let c = W.hyperplanes in
              test_le (suc n) 65536 (let z : suc n ≤ 65536 = omega (arith, a, b, c) in z)
          named false q = absurd (false≢true q)

      go : (y : Element) → element t e ≡ y → small_element y ≡ true
      go (corner v) q =
          let a = corner_named_lem L t g e v l q in
          let b = le_test (length t.points) L.vertices g.vertex_room in
          let c = W.vertices in
          test_le (suc v) 65536 (let z : suc v ≤ 65536 = omega (arith, a, b, c) in z)
      go (polytope r b h m) q =
          let w = whole_at L t e r b h m g l q in
          let r₁ = le_test r t.dimension w.low_rank in
          let r₂ = le_test t.dimension L.dimensions g.high in
          let r₃ = W.dimensions in
          let b₁ = all_get (λ y. leb (length (boundary_of y)) L.boundary) t.elements e (corner 0) l g.boundary_room in
          let c₁ = le_test (length b) L.boundary (subst (λ (y : Element). leb (length (boundary_of y)) L.boundary ≡ true) q b₁) in
          let c₂ = W.boundary in
          and_true (ltb r 256) _ (test_le (suc r) 256 (let z : suc r ≤ 256 = omega (arith, r₁, r₂, r₃) in z))
          (and_true (ltb (plane_number h) 65536) _ (plane_small r h m w.facet)
          (and_true (ltb (length b) 65536) _ (test_le (suc (length b)) 65536 (let z : suc (length b) ≤ 65536 = omega (arith, c₁, c₂) in z))
          (all_map (λ x. ltb x e) (λ x. ltb x 65536) (λ x k. (let a = le_test (suc x) e k in let s = room in test_le (suc x) 65536 (let z : suc x ≤ 65536 = omega (arith, a, l, s) in z))) b w.bound.under)))

  -- ---- what was written is read

  module _ (U : Readable L) (f : table_floats t ≡ true) where
    pub write_file : layout (file_of t) ≡ got t []
    unfolding layout file_of header
    write_file =
        let d = t.dimension in
        let ne = element_count t in
        let nv = length t.points in
        let nh = length t.planes in
        let es = joined (map element_record t.elements) in
        let hs = joined (map plane_record t.planes) ++ es in
        let ps = joined (map point_record t.points) ++ hs in
        let b₃ = bytes_of 2 nh ++ ps in
        let b₂ = bytes_of 2 nv ++ b₃ in
        let b₁ = bytes_of 2 ne ++ b₂ in
        write_mark 0x48 0x44 table_after (bytes_of 2 d ++ b₁)
        ∙ and_then_lem (number 2 (bytes_of 2 d ++ b₁)) _ d b₁ (write_number 2 d b₁ (let a = le_test d L.dimensions g.high in let c = W.dimensions in let z : suc d ≤ 65536 = omega (arith, a, c) in z))
        ∙ and_then_lem (number 2 b₁) _ ne b₂ (write_number 2 ne b₂ (let a = le_test ne L.elements g.element_room in let c = W.elements in let z : suc ne ≤ 65536 = omega (arith, a, c) in z))
        ∙ and_then_lem (number 2 b₂) _ nv b₃ (write_number 2 nv b₃ (let a = le_test nv L.vertices g.vertex_room in let c = W.vertices in let z : suc nv ≤ 65536 = omega (arith, a, c) in z))
        ∙ and_then_lem (number 2 b₃) _ nh ps (write_number 2 nh ps (let a = le_test nh L.hyperplanes g.plane_room in let c = W.hyperplanes in let z : suc nh ≤ 65536 = omega (arith, a, c) in z))
        ∙ and_then_lem (many nv (point_in d) ps) _ t.points hs points_there
        ∙ and_then_lem (many nh (plane_in d) hs) _ t.planes es planes_there
        ∙ and_then_lem (many ne element_in es) _ t.elements [] elements_there
      where
        points_there : many (length t.points) (point_in t.dimension) (joined (map point_record t.points) ++ (joined (map plane_record t.planes) ++ joined (map element_record t.elements)))
            ≡ got t.points (joined (map plane_record t.planes) ++ joined (map element_record t.elements))
        points_there =
            write_many point_record (point_in t.dimension) (λ p. eqb (length p) t.dimension && are_floats p) (write_point t.dimension) t.points _
            (all_both (sound_point t.dimension) are_floats (λ p. eqb (length p) t.dimension && are_floats p)
            (λ p h k. and_true (eqb (length p) t.dimension) (are_floats p) (test_eq (length p) t.dimension (point_long t.dimension p h)) k)
            t.points g.points (and_left (all are_floats t.points) _ f))

        planes_there : many (length t.planes) (plane_in t.dimension) (joined (map plane_record t.planes) ++ joined (map element_record t.elements))
            ≡ got t.planes (joined (map element_record t.elements))
        planes_there =
            write_many plane_record (plane_in t.dimension) (plane_floats t.dimension) (write_plane t.dimension) t.planes _
            (all_both (sound_plane t.dimension) (λ h. are_floats h.normal && fits binary64 h.distance) (plane_floats t.dimension)
            (λ h k q. and_true (eqb (length h.normal) t.dimension) _ (test_eq (length h.normal) t.dimension (normal_long L U t.dimension h k)) q)
            t.planes g.planes (and_right (all are_floats t.points) _ f))

        elements_there : many (element_count t) element_in (joined (map element_record t.elements)) ≡ got t.elements []
        elements_there =
            ap (many (element_count t) element_in) (sym (append-nil (joined (map element_record t.elements))))
            ∙ write_many element_record element_in (λ e. fitting L e && small_element e) (write_element L U) t.elements []
            (all_both (fitting L) small_element (λ e. fitting L e && small_element e) (λ e h k. and_true (fitting L e) (small_element e) h k)
            t.elements (element_fits_lem L U t g) (all_each small_element (corner 0) t.elements small_element_lem))

-- ---- what is read was written so

-- no float of a table is a NaN
pub record NoNan (t : Table) : Type 0 where
  pub points : all no_nans t.points ≡ true
  pub planes : all no_nan_plane t.planes ≡ true

pub sound_no_nan : (L : Limits) (t : Table) → sound L t ≡ true → NoNan t
sound_no_nan L t s =
    let g = sound_good L t s in
    record {
      points = all_map (sound_point t.dimension) no_nans (point_numbers t.dimension) t.points g.points;
      planes = all_map (sound_plane t.dimension) no_nan_plane (plane_no_nan t.dimension) t.planes g.planes;
    }

any_element : (xs : List Element) → all (λ x. true) xs ≡ true
any_element [] = refl
any_element (x ∷ xs) = any_element xs

-- the records after the header
records_only : (d ne nv nh : ℕ) (bs : List ℕ) (t : Table) (rest : List ℕ) → are_bytes bs ≡ true → NoNan t → records_in d ne nv nh bs ≡ got t rest
    → Front (joined (map point_record t.points) ++ (joined (map plane_record t.planes) ++ joined (map element_record t.elements))) bs rest
    × ((d ≡ t.dimension) × (ne ≡ element_count t) × (nv ≡ length t.points) × (nh ≡ length t.planes))
records_only d ne nv nh bs t rest s n q =
    let a = before (many nv (point_in d) bs) _ t rest q in
    let b = before (many nh (plane_in d) a.after) _ t rest a.second in
    let c = before (many ne element_in b.after) _ t rest b.second in
    go a.value b.value c.value a.after b.after c.after a.first b.first c.first c.second
  where
    go : (ps : List (List Float)) (hs : List Plane) (es : List Element) (b₁ b₂ b₃ : List ℕ) → many nv (point_in d) bs ≡ got ps b₁ → many nh (plane_in d) b₁ ≡ got hs b₂ → many ne element_in b₂ ≡ got es b₃
        → got (record { dimension = d; points = ps; elements = es; planes = hs }) b₃ ≡ got t rest
        → Front (joined (map point_record t.points) ++ (joined (map plane_record t.planes) ++ joined (map element_record t.elements))) bs rest
        × ((d ≡ t.dimension) × (ne ≡ element_count t) × (nv ≡ length t.points) × (nh ≡ length t.planes))
    go ps hs es b₁ b₂ b₃ e₁ e₂ e₃ e =
        let v = got_value (record { dimension = d; points = ps; elements = es; planes = hs }) t b₃ rest e in
        let w = got_rest (record { dimension = d; points = ps; elements = es; planes = hs }) t b₃ rest e in
        let u₁ : ps ≡ t.points = ap (λ (x : Table). x.points) v in
        let u₂ : hs ≡ t.planes = ap (λ (x : Table). x.planes) v in
        let u₃ : es ≡ t.elements = ap (λ (x : Table). x.elements) v in
        let f₁ = read_many point_record (point_in d) no_nans (read_point d) nv bs ps b₁ s e₁ (ap (all no_nans) u₁ ∙ n.points) in
        let f₂ = read_many plane_record (plane_in d) no_nan_plane (read_plane_lem d) nh b₁ hs b₂ f₁.bytes e₂ (ap (all no_nan_plane) u₂ ∙ n.planes) in
        let f₃ = read_many element_record element_in (λ x. true) (λ cs x ds k l m. read_element_lem cs x ds k l) ne b₂ es b₃ f₂.bytes e₃ (any_element es) in (
          subst (λ (x : Table). Front (joined (map point_record x.points) ++ (joined (map plane_record x.planes) ++ joined (map element_record x.elements))) bs rest) v
              (subst (λ (l : List ℕ). Front (joined (map point_record ps) ++ (joined (map plane_record hs) ++ joined (map element_record es))) bs l) w
              (fronts (joined (map point_record ps)) (joined (map plane_record hs) ++ joined (map element_record es)) bs b₁ b₃ f₁
              (fronts (joined (map plane_record hs)) (joined (map element_record es)) b₁ b₂ b₃ f₂ f₃))),
          (
            ap (λ (x : Table). x.dimension) v,
            sym (many_long element_in ne b₂ es b₃ e₃) ∙ ap length u₃,
            sym (many_long (point_in d) nv bs ps b₁ e₁) ∙ ap length u₁,
            sym (many_long (plane_in d) nh b₁ hs b₂ e₂) ∙ ap length u₂,
          ),
        )

pub read_file : (bs : List ℕ) (t : Table) (rest : List ℕ) → are_bytes bs ≡ true → NoNan t → layout bs ≡ got t rest → Front (file_of t) bs rest
unfolding layout file_of header
read_file bs t rest s n e =
    let m = read_mark 0x48 0x44 table_after bs t rest s e in
    numbers (drop 2 bs) m.0 m.1
  where
    parts : (b₀ b₁ b₂ b₃ b₄ : List ℕ) (d ne nv nh : ℕ) → Front (0x48 ∷ 0x44 ∷ []) bs b₀ → Front (bytes_of 2 d) b₀ b₁ → Front (bytes_of 2 ne) b₁ b₂ → Front (bytes_of 2 nv) b₂ b₃ → Front (bytes_of 2 nh) b₃ b₄
        → records_in d ne nv nh b₄ ≡ got t rest → Front (file_of t) bs rest
    parts b₀ b₁ b₂ b₃ b₄ d ne nv nh f₀ f₁ f₂ f₃ f₄ q =
        let r = records_only d ne nv nh b₄ t rest f₄.bytes n q in
        let k = r.1 in
        let w = joined (map point_record t.points) ++ (joined (map plane_record t.planes) ++ joined (map element_record t.elements)) in
        fronts (0x48 ∷ 0x44 ∷ []) (bytes_of 2 t.dimension ++ (bytes_of 2 (element_count t) ++ (bytes_of 2 (length t.points) ++ (bytes_of 2 (length t.planes) ++ w)))) bs b₀ rest f₀
        (fronts (bytes_of 2 t.dimension) (bytes_of 2 (element_count t) ++ (bytes_of 2 (length t.points) ++ (bytes_of 2 (length t.planes) ++ w))) b₀ b₁ rest (subst (λ (x : ℕ). Front (bytes_of 2 x) b₀ b₁) k.0 f₁)
        (fronts (bytes_of 2 (element_count t)) (bytes_of 2 (length t.points) ++ (bytes_of 2 (length t.planes) ++ w)) b₁ b₂ rest (subst (λ (x : ℕ). Front (bytes_of 2 x) b₁ b₂) k.1 f₂)
        (fronts (bytes_of 2 (length t.points)) (bytes_of 2 (length t.planes) ++ w) b₂ b₃ rest (subst (λ (x : ℕ). Front (bytes_of 2 x) b₂ b₃) k.2 f₃)
        (fronts (bytes_of 2 (length t.planes)) w b₃ b₄ rest (subst (λ (x : ℕ). Front (bytes_of 2 x) b₃ b₄) k.3 f₄) r.0))))

    numbers : (b₀ : List ℕ) → Front (0x48 ∷ 0x44 ∷ []) bs b₀ → table_after b₀ ≡ got t rest → Front (file_of t) bs rest
    numbers b₀ f₀ q =
        let a₁ = before (number 2 b₀) _ t rest q in
        let f₁ = (read_number 2 b₀ a₁.value a₁.after f₀.bytes a₁.first).0 in
        let a₂ = before (number 2 a₁.after) _ t rest a₁.second in
        let f₂ = (read_number 2 a₁.after a₂.value a₂.after f₁.bytes a₂.first).0 in
        let a₃ = before (number 2 a₂.after) _ t rest a₂.second in
        let f₃ = (read_number 2 a₂.after a₃.value a₃.after f₂.bytes a₃.first).0 in
        let a₄ = before (number 2 a₃.after) _ t rest a₃.second in
        let f₄ = (read_number 2 a₃.after a₄.value a₄.after f₃.bytes a₄.first).0 in
        parts b₀ a₁.after a₂.after a₃.after a₄.after a₁.value a₂.value a₃.value a₄.value f₀ f₁ f₂ f₃ f₄ a₄.second

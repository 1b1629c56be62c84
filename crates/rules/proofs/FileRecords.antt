-- The three kinds of records, there and back: a record that was written is read, and a record that is read was written so.
use Rattle.std.specs.Prelude.{if◌then◌else◌, Some, None}
use Prim.Native.Nat.{ℕ, suc, ◌≤◌, ◌<◌}
use mathlib.Core.Bool.{Bool, true, false, not, ◌&&◌, cond, true≢false}
use mathlib.Core.List.{List, [], ◌∷◌, ◌++◌, append_assoc, append-nil}
use mathlib.Core.Path.{◌≡◌, refl, sym, ap, subst, ◌∙◌}
use native.Mathlib.Omega.{arith}
use lib.Dec.{leb, ltb, eqb}
use lib.ListN.{length, get_or, take, drop}
use lib.Seq.{take_all}
use lib.Ieee.{Float, binary64, fits, is_nan}
use Rattle.rules.specs.Limits.{Limits, Readable, no_plane}
use Rattle.rules.specs.Lists.{all}
use Rattle.rules.specs.Bytes.{are_bytes, bytes_of, number_bytes, float_byte8, float_bytes}
use Rattle.rules.specs.Table.{Element, corner, polytope, Plane}
use Rattle.rules.specs.Memory.{plane_number, plane_named, element_row, read_element}
use Rattle.rules.specs.Held.{fitting}
use Rattle.rules.specs.Files.{broken, got, and_then, many, number, float, point_record, plane_record, element_record, point_in, plane_after, plane_in, element_fits, element_after, element_in, are_floats}
use Rattle.rules.proofs.ByteLaws.{Front, fronts, got_value, got_rest, before, and_then_lem, chosen, write_number, read_number, write_float, read_float, write_mark, read_mark, write_many, read_many, many_long}
use Rattle.rules.proofs.Laws.{and_left, and_right, and_true, le_test, eq_test, test_eq, not_true, not_eq, if_true, if_false}
use Rattle.rules.proofs.RoundTrip.{row_back}

-- ---- floats one after another

-- no float is a NaN
abbrev pub no_nans : List Float → Bool
no_nans xs = all (λ x. not (is_nan x)) xs

write_floats : (d : ℕ) (xs : List Float) (rest : List ℕ) → length xs ≡ d → are_floats xs ≡ true → many d float (float_bytes xs ++ rest) ≡ got xs rest
write_floats d xs rest l h = ap (λ (n : ℕ). many n float (float_bytes xs ++ rest)) (sym l) ∙ write_many float_byte8 float (λ x. fits binary64 x) write_float xs rest h

read_floats : (d : ℕ) (bs : List ℕ) (xs : List Float) (rest : List ℕ) → are_bytes bs ≡ true → many d float bs ≡ got xs rest → no_nans xs ≡ true → Front (float_bytes xs) bs rest
read_floats d bs xs rest h e k = read_many float_byte8 float (λ x. not (is_nan x)) (λ cs x ds b g n. read_float cs x ds b g (not_true (is_nan x) n)) d bs xs rest h e k

-- ---- a vertex

module _ (d : ℕ) where
  pub write_point : (p : List Float) (rest : List ℕ) → (eqb (length p) d && are_floats p) ≡ true → point_in d (point_record p ++ rest) ≡ got p rest
  unfolding point_in point_record
  write_point p rest h =
      write_mark 0x56 0x58 (many d float) (float_bytes p ++ rest)
      ∙ write_floats d p rest (eq_test (length p) d (and_left (eqb (length p) d) (are_floats p) h)) (and_right (eqb (length p) d) (are_floats p) h)

  pub read_point : (bs : List ℕ) (p : List Float) (rest : List ℕ) → are_bytes bs ≡ true → point_in d bs ≡ got p rest → no_nans p ≡ true → Front (point_record p) bs rest
  unfolding point_in point_record
  read_point bs p rest h e k =
      let m = read_mark 0x56 0x58 (many d float) bs p rest h e in
      fronts (0x56 ∷ 0x58 ∷ []) (float_bytes p) bs (drop 2 bs) rest m.0 (read_floats d (drop 2 bs) p rest m.0.bytes m.1 k)

  -- ---- a hyperplane

  abbrev pub plane_floats : Plane → Bool
  plane_floats h = eqb (length h.normal) d && (are_floats h.normal && fits binary64 h.distance)

  pub write_plane : (h : Plane) (rest : List ℕ) → plane_floats h ≡ true → plane_in d (plane_record h ++ rest) ≡ got h rest
  unfolding plane_in plane_record
  write_plane h rest k =
      let s = and_right (eqb (length h.normal) d) _ k in
      write_mark 0x48 0x50 (plane_after d) ((float_bytes h.normal ++ float_byte8 h.distance) ++ rest)
      ∙ ap (plane_after d) (append_assoc (float_bytes h.normal) (float_byte8 h.distance) rest)
      ∙ and_then_lem (many d float (float_bytes h.normal ++ (float_byte8 h.distance ++ rest))) _ h.normal (float_byte8 h.distance ++ rest)
      (write_floats d h.normal (float_byte8 h.distance ++ rest) (eq_test (length h.normal) d (and_left (eqb (length h.normal) d) _ k)) (and_left (are_floats h.normal) _ s))
      ∙ and_then_lem (float (float_byte8 h.distance ++ rest)) _ h.distance rest (write_float h.distance rest (and_right (are_floats h.normal) _ s))

  pub read_plane_lem : (bs : List ℕ) (h : Plane) (rest : List ℕ) → are_bytes bs ≡ true → plane_in d bs ≡ got h rest → (no_nans h.normal && not (is_nan h.distance)) ≡ true → Front (plane_record h) bs rest
  unfolding plane_in plane_record
  read_plane_lem bs h rest s e k =
      let m = read_mark 0x48 0x50 (plane_after d) bs h rest s e in
      let b = before (many d float (drop 2 bs)) _ h rest m.1 in
      let c = before (float b.after) _ h rest b.second in
      let q = c.second in
      let u : record { normal = b.value; distance = c.value } ≡ h = cc in
      let n : b.value ≡ h.normal = ap (λ (x : Plane). x.normal) u in
      let x : c.value ≡ h.distance = ap (λ (y : Plane). y.distance) u in
      let w : c.after ≡ rest = cc in
      let f = read_floats d (drop 2 bs) b.value b.after m.0.bytes b.first (ap no_nans n ∙ and_left (no_nans h.normal) _ k) in
      let g = read_float b.after c.value c.after f.bytes c.first (ap is_nan x ∙ not_true (is_nan h.distance) (and_right (no_nans h.normal) _ k)) in
      let r = fronts (0x48 ∷ 0x50 ∷ []) _ bs (drop 2 bs) c.after m.0 (fronts (float_bytes b.value) (float_byte8 c.value) (drop 2 bs) b.after c.after f g) in
      subst (λ (l : List ℕ). Front (plane_record h) bs l) w
      (subst (λ (y : Plane). Front (0x48 ∷ 0x50 ∷ (float_bytes y.normal ++ float_byte8 y.distance)) bs c.after) u r)

-- ---- an element: first its row

-- a row of the layout is the row of what it says
pub row_only : (r m h c : ℕ) (b : List ℕ) → element_fits r m h c ≡ true → length b ≡ c → element_row (read_element (r ∷ m ∷ h ∷ c ∷ b)) ≡ r ∷ m ∷ h ∷ c ∷ b
unfolding element_row read_element
row_only r m h c b k l = go (eqb r 0) refl (and_right (leb m 1) _ k)
  where
    named : (x : Bool) → eqb h no_plane ≡ x → plane_number (if x then None else Some h) ≡ h
    named true e = sym (eq_test h no_plane e)
    named false e = refl

    mark : (x : Bool) → eqb m 1 ≡ x → cond x 1 0 ≡ m
    mark true e = sym (eq_test m 1 e)
    mark false e =
        let u = le_test m 1 (and_left (leb m 1) _ k) in
        let v : m ≡ 1 → ⊥ = λ q. true≢false (sym (test_eq m 1 q) ∙ e) in
        let z : m ≡ 0 = omega (arith, u, v) in
        sym z

    alone : (y : List ℕ) → length y ≡ 1 → get_or y 0 0 ∷ [] ≡ y
    alone [] e = absurd (let z : ⊥ = omega (arith, e) in z)
    alone (v ∷ []) e = refl
    alone (v ∷ w ∷ y) e = absurd (let z : ⊥ = omega (arith, e) in z)

    go : (x : Bool) → eqb r 0 ≡ x → (if x then (eqb m 0 && eqb h no_plane && eqb c 1) else true) ≡ true
        → element_row (if x then corner (get_or b 0 0) else polytope r (take c b) (plane_named h) (eqb m 1)) ≡ r ∷ m ∷ h ∷ c ∷ b
    go true e f =
        let f₁ = and_left (eqb m 0 && eqb h no_plane) (eqb c 1) f in
        let a : c ≡ 1 = eq_test c 1 (and_right (eqb m 0 && eqb h no_plane) (eqb c 1) f) in
        let p : r ≡ 0 = eq_test r 0 e in
        let q : m ≡ 0 = eq_test m 0 (and_left (eqb m 0) (eqb h no_plane) f₁) in
        let s : h ≡ no_plane = eq_test h no_plane (and_right (eqb m 0) (eqb h no_plane) f₁) in
        let v : get_or b 0 0 ∷ [] ≡ b = alone b (l ∙ a) in
        λ i. (sym p i) ∷ (sym q i) ∷ (sym s i) ∷ (sym a i) ∷ v i
    go false e f =
        let t : take c b ≡ b = take_all c b (let z : length b ≤ c = omega (arith, l) in z) in
        λ i. r ∷ (mark (eqb m 1) refl i) ∷ (named (eqb h no_plane) refl i) ∷ ((ap length t ∙ l) i) ∷ t i

-- an element's words have the width that the file gives them
abbrev pub small_element : Element → Bool
small_element (corner v) = ltb v 65536
small_element (polytope r b h m) = ltb r 256 && (ltb (plane_number h) 65536 && (ltb (length b) 65536 && all (λ x. ltb x 65536) b))

module _ (L : Limits) (U : Readable L) where
  -- the row's words, and then what is made of them
  write_row : (r m h : ℕ) (b rest : List ℕ) → r < 256 → m < 256 → h < 65536 → length b < 65536 → all (λ x. ltb x 65536) b ≡ true → element_fits r m h (length b) ≡ true
      → element_after (bytes_of 1 r ++ (bytes_of 1 m ++ (bytes_of 2 h ++ (bytes_of 2 (length b) ++ (number_bytes 2 b ++ rest))))) ≡ got (read_element (r ∷ m ∷ h ∷ length b ∷ b)) rest
  write_row r m h b rest hr hm hh hc hb k =
      let b₄ = number_bytes 2 b ++ rest in
      let b₃ = bytes_of 2 (length b) ++ b₄ in
      let b₂ = bytes_of 2 h ++ b₃ in
      let b₁ = bytes_of 1 m ++ b₂ in
      and_then_lem (number 1 (bytes_of 1 r ++ b₁)) _ r b₁ (write_number 1 r b₁ hr)
      ∙ and_then_lem (number 1 b₁) _ m b₂ (write_number 1 m b₂ hm)
      ∙ and_then_lem (number 2 b₂) _ h b₃ (write_number 2 h b₃ hh)
      ∙ and_then_lem (number 2 b₃) _ (length b) b₄ (write_number 2 (length b) b₄ hc)
      ∙ and_then_lem (many (length b) (number 2) b₄) _ b rest (write_many (bytes_of 2) (number 2) (λ x. ltb x 65536) (λ x ds q. write_number 2 x ds (le_test (suc x) 65536 q)) b rest hb)
      ∙ if_true (element_fits r m h (length b)) _ _ k

  marks : (m : Bool) → (cond m 1 0 < 256) × (leb (cond m 1 0) 1 ≡ true)
  marks true = (omega arith, refl)
  marks false = (omega arith, refl)

  row_there : (e : Element) (rest : List ℕ) → fitting L e ≡ true → small_element e ≡ true
      → element_after ((number_bytes 1 (take 2 (element_row e)) ++ number_bytes 2 (drop 2 (element_row e))) ++ rest) ≡ got (read_element (element_row e)) rest
  unfolding element_row
  row_there (corner v) rest f s =
      write_row 0 0 no_plane (v ∷ []) rest (omega arith) (omega arith) (omega arith) (omega arith) (and_true (ltb v 65536) true s refl) refl
  row_there (polytope r b h m) rest f s =
      let s₁ = and_right (ltb r 256) _ s in
      let s₂ = and_right (ltb (plane_number h) 65536) _ s₁ in
      let l = le_test 1 r (and_left (leb 1 r) (leb (length b) L.boundary) (and_left (leb 1 r && leb (length b) L.boundary) _ f)) in
      write_row r (cond m 1 0) (plane_number h) b rest
      (le_test (suc r) 256 (and_left (ltb r 256) _ s)) (marks m).0 (le_test (suc (plane_number h)) 65536 (and_left (ltb (plane_number h) 65536) _ s₁))
      (le_test (suc (length b)) 65536 (and_left (ltb (length b) 65536) _ s₂)) (and_right (ltb (length b) 65536) _ s₂)
      (and_true (leb (cond m 1 0) 1) _ (marks m).1 (if_false (eqb r 0) _ _ (not_eq r 0 (λ q. (let z : ⊥ = omega (arith, l, q) in z)))))

  pub write_element : (e : Element) (rest : List ℕ) → (fitting L e && small_element e) ≡ true → element_in (element_record e ++ rest) ≡ got e rest
  unfolding element_in element_record
  write_element e rest k =
      let f = and_left (fitting L e) (small_element e) k in
      write_mark 0x45 0x4C element_after ((number_bytes 1 (take 2 (element_row e)) ++ number_bytes 2 (drop 2 (element_row e))) ++ rest)
      ∙ row_there e rest f (and_right (fitting L e) (small_element e) k)
      ∙ ap (λ (x : Element). got x rest) (ap read_element (sym (append-nil (element_row e))) ∙ row_back L U e [] f)

-- the parts of an element's record, put together
element_parts : (bs b₀ b₁ b₂ b₃ b₄ b₅ rest : List ℕ) (r m h c : ℕ) (b : List ℕ) (e : Element) → Front (0x45 ∷ 0x4C ∷ []) bs b₀
    → Front (bytes_of 1 r) b₀ b₁ → Front (bytes_of 1 m) b₁ b₂ → Front (bytes_of 2 h) b₂ b₃ → Front (bytes_of 2 c) b₃ b₄ → Front (number_bytes 2 b) b₄ b₅
    → length b ≡ c → (if element_fits r m h c then got (read_element (r ∷ m ∷ h ∷ c ∷ b)) b₅ else broken) ≡ got e rest → Front (element_record e) bs rest
unfolding element_record
element_parts bs b₀ b₁ b₂ b₃ b₄ b₅ rest r m h c b e f₀ f₁ f₂ f₃ f₄ f₅ l g =
    let q = chosen (element_fits r m h c) (got (read_element (r ∷ m ∷ h ∷ c ∷ b)) b₅) e rest g in
    let v = got_value (read_element (r ∷ m ∷ h ∷ c ∷ b)) e b₅ rest q.1 in
    let w = got_rest (read_element (r ∷ m ∷ h ∷ c ∷ b)) e b₅ rest q.1 in
    subst (λ (x : List ℕ). Front (element_record e) bs x) w
    (subst (λ (x : List ℕ). Front (0x45 ∷ 0x4C ∷ (number_bytes 1 (take 2 x) ++ number_bytes 2 (drop 2 x))) bs b₅) (sym (row_only r m h c b q.0 l) ∙ ap element_row v)
    (fronts (0x45 ∷ 0x4C ∷ []) (bytes_of 1 r ++ (bytes_of 1 m ++ (bytes_of 2 h ++ (bytes_of 2 c ++ number_bytes 2 b)))) bs b₀ b₅ f₀
    (fronts (bytes_of 1 r) (bytes_of 1 m ++ (bytes_of 2 h ++ (bytes_of 2 c ++ number_bytes 2 b))) b₀ b₁ b₅ f₁
    (fronts (bytes_of 1 m) (bytes_of 2 h ++ (bytes_of 2 c ++ number_bytes 2 b)) b₁ b₂ b₅ f₂
    (fronts (bytes_of 2 h) (bytes_of 2 c ++ number_bytes 2 b) b₂ b₃ b₅ f₃
    (fronts (bytes_of 2 c) (number_bytes 2 b) b₃ b₄ b₅ f₄ f₅))))))

-- of a number, nothing is asked
any_number : (xs : List ℕ) → all (λ x. true) xs ≡ true
any_number [] = refl
any_number (x ∷ xs) = any_number xs

pub read_element_lem : (bs : List ℕ) (e : Element) (rest : List ℕ) → are_bytes bs ≡ true → element_in bs ≡ got e rest → Front (element_record e) bs rest
unfolding element_in
read_element_lem bs e rest s g =
    let m = read_mark 0x45 0x4C element_after bs e rest s g in
    rank_of_lem (drop 2 bs) m.0 m.1
  where
    boundary_of_lem : (b₀ b₁ b₂ b₃ b₄ : List ℕ) (r m h c : ℕ) → Front (0x45 ∷ 0x4C ∷ []) bs b₀ → Front (bytes_of 1 r) b₀ b₁ → Front (bytes_of 1 m) b₁ b₂ → Front (bytes_of 2 h) b₂ b₃ → Front (bytes_of 2 c) b₃ b₄
        → and_then (many c (number 2) b₄) (λ b b₅. if element_fits r m h c then got (read_element (r ∷ m ∷ h ∷ c ∷ b)) b₅ else broken) ≡ got e rest → Front (element_record e) bs rest
    boundary_of_lem b₀ b₁ b₂ b₃ b₄ r m h c f₀ f₁ f₂ f₃ f₄ q =
        let a = before (many c (number 2) b₄) _ e rest q in
        element_parts bs b₀ b₁ b₂ b₃ b₄ a.after rest r m h c a.value e f₀ f₁ f₂ f₃ f₄
        (read_many (bytes_of 2) (number 2) (λ x. true) (λ cs x ds b k t. (read_number 2 cs x ds b k).0) c b₄ a.value a.after f₄.bytes a.first (any_number a.value))
        (many_long (number 2) c b₄ a.value a.after a.first) a.second

    rank_of_lem : (b₀ : List ℕ) → Front (0x45 ∷ 0x4C ∷ []) bs b₀ → element_after b₀ ≡ got e rest → Front (element_record e) bs rest
    rank_of_lem b₀ f₀ q =
        let a₁ = before (number 1 b₀) _ e rest q in
        let f₁ = (read_number 1 b₀ a₁.value a₁.after f₀.bytes a₁.first).0 in
        let a₂ = before (number 1 a₁.after) _ e rest a₁.second in
        let f₂ = (read_number 1 a₁.after a₂.value a₂.after f₁.bytes a₂.first).0 in
        let a₃ = before (number 2 a₂.after) _ e rest a₂.second in
        let f₃ = (read_number 2 a₂.after a₃.value a₃.after f₂.bytes a₃.first).0 in
        let a₄ = before (number 2 a₃.after) _ e rest a₃.second in
        let f₄ = (read_number 2 a₃.after a₄.value a₄.after f₃.bytes a₄.first).0 in
        boundary_of_lem b₀ a₁.after a₂.after a₃.after a₄.after a₁.value a₂.value a₃.value a₄.value f₀ f₁ f₂ f₃ f₄ a₄.second

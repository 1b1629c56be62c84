-- Steps that leave a table as it is: where two steps together do, each does. And what adding a polytope did.
use Prim.Native.Nat.{◌+◌, ℕ}
use mathlib.Core.Bool.{Bool, true, false}
use mathlib.Core.List.{List, [], ◌∷◌, ◌++◌, append-nil}
use mathlib.Core.Path.{◌≡◌, refl, ap, ◌∙◌, subst}
use native.Mathlib.Omega.{arith}
use lib.Dec.{ltb, leb}
use lib.ListN.{length, length-append}
use Rattle.rules.specs.Limits.{Limits}
use Rattle.rules.specs.Table.{polytope, Table}
use Rattle.rules.specs.Sound.{closed}
use Rattle.rules.specs.Cut.{Outcome, done, refused, give, Step, next, add_element, add_polytope, given}
use Rattle.rules.specs.Held.{Begins, Extends}
use Rattle.rules.proofs.Built.{After, Builds, built_extends}
use Rattle.carvings.proofs.Embeds.{Added, added, done_value, done_table, not_done}
use Rattle.rules.proofs.LaterAppends.{polytope_by}
use Rattle.rules.specs.declared.ElementId.{ElementId}
use Rattle.std.specs.Prelude.{Option, None}

-- ---- steps that leave a table as it is

begins_both : {A : Type 0} (xs ys : List A) → Begins xs ys → Begins ys xs → ys ≡ xs
begins_both {A} xs ys p q = p.1 ∙ ap (λ (l : List A). xs ++ l) (empty p.0 long) ∙ append-nil xs
  where
    long : length p.0 ≡ 0
    long =
        let a : length ys ≡ length xs + length p.0 = ap length p.1 ∙ length-append xs p.0 in
        let b : length xs ≡ length ys + length q.0 = ap length q.1 ∙ length-append ys q.0 in
        omega (arith, a, b)

    empty : (l : List A) → length l ≡ 0 → l ≡ []
    empty [] e = refl
    empty (x ∷ l) e = absurd (let w : ⊥ = omega (arith, e) in w)

same_table : (t u : Table) → Extends t u → Extends u t → u ≡ t
same_table t u x y = λ k. record {
  dimension = x.dimension k;
  points = begins_both t.points u.points x.points y.points k;
  elements = begins_both t.elements u.elements x.elements y.elements k;
  planes = begins_both t.planes u.planes x.planes y.planes k;
}

pub next_done : {X Y : Type 0} (o : Outcome X) (k : X → Step Y) (a : Y) (u : Table) → next o k ≡ done a u → (x : X) × (s : Table) × (o ≡ done x s) × (k x s ≡ done a u)
next_done (refused n) k a u h = not_done h
next_done (done x s) k a u h = (x, s, refl, h)

-- where two steps together leave a table, each does
pub left_next : {X Y : Type 0} (B : Table) (o : Outcome X) (k : X → Step Y) (b : Y) → After B o → ((x : X) → Builds (k x)) → next o k ≡ done b B
    → (x : X) × (o ≡ done x B) × (k x B ≡ done b B)
left_next {X} B o k b ho hk e =
    let w = next_done o k b B e in
    let same : w.1 ≡ B = same_table B w.1 (built_extends (subst (After B) w.2 ho)) (built_extends (subst (After w.1) w.3 (hk w.0 w.1))) in
    (w.0, w.2 ∙ ap (λ (s : Table). done w.0 s) same, subst (λ (s : Table). k w.0 s ≡ done b B) same w.3)

-- ---- what adding a polytope did

pub data Poly (L : Limits) (r : ℕ) (b : List ℕ) (h : Option ℕ) (m : Bool) (t : Table) (a : Option ElementId) (u : Table) : Type 0 where
  few : leb (length b) r ≡ true → None ≡ a → t ≡ u → Poly L r b h m t a u
  one : leb (length b) r ≡ false → ltb L.boundary (length b) ≡ false → closed t r b ≡ true → (i : ℕ) → given i ≡ a → Added (polytope r b h m) t i u → Poly L r b h m t a u

pub poly : (L : Limits) (r : ℕ) (b : List ℕ) (h : Option ℕ) (m : Bool) (t : Table) (a : Option ElementId) (u : Table) → add_polytope L r b h m t ≡ done a u → Poly L r b h m t a u
unfolding add_polytope
poly L r b h m t a u e = go (leb (length b) r) (ltb L.boundary (length b)) (closed t r b) refl refl refl e
  where
    go : (f n c : Bool) → leb (length b) r ≡ f → ltb L.boundary (length b) ≡ n → closed t r b ≡ c → polytope_by L r b h m f n c t ≡ done a u → Poly L r b h m t a u
    go true n c q q₂ q₃ k = few q (done_value k) (done_table k)
    go false true c q q₂ q₃ k = not_done k
    go false false false q q₂ q₃ k = not_done k
    go false false true q q₂ q₃ k =
        let w = next_done (add_element L (polytope r b h m) t) (λ i. give (given i)) a u k in
        one q q₂ q₃ w.0 (done_value w.3) (subst (λ (s : Table). Added (polytope r b h m) t w.0 s) (done_table w.3) (added L (polytope r b h m) t w.0 w.1 w.2))

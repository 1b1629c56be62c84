-- The parts of a ring: the cut is walked once each way, and a corner in line with its edge adds nothing. The rest is the order of a sum.
use Rattle.std.proofs.Common.{◌≡◌, suc, ◌+◌, List, [], ◌∷◌, ◌++◌, ℤ, pos, negsuc, ◌+ℤ◌, ◌*ℤ◌, neg_ℤ, sym, refl, ap, ◌∙◌, ap₂, true≢false, arith}
use mathlib.Core.Bool.{false≢true}
use lib.IntN.{+ℤ_idl, +ℤ_idr, +ℤ_assoc, +ℤ_comm, +ℤ_invr, +ℤ_invl, neg_ℤ-neg_ℤ, neg_ℤ-+ℤ}
use Rattle.areas.specs.Promises.{Spot, turn_to, turns_to, ring_area, last_of, InLine, PartsAddUp, SizesAddUp, Promises}

-- ---- the order of a sum

swap_first : (a b c : ℤ) → a +ℤ (b +ℤ c) ≡ b +ℤ (a +ℤ c)
swap_first a b c = sym (+ℤ_assoc a b c) ∙ ap (λ (x : ℤ). x +ℤ c) (+ℤ_comm a b) ∙ +ℤ_assoc b a c

-- what the two parts have, put in pairs
paired : (s t c u b a v d : ℤ) → (s +ℤ (c +ℤ (u +ℤ (b +ℤ pos 0)))) +ℤ (t +ℤ (a +ℤ (v +ℤ (d +ℤ pos 0)))) ≡ (u +ℤ v) +ℤ ((s +ℤ (c +ℤ d)) +ℤ (t +ℤ (a +ℤ b)))
paired s t c u b a v d = simp (+ℤ_assoc, +ℤ_comm, swap_first, +ℤ_idr)

-- ---- turns

turn_back : (a b : Spot) → turn_to b a ≡ neg_ℤ (turn_to a b)
turn_back a b = sym (neg_ℤ-+ℤ (a.0 *ℤ b.1) (neg_ℤ (b.0 *ℤ a.1)) ∙ ap (λ (x : ℤ). neg_ℤ (a.0 *ℤ b.1) +ℤ x) (neg_ℤ-neg_ℤ (b.0 *ℤ a.1)) ∙ +ℤ_comm (neg_ℤ (a.0 *ℤ b.1)) (b.0 *ℤ a.1))

forth_and_back : (p q : Spot) → turn_to q p +ℤ turn_to p q ≡ pos 0
forth_and_back p q = ap (λ (x : ℤ). turn_to q p +ℤ x) (turn_back q p) ∙ +ℤ_invr (turn_to q p)

cancelled : (x y : ℤ) → x +ℤ neg_ℤ y ≡ pos 0 → x ≡ y
cancelled x y h = sym (+ℤ_idr x) ∙ ap (λ (z : ℤ). x +ℤ z) (sym (+ℤ_invl y)) ∙ sym (+ℤ_assoc x (neg_ℤ y) y) ∙ ap (λ (z : ℤ). z +ℤ y) h ∙ +ℤ_idl y

-- over a corner in line the turns are the edge's own
over : (a p b : Spot) → InLine a p b → turn_to a p +ℤ turn_to p b ≡ turn_to a b
over a p b h =
    cancelled (turn_to a p +ℤ turn_to p b) (turn_to a b)
    (ap (λ (x : ℤ). turn_to a p +ℤ turn_to p b +ℤ x) (sym (turn_back a b) ∙ sym (+ℤ_idr (turn_to b a))) ∙ +ℤ_assoc (turn_to a p) (turn_to p b) (turn_to b a +ℤ pos 0) ∙ h)

turns_on : (a : Spot) (bs cs : List Spot) → turns_to a (bs ++ cs) ≡ turns_to a bs +ℤ turns_to (last_of a bs) cs
turns_on a [] cs = sym (+ℤ_idl (turns_to a cs))
turns_on a (b ∷ bs) cs = ap (λ (x : ℤ). turn_to a b +ℤ x) (turns_on b bs cs) ∙ sym (+ℤ_assoc (turn_to a b) (turns_to b bs) (turns_to (last_of b bs) cs))

append_assoc : (xs ys zs : List Spot) → xs ++ ys ++ zs ≡ xs ++ (ys ++ zs)
append_assoc [] ys zs = refl
append_assoc (x ∷ xs) ys zs = ap (λ (l : List Spot). x ∷ l) (append_assoc xs ys zs)

-- a path that goes on by cs and then by ds
turns_past : (a : Spot) (bs cs ds : List Spot) → turns_to a (bs ++ cs ++ ds) ≡ turns_to a bs +ℤ turns_to (last_of a bs) (cs ++ ds)
turns_past a bs cs ds = ap (turns_to a) (append_assoc bs cs ds) ∙ turns_on a bs (cs ++ ds)

parts_add_up : PartsAddUp
parts_add_up b d p q bs ds hq hp =
    let c = last_of b bs in
    let a = last_of d ds in
    let s = turns_to b bs in
    let t = turns_to d ds in
    let one : ring_area b (bs ++ q ∷ p ∷ []) ≡ s +ℤ (turn_to c q +ℤ (turn_to q p +ℤ (turn_to p b +ℤ pos 0))) = turns_past b bs (q ∷ p ∷ []) (b ∷ []) in
    let two : ring_area d (ds ++ p ∷ q ∷ []) ≡ t +ℤ (turn_to a p +ℤ (turn_to p q +ℤ (turn_to q d +ℤ pos 0))) = turns_past d ds (p ∷ q ∷ []) (d ∷ []) in
    let rest : turns_to d (ds ++ b ∷ []) ≡ t +ℤ (turn_to a b +ℤ pos 0) = turns_on d ds (b ∷ []) in
    let whole : ring_area b (bs ++ d ∷ ds) ≡ s +ℤ (turn_to c d +ℤ turns_to d (ds ++ b ∷ [])) = turns_past b bs (d ∷ ds) (b ∷ []) in
    ap₂ (λ (x y : ℤ). x +ℤ y) one two
    ∙ paired s t (turn_to c q) (turn_to q p) (turn_to p b) (turn_to a p) (turn_to p q) (turn_to q d)
    ∙ ap₂ (λ (x y : ℤ). x +ℤ y) (forth_and_back p q) (ap₂ (λ (x y : ℤ). s +ℤ x +ℤ (t +ℤ y)) (over c q d hq) (over a p b hp))
    ∙ +ℤ_idl (s +ℤ turn_to c d +ℤ (t +ℤ turn_to a b))
    ∙ +ℤ_assoc s (turn_to c d) (t +ℤ turn_to a b)
    ∙ ap (λ (x : ℤ). s +ℤ (turn_to c d +ℤ x)) (ap (λ (x : ℤ). t +ℤ x) (sym (+ℤ_idr (turn_to a b))) ∙ sym rest)
    ∙ sym whole

-- ---- sizes

sizes_add_up : SizesAddUp
sizes_add_up (pos m) (pos n) h = refl
sizes_add_up (pos m) (negsuc n) h = absurd (true≢false h)
sizes_add_up (negsuc m) (pos n) h = absurd (false≢true h)
sizes_add_up (negsuc m) (negsuc n) h = let z : suc (suc (m + n)) ≡ suc m + suc n = omega arith in z

pub promises : Promises
promises = record { parts_add_up = parts_add_up; sizes_add_up = sizes_add_up }

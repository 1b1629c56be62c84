-- The public reply of a cut by what was asked: 3, 4 or 5, then rule 1, and the rules from 2 on.
use Prim.Native.Nat.{ℕ, zero, suc, ◌-◌, ◌≤◌}
use mathlib.Core.Path.{◌≡◌, refl, sym, ap, ap₂, ◌∙◌}
use mathlib.Core.Bool.{Bool, true, false}
use mathlib.Core.List.{List, [], ◌∷◌, ◌++◌}
use native.Mathlib.Nat.{le_trans, le_of_eq, sub-zero}
use native.Mathlib.Omega.{arith}
use lib.ListN.{length, get_or, take, drop, replicate}
use lib.Seq.{length-take-le}
use lib.Ieee.{Float, nan, inf, fin}
use Rattle.rules.specs.Limits.{desk}
use Rattle.rules.specs.Lists.{all}
use Rattle.rules.specs.Floats.{plus_zero, same_bits}
use Rattle.rules.specs.Table.{Table}
use Rattle.rules.specs.Sound.{sound_plane}
use Rattle.rules.specs.Memory.{Memory, encode, decode, sound_memory, plane_row}
use Rattle.rules.specs.Held.{memory_of}
use Rattle.rules.specs.Cut.{Params, cut, cut_at_distance, cut_finite, given}
use Rattle.rules.specs.Replies.{divider_of, params_of, written, cut_reply}
use Rattle.rules.specs.declared.Hyperplane.{Hyperplane}
use Rattle.rules.specs.declared.ElementCutOutput.TheVariants.{NonFlush}
use Rattle.rules.specs.declared.CutParams.{CutParams}
use Rattle.rules.proofs.Good.{sound_good}
use Rattle.rules.proofs.Laws.{and_left, and_right, and_true, test_eq, le_test}
use Rattle.rules.proofs.Selves.{same_float}
use Rattle.space.specs.Chains.{Indexed}
use Rattle.space.specs.Shared.{row_of}
use Rattle.space.proofs.Lent.{memory_sound_table, holds_memory}
use Rattle.space.proofs.RowAdds.{readable_desk}
use Rattle.space.proofs.VertexMemo.{four_is}
use Rattle.soundness.specs.Asked.{at_distance, asked}
use Rattle.soundness.specs.declared.asked.Asking.{Asking}
use Rattle.soundness.specs.declared.asked.Asking.TheVariants as asking
use Rattle.soundness.proofs.AskedOnce.{held, answered, replied, asked_law, TestsPassed, asked_passed, asked_finite}
use Rattle.cut.specs.Whole.{CutFit, CutReady, WholeCut}
use Rattle.rules.specs.Refusals.{Reply}
use Rattle.rules.specs.declared.ElementAnswer.{ElementAnswer}
use Rattle.std.specs.Prelude.{None, Err, Ok}
use Rattle.rules.specs.Replies.{answer_with}
use Rattle.rules.specs.declared.Refusal.{Refusal}

-- ---- zero bits past the dimension

zero_list : (xs : List Float) → all (same_bits plus_zero) xs ≡ true → replicate (length xs) plus_zero ≡ xs
zero_list [] h = refl
zero_list (x ∷ xs) h =
    ap₂ (λ (a : Float) (b : List Float). a ∷ b) (same_float plus_zero x (and_left (same_bits plus_zero x) (all (same_bits plus_zero) xs) h))
    (zero_list xs (and_right (same_bits plus_zero x) (all (same_bits plus_zero) xs) h))

zeros_back : (d : ℕ) (xs : List Float) → all (same_bits plus_zero) (drop d xs) ≡ true → take d xs ++ replicate (length xs - length (take d xs)) plus_zero ≡ xs
zeros_back zero xs h = ap (λ (n : ℕ). replicate n plus_zero) (sub-zero (length xs)) ∙ zero_list xs h
zeros_back (suc d) [] h = refl
zeros_back (suc d) (x ∷ xs) h =
    ap (λ (n : ℕ). x ∷ (take d xs ++ replicate n plus_zero)) (let z : suc (length xs) - suc (length (take d xs)) ≡ length xs - length (take d xs) = omega arith in z)
    ∙ ap (λ (l : List Float). x ∷ l) (zeros_back d xs h)

row_is : (d : ℕ) (h : Hyperplane) → length h.normal ≡ 4 → all (same_bits plus_zero) (drop d h.normal) ≡ true → row_of h ≡ plane_row desk (divider_of d h)
unfolding plane_row
row_is d h l z =
    ap (λ (p : List Float). p ++ h.distance ∷ []) (four_is h.normal l)
    ∙ ap (λ (p : List Float). p ++ h.distance ∷ []) (sym (zeros_back d h.normal z) ∙ ap (λ (n : ℕ). take d h.normal ++ replicate (n - length (take d h.normal)) plus_zero) l)

-- ---- the reply

-- a cut in the terms of its root, its parameters and the lent memory
module _ (p : CutParams) (root : ℕ) (cs : List ℕ) (ps hs : List Float) (es : List ℕ) where
  abbrev m : Memory
  m = memory_of cs ps hs es

  abbrev t : Table
  t = decode desk m

  abbrev h : Hyperplane
  h = p.divider

  abbrev params : Params
  params = params_of t.dimension p

  abbrev infinite : Bool → Reply ElementAnswer × Memory
  infinite s = written desk m (cut_at_distance desk params (inf s) root t)

  abbrev finite : Reply ElementAnswer × Memory
  finite = written desk m (cut_finite desk params root t)

  -- what is made of an answer
  abbrev made : Reply Asking → Reply ElementAnswer × Memory
  made a = answered (λ n. (Err n, m)) (infinite false) (infinite true) finite a

  by_distance : (x : Float) → at_distance (infinite false) (infinite true) finite x ≡ written desk m (cut_at_distance desk params x root t)
  by_distance nan = refl
  by_distance (inf false) = refl
  by_distance (inf true) = refl
  by_distance (fin s a b) = refl

  made_is : {a : Reply Asking} → a ≡ asked m h root → made a ≡ cut_reply desk p root m
  unfolding cut_reply cut
  made_is q =
      ap made q ∙ asked_law (λ n. (Err n, m)) (infinite false) (infinite true) finite m h root
      ∙ ap (λ (x : Reply ElementAnswer × Memory). replied (λ n. (Err n, m)) x m h root) (by_distance h.distance)

  same_memory_lem : {a : Reply Asking} → a ≡ asked m h root → answered {A = ℕ} (λ n. 1) 0 0 0 a ≡ 0 → m ≡ encode desk t
  same_memory_lem q z = holds_memory desk readable_desk (held cs ps hs es (asked_passed m h root q z).sound)

  pub refused : (n : Refusal) → Err n ≡ asked m h root → (Err n, m) ≡ cut_reply desk p root m
  refused n q = made_is q

  -- rule 1
  pub all_inside : {r : Reply ElementAnswer} → Ok asking.AllInside ≡ asked m h root → r ≡ Ok (answer_with (NonFlush (given root) None None) false)
      → (r, m) ≡ cut_reply desk p root m
  all_inside q told = (λ j. (told j, same_memory_lem q refl j)) ∙ made_is q

  pub all_outside : {r : Reply ElementAnswer} → Ok asking.AllOutside ≡ asked m h root → r ≡ Ok (answer_with (NonFlush None (given root) None) false)
      → (r, m) ≡ cut_reply desk p root m
  all_outside q told = (λ j. (told j, same_memory_lem q refl j)) ∙ made_is q

  -- the rules from 2 on
  module _ (q : Ok asking.Finite ≡ asked m h root) where
    passed : TestsPassed m h root
    passed = asked_passed m h root q refl

    cut_fit : CutFit cs ps hs es h root t
    unfolding sound_plane
    cut_fit =
        let d = t.dimension in
        let parts = passed.fits in
        let s = memory_sound_table desk readable_desk m passed.sound in
        let low : d ≤ 4 = le_test d 4 (sound_good desk t s).high in
        record {
          holds = held cs ps hs es passed.sound;
          sound = s;
          used = passed.used;
          plane =
              and_true _ _ (and_true _ _ (test_eq (length (take d h.normal)) d (length-take-le d h.normal (le_trans low (le_of_eq (sym parts.long))))) parts.units)
              (asked_finite m h root q);
          row = row_is d h parts.long parts.zeros;
        }

    pub cut_ready : {ix : List ℕ} → (sound_memory desk m ≡ true → Indexed es (get_or cs 1 0) ix) → CutReady cs ps hs es ix h root
    cut_ready X = record { table = t; fit = cut_fit; indexed = X passed.sound }

    pub cut_made : {r : Reply ElementAnswer} {cs' : List ℕ} {ps' hs' : List Float} {es' ix' : List ℕ} → WholeCut cs ps hs es p root r cs' ps' hs' es' ix'
        → (r, memory_of cs' ps' hs' es') ≡ cut_reply desk p root m
    cut_made W = W.of t cut_fit ∙ made_is q

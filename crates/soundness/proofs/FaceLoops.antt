-- The loops over the edges of a face: each number fits. Of few edges the ends are met, so the face is one ring exactly when as many are met for the
-- second time as there are edges. More of them join paths: the last edge has to be the first to close one, and as many ends be met for the second time.
use Prim.Native.Nat.{ℕ, suc, ◌+◌, ◌*◌, ◌<◌, ◌≤◌}
use mathlib.Core.Bool.{Bool, true, false, ◌&&◌}
use mathlib.Core.List.{List}
use mathlib.Core.Path.{◌≡◌, refl, sym, ap, ◌∙◌}
use native.Mathlib.Omega.{arith}
use lib.Dec.{eqb, ltb}
use lib.ListN.{length, get_or}
use borrow.Author.Tests.{ltb-true}
use Rattle.rules.specs.Limits.{desk}
use Rattle.rules.specs.Lists.{all, rises}
use Rattle.rules.proofs.Growing.{all_get}
use Rattle.rules.proofs.Laws.{and_left, and_right}
use Rattle.space.specs.Closed.{met_twice, both_met, seconds, ring_raw, joining, Unmet, Stamped, EndsLow}
use Rattle.space.specs.declared.closed.Joined.TheVariants.{Closes, Thrice}
use Rattle.space.proofs.EndsCounted.{Round, round_met, round_end}
use Rattle.space.proofs.PathsJoined.{Paths}
use Rattle.space.proofs.Rings.{no_edges, answers_thrice, answers_early, answers_last}
use Rattle.soundness.specs.Words.{numbers_fit, few_words, face_words, stamp_of, EdgesLow}
use Rattle.soundness.proofs.BoundaryLoops.{numbers_ends}

-- ---- edge after edge

module _ (es edges : List ℕ) (e : ℕ) where
  -- few edges

  pub few_go : (met met' : List ℕ) (twice i x r s stamp : ℕ) → Round es edges s met twice i → i < length edges → x ≡ get_or edges i 0 → EndsLow es x → stamp ≡ s
      → r ≡ seconds stamp es met x → met' ≡ both_met stamp es met x → Round es edges s met' (twice + r) (i + 1)
  few_go met met' twice i x r s stamp R h p E t c m =
      round_met es edges s met met' twice i x r R h p E (c ∙ ap (λ (k : ℕ). seconds k es met x) t) (m ∙ ap (λ (k : ℕ). both_met k es met x) t)

  pub few_end : (met : List ℕ) (twice i s : ℕ) → Round es edges s met twice i → i ≡ length edges → EdgesLow es e → true ≡ numbers_fit desk es e 2 edges
      → eqb twice (length edges) ≡ few_words desk es e edges
  few_end met twice i s R n E f = round_end es edges s met twice i R n (numbers_ends es e E edges (sym f)) ∙ ap (λ (b : Bool). b && met_twice es edges) f

  module _ (u : e < 512) (E : EdgesLow es e) where
    -- what the numbers tell where they fit
    up : numbers_fit desk es e 2 edges ≡ true → rises edges ≡ true
    up f = and_left (rises edges) (all (λ x. ltb x e) edges) (and_left (rises edges && all (λ x. ltb x e) edges) (all (λ x. eqb (suc (get_or es (x * 36) 0)) 2) edges) f)

    fine : numbers_fit desk es e 2 edges ≡ true → (j : ℕ) → j < length edges → (get_or edges j 0 < 512) × EndsLow es (get_or edges j 0)
    fine f j l = (
      (let k = ltb-true (get_or edges j 0) e (all_get (λ x. ltb x e) edges j 0 l
          (and_right (rises edges) (all (λ x. ltb x e) edges) (and_left (rises edges && all (λ x. ltb x e) edges) (all (λ x. eqb (suc (get_or es (x * 36) 0)) 2) edges) f))) in
          let z : get_or edges j 0 < 512 = omega (arith, k, u) in z),
      numbers_ends es e E edges f j l,
    )

    -- where the numbers fit, so it is; where they do not, the face is none anyway
    neither_way : (numbers_fit desk es e 2 edges ≡ true → ring_raw es edges ≡ false) → false ≡ face_words desk es e edges
    neither_way h = go (numbers_fit desk es e 2 edges) refl
      where
        go : (b : Bool) → numbers_fit desk es e 2 edges ≡ b → false ≡ (b && ring_raw es edges)
        go true q = sym (h q)
        go false q = refl

    module _ (met : List ℕ) (twice i s : ℕ) (P : Paths es edges s met twice i) where
      module _ (h : i < length edges) (x : ℕ) (p : x ≡ get_or edges i 0) where
        pub face_thrice : Thrice ≡ joining s es met x → false ≡ face_words desk es e edges
        face_thrice c = neither_way (λ f. answers_thrice es edges (up f) (fine f) s met twice i P x h p c)

        pub face_early : Closes ≡ joining s es met x → i + 1 < length edges → false ≡ face_words desk es e edges
        face_early c more = neither_way (λ f. answers_early es edges (up f) (fine f) s met twice i P x h p c more)

        pub face_last : Closes ≡ joining s es met x → length edges ≤ i + 1 → true ≡ numbers_fit desk es e 2 edges → eqb (twice + 2) (length edges) ≡ face_words desk es e edges
        face_last c last f =
            answers_last es edges (up (sym f)) (fine (sym f)) s met twice i P x h p c (let z : i + 1 ≡ length edges = omega (arith, h, last) in z)
            ∙ ap (λ (b : Bool). b && ring_raw es edges) f

      pub face_none : i ≡ length edges → true ≡ numbers_fit desk es e 2 edges → eqb (length edges) 0 ≡ face_words desk es e edges
      face_none n f = no_edges es edges (up (sym f)) (fine (sym f)) s met twice i P (length edges) refl n ∙ ap (λ (b : Bool). b && ring_raw es edges) f

-- ---- from element to element

-- a higher stamp
pub unmet_above : (s s' : ℕ) (met : List ℕ) → s ≤ s' → Unmet s met → Unmet s' met
unmet_above s s' met l u = record { long = u.long; under = λ v h. let k = u.under v h in let z : get_or met v 0 < s' = omega (arith, k, l) in z }

pub unmet_next : (e : ℕ) (met : List ℕ) → Unmet (stamp_of e) met → Unmet (stamp_of (e + 1)) met
unmet_next e met u = unmet_above (stamp_of e) (stamp_of (e + 1)) met (let z : stamp_of e ≤ stamp_of (e + 1) = omega arith in z) u

pub stamped_next : (e : ℕ) (met : List ℕ) → Stamped (stamp_of e) met → Unmet (stamp_of (e + 1)) met
stamped_next e met u = record { long = u.long; under = λ v h. let k = u.under v h in let z : get_or met v 0 < stamp_of (e + 1) = omega (arith, k) in z }

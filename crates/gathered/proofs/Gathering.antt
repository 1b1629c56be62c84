-- The room of a cut: it is cleared, and an answer is gathered. A flush answer is counted and is now the last, and the three parts of another go to their sets.
use Prim.Native.Nat.{ℕ, ◌+◌, ◌≤◌, ◌<◌}
use mathlib.Core.Path.{◌≡◌, sym, ap, ◌∙◌, subst}
use native.Mathlib.Nat.{le_trans, le_of_eq}
use native.Mathlib.Numerals.{add-one}
use native.Mathlib.Omega.{arith}
use lib.Dec.{lit≤}
use Rattle.rules.specs.Cut.{including}
use Rattle.rules.specs.declared.ElementId.{ElementId}
use Rattle.rules.specs.declared.ElementCutOutput.{ElementCutOutput}
use Rattle.rules.specs.declared.ElementCutOutput.TheVariants.{Flush, NonFlush}
use Rattle.gathered.specs.Sets.{size_in, numbers_in, emptied, inside_in, outside_in, intersections_in, SizedSet, Sized, Cleared}
use Rattle.gathered.specs.declared.sets.Set.{Set}
use Rattle.gathered.specs.declared.sets.Room.{Room}
use Rattle.gathered.specs.Sets.{InRoom, IncludeReady, Included, SidesInRoom, OutputInRoom, OutputGathered}
use Rattle.std.specs.Prelude.{Option, Some}

pub at_most : {s : Set} (i m : ℕ) → i ≤ m → SizedSet s i → SizedSet s m
at_most i m h z = record { most = le_trans z.most h }

module _ {s : Room} {m : ℕ} (z : Sized s m) where
  pub inside_sized : SizedSet (inside_in s) m
  inside_sized = record { most = z.inside }

  pub outside_sized : SizedSet (outside_in s) m
  outside_sized = record { most = z.outside }

  pub intersections_sized : SizedSet (intersections_in s) m
  intersections_sized = record { most = z.intersections }

-- ---- the room is cleared

pub cleared : (s r : Room) → r.flushes ≡ 0 → r.flush.0 ≡ 0 → r.warning ≡ s.warning → r.inside ≡ emptied s.inside → r.outside ≡ emptied s.outside → r.intersections ≡ emptied s.intersections → Cleared s r
cleared s r n b w i o x = record {
  nothing = record {
    of = record { flushes = n; flush = b; inside = ap numbers_in i; outside = ap numbers_in o; intersections = ap numbers_in x };
    sized = record { flushes = le_of_eq n; inside = le_of_eq (ap size_in i); outside = le_of_eq (ap size_in o); intersections = le_of_eq (ap size_in x) };
  };
  warning = w;
  whole = λ j. record { flushes = n j; flush = record { 0 = b j }; warning = w j; inside = i j; outside = o j; intersections = x j };
}

-- ---- an answer

module _ (b : ℕ) (a : ElementCutOutput) where
  -- one more flush answer, and b is the last
  pub gather_flush : (s r : Room) → a ≡ Flush → r.flushes ≡ s.flushes + 1 → r.flush.0 ≡ b → r.warning ≡ s.warning → r.inside ≡ s.inside → r.outside ≡ s.outside → r.intersections ≡ s.intersections
      → OutputGathered s b a r
  gather_flush s r e n l w i o x =
      subst (λ (y : ElementCutOutput). OutputGathered s b y r) (sym e) (record {
        of = λ g v G. record {
          flushes = n ∙ ap (λ (m : ℕ). m + 1) G.flushes ∙ add-one _;
          flush = l;
          inside = ap numbers_in i ∙ G.inside;
          outside = ap numbers_in o ∙ G.outside;
          intersections = ap numbers_in x ∙ G.intersections;
        };
        sized = λ m z. record {
          flushes = (let q = z.flushes in omega (arith, n, q));
          inside = more (ap size_in i) z.inside;
          outside = more (ap size_in o) z.outside;
          intersections = more (ap size_in x) z.intersections;
        };
        warning = w;
      })
    where
      more : {k n m : ℕ} → k ≡ n → n ≤ m → k ≤ m + 1
      more q h = omega (arith, q, h)

  -- each part of the answer has gone to its set
  pub gather_sides : (s r : Room) (i o x : Option ElementId) → a ≡ NonFlush i o x → r.flushes ≡ s.flushes → r.flush ≡ s.flush → r.warning ≡ s.warning
      → Included s.inside i r.inside → Included s.outside o r.outside → Included s.intersections x r.intersections → OutputGathered s b a r
  gather_sides s r i o x e n l w I O X =
      subst (λ (y : ElementCutOutput). OutputGathered s b y r) (sym e) (record {
        of = λ g v G. record {
          flushes = n ∙ G.flushes;
          flush = ap (λ (f : ElementId). f.0) l ∙ G.flush;
          inside = I.of ∙ ap (including i) G.inside;
          outside = O.of ∙ ap (including o) G.outside;
          intersections = X.of ∙ ap (including x) G.intersections;
        };
        sized = λ m z. record {
          flushes = (let h = z.flushes in omega (arith, n, h));
          inside = (I.sized m (inside_sized z)).most;
          outside = (O.sized m (outside_sized z)).most;
          intersections = (X.sized m (intersections_sized z)).most;
        };
        warning = w;
      })

-- ---- elements within the room

pub some_room : {p : Option ElementId} (e : ElementId) → p ≡ Some e → InRoom p → e.0 < 512
some_room e q h = subst InRoom q h

pub sides_room : {a : ElementCutOutput} (i o x : Option ElementId) → a ≡ NonFlush i o x → OutputInRoom a → SidesInRoom i o x
sides_room i o x q h = subst OutputInRoom q h

pub include_ready : {s : Set} {p : Option ElementId} → SizedSet s 31 → InRoom p → IncludeReady s p
include_ready z h = record { sized = at_most 31 32 (lit≤ tt) z; room = h }

-- What the ends of an edge answer, gathered in a room that was cleared; and a crossing as the flush one.
use Prim.Native.Nat.{ℕ, ◌≤◌, ◌<◌}
use mathlib.Core.Path.{◌≡◌, sym, ap, ◌∙◌, subst}
use native.Mathlib.Nat.{le_trans, le_of_eq}
use lib.Ieee.{Float}
use Rattle.rules.specs.Floats.{side_of}
use Rattle.rules.specs.Cut.{Gathered, corner_output}
use Rattle.rules.specs.declared.Side.{Side}
use Rattle.rules.specs.declared.Side.TheVariants.{Inside, On, Outside}
use Rattle.rules.specs.declared.ElementCutOutput.{ElementCutOutput}
use Rattle.gathered.specs.Sets.{size_in, numbers_in, warning_in, Gathers, Sized, Cleared, OutputInRoom, OutputGathered}
use Rattle.gathered.specs.declared.sets.Room.{Room}
use Rattle.rules.specs.declared.ElementId.{ElementId}
use Rattle.ends.specs.Ends.{EndsGathered, crossed_of}

-- no more than i answers are no more than m
pub sized_more : {s : Room} (i m : ℕ) → i ≤ m → Sized s i → Sized s m
sized_more i m h z = record {
  flushes = le_trans z.flushes h;
  inside = le_trans z.inside h;
  outside = le_trans z.outside h;
  intersections = le_trans z.intersections h;
}

-- an end answers with itself or with nothing
corner_room : (a : ℕ) (side : Side) → a < 512 → OutputInRoom (corner_output a side)
corner_room a Inside h = record { inside = h; outside = tt; intersection = tt }
corner_room a On h = tt
corner_room a Outside h = record { inside = tt; outside = h; intersection = tt }

-- so does the code
pub end_room : {y : ElementCutOutput} (a : ℕ) (s : Float) → a < 512 → y ≡ corner_output a (side_of s) → OutputInRoom y
end_room a s h q = subst OutputInRoom (sym q) (corner_room a (side_of s) h)

-- the two ends in turn, in a room that was cleared
pub ends_gathered : {s s₀ s₁ s₂ : Room} {x y : ElementCutOutput} (a b : ℕ) (sa sb : Float) → Cleared s s₀ → x ≡ corner_output a (side_of sa) → OutputGathered s₀ a x s₁
    → y ≡ corner_output b (side_of sb) → OutputGathered s₁ b y s₂ → EndsGathered a b sa sb s s₂
ends_gathered {s} {s₀} {s₁} {s₂} a b sa sb N qx X qy Y =
    let first : OutputGathered s₀ a (corner_output a (side_of sa)) s₁ = subst (λ (z : ElementCutOutput). OutputGathered s₀ a z s₁) qx X in
    let second : OutputGathered s₁ b (corner_output b (side_of sb)) s₂ = subst (λ (z : ElementCutOutput). OutputGathered s₁ b z s₂) qy Y in
    record {
      of = second.of _ _ (first.of _ _ N.nothing.of);
      sized = second.sized 1 (first.sized 0 N.nothing.sized);
      warning = second.warning ∙ first.warning ∙ N.warning;
    }

-- whatever is gathered: that, with vertex element v as the flush one
pub record Crossed (s : Room) (v : ℕ) (s' : Room) : Type 0 where
  pub of : (g : Gathered) → Gathers s g → Gathers s' (crossed_of v g)
  pub sized : (m : ℕ) → 1 ≤ m → Sized s m → Sized s' m
  pub warning : warning_in s' ≡ warning_in s

-- the room says so once the count is 1 and the last one is v
pub crossed : (s r : Room) (v : ElementId) → r.flushes ≡ 1 → r.flush ≡ v → r.warning ≡ s.warning → r.inside ≡ s.inside → r.outside ≡ s.outside → r.intersections ≡ s.intersections → Crossed s v.0 r
crossed s r v n l w i o x = record {
  of = λ g G. record {
    flushes = n;
    flush = ap (λ (f : ElementId). f.0) l;
    inside = ap numbers_in i ∙ G.inside;
    outside = ap numbers_in o ∙ G.outside;
    intersections = ap numbers_in x ∙ G.intersections;
  };
  sized = λ m h Z. record {
    flushes = le_trans (le_of_eq n) h;
    inside = le_trans (le_of_eq (ap size_in i)) Z.inside;
    outside = le_trans (le_of_eq (ap size_in o)) Z.outside;
    intersections = le_trans (le_of_eq (ap size_in x)) Z.intersections;
  };
  warning = w;
}

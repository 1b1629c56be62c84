-- The cut for fewer sides: a place whose side is dropped is left out, and the sets of a dropped side may differ, for nothing looks at them.
use Prim.Native.Nat.{ℕ}
use mathlib.Core.Bool.{Bool, true, false, ◌||◌}
use mathlib.Core.List.{List, []}
use mathlib.Core.Path.{◌≡◌, refl}
use Rattle.rules.specs.Cut.{Cutting, Params, Gathered, including, gathering, gathering_output}
use Rattle.rules.specs.declared.ElementCutOutput.{ElementCutOutput}
use Rattle.rules.specs.declared.ElementCutOutput.TheVariants.{Flush, NonFlush}
use Rattle.rules.specs.declared.ElementAnswer.{ElementAnswer}
use Rattle.rules.specs.declared.ElementId.{ElementId}
use Rattle.std.specs.Prelude.{Option, None}

-- which sides are dropped
pub record Dropped : Type 0 where
  pub inside : Bool
  pub outside : Bool

abbrev pub less : Bool → Option ElementId → Option ElementId
less true p = None
less false p = p

abbrev pub less_output : Dropped → ElementCutOutput → ElementCutOutput
less_output d Flush = Flush
less_output d (NonFlush i o x) = NonFlush (less d.inside i) (less d.outside o) x

-- the warning stays
abbrev pub less_answer : Dropped → ElementAnswer → ElementAnswer
less_answer d a = record { output = less_output d a.output; warning = a.warning }

abbrev pub less_kept : Bool → Bool → Bool
less_kept true k = false
less_kept false k = k

abbrev pub less_params : Dropped → Params → Params
less_params d p = record { divider = p.divider; keep_inside = less_kept d.inside p.keep_inside; keep_outside = less_kept d.outside p.keep_outside }

abbrev pub less_cutting : Dropped → Cutting → Cutting
less_cutting d c = record { params = less_params d c.params; number = c.number }

abbrev pub less_set : Bool → List ℕ → List ℕ
less_set true s = []
less_set false s = s

abbrev pub less_gathered : Dropped → Gathered → Gathered
less_gathered d g = record {
  flush = g.flush;
  inside = less_set d.inside g.inside;
  outside = less_set d.outside g.outside;
  intersections = g.intersections;
  warning = g.warning;
}

pub less_including : (b : Bool) (p : Option ElementId) (s : List ℕ) → including (less b p) (less_set b s) ≡ less_set b (including p s)
less_including true p s = refl
less_including false p s = refl

pub less_gathering : (d : Dropped) (b : ℕ) (a : ElementAnswer) (g : Gathered) → gathering b (less_answer d a) (less_gathered d g) ≡ less_gathered d (gathering b a g)
less_gathering d b a g = go a.output (g.warning || a.warning)
  where
    go : (out : ElementCutOutput) (w : Bool) → gathering_output b (less_output d out) w (less_gathered d g) ≡ less_gathered d (gathering_output b out w g)
    go Flush w = refl
    go (NonFlush i o x) w = λ k. record {
      flush = g.flush;
      inside = less_including d.inside i g.inside k;
      outside = less_including d.outside o g.outside k;
      intersections = including x g.intersections;
      warning = w;
    }

-- a set that may differ only where its side is dropped
abbrev pub Agrees : Bool → List ℕ → List ℕ → Type 0
Agrees true s u = Unit {0}
Agrees false s u = u ≡ s

pub agrees_self : (b : Bool) (s : List ℕ) → Agrees b s s
agrees_self true s = tt
agrees_self false s = refl

pub agrees_less : (b : Bool) (s : List ℕ) → Agrees b s (less_set b s)
agrees_less true s = tt
agrees_less false s = refl

abbrev pub none_dropped : Dropped
none_dropped = record { inside = false; outside = false }

pub less_nothing : (a : ElementAnswer) → less_answer none_dropped a ≡ a
less_nothing a = λ k. record { output = none_less a.output k; warning = a.warning }
  where
    none_less : (out : ElementCutOutput) → less_output none_dropped out ≡ out
    none_less Flush = refl
    none_less (NonFlush i o x) = refl

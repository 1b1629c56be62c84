-- Three numbers within the room fit into one, beside the warning's bit.
use Prim.Native.Nat.{ℕ, ◌+◌, ◌*◌, ◌<◌}
use mathlib.Core.Bool.{Bool, true, false}
use mathlib.Core.Path.{◌≡◌, sym, ap, subst, ◌∙◌}
use native.Mathlib.Omega.{arith}
use lib.Dec.{lit≤}
use Rattle.rules.specs.Limits.{desk}
use Rattle.rules.specs.Promises.{OneBelow, NamesBelow}
use Rattle.rules.specs.Replies.{element_word, warning_word, output_word}
use Rattle.rules.specs.declared.ElementId.{ElementId}
use Rattle.rules.specs.declared.ElementCutOutput.{ElementCutOutput}
use Rattle.rules.specs.declared.ElementCutOutput.TheVariants.{Flush, NonFlush}
use Rattle.space.specs.Numbers.{NumberBelow}
use Rattle.std.specs.Prelude.{Option, Some, None}

-- ---- one number

pub word_none : (e : Option ElementId) → e ≡ None → NumberBelow 0xffff (element_word e) 65536
word_none e q = record { value = sym (ap element_word q); bound = lit≤ tt }

pub word_some : (e : Option ElementId) (id : ElementId) → e ≡ Some id → OneBelow desk.elements e → NumberBelow id.0 (element_word e) 65536
word_some e id q h = record {
  value = sym (ap element_word q);
  bound = (let l : id.0 < desk.elements = subst (OneBelow desk.elements) q h in let z : id.0 < 65536 = omega (arith, l) in z);
}

pub warning_on : (w : Bool) → w ≡ true → NumberBelow 0x200 (warning_word w) 0x201
warning_on w q = record { value = sym (ap warning_word q); bound = lit≤ tt }

pub warning_off : (w : Bool) → w ≡ false → NumberBelow 0 (warning_word w) 0x201
warning_off w q = record { value = sym (ap warning_word q); bound = lit≤ tt }

-- ---- three numbers

module _ (a : ElementCutOutput) (i o x : Option ElementId) (q : a ≡ NonFlush i o x) where
  pub record PlacesLow : Type 0 where
    pub inside : OneBelow desk.elements i
    pub outside : OneBelow desk.elements o
    pub intersection : OneBelow desk.elements x

  pub places_low : NamesBelow desk.elements a → PlacesLow
  places_low h = let all = subst (NamesBelow desk.elements) q h in record { inside = all.0; outside = all.1; intersection = all.2 }

  pub places_word : (warning : Bool) (n u v w : ℕ) → n ≡ warning_word warning → u ≡ element_word i → v ≡ element_word o → w ≡ element_word x
      → n + u * 0x10000 + v * 0x100000000 + w * 0x1000000000000 ≡ output_word a warning
  places_word warning n u v w en eu ev ew = (λ j. en j + eu j * 0x10000 + ev j * 0x100000000 + ew j * 0x1000000000000) ∙ sym (ap (λ (y : ElementCutOutput). output_word y warning) q)

pub flush_word : (a : ElementCutOutput) (warning : Bool) (n : ℕ) → a ≡ Flush → n ≡ warning_word warning → n + 0x100 ≡ output_word a warning
flush_word a warning n q en = ap (λ (k : ℕ). k + 0x100) en ∙ sym (ap (λ (y : ElementCutOutput). output_word y warning) q)

-- The fifth and the sixth word of the row, mixed.
use Prim.Native.Nat.{ℕ, ◌+◌, ◌*◌, ◌%◌}
use mathlib.Core.Path.{ap₂, ◌∙◌}
use native.Mathlib.Omega.{arith}
use Rattle.space.specs.Chains.{keys, spread}
use Rattle.space.proofs.Indexing.{key_words}
use Rattle.space.proofs.chains.key_of.Goals as goal

pub returns : goal.returns
returns c = record {
  value = ap₂ (λ (v w : ℕ). (v * spread + w) % keys) c.wide-first.ensures.value c.wide-second.ensures.value ∙ key_words c.args.words.now c.args.at;
  bound = omega arith;
}

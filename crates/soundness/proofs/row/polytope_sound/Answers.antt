-- An edge meets no ends, so the places stay as they are.
use Prim.Native.Nat.{ℕ}
use mathlib.Core.Path.{sym, ap, ◌∙◌}
use lib.ListN.{take, drop}
use Rattle.rules.specs.Limits.{desk}
use Rattle.soundness.specs.Known.{known_rows}
use Rattle.soundness.specs.Words.{polytope_words}
use Rattle.soundness.proofs.FaceLoops.{unmet_next}
use Rattle.soundness.proofs.row.polytope_sound.Goals as goal

pub edge_sound-requires : goal.edge_sound-requires
edge_sound-requires c = c.requires.there

pub returns-then-rank-eq1 : goal.returns-then-rank-eq1
returns-then-rank-eq1 c = record {
  told = c.edge_sound.ensures.told c.args.d ∙ ap (λ (r : ℕ). polytope_words desk (known_rows c.args.earlier.now c.args.spacing) c.args.d c.args.e.0 r (take 36 (drop c.args.at c.args.words.now))) (sym c.if-rank-eq1.true);
  unmet = λ t. unmet_next c.args.e.0 c.args.met.now c.requires.unmet;
  past = c.edge_sound.ensures.past;
}

pub higher_sound-requires : goal.higher_sound-requires
higher_sound-requires c = record { ready = c.requires; no_edge = c.if-rank-eq1.false }

pub returns : goal.returns
returns c = c.higher_sound.ensures

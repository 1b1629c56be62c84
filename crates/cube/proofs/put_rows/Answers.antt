-- The room is cleared, and nothing is the first no elements.
use mathlib.Core.Path.{◌∙◌}
use Rattle.rules.specs.Limits.{desk}
use Rattle.rules.specs.Held.{element_words}
use Rattle.cube.proofs.CubeEntries.{cleared}
use borrow.Author.Rules.{rules}
use Rattle.cube.proofs.put_rows.Goals as goal

pub put_elements-requires : goal.put_elements-requires
put_elements-requires c = record { room = record { axes = c.requires.axes; long = search rules }; clear = c.fill.ensures.after (λ y q. q) ∙ cleared 0 (element_words desk) _ 18432 c.requires.long }

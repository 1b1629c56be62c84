-- What was asked is refused, answered by rule 1, or cut by the rules from 2 on: each way the code goes is a case of the reply.
use mathlib.Core.Path.{ap, ◌∙◌}
use Rattle.std.proofs.lemmas.Result.{err_from_is_err_and}
use Rattle.cut.proofs.SoundCuts.{counts_four, sound_refused, sound_inside, sound_outside, sound_ready, sound_made}
use Rattle.cut.proofs.sound.cut_sound.Goals as goal
use Rattle.std.specs.Prelude.{Ok}

pub sound_asked-requires : goal.sound_asked-requires
sound_asked-requires c = counts_four c.requires

pub cut_finite-requires : goal.cut_finite-requires
cut_finite-requires c = sound_ready c.requires c.args.params c.args.root.0 c.sound_asked.ensures (c.in_ok-sound_asked.was ∙ ap Ok c.in-Finite.is)

pub returns-in_err-sound_asked : goal.returns-in_err-sound_asked
returns-in_err-sound_asked c = let x = err_from_is_err_and c.from_residual.result c.from_residual.ensures.1 in
    rw (x.1, x.2) (sound_refused c.requires c.args.params c.args.root.0 c.sound_asked.ensures _ c.in_err-sound_asked.was)

pub returns-in-AllInside : goal.returns-in-AllInside
returns-in-AllInside c = sound_inside c.requires c.args.params c.args.root.0 c.sound_asked.ensures (c.in_ok-sound_asked.was ∙ ap Ok c.in-AllInside.is) (ap Ok c.untested.ensures)

pub returns-in-AllOutside : goal.returns-in-AllOutside
returns-in-AllOutside c = sound_outside c.requires c.args.params c.args.root.0 c.sound_asked.ensures (c.in_ok-sound_asked.was ∙ ap Ok c.in-AllOutside.is) (ap Ok c.untested-in-AllOutside.ensures)

pub returns-in-Finite : goal.returns-in-Finite
returns-in-Finite c = sound_made c.requires c.args.params c.args.root.0 c.sound_asked.ensures (c.in_ok-sound_asked.was ∙ ap Ok c.in-Finite.is) c.cut_finite.ensures

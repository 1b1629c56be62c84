-- Too little room, or the line at its front.
use native.Mathlib.Omega.{arith}
use Rattle.session.proofs.Turns.{no_bad_room, bad_written}
use Rattle.session.proofs.bad_line.Goals as goal

pub returns-then-room-lt-LINE_ROOM : goal.returns-then-room-lt-LINE_ROOM
returns-then-room-lt-LINE_ROOM c = no_bad_room _ _ (omega arith)

pub returns : goal.returns
returns c = bad_written _ _ _ _ (omega arith) c.numbered.ensures

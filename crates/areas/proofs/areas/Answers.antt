-- 3, 26, 4 and 6 in their order, each of all pieces, and then the sheet: each way the code goes is a case of the reply.
use Rattle.std.proofs.Common.{[], refl, sym, ◌∙◌, arith}
use Rattle.soundness.proofs.AskedOnce.{counts_long}
use Rattle.areas.proofs.Replied.{unsound, too_many, not_in_use, not_flat, pieces_used, no_face, pieces_fit, replied}
use Rattle.areas.proofs.areas.Goals as goal

pub returns-then-not-memory_sound : goal.returns-then-not-memory_sound
returns-then-not-memory_sound c = unsound _ _ _ _ _ _ (sym c.memory_sound.ensures ∙ c.if-not-memory_sound.true)

pub returns-then-pieces-gt-MOST_PIECES : goal.returns-then-pieces-gt-MOST_PIECES
returns-then-pieces-gt-MOST_PIECES c = too_many _ _ _ _ _ _ (sym c.memory_sound.ensures ∙ c.if-not-memory_sound.false) c.if-pieces-gt-MOST_PIECES.true

pub bounds-memory-1 : goal.bounds-memory-1
bounds-memory-1 c = omega (arith, counts_long _ _ _ _ (sym c.memory_sound.ensures ∙ c.if-not-memory_sound.false))

pub returns-then-not-all_used : goal.returns-then-not-all_used
returns-then-not-all_used c = not_in_use _ _ _ _ _ _ (sym c.memory_sound.ensures ∙ c.if-not-memory_sound.false) c.if-pieces-gt-MOST_PIECES.false _ refl _ c.all_used.ensures c.if-not-all_used.true

pub bounds-memory-0 : goal.bounds-memory-0
bounds-memory-0 c = omega (arith, counts_long _ _ _ _ (sym c.memory_sound.ensures ∙ c.if-not-memory_sound.false))

pub returns-then-memory-ne2 : goal.returns-then-memory-ne2
returns-then-memory-ne2 c = not_flat _ _ _ _ _ _ (sym c.memory_sound.ensures ∙ c.if-not-memory_sound.false) c.if-pieces-gt-MOST_PIECES.false _ refl _ c.all_used.ensures c.if-not-all_used.false c.if-memory-ne2.true

pub are_faces-requires : goal.are_faces-requires
are_faces-requires c = pieces_used _ _ _ _ _ [] (sym c.memory_sound.ensures ∙ c.if-not-memory_sound.false) c.if-pieces-gt-MOST_PIECES.false _ refl _ c.all_used.ensures c.if-not-all_used.false

pub returns-then-not-are_faces : goal.returns-then-not-are_faces
returns-then-not-are_faces c = no_face _ _ _ _ _ _ (sym c.memory_sound.ensures ∙ c.if-not-memory_sound.false) c.if-pieces-gt-MOST_PIECES.false _ refl _ c.all_used.ensures c.if-not-all_used.false c.if-memory-ne2.false
    _ c.are_faces.ensures c.if-not-are_faces.true

pub sheet_of-requires : goal.sheet_of-requires
sheet_of-requires c = pieces_fit _ _ _ _ _ [] (sym c.memory_sound.ensures ∙ c.if-not-memory_sound.false) c.if-pieces-gt-MOST_PIECES.false _ refl _ c.all_used.ensures c.if-not-all_used.false c.if-memory-ne2.false
    _ c.are_faces.ensures c.if-not-are_faces.false

pub returns : goal.returns
returns c = replied _ _ _ _ _ _ (sym c.memory_sound.ensures ∙ c.if-not-memory_sound.false) c.if-pieces-gt-MOST_PIECES.false _ refl _ c.all_used.ensures c.if-not-all_used.false c.if-memory-ne2.false
    _ c.are_faces.ensures c.if-not-are_faces.false c.sheet_of.ensures

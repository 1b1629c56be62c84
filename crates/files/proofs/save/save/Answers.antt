-- Each reply is read off the tests: 3 where the memory is not sound, 12 where the size that was counted is more than the room.
use mathlib.Core.Bool.{true}
use mathlib.Core.Path.{◌≡◌, sym, ◌∙◌}
use borrow.Author.Rules.{rules}
use Rattle.rules.specs.Limits.{desk}
use Rattle.rules.specs.Memory.{sound_memory}
use Rattle.space.specs.Lent.{lent}
use Rattle.files.proofs.SavedTable.{size_ready, save_three, save_twelve, save_fits, save_done}
use Rattle.files.proofs.save.save.Goals as goal

pub returns-then-not-memory_sound : goal.returns-then-not-memory_sound
returns-then-not-memory_sound c = save_three _ _ _ _ _ (sym c.memory_sound.ensures ∙ c.if-not-memory_sound.true)

pub file_size-requires : goal.file_size-requires
file_size-requires c =
    let is_sound : sound_memory desk (lent c.args.memory) ≡ true =
    sym c.memory_sound.ensures ∙ c.if-not-memory_sound.false in
    size_ready _ _ _ _ is_sound

pub returns-then-file-file_size : goal.returns-then-file-file_size
returns-then-file-file_size c =
    let is_sound : sound_memory desk (lent c.args.memory) ≡ true =
    sym c.memory_sound.ensures ∙ c.if-not-memory_sound.false in
    save_twelve _ _ _ _ c.args.file.now is_sound c.file_size.ensures c.if-file-file_size.true

pub table-requires : goal.table-requires
table-requires c =
    let is_sound : sound_memory desk (lent c.args.memory) ≡ true =
    sym c.memory_sound.ensures ∙ c.if-not-memory_sound.false in
    record { is_sound = is_sound; fits_room = save_fits _ _ _ _ c.args.file.now is_sound c.file_size.ensures (search rules) }

pub returns : goal.returns
returns c =
    let is_sound : sound_memory desk (lent c.args.memory) ≡ true =
    sym c.memory_sound.ensures ∙ c.if-not-memory_sound.false in
    save_done _ _ _ _ c.args.file.now is_sound
    (save_fits _ _ _ _ c.args.file.now is_sound c.file_size.ensures (search rules)) c.table.ensures

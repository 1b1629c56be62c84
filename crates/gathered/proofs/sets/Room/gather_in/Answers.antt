-- A flush answer is counted; the parts of another go to their sets, one after another.
use mathlib.Core.Path.{refl}
use Rattle.gathered.proofs.Gathering.{inside_sized, outside_sized, intersections_sized, gather_flush, gather_sides, include_ready, sides_room}
use Rattle.gathered.proofs.sets.Room.gather_in.Goals as goal

pub include-requires : goal.include-requires
include-requires c = include_ready (inside_sized c.requires.sized) (sides_room _ _ _ c.in-NonFlush.is c.requires.answer).inside

pub include-requires-in-NonFlush : goal.include-requires-in-NonFlush
include-requires-in-NonFlush c = include_ready (outside_sized c.requires.sized) (sides_room _ _ _ c.in-NonFlush.is c.requires.answer).outside

pub include-requires-in-NonFlush-2 : goal.include-requires-in-NonFlush-2
include-requires-in-NonFlush-2 c = include_ready (intersections_sized c.requires.sized) (sides_room _ _ _ c.in-NonFlush.is c.requires.answer).intersection

pub returns-in-Flush : goal.returns-in-Flush
returns-in-Flush c = gather_flush c.args.b.0 c.args.a c.args.self.now _ c.in-Flush.is refl refl refl refl refl refl

pub returns-in-NonFlush : goal.returns-in-NonFlush
returns-in-NonFlush c = gather_sides c.args.b.0 c.args.a c.args.self.now _ _ _ _ c.in-NonFlush.is refl refl refl c.include.ensures c.include-in-NonFlush.ensures c.include-in-NonFlush-2.ensures

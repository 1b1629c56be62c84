-- An answer is written by its kind.
use lib.Dec.{lit≤}
use Rattle.cut.proofs.Words.{sides_room, answer_flush_kept, answer_sides_kept}
use Rattle.cut.proofs.known.keep_answer.Goals as goal

pub put_fields-requires : goal.put_fields-requires
put_fields-requires c = record { low = c.requires.low; first = lit≤ tt; second = lit≤ tt; third = lit≤ tt }

pub field_of-a-requires : goal.field_of-a-requires
field_of-a-requires c = (sides_room _ _ _ _ c.in-NonFlush.is c.requires.room).inside

pub field_of-b-requires : goal.field_of-b-requires
field_of-b-requires c = (sides_room _ _ _ _ c.in-NonFlush.is c.requires.room).outside

pub field_of-c-requires : goal.field_of-c-requires
field_of-c-requires c = (sides_room _ _ _ _ c.in-NonFlush.is c.requires.room).intersection

pub put_fields-requires-in-NonFlush : goal.put_fields-requires-in-NonFlush
put_fields-requires-in-NonFlush c = record {
  low = c.requires.low;
  first = c.field_of-a.ensures.bound;
  second = c.field_of-b.ensures.bound;
  third = c.field_of-c.ensures.bound;
}

pub returns-in-Flush : goal.returns-in-Flush
returns-in-Flush c = answer_flush_kept c.args.known.now c.args.e.0 _ _ c.in-Flush.is c.put_fields.ensures

pub returns-in-NonFlush : goal.returns-in-NonFlush
returns-in-NonFlush c = answer_sides_kept c.args.known.now c.args.e.0 _ _ _ _ _ _ _ _ c.in-NonFlush.is
    c.field_of-a.ensures.value c.field_of-b.ensures.value c.field_of-c.ensures.value c.put_fields-in-NonFlush.ensures

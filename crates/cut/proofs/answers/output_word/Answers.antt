-- The warning's bit, with flush, or with three numbers of 16 bits side by side.
use Rattle.cut.proofs.AnswerWords.{places_low, places_word, flush_word}
use Rattle.cut.proofs.answers.output_word.Goals as goal

pub element_word-i-requires : goal.element_word-i-requires
element_word-i-requires c = (places_low _ _ _ _ c.in-NonFlush.is c.requires).inside

pub element_word-o-requires : goal.element_word-o-requires
element_word-o-requires c = (places_low _ _ _ _ c.in-NonFlush.is c.requires).outside

pub element_word-x-requires : goal.element_word-x-requires
element_word-x-requires c = (places_low _ _ _ _ c.in-NonFlush.is c.requires).intersection

pub returns-in-Flush : goal.returns-in-Flush
returns-in-Flush c = flush_word _ c.args.warning _ c.in-Flush.is c.warning_word-w.ensures.value

pub returns-in-NonFlush : goal.returns-in-NonFlush
returns-in-NonFlush c = places_word _ _ _ _ c.in-NonFlush.is c.args.warning _ _ _ _ c.warning_word-w.ensures.value
    c.element_word-i.ensures.value c.element_word-o.ensures.value c.element_word-x.ensures.value

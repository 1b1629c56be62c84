-- Every promise of specs/Promises holds, in every room that can be read back: the record is put together from the files that prove its parts.
use lib.Dec.{lit≤}
use Rattle.rules.specs.Limits.{Limits, Readable, desk, large}
use Rattle.carvings.specs.Promises.{Promises}
use Rattle.carvings.proofs.Backwards.{renumbering_goes_back}
use Rattle.carvings.proofs.TwoCarvings.{slice_is_two_carvings, slice_taken_as_carvings}
use Rattle.carvings.proofs.TwoCarvingsReplies.{slice_replies_as_two_carvings, slice_done_as_carvings}

pub promises : (L : Limits) → Readable L → Promises L
promises L R = record {
  slice_is_two_carvings = slice_is_two_carvings L;
  slice_taken_as_carvings = slice_taken_as_carvings L;
  slice_replies_as_two_carvings = slice_replies_as_two_carvings L R;
  slice_done_as_carvings = slice_done_as_carvings L R;
  renumbering_goes_back = renumbering_goes_back L;
}

-- ---- the two rooms

pub desk_keeps : Promises desk
desk_keeps = promises desk (record { planes = lit≤ tt; boundary = lit≤ tt })

pub large_keeps : Promises large
large_keeps = promises large (record { planes = lit≤ tt; boundary = lit≤ tt })

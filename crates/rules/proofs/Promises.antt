-- Every promise of specs/Promises holds, in every room that can be read back, has place for its cubes, and has numbers that a file can hold: the record is put together from the files that prove its parts.
use Rattle.std.specs.Prelude.{if◌then◌else◌, Option, Some, None, Err, Ok}
use Prim.Native.Nat.{ℕ, zero, suc, ◌<◌}
use mathlib.Core.Bool.{true, Bool, false}
use mathlib.Core.Path.{◌≡◌, refl, ap, ◌∙◌, subst}
use lib.Dec.{lit≤}
use lib.ListN.{get_or}
use Rattle.rules.specs.Limits.{Limits, HasCubes, Readable, Fileable, desk, large, Roomier}
use Rattle.rules.specs.Memory.{Memory, decode}
use Rattle.rules.specs.Cut.{Outcome, refused, done, next, give, add_plane, corner_output}
use Rattle.rules.specs.Replies.{cut_values, output_values, element_value, is_kept, cut_by, params_of, written, cut_reply}
use Rattle.rules.specs.Promises.{AnswersAreInUse, NamesBelow, OneBelow, Passes, Finite, AllOn, OnlyPlane, divider_in, Promises}
use Rattle.rules.specs.Touch.{some_close_call}
use Rattle.rules.specs.declared.ElementCutOutput.{ElementCutOutput}
use Rattle.rules.specs.declared.ElementCutOutput.TheVariants.{Flush, NonFlush}
use Rattle.rules.specs.declared.PolytopeFate.TheVariants.{Keep}
use Rattle.rules.specs.declared.CutParams.{CutParams}
use Rattle.rules.proofs.AreaReplies.{areas_numbers, refused_areas_leave, areas_fill_front, areas_fit}
use Rattle.rules.proofs.Boxes.{in_the_box}
use Rattle.rules.proofs.Calls.{not_infinite, gives, again_later, one_side_later, flush_later, infinite_distance}
use Rattle.rules.proofs.CloseBelow.{close_vertices}
use Rattle.rules.proofs.CubeCalls.{cube_is_sound, stays_sound, enough_boundary, stays_unmatched, one_crossing_one_corner}
use Rattle.rules.proofs.CutLists.{cut_list_numbers, refused_cut_list_leaves, cut_list_is_cuts, stopped_at_the_refused, cut_list_goes_on, cut_list_again}
use Rattle.rules.proofs.FileReplies.{refused_open_leaves, open_numbers, open_is_sound, saved_opens, opened_saves, table_of_file, file_of_table_lem, opens_roomier, layout_alone}
use Rattle.rules.proofs.Good.{sound_good}
use Rattle.rules.proofs.Laws.{le_test, none_some}
use Rattle.rules.proofs.Missed.{side_by, given_back, missed_cut}
use Rattle.rules.proofs.OldRows.{old_entries_stay}
use Rattle.rules.proofs.OneCall.{sound_table, passed, divider_sound, names_in_use}
use Rattle.rules.proofs.Printed.{print_is_sized, faces_are_fanned}
use Rattle.rules.proofs.Reach.{is_below_lem}
use Rattle.rules.proofs.Common.{sub_elements_are_least, vertex_set_is_the_union, common_are_greatest}
use Rattle.rules.proofs.Refusals.{refused_cut_leaves, refused_cube_leaves, refused_list_leaves, list_fills_front, cut_numbers, cube_numbers, list_numbers, facet_numbers, sound_numbers}
use Rattle.rules.proofs.RingWalked.{rule_is_one_ring, face_is_one_ring, face_is_walked}
use Rattle.rules.proofs.RoomierReplies.{roomier_alike}
use Rattle.rules.proofs.RoundTrip.{written_sound, table_back, memory_back}
use Rattle.rules.proofs.TouchCuts.{all_on_is_flush, one_side_is_missed, one_side_adds_no_vertex, both_cuts_an_edge}
use Rattle.rules.proofs.TouchReplies.{touch_is_of_the_table}
use Rattle.rules.proofs.Touching.{touch_numbers, touch_infinite, touch_is_read, touch_is_counted}
use Rattle.rules.proofs.VertexSet.{vertex_set_rises, no_facet_in_one_dimension}
use Rattle.rules.proofs.WalkRound.{walk_goes_round}
use Rattle.rules.proofs.Warned.{warns_of_close_calls}
use Rattle.rules.specs.Refusals.{Reply}
use Rattle.rules.specs.declared.ElementAnswer.{ElementAnswer}
use Rattle.rules.specs.declared.ElementId.{ElementId}

module _ (L : Limits) (R : Readable L) (H : HasCubes L) (F : Fileable L) where
  -- ---- a missed piece, for both sides at once

  missed_side : (p : CutParams) (root : ℕ) (m : Memory) → Passes L p.divider root m → Finite p.divider.distance
      → (inside : Bool) → (if inside then is_kept p.inside else is_kept p.outside) ≡ true
      → AllOn (side_by inside) (divider_in L m p.divider) (decode L m) root
      → OnlyPlane L m (output_values (corner_output root (side_by inside))) (some_close_call (divider_in L m p.divider) (decode L m) root)
      (cut_reply L p root m) (add_plane L (divider_in L m p.divider) (decode L m))
  missed_side p root m a f inside kept on =
      let s = sound_table L m a.sound in
      let g = sound_good L (decode L m) s in
      let z = not_infinite p.divider.distance f in
      go (add_plane L (divider_in L m p.divider) (decode L m)) (passed L p root m a
      ∙ ap (written L m) (missed_cut L (decode L m) g (params_of (decode L m).dimension p)
      (divider_sound L (decode L m).dimension p.divider (le_test (decode L m).dimension L.dimensions g.high) a.fits z) z root a.used inside kept on
      ∙ ap (λ (w : Bool). next (add_plane L (divider_in L m p.divider) (decode L m)) (λ n. give (given_back inside root w)))
      (close_vertices L (decode L m) s (divider_in L m p.divider) root a.used)))
    where
      warning : Bool
      warning = some_close_call (divider_in L m p.divider) (decode L m) root

      go : (x : Outcome ℕ) → cut_reply L p root m ≡ written L m (next x (λ n. give (given_back inside root warning)))
          → OnlyPlane L m (output_values (corner_output root (side_by inside))) warning (cut_reply L p root m) x
      go (refused n) e = (ap (λ (r : Reply ElementAnswer × Memory). r.0) e, ap (λ (r : Reply ElementAnswer × Memory). r.1) e)
      go (done n t) e = gives e refl

  -- ---- what is answered is in use

  in_use_lem : AnswersAreInUse L
  in_use_lem p root m = go (cut_reply L p root m).0 refl
    where
      one : (n : ℕ) (x : Option ElementId) (e : ℕ) → OneBelow n x → element_value x ≡ Some e → e < n
      one n None e b q = none_some e q
      one n (Some y) e b q = let z : y.0 ≡ e = cc in subst (λ (k : ℕ). k < n) z b

      places : (n : ℕ) (a : ElementCutOutput) → NamesBelow n a → (k e : ℕ) → get_or (output_values a) k None ≡ Some e → e < n
      places n Flush b k e q = none_some e q
      places n (NonFlush x y z) b zero e q = one n x e b.0 q
      places n (NonFlush x y z) b (suc zero) e q = one n y e b.1 q
      places n (NonFlush x y z) b (suc (suc zero)) e q = one n z e b.2 q
      places n (NonFlush x y z) b (suc (suc (suc k))) e q = none_some e q

      go : (r : Reply ElementAnswer) → (cut_reply L p root m).0 ≡ r → (k e : ℕ) → get_or (cut_values r) k None ≡ Some e → e < get_or (cut_reply L p root m).1.counts 1 0
      go (Err n) w k e q = none_some e q
      go (Ok a) w k e q =
          places _ a.output (names_in_use L R p root m a (cut_reply L p root m).1 (λ j. (w j, (cut_reply L p root m).1))) k e q

  -- ---- all of them

  pub promises : Promises L
  promises = record {
    refused_cut_leaves = refused_cut_leaves L;
    refused_cube_leaves = refused_cube_leaves L;
    refused_list_leaves = refused_list_leaves L;
    list_fills_front = list_fills_front L;
    cut_numbers = cut_numbers L;
    cube_numbers = cube_numbers L;
    list_numbers = list_numbers L;
    facet_numbers = facet_numbers L;
    sound_numbers = sound_numbers L;
    old_entries_stay = old_entries_stay L R;
    stays_sound = stays_sound L R H;
    enough_boundary = enough_boundary L R H;
    again_later = again_later L R;
    one_side_later = one_side_later L R;
    flush_later = flush_later L R;
    cube_is_sound = cube_is_sound L R H;
    one_crossing_one_corner = one_crossing_one_corner L R H;
    stays_unmatched = stays_unmatched L R H;
    missed_piece = λ h root m p f. (
      λ on o. missed_side (cut_by h Keep o) root m p f true refl on,
      λ on i. missed_side (cut_by h i Keep) root m p f false refl on,
    );
    infinite_distance = infinite_distance L R;
    warns_of_close_calls = warns_of_close_calls L;
    read_back = (λ t s. (written_sound L R t s, table_back L R t s), memory_back L);
    roomier_alike = roomier_alike L R H;
    refused_open_leaves = refused_open_leaves L;
    open_numbers = open_numbers L;
    open_is_sound = open_is_sound L R;
    saved_opens = saved_opens L R F;
    opened_saves = opened_saves L R;
    one_file = λ t. (table_of_file L R F t, file_of_table_lem L t);
    opens_roomier = opens_roomier L;
    layout_alone = layout_alone L;
    in_the_box = in_the_box L;
    answers_are_in_use = in_use_lem;
    sub_elements_are_reached = λ t s e x u. is_below_lem L t s e x u;
    sub_elements_are_least = λ t s e u. sub_elements_are_least L t s e u;
    vertex_set_is_the_union = λ t s e v u. vertex_set_is_the_union L t s e v u;
    vertex_set_rises = λ t s e. vertex_set_rises L t s e;
    common_are_greatest = λ t s es xs u h. common_are_greatest L t s es xs u h;
    walk_goes_round = walk_goes_round L;
    rule_is_one_ring = rule_is_one_ring L;
    face_is_one_ring = face_is_one_ring L;
    face_is_walked = face_is_walked L;
    no_facet_in_one_dimension = no_facet_in_one_dimension L;
    touch_numbers = touch_numbers L;
    touch_infinite = touch_infinite L;
    touch_is_read = touch_is_read L;
    touch_is_counted = touch_is_counted L;
    touch_is_of_the_table = touch_is_of_the_table L;
    all_on_is_flush = all_on_is_flush L;
    one_side_is_missed = one_side_is_missed L;
    one_side_adds_no_vertex = one_side_adds_no_vertex L;
    both_cuts_an_edge = both_cuts_an_edge L;
    cut_list_numbers = cut_list_numbers L R;
    refused_cut_list_leaves = refused_cut_list_leaves L;
    cut_list_is_cuts = cut_list_is_cuts L;
    stopped_at_the_refused = stopped_at_the_refused L;
    cut_list_goes_on = cut_list_goes_on L;
    cut_list_again = cut_list_again L R;
    areas_numbers = areas_numbers L;
    refused_areas_leave = refused_areas_leave L;
    areas_fill_front = areas_fill_front L;
    areas_fit = areas_fit L;
    print_is_sized = print_is_sized L F;
    faces_are_fanned = faces_are_fanned L;
  }

-- ---- the two rooms

pub desk_keeps : Promises desk
desk_keeps =
    promises desk (record { planes = lit≤ tt; boundary = lit≤ tt })
    (record { vertices = lit≤ tt; elements = lit≤ tt; hyperplanes = lit≤ tt; boundary = lit≤ tt })
    (record { dimensions = lit≤ tt; vertices = lit≤ tt; elements = lit≤ tt; hyperplanes = lit≤ tt; boundary = lit≤ tt })

pub large_keeps : Promises large
large_keeps =
    promises large (record { planes = lit≤ tt; boundary = lit≤ tt })
    (record { vertices = lit≤ tt; elements = lit≤ tt; hyperplanes = lit≤ tt; boundary = lit≤ tt })
    (record { dimensions = lit≤ tt; vertices = lit≤ tt; elements = lit≤ tt; hyperplanes = lit≤ tt; boundary = lit≤ tt })

-- and what the desk does not refuse, the large room answers alike
pub desk_large : Roomier desk large
desk_large = record { dimensions = lit≤ tt; vertices = lit≤ tt; elements = lit≤ tt; hyperplanes = lit≤ tt; boundary = lit≤ tt }

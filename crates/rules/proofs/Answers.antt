-- The tables of specs/Examples, Sessions, FileExamples, TouchExamples, ListExamples and AreaExamples: what the rules give is what the documents say. antt computes both sides.
-- The table of M1 to M11 has its theorem in crate marked, which no edit of the rules checks again.
use mathlib.Core.Path.{◌≡◌, refl}
use mathlib.Core.List.{List, map}
use lib.Ieee.{of_bits, to_bits, neg, add, sub, mul, div, lt, eq, le, is_nan}
use Rattle.rules.specs.Floats.{within, dot_from, dot, signed_distance, side_of, close_call, unit, crossing_of, clamp, crossing_point, matches, point_matches}
use Rattle.rules.specs.Table.{same_element}
use Rattle.rules.specs.Sound.{sound, room_fits, sound_point, sound_plane, corners_in_order, sound_boundary, sound_facet}
use Rattle.rules.specs.Memory.{element_row, plane_row, encode, read_element, read_plane, decode, right_size, same_memory, sound_memory}
use Rattle.rules.specs.Cube.{cube, cube_element, cube_point, facet_normal, facet_plane, radius_fits}
use Rattle.rules.specs.Cut.{add_element, add_polytope, add_vertex, plane_matches, add_plane, cut_corner, rule7, rule6, cut_ends, cut_edge, cut_higher, cut_element, cut}
use Rattle.rules.specs.Questions.{reaches, sub_elements, with_rank, vertex_set, common_with_rank, greatest_from, greatest_common, edges_in_order, primordial_facet}
use Rattle.rules.specs.Walk.{walk}
use Rattle.rules.specs.Replies.{is_sound_reply, cube_reply, divider_fits, cut_reply, sub_elements_reply, with_rank_reply, vertex_set_reply, greatest_common_reply, edges_in_order_reply, primordial_facet_reply}
use Rattle.rules.specs.Touch.{corner_sides, touch_of, tested_from, touch, touch_reply}
use Rattle.rules.specs.Bytes.{decimal}
use Rattle.rules.specs.Files.{header, point_record, plane_record, element_record, file_of, after_mark, number, float, point_in, plane_in, element_in, layout, table_in, save_reply, open_reply}
use Rattle.rules.specs.Session.{blank, turn, cutlist}
use Rattle.rules.specs.Marked.{Shown}
use Rattle.rules.specs.Examples.{small_q, close_calls, zigzag, pinched, square, triangles, beside_triangle, tetrahedra, doubled, triangle, line, bent, soundness, choices, refusals}
use Rattle.rules.specs.Sessions.{sessions}
use Rattle.rules.specs.FileExamples.{files}
use Rattle.rules.specs.TouchExamples.{near_corner, straight, dart, touches}
use Rattle.rules.specs.Areas.{on_grid, units, piece_on_grid, twice_area, sheet, area_sheet, areas_reply}
use Rattle.rules.specs.AreaExamples.{whole, once, twice, matched, Slices, area_sheets, tight_q, tight_off, area_replies}
use Rattle.rules.specs.CutLists.{list_fits, cuts_of, cut_list_reply}
use Rattle.rules.specs.ListExamples.{cut_lists}

-- every row of a table says the same on both sides
abbrev pub Agree : List (Shown × Shown) → Type 0
Agree rows = map (λ (r : Shown × Shown). r.0) rows ≡ map (λ (r : Shown × Shown). r.1) rows

pub soundness_holds : Agree soundness
unfolding neg add sub mul div lt eq le is_nan of_bits within dot_from dot signed_distance side_of close_call unit crossing_of clamp crossing_point matches point_matches
    same_element sound room_fits sound_point sound_plane corners_in_order sound_boundary sound_facet element_row plane_row encode read_element read_plane decode
    right_size same_memory sound_memory cube cube_element cube_point facet_normal facet_plane radius_fits add_element add_polytope add_vertex plane_matches
    add_plane cut_corner rule7 rule6 cut_ends cut_edge cut_higher cut_element cut reaches sub_elements with_rank vertex_set common_with_rank greatest_from
    greatest_common walk edges_in_order primordial_facet is_sound_reply cube_reply divider_fits cut_reply sub_elements_reply with_rank_reply vertex_set_reply
    greatest_common_reply edges_in_order_reply primordial_facet_reply square triangles doubled beside_triangle soundness
soundness_holds = refl

pub choices_hold : Agree choices
unfolding neg add sub mul div lt eq le is_nan of_bits within dot_from dot signed_distance side_of close_call unit crossing_of clamp crossing_point matches point_matches
    same_element sound room_fits sound_point sound_plane corners_in_order sound_boundary sound_facet element_row plane_row encode read_element read_plane decode
    right_size same_memory sound_memory cube cube_element cube_point facet_normal facet_plane radius_fits add_element add_polytope add_vertex plane_matches
    add_plane cut_corner rule7 rule6 cut_ends cut_edge cut_higher cut_element cut reaches sub_elements with_rank vertex_set common_with_rank greatest_from
    greatest_common walk edges_in_order primordial_facet is_sound_reply cube_reply divider_fits cut_reply sub_elements_reply with_rank_reply vertex_set_reply
    greatest_common_reply edges_in_order_reply primordial_facet_reply small_q square doubled triangle line bent choices
choices_hold = refl

pub close_calls_hold : Agree close_calls
unfolding neg add sub mul div lt eq le is_nan of_bits within dot_from dot signed_distance side_of close_call unit crossing_of clamp crossing_point matches point_matches
    same_element sound room_fits sound_point sound_plane corners_in_order sound_boundary sound_facet element_row plane_row encode read_element read_plane decode
    right_size same_memory sound_memory cube cube_element cube_point facet_normal facet_plane radius_fits add_element add_polytope add_vertex plane_matches
    add_plane cut_corner rule7 rule6 cut_ends cut_edge cut_higher cut_element cut reaches sub_elements with_rank vertex_set common_with_rank greatest_from
    greatest_common walk edges_in_order primordial_facet is_sound_reply cube_reply divider_fits cut_reply sub_elements_reply with_rank_reply vertex_set_reply
    greatest_common_reply edges_in_order_reply primordial_facet_reply small_q bent close_calls
close_calls_hold = refl

pub refusals_hold : Agree refusals
unfolding neg add sub mul div lt eq le is_nan of_bits within dot_from dot signed_distance side_of close_call unit crossing_of clamp crossing_point matches point_matches
    same_element sound room_fits sound_point sound_plane corners_in_order sound_boundary sound_facet element_row plane_row encode read_element read_plane decode
    right_size same_memory sound_memory cube cube_element cube_point facet_normal facet_plane radius_fits add_element add_polytope add_vertex plane_matches
    add_plane cut_corner rule7 rule6 cut_ends cut_edge cut_higher cut_element cut reaches sub_elements with_rank vertex_set common_with_rank greatest_from
    greatest_common walk edges_in_order primordial_facet is_sound_reply cube_reply divider_fits cut_reply sub_elements_reply with_rank_reply vertex_set_reply
    greatest_common_reply edges_in_order_reply primordial_facet_reply small_q square zigzag pinched tetrahedra refusals
refusals_hold = refl

pub sessions_hold : Agree sessions
unfolding neg add sub mul div lt eq le is_nan of_bits within dot_from dot signed_distance side_of close_call unit crossing_of clamp crossing_point matches point_matches
    same_element sound room_fits sound_point sound_plane corners_in_order sound_boundary sound_facet element_row plane_row encode read_element read_plane decode
    right_size same_memory sound_memory cube cube_element cube_point facet_normal facet_plane radius_fits add_element add_polytope add_vertex plane_matches
    add_plane cut_corner rule7 rule6 cut_ends cut_edge cut_higher cut_element cut reaches sub_elements with_rank vertex_set common_with_rank greatest_from
    greatest_common walk edges_in_order primordial_facet is_sound_reply cube_reply divider_fits cut_reply sub_elements_reply with_rank_reply vertex_set_reply
    greatest_common_reply edges_in_order_reply primordial_facet_reply decimal blank turn cutlist sessions
sessions_hold = refl

pub files_hold : Agree files
unfolding neg add sub mul div lt eq le is_nan of_bits to_bits within dot_from dot unit same_element sound room_fits sound_point sound_plane corners_in_order
    sound_boundary sound_facet element_row plane_row encode read_element read_plane decode right_size same_memory sound_memory cube cube_element cube_point
    facet_normal facet_plane header point_record plane_record element_record file_of after_mark number float point_in plane_in element_in layout table_in
    save_reply open_reply blank files
files_hold = refl

pub touches_hold : Agree touches
unfolding neg add sub mul div lt eq le is_nan of_bits within dot_from dot signed_distance side_of close_call unit crossing_of clamp crossing_point matches point_matches
    same_element sound room_fits sound_point sound_plane corners_in_order sound_boundary sound_facet element_row plane_row encode read_element read_plane decode
    right_size same_memory sound_memory cube cube_element cube_point facet_normal facet_plane radius_fits add_element add_polytope add_vertex plane_matches
    add_plane cut_corner rule7 rule6 cut_ends cut_edge cut_higher cut_element cut reaches sub_elements with_rank vertex_set common_with_rank greatest_from
    greatest_common walk edges_in_order primordial_facet is_sound_reply cube_reply divider_fits cut_reply sub_elements_reply with_rank_reply vertex_set_reply
    greatest_common_reply edges_in_order_reply primordial_facet_reply touch_of tested_from corner_sides touch touch_reply small_q square near_corner straight dart touches
touches_hold = refl

pub slices_hold : Slices
unfolding neg add sub mul div lt eq le is_nan within dot_from dot signed_distance side_of close_call crossing_of clamp crossing_point matches point_matches same_element cube
    cube_element cube_point facet_normal facet_plane add_element add_polytope add_vertex plane_matches add_plane cut_corner rule7 rule6 cut_ends cut_edge cut_higher
    cut_element cut walk whole once twice matched
slices_hold = record { start = refl; first = refl; second = refl; third = refl }

pub area_sheets_hold : Agree area_sheets
unfolding neg walk edges_in_order units twice_area sheet once matched area_sheets
area_sheets_hold = refl

pub area_replies_hold : Agree area_replies
unfolding neg add sub mul div lt eq le is_nan within dot_from dot unit same_element sound room_fits sound_point sound_plane corners_in_order sound_boundary sound_facet
    element_row plane_row encode read_element read_plane decode right_size same_memory sound_memory cube cube_element cube_point facet_normal facet_plane square
    walk edges_in_order on_grid units piece_on_grid twice_area sheet area_sheet areas_reply tight_q tight_off area_replies
area_replies_hold = refl

pub cut_lists_hold : Agree cut_lists
unfolding neg add sub mul div lt eq le is_nan within dot_from dot signed_distance side_of close_call unit crossing_of clamp crossing_point matches point_matches
    same_element sound room_fits sound_point sound_plane corners_in_order sound_boundary sound_facet element_row plane_row encode read_element read_plane decode
    right_size same_memory sound_memory cube cube_element cube_point facet_normal facet_plane add_element add_polytope add_vertex plane_matches
    add_plane cut_corner rule7 rule6 cut_ends cut_edge cut_higher cut_element cut walk divider_fits cut_reply list_fits cuts_of cut_list_reply small_q square cut_lists
cut_lists_hold = refl

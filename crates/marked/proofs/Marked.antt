-- M1 to M11 on the desk's whole memory: what the rules give is what document 01 says. antt computes both sides, in two parts: one declaration may take so many steps.
-- It stands here and not in rules, for each must-fail edit of rules would pay for it.
use mathlib.Core.Path.{refl, sym, ap₂, subst, ◌∙◌}
use mathlib.Core.List.{List, ◌++◌}
use lib.ListN.{take, drop, take-append-drop}
use lib.Ieee.{of_bits, neg, add, sub, mul, div, lt, eq, le, is_nan}
use Rattle.rules.specs.Floats.{within, dot_from, dot, signed_distance, side_of, close_call, unit, crossing_of, clamp, crossing_point, matches, point_matches}
use Rattle.rules.specs.Table.{same_element}
use Rattle.rules.specs.Sound.{sound, room_fits, sound_point, sound_plane, corners_in_order, sound_boundary, sound_facet}
use Rattle.rules.specs.Memory.{element_row, plane_row, encode, read_element, read_plane, decode, right_size, same_memory, sound_memory}
use Rattle.rules.specs.Cube.{cube, cube_element, cube_point, facet_normal, facet_plane, radius_fits}
use Rattle.rules.specs.Cut.{add_element, add_polytope, add_vertex, plane_matches, add_plane, cut_corner, rule7, rule6, cut_ends, cut_edge, cut_higher, cut_element, cut}
use Rattle.rules.specs.Questions.{reaches, sub_elements, with_rank, vertex_set, common_with_rank, greatest_from, greatest_common, edges_in_order, primordial_facet}
use Rattle.rules.specs.Walk.{walk}
use Rattle.rules.specs.Replies.{is_sound_reply, cube_reply, divider_fits, cut_reply, sub_elements_reply, with_rank_reply, vertex_set_reply, greatest_common_reply, edges_in_order_reply, primordial_facet_reply}
use Rattle.rules.specs.Marked.{Shown, Q, segment, marked}
use Rattle.rules.proofs.Growing.{map_append}
use Rattle.rules.proofs.Answers.{Agree}

both_agree : (xs ys : List (Shown × Shown)) → Agree xs → Agree ys → Agree (xs ++ ys)
both_agree xs ys a b = map_append (λ (r : Shown × Shown). r.0) xs ys ∙ ap₂ ◌++◌ a b ∙ sym (map_append (λ (r : Shown × Shown). r.1) xs ys)

-- M1 to M8
cuts_hold : Agree (take 8 marked)
unfolding neg add sub mul div lt eq le is_nan of_bits within dot_from dot signed_distance side_of close_call unit crossing_of clamp crossing_point matches point_matches
    same_element sound room_fits sound_point sound_plane corners_in_order sound_boundary sound_facet element_row plane_row encode read_element read_plane decode
    right_size same_memory sound_memory cube cube_element cube_point facet_normal facet_plane radius_fits add_element add_polytope add_vertex plane_matches
    add_plane cut_corner rule7 rule6 cut_ends cut_edge cut_higher cut_element cut reaches sub_elements with_rank vertex_set common_with_rank greatest_from
    greatest_common walk edges_in_order primordial_facet is_sound_reply cube_reply divider_fits cut_reply sub_elements_reply with_rank_reply vertex_set_reply
    greatest_common_reply edges_in_order_reply primordial_facet_reply Q segment marked
cuts_hold = refl

-- M9 to M11
others_hold : Agree (drop 8 marked)
unfolding neg add sub mul div lt eq le is_nan of_bits within dot_from dot signed_distance side_of close_call unit crossing_of clamp crossing_point matches point_matches
    same_element sound room_fits sound_point sound_plane corners_in_order sound_boundary sound_facet element_row plane_row encode read_element read_plane decode
    right_size same_memory sound_memory cube cube_element cube_point facet_normal facet_plane radius_fits add_element add_polytope add_vertex plane_matches
    add_plane cut_corner rule7 rule6 cut_ends cut_edge cut_higher cut_element cut reaches sub_elements with_rank vertex_set common_with_rank greatest_from
    greatest_common walk edges_in_order primordial_facet is_sound_reply cube_reply divider_fits cut_reply sub_elements_reply with_rank_reply vertex_set_reply
    greatest_common_reply edges_in_order_reply primordial_facet_reply Q segment marked
others_hold = refl

pub marked_hold : Agree marked
marked_hold = subst Agree (take-append-drop 8 marked) (both_agree (take 8 marked) (drop 8 marked) cuts_hold others_hold)

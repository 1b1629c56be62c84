-- The memory's own rows tell of its elements, so what is sound by what is known of them is sound in the memory.
use Prim.Native.Nat.{◌≤◌}
use mathlib.Core.Path.{refl, sym, ◌∙◌}
use native.Mathlib.Omega.{arith}
use Rattle.soundness.proofs.KnownRows.{own_alike, alike_back, edges_alike, row_alike}
use Rattle.soundness.proofs.sound.stored_row_sound.Goals as goal

pub row_sound-requires : goal.row_sound-requires
row_sound-requires c = record {
  there = record {
    row = omega (arith, c.requires.long, c.requires.in_room);
    spaced = record { long = omega (arith, c.requires.long); ends = omega arith; width = omega arith };
    in_room = c.requires.in_room;
    mask = c.requires.mask;
    places = c.requires.places;
  };
  edges = edges_alike (alike_back (own_alike c.args.elements.now _ c.args.e.0 (omega (arith, c.requires.in_room)) refl refl)) c.requires.edges;
  unmet = c.requires.unmet;
}

pub returns : goal.returns
returns c = let few = (let z : c.args.e.0 ≤ 512 = omega (arith, c.requires.in_room) in z) in
    record {
      told = c.row_sound.ensures.told ∙ sym (row_alike (alike_back (own_alike c.args.elements.now _ c.args.e.0 few refl refl)) few c.requires.edges c.args.d c.args.h c.args.k.0 _);
      unmet = c.row_sound.ensures.unmet;
      past = c.row_sound.ensures.past;
    }

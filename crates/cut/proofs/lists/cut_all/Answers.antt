-- 3, 26 and 12 are the code's three tests, and after them the cuts are made in turn.
use mathlib.Core.Bool.{true}
use mathlib.Core.Path.{◌≡◌, sym, ◌∙◌}
use Rattle.rules.specs.Limits.{desk}
use Rattle.rules.specs.Memory.{sound_memory}
use Rattle.rules.specs.Held.{memory_of}
use Rattle.rules.specs.CutLists.{list_fits}
use Rattle.space.proofs.Indexing.{index_blank}
use Rattle.cut.specs.Lists.{cut_list_of}
use Rattle.cut.proofs.Listing.{list_unsound, list_unfit, list_short, list_made}
use Rattle.cut.proofs.lists.cut_all.Goals as goal

pub memory_indexed-requires : goal.memory_indexed-requires
memory_indexed-requires c = index_blank _

pub returns-then-not-memory_indexed : goal.returns-then-not-memory_indexed
returns-then-not-memory_indexed c = list_unsound _ _ _ (sym c.memory_indexed.ensures.told ∙ c.if-not-memory_indexed.true)

pub returns-then-not-list_fits : goal.returns-then-not-list_fits
returns-then-not-list_fits c =
    let is_sound : sound_memory desk (memory_of c.args.counts.now c.args.points.now c.args.planes.now c.args.elements.now) ≡ true =
    sym c.memory_indexed.ensures.told ∙ c.if-not-memory_indexed.false in
    list_unfit _ _ _ is_sound (sym c.list_fits.ensures ∙ c.if-not-list_fits.true)

pub returns-then-answers-roots : goal.returns-then-answers-roots
returns-then-answers-roots c =
    let is_sound : sound_memory desk (memory_of c.args.counts.now c.args.points.now c.args.planes.now c.args.elements.now) ≡ true =
    sym c.memory_indexed.ensures.told ∙ c.if-not-memory_indexed.false in
    let fits : list_fits desk (cut_list_of c.args.dividers.now c.args.kept.now c.args.roots.now) ≡ true =
    sym c.list_fits.ensures ∙ c.if-not-list_fits.false in
    list_short _ _ _ is_sound fits c.if-answers-roots.true

pub cuts_in_turn-requires : goal.cuts_in_turn-requires
cuts_in_turn-requires c =
    let is_sound : sound_memory desk (memory_of c.args.counts.now c.args.points.now c.args.planes.now c.args.elements.now) ≡ true =
    sym c.memory_indexed.ensures.told ∙ c.if-not-memory_indexed.false in
    let fits : list_fits desk (cut_list_of c.args.dividers.now c.args.kept.now c.args.roots.now) ≡ true =
    sym c.list_fits.ensures ∙ c.if-not-list_fits.false in
    record {
      memory = record { sound = is_sound; indexed = c.memory_indexed.ensures.indexed c.if-not-memory_indexed.false };
      fits = fits;
      enough = c.if-answers-roots.false;
    }

pub returns : goal.returns
returns c =
    let is_sound : sound_memory desk (memory_of c.args.counts.now c.args.points.now c.args.planes.now c.args.elements.now) ≡ true =
    sym c.memory_indexed.ensures.told ∙ c.if-not-memory_indexed.false in
    let fits : list_fits desk (cut_list_of c.args.dividers.now c.args.kept.now c.args.roots.now) ≡ true =
    sym c.list_fits.ensures ∙ c.if-not-list_fits.false in
    list_made _ _ _ is_sound fits c.if-answers-roots.false c.cuts_in_turn.ensures.of

-- A header, then each kind of records, and the end of the bytes: where one breaks, so does the layout.
use Prim.Native.Nat.{ℕ}
use mathlib.Core.Bool.{Bool, true}
use mathlib.Core.List.{List}
use mathlib.Core.Path.{◌≡◌, sym, subst, ◌∙◌}
use borrow.Author.Rules.{rules}
use Rattle.std.specs.Prelude.{Option, None}
use Rattle.rules.specs.Bytes.{number_at}
use Rattle.rules.specs.Files.{point_in, plane_in, element_in}
use Rattle.files.specs.Passed.{begins}
use Rattle.files.specs.Laid.{LayoutTold}
use Rattle.files.specs.declared.layout.Laid.{Laid}
use Rattle.files.proofs.Passes.{stopped, ran, together_within}
use Rattle.files.proofs.LaidOut.{no_header, Header, no_points, no_planes, no_elements, bytes_more, all_told}
use Rattle.files.proofs.layout.laid_out.Goals as goal

-- the header, read
headed : {bytes : List ℕ} {said : Bool} {d ne nv nh : ℕ} → said ≡ begins 0x48 0x44 8 bytes → said ≡ true → d ≡ number_at 2 2 bytes
    → ne ≡ number_at 2 4 bytes → nv ≡ number_at 2 6 bytes → nh ≡ number_at 2 8 bytes → Header bytes d ne nv nh
headed told so dimension elements vertices hyperplanes =
    record { begun = sym told ∙ so; dimension = dimension; elements = elements; vertices = vertices; hyperplanes = hyperplanes }

-- a reply that breaks
none_told : {bytes : List ℕ} {reply : Option Laid} → reply ≡ None → LayoutTold bytes None → LayoutTold bytes reply
none_told {bytes} e t = subst (λ (r : Option Laid). LayoutTold bytes r) (sym e) t

pub returns-then-not-begins_with : goal.returns-then-not-begins_with
returns-then-not-begins_with c = no_header c.args.bytes.now (sym c.begins_with.ensures ∙ c.if-not-begins_with.true)

pub returns-in_err-planes_at : goal.returns-in_err-planes_at
returns-in_err-planes_at c =
    let header = headed {bytes = c.args.bytes.now} c.begins_with.ensures c.if-not-begins_with.false c.number.ensures.value c.number-elements.ensures.value c.number-vertices.ensures.value c.number-hyperplanes.ensures.value in
    none_told c.from_residual.ensures (no_points c.args.bytes.now _ _ _ _ header (stopped _ _ _ (λ at p w e. e) _ _ (search rules) c.in_err-planes_at.ensures))

pub many_of-requires-2-clause-first : goal.many_of-requires-2-clause-first
many_of-requires-2-clause-first c =
    let points = ran (point_in c.number.result) c.args.bytes.now _ (λ at p w e. e) _ _ _ (search rules) c.in_ok-planes_at.ensures in
    record { within = together_within _ _ _ _ _ points; dimension = c.number.ensures.below }

pub returns-in_err-elements_at : goal.returns-in_err-elements_at
returns-in_err-elements_at c =
    let header = headed {bytes = c.args.bytes.now} c.begins_with.ensures c.if-not-begins_with.false c.number.ensures.value c.number-elements.ensures.value c.number-vertices.ensures.value c.number-hyperplanes.ensures.value in
    let points = ran (point_in c.number.result) c.args.bytes.now _ (λ at p w e. e) _ _ _ (search rules) c.in_ok-planes_at.ensures in
    none_told c.from_residual-in_err-elements_at.ensures (no_planes c.args.bytes.now _ _ _ _ header _ points (stopped _ _ _ (λ at p w e. e) _ _ (together_within _ _ _ _ _ points) c.in_err-elements_at.ensures))

pub many_of-requires-3-clause-first : goal.many_of-requires-3-clause-first
many_of-requires-3-clause-first c =
    let points = ran (point_in c.number.result) c.args.bytes.now _ (λ at p w e. e) _ _ _ (search rules) c.in_ok-planes_at.ensures in
    let planes = ran (plane_in c.number.result) c.args.bytes.now _ (λ at p w e. e) _ _ _ (together_within _ _ _ _ _ points) c.in_ok-elements_at.ensures in
    together_within _ _ _ _ _ planes

pub returns-in_err-end : goal.returns-in_err-end
returns-in_err-end c =
    let header = headed {bytes = c.args.bytes.now} c.begins_with.ensures c.if-not-begins_with.false c.number.ensures.value c.number-elements.ensures.value c.number-vertices.ensures.value c.number-hyperplanes.ensures.value in
    let points = ran (point_in c.number.result) c.args.bytes.now _ (λ at p w e. e) _ _ _ (search rules) c.in_ok-planes_at.ensures in
    let planes = ran (plane_in c.number.result) c.args.bytes.now _ (λ at p w e. e) _ _ _ (together_within _ _ _ _ _ points) c.in_ok-elements_at.ensures in
    none_told c.from_residual-in_err-end.ensures (no_elements c.args.bytes.now _ _ _ _ header _ points _ planes (stopped _ _ _ (λ at p w e. e) _ _ (together_within _ _ _ _ _ planes) c.in_err-end.ensures))

pub returns-then-end-bytes : goal.returns-then-end-bytes
returns-then-end-bytes c =
    let header = headed {bytes = c.args.bytes.now} c.begins_with.ensures c.if-not-begins_with.false c.number.ensures.value c.number-elements.ensures.value c.number-vertices.ensures.value c.number-hyperplanes.ensures.value in
    let points = ran (point_in c.number.result) c.args.bytes.now _ (λ at p w e. e) _ _ _ (search rules) c.in_ok-planes_at.ensures in
    let planes = ran (plane_in c.number.result) c.args.bytes.now _ (λ at p w e. e) _ _ _ (together_within _ _ _ _ _ points) c.in_ok-elements_at.ensures in
    let elements = ran element_in c.args.bytes.now _ (λ at p w e. e) _ _ _ (together_within _ _ _ _ _ planes) c.in_ok-end.ensures in
    bytes_more c.args.bytes.now _ _ _ _ header _ points _ planes _ elements c.if-end-bytes.true

pub returns : goal.returns
returns c =
    let header = headed {bytes = c.args.bytes.now} c.begins_with.ensures c.if-not-begins_with.false c.number.ensures.value c.number-elements.ensures.value c.number-vertices.ensures.value c.number-hyperplanes.ensures.value in
    let points = ran (point_in c.number.result) c.args.bytes.now _ (λ at p w e. e) _ _ _ (search rules) c.in_ok-planes_at.ensures in
    let planes = ran (plane_in c.number.result) c.args.bytes.now _ (λ at p w e. e) _ _ _ (together_within _ _ _ _ _ points) c.in_ok-elements_at.ensures in
    let elements = ran element_in c.args.bytes.now _ (λ at p w e. e) _ _ _ (together_within _ _ _ _ _ planes) c.in_ok-end.ensures in
    all_told c.args.bytes.now _ _ _ _ header _ points _ planes _ elements c.if-end-bytes.false

-- Not begun; a head that does not fit; too short for its boundary; or it ends behind that.
use Prim.Native.Nat.{ℕ, ◌+◌, ◌≤◌}
use mathlib.Core.Bool.{Bool, true}
use mathlib.Core.List.{List}
use mathlib.Core.Path.{◌≡◌, sym, ◌∙◌}
use native.Mathlib.Omega.{arith}
use lib.ListN.{length, drop}
use Rattle.rules.specs.Bytes.{number_at}
use Rattle.files.specs.Passed.{begins}
use Rattle.files.proofs.Sizes.{begun_within}
use Rattle.files.proofs.Passes.{no_element, Head, element_unfit, element_cut_off, element_ends}
use Rattle.files.proofs.layout.element.Goals as goal

-- a record that has begun has its first eight bytes
within : (bytes : List ℕ) (at : ℕ) {said : Bool} → said ≡ begins 0x45 0x4C 6 (drop at bytes) → said ≡ true → at + 8 ≤ length bytes
within bytes at told so = let w = begun_within 0x45 0x4C 6 bytes at (sym told ∙ so) in omega (arith, w)

-- its head, read
headed : (bytes : List ℕ) (at : ℕ) {said : Bool} {r m h n : ℕ} → said ≡ begins 0x45 0x4C 6 (drop at bytes) → said ≡ true → r ≡ number_at 1 (at + 2) bytes
    → m ≡ number_at 1 (at + 3) bytes → h ≡ number_at 2 (at + 4) bytes → n ≡ number_at 2 (at + 6) bytes → Head bytes at r m h n
headed bytes at told so rank mark plane count = record { begun = sym told ∙ so; rank = rank; mark = mark; plane = plane; count = count }

pub returns-then-not-begins_with : goal.returns-then-not-begins_with
returns-then-not-begins_with c = no_element c.args.bytes.now c.args.at (sym c.begins_with.ensures ∙ c.if-not-begins_with.true)

pub returns-then-not-head_fits : goal.returns-then-not-head_fits
returns-then-not-head_fits c = let head = headed c.args.bytes.now c.args.at c.begins_with.ensures c.if-not-begins_with.false c.number-rank.ensures.value c.number-mark.ensures.value
    c.number-plane.ensures.value c.number-n.ensures.value in
    element_unfit _ _ _ _ _ _ head (sym c.head_fits.ensures ∙ c.if-not-head_fits.true)

pub returns-then-bytes-at : goal.returns-then-bytes-at
returns-then-bytes-at c = let w = within c.args.bytes.now c.args.at c.begins_with.ensures c.if-not-begins_with.false in
    let head = headed c.args.bytes.now c.args.at c.begins_with.ensures c.if-not-begins_with.false c.number-rank.ensures.value c.number-mark.ensures.value
    c.number-plane.ensures.value c.number-n.ensures.value in
    element_cut_off _ _ _ _ _ _ head (omega arith)

pub returns : goal.returns
returns c = let w = within c.args.bytes.now c.args.at c.begins_with.ensures c.if-not-begins_with.false in
    let head = headed c.args.bytes.now c.args.at c.begins_with.ensures c.if-not-begins_with.false c.number-rank.ensures.value c.number-mark.ensures.value
    c.number-plane.ensures.value c.number-n.ensures.value in
    element_ends _ _ _ _ _ _ head (sym c.head_fits.ensures ∙ c.if-not-head_fits.false) (omega arith)

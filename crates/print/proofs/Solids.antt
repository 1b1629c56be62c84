-- A piece put into the room, or 12: the head, and the faces behind it, are the file.
use Rattle.std.specs.Prelude.{if◌then◌else◌, Ok, Err}
use Prim.Native.Nat.{ℕ, ◌+◌, ◌*◌, ◌≤◌, ◌<◌}
use mathlib.Core.Path.{◌≡◌, sym, ap, ◌∙◌}
use mathlib.Core.Bool.{Bool}
use mathlib.Core.List.{List, ◌++◌, map}
use native.Mathlib.Nat.{zero-add, le_trans, le_of_eq}
use native.Mathlib.Omega.{arith}
use lib.ListN.{length, drop, replicate, length-append}
use lib.Seq.{sets-eq}
use lib.Ieee.{Float}
use Rattle.rules.specs.Lists.{joined}
use Rattle.rules.specs.Bytes.{bytes_of}
use Rattle.rules.specs.Questions.{answer}
use Rattle.rules.specs.Replies.{listed}
use Rattle.rules.proofs.ByteLaws.{bytes_long}
use Rattle.rules.proofs.Laws.{test_le, test_above}
use Rattle.lent_bytes.specs.Lent.{Put}
use Rattle.lent_bytes.proofs.Puts.{then as behind, put_as, put_length}
use Rattle.walk.specs.Boundaries.{row_boundary}
use Rattle.print.specs.Pieces.{face_in, count_in, file_in, SolidReady}
use Rattle.print.proofs.Fanning.{zeros_are}
use Rattle.print.proofs.Facing.{faces_long}
use Rattle.rules.specs.Refusals.{Reply}
use Rattle.rules.specs.declared.Refusal.TheVariants.{RoomShort}

-- the choice between the list and 12
abbrev choice : List ℕ → List ℕ → Bool → Reply ℕ × List ℕ
choice xs room b = if b then (Ok (length xs), xs ++ drop (length xs) room) else (Err RoomShort, room)

module _ (ps : List Float) (es : List ℕ) (root : ℕ) (R : SolidReady ps es root) (n : ℕ) (e : n ≡ count_in es root) (room : List ℕ) where
  pub file_long : length (file_in ps es root) ≡ 84 + 50 * n
  unfolding file_in count_in
  file_long =
      let a = length-append (bytes_of 4 (count_in es root)) (joined (map (face_in ps es) (row_boundary es root))) in
      let b = bytes_long 4 (count_in es root) in
      let c = faces_long ps es R.points (row_boundary es root) R.faces.faces in
      length-append (replicate 80 0) (bytes_of 4 (count_in es root) ++ joined (map (face_in ps es) (row_boundary es root)))
      ∙ (let z : 80 + length (bytes_of 4 (count_in es root) ++ joined (map (face_in ps es) (row_boundary es root))) ≡ 84 + 50 * n = omega (arith, a, b, c, e) in z)

  pub too_short : length room < 84 + 50 * n → (Err RoomShort, room) ≡ listed (answer (file_in ps es root)) room
  too_short h = ap (choice (file_in ps es root) room) (sym (test_above (length (file_in ps es root)) (length room) (le_trans h (le_of_eq (sym file_long)))))

  module _ {r₁ r₂ : List ℕ} {e₁ e₂ : ℕ} (h : 84 + 50 * n ≤ length room) (p : Put room 0 (bytes_of 80 0) e₁ r₁) (q : Put r₁ e₁ (bytes_of 4 n) e₂ r₂) where
    pub faces_fit : e₂ + 50 * count_in es root ≤ length r₂
    faces_fit =
        let a = p.place in
        let b = q.place in
        let c = bytes_long 80 0 in
        let d = bytes_long 4 n in
        let f = put_length p in
        let g = put_length q in
        omega (arith, a, b, c, d, e, f, g, h)

    pub file_done : {r₃ : List ℕ} {e₃ : ℕ} → Put r₂ e₂ (joined (map (face_in ps es) (row_boundary es root))) e₃ r₃ → (Ok e₃, r₃) ≡ listed (answer (file_in ps es root)) room
    file_done {r₃} {e₃} s =
        let fit : length (file_in ps es root) ≤ length room = le_trans (le_of_eq file_long) h in
        let all_in = sets-eq (file_in ps es root) room 0 (le_trans (le_of_eq (zero-add (length (file_in ps es root)))) fit) in
        (λ i. (Ok ((whole.place ∙ zero-add (length (file_in ps es root))) i), (whole.room ∙ all_in ∙ ap (λ (k : ℕ). file_in ps es root ++ drop k room) (zero-add (length (file_in ps es root)))) i))
        ∙ ap (choice (file_in ps es root) room) (sym (test_le (length (file_in ps es root)) (length room) fit))
      where
        whole : Put room 0 (file_in ps es root) e₃ r₃
        whole = unfold file_in in behind (put_as (zeros_are 80) p) (behind (put_as (ap (bytes_of 4) e) q) s)

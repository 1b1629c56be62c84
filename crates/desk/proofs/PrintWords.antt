-- A print file has few enough bytes for their count to stand above the reply's number: 32 faces of at most 30 triangles.
use Prim.Native.Nat.{ℕ, ◌*◌, ◌-◌, ◌≤◌, zero-le}
use mathlib.Core.Bool.{Bool, true, false, not}
use mathlib.Core.List.{List, [], ◌∷◌, map}
use mathlib.Core.Path.{◌≡◌, refl, sym, ap, ◌∙◌}
use native.Mathlib.Omega.{arith}
use lib.Dec.{lit≤, leb}
use lib.ListN.{length}
use Rattle.rules.specs.Limits.{desk, Fileable}
use Rattle.rules.specs.Table.{corner, Table, boundary_of, boundary}
use Rattle.rules.specs.Memory.{Memory, decode, sound_memory}
use Rattle.rules.specs.Questions.{Asked, no_answer}
use Rattle.rules.specs.Replies.{list_size, listed}
use Rattle.rules.specs.Print.{total_of, print_reply}
use Rattle.rules.proofs.Each.{all_get_d}
use Rattle.rules.proofs.Good.{sound_good}
use Rattle.rules.proofs.Laws.{le_test, test_le, if_true, none_some}
use Rattle.rules.proofs.OneCall.{sound_table}
use Rattle.rules.proofs.Printed.{print_is_sized}
use Rattle.desk.specs.Words.{longest, SizeFits}
use Rattle.rules.specs.Refusals.{Reply}
use Rattle.rules.specs.declared.Refusal.TheVariants.{NotSound}
use Rattle.std.specs.Prelude.{Ok, Err}

fileable : Fileable desk
fileable = record { dimensions = lit≤ tt; vertices = lit≤ tt; elements = lit≤ tt; hyperplanes = lit≤ tt; boundary = lit≤ tt }

few : (t : Table) → ((x : ℕ) → length (boundary t x) ≤ 32) → (bs : List ℕ) → total_of (map (λ f. length (boundary t f) - 2) bs) ≤ 30 * length bs
few t h [] = let z : 0 ≤ 30 * 0 = omega arith in z
few t h (b ∷ bs) = let r = few t h bs in let q = h b in omega (arith, r, q)

module _ (m : Memory) (root : ℕ) (room : List ℕ) where
  abbrev t : Table
  t = decode desk m

  short : sound_memory desk m ≡ true → (x : ℕ) → length (boundary t x) ≤ 32
  short s x = le_test (length (boundary t x)) 32 (all_get_d (λ e. leb (length (boundary_of e)) 32) t.elements x (corner 0) (test_le 0 32 zero-le) (sound_good desk t (sound_table desk m s)).boundary_room)

  unsound : sound_memory desk m ≡ false → print_reply desk m root room ≡ (Err NotSound, room)
  unfolding print_reply
  unsound s = ap (λ (a : Asked (List ℕ)). listed a room) (if_true (not (sound_memory desk m)) (no_answer NotSound) _ (ap not s))

  pub print_fits : SizeFits (print_reply desk m root room).0
  print_fits = go (sound_memory desk m) refl (print_reply desk m root room).0 refl
    where
      go : (a : Bool) → sound_memory desk m ≡ a → (r : Reply ℕ) → (print_reply desk m root room).0 ≡ r → SizeFits r
      go a s (Err n) e = tt
      go false s (Ok n) e = none_some n (sym (ap (λ (x : Reply ℕ × List ℕ). list_size x.0) (unsound s)) ∙ ap list_size e)
      go true s (Ok n) e =
          let p = (print_is_sized desk fileable m root room n (ap list_size e)).0 in
          let q = few t (short s) (boundary t root) in
          let r = short s root in
          let z : n ≤ longest = omega (arith, p, q, r) in
          z

-- The promises of a record's turn, by cases on its tests: too little room, a cube, a cut, a bad record.
use Rattle.std.specs.Prelude.{if◌then◌else◌, Option, Some, None, Err, Ok}
use Prim.Native.Nat.{ℕ, suc, ◌+◌, ◌≤◌, ◌<◌}
use mathlib.Core.Bool.{Bool, true, false, ◌&&◌, false≢true}
use mathlib.Core.List.{List, [], ◌∷◌}
use mathlib.Core.Path.{◌≡◌, refl, sym, ap, subst, ◌∙◌}
use native.Mathlib.Nat.{suc-ne-zero, le_trans, le_of_suc-le-suc}
use native.Mathlib.Omega.{arith}
use lib.Dec.{ltb, lit≤}
use lib.ListN.{length, get_or, drop, set}
use lib.Seq.{sets, length-sets, drop-set-lt}
use Rattle.rules.specs.Limits.{desk}
use Rattle.rules.specs.Memory.{Memory}
use Rattle.rules.specs.Session.{Line, text, bad, taken, turn, is_cube, is_cut, cut_length, cube_line, refused_line, cut_text, table_counts, cube_asked, cut_asked, cube_turn, cut_turn}
use Rattle.rules.specs.Bytes.{number_at, float_at}
use Rattle.rules.specs.Session.{params_at}
use Rattle.rules.proofs.Laws.{and_right, le_test, test_le, not_le, none_some}
use Rattle.session.specs.declared.Untaken.TheVariants.{NoRoom}
use Rattle.session.specs.Written.{line_room, TurnReply, turn_number, turn_values, reply_of, turn_reply}
use Rattle.session.specs.Promises.{TurnNumbered, TurnTaken, Promises}
use Rattle.session.proofs.Lines.{cube_short, cube_refused_short, cut_short}
use Rattle.session.proofs.Turns.{cube_long, cut_long}
use Rattle.rules.specs.Refusals.{Reply, reply_number, reply_number, refusal_number}

not_twelve : ◌≡◌ {A = Option ℕ} (Some 0) (Some 12) → ⊥
not_twelve e = let z : ◌≡◌ {A = ℕ} 0 12 = cc in suc-ne-zero 11 (sym z)

-- what stands behind a line stays
drop_sets : (vs l : List ℕ) (i n : ℕ) → i + length vs ≤ n → drop n (sets l i vs) ≡ drop n l
drop_sets [] l i n h = refl
drop_sets (a ∷ vs) l i n h = drop_sets vs (set l i a) (suc i) n (omega (arith, h)) ∙ drop-set-lt n l i a (omega (arith, h))

module _ (stands : Bool) (m : Memory) (bs room : List ℕ) where
  -- all that is promised of one reply, in a room for which there is a line or not
  record Kept (short : Bool) (x : TurnReply × Memory × List ℕ) : Type 0 where
    numbered : (short ≡ true → turn_number x.0 ≡ Some 12) × (turn_number x.0 ≡ Some 12 → (short ≡ true) × (turn_values x.0 ≡ None))
    taken_has : turn_number x.0 ≡ Some 0 → (v : ℕ × ℕ × Bool) × (turn_values x.0 ≡ Some v)
    bad_has : turn_number x.0 ≡ None → turn_values x.0 ≡ None
    untaken : turn_values x.0 ≡ None → (x.1 ≡ m) × (x.2 ≡ room)
    goes_on : (k n : ℕ) (later : Bool) → turn_values x.0 ≡ Some (k, n, later) → TurnTaken stands bs room x.2 k n later

  -- a turn that is taken, in a room for a line
  of_taken : line_room ≤ length room → (k : ℕ) (line : Line) (later : Bool) (after : Memory) → 0 < k → k ≤ length bs → length (text line) ≤ line_room → (stands ≡ true → later ≡ true)
      → Kept false (reply_of m room (taken k line later after))
  of_taken wide k line later after p l w t = record {
    numbered = (λ e. absurd (false≢true e), λ e. absurd (not_twelve e));
    taken_has = λ e. ((k, length (text line), later), refl);
    bad_has = λ e. none_some {A = ℕ} 0 (sym e);
    untaken = λ e. none_some _ (sym e);
    goes_on = λ j n v e. subst (λ (v : ℕ × ℕ × Bool). TurnTaken stands bs room (sets room 0 (text line)) v.0 v.1 v.2) (ap (value_or (k, length (text line), later)) e) (record {
      some_bytes = p;
      in_bytes = l;
      in_room = le_trans w wide;
      size = length-sets room 0 (text line);
      rest = drop_sets (text line) room 0 (length (text line)) (omega arith);
      table = t;
    });
  }
    where
      value_or : ℕ × ℕ × Bool → Option (ℕ × ℕ × Bool) → ℕ × ℕ × Bool
      value_or v None = v
      value_or v (Some w) = w

  module _ (wide : line_room ≤ length room) where
    of_cube : is_cube bs ≡ true → Kept false (reply_of m room (cube_turn stands (cube_asked desk m bs)))
    of_cube e = go (cube_asked desk m bs).0 (cube_asked desk m bs).1 refl
      where
        go : (r : Reply (Unit {0})) (after : Memory) → cube_asked desk m bs ≡ (r, after) → Kept false (reply_of m room (cube_turn stands (r, after)))
        go (Ok x) after q =
            of_taken wide 11 (cube_line (table_counts after)) true after (lit≤ tt) (cube_long bs e)
            (subst (λ (x : Memory). length (text (cube_line (table_counts x))) ≤ line_room) (ap (λ (x : Reply (Unit {0}) × Memory). x.1) q) (cube_short _ _ m (ap (λ (x : Reply (Unit {0}) × Memory). reply_number x.0) q))) (λ h. refl)
        go (Err n) after q =
            of_taken wide 11 (refused_line (refusal_number n)) stands after (lit≤ tt) (cube_long bs e)
            (subst (λ (k : ℕ). length (text (refused_line k)) ≤ line_room) (ap (λ (x : Reply (Unit {0}) × Memory). reply_number x.0) q) (cube_refused_short (number_at 1 2 bs) (float_at 3 bs) m)) (λ h. h)

    of_cut : is_cut (get_or m.counts 0 0) bs ≡ true → Kept false (reply_of m room (cut_turn (get_or m.counts 0 0) (cut_asked desk m bs)))
    of_cut e =
        let d = get_or m.counts 0 0 in
        let x = cut_asked desk m bs in
        of_taken wide (cut_length d) (cut_text x.0 (table_counts x.1)) true x.1 (let q : 0 < cut_length d = omega arith in q) (cut_long bs d e)
        (cut_short (params_at desk d bs) (number_at 2 3 bs) m) (λ h. refl)

    of_turn : Kept false (reply_of m room (turn desk stands m bs))
    unfolding turn
    of_turn = go (is_cube bs) (stands && is_cut (get_or m.counts 0 0) bs) refl refl
      where
        go : (c t : Bool) → is_cube bs ≡ c → (stands && is_cut (get_or m.counts 0 0) bs) ≡ t
            → Kept false (reply_of m room (if c then cube_turn stands (cube_asked desk m bs) else if t then cut_turn (get_or m.counts 0 0) (cut_asked desk m bs) else bad))
        go true t e f = of_cube e
        go false true e f = of_cut (and_right stands (is_cut (get_or m.counts 0 0) bs) f)
        go false false e f = record {
          numbered = (λ q. absurd (false≢true q), λ q. none_some {A = ℕ} 12 q);
          taken_has = λ q. none_some {A = ℕ} 0 q;
          bad_has = λ q. refl;
          untaken = λ q. (refl, refl);
          goes_on = λ k n later q. none_some _ q;
        }

  kept : Kept (ltb (length room) line_room) (turn_reply stands m bs room)
  unfolding turn_reply
  kept = go (ltb (length room) line_room) refl
    where
      go : (b : Bool) → ltb (length room) line_room ≡ b → Kept b (if b then (Err NoRoom, m, room) else reply_of m room (turn desk stands m bs))
      go true e = record {
        numbered = (λ q. refl, λ q. (refl, refl));
        taken_has = λ q. absurd (not_twelve (sym q));
        bad_has = λ q. refl;
        untaken = λ q. (refl, refl);
        goes_on = λ k n later q. none_some _ q;
      }
      go false e = of_turn (le_of_suc-le-suc (not_le (suc (length room)) line_room e))

  turn_numbered : TurnNumbered room (turn_reply stands m bs room).0
  turn_numbered = record {
    short = λ h. kept.numbered.0 (test_le (suc (length room)) line_room h);
    refused = λ e. let r = kept.numbered.1 e in (le_test (suc (length room)) line_room r.0, r.1);
    taken = kept.taken_has;
    bad = kept.bad_has;
  }

pub promises : Promises
promises = record {
  turn_numbers = turn_numbered;
  untaken_turn_leaves = λ stands m bs room. (kept stands m bs room).untaken;
  taken_turn_goes_on = λ stands m bs room. (kept stands m bs room).goes_on;
}

-- A record's reply, case by case: a cube made or refused, a cut, a bad record. No cut looks at the divider of a table of more than four dimensions, for none is sound.
use Rattle.std.specs.Prelude.{if◌then◌else◌, Err, Ok}
use Prim.Native.Nat.{ℕ, suc, ◌+◌, ◌*◌, ◌/◌, ◌%◌, ◌≤◌, ◌<◌}
use mathlib.Core.Bool.{Bool, true, false, not, ◌&&◌}
use mathlib.Core.List.{List}
use mathlib.Core.Path.{◌≡◌, refl, sym, ap, ap₂, subst, ◌∙◌}
use native.Mathlib.Omega.{arith}
use lib.Dec.{leb, eqb}
use lib.ListN.{length, get_or, drop}
use lib.Ieee.{Float}
use Rattle.rules.specs.Limits.{desk}
use Rattle.rules.specs.Memory.{Memory, encode, decode, right_size, sound_memory}
use Rattle.rules.specs.Cube.{cube, radius_fits}
use Rattle.rules.specs.Replies.{cube_reply, fate_of, cut_by, cut_reply}
use Rattle.rules.specs.Bytes.{number_at, float_at}
use Rattle.rules.specs.Session.{text, cube_line, refused_line, bad_line, cut_text, cube_asked, cut_asked, divider_at, cube_turn, cut_turn, is_cube, is_cut, cut_length, turn}
use Rattle.rules.specs.declared.Hyperplane.{Hyperplane}
use Rattle.rules.specs.declared.PolytopeFate.{PolytopeFate}
use Rattle.rules.specs.declared.CutParams.{CutParams}
use Rattle.rules.proofs.Laws.{not_both, and_left, and_right, le_test, test_le, not_le, test_above, if_true, if_false, refute}
use Rattle.rules.proofs.Good.{sound_good}
use Rattle.rules.proofs.OneCall.{sound_table}
use Rattle.cut.proofs.Names.{names_low, four_counts}
use Rattle.session.proofs.Records.{Marked}
use Rattle.lent_bytes.specs.Lent.{Put}
use Rattle.session.specs.Written.{line_room, LineFits, taking, reply_of, turn_reply, bad_reply}
use Rattle.session.specs.declared.Untaken.TheVariants.{NoRoom, Bad}
use Rattle.rules.specs.Refusals.{Reply}
use Rattle.rules.specs.declared.ElementAnswer.{ElementAnswer}
use Rattle.rules.specs.declared.Refusal.TheVariants.{Dimension, Radius, NotSound}
use Rattle.rules.specs.Refusals.{refusal_number}
use Rattle.rules.specs.declared.Refusal.{Refusal}

-- a line begins at the front of the room
line_length : {room after xs : List ℕ} {end : ℕ} → Put room 0 xs end after → end ≡ length xs
line_length {xs = xs} p = p.place ∙ (let q : 0 + length xs ≡ length xs = omega arith in q)

-- ---- a cube

pub cube_long : (bs : List ℕ) → is_cube bs ≡ true → 11 ≤ length bs
cube_long bs h = le_test 11 (length bs) (and_right (Marked bs 0x55) (leb 11 (length bs)) h)

made : (a b c : Bool) (m t m' : Memory) → length t.counts ≡ 4
    → ◌≡◌ {A = Reply (Unit {0}) × Memory} (Ok tt, m') (if a then (Err Dimension, m) else if b then (Err Radius, m) else if c then (Err NotSound, m) else (Ok tt, t)) → length m'.counts ≡ 4
made true b c m t m' l e = not_both (sym (ap (λ (x : Reply (Unit {0}) × Memory). x.0) e))
made false true c m t m' l e = not_both (sym (ap (λ (x : Reply (Unit {0}) × Memory). x.0) e))
made false false true m t m' l e = not_both (sym (ap (λ (x : Reply (Unit {0}) × Memory). x.0) e))
made false false false m t m' l e = ap (λ (x : Reply (Unit {0}) × Memory). length x.1.counts) e ∙ l

module _ (d : ℕ) (radius : Float) (m m' : Memory) (r : Reply (Unit {0})) (e : (r, m') ≡ cube_reply desk d radius m) where
  pub cube_counts : r ≡ Ok tt → length m'.counts ≡ 4
  unfolding cube_reply encode
  cube_counts q = made (not (leb 1 d && leb d 4)) (not (radius_fits radius)) (not (right_size desk m)) m (encode desk (cube d radius)) m' refl ((λ i. (sym q i, m')) ∙ e)

  module _ (bs room room' : List ℕ) (stands : Bool) (ed : d ≡ number_at 1 2 bs) (er : radius ≡ float_at 3 bs) where
    asked : (r, m') ≡ cube_asked desk m bs
    asked = e ∙ ap₂ (λ (x : ℕ) (y : Float). cube_reply desk x y m) ed er

    pub cube_made : (line : ℕ) → r ≡ Ok tt → Put room 0 (text (cube_line (drop 1 m'.counts))) line room' → (Ok (taking 11 line true), m', room') ≡ reply_of m room (cube_turn stands (cube_asked desk m bs))
    cube_made line q p =
        (λ i. (Ok (taking 11 (line_length p i) true), m', p.room i))
        ∙ ap (λ (x : Reply (Unit {0}) × Memory). reply_of m room (cube_turn stands x)) ((λ i. (sym q i, m')) ∙ asked)

    pub cube_refused : (line : ℕ) (x : Refusal) → r ≡ Err x → Put room 0 (text (refused_line (refusal_number x))) line room'
        → (Ok (taking 11 line stands), m', room') ≡ reply_of m room (cube_turn stands (cube_asked desk m bs))
    cube_refused line x q p =
        (λ i. (Ok (taking 11 (line_length p i) stands), m', p.room i))
        ∙ ap (λ (y : Reply (Unit {0}) × Memory). reply_of m room (cube_turn stands y)) ((λ i. (sym q i, m')) ∙ asked)

-- ---- a cut

pub cut_long : (bs : List ℕ) (d : ℕ) → is_cut d bs ≡ true → cut_length d ≤ length bs
cut_long bs d h = le_test (cut_length d) (length bs) (and_right (Marked bs 0x54) (leb (cut_length d) (length bs)) (and_left (Marked bs 0x54 && leb (cut_length d) (length bs)) (leb (number_at 1 2 bs) 3) h))

pub line_fits : (p : CutParams) (root : ℕ) (m m' : Memory) (r : Reply ElementAnswer) → (r, m') ≡ cut_reply desk p root m → LineFits r m'.counts
line_fits p root m m' (Err n) e = tt
line_fits p root m m' (Ok a) e = record { names = names_low p root m m' e a refl; counts = four_counts p root m m' e a refl }

-- more than four dimensions are refused, whatever the divider
unsound : (m : Memory) → 4 < get_or m.counts 0 0 → sound_memory desk m ≡ false
unfolding decode
unsound m h = refute (sound_memory desk m) (λ s. let z = le_test (get_or m.counts 0 0) 4 (sound_good desk (decode desk m) (sound_table desk m s)).high in omega (arith, z, h))

too_many : (p : CutParams) (root : ℕ) (m : Memory) → 4 < get_or m.counts 0 0 → cut_reply desk p root m ≡ (Err NotSound, m)
unfolding cut_reply
too_many p root m l = if_true _ _ _ (ap not (unsound m l))

same_divider : (h g : Hyperplane) (i o : PolytopeFate) (root : ℕ) (m : Memory) (b : Bool) → leb (get_or m.counts 0 0) 4 ≡ b → (get_or m.counts 0 0 ≤ 4 → h ≡ g)
    → cut_reply desk (cut_by h i o) root m ≡ cut_reply desk (cut_by g i o) root m
same_divider h g i o root m true t f = ap (λ (x : Hyperplane). cut_reply desk (cut_by x i o) root m) (f (le_test (get_or m.counts 0 0) 4 t))
same_divider h g i o root m false t f = let l = not_le (get_or m.counts 0 0) 4 t in too_many (cut_by h i o) root m l ∙ sym (too_many (cut_by g i o) root m l)

module _ (bs room room' : List ℕ) (m m' : Memory) (r : Reply ElementAnswer) (h : Hyperplane) (i o : PolytopeFate) (d root kept line : ℕ) where
  pub cut_taken : (r, m') ≡ cut_reply desk (cut_by h i o) root m → d ≡ get_or m.counts 0 0 → (d ≤ 4 → h ≡ divider_at desk d bs) → kept ≡ number_at 1 2 bs → i ≡ fate_of (eqb (kept % 2) 1)
      → o ≡ fate_of (eqb (kept / 2) 1) → root ≡ number_at 2 3 bs → Put room 0 (text (cut_text r (drop 1 m'.counts))) line room'
      → (Ok (taking (13 + 8 * d) line true), m', room') ≡ reply_of m room (cut_turn (get_or m.counts 0 0) (cut_asked desk m bs))
  cut_taken e ed eh ek ei eo er p =
      (λ j. (Ok (taking (long j) (line_length p j) true), m', p.room j))
      ∙ ap (λ (x : Reply ElementAnswer × Memory). reply_of m room (cut_turn (get_or m.counts 0 0) x)) (e ∙ same_divider h (divider_at desk (get_or m.counts 0 0) bs) i o root m (leb (get_or m.counts 0 0) 4) refl divider ∙ sides)
    where
      long : 13 + 8 * d ≡ cut_length (get_or m.counts 0 0)
      long = let q : 13 + 8 * d ≡ cut_length d = omega arith in q ∙ ap cut_length ed

      divider : get_or m.counts 0 0 ≤ 4 → h ≡ divider_at desk (get_or m.counts 0 0) bs
      divider = subst (λ (k : ℕ). k ≤ 4 → h ≡ divider_at desk k bs) ed eh

      sides : cut_reply desk (cut_by (divider_at desk (get_or m.counts 0 0) bs) i o) root m ≡ cut_asked desk m bs
      sides = λ j. cut_reply desk
          (cut_by (divider_at desk (get_or m.counts 0 0) bs) ((ei ∙ ap (λ (k : ℕ). fate_of (eqb (k % 2) 1)) ek) j) ((eo ∙ ap (λ (k : ℕ). fate_of (eqb (k / 2) 1)) ek) j)) (er j) m

-- ---- any record

module _ (stands : Bool) (m : Memory) (bs room : List ℕ) where
  pub no_room : length room < line_room → (Err NoRoom, m, room) ≡ turn_reply stands m bs room
  unfolding turn_reply
  no_room h = sym (if_true _ _ _ (test_le (suc (length room)) line_room h))

  module _ (h : line_room ≤ length room) where
    in_room_lem : turn_reply stands m bs room ≡ reply_of m room (turn desk stands m bs)
    unfolding turn_reply
    in_room_lem = if_false _ _ _ (test_above (suc (length room)) line_room (omega (arith, h)))

    pub a_cube : is_cube bs ≡ true → reply_of m room (cube_turn stands (cube_asked desk m bs)) ≡ turn_reply stands m bs room
    unfolding turn
    a_cube c = sym (in_room_lem ∙ ap (reply_of m room) (if_true _ _ _ c))

    pub a_cut : is_cube bs ≡ false → stands ≡ true → is_cut (get_or m.counts 0 0) bs ≡ true → reply_of m room (cut_turn (get_or m.counts 0 0) (cut_asked desk m bs)) ≡ turn_reply stands m bs room
    unfolding turn
    a_cut c s t = sym (in_room_lem ∙ ap (reply_of m room) (if_false _ _ _ c ∙ if_true _ _ _ (ap (λ (b : Bool). b && is_cut (get_or m.counts 0 0) bs) s ∙ t)))

    pub no_record : is_cube bs ≡ false → (stands && is_cut (get_or m.counts 0 0) bs) ≡ false → (Err Bad, m, room) ≡ turn_reply stands m bs room
    unfolding turn
    no_record c t = sym (in_room_lem ∙ ap (reply_of m room) (if_false _ _ _ c ∙ if_false _ _ _ t))

-- ---- the line of a bad record

module _ (offset : ℕ) (room : List ℕ) where
  pub no_bad_room : length room < line_room → (0, room) ≡ bad_reply offset room
  unfolding bad_reply
  no_bad_room h = sym (if_true _ _ _ (test_le (suc (length room)) line_room h))

  pub bad_written : (line : ℕ) (room' : List ℕ) → line_room ≤ length room → Put room 0 (text (bad_line offset)) line room' → (line, room') ≡ bad_reply offset room
  unfolding bad_reply
  bad_written line room' h p = (λ i. (line_length p i, p.room i)) ∙ sym (if_false _ _ _ (test_above (suc (length room)) line_room (omega (arith, h))))

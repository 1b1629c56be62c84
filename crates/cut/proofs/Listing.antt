-- A list of cuts: the tests of its slices, the cut at a position, and the list from a position on, which goes on to what the whole list gives.
use Prim.Native.Nat.{ℕ, suc, ◌+◌, ◌-◌, ◌*◌, ◌/◌, ◌%◌, ◌≤◌, ◌<◌, zero-le}
use mathlib.Core.Bool.{Bool, true, false, ◌&&◌}
use mathlib.Core.List.{List, map}
use mathlib.Core.Path.{◌≡◌, refl, sym, ap, subst, ◌∙◌}
use native.Mathlib.Nat.{le_trans, le_of_eq, le_antisymm, sub-zero, sub_self}
use native.Mathlib.Numerals.{add-one}
use native.Mathlib.Omega.{arith}
use borrow.Author.Tests.{lt-ltb, le-ltb}
use lib.Dec.{leb, eqb, ltb}
use lib.ListN.{length, length-set, get_or, set}
use lib.Ieee.{Float}
use Rattle.rules.specs.Limits.{desk}
use Rattle.rules.specs.Lists.{up_from}
use Rattle.rules.specs.Memory.{Memory, plane_width, sound_memory}
use Rattle.rules.specs.Held.{memory_of}
use Rattle.rules.specs.Replies.{output_word, fate_of, cut_by, cut_reply}
use Rattle.rules.specs.CutLists.{most_cuts, CutList, list_fits, cut_at, cuts_of, going_on, cuts_from, cut_list_reply, answers_written}
use Rattle.rules.specs.declared.Hyperplane.{Hyperplane}
use Rattle.rules.specs.declared.PolytopeFate.{PolytopeFate}
use Rattle.rules.specs.declared.CutParams.{CutParams}
use Rattle.rules.specs.declared.CutListReply.{CutListReply}
use Rattle.rules.specs.declared.CutListReply.TheVariants.{Refused, Stopped, Answered}
use Rattle.rules.proofs.AfterList.{list_by, list_by_lem}
use Rattle.rules.proofs.CutLists.{cut_list_is_cuts}
use Rattle.rules.proofs.Laws.{not_both, and_left, and_right, eq_test, test_eq, not_eq, le_test, test_le, test_above}
use Rattle.hypermath.specs.Answers.{row_hyperplane}
use Rattle.cut.specs.Whole.{SoundCut}
use Rattle.cut.specs.Lists.{cut_list_of, RowReady, params_at, ListReady, PositionReady, after_made, CutMade, CutsMade}
use Rattle.rules.specs.Refusals.{Reply}
use Rattle.rules.specs.declared.ElementAnswer.{ElementAnswer}
use Rattle.rules.specs.declared.Refusal.TheVariants.{ListLong, NotSound, RoomShort}
use Rattle.std.specs.Prelude.{Err, Ok}
use Rattle.rules.specs.declared.Refusal.{Refusal}

abbrev Result : Type 0
Result = CutListReply × List ℕ × Memory

-- ---- the slices belong together

module _ (l : CutList) where
  abbrev many : ℕ
  many = length l.roots

  by_tests : (a b : Bool) → leb many most_cuts ≡ a → eqb (length l.kept) many ≡ b → (a && b && eqb (length l.dividers) (many * plane_width desk)) ≡ list_fits desk l
  unfolding list_fits
  by_tests a b p q j = sym p j && sym q j && eqb (length l.dividers) (many * plane_width desk)

  pub too_long : most_cuts < many → false ≡ list_fits desk l
  too_long h = by_tests false _ (test_above many most_cuts h) refl

  module _ (h : many ≤ most_cuts) where
    pub not_kept : (length l.kept ≡ many → ⊥) → false ≡ list_fits desk l
    not_kept k = by_tests true false (test_le many most_cuts h) (not_eq (length l.kept) many k)

    pub rows_fit_lem : length l.kept ≡ many → eqb (length l.dividers) (many * plane_width desk) ≡ list_fits desk l
    rows_fit_lem k = by_tests true true (test_le many most_cuts h) (test_eq (length l.kept) many k)

  -- a byte and a row for each root
  module _ (fits : list_fits desk l ≡ true) where
    kept_long : length l.kept ≡ many
    unfolding list_fits
    kept_long =
        eq_test (length l.kept) many
        (and_right (leb many most_cuts) (eqb (length l.kept) many) (and_left (leb many most_cuts && eqb (length l.kept) many) (eqb (length l.dividers) (many * plane_width desk)) fits))

    pub few_cuts : many ≤ most_cuts
    unfolding list_fits
    few_cuts =
        le_test many most_cuts
        (and_left (leb many most_cuts) (eqb (length l.kept) many) (and_left (leb many most_cuts && eqb (length l.kept) many) (eqb (length l.dividers) (many * plane_width desk)) fits))

    rows_long : length l.dividers ≡ many * 5
    unfolding list_fits
    rows_long =
        eq_test (length l.dividers) (many * plane_width desk)
        (and_right (leb many most_cuts && eqb (length l.kept) many) (eqb (length l.dividers) (many * plane_width desk)) fits)

    pub row_ready : (i : ℕ) → i < many → RowReady l.dividers l.kept i
    row_ready i h = record {
      row = (let k = rows_long in let z : i * 5 + 5 ≤ length l.dividers = omega (arith, k, h) in z);
      byte = le_trans h (le_of_eq (sym kept_long));
    }

pub params_are : {h : Hyperplane} {x y : PolytopeFate} (ds : List Float) (ks : List ℕ) (i : ℕ) → h ≡ row_hyperplane ds i
    → x ≡ fate_of (eqb (get_or ks i 0 % 2) 1) → y ≡ fate_of (eqb (get_or ks i 0 / 2 % 2) 1) → cut_by h x y ≡ params_at ds ks i
params_are ds ks i p q r j = cut_by (p j) (q j) (r j)

-- ---- the cut at a position

module _ {cs : List ℕ} {ps hs : List Float} {es : List ℕ} (ds : List Float) (ks rs : List ℕ) (i : ℕ) {p : CutParams} {root : ℕ} (pe : p ≡ params_at ds ks i) (re : root ≡ get_or rs i 0)
    {r : Reply ElementAnswer} {cs' : List ℕ} {ps' hs' : List Float} {es' ix' : List ℕ} (S : SoundCut cs ps hs es p root r cs' ps' hs' es' ix') where
  goes_as : (x : List ℕ) (rest : List ℕ → Memory → Result) → going_on i x (r, memory_of cs' ps' hs' es') rest
      ≡ going_on i x (cut_reply desk (cut_at desk (cut_list_of ds ks rs) i).params (cut_at desk (cut_list_of ds ks rs) i).root (memory_of cs ps hs es)) rest
  goes_as x rest = (λ j. going_on i x (S.reply j) rest) ∙ (λ j. going_on i x (cut_reply desk (pe j) (re j) (memory_of cs ps hs es)) rest)

  pub made_refused : {room : List ℕ} (n : Refusal) → r ≡ Err n → CutMade cs ps hs es (cut_list_of ds ks rs) room i (Err n) cs' ps' hs' es' ix' room
  made_refused {room} n q = record {
    goes = λ rest. (λ j. going_on i room (sym q j, memory_of cs' ps' hs' es') rest) ∙ goes_as room rest;
    again = λ e. not_both e;
  }

  pub made_answered : {ix room : List ℕ} (a : ElementAnswer) {word : ℕ} → r ≡ Ok a → word ≡ output_word a.output a.warning
      → PositionReady cs ps hs es ix (cut_list_of ds ks rs) room i → CutMade cs ps hs es (cut_list_of ds ks rs) room i (Ok tt) cs' ps' hs' es' ix' (set room i word)
  made_answered {room = room} a {word} q told P = record {
    goes = λ rest. (λ j. rest (set room i (told j)) (memory_of cs' ps' hs' es')) ∙ (λ j. going_on i room (sym q j, memory_of cs' ps' hs' es') rest) ∙ goes_as room rest;
    again = λ e. record {
      memory = S.indexed a q;
      fits = P.list.fits;
      enough = le_trans P.list.enough (le_of_eq (sym (length-set room i word)));
    };
  }

-- ---- the list from a position on

pub record Running (cs : List ℕ) (ps hs : List Float) (es : List ℕ) (l : CutList) (room : List ℕ) (cs' : List ℕ) (ps' hs' : List Float) (es' ix' room' : List ℕ) (i : ℕ) : Type 0 where
  pub low : i ≤ length l.roots
  pub ready : ListReady cs' ps' hs' es' ix' l room'
  pub same : ◌≡◌ {A = Result} (cuts_from desk (map (cut_at desk l) (up_from i (length l.roots - i))) i room' (memory_of cs' ps' hs' es')) (cuts_from desk (cuts_of desk l) 0 room (memory_of cs ps hs es))

module _ {cs : List ℕ} {ps hs : List Float} {es : List ℕ} {l : CutList} {room : List ℕ} where
  pub running_start : {ix : List ℕ} → ListReady cs ps hs es ix l room → Running cs ps hs es l room cs ps hs es ix room 0
  unfolding cuts_of
  running_start R = record {
    low = zero-le;
    ready = R;
    same = ap (λ (n : ℕ). cuts_from desk (map (cut_at desk l) (up_from 0 n)) 0 room (memory_of cs ps hs es)) (sub-zero (length l.roots));
  }

  module _ {cs₁ : List ℕ} {ps₁ hs₁ : List Float} {es₁ ix₁ room₁ : List ℕ} {i : ℕ} (R : Running cs ps hs es l room cs₁ ps₁ hs₁ es₁ ix₁ room₁ i) where
    pub running_ready : i < length l.roots → PositionReady cs₁ ps₁ hs₁ es₁ ix₁ l room₁ i
    running_ready h = record { list = R.ready; low = h }

    pub running_ended : length l.roots ≤ i → CutsMade cs ps hs es l room (Answered (length l.roots)) cs₁ ps₁ hs₁ es₁ room₁
    running_ended h =
        let e : length l.roots ≡ i = le_antisymm h R.low in
        record {
          of = (λ j. (Answered (e j), room₁, memory_of cs₁ ps₁ hs₁ es₁))
              ∙ ap (λ (n : ℕ). cuts_from desk (map (cut_at desk l) (up_from i n)) i room₁ (memory_of cs₁ ps₁ hs₁ es₁)) (sym (sub_self i) ∙ ap (λ (n : ℕ). n - i) (sym e))
              ∙ R.same;
        }

    module _ (h : i < length l.roots) {x : Reply (Unit {0})} {cs₂ : List ℕ} {ps₂ hs₂ : List Float} {es₂ ix₂ room₂ : List ℕ} (M : CutMade cs₁ ps₁ hs₁ es₁ l room₁ i x cs₂ ps₂ hs₂ es₂ ix₂ room₂) where
      -- the cuts after this one
      later : List ℕ → Memory → Result
      later = cuts_from desk (map (cut_at desk l) (up_from (suc i) (length l.roots - suc i))) (suc i)

      onward : after_made i x room₂ (memory_of cs₂ ps₂ hs₂ es₂) later ≡ cuts_from desk (cuts_of desk l) 0 room (memory_of cs ps hs es)
      unfolding later
      onward =
          M.goes later
          ∙ ap (λ (n : ℕ). cuts_from desk (map (cut_at desk l) (up_from i n)) i room₁ (memory_of cs₁ ps₁ hs₁ es₁)) (let z : suc (length l.roots - suc i) ≡ length l.roots - i = omega (arith, h) in z)
          ∙ R.same

      pub running_stopped : (n : Refusal) → x ≡ Err n → CutsMade cs ps hs es l room (Stopped n i) cs₂ ps₂ hs₂ es₂ room₂
      running_stopped n q = record { of = (λ j. after_made i (sym q j) room₂ (memory_of cs₂ ps₂ hs₂ es₂) later) ∙ onward }

      pub running_again : x ≡ Ok tt → Running cs ps hs es l room cs₂ ps₂ hs₂ es₂ ix₂ room₂ (i + 1)
      unfolding later
      running_again q =
          subst (Running cs ps hs es l room cs₂ ps₂ hs₂ es₂ ix₂ room₂) (sym (add-one i))
          (record { low = h; ready = M.again q; same = (λ j. after_made i (sym q j) room₂ (memory_of cs₂ ps₂ hs₂ es₂) later) ∙ onward })

-- ---- the whole call

module _ (l : CutList) (room : List ℕ) (m : Memory) where
  listed : (s f k : Bool) → sound_memory desk m ≡ s → list_fits desk l ≡ f → ltb (length room) (length l.roots) ≡ k → list_by desk l room m s f k ≡ cut_list_reply desk l room m
  listed s f k p q r = (λ j. list_by desk l room m (sym p j) (sym q j) (sym r j)) ∙ sym (list_by_lem desk l room m)

  pub list_unsound : sound_memory desk m ≡ false → ◌≡◌ {A = Result} (Refused NotSound, room, m) (cut_list_reply desk l room m)
  list_unsound s = listed false _ _ s refl refl

  module _ (s : sound_memory desk m ≡ true) where
    pub list_unfit : list_fits desk l ≡ false → ◌≡◌ {A = Result} (Refused ListLong, room, m) (cut_list_reply desk l room m)
    list_unfit f = listed true false _ s f refl

    module _ (f : list_fits desk l ≡ true) where
      pub list_short : length room < length l.roots → ◌≡◌ {A = Result} (Refused RoomShort, room, m) (cut_list_reply desk l room m)
      list_short h = listed true true true s f (lt-ltb (length room) (length l.roots) h)

      pub list_made : length l.roots ≤ length room → {r : Result} → r ≡ cuts_from desk (cuts_of desk l) 0 room m → r ≡ cut_list_reply desk l room m
      list_made h e = e ∙ listed true true false s f (le-ltb (length room) (length l.roots) h)

-- no more answers are written than a list may have
pub few_written : (l : CutList) (room : List ℕ) (m : Memory) → answers_written (cut_list_reply desk l room m).0 ≤ most_cuts
few_written l room m = go (sound_memory desk m) (list_fits desk l) refl (list_by_lem desk l room m)
  where
    go : (s f : Bool) → list_fits desk l ≡ f → cut_list_reply desk l room m ≡ list_by desk l room m s f (ltb (length room) (length l.roots))
        → answers_written (cut_list_reply desk l room m).0 ≤ most_cuts
    go false f p e = subst (λ (r : Result). answers_written r.0 ≤ most_cuts) (sym e) zero-le
    go true false p e = subst (λ (r : Result). answers_written r.0 ≤ most_cuts) (sym e) zero-le
    go true true p e = le_trans (cut_list_is_cuts desk l room m).few (few_cuts l p)

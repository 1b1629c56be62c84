-- One cut call at the public reply: what an answer tells of the memory before and after, and what makes an answer.
-- The reply is a chain of tests, so both ways go by cases on them.
use Rattle.std.specs.Prelude.{if◌then◌else◌, Err, Ok}
use Prim.Native.Nat.{ℕ, ◌≤◌, suc}
use mathlib.Core.Bool.{true, ◌&&◌, Bool, false≢true, false, not}
use mathlib.Core.Path.{◌≡◌, subst, sym, refl, ◌∙◌, ap}
use lib.Dec.{eqb, ltb}
use lib.Ieee.{inf, fin, Float, nan}
use lib.ListN.{length, get_or, take, drop}
use lib.Seq.{length-take-le}
use Rattle.rules.specs.Limits.{Limits, Readable}
use Rattle.rules.specs.Lists.{all}
use Rattle.rules.specs.Floats.{unit, same_bits, plus_zero, within, farthest_plane}
use Rattle.rules.specs.Table.{Table, element_count}
use Rattle.rules.specs.Sound.{sound, sound_plane}
use Rattle.rules.specs.Memory.{Memory, sound_memory, decode, right_size, same_memory, encode}
use Rattle.rules.specs.Cut.{refused, cut, done, Outcome}
use Rattle.rules.specs.Replies.{divider_fits, divider_of, params_of, distance_fits, written, cut_reply}
use Rattle.rules.specs.Promises.{Passes, NamesBelow}
use Rattle.rules.specs.declared.CutParams.{CutParams}
use Rattle.rules.specs.declared.ElementAnswer.{ElementAnswer}
use Rattle.rules.specs.declared.Hyperplane.{Hyperplane}
use Rattle.rules.proofs.Built.{Built, done_built}
use Rattle.rules.proofs.Good.{Good, sound_good, good_sound}
use Rattle.rules.proofs.Laws.{and_true, test_eq, and_right, and_left, eq_test, le_test, test_le}
use Rattle.rules.proofs.Repeat.{NotInfinite}
use Rattle.rules.proofs.RoundTrip.{written_sound, table_back}
use Rattle.rules.proofs.Stays.{Stays, Kept}
use Rattle.rules.proofs.StaysCut.{NamesInUse, cut_stays}
use Rattle.rules.specs.Refusals.{Reply}
use Rattle.rules.specs.declared.Refusal.TheVariants.{Divider, NotInUse, NotSound}
use Rattle.rules.specs.declared.Refusal.{Refusal}

-- a divider that fits, and is no infinity, is a sound plane of the table
pub divider_sound : (L : Limits) (d : ℕ) (h : Hyperplane) → d ≤ L.dimensions → divider_fits L d h ≡ true → NotInfinite h.distance → sound_plane d (divider_of d h) ≡ true
unfolding divider_fits sound_plane
divider_sound L d h l f z =
    and_true _ _ (and_true _ _ (test_eq (length (take d h.normal)) d (length-take-le d h.normal (subst (λ (k : ℕ). d ≤ k) (sym long) l))) unit_front)
    (near h.distance z (and_right (a && b && c) (distance_fits h.distance) f))
  where
    a : Bool
    a = eqb (length h.normal) L.dimensions

    b : Bool
    b = unit (take d h.normal)

    c : Bool
    c = all (same_bits plus_zero) (drop d h.normal)

    front : (a && b) ≡ true
    front = and_left (a && b) c (and_left (a && b && c) (distance_fits h.distance) f)

    long : length h.normal ≡ L.dimensions
    long = eq_test (length h.normal) L.dimensions (and_left a b front)

    unit_front : unit (take d h.normal) ≡ true
    unit_front = and_right a b front

    near : (x : Float) → NotInfinite x → distance_fits x ≡ true → within farthest_plane x ≡ true
    near nan y k = absurd (false≢true k)
    near (inf s) y k = absurd y
    near (fin s m e) y k = k

pub sound_table : (L : Limits) (m : Memory) → sound_memory L m ≡ true → sound L (decode L m) ≡ true
unfolding sound_memory
sound_table L m s = and_right (right_size L m && same_memory (encode L (decode L m)) m) (sound L (decode L m)) s

-- ---- what an answer tells

abbrev IsAnswered : Reply ElementAnswer → Type 0
IsAnswered (Err n) = ⊥
IsAnswered (Ok a) = Unit {0}

-- what it answers, with some answer where it is refused
abbrev answer_or : ElementAnswer → Reply ElementAnswer → ElementAnswer
answer_or b (Err n) = b
answer_or b (Ok a) = a

pub record Did (L : Limits) (p : CutParams) (root : ℕ) (m : Memory) (a : ElementAnswer) (m' : Memory) : Type 0 where
  pub passes : Passes L p.divider root m
  pub table_after_lem : Table
  pub cuts : cut L (params_of (decode L m).dimension p) root (decode L m) ≡ done a table_after_lem
  pub writes : m' ≡ encode L table_after_lem

module _ (L : Limits) (p : CutParams) (root : ℕ) (m : Memory) where
  abbrev made : Outcome ElementAnswer
  made = cut L (params_of (decode L m).dimension p) root (decode L m)

  -- the reply, with its tests as arguments
  abbrev pub reply_by : Bool → Bool → Bool → Outcome ElementAnswer → Reply ElementAnswer × Memory
  reply_by s u f r = if not s then (Err NotSound, m) else if not u then (Err NotInUse, m) else if not f then (Err Divider, m) else written L m r

  pub reply_by_lem : cut_reply L p root m ≡ reply_by (sound_memory L m) (ltb root (element_count (decode L m))) (divider_fits L (decode L m).dimension p.divider) made
  unfolding cut_reply
  reply_by_lem = refl

  pub did : (a : ElementAnswer) (m' : Memory) → cut_reply L p root m ≡ (Ok a, m') → Did L p root m a m'
  did a m' e = go (sound_memory L m) (ltb root (element_count (decode L m))) (divider_fits L (decode L m).dimension p.divider) made refl refl refl refl (sym reply_by_lem ∙ e)
    where
      no : {A : Type 0} (n : Refusal) → ◌≡◌ {A = Reply ElementAnswer × Memory} (Err n, m) (Ok a, m') → A
      no n q = absurd (subst IsAnswered (sym (ap (λ (r : Reply ElementAnswer × Memory). r.0) q)) tt)

      go : (s u f : Bool) (r : Outcome ElementAnswer) → sound_memory L m ≡ s → ltb root (element_count (decode L m)) ≡ u
          → divider_fits L (decode L m).dimension p.divider ≡ f → made ≡ r → reply_by s u f r ≡ (Ok a, m') → Did L p root m a m'
      go false u f r p₁ p₂ p₃ p₄ q = no NotSound q
      go true false f r p₁ p₂ p₃ p₄ q = no NotInUse q
      go true true false r p₁ p₂ p₃ p₄ q = no Divider q
      go true true true (refused n) p₁ p₂ p₃ p₄ q = no n q
      go true true true (done b t) p₁ p₂ p₃ p₄ q = record {
        passes = record { sound = p₁; used = le_test (suc root) (element_count (decode L m)) p₂; fits = p₃ };
        table_after_lem = t;
        cuts = p₄ ∙ ap (λ (x : ElementAnswer). done x t) (ap (λ (x : Reply ElementAnswer × Memory). answer_or b x.0) q);
        writes = sym (ap (λ (x : Reply ElementAnswer × Memory). x.1) q);
      }

  -- a call that 3, 4 and 5 let pass
  pub passed : Passes L p.divider root m → cut_reply L p root m ≡ written L m made
  passed g =
      reply_by_lem
      ∙ ap (λ (s : Bool). reply_by s (ltb root (element_count (decode L m))) (divider_fits L (decode L m).dimension p.divider) made) g.sound
      ∙ ap (λ (u : Bool). reply_by true u (divider_fits L (decode L m).dimension p.divider) made) (test_le (suc root) (element_count (decode L m)) g.used)
      ∙ ap (λ (f : Bool). reply_by true true f made) g.fits

-- ---- after an answer

module _ (L : Limits) (R : Readable L) (p : CutParams) (root : ℕ) (m : Memory) (a : ElementAnswer) (m' : Memory)
    (e : cut_reply L p root m ≡ (Ok a, m')) where
  pub it : Did L p root m a m'
  it = did L p root m a m' e

  pub good_before : Good L (decode L m)
  good_before = sound_good L (decode L m) (sound_table L m it.passes.sound)

  pub after_built : Built (decode L m) it.table_after_lem
  after_built = done_built L (params_of (decode L m).dimension p) root (decode L m) it.table_after_lem a it.cuts

  after_stays : Kept L NamesInUse (decode L m) a it.table_after_lem
  after_stays =
      subst (Stays L NamesInUse (decode L m)) it.cuts
      (cut_stays L (params_of (decode L m).dimension p) root (decode L m) good_before it.passes.used
      (divider_sound L (decode L m).dimension p.divider (le_test (decode L m).dimension L.dimensions good_before.high) it.passes.fits))

  -- the table left is sound
  pub after_sound : sound L it.table_after_lem ≡ true
  after_sound = good_sound L it.table_after_lem after_stays.good

  -- what is answered is in use
  pub names_in_use : NamesBelow (get_or m'.counts 1 0) a.output
  unfolding encode
  names_in_use = subst (λ (x : Memory). NamesBelow (get_or x.counts 1 0) a.output) (sym it.writes) after_stays.value

  pub memory_sound : sound_memory L m' ≡ true
  memory_sound = subst (λ (x : Memory). sound_memory L x ≡ true) (sym it.writes) (written_sound L R it.table_after_lem after_sound)

  pub memory_table : decode L m' ≡ it.table_after_lem
  memory_table = ap (decode L) it.writes ∙ table_back L R it.table_after_lem after_sound

  -- the table in memory is built on the one before
  pub memory_built : Built (decode L m) (decode L m')
  memory_built = subst (Built (decode L m)) (sym memory_table) after_built

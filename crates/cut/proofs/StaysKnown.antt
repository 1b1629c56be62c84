-- What is known stays true: an answer that a cut has given is given again by every later table, and nothing is added (the repeat of the rules).
use Prim.Native.Nat.{ℕ, ◌≤◌, ◌<◌}
use mathlib.Core.Path.{◌≡◌, refl, sym, ap, ap₂, ◌∙◌, subst}
use mathlib.Core.Bool.{Bool, true, false, true≢false, ◌||◌}
use mathlib.Core.List.{List}
use native.Mathlib.Nat.{le_trans}
use native.Mathlib.Omega.{arith}
use lib.Dec.{eqb}
use lib.ListN.{length, replicate, length-replicate}
use lib.Ieee.{Float}
use Rattle.rules.specs.Limits.{desk}
use Rattle.rules.specs.Table.{Table, element_count, rank}
use Rattle.rules.specs.Held.{Extends, Holds}
use Rattle.rules.specs.Cut.{done, cut_element}
use Rattle.rules.specs.declared.ElementCutOutput.{ElementCutOutput}
use Rattle.rules.specs.declared.ElementCutOutput.TheVariants.{Flush, NonFlush}
use Rattle.rules.specs.declared.ElementAnswer.{ElementAnswer}
use Rattle.rules.proofs.Corners.{good_fine}
use Rattle.rules.proofs.Extends.{extends_refl, extends_trans, count_more, rank_same}
use Rattle.rules.proofs.Fine.{SomeIn, OutputIn, AnswerIn}
use Rattle.rules.proofs.Good.{Good, sound_good}
use Rattle.rules.proofs.Later.{Later, Replays, same}
use Rattle.rules.proofs.Laws.{eq_test, test_eq, or_none}
use Rattle.rules.proofs.Repeat.{cut_any}
use Rattle.gathered.specs.Sets.{InRoom, OutputInRoom}
use Rattle.gathered.specs.declared.sets.Room.{Room}
use Rattle.gathered.specs.Cutting as told
use Rattle.gathered.specs.Cutting.{cut_of, Fit, Told}
use Rattle.rules.specs.declared.Cutter.{Cutter}
use Rattle.ends.specs.Elements.{LowAsked, LowLeft}
use Rattle.cut.specs.Known.{known_at, output_at, with_answer, with_reply, ReplyInRoom, asked_by, KeepReady, ReplyKept, Repeats, Knows, KnownStill}
use Rattle.cut.specs.Rounds.{AskReady, LowReady, ElementAsked, ElementEnded, went, stopped}
use Rattle.cut.proofs.Words.{zeros_unknown, kept_long, kept_same, kept_known, kept_other_known, kept_other}
use Rattle.rules.specs.declared.ElementId.{ElementId}
use Rattle.std.specs.Prelude.{Option, Some, None, Ok, Err}
use Rattle.rules.specs.Refusals.{Reply}

-- nothing is known at first
pub knows_nothing : (k : Cutter) (w : Bool) (t : Table) → Knows k (replicate 512 0) w t
knows_nothing k w t = record { long = length-replicate {A = ℕ} 512 0; of = λ e h p. absurd (true≢false (sym p ∙ zeros_unknown e h)) }

-- ---- warnings

-- what is in the cut's warning is in it with one more
noted_more : (v b c : Bool) → (v || c) ≡ v → ((v || b) || c) ≡ (v || b)
noted_more true b c h = refl
noted_more false b c h = ap (λ (x : Bool). b || x) h ∙ or_none b

-- and a warning is in it once it was put there
pub noted_now : (v b : Bool) → ((v || b) || b) ≡ (v || b)
noted_now true b = refl
noted_now false true = refl
noted_now false false = refl

pub knows_warned : {k : Cutter} {ms : List ℕ} {v : Bool} {t : Table} (b : Bool) → Knows k ms v t → Knows k ms (v || b) t
knows_warned {v = v} b K = record {
  long = K.long;
  of = λ e h q. (let R = K.of e h q in record { used = R.used; warning = R.warning; again = R.again; noted = noted_more v b R.warning R.noted });
}

-- ---- an element that was asked

module _ (k : Cutter) (e : ℕ) (a : ElementAnswer) {t u : Table} (g : Good desk t) (l : e < element_count t) (o : cut_element desk (cut_of t.dimension k) (rank t e) e t ≡ done a u) where
  replays : Replays same AnswerIn t (cut_element desk (cut_of t.dimension k) (rank t e) e) a u
  replays = subst (Later same AnswerIn t (cut_element desk (cut_of t.dimension k) (rank t e) e)) o (cut_any desk (cut_of t.dimension k) (rank t e) e t (good_fine desk t g) l)

  asked_extends : Extends t u
  asked_extends = replays.extends

  -- asked again, in any later table
  asked_again : {v : Table} (w : Bool) → (w || a.warning) ≡ w → Extends u v → Repeats k v a.output w e
  asked_again {v} w n x =
      let y : Extends t v = extends_trans replays.extends x in
      record {
        used = le_trans l (count_more y);
        warning = a.warning;
        again = ap₂ (λ (d n : ℕ). cut_element desk (cut_of d k) n e v) y.dimension (rank_same t v e y l) ∙ replays.replay v x;
        noted = n;
      }

  -- what the answer names is within the room
  pub asked_room : element_count u ≤ 512 → OutputInRoom a.output
  asked_room m = go a.output replays.value
    where
      one : (x : Option ElementId) → SomeIn x (element_count u) → InRoom x
      one None h = tt
      one (Some d) h = le_trans h m

      go : (b : ElementCutOutput) → OutputIn b (element_count u) → OutputInRoom b
      go Flush h = tt
      go (NonFlush i j x) h = record { inside = one i h.0; outside = one j h.1; intersection = one x h.2 }

  -- its answer is kept
  knows_more : {ms : List ℕ} (w : Bool) → (w || a.warning) ≡ w → e < 512 → element_count u ≤ 512 → Knows k ms w u → Knows k (with_answer ms e a.output) w u
  knows_more {ms} w n low m K = record { long = kept_long ms e a.output ∙ K.long; of = λ j h q. go j h q (eqb j e) refl }
    where
      there : output_at (with_answer ms e a.output) e ≡ a.output
      there = kept_same ms e a.output (asked_room m) (let long = K.long in omega (arith, low, long))

      go : (j : ℕ) → j < 512 → known_at (with_answer ms e a.output) j ≡ true → (c : Bool) → eqb j e ≡ c → Repeats k u (output_at (with_answer ms e a.output) j) w j
      go j h q true p =
          subst (λ (i : ℕ). Repeats k u (output_at (with_answer ms e a.output) i) w i) (sym (eq_test j e p))
          (subst (λ (y : ElementCutOutput). Repeats k u y w e) (sym there) (asked_again w n (extends_refl u)))
      go j h q false p =
          let other : j ≡ e → ⊥ = λ i. true≢false (sym (test_eq j e i) ∙ p) in
          subst (λ (y : ElementCutOutput). Repeats k u y w j) (sym (kept_other ms e a.output j other)) (K.of j h (sym (kept_other_known ms e a.output j other) ∙ q))

-- what is known stays true
pub knows_later : {k : Cutter} {ms : List ℕ} {w : Bool} {t u : Table} → Good desk t → Extends t u → Knows k ms w t → Knows k ms w u
knows_later {k} {ms} {w} {t} {u} g x K = record {
  long = K.long;
  of = λ e h q. (let R = K.of e h q in asked_again k e (record { output = output_at ms e; warning = R.warning }) g R.used R.again w R.noted x);
}

-- ---- what was known still is

pub still_refl : (ms : List ℕ) → KnownStill ms ms
still_refl ms = record { of = λ j h. h }

pub still_trans : {ms ms₁ ms₂ : List ℕ} → KnownStill ms ms₁ → KnownStill ms₁ ms₂ → KnownStill ms ms₂
still_trans A B = record { of = λ j h. B.of j (A.of j h) }

-- an answer is kept beside it
still_kept : (ms : List ℕ) (e : ℕ) (x : Reply ElementCutOutput) → e < length ms → KnownStill ms (with_reply ms e x)
still_kept ms e (Err n) l = still_refl ms
still_kept ms e (Ok a) l = record { of = λ j h. go j h (eqb j e) refl }
  where
    go : (j : ℕ) → known_at ms j ≡ true → (c : Bool) → eqb j e ≡ c → known_at (with_answer ms e a) j ≡ true
    go j h true p = ap (known_at (with_answer ms e a)) (eq_test j e p) ∙ kept_known ms e a l
    go j h false p = kept_other_known ms e a j (λ i. true≢false (sym (test_eq j e i) ∙ p)) ∙ h

-- ---- a reply is kept

module _ {cs : List ℕ} {ps hs : List Float} {es : List ℕ} {r e : ℕ} {k : Cutter} {t : Table} (F : Fit cs ps hs es r e k t) where
  low : e < 512
  low = le_trans F.used F.holds.fits.element_room

  good : Good desk t
  good = sound_good desk t F.sound

  -- asked at its rank
  ranked_cut : {u : Table} {a : ElementAnswer} → cut_element desk (cut_of t.dimension k) r e t ≡ done a u → cut_element desk (cut_of t.dimension k) (rank t e) e t ≡ done a u
  ranked_cut o = ap (λ (n : ℕ). cut_element desk (cut_of t.dimension k) n e t) F.ranked ∙ o

  module _ {cs' : List ℕ} {ps' : List Float} {es' : List ℕ} {x : Reply ElementCutOutput} {v w : Bool} (T : Told (Holds desk cs' ps' hs es') t (cut_element desk (cut_of t.dimension k) r e t) x v w) where
    -- it is within the room
    pub reply_in_room : ReplyInRoom x
    reply_in_room = go T
      where
        go : Told (Holds desk cs' ps' hs es') t (cut_element desk (cut_of t.dimension k) r e t) x v w → ReplyInRoom x
        go (told.went a u o q n H) = subst ReplyInRoom (sym q) (asked_room k e a good F.used (ranked_cut o) H.fits.element_room)
        go (told.stopped n u o q y H) = subst ReplyInRoom (sym q) tt

    pub kept_ended : {ms ms' : List ℕ} {y : Reply (Unit {0})} → Knows k ms v t → ReplyKept ms e x y ms' → ElementEnded cs' ps' hs es' ms' w r e k y v t
    kept_ended {ms} {ms'} {y} K N = go T
      where
        go : Told (Holds desk cs' ps' hs es') t (cut_element desk (cut_of t.dimension k) r e t) x v w → ElementEnded cs' ps' hs es' ms' w r e k y v t
        go (told.stopped n u o q z H) = stopped n u o (N.asked ∙ ap asked_by q) z H
        go (told.went a u o q n H) =
            let long = K.long in
            let fits : e < length ms = omega (arith, low, long) in
            let words : ms' ≡ with_answer ms e a.output = N.words ∙ ap (with_reply ms e) q in
            let later : Knows k ms w u = subst (λ (b : Bool). Knows k ms b u) (sym n) (knows_warned a.warning (knows_later good (asked_extends k e a good F.used (ranked_cut o)) K)) in
            let noted : (w || a.warning) ≡ w = ap (λ (b : Bool). b || a.warning) n ∙ noted_now v a.warning ∙ sym n in
            went a u o (N.asked ∙ ap asked_by q) n
            (record {
              holds = H;
              knows = subst (λ (m : List ℕ). Knows k m w u) (sym words) (knows_more k e a good F.used (ranked_cut o) w noted low H.fits.element_room later);
              known = ap (λ (m : List ℕ). known_at m e) words ∙ kept_known ms e a.output fits;
              output = ap (λ (m : List ℕ). output_at m e) words ∙ kept_same ms e a.output (asked_room k e a good F.used (ranked_cut o) H.fits.element_room) fits;
            })

  pub kept_still : {ms ms' : List ℕ} {x : Reply ElementCutOutput} {y : Reply (Unit {0})} {v : Bool} → Knows k ms v t → ReplyKept ms e x y ms' → KnownStill ms ms'
  kept_still {ms} {x = x} K N =
      let long = K.long in
      subst (KnownStill ms) (sym N.words) (still_kept ms e x (let z : e < length ms = omega (arith, low, long) in z))

-- ---- what the code needs

module _ {cs : List ℕ} {ps : List Float} {es ms : List ℕ} {s : Room} {r e : ℕ} {k : Cutter} where
  pub ask_low : {ix : List ℕ} → AskReady cs ps es ix ms s r e k → e < 512
  ask_low R = low R.fit

  pub low_asks : {ix : List ℕ} → LowReady cs ps es ix ms s r e k → LowAsked cs ps es ix r e k s
  low_asks A = let R = A.ready in record { ready = record { planes = R.planes; table = R.table; fit = R.fit }; low = A.low; indexed = R.indexed }

  -- a known answer is the answer
  pub known_asked : {ix : List ℕ} (y : Bool) → AskReady cs ps es ix ms s r e k → y ≡ known_at ms e → y ≡ true → ElementAsked cs ps es ms s r e k (Ok tt) cs ps es ix ms s
  known_asked y R p q = record {
    of = λ hs t F K.
        (let A = K.of e (ask_low R) (sym p ∙ q) in
        went (record { output = output_at ms e; warning = A.warning }) t (ap (λ (n : ℕ). cut_element desk (cut_of t.dimension k) n e t) (sym F.ranked) ∙ A.again) refl (sym A.noted)
        (record { holds = F.holds; knows = K; known = sym p ∙ q; output = refl }));
    indexed = R.indexed;
    still = still_refl ms;
  }

  -- a vertex element or an edge
  module _ {x : Reply ElementCutOutput} {cs' : List ℕ} {ps' : List Float} {es' ix' : List ℕ} {s' : Room} (C : LowLeft cs ps es r e k s x cs' ps' es' ix' s') where
    pub low_keep : {ix : List ℕ} → AskReady cs ps es ix ms s r e k → KeepReady e x
    low_keep R = record { low = ask_low R; room = reply_in_room R.fit (C.cut.of R.planes R.table R.fit) }

    pub low_asked : {ix : List ℕ} → AskReady cs ps es ix ms s r e k → {y : Reply (Unit {0})} {ms' : List ℕ} → ReplyKept ms e x y ms' → ElementAsked cs ps es ms s r e k y cs' ps' es' ix' ms' s'
    low_asked R N = record {
      of = λ hs t F K. kept_ended F (C.cut.of hs t F) K N;
      indexed = C.indexed;
      still = kept_still R.fit R.knows N;
    }

-- A list of cuts is the single cuts in turn: by induction over the cuts that are left, from any position, with the room filled before it.
-- Made again, each of its cuts meets a memory that goes on from the one that it left, so it answers the same and adds nothing.
use Prim.Native.Nat.{ℕ, zero, suc, ◌+◌, ◌≤◌, ◌<◌, zero-le}
use mathlib.Core.Bool.{Bool, true, false}
use mathlib.Core.List.{List, [], ◌∷◌, map}
use mathlib.Core.Path.{◌≡◌, refl, sym, ap, subst, ◌∙◌}
use native.Mathlib.Nat.{le_refl, le_trans, not-suc-le-zero, le_of_suc-le-suc, suc-ne-zero, add-zero, zero-add}
use native.Mathlib.Omega.{arith}
use lib.Dec.{leb, ltb}
use lib.ListN.{length, length-map, length-set, get_or, set, take, drop, get_or-map}
use lib.Seq.{get_or-set_same, get_or-set_other, drop-set-lt, get_or-take, take-take, length-take-le}
use Rattle.rules.specs.Limits.{Limits, Readable}
use Rattle.rules.specs.Lists.{member, up_to}
use Rattle.rules.specs.Memory.{Memory, sound_memory}
use Rattle.rules.specs.Replies.{output_word, cut_reply}
use Rattle.rules.specs.CutLists.{CutList, list_fits, ListedCut, cut_at, cuts_of, going_on, cuts_from, cut_list_reply, answers_written}
use Rattle.rules.specs.Calls.{Call, after, after_calls, TableStays}
use Rattle.rules.specs.CutLists.{call_of, calls_of, after_first, singly, AnsweredAs, MadeSingly, EndsAs, CutListNumbers, RefusedCutListLeaves, CutListIsCuts, StoppedAtTheRefused}
use Rattle.rules.specs.CutLists.{going_on_by, CutListGoesOn, AnsweredAgain, CutListAgain}
use Rattle.rules.specs.declared.ElementAnswer.{ElementAnswer}
use Rattle.rules.specs.declared.CutListReply.{CutListReply}
use Rattle.rules.specs.declared.CutListReply.TheVariants.{Refused, Stopped, Answered}
use Rattle.rules.proofs.AfterList.{Result, list_by, list_by_lem, after_cuts, after_list}
use Rattle.rules.proofs.Calls.{Follows, follows_itself, follows_on, cut_follows, calls_follow, same_sides}
use Rattle.rules.proofs.Counting.{length_up, getD_up}
use Rattle.rules.proofs.Laws.{le_test, not_le, test_above}
use Rattle.rules.proofs.OneCall.{memory_sound}
use Rattle.rules.proofs.Refusals.{refused_leaves, sound_refusal_number}
use Rattle.rules.specs.Refusals.{Reply}
use Rattle.std.specs.Prelude.{Err, Ok}
use Rattle.rules.specs.declared.Refusal.TheVariants.{NotSound, ListLong, RoomShort}
use Rattle.rules.specs.Refusals.{refusal_number}
use Rattle.rules.specs.declared.Refusal.{Refusal}

-- ---- some cuts, from a position on

module _ (L : Limits) where
  -- the cut with number j of some, made singly after those before it
  abbrev one_of : ListedCut → List ListedCut → ℕ → Memory → Reply ElementAnswer × Memory
  one_of d cs j m = cut_reply L (get_or cs j d).params (get_or cs j d).root (after_calls L (take j (map call_of cs)) m)

  -- how a list from a position on ends, after this many of its cuts
  abbrev Ended : ListedCut → List ListedCut → ℕ → Memory → Memory → CutListReply → Type 0
  Ended d cs k m m' (Refused n) = ⊥
  Ended d cs k m m' (Stopped n i) = (k < length cs) × (one_of d cs k m ≡ (Err n, m'))
  Ended d cs k m m' (Answered i) = k ≡ length cs

  -- the cuts made of a list from position i on
  record Ran (d : ListedCut) (cs : List ListedCut) (i : ℕ) (room : List ℕ) (m : Memory) (r : Result) : Type 0 where
    pub made : ℕ
    pub few : made ≤ length cs
    pub written : answers_written r.0 ≡ i + made
    pub memory : r.2 ≡ after_calls L (take made (map call_of cs)) m
    pub calls : TableStays L (take made (map call_of cs)) m
    pub size : length r.1 ≡ length room
    pub front : (j : ℕ) → j < i → get_or r.1 j 0 ≡ get_or room j 0
    pub rest : drop (i + made) r.1 ≡ drop (i + made) room
    pub answers : (j : ℕ) → j < made → AnsweredAs (one_of d cs j m).0 (get_or r.1 (i + j) 0)
    pub ended : Ended d cs made m r.2 r.0

  -- a cut that is answered, and what was made after it
  module _ (d c : ListedCut) (cs : List ListedCut) (m m' : Memory) (after : (cut_reply L c.params c.root m).1 ≡ m') where
    ended_more : (k : ℕ) (x : Memory) (y : CutListReply) → Ended d cs k m' x y → Ended d (c ∷ cs) (suc k) m x y
    ended_more k x (Refused n) h = h
    ended_more k x (Stopped n j) h =
        (let z : suc k < suc (length cs) = omega (arith, h.0) in z, ap (λ (z : Memory). cut_reply L (get_or cs k d).params (get_or cs k d).root (after_calls L (take k (map call_of cs)) z)) after ∙ h.1)
    ended_more k x (Answered j) h = ap suc h

    module _ (i word : ℕ) (room : List ℕ) (low : i < length room) (x : AnsweredAs (cut_reply L c.params c.root m).0 word) where
      ran_more : {r : Result} → Ran d cs (suc i) (set room i word) m' r → Ran d (c ∷ cs) i room m r
      ran_more {r} q =
          record {
            made = suc q.made;
            few = omega (arith, q.few);
            written = q.written ∙ shifted q.made;
            memory = q.memory ∙ ap (after_calls L (take q.made (map call_of cs))) (sym after);
            calls = (tt, subst (TableStays L (take q.made (map call_of cs))) (sym after) q.calls);
            size = q.size ∙ length-set room i word;
            front = λ j h. q.front j (let z : j < suc i = omega (arith, h) in z) ∙ get_or-set_other room i j word 0 (λ e. let z : ⊥ = omega (arith, h, e) in z);
            rest = subst (λ (n : ℕ). drop n r.1 ≡ drop n room) (shifted q.made) (q.rest ∙ drop-set-lt (suc i + q.made) room i word (let z : i < suc i + q.made = omega arith in z));
            answers = answers;
            ended = ended_more q.made r.2 r.0 q.ended;
          }
        where
          shifted : (j : ℕ) → suc i + j ≡ i + suc j
          shifted j = omega arith

          here : get_or r.1 (i + 0) 0 ≡ word
          here = ap (λ (n : ℕ). get_or r.1 n 0) (add-zero i) ∙ q.front i (le_refl (suc i)) ∙ get_or-set_same room i word 0 low

          answers : (j : ℕ) → j < suc q.made → AnsweredAs (one_of d (c ∷ cs) j m).0 (get_or r.1 (i + j) 0)
          answers zero h = subst (AnsweredAs (cut_reply L c.params c.root m).0) (sym here) x
          answers (suc j) h =
              subst (λ (n : ℕ). AnsweredAs (one_of d (c ∷ cs) (suc j) m).0 (get_or r.1 n 0)) (shifted j)
              (subst (λ (z : Memory). AnsweredAs (cut_reply L (get_or cs j d).params (get_or cs j d).root (after_calls L (take j (map call_of cs)) z)).0 (get_or r.1 (suc i + j) 0)) (sym after)
              (q.answers j (le_of_suc-le-suc h)))

  ran : (d : ListedCut) (cs : List ListedCut) (i : ℕ) (room : List ℕ) (m : Memory) → i + length cs ≤ length room → Ran d cs i room m (cuts_from L cs i room m)
  ran d [] i room m fits = record {
    made = 0;
    few = zero-le;
    written = sym (add-zero i);
    memory = refl;
    calls = tt;
    size = refl;
    front = λ j h. refl;
    rest = refl;
    answers = λ j h. absurd (not-suc-le-zero h);
    ended = refl;
  }
  ran d (c ∷ cs) i room m fits = go (cut_reply L c.params c.root m).0 (cut_reply L c.params c.root m).1 refl (λ word m' k. ran d cs (suc i) (set room i word) m' k)
    where
      go : (r : Reply ElementAnswer) (m' : Memory) → cut_reply L c.params c.root m ≡ (r, m')
          → ((word : ℕ) (m' : Memory) → suc i + length cs ≤ length (set room i word) → Ran d cs (suc i) (set room i word) m' (cuts_from L cs (suc i) (set room i word) m'))
          → Ran d (c ∷ cs) i room m (going_on i room (r, m') (cuts_from L cs (suc i)))
      go (Err n) m' e later = record {
        made = 0;
        few = zero-le;
        written = sym (add-zero i);
        memory = refused_leaves L c.params c.root m m' n e;
        calls = tt;
        size = refl;
        front = λ j h. refl;
        rest = refl;
        answers = λ j h. absurd (not-suc-le-zero h);
        ended = (let z : 0 < suc (length cs) = omega arith in z, e);
      }
      go (Ok a) m' e later =
          ran_more d c cs m m' (ap (λ (x : Reply ElementAnswer × Memory). x.1) e) i (output_word a.output a.warning) room (let z : i < length room = omega (arith, fits) in z)
          (record { answer = a; reply = ap (λ (x : Reply ElementAnswer × Memory). x.0) e; told = refl })
          (later (output_word a.output a.warning) m' (let k = length-set room i (output_word a.output a.warning) in let z : suc i + length cs ≤ length (set room i (output_word a.output a.warning)) = omega (arith, fits, k) in z))

-- ---- the whole call

module _ (L : Limits) (l : CutList) where
  pub as_many : length (cuts_of L l) ≡ length l.roots
  unfolding cuts_of
  as_many = length-map (up_to (length l.roots)) (cut_at L l) ∙ length_up 0 (length l.roots)

  -- what stands past the last position
  first : ListedCut
  first = cut_at L l 0

  cut_at_lem : (i : ℕ) → i < length l.roots → get_or (cuts_of L l) i first ≡ cut_at L l i
  unfolding cuts_of
  cut_at_lem i h = getD_up (cut_at L l) first 0 (length l.roots) i h ∙ ap (cut_at L l) (zero-add i)

  module _ (room : List ℕ) (m : Memory) where
    -- refused before any cut, or the cuts are made of a sound memory, with room for all answers
    data Way : Type 0 where
      unmade : (n : Refusal) → member (refusal_number n) (3 ∷ 26 ∷ 12 ∷ []) ≡ true → cut_list_reply L l room m ≡ (Refused n, room, m) → Way
      making : sound_memory L m ≡ true → list_fits L l ≡ true → length l.roots ≤ length room → cut_list_reply L l room m ≡ cuts_from L (cuts_of L l) 0 room m → Way

    way : Way
    way = go (sound_memory L m) (list_fits L l) (ltb (length room) (length l.roots)) refl refl refl (list_by_lem L l room m)
      where
        go : (s f k : Bool) → sound_memory L m ≡ s → list_fits L l ≡ f → ltb (length room) (length l.roots) ≡ k → cut_list_reply L l room m ≡ list_by L l room m s f k → Way
        go false f k p t q e = unmade NotSound refl e
        go true false k p t q e = unmade ListLong refl e
        go true true true p t q e = unmade RoomShort refl e
        go true true false p t q e = making p t (le_of_suc-le-suc (not_le (suc (length room)) (length l.roots) q)) e

    made_of : length l.roots ≤ length room → Ran L first (cuts_of L l) 0 room m (cuts_from L (cuts_of L l) 0 room m)
    made_of h = ran L first (cuts_of L l) 0 room m (let k = as_many in let z : 0 + length (cuts_of L l) ≤ length room = omega (arith, h, k) in z)

    single : (i : ℕ) → i < length l.roots → one_of L first (cuts_of L l) i m ≡ singly L l i m
    single i h = ap (λ (c : ListedCut). cut_reply L c.params c.root (after_first L l i m)) (cut_at_lem i h)

-- ---- the promises

module _ (L : Limits) (l : CutList) (room : List ℕ) (m : Memory) where
  ends : (s : sound_memory L m ≡ true) (R : Readable L) (r : Result) (q : Ran L (first L l) (cuts_of L l) 0 room m r) → EndsAs (length l.roots) r.0
  ends s R r q = go r.0 q.written q.ended
    where
      refusing : ListedCut
      refusing = get_or (cuts_of L l) q.made (first L l)

      go : (y : CutListReply) → answers_written y ≡ 0 + q.made → Ended L (first L l) (cuts_of L l) q.made m r.2 y → EndsAs (length l.roots) y
      go (Refused n) w e = absurd e
      go (Stopped n i) w e = (
        sound_refusal_number L refusing.params refusing.root (after_first L l q.made m) n
            (calls_follow L R (take q.made (calls_of L l)) m s q.calls).sound_after (ap (λ (x : Reply ElementAnswer × Memory). x.0) e.1),
        let k = as_many L l in let z : i < length l.roots = omega (arith, w, e.0, k) in z,
      )
      go (Answered k) w e = let j = as_many L l in let z : k ≡ length l.roots = omega (arith, w, e, j) in z

  singly_made : (r : Result) (q : Ran L (first L l) (cuts_of L l) 0 room m r) → length l.roots ≤ length room → MadeSingly L l (answers_written r.0) room r.1 m r.2
  singly_made r q h =
      subst (λ (k : ℕ). MadeSingly L l k room r.1 m r.2) (sym (q.written ∙ zero-add q.made)) (record {
        few = few;
        answers = λ i low. subst (λ (x : Reply ElementAnswer). AnsweredAs x (get_or r.1 i 0)) (ap (λ (x : Reply ElementAnswer × Memory). x.0) (single L l room m i (le_trans low few)))
            (subst (λ (k : ℕ). AnsweredAs (one_of L (first L l) (cuts_of L l) i m).0 (get_or r.1 k 0)) (zero-add i) (q.answers i low));
        memory = q.memory;
        calls = q.calls;
        behind = record { fits = le_trans few h; size = q.size; rest = subst (λ (k : ℕ). drop k r.1 ≡ drop k room) (zero-add q.made) q.rest };
      })
    where
      few : q.made ≤ length l.roots
      few = let k = as_many L l in omega (arith, q.few, k)

  stopped : (r : Result) (q : Ran L (first L l) (cuts_of L l) 0 room m r) (n : Refusal) (i : ℕ) → r.0 ≡ Stopped n i → singly L l i m ≡ (Err n, r.2)
  stopped r q n i e =
      let k = subst (Ended L (first L l) (cuts_of L l) q.made m r.2) e q.ended in
      let at : q.made ≡ i = sym (zero-add q.made) ∙ sym q.written ∙ ap answers_written e in
      let many = as_many L l in
      subst (λ (j : ℕ). singly L l j m ≡ (Err n, r.2)) at
      (sym (single L l room m q.made (let z : q.made < length l.roots = omega (arith, k.0, many) in z)) ∙ k.1)

pub cut_list_numbers : (L : Limits) → Readable L → CutListNumbers L
cut_list_numbers L R l room m = go (way L l room m)
  where
    go : Way L l room m → EndsAs (length l.roots) (cut_list_reply L l room m).0
    go (unmade n k e) = subst (λ (r : Result). EndsAs (length l.roots) r.0) (sym e) k
    go (making s t h e) = subst (λ (r : Result). EndsAs (length l.roots) r.0) (sym e) (ends L l room m s R _ (made_of L l room m h))

pub refused_cut_list_leaves : (L : Limits) → RefusedCutListLeaves L
refused_cut_list_leaves L l room m n w = go (way L l room m)
  where
    go : Way L l room m → cut_list_reply L l room m ≡ (Refused n, room, m)
    go (unmade k h e) = let z = ap (λ (r : Result). r.0) e in let q : k ≡ n = cc in e ∙ (λ j. (Refused (q j), room, m))
    go (making s t h e) =
        absurd (subst (Ended L (first L l) (cuts_of L l) (made_of L l room m h).made m (cuts_from L (cuts_of L l) 0 room m).2)
        (sym (ap (λ (r : Result). r.0) e) ∙ w) (made_of L l room m h).ended)

pub cut_list_is_cuts : (L : Limits) → CutListIsCuts L
cut_list_is_cuts L l room m = go (way L l room m)
  where
    Made : Result → Type 0
    Made r = MadeSingly L l (answers_written r.0) room r.1 m r.2

    go : Way L l room m → Made (cut_list_reply L l room m)
    go (unmade n k e) =
        subst Made (sym e)
        (record { few = zero-le; answers = λ i h. absurd (not-suc-le-zero h); memory = refl; calls = tt; behind = record { fits = zero-le; size = refl; rest = refl } })
    go (making s t h e) = subst Made (sym e) (singly_made L l room m _ (made_of L l room m h) h)

pub stopped_at_the_refused : (L : Limits) → StoppedAtTheRefused L
stopped_at_the_refused L l room m n i w = go (way L l room m)
  where
    go : Way L l room m → singly L l i m ≡ (Err n, (cut_list_reply L l room m).2)
    go (unmade k h e) = let z = ap (λ (r : Result). r.0) e in let q : ◌≡◌ {A = ℕ} 0 1 = cc in absurd (suc-ne-zero 0 (sym q))
    go (making s t h e) =
        stopped L l room m _ (made_of L l room m h) n i (sym (ap (λ (r : Result). r.0) e) ∙ w) ∙ (λ j. (Err n, (sym e j).2))

-- ---- a list goes on after each of its cuts

module _ (L : Limits) where
  -- calls from one of them on
  split : (cs : List Call) (i : ℕ) (d : Call) (m : Memory) → i < length cs → TableStays L cs m
      → let there = after L (get_or cs i d) (after_calls L (take i cs) m) in (after_calls L (drop (suc i) cs) there ≡ after_calls L cs m) × TableStays L (drop (suc i) cs) there
  split [] i d m h s = absurd (not-suc-le-zero h)
  split (c ∷ cs) zero d m h s = (refl, s.1)
  split (c ∷ cs) (suc i) d m h s = split cs i d (after L c m) (le_of_suc-le-suc h) s.1

  pub cut_list_goes_on : CutListGoesOn L
  cut_list_goes_on l room m i h =
      let q = cut_list_is_cuts L l room m in
      let k = answers_written (cut_list_reply L l room m).0 in
      let made = take k (calls_of L l) in
      let few = q.few in
      let many = as_many L l in
      let listed = length-map (cuts_of L l) call_of in
      let long = length-take-le k (calls_of L l) (omega (arith, few, many, listed)) in
      let x = split made i (call_of (first L l)) m (omega (arith, h, long)) q.calls in
      let here : after L (get_or made i (call_of (first L l))) (after_calls L (take i made) m) ≡ (singly L l i m).1 =
      (λ j. after L (get_or-take k (calls_of L l) i (call_of (first L l)) h j) (after_calls L (take-take i k (calls_of L l) (omega (arith, h)) j) m))
      ∙ ap (λ (c : Call). after L c (after_first L l i m)) (get_or-map call_of (cuts_of L l) i (first L l) ∙ ap call_of (cut_at_lem L l i (le_trans h few))) in
      record {
        memory = ap (after_calls L (going_on_by L l k i)) (sym here) ∙ x.0 ∙ sym q.memory;
        calls = subst (TableStays L (going_on_by L l k i)) here x.1;
      }

-- ---- the same list again

module _ (L : Limits) (R : Readable L) where
  -- some cuts from a position on, again: those from there on are answered as they were, and what stands before it stays
  record Again (i k : ℕ) (filled room : List ℕ) (m : Memory) (r : Result) : Type 0 where
    pub reply : r.0 ≡ Answered k
    pub memory : r.2 ≡ m
    pub front : (j : ℕ) → j < i → get_or r.1 j 0 ≡ get_or room j 0
    pub answers : (j : ℕ) → i ≤ j → j < k → get_or r.1 j 0 ≡ get_or filled j 0

  -- a list that stopped was not answered
  not_stopped : {A : Type 0} (n : Refusal) (i k : ℕ) → Stopped n i ≡ Answered k → A
  not_stopped n i k e = let z : ◌≡◌ {A = ℕ} 0 1 = cc in absurd (suc-ne-zero 0 (sym z))

  again : (d : ListedCut) (cs : List ListedCut) (i k : ℕ) (room room' : List ℕ) (m later : Memory) → sound_memory L m ≡ true → i + length cs ≤ length room → i + length cs ≤ length room'
      → (cuts_from L cs i room m).0 ≡ Answered k → Follows L (cuts_from L cs i room m).2 later → Again i k (cuts_from L cs i room m).1 room' later (cuts_from L cs i room' later)
  again d [] i k room room' m later s h h' e f = record {
    reply = e;
    memory = refl;
    front = λ j low. refl;
    answers = λ j from low. let z : i ≡ k = cc in absurd (omega (arith, from, low, z));
  }
  again d (c ∷ cs) i k room room' m later s h h' e f =
      go (cut_reply L c.params c.root m).0 (cut_reply L c.params c.root m).1 refl e f (λ word m'. again d cs (suc i) k (set room i word) (set room' i word) m' later)
    where
      Next : ℕ → Memory → Type 0
      Next word m' = sound_memory L m' ≡ true → suc i + length cs ≤ length (set room i word) → suc i + length cs ≤ length (set room' i word)
          → (cuts_from L cs (suc i) (set room i word) m').0 ≡ Answered k → Follows L (cuts_from L cs (suc i) (set room i word) m').2 later
          → Again (suc i) k (cuts_from L cs (suc i) (set room i word) m').1 (set room' i word) later (cuts_from L cs (suc i) (set room' i word) later)

      go : (r : Reply ElementAnswer) (m' : Memory) → cut_reply L c.params c.root m ≡ (r, m') → (going_on i room (r, m') (cuts_from L cs (suc i))).0 ≡ Answered k
          → Follows L (going_on i room (r, m') (cuts_from L cs (suc i))).2 later → ((word : ℕ) (m' : Memory) → Next word m')
          → Again i k (going_on i room (r, m') (cuts_from L cs (suc i))).1 room' later (cuts_from L (c ∷ cs) i room' later)
      go (Err n) m' q e f rest = not_stopped n i k e
      go (Ok a) m' q e f rest =
          subst (λ (r : Reply ElementAnswer × Memory). Again i k (cuts_from L cs (suc i) (set room i word) m').1 room' later (going_on i room' r (cuts_from L cs (suc i))))
          (sym (same_sides L R c.params c.root m a m' q later follows))
          (record { reply = y.reply; memory = y.memory; front = λ j low. y.front j (omega (arith, low)) ∙ get_or-set_other room' i j word 0 (λ x. absurd (omega (arith, low, x))); answers = answers })
        where
          word : ℕ
          word = output_word a.output a.warning

          sound_next : sound_memory L m' ≡ true
          sound_next = memory_sound L R c.params c.root m a m' q

          follows : Follows L m' later
          follows =
              follows_on L R (after_cuts L (Follows L m') (λ p root x g. follows_on L R g (cut_follows L R p root x g.sound_after)) cs (suc i) (set room i word) m' (follows_itself L R m' sound_next)) f

          fits : suc i + length cs ≤ length (set room i word)
          fits = let z = length-set room i word in omega (arith, h, z)

          y : Again (suc i) k (cuts_from L cs (suc i) (set room i word) m').1 (set room' i word) later (cuts_from L cs (suc i) (set room' i word) later)
          y = rest word m' sound_next fits (let z = length-set room' i word in omega (arith, h', z)) e f

          -- the word at position i is this answer, both times
          here : get_or (cuts_from L cs (suc i) (set room' i word) later).1 i 0 ≡ get_or (cuts_from L cs (suc i) (set room i word) m').1 i 0
          here =
              y.front i (le_refl (suc i)) ∙ get_or-set_same room' i word 0 (omega (arith, h'))
              ∙ sym ((ran L d cs (suc i) (set room i word) m' fits).front i (le_refl (suc i)) ∙ get_or-set_same room i word 0 (omega (arith, h)))

          answers : (j : ℕ) → i ≤ j → j < k → get_or (cuts_from L cs (suc i) (set room' i word) later).1 j 0 ≡ get_or (cuts_from L cs (suc i) (set room i word) m').1 j 0
          answers j from low = by (leb (suc i) j) refl
            where
              by : (b : Bool) → leb (suc i) j ≡ b → get_or (cuts_from L cs (suc i) (set room' i word) later).1 j 0 ≡ get_or (cuts_from L cs (suc i) (set room i word) m').1 j 0
              by true t = y.answers j (le_test (suc i) j t) low
              by false t =
                  let z = not_le (suc i) j t in
                  let at : i ≡ j = omega (arith, from, z) in
                  subst (λ (n : ℕ). get_or (cuts_from L cs (suc i) (set room' i word) later).1 n 0 ≡ get_or (cuts_from L cs (suc i) (set room i word) m').1 n 0) at here

  pub cut_list_again : CutListAgain L
  cut_list_again l room m k e cs n room' h' = go (way L l room m)
    where
      later : Memory
      later = after_calls L cs (cut_list_reply L l room m).2

      go : Way L l room m → AnsweredAgain k (cut_list_reply L l room m).1 later (cut_list_reply L l room' later)
      go (unmade x q r) = let z = sym (ap (λ (y : Result). y.0) r) ∙ e in let w : ◌≡◌ {A = ℕ} 0 1 = cc in absurd (suc-ne-zero 0 (sym w))
      go (making s t h r) =
          record {
            reply = ap (λ (y : Result). y.0) made ∙ x.reply;
            answers = λ i low. ap (λ (y : Result). get_or y.1 i 0) made ∙ x.answers i zero-le low ∙ ap (λ (y : Result). get_or y.1 i 0) (sym r);
            memory = ap (λ (y : Result). y.2) made ∙ x.memory;
          }
        where
          follows : Follows L (cut_list_reply L l room m).2 later
          follows = calls_follow L R cs (cut_list_reply L l room m).2 (after_list L (Follows L m) (λ p root x f. follows_on L R f (cut_follows L R p root x f.sound_after)) l room m (follows_itself L R m s)).sound_after n

          short : ltb (length room') (length l.roots) ≡ false
          short = test_above (suc (length room')) (length l.roots) (let z : length l.roots < suc (length room') = omega (arith, h') in z)

          made : cut_list_reply L l room' later ≡ cuts_from L (cuts_of L l) 0 room' later
          made = list_by_lem L l room' later ∙ (λ j. list_by L l room' later (follows.sound_after j) (t j) (short j))

          few : (r : List ℕ) → length l.roots ≤ length r → 0 + length (cuts_of L l) ≤ length r
          few r low = let z = as_many L l in omega (arith, low, z)

          x : Again 0 k (cuts_from L (cuts_of L l) 0 room m).1 room' later (cuts_from L (cuts_of L l) 0 room' later)
          x = again (first L l) (cuts_of L l) 0 k room room' m later s (few room h) (few room' h') (sym (ap (λ (y : Result). y.0) r) ∙ e) (subst (λ (y : Result). Follows L y.2 later) r follows)

-- The round over a boundary, and the cut of an element of rank 2 and more that is not known.
-- The invariant of the round: what is left to ask, from the table now and what the rules have gathered, is the whole of it; what was asked is known, and what is known is true.
use Prim.Native.Nat.{ℕ, zero, suc, ◌+◌, ◌-◌, ◌*◌, ◌≤◌, ◌<◌}
use mathlib.Core.Bool.{Bool, true, false, true≢false, ◌||◌}
use mathlib.Core.Path.{◌≡◌, refl, sym, ap, ap₂, ◌∙◌, subst}
use mathlib.Core.List.{List, []}
use native.Mathlib.Nat.{le_trans, le_of_eq}
use native.Mathlib.Numerals.{add-one}
use native.Mathlib.Omega.{arith}
use lib.Dec.{leb, eqb}
use lib.ListN.{length, get_or, drop}
use lib.Seq.{drop-cons, drop-length}
use lib.Ieee.{Float}
use Rattle.rules.specs.Limits.{Limits, desk}
use Rattle.rules.specs.Table.{Element, corner, Table, rank_of, boundary_of, element_count, rank, boundary, element}
use Rattle.rules.specs.Held.{Extends, Holds, Ranked, AnswerOf}
use Rattle.rules.specs.Cut.{Outcome, done, next, Step, Cutting, Gathered, nothing_yet, gathering, rule6, cut_element, cut_boundary, cut_higher}
use Rattle.rules.specs.declared.ElementAnswer.{ElementAnswer}
use Rattle.rules.specs.declared.Cutter.{Cutter}
use Rattle.rules.proofs.Extends.{extends_refl, extends_trans, element_same, count_more, begins_length}
use Rattle.rules.proofs.Good.{Good, sound_good, good_sound}
use Rattle.rules.proofs.Growing.{all_get}
use Rattle.rules.proofs.Laws.{not_both, le_test, eq_test, test_eq, or_none, or_shift}
use Rattle.rules.proofs.Ranked.{ranked_later}
use Rattle.rules.proofs.Stays.{Stays, Kept}
use Rattle.rules.proofs.StaysCut.{Facts, facts, ranked_get, element_stays}
use Rattle.rules.proofs.Warned.{gathering_warns}
use Rattle.space.specs.Chains.{Indexed}
use Rattle.space.proofs.Room.{list_of, size_bound, list_bound, size_word_lem, list_word_lem}
use Rattle.space.proofs.Slices.{slices}
use Rattle.gathered.specs.Sets.{warning_in}
use Rattle.gathered.specs.declared.sets.Room.{Room}
use Rattle.gathered.specs.Cutting.{cut_of, Fit}
use Rattle.cut.specs.Known.{known_at, Knows, KnownStill, KnownTo}
use Rattle.cut.specs.Rounds.{AskReady, RoundReady, Ended, went, stopped, AnswerKept, ElementEnded, BoundaryEnded}
use Rattle.rules.specs.Refusals.{Reply}
use Rattle.rules.specs.declared.Refusal.{Refusal}
use Rattle.std.specs.Prelude.{Ok, Err}

-- ---- a table that may be cut

good_of : {cs : List ℕ} {ps hs : List Float} {es : List ℕ} {r e : ℕ} {k : Cutter} {t : Table} → Fit cs ps hs es r e k t → Good desk t
good_of {t = t} F = sound_good desk t F.sound

pub ready_words : {cs : List ℕ} {ps : List Float} {es ix ms : List ℕ} {s : Room} {r e : ℕ} {k : Cutter} → AskReady cs ps es ix ms s r e k → length es ≡ 18432
ready_words R = (slices R.fit.holds).elements

-- ---- the rank is 2 or more

module _ (r : ℕ) (more : 1 < r) where
  er : r ≡ suc (r - 1)
  er = omega arith

  pub ep : r - 1 ≡ suc (r - 2)
  ep = omega arith

  module _ (e : ℕ) (k : Cutter) where
    abbrev pub ask : ℕ → ℕ → Step ElementAnswer
    ask d = cut_element desk (cut_of d k) (r - 1)

    pub ask_stays : (d b : ℕ) (u : Table) → Good desk u → k.number.0 < length u.planes → b < element_count u → rank u b ≡ r - 1 → Stays desk (AnswerOf (r - 1)) u (ask d b u)
    ask_stays d b u g n l q =
        subst (λ (m : ℕ). Stays desk (AnswerOf m) u (cut_element desk (cut_of d k) m b u)) (sym ep) (element_stays desk (cut_of d k) (r - 2) b u g n l (q ∙ ep))

    -- how far the round is: the table now, what the rules have gathered, what is known, and what is left to ask; the cut's warning was v and is w
    pub record At (hs : List Float) (t : Table) (v : Bool) (i : ℕ) (cs : List ℕ) (ps : List Float) (es ms : List ℕ) (w : Bool) : Type 0 where
      pub table : Table
      pub gathered : Gathered
      pub holds : Holds desk cs ps hs es table
      pub knows : Knows k ms w table
      pub good : Good desk table
      pub extends : Extends t table
      pub noted : w ≡ (v || gathered.warning)
      pub known : KnownTo ms (boundary t e) i
      pub rest : cut_boundary (ask t.dimension) (boundary t e) nothing_yet t ≡ cut_boundary (ask t.dimension) (drop i (boundary t e)) gathered table

pub record Going (r : ℕ) (more : 1 < r) (e : ℕ) (k : Cutter) (cs₀ : List ℕ) (ps₀ : List Float) (es₀ ms₀ : List ℕ) (v : Bool) (i : ℕ) (cs : List ℕ) (ps : List Float) (es ms : List ℕ) (w : Bool) : Type 0 where
  pub of : (hs : List Float) (t : Table) → Fit cs₀ ps₀ hs es₀ r e k t → Knows k ms₀ v t → At r more e k hs t v i cs ps es ms w

-- ---- what the round needs of its element

module _ {cs : List ℕ} {ps hs : List Float} {es : List ℕ} {r e : ℕ} {k : Cutter} {t : Table} (more : 1 < r) (F : Fit cs ps hs es r e k t) where
  pub owner : Facts t (r - 1) (element t e)
  owner = facts desk t e (r - 1) (good_of F) F.used (F.ranked ∙ er r more)

  pub size_is : (n : ℕ) → n ≡ get_or es (e * 36 + 3) 0 → n ≡ length (boundary t e)
  size_is n h =
      h ∙ ap (λ (l : List ℕ). get_or l (e * 36 + 3) 0) F.holds.elements ∙ size_word_lem desk t F.holds.fits e F.used
      ∙ size_bound (element t e) (r - 1) (F.ranked ∙ er r more)

  pub size_most : (n : ℕ) → n ≡ get_or es (e * 36 + 3) 0 → n ≤ 32
  size_most n h = le_trans (le_of_eq (size_is n h)) (le_test (length (boundary t e)) 32 (all_get (λ x. leb (length (boundary_of x)) 32) t.elements e (corner 0) F.used (good_of F).boundary_room))

  -- a number of the row is the boundary's, and of an element in use
  module _ (n : ℕ) (size : n ≡ get_or es (e * 36 + 3) 0) (i : ℕ) (l : i < n) where
    pub within : i < length (boundary t e)
    within = le_trans l (le_of_eq (size_is n size))

    pub number_of : {b : ℕ} → b ≡ get_or es (e * 36 + (4 + i)) 0 → b ≡ get_or (boundary t e) i 0
    number_of read =
        let x : list_of (element t e) ≡ boundary t e = list_bound (element t e) (r - 1) (F.ranked ∙ er r more) in
        let m = size_most n size in
        read ∙ ap (λ (w : List ℕ). get_or w (e * 36 + (4 + i)) 0) F.holds.elements
        ∙ list_word_lem desk t F.holds.fits e F.used i (subst (λ (w : List ℕ). i < length w) (sym x) within) (let z : 4 + i < 36 = omega (arith, m, l) in z)
        ∙ ap (λ (w : List ℕ). get_or w i 0) x

    pub ranked_of : {b : ℕ} → b ≡ get_or (boundary t e) i 0 → Ranked t (suc (r - 1)) b
    ranked_of q = subst (Ranked t (suc (r - 1))) (sym q) (ranked_get desk (cut_of t.dimension k) t (suc (r - 1)) (boundary t e) i within owner.bounds)

-- what is left, one step further: the element at place i is asked, and then those behind it
pub opened_at : (ask : ℕ → Step ElementAnswer) (bs : List ℕ) (i b : ℕ) (g : Gathered) (t : Table) → i < length bs → b ≡ get_or bs i 0
    → cut_boundary ask (drop i bs) g t ≡ next (ask b t) (λ a. cut_boundary ask (drop (i + 1) bs) (gathering b a g))
opened_at ask bs i b g t l q =
    ap (λ (m : List ℕ). cut_boundary ask m g t) (drop-cons bs i 0 l)
    ∙ ap₂ (λ (x j : ℕ). next (ask x t) (λ a. cut_boundary ask (drop j bs) (gathering x a g))) (sym q) (sym (add-one i))

pub round_most : {cs : List ℕ} {ps : List Float} {es ix ms : List ℕ} {s : Room} {r e : ℕ} {k : Cutter} → RoundReady cs ps es ix ms s r e k → (n : ℕ) → n ≡ get_or es (e * 36 + 3) 0 → n ≤ 32
round_most R n h = size_most R.more R.ready.fit n h

-- one more is known
known_more : {ms ms' bs : List ℕ} {i b : ℕ} → KnownTo ms bs i → KnownStill ms ms' → b ≡ get_or bs i 0 → known_at ms' b ≡ true → KnownTo ms' bs (i + 1)
known_more {ms} {ms'} {bs} {i} {b} A S q h = record { of = λ j l. go j l (eqb j i) refl }
  where
    go : (j : ℕ) → j < i + 1 → (c : Bool) → eqb j i ≡ c → known_at ms' (get_or bs j 0) ≡ true
    go j l true p = ap (λ (m : ℕ). known_at ms' (get_or bs m 0)) (eq_test j i p) ∙ ap (known_at ms') (sym q) ∙ h
    go j l false p = S.of (get_or bs j 0) (A.of j (let other : j ≡ i → ⊥ = λ m. true≢false (sym (test_eq j i m) ∙ p) in let z : j < i = omega (arith, l, other) in z))

-- ---- the round

module _ {r : ℕ} (more : 1 < r) {e : ℕ} {k : Cutter} {cs₀ : List ℕ} {ps₀ : List Float} {es₀ ms₀ : List ℕ} {v : Bool} where
  pub going_start : Going r more e k cs₀ ps₀ es₀ ms₀ v 0 cs₀ ps₀ es₀ ms₀ v
  going_start = record {
    of = λ hs t F K. record {
      table = t;
      gathered = nothing_yet;
      holds = F.holds;
      knows = K;
      good = good_of F;
      extends = extends_refl t;
      noted = sym (or_none v);
      known = record { of = λ j l. absurd (let z : ⊥ = omega (arith, l) in z) };
      rest = refl;
    };
  }

  module _ {i : ℕ} {cs : List ℕ} {ps : List Float} {es ms : List ℕ} {w : Bool} (G : Going r more e k cs₀ ps₀ es₀ ms₀ v i cs ps es ms w) (n : ℕ) (size : n ≡ get_or es₀ (e * 36 + 3) 0) where
    module _ {hs : List Float} {t : Table} (F : Fit cs₀ ps₀ hs es₀ r e k t) (K : Knows k ms₀ v t) where
      abbrev A : At r more e k hs t v i cs ps es ms w
      A = G.of hs t F K

      still_there : element A.table e ≡ element t e
      still_there = element_same t A.table e A.extends F.used

      -- the element may still be cut
      fit_now : Fit cs ps hs es r e k A.table
      fit_now = record {
        holds = A.holds;
        sound = good_sound desk A.table A.good;
        plane = le_trans F.plane (begins_length t.planes A.table.planes A.extends.planes);
        used = le_trans F.used (count_more A.extends);
        ranked = ap rank_of still_there ∙ F.ranked;
      }

      module _ (l : i < n) (b : ℕ) (read : b ≡ get_or es (e * 36 + (4 + i)) 0) where
        inside : i < length (boundary t e)
        inside = le_trans l (le_of_eq (size_is more F n size))

        size_now : length (boundary t e) ≡ get_or es (e * 36 + 3) 0
        size_now =
            sym (ap (λ (y : Element). length (boundary_of y)) still_there)
            ∙ sym (ap (λ (m : List ℕ). get_or m (e * 36 + 3) 0) A.holds.elements ∙ size_word_lem desk A.table A.holds.fits e fit_now.used ∙ size_bound (element A.table e) (r - 1) (fit_now.ranked ∙ er r more))

        number : b ≡ get_or (boundary t e) i 0
        number = number_of more fit_now (length (boundary t e)) size_now i inside read ∙ ap (λ (y : Element). get_or (boundary_of y) i 0) still_there

        ranked_now : Ranked A.table (suc (r - 1)) b
        ranked_now = ranked_later b A.extends (ranked_of more F n size i l number)

        -- the next one may be cut
        fit_next : Fit cs ps hs es (r - 1) b k A.table
        fit_next = record {
          holds = A.holds;
          sound = fit_now.sound;
          plane = fit_now.plane;
          used = ranked_now.0;
          ranked = (let q = ranked_now.1 in omega (arith, q));
        }

        -- once that element has answered so
        opened_by : {c : Outcome ElementAnswer} → ask r more e k t.dimension b A.table ≡ c
            → cut_boundary (ask r more e k t.dimension) (boundary t e) nothing_yet t
            ≡ next c (λ a. cut_boundary (ask r more e k t.dimension) (drop (i + 1) (boundary t e)) (gathering b a A.gathered))
        opened_by o =
            A.rest ∙ opened_at (ask r more e k t.dimension) (boundary t e) i b A.gathered A.table inside number
            ∙ ap (λ (c : Outcome ElementAnswer). next c (λ a. cut_boundary (ask r more e k t.dimension) (drop (i + 1) (boundary t e)) (gathering b a A.gathered))) o

    pub next_ready : {s₀ s : Room} {ix₀ ix : List ℕ} → v ≡ warning_in s₀ → w ≡ warning_in s → AskReady cs₀ ps₀ es₀ ix₀ ms₀ s₀ r e k → i < n → (b : ℕ) → b ≡ get_or es (e * 36 + (4 + i)) 0
        → Indexed es (get_or cs 1 0) ix → AskReady cs ps es ix ms s (r - 1) b k
    next_ready hv hw R l b read X =
        let K : Knows k ms₀ v R.table = subst (λ (x : Bool). Knows k ms₀ x R.table) (sym hv) R.knows in
        let N = A R.fit K in
        record {
          planes = R.planes;
          table = N.table;
          fit = fit_next R.fit K l b read;
          knows = subst (λ (x : Bool). Knows k ms x N.table) hw N.knows;
          indexed = X;
        }

    -- how asking element b ended, seen from the first table
    abbrev NextEnded : ℕ → Reply (Unit {0}) → List ℕ → List Float → List ℕ → List ℕ → Bool → {hs : List Float} {t : Table} → Fit cs₀ ps₀ hs es₀ r e k t → Knows k ms₀ v t → Type 0
    NextEnded b x cs' ps' es' ms' w' {hs} {t} F K =
        Ended (λ a. a.warning) (AnswerKept cs' ps' hs es' ms' w' b k) (Holds desk cs' ps' hs es') (A F K).table (ask r more e k t.dimension b (A F K).table) x w w'

    module _ (l : i < n) (b : ℕ) (read : b ≡ get_or es (e * 36 + (4 + i)) 0) {x : Reply (Unit {0})} {cs' : List ℕ} {ps' : List Float} {es' ms' : List ℕ} {w' : Bool} where
      module _ (C : (hs : List Float) (u : Table) → Fit cs ps hs es (r - 1) b k u → Knows k ms w u → ElementEnded cs' ps' hs es' ms' w' (r - 1) b k x w u) where
        next_one : {hs : List Float} {t : Table} (F : Fit cs₀ ps₀ hs es₀ r e k t) (K : Knows k ms₀ v t) → NextEnded b x cs' ps' es' ms' w' F K
        next_one {hs} {t} F K =
            subst (λ (d : ℕ). Ended (λ a. a.warning) (AnswerKept cs' ps' hs es' ms' w' b k) (Holds desk cs' ps' hs es') (A F K).table (cut_element desk (cut_of d k) (r - 1) b (A F K).table) x w w')
            (A F K).extends.dimension (C hs (A F K).table (fit_next F K l b read) (A F K).knows)

        pub round_refused : (y : Refusal) → x ≡ Err y → (hs : List Float) (t : Table) → Fit cs₀ ps₀ hs es₀ r e k t → Knows k ms₀ v t → BoundaryEnded cs' ps' hs es' ms' w' r e k (Err y) v t
        round_refused q z hs t F K = go (next_one F K)
          where
            go : NextEnded b x cs' ps' es' ms' w' F K → BoundaryEnded cs' ps' hs es' ms' w' r e k (Err q) v t
            go (went a u o d y H) = not_both (sym z ∙ d)
            go (stopped j u o d y H) = stopped j u (opened_by F K l b read o) (sym z ∙ d) (extends_trans (A F K).extends y) H

        kept : {hs : List Float} {t : Table} (F : Fit cs₀ ps₀ hs es₀ r e k t) (K : Knows k ms₀ v t) (a : ElementAnswer) (u : Table)
            → ask r more e k t.dimension b (A F K).table ≡ done a u → Kept desk (AnswerOf (r - 1)) (A F K).table a u
        kept {t = t} F K a u o =
            let f = fit_next F K l b read in
            subst (Stays desk (AnswerOf (r - 1)) (A F K).table) o (ask_stays r more e k t.dimension b (A F K).table (A F K).good f.plane f.used f.ranked)

        -- an answer
        pub going_on_lem : x ≡ Ok tt → KnownStill ms ms' → Going r more e k cs₀ ps₀ es₀ ms₀ v (i + 1) cs' ps' es' ms' w'
        going_on_lem q still = record { of = λ hs t F K. go hs t F K (next_one F K) }
          where
            go : (hs : List Float) (t : Table) (F : Fit cs₀ ps₀ hs es₀ r e k t) (K : Knows k ms₀ v t) → NextEnded b x cs' ps' es' ms' w' F K → At r more e k hs t v (i + 1) cs' ps' es' ms' w'
            go hs t F K (stopped j u o d y H) = not_both (sym d ∙ q)
            go hs t F K (went a u o d y H) =
                let N = A F K in
                let S = kept F K a u o in
                record {
                  table = u;
                  gathered = gathering b a N.gathered;
                  holds = H.holds;
                  knows = H.knows;
                  good = S.good;
                  extends = extends_trans N.extends S.extends;
                  noted =
                      y ∙ ap (λ (c : Bool). c || a.warning) N.noted ∙ or_shift v N.gathered.warning a.warning
                      ∙ ap (λ (c : Bool). v || c) (sym (gathering_warns b a N.gathered));
                  known = known_more N.known still (number F K l b read) H.known;
                  rest = opened_by F K l b read o;
                }

    pub round_done : n ≤ i → i ≤ n → (hs : List Float) (t : Table) → Fit cs₀ ps₀ hs es₀ r e k t → Knows k ms₀ v t → BoundaryEnded cs ps hs es ms w r e k (Ok tt) v t
    round_done h j hs t F K =
        let N = A F K in
        let q : i ≡ length (boundary t e) = (let m = size_is more F n size in omega (arith, m, h, j)) in
        let all_asked : drop i (boundary t e) ≡ [] = ap (λ (m : ℕ). drop m (boundary t e)) q ∙ drop-length (boundary t e) in
        went N.gathered N.table (N.rest ∙ ap (λ (m : List ℕ). cut_boundary (ask r more e k t.dimension) m N.gathered N.table) all_asked) refl N.noted
        (record { holds = N.holds; knows = N.knows; all = subst (KnownTo ms (boundary t e)) q N.known })

-- ---- an element of rank 2 or more

pub cut_higher_lem : (L : Limits) (c : Cutting) (r e : ℕ) (t : Table) → 1 < r
    → cut_element L c r e t ≡ next (cut_boundary (cut_element L c (r - 1)) (boundary t e) nothing_yet t) (λ g. rule6 L c (element t e) g g.flush)
unfolding cut_element cut_higher
cut_higher_lem L c zero e t h = absurd (let z : ⊥ = omega arith in z)
cut_higher_lem L c (suc zero) e t h = absurd (let z : ⊥ = omega arith in z)
cut_higher_lem L c (suc (suc q)) e t h =
    let z : suc q ≡ suc (suc q) - 1 = omega arith in
    ap (λ (m : ℕ). next (cut_boundary (cut_element L c m) (boundary t e) nothing_yet t) (λ g. rule6 L c (element t e) g g.flush)) z

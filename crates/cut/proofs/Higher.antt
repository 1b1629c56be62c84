-- An element of rank 2 or more. What is known of its boundary is what the rules gather when they ask it again, in the table as it is now: nothing is added.
-- And the rules gather the same when they ask it for the first time (the repeat of the rules), so the element's answer is that of the table before.
use Prim.Native.Nat.{ℕ, suc, ◌+◌, ◌-◌, ◌*◌, ◌≤◌, ◌<◌}
use mathlib.Core.Bool.{Bool, ◌||◌}
use mathlib.Core.Path.{◌≡◌, refl, sym, ap, ap₂, ◌∙◌, subst}
use mathlib.Core.List.{List, []}
use native.Mathlib.Nat.{le_trans}
use native.Mathlib.Omega.{arith}
use lib.ListN.{length, get_or, drop}
use lib.Seq.{drop-length}
use lib.Ieee.{Float}
use Rattle.rules.specs.Limits.{desk}
use Rattle.rules.specs.Table.{Element, Table, rank_of, boundary_of, rank, boundary, element}
use Rattle.rules.specs.Held.{Extends, Holds, Came, Sets, Ranked}
use Rattle.rules.specs.Cut.{Outcome, done, next, Cutting, Gathered, nothing_yet, gathering, gathering_output, rule6, cut_element, cut_boundary}
use Rattle.rules.specs.declared.ElementCutOutput.{ElementCutOutput}
use Rattle.rules.specs.declared.ElementAnswer.{ElementAnswer}
use Rattle.rules.specs.declared.Cutter.{Cutter}
use Rattle.rules.proofs.Corners.{good_fine}
use Rattle.rules.proofs.Extends.{extends_refl, extends_trans, element_same, count_more, begins_length}
use Rattle.rules.proofs.Fewer.{less_gathered, none_dropped}
use Rattle.rules.proofs.Fine.{GatheredIn, boundary_below}
use Rattle.rules.proofs.Good.{sound_good, good_sound}
use Rattle.rules.proofs.Later.{Later, Replays}
use Rattle.rules.proofs.Laws.{not_both, or_none, or_shift}
use Rattle.rules.proofs.Ranked.{sets_none}
use Rattle.rules.proofs.Repeat as repeat
use Rattle.rules.proofs.Stays.{Stays, Kept}
use Rattle.rules.proofs.StaysCut.{boundary_stays}
use Rattle.rules.proofs.Warned.{Done, Warns, gathering_warns, rule6_warns}
use Rattle.space.specs.Ready.{ElementReady}
use Rattle.space.proofs.Slices.{slices}
use Rattle.gathered.specs.Sets.{Gathers, Cleared, OutputInRoom, OutputGathered, warning_in}
use Rattle.gathered.specs.declared.sets.Room.{Room}
use Rattle.gathered.specs.Cutting.{cut_of, answered_by, Fit, Told, Rule6Fit, Rule6Ready, Rule6Done}
use Rattle.gathered.proofs.Steps.{told_by}
use Rattle.cut.specs.Known.{known_at, output_at, Repeats, KeepReady, ReplyKept, Knows, KnownTo}
use Rattle.cut.specs.Rounds.{AskReady, went, stopped, ElementEnded, ElementAsked, BoundaryEnded, BoundaryCut}
use Rattle.cut.specs.Higher.{HigherFit, GatherReady, Filled, KnownGathered, HigherReady, HigherAsked}
use Rattle.cut.proofs.StaysKnown.{asked_room, kept_ended, kept_still, reply_in_room, still_trans, noted_now}
use Rattle.cut.proofs.Rounds.{ask, ask_stays, ep, owner, size_is, size_most, within, number_of, ranked_of, opened_at, cut_higher_lem}
use Rattle.rules.specs.Refusals.{Reply}
use Rattle.std.specs.Prelude.{Err, Ok}
use Rattle.rules.specs.declared.Refusal.{Refusal}

-- ---- the boundary is gathered from what is known

-- how far: what the rules have gathered, what is left, and the cut's warning w has theirs
pub record FillingAt (w : Bool) (r : ℕ) (more : 1 < r) (e : ℕ) (k : Cutter) (t : Table) (i : ℕ) (s : Room) : Type 0 where
  pub gathered : Gathered
  pub rest : cut_boundary (ask r more e k t.dimension) (boundary t e) nothing_yet t ≡ cut_boundary (ask r more e k t.dimension) (drop i (boundary t e)) gathered t
  pub gathers : Gathers s gathered
  pub noted : (w || gathered.warning) ≡ w

pub record Filling (es ms : List ℕ) (e i : ℕ) (s : Room) : Type 0 where
  pub of : (w : Bool) (cs : List ℕ) (ps hs : List Float) (r : ℕ) (k : Cutter) (t : Table) (H : HigherFit cs ps hs es ms w r e k t) → FillingAt w r H.more e k t i s

module _ {es ms : List ℕ} {s : Room} {e : ℕ} (R : GatherReady es ms s e) where
  pub gather_row : ElementReady es e
  gather_row = record { elements = (slices R.fit.fit.holds).elements; room = le_trans R.fit.fit.used R.fit.fit.holds.fits.element_room }

  pub gather_most : (n : ℕ) → n ≡ get_or es (e * 36 + 3) 0 → n ≤ 32
  gather_most n h = size_most R.fit.more R.fit.fit n h

module _ {es ms : List ℕ} {e : ℕ} where
  pub filling_start : {s₀ s : Room} → Cleared s₀ s → Filling es ms e 0 s
  filling_start C = record { of = λ w cs ps hs r k t H. record { gathered = nothing_yet; rest = refl; gathers = C.nothing.of; noted = or_none w } }

  module _ (n : ℕ) (size : n ≡ get_or es (e * 36 + 3) 0) {i : ℕ} (l : i < n) (b : ℕ) (read : b ≡ get_or es (e * 36 + (4 + i)) 0) where
    module _ {w : Bool} {cs : List ℕ} {ps hs : List Float} {r : ℕ} {k : Cutter} {t : Table} (H : HigherFit cs ps hs es ms w r e k t) where
      number : b ≡ get_or (boundary t e) i 0
      number = number_of H.more H.fit n size i l read

      ranked : Ranked t (suc (r - 1)) b
      ranked = ranked_of H.more H.fit n size i l number

      pub known_low : b < 512
      known_low = le_trans ranked.0 H.fit.holds.fits.element_room

      repeats : Repeats k t (output_at ms b) w b
      repeats = H.knows.of b known_low (ap (known_at ms) number ∙ H.all.of i (within H.more H.fit n size i l))

      -- what is known of the element, with its own warning
      abbrev known : ElementAnswer
      known = record { output = output_at ms b; warning = repeats.warning }

      -- what it names is within the room
      pub known_room : (a : ElementCutOutput) → a ≡ output_at ms b → OutputInRoom a
      known_room a told = subst OutputInRoom (sym told) (asked_room k b known (sound_good desk t H.fit.sound) ranked.0 repeats.again H.fit.holds.fits.element_room)

      again : ask r H.more e k t.dimension b t ≡ done known t
      again = ap (λ (m : ℕ). cut_element desk (cut_of t.dimension k) m b t) (let q = ranked.1 in let z : r - 1 ≡ rank t b = omega (arith, q) in z) ∙ repeats.again

    pub filling_on : {s s' : Room} → Filling es ms e i s → (a : ElementCutOutput) → a ≡ output_at ms b → OutputGathered s b a s' → Filling es ms e (i + 1) s'
    filling_on {s} {s'} G a told D = record { of = λ w cs ps hs r k t H. go H (G.of w cs ps hs r k t H) }
      where
        go : {w : Bool} {cs : List ℕ} {ps hs : List Float} {r : ℕ} {k : Cutter} {t : Table} (H : HigherFit cs ps hs es ms w r e k t) → FillingAt w r H.more e k t i s
            → FillingAt w r H.more e k t (i + 1) s'
        go {w} {r = r} {k} {t} H A = record {
          gathered = gathering b (known H) A.gathered;
          rest = A.rest ∙ opened_at (ask r H.more e k t.dimension) (boundary t e) i b A.gathered t (within H.more H.fit n size i l) (number H)
              ∙ ap (λ (c : Outcome ElementAnswer). next c (λ x. cut_boundary (ask r H.more e k t.dimension) (drop (i + 1) (boundary t e)) (gathering b x A.gathered))) (again H);
          gathers = subst (λ (x : ElementCutOutput). Gathers s' (gathering_output b x (A.gathered.warning || (repeats H).warning) A.gathered)) told
              (D.of A.gathered (A.gathered.warning || (repeats H).warning) A.gathers);
          noted =
              ap (λ (c : Bool). w || c) (gathering_warns b (known H) A.gathered) ∙ sym (or_shift w A.gathered.warning (repeats H).warning)
              ∙ ap (λ (c : Bool). c || (repeats H).warning) A.noted ∙ (repeats H).noted;
        }

  -- all of it
  pub filled : (n : ℕ) → n ≡ get_or es (e * 36 + 3) 0 → {i : ℕ} {s : Room} → n ≤ i → i ≤ n → Filling es ms e i s
      → (w : Bool) (cs : List ℕ) (ps hs : List Float) (r : ℕ) (k : Cutter) (t : Table) → HigherFit cs ps hs es ms w r e k t → Filled w r e k t s
  filled n size {i} h j G w cs ps hs r k t H =
      let A = G.of w cs ps hs r k t H in
      let q : i ≡ length (boundary t e) = (let m = size_is H.more H.fit n size in omega (arith, m, h, j)) in
      let none_left : drop i (boundary t e) ≡ [] = ap (λ (m : ℕ). drop m (boundary t e)) q ∙ drop-length (boundary t e) in
      record {
        gathered = A.gathered;
        asked = A.rest ∙ ap (λ (m : List ℕ). cut_boundary (ask r H.more e k t.dimension) m A.gathered t) none_left;
        gathers = A.gathers;
        noted = A.noted;
      }

-- ---- its answer, from what was gathered

-- what asking the boundary gives
abbrev asked_all : Cutter → ℕ → ℕ → Table → Outcome Gathered
asked_all k r e t = cut_boundary (cut_element desk (cut_of t.dimension k) (r - 1)) (boundary t e) nothing_yet t

-- the cut of the element once it gave that
higher_by : (k : Cutter) (r e : ℕ) (t : Table) {c : Outcome Gathered} → 1 < r → asked_all k r e t ≡ c
    → cut_element desk (cut_of t.dimension k) r e t ≡ next c (λ g. rule6 desk (cut_of t.dimension k) (element t e) g g.flush)
higher_by k r e t more o =
    cut_higher_lem desk (cut_of t.dimension k) r e t more ∙ ap (λ (c : Outcome Gathered). next c (λ g. rule6 desk (cut_of t.dimension k) (element t e) g g.flush)) o

rule6_warning : (c : Cutting) (y : Element) (g : Gathered) (u : Table) {a : ElementAnswer} {v : Table} → rule6 desk c y g g.flush u ≡ done a v → a.warning ≡ g.warning
rule6_warning c y g u o = subst (Done (Warns g.warning)) o (rule6_warns desk c y g g.flush u)

-- what was gathered is of elements in use
boundary_kept : {cs : List ℕ} {ps hs : List Float} {es : List ℕ} {r e : ℕ} {k : Cutter} {t : Table} → 1 < r → Fit cs ps hs es r e k t → (g : Gathered) (u : Table) → asked_all k r e t ≡ done g u
    → Kept desk (Sets (r - 1)) t g u
boundary_kept {r = r} {e} {k} {t} more F g u o =
    let c = cut_of t.dimension k in
    subst (Stays desk (Sets (r - 1)) t) o
    (boundary_stays desk c (r - 1) (cut_element desk c (r - 1)) (λ b v good n l z. ask_stays r more e k t.dimension b v good n l z) (boundary t e) nothing_yet t
    (sound_good desk t F.sound) F.plane (owner more F).bounds (sets_none (r - 1) t))

pub higher_gathers : {cs es ix ms : List ℕ} {s : Room} {r e : ℕ} {k : Cutter} → HigherReady cs es ix ms s r e k → GatherReady es ms s e
higher_gathers {cs} {r = r} {k = k} R =
    record { counts = cs; points = R.points; planes = R.planes; rank = r; cutter = k; table = R.table; fit = R.fit }

module _ {cs es ms : List ℕ} {s s₁ : Room} {r e : ℕ} {k : Cutter} (G : KnownGathered es ms s e s₁) where
  module _ {ps hs : List Float} {t : Table} (H : HigherFit cs ps hs es ms (warning_in s) r e k t) where
    abbrev all : Filled (warning_in s) r e k t s₁
    all = G.of cs ps hs r k t H

    rule6_fit : Rule6Fit cs ps hs es r e k s₁ t all.gathered
    rule6_fit = record {
      fit = H.fit;
      some = (let more = H.more in let z : 1 ≤ r = omega (arith, more) in z);
      gathers = all.gathers;
      sized = G.sized;
      sets = (boundary_kept H.more H.fit all.gathered t all.asked).value;
    }

  pub rule6_ready : {ix : List ℕ} → HigherReady cs es ix ms s r e k → Rule6Ready cs es ix r e k s₁
  rule6_ready R = record { points = R.points; planes = R.planes; table = R.table; gathered = (all R.fit).gathered; fit = rule6_fit R.fit; indexed = R.indexed }

  module _ {x : Reply ElementCutOutput} {cs' es' ix' : List ℕ} {s₂ : Room} (D : Rule6Done cs es r e k s₁ x cs' es' ix' s₂) where
    told : {ps hs : List Float} {t : Table} → HigherFit cs ps hs es ms (warning_in s) r e k t
        → Told (Holds desk cs' ps hs es') t (cut_element desk (cut_of t.dimension k) r e t) x (warning_in s) (warning_in s₂)
    told {ps} {hs} {t} H =
        let F = all H in
        let whole = higher_by k r e t H.more F.asked in
        told_by (λ a u o.
        D.used.warning ∙ G.warning ∙ sym F.noted
        ∙ ap (λ (b : Bool). warning_in s || b) (sym (rule6_warning (cut_of t.dimension k) (element t e) F.gathered t (sym whole ∙ o))))
        (subst (λ (o : Outcome ElementAnswer). Came answered_by Err (Holds desk cs' ps hs es') t o x) (sym whole) (D.of ps hs t F.gathered (rule6_fit H)))

    pub higher_keep : {ix : List ℕ} → HigherReady cs es ix ms s r e k → KeepReady e x
    higher_keep R = record { low = le_trans R.fit.fit.used R.fit.fit.holds.fits.element_room; room = reply_in_room R.fit.fit (told R.fit) }

    pub higher_asked : {ix : List ℕ} → HigherReady cs es ix ms s r e k → {y : Reply (Unit {0})} {ms' : List ℕ} → ReplyKept ms e x y ms' → HigherAsked cs es ms s r e k y cs' es' ix' ms' s₂
    higher_asked R N = record {
      of = λ ps hs t H. kept_ended H.fit (told H) H.knows N;
      indexed = D.indexed;
      still = kept_still R.fit.fit R.fit.knows N;
    }

-- ---- first the boundary, then the element

-- the boundary asked again gives the same, and adds nothing
boundary_again : {cs : List ℕ} {ps hs : List Float} {es : List ℕ} {r e : ℕ} {k : Cutter} {t : Table} → 1 < r → Fit cs ps hs es r e k t → (g : Gathered) (u : Table) → asked_all k r e t ≡ done g u
    → cut_boundary (cut_element desk (cut_of t.dimension k) (r - 1)) (boundary t e) nothing_yet u ≡ done g u
boundary_again {r = r} {e} {k} {t} more F g u o =
    let c = cut_of t.dimension k in
    let fine = good_fine desk t (sound_good desk t F.sound) in
    let again : (m : ℕ) → r - 1 ≡ suc m → Later (less_gathered none_dropped) GatheredIn t (cut_boundary (cut_element desk c (r - 1)) (boundary t e) nothing_yet) (asked_all k r e t) =
    λ m q.
    subst (λ (n : ℕ). Later (less_gathered none_dropped) GatheredIn t (cut_boundary (cut_element desk c n) (boundary t e) nothing_yet) (cut_boundary (cut_element desk c n) (boundary t e) nothing_yet t)) (sym q)
    (repeat.cut_boundary_lem none_dropped (cut_element desk c (suc m)) (cut_element desk c (suc m)) (λ b v f l. repeat.cut_element_lem desk c none_dropped m b v f l) (boundary t e) nothing_yet t fine
    (boundary_below t e fine F.used) (record { flush = tt; inside = tt; outside = tt; intersections = tt })) in
    let R : Replays (less_gathered none_dropped) GatheredIn t (cut_boundary (cut_element desk c (r - 1)) (boundary t e) nothing_yet) g u =
    subst (Later (less_gathered none_dropped) GatheredIn t (cut_boundary (cut_element desk c (r - 1)) (boundary t e) nothing_yet)) o (again (r - 2) (ep r more)) in
    R.replay u (extends_refl u)

module _ {cs : List ℕ} {ps : List Float} {es ms : List ℕ} {s : Room} {r e : ℕ} {k : Cutter} {y : Reply (Unit {0})} {cs' : List ℕ} {ps' : List Float} {es' ix' ms' : List ℕ} {s' : Room}
    (more : 1 < r) (B : BoundaryCut cs ps es ms s r e k y cs' ps' es' ix' ms' s') where
  pub element_refused : (x : Refusal) → y ≡ Err x → ElementAsked cs ps es ms s r e k (Err x) cs' ps' es' ix' ms' s'
  element_refused x q = record { of = λ hs t F K. go hs t (B.of hs t F K); indexed = B.indexed; still = B.still }
    where
      go : (hs : List Float) (t : Table) → BoundaryEnded cs' ps' hs es' ms' (warning_in s') r e k y (warning_in s) t → ElementEnded cs' ps' hs es' ms' (warning_in s') r e k (Err x) (warning_in s) t
      go hs t (went g u o d w H) = not_both (sym q ∙ d)
      go hs t (stopped j u o d z H) = stopped j u (higher_by k r e t more o) (sym q ∙ d) z H

  module _ (q : y ≡ Ok tt) where
    -- where the round ended
    record End (hs : List Float) (t : Table) : Type 0 where
      pub table : Table
      pub gathered : Gathered
      pub ended : asked_all k r e t ≡ done gathered table
      pub extends : Extends t table
      pub ready : HigherFit cs' ps' hs es' ms' (warning_in s') r e k table
      pub noted : warning_in s' ≡ (warning_in s || gathered.warning)

    end : (hs : List Float) (t : Table) → Fit cs ps hs es r e k t → Knows k ms (warning_in s) t → End hs t
    end hs t F K = go (B.of hs t F K)
      where
        go : BoundaryEnded cs' ps' hs es' ms' (warning_in s') r e k y (warning_in s) t → End hs t
        go (stopped j u o d x H) = not_both (sym d ∙ q)
        go (went g u o d w H) =
            let S = boundary_kept more F g u o in
            let same = element_same t u e S.extends F.used in
            record {
              table = u;
              gathered = g;
              ended = o;
              extends = S.extends;
              ready = record {
                fit = record {
                  holds = H.holds;
                  sound = good_sound desk u S.good;
                  plane = le_trans F.plane (begins_length t.planes u.planes S.extends.planes);
                  used = le_trans F.used (count_more S.extends);
                  ranked = ap rank_of same ∙ F.ranked;
                };
                more = more;
                knows = H.knows;
                all = subst (λ (z : Element). KnownTo ms' (boundary_of z) (length (boundary_of z))) (sym same) H.all;
              };
              noted = w;
            }

    module _ (hs : List Float) (t : Table) (F : Fit cs ps hs es r e k t) (K : Knows k ms (warning_in s) t) where
      abbrev E : End hs t
      E = end hs t F K

      -- the cut of the element from the table before is rule 6 of what was gathered
      whole : cut_element desk (cut_of t.dimension k) r e t ≡ rule6 desk (cut_of t.dimension k) (element t e) E.gathered E.gathered.flush E.table
      whole = higher_by k r e t more E.ended

      -- and so is that from the table now
      same_cut : cut_element desk (cut_of t.dimension k) r e t ≡ cut_element desk (cut_of E.table.dimension k) r e E.table
      same_cut =
          let d = E.extends.dimension in
          let z = element_same t E.table e E.extends F.used in
          whole
          ∙ ap₂ (λ (n : ℕ) (v : Element). rule6 desk (cut_of n k) v E.gathered E.gathered.flush E.table) (sym d) (sym z)
          ∙ sym (higher_by k r e E.table more
          (ap₂ (λ (n : ℕ) (v : Element). cut_boundary (cut_element desk (cut_of n k) (r - 1)) (boundary_of v) nothing_yet E.table) d z ∙ boundary_again more F E.gathered E.table E.ended))

    pub higher_ready : {ix : List ℕ} → AskReady cs ps es ix ms s r e k → HigherReady cs' es' ix' ms' s' r e k
    higher_ready R =
        let M = E R.planes R.table R.fit R.knows in
        record { points = ps'; planes = R.planes; table = M.table; fit = M.ready; indexed = B.indexed }

    pub element_answered : {x : Reply (Unit {0})} {cs'' es'' ix'' ms'' : List ℕ} {s'' : Room} → HigherAsked cs' es' ms' s' r e k x cs'' es'' ix'' ms'' s'' → ElementAsked cs ps es ms s r e k x cs'' ps' es'' ix'' ms'' s''
    element_answered {x} {cs''} {es''} {ix''} {ms''} {s''} D = record {
      of = λ hs t F K. go hs t F K (D.of ps' hs (E hs t F K).table (E hs t F K).ready);
      indexed = D.indexed;
      still = still_trans B.still D.still;
    }
      where
        go : (hs : List Float) (t : Table) (F : Fit cs ps hs es r e k t) (K : Knows k ms (warning_in s) t)
            → ElementEnded cs'' ps' hs es'' ms'' (warning_in s'') r e k x (warning_in s') (E hs t F K).table → ElementEnded cs'' ps' hs es'' ms'' (warning_in s'') r e k x (warning_in s) t
        go hs t F K (stopped j u o d v H) = stopped j u (same_cut hs t F K ∙ o) d (extends_trans (E hs t F K).extends v) H
        go hs t F K (went a u o d w H) =
            let M = E hs t F K in
            let first : cut_element desk (cut_of t.dimension k) r e t ≡ done a u = same_cut hs t F K ∙ o in
            let warns : a.warning ≡ M.gathered.warning = rule6_warning (cut_of t.dimension k) (element t e) M.gathered M.table (sym (whole hs t F K) ∙ first) in
            went a u first d
            (w ∙ ap (λ (b : Bool). b || a.warning) (M.noted ∙ ap (λ (b : Bool). warning_in s || b) (sym warns)) ∙ noted_now (warning_in s) a.warning) H

-- Every line of a turn has room in 64 bytes: the numbers of a sound memory of the desk, and of a refusal, have five digits at most.
use Prim.Native.Nat.{ℕ, suc, ◌*◌, ◌≤◌, ◌<◌, zero-le}
use mathlib.Core.Bool.{true}
use mathlib.Core.List.{List, [], ◌∷◌, ◌++◌}
use mathlib.Core.Path.{◌≡◌, refl, subst}
use native.Mathlib.Omega.{arith}
use lib.Dec.{ltb, lit≤}
use lib.ListN.{length, get_or, length-append}
use lib.Ieee.{Float}
use Rattle.rules.specs.Limits.{desk, Readable}
use Rattle.rules.specs.Lists.{all, member}
use Rattle.rules.specs.Table.{element_count}
use Rattle.rules.specs.Memory.{Memory, encode, decode, sound_memory}
use Rattle.rules.specs.Replies.{cube_reply, cut_reply}
use Rattle.rules.specs.Bytes.{decimal}
use Rattle.rules.specs.Session.{spaced, place, text, cube_line, refused_line, output_text, cut_text, table_counts}
use Rattle.rules.specs.Held.{AllOf}
use Rattle.rules.specs.Promises.{OneBelow, NamesBelow}
use Rattle.rules.specs.declared.CutParams.{CutParams}
use Rattle.rules.specs.declared.ElementCutOutput.{ElementCutOutput}
use Rattle.rules.specs.declared.ElementCutOutput.TheVariants.{Flush, NonFlush}
use Rattle.rules.proofs.FaceEdges.{of_all}
use Rattle.rules.proofs.Good.{sound_good}
use Rattle.rules.proofs.Laws.{le_test}
use Rattle.rules.proofs.OneCall.{sound_table, memory_sound, names_in_use}
use Rattle.rules.proofs.Promises.{desk_keeps}
use Rattle.rules.proofs.RoundTrip.{memory_back}
use Rattle.lent_bytes.proofs.Decimals.{five_digits}
use Rattle.session.specs.Written.{line_room}
use Rattle.rules.specs.Refusals.{Reply, reply_number, refusal_number}
use Rattle.rules.specs.declared.ElementAnswer.{ElementAnswer}
use Rattle.rules.specs.declared.ElementId.{ElementId}
use Rattle.std.specs.Prelude.{Option, Some, None, Err, Ok}

-- ---- numbers below 65,536

abbrev Low : ℕ → Type 0
Low n = n < 0x10000

-- one of some numbers that are low
low_in : (ns : List ℕ) (n : ℕ) → all (λ k. ltb k 0x10000) ns ≡ true → member n ns ≡ true → Low n
low_in ns n h m = le_test (suc n) 0x10000 (of_all (λ k. ltb k 0x10000) ns n h m)

spaced_short : (ns : List ℕ) → AllOf Low ns → length (spaced ns) ≤ 6 * length ns
spaced_short [] h = zero-le
spaced_short (n ∷ ns) h =
    let d = five_digits n h.0 in
    let r = spaced_short ns h.1 in
    let a = length-append (32 ∷ decimal n) (spaced ns) in
    omega (arith, d, r, a)

place_short : (e : Option ElementId) → OneBelow 512 e → length (place e) ≤ 6
place_short None h = lit≤ tt
place_short (Some e) h = let d = five_digits e.0 (let q : e.0 < 0x10000 = omega (arith, h) in q) in omega (arith, d)

-- ---- lines

-- a word of up to seven letters, numbers that take up to 36 bytes, and a line feed
in_line : (word middle : List ℕ) → length word ≤ 7 → length middle ≤ 36 → length (word ++ middle ++ 10 ∷ []) ≤ line_room
in_line word middle w l = let a = length-append word middle in let b = length-append (word ++ middle) (10 ∷ []) in omega (arith, a, b, w, l)

pub refused_short : (n : ℕ) → Low n → length (text (refused_line n)) ≤ line_room
refused_short n h = let s = spaced_short (n ∷ []) (h, tt) in in_line (114 ∷ 101 ∷ 102 ∷ 117 ∷ 115 ∷ 101 ∷ 100 ∷ []) (spaced (n ∷ [])) (lit≤ tt) (omega (arith, s))

-- ---- a sound memory

record Counts (ns : List ℕ) : Type 0 where
  low : AllOf Low ns
  three : length ns ≡ 3

counts_low : (m : Memory) → sound_memory desk m ≡ true → Counts (table_counts m)
counts_low m s = subst (λ (x : Memory). Counts (table_counts x)) (memory_back desk m s) written
  where
    written : Counts (table_counts (encode desk (decode desk m)))
    written = unfold encode in (
        let g = sound_good desk (decode desk m) (sound_table desk m s) in
        let a = le_test (element_count (decode desk m)) 512 g.element_room in
        let b = le_test (length (decode desk m).points) 256 g.vertex_room in
        let c = le_test (length (decode desk m).planes) 64 g.plane_room in
        record { low = (omega (arith, a), (omega (arith, b), (omega (arith, c), tt))); three = refl })

elements_low : (m : Memory) → sound_memory desk m ≡ true → get_or m.counts 1 0 ≤ 512
elements_low m s = subst (λ (x : Memory). get_or x.counts 1 0 ≤ 512) (memory_back desk m s) written
  where
    written : get_or (encode desk (decode desk m)).counts 1 0 ≤ 512
    written = unfold encode in le_test (element_count (decode desk m)) 512 (sound_good desk (decode desk m) (sound_table desk m s)).element_room

counts_short : (m : Memory) → sound_memory desk m ≡ true → length (spaced (table_counts m)) ≤ 18
counts_short m s = let c = counts_low m s in let l = spaced_short (table_counts m) c.low in let t = c.three in omega (arith, l, t)

-- ---- the line of a cube, and of a cut

module _ (d : ℕ) (radius : Float) (m : Memory) where
  pub cube_short : reply_number (cube_reply desk d radius m).0 ≡ 0 → length (text (cube_line (table_counts (cube_reply desk d radius m).1))) ≤ line_room
  cube_short z =
      let s = counts_short (cube_reply desk d radius m).1 (desk_keeps.cube_is_sound d radius m z) in
      in_line (99 ∷ 117 ∷ 98 ∷ 101 ∷ []) (spaced (table_counts (cube_reply desk d radius m).1)) (lit≤ tt) (omega (arith, s))

  pub cube_refused_short : length (text (refused_line (reply_number (cube_reply desk d radius m).0))) ≤ line_room
  cube_refused_short = refused_short (reply_number (cube_reply desk d radius m).0) (low_in (0 ∷ 1 ∷ 2 ∷ 3 ∷ []) (reply_number (cube_reply desk d radius m).0) refl (desk_keeps.cube_numbers d radius m))

desk_reads : Readable desk
desk_reads = record { planes = lit≤ tt; boundary = lit≤ tt }

module _ (p : CutParams) (root : ℕ) (m : Memory) where
  pub cut_short : length (text (cut_text (cut_reply desk p root m).0 (table_counts (cut_reply desk p root m).1))) ≤ line_room
  cut_short = go (cut_reply desk p root m).0 (cut_reply desk p root m).1 refl
    where
      one_low : (n : ℕ) (e : Option ElementId) → n ≤ 512 → OneBelow n e → OneBelow 512 e
      one_low n None l b = tt
      one_low n (Some e) l b = omega (arith, l, b)

      answer_short : (a : ElementCutOutput) (m' : Memory) → sound_memory desk m' ≡ true → NamesBelow (get_or m'.counts 1 0) a
          → length (text (output_text a (table_counts m'))) ≤ line_room
      answer_short Flush m' s b = let l = counts_short m' s in in_line (102 ∷ 108 ∷ 117 ∷ 115 ∷ 104 ∷ []) (spaced (table_counts m')) (lit≤ tt) (omega (arith, l))
      answer_short (NonFlush x y z) m' s b =
          let k = elements_low m' s in
          let l = counts_short m' s in
          let px = place_short x (one_low (get_or m'.counts 1 0) x k b.0) in
          let q = place_short y (one_low (get_or m'.counts 1 0) y k b.1) in
          let r = place_short z (one_low (get_or m'.counts 1 0) z k b.2) in
          let word : List ℕ = 99 ∷ 117 ∷ 116 ∷ [] in
          let e₁ = length-append word (place x) in
          let e₂ = length-append (word ++ place x) (place y) in
          let e₃ = length-append (word ++ place x ++ place y) (place z) in
          let e₄ = length-append (word ++ place x ++ place y ++ place z) (spaced (table_counts m')) in
          let e₅ = length-append (word ++ place x ++ place y ++ place z ++ spaced (table_counts m')) (10 ∷ []) in
          omega (arith, l, px, q, r, e₁, e₂, e₃, e₄, e₅)

      go : (r : Reply ElementAnswer) (m' : Memory) → cut_reply desk p root m ≡ (r, m') → length (text (cut_text r (table_counts m'))) ≤ line_room
      go (Err n) m' e =
          refused_short (refusal_number n) (low_in (0 ∷ 3 ∷ 4 ∷ 5 ∷ 7 ∷ 8 ∷ 9 ∷ 10 ∷ 11 ∷ []) (refusal_number n) refl
          (subst (λ (x : Reply ElementAnswer × Memory). member (reply_number x.0) (0 ∷ 3 ∷ 4 ∷ 5 ∷ 7 ∷ 8 ∷ 9 ∷ 10 ∷ 11 ∷ []) ≡ true) e (desk_keeps.cut_numbers p root m).number))
      go (Ok a) m' e =
          answer_short a.output m' (memory_sound desk desk_reads p root m a m' e) (names_in_use desk desk_reads p root m a m' e)

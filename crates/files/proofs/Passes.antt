-- What a pass over a record tells, by what was tested of it: too short, another mark, a head that does not fit, or it ends behind its bytes.
-- And over many: each begins where the one before it ends, up to the first that breaks.
use Rattle.std.specs.Prelude.{if◌then◌else◌, Option, Some, None, MatchOption}
use Prim.Native.Nat.{ℕ, zero, suc, ◌+◌, ◌*◌, ◌≤◌, ◌<◌}
use mathlib.Core.Bool.{true, false}
use mathlib.Core.List.{List, [], ◌∷◌}
use mathlib.Core.Path.{◌≡◌, refl, sym, ap, subst, ◌∙◌}
use native.Mathlib.Omega.{arith}
use lib.ListN.{length, drop, length-drop}
use lib.Seq.{drop-drop}
use Rattle.rules.specs.Bytes.{number_at}
use Rattle.rules.specs.Table.{Element}
use Rattle.rules.specs.Memory.{read_element}
use Rattle.rules.specs.Files.{Reading, broken, got, and_then, after_mark, many, number, float, point_in, plane_after, plane_in, element_fits, element_after, element_in}
use Rattle.rules.proofs.ByteLaws.{and_then_lem}
use Rattle.rules.proofs.Laws.{if_true, if_false}
use Rattle.files.specs.Runs.{Read}
use Rattle.files.specs.Passed.{begins, Ends, breaks, ends, Repeats, Together, AllEnd, all_break, all_end}
use Rattle.files.proofs.Runs.{broken_then, run_within, run_many}
use Rattle.files.proofs.Sizes.{Wants, Takes, then_wants, first_wants, number_takes, floats_take, numbers_take, plane_takes, then_number, not_begun, begun_within, begun}

-- ---- what was told of one record after another, and of all of them

module _ {A : Type 0} (f : List ℕ → Reading A) (bs : List ℕ) where
  together_none : (at : ℕ) → at ≤ length bs → Together f bs at 0 at
  together_none at h = record { list = []; counted = refl; run = (refl, h) }

  together_more : (n at mid end : ℕ) (x : A) → Read f bs at x mid → Together f bs mid n end → Together f bs at (suc n) end
  together_more n at mid end x r t = record { list = x ∷ t.list; counted = ap suc t.counted; run = (mid, r, t.run) }

  pub together_within : (at n end : ℕ) → Together f bs at n end → end ≤ length bs
  together_within at n end t = run_within f bs at t.list end t.run

  pub together_reads : (at n end : ℕ) (t : Together f bs at n end) → many n f (drop at bs) ≡ got t.list (drop end bs)
  together_reads at n end t = ap (λ (k : ℕ). many k f (drop at bs)) (sym t.counted) ∙ run_many f bs at t.list end t.run

  pub one_broken : (at : ℕ) → Ends f bs at None → f (drop at bs) ≡ broken
  one_broken at (breaks h e) = h
  one_broken at (ends x end r e) = cc

  -- one more in front of those that were told
  one_more : (n at mid : ℕ) (x : A) (p : Option ℕ) → Read f bs at x mid → AllEnd f bs mid n p → AllEnd f bs at (suc n) p
  one_more n at mid x p r (all_break h e) = all_break (and_then_lem (f (drop at bs)) _ x (drop mid bs) r.says ∙ broken_then (many n f (drop mid bs)) _ h) e
  one_more n at mid x p r (all_end end t e) = all_end end (together_more n at mid end x r t) e

  module _ (step : ℕ → Option ℕ → Type 0) (tells : (at : ℕ) (p : Option ℕ) → at ≤ length bs → step at p → Ends f bs at p) where
    repeated : (n at : ℕ) (p : Option ℕ) → at ≤ length bs → Repeats step at n p → AllEnd f bs at n p
    repeated zero at p w h = all_end at (together_none at w) h
    repeated (suc n) at p w (q, s, r) = go (tells at q w s) (λ end k. repeated n end p k)
      where
        go : Ends f bs at q → ((end : ℕ) → end ≤ length bs → Repeats step end n p → AllEnd f bs end n p) → AllEnd f bs at (suc n) p
        go (breaks h e) others = all_break (broken_then (f (drop at bs)) _ h) (subst (λ (o : Option ℕ). MatchOption o (p ≡ None) (λ end. Repeats step end n p)) e r)
        go (ends x end d e) others =
            one_more n at end x p d (others end d.within (subst (λ (o : Option ℕ). MatchOption o (p ≡ None) (λ end. Repeats step end n p)) e r))

    -- they break, or they stand together
    pub stopped : (n at : ℕ) → at ≤ length bs → Repeats step at n None → many n f (drop at bs) ≡ broken
    stopped n at w r = go (repeated n at None w r)
      where
        go : AllEnd f bs at n None → many n f (drop at bs) ≡ broken
        go (all_break h e) = h
        go (all_end end t e) = cc

    pub ran : (n at end : ℕ) → at ≤ length bs → Repeats step at n (Some end) → Together f bs at n end
    ran n at end w r = go (repeated n at (Some end) w r)
      where
        go : AllEnd f bs at n (Some end) → Together f bs at n end
        go (all_break h e) = cc
        go (all_end last t e) = let z : last ≡ end = cc in subst (λ (i : ℕ). Together f bs at n i) z t

-- ---- a record of a known size

module _ (bs : List ℕ) (at : ℕ) {A : Type 0} (a b k : ℕ) (f : List ℕ → Reading A) where
  pub ends_not : Wants k f → begins a b k (drop at bs) ≡ false → Ends (after_mark a b f) bs at None
  ends_not w h = breaks (not_begun a b k f (drop at bs) w h) refl

  pub ends_sized : Takes k f → begins a b k (drop at bs) ≡ true → Ends (after_mark a b f) bs at (Some (at + 2 + k))
  ends_sized t h =
      let w = begun_within a b k bs at h in
      ends (t.value (drop (at + 2) bs)) (at + 2 + k)
      (record {
        says =
            begun a b k f bs at h
            ∙ t.there (drop (at + 2) bs) (let l = length-drop (at + 2) bs in omega (arith, l, w))
            ∙ ap (got (t.value (drop (at + 2) bs))) (drop-drop k (at + 2) bs);
        within = w;
      })
      refl

module _ (bs : List ℕ) (at d : ℕ) where
  pub no_point : begins 0x56 0x58 (8 * d) (drop at bs) ≡ false → Ends (point_in d) bs at None
  unfolding point_in
  no_point h = ends_not bs at 0x56 0x58 (8 * d) (many d float) (floats_take d).wants h

  pub point_ends : begins 0x56 0x58 (8 * d) (drop at bs) ≡ true → Ends (point_in d) bs at (Some (at + 2 + 8 * d))
  unfolding point_in
  point_ends h = ends_sized bs at 0x56 0x58 (8 * d) (many d float) (floats_take d) h

  pub no_plane_lem : begins 0x48 0x50 (8 * d + 8) (drop at bs) ≡ false → Ends (plane_in d) bs at None
  unfolding plane_in
  no_plane_lem h = ends_not bs at 0x48 0x50 (8 * d + 8) (plane_after d) (plane_takes d).wants h

  pub plane_ends : begins 0x48 0x50 (8 * d + 8) (drop at bs) ≡ true → Ends (plane_in d) bs at (Some (at + 2 + (8 * d + 8)))
  unfolding plane_in
  plane_ends h = ends_sized bs at 0x48 0x50 (8 * d + 8) (plane_after d) (plane_takes d) h

-- ---- an element's record

-- rank, mark, hyperplane and count are there
pub element_wants : Wants 6 element_after
element_wants =
    then_wants 1 5 _ (number_takes 1) (λ r. then_wants 1 4 _ (number_takes 1) (λ m. then_wants 2 2 _ (number_takes 2) (λ h. first_wants 2 _ (number_takes 2))))

module _ (bs : List ℕ) (at : ℕ) where
  pub no_element : begins 0x45 0x4C 6 (drop at bs) ≡ false → Ends element_in bs at None
  unfolding element_in
  no_element h = ends_not bs at 0x45 0x4C 6 element_after element_wants h

  -- its boundary, and what is made of it
  abbrev pub boundary_part : ℕ → ℕ → ℕ → ℕ → Reading Element
  boundary_part r m h c = and_then (many c (number 2) (drop (at + 8) bs)) (λ b b₅. if element_fits r m h c then got (read_element (r ∷ m ∷ h ∷ c ∷ b)) b₅ else broken)

  -- what was read of its head
  pub record Head (r m h c : ℕ) : Type 0 where
    pub begun : begins 0x45 0x4C 6 (drop at bs) ≡ true
    pub rank : r ≡ number_at 1 (at + 2) bs
    pub mark : m ≡ number_at 1 (at + 3) bs
    pub plane : h ≡ number_at 2 (at + 4) bs
    pub count : c ≡ number_at 2 (at + 6) bs

  module _ (r m h c : ℕ) (H : Head r m h c) where
    pub head_within : at + 8 ≤ length bs
    head_within = let w = begun_within 0x45 0x4C 6 bs at H.begun in omega (arith, w)

    pub head_read : element_in (drop at bs) ≡ boundary_part r m h c
    unfolding element_in
    head_read =
        let w = head_within in
        begun 0x45 0x4C 6 element_after bs at H.begun
        ∙ then_number bs 1 (at + 2) (at + 3) _ (omega arith) (omega (arith, w))
        ∙ then_number bs 1 (at + 3) (at + 4) _ (omega arith) (omega (arith, w))
        ∙ then_number bs 2 (at + 4) (at + 6) _ (omega arith) (omega (arith, w))
        ∙ then_number bs 2 (at + 6) (at + 8) _ (omega arith) (omega (arith, w))
        ∙ (λ i. boundary_part (sym H.rank i) (sym H.mark i) (sym H.plane i) (sym H.count i))

    pub element_unfit : element_fits r m h c ≡ false → Ends element_in bs at None
    element_unfit k = breaks (head_read ∙ go (many c (number 2) (drop (at + 8) bs))) refl
      where
        go : (q : Reading (List ℕ)) → and_then q (λ b b₅. if element_fits r m h c then got (read_element (r ∷ m ∷ h ∷ c ∷ b)) b₅ else broken) ≡ broken
        go broken = refl
        go (got b b₅) = if_false (element_fits r m h c) _ _ k

    pub element_cut_off : length bs < at + 8 + 2 * c → Ends element_in bs at None
    element_cut_off k =
        let w = head_within in
        let l = length-drop (at + 8) bs in
        breaks (head_read ∙ broken_then (many c (number 2) (drop (at + 8) bs)) _ ((numbers_take c).wants (drop (at + 8) bs) (omega (arith, w, l, k)))) refl

    pub element_ends : element_fits r m h c ≡ true → at + 8 + 2 * c ≤ length bs → Ends element_in bs at (Some (at + 8 + 2 * c))
    element_ends k l =
        let t = numbers_take c in
        let cs = drop (at + 8) bs in
        ends (read_element (r ∷ m ∷ h ∷ c ∷ t.value cs)) (at + 8 + 2 * c)
        (record {
          says =
              head_read
              ∙ and_then_lem (many c (number 2) cs) _ (t.value cs) (drop (2 * c) cs) (t.there cs (let d = length-drop (at + 8) bs in omega (arith, d, l)))
              ∙ if_true (element_fits r m h c) _ _ k
              ∙ ap (got (read_element (r ∷ m ∷ h ∷ c ∷ t.value cs))) (drop-drop (2 * c) (at + 8) bs);
          within = l;
        })
        refl

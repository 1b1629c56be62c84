-- A cube at its public reply: one that is taken is sound and has no matching vertices, and one that is refused leaves the memory.
-- A file that is taken is sound. So any calls, cubes and files too, leave a sound memory sound; and a table without matching vertices stays without them, unless a file brings some.
use Prim.Native.Nat.{ℕ, suc, zero, ◌<◌}
use mathlib.Core.Bool.{true, ◌&&◌, Bool, false}
use mathlib.Core.List.{List, [], ◌∷◌}
use mathlib.Core.Path.{◌≡◌, refl, ap, sym, ◌∙◌, subst}
use native.Mathlib.Nat.{suc-ne-zero, zero-lt-suc}
use lib.Dec.{leb}
use lib.Ieee.{Float}
use Rattle.rules.specs.Limits.{Limits, HasCubes, Readable}
use Rattle.rules.specs.Sound.{sound}
use Rattle.rules.specs.Memory.{Memory, encode, right_size, sound_memory, decode}
use Rattle.rules.specs.Cube.{cube, radius_fits}
use Rattle.rules.specs.Replies.{cube_reply}
use Rattle.rules.specs.Files.{open_reply}
use Rattle.rules.specs.Calls.{Call, cutting, asking, cubing, opening, after, after_calls}
use Rattle.rules.specs.Promises.{CubeIsSound, OneCrossingOneCorner, Unmatched, OpensUnmatched, StaysSound, StaysUnmatched, EnoughBoundary}
use Rattle.rules.proofs.Borders.{sound_bordered}
use Rattle.rules.proofs.Calls.{call_follows}
use Rattle.rules.proofs.CubeCorners.{cube_unmatched}
use Rattle.rules.proofs.CubeSound.{cube_sound}
use Rattle.rules.proofs.FileReplies.{refused_open_leaves, open_is_sound}
use Rattle.rules.proofs.Laws.{and_left, and_right}
use Rattle.rules.proofs.OneCall.{sound_table}
use Rattle.rules.proofs.OneCorner.{cut_unmatched}
use Rattle.rules.proofs.Refusals.{cube_by_lem, cube_by, refused_cube_leaves}
use Rattle.rules.proofs.RoundTrip.{written_sound, table_back}
use Rattle.rules.specs.Refusals.{Reply, reply_number}

-- ---- a cube that is taken

module _ (L : Limits) (H : HasCubes L) (d : ℕ) (radius : Float) (m : Memory) where
  pub record CubeDone : Type 0 where
    pub dimension : (leb 1 d && leb d L.dimensions) ≡ true
    pub is_sound : sound L (cube d radius) ≡ true
    pub fits : radius_fits radius ≡ true
    pub writes : (cube_reply L d radius m).1 ≡ encode L (cube d radius)

  pub cube_done : reply_number (cube_reply L d radius m).0 ≡ 0 → CubeDone
  cube_done z =
      go (leb 1 d && leb d L.dimensions) (radius_fits radius) (right_size L m) refl refl (ap (λ (x : Reply (Unit {0}) × Memory). x.1) (cube_by_lem L d radius m))
      (ap (λ (x : Reply (Unit {0}) × Memory). reply_number x.0) (sym (cube_by_lem L d radius m)) ∙ z)
    where
      go : (p q s : Bool) → (leb 1 d && leb d L.dimensions) ≡ p → radius_fits radius ≡ q
          → (cube_reply L d radius m).1 ≡ (cube_by L d radius m p q s).1 → reply_number (cube_by L d radius m p q s).0 ≡ 0 → CubeDone
      go false q s e f w n = absurd (suc-ne-zero 0 n)
      go true false s e f w n = absurd (suc-ne-zero 1 n)
      go true true false e f w n = absurd (suc-ne-zero 2 n)
      go true true true e f w n = record {
        dimension = e;
        is_sound = cube_sound L H d radius (and_left (leb 1 d) (leb d L.dimensions) e) (and_right (leb 1 d) (leb d L.dimensions) e) f;
        fits = f;
        writes = w;
      }

module _ (L : Limits) (R : Readable L) (H : HasCubes L) where
  pub cube_is_sound : CubeIsSound L
  cube_is_sound d radius m z =
      let c = cube_done L H d radius m z in
      subst (λ (x : Memory). sound_memory L x ≡ true) (sym c.writes) (written_sound L R (cube d radius) c.is_sound)

  unmatched_cube : (d : ℕ) (radius : Float) (m : Memory) → reply_number (cube_reply L d radius m).0 ≡ 0 → Unmatched (decode L (cube_reply L d radius m).1)
  unmatched_cube d radius m z =
      let c = cube_done L H d radius m z in
      subst Unmatched (sym (ap (decode L) c.writes ∙ table_back L R (cube d radius) c.is_sound)) (cube_unmatched d radius c.fits)

  -- ---- any calls

  -- what holds after a call that is taken, and held before, holds after it, if one that is refused leaves the memory
  after_call : (P : Memory → Type 0) (r : Reply (Unit {0}) × Memory) (m : Memory) → (0 < reply_number r.0 → r.1 ≡ m) → (reply_number r.0 ≡ 0 → P r.1) → P m → P r.1
  after_call P r m leaves f p = go (reply_number r.0) refl
    where
      go : (n : ℕ) → reply_number r.0 ≡ n → P r.1
      go zero e = f e
      go (suc n) e = subst P (sym (leaves (subst (λ (k : ℕ). 0 < k) (sym e) (zero-lt-suc n)))) p

  after_cube : (P : Memory → Type 0) (d : ℕ) (radius : Float) (m : Memory) → (reply_number (cube_reply L d radius m).0 ≡ 0 → P (cube_reply L d radius m).1) → P m → P (cube_reply L d radius m).1
  after_cube P d radius m = after_call P (cube_reply L d radius m) m (refused_cube_leaves L d radius m)

  after_file : (P : Memory → Type 0) (bs : List ℕ) (m : Memory) → (reply_number (open_reply L bs m).0 ≡ 0 → P (open_reply L bs m).1) → P m → P (open_reply L bs m).1
  after_file P bs m = after_call P (open_reply L bs m) m (refused_open_leaves L bs m)

  call_sound : (c : Call) (m : Memory) → sound_memory L m ≡ true → sound_memory L (after L c m) ≡ true
  call_sound (cutting p root) m s = (call_follows L R (cutting p root) m s tt).sound_after
  call_sound asking m s = s
  call_sound (cubing d radius) m s = after_cube (λ (x : Memory). sound_memory L x ≡ true) d radius m (cube_is_sound d radius m) s
  call_sound (opening bs) m s = after_file (λ (x : Memory). sound_memory L x ≡ true) bs m (open_is_sound L R bs m) s

  pub stays_sound : StaysSound L
  stays_sound [] m s = s
  stays_sound (c ∷ cs) m s = stays_sound cs (after L c m) (call_sound c m s)

  pub enough_boundary : EnoughBoundary L
  enough_boundary cs m s = sound_bordered L _ (sound_table L (after_calls L cs m) (stays_sound cs m s))

  call_unmatched : (c : Call) (m : Memory) → Unmatched (decode L m) → OpensUnmatched L c m → Unmatched (decode L (after L c m))
  call_unmatched (cutting p root) m u f = cut_unmatched L R p root m u
  call_unmatched asking m u f = u
  call_unmatched (opening bs) m u f = after_file (λ (x : Memory). Unmatched (decode L x)) bs m f u
  call_unmatched (cubing d radius) m u f = after_cube (λ (x : Memory). Unmatched (decode L x)) d radius m (unmatched_cube d radius m) u

  pub stays_unmatched : StaysUnmatched L
  stays_unmatched [] m u f = u
  stays_unmatched (c ∷ cs) m u f = stays_unmatched cs (after L c m) (call_unmatched c m u f.0) f.1

  pub one_crossing_one_corner : OneCrossingOneCorner L
  one_crossing_one_corner d radius m z cs f = stays_unmatched cs (cube_reply L d radius m).1 (unmatched_cube d radius m z) f

-- The public reply of a touch by what was asked: 3, 4 or 5, then rule 1, and the corners.
use Prim.Native.Nat.{ℕ}
use mathlib.Core.Bool.{true, false}
use mathlib.Core.List.{List}
use mathlib.Core.Path.{◌≡◌, refl, ap, ◌∙◌}
use lib.Ieee.{Float, nan, inf, fin}
use Rattle.rules.specs.Limits.{desk}
use Rattle.rules.specs.Table.{Table, Plane}
use Rattle.rules.specs.Memory.{Memory, decode}
use Rattle.rules.specs.Held.{memory_of}
use Rattle.rules.specs.Replies.{divider_of}
use Rattle.rules.specs.Touch.{corner_sides, touched, touch_at_distance, touch, touch_reply}
use Rattle.rules.specs.declared.Hyperplane.{Hyperplane}
use Rattle.rules.specs.declared.Touch.TheVariants.{InsideOrOn, OutsideOrOn}
use Rattle.space.proofs.Lent.{memory_sound_table}
use Rattle.space.proofs.RowAdds.{readable_desk}
use Rattle.soundness.specs.Asked.{at_distance, asked}
use Rattle.soundness.specs.declared.asked.Asking.{Asking}
use Rattle.soundness.specs.declared.asked.Asking.TheVariants as asking
use Rattle.soundness.proofs.AskedOnce.{held, answered, replied, asked_law, TestsPassed, asked_passed}
use Rattle.elements.specs.Touches.{TouchReady, FiniteTouched}
use Rattle.rules.specs.Refusals.{Reply}
use Rattle.rules.specs.declared.Touched.{Touched}
use Rattle.std.specs.Prelude.{Err, Ok}
use Rattle.rules.specs.Touch.{touch_with}
use Rattle.rules.specs.declared.Refusal.{Refusal}

module _ (h : Hyperplane) (root : ℕ) (cs : List ℕ) (ps hs : List Float) (es : List ℕ) where
  abbrev m : Memory
  m = memory_of cs ps hs es

  abbrev t : Table
  t = decode desk m

  abbrev plane : Plane
  plane = divider_of t.dimension h

  abbrev finite : Reply Touched
  finite = touched (corner_sides plane t root)

  -- what is made of an answer
  abbrev made : Reply Asking → Reply Touched
  made a = answered Err (Ok (touch_with InsideOrOn 0)) (Ok (touch_with OutsideOrOn 0)) finite a

  by_distance : (x : Float) → at_distance (Ok (touch_with InsideOrOn 0)) (Ok (touch_with OutsideOrOn 0)) finite x ≡ touch_at_distance plane x root t
  by_distance nan = refl
  by_distance (inf false) = refl
  by_distance (inf true) = refl
  by_distance (fin s a b) = refl

  made_is : {a : Reply Asking} → a ≡ asked m h root → made a ≡ touch_reply desk h root m
  unfolding touch_reply touch
  made_is q =
      ap made q ∙ asked_law Err (Ok (touch_with InsideOrOn 0)) (Ok (touch_with OutsideOrOn 0)) finite m h root
      ∙ ap (λ (x : Reply Touched). replied Err x m h root) (by_distance h.distance)

  pub refused : (n : Refusal) → Err n ≡ asked m h root → Err n ≡ touch_reply desk h root m
  refused n q = made_is q

  -- rule 1
  pub all_inside : {r : Touched} → Ok asking.AllInside ≡ asked m h root → r ≡ touch_with InsideOrOn 0 → Ok r ≡ touch_reply desk h root m
  all_inside q e = ap Ok e ∙ made_is q

  pub all_outside : {r : Touched} → Ok asking.AllOutside ≡ asked m h root → r ≡ touch_with OutsideOrOn 0 → Ok r ≡ touch_reply desk h root m
  all_outside q e = ap Ok e ∙ made_is q

  -- the corners
  module _ (q : Ok asking.Finite ≡ asked m h root) where
    passed : TestsPassed m h root
    passed = asked_passed m h root q refl

    pub touch_ready : TouchReady cs ps es root
    touch_ready = record {
      planes = hs;
      table = t;
      holds = held cs ps hs es passed.sound;
      sound = memory_sound_table desk readable_desk m passed.sound;
      used = passed.used;
    }

    pub corners_replied : {r : Touched} → FiniteTouched cs ps es h root r → Ok r ≡ touch_reply desk h root m
    corners_replied F =
        F.of hs t (held cs ps hs es passed.sound) (memory_sound_table desk readable_desk m passed.sound) passed.used ∙ made_is q

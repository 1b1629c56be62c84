-- A cut of a memory that is known to be sound: what was asked of the counts is what is asked of the memory, and what an answer leaves is sound, with its index.
use Prim.Native.Nat.{ℕ}
use mathlib.Core.Bool.{false}
use mathlib.Core.Path.{◌≡◌, sym, ◌∙◌}
use mathlib.Core.List.{List}
use lib.ListN.{length, get_or}
use lib.Ieee.{Float}
use Rattle.rules.proofs.Laws.{not_both}
use Rattle.rules.specs.Limits.{desk}
use Rattle.rules.specs.Memory.{sound_memory}
use Rattle.rules.specs.Held.{memory_of}
use Rattle.rules.specs.Cut.{given}
use Rattle.rules.specs.Replies.{cut_reply}
use Rattle.rules.specs.declared.ElementCutOutput.TheVariants.{NonFlush}
use Rattle.rules.specs.declared.CutParams.{CutParams}
use Rattle.rules.proofs.OneCall.{memory_sound}
use Rattle.space.proofs.RowAdds.{readable_desk}
use Rattle.soundness.specs.Asked.{asked_of, asked}
use Rattle.soundness.specs.declared.asked.Asking.{Asking}
use Rattle.soundness.specs.declared.asked.Asking.TheVariants as asking
use Rattle.soundness.proofs.AskedOnce.{counts_long, asked_three, asked_sound}
use Rattle.cut.specs.Whole.{CutReady, WholeCut, SoundIndexed, SoundCut}
use Rattle.cut.proofs.Replies.{refused, all_inside, all_outside, cut_ready, cut_made}
use Rattle.rules.specs.Refusals.{Reply}
use Rattle.rules.specs.declared.ElementAnswer.{ElementAnswer}
use Rattle.rules.specs.declared.Refusal.TheVariants.{NotSound}
use Rattle.std.specs.Prelude.{None, Err, Ok}
use Rattle.rules.specs.Replies.{answer_with}
use Rattle.rules.specs.declared.Refusal.{Refusal}

pub unsound : (p : CutParams) (root : ℕ) (cs : List ℕ) (ps hs : List Float) (es : List ℕ) → sound_memory desk (memory_of cs ps hs es) ≡ false
    → (Err NotSound, memory_of cs ps hs es) ≡ cut_reply desk p root (memory_of cs ps hs es)
unsound p root cs ps hs es s = refused p root cs ps hs es NotSound (asked_three cs ps hs es p.divider root s)

module _ {cs : List ℕ} {ps hs : List Float} {es ix : List ℕ} (S : SoundIndexed cs ps hs es ix) where
  pub counts_four : length cs ≡ 4
  counts_four = counts_long cs ps hs es S.sound

  module _ (p : CutParams) (root : ℕ) {a : Reply Asking} (told : a ≡ asked_of (get_or cs 0 0) (get_or cs 1 0) p.divider root) where
    asked_is : a ≡ asked (memory_of cs ps hs es) p.divider root
    asked_is = told ∙ asked_sound cs ps hs es p.divider root S.sound

    pub sound_refused : (n : Refusal) → a ≡ Err n → SoundCut cs ps hs es p root (Err n) cs ps hs es ix
    sound_refused n q = record {
      reply = refused p root cs ps hs es n (sym q ∙ asked_is);
      indexed = λ b w. not_both w;
    }

    module _ {r : Reply ElementAnswer} where
      pub sound_inside : a ≡ Ok asking.AllInside → r ≡ Ok (answer_with (NonFlush (given root) None None) false) → SoundCut cs ps hs es p root r cs ps hs es ix
      sound_inside q w = record { reply = all_inside p root cs ps hs es (sym q ∙ asked_is) w; indexed = λ b e. S }

      pub sound_outside : a ≡ Ok asking.AllOutside → r ≡ Ok (answer_with (NonFlush None (given root) None) false) → SoundCut cs ps hs es p root r cs ps hs es ix
      sound_outside q w = record { reply = all_outside p root cs ps hs es (sym q ∙ asked_is) w; indexed = λ b e. S }

    module _ (q : a ≡ Ok asking.Finite) where
      pub sound_ready : CutReady cs ps hs es ix p.divider root
      sound_ready = cut_ready p root cs ps hs es (sym q ∙ asked_is) (λ s. S.indexed)

      pub sound_made : {r : Reply ElementAnswer} {cs' : List ℕ} {ps' hs' : List Float} {es' ix' : List ℕ} → WholeCut cs ps hs es p root r cs' ps' hs' es' ix'
          → SoundCut cs ps hs es p root r cs' ps' hs' es' ix'
      sound_made {r} {cs'} {ps'} {hs'} {es'} W =
          let e = cut_made p root cs ps hs es (sym q ∙ asked_is) W in
          record {
            reply = e;
            indexed = λ b w. record {
              sound = memory_sound desk readable_desk p root (memory_of cs ps hs es) b (memory_of cs' ps' hs' es') (sym e ∙ (λ j. (w j, memory_of cs' ps' hs' es')));
              indexed = W.indexed b w;
            };
          }

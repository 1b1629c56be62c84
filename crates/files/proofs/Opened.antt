-- The reply of opening, by the tests in turn: the layout, the size of the lent room, and whether the table that the bytes say is sound.
use Rattle.std.specs.Prelude.{if◌then◌else◌, Some, None, Ok, Err}
use Prim.Native.Nat.{ℕ}
use mathlib.Core.Bool.{Bool, true, false}
use mathlib.Core.List.{List}
use mathlib.Core.Path.{◌≡◌, refl, sym, ap, subst, ◌∙◌}
use Rattle.rules.specs.Limits.{desk}
use Rattle.rules.specs.Sound.{sound}
use Rattle.rules.specs.Memory.{Memory, encode, right_size}
use Rattle.rules.specs.Questions.{no_answer, answer}
use Rattle.rules.specs.Files.{judged, table_in, opened, open_reply}
use Rattle.files.specs.Judged.{Says, Judged}
use Rattle.files.specs.Laid.{LayoutTold, breaks, stands, Whole}
use Rattle.files.specs.declared.layout.Laid.{Laid}
use Rattle.rules.specs.declared.Refusal.TheVariants.{NotSound, Layout}

-- where the layout stands, the bytes are that of a table
pub told_says : {bs : List ℕ} {l : Laid} → LayoutTold bs (Some l) → Says bs l
told_says (breaks b n) = cc
told_says {bs} {l} (stands k t w e) = let same : k ≡ l = cc in record { table = t; whole = subst (λ (j : Laid). Whole bs j t) same w }

module _ (bs : List ℕ) (m : Memory) where
  pub open_broken : LayoutTold bs None → (Err Layout, m) ≡ open_reply desk bs m
  unfolding open_reply
  open_broken (breaks b e) = sym (ap (opened desk m) (b desk))
  open_broken (stands l t w e) = cc

  module _ {l : Laid} (S : Says bs l) where
    said : table_in desk bs ≡ (if sound desk S.table then answer S.table else no_answer NotSound)
    unfolding table_in
    said = ap (judged desk) S.whole.says

    pub open_not_sound : {r : Bool} → Judged bs l (sound desk) r → r ≡ false → (Err NotSound, m) ≡ open_reply desk bs m
    unfolding open_reply
    open_not_sound J f =
        let no = sym (J.told S.table S.whole) ∙ f in
        sym (ap (opened desk m) (said ∙ ap (λ (b : Bool). if b then answer S.table else no_answer NotSound) no))

    pub open_other_size : right_size desk m ≡ false → (Err NotSound, m) ≡ open_reply desk bs m
    unfolding open_reply
    open_other_size f = go (sound desk S.table) refl
      where
        go : (b : Bool) → sound desk S.table ≡ b → (Err NotSound, m) ≡ opened desk m (table_in desk bs)
        go true q =
            sym (ap (opened desk m) (said ∙ ap (λ (b : Bool). if b then answer S.table else no_answer NotSound) q) ∙ ap (λ (b : Bool). if b then (Ok tt, encode desk S.table) else (Err NotSound, m)) f)
        go false q = sym (ap (opened desk m) (said ∙ ap (λ (b : Bool). if b then answer S.table else no_answer NotSound) q))

    pub open_taken : {n : Memory} → sound desk S.table ≡ true → right_size desk m ≡ true → n ≡ encode desk S.table → (Ok tt, n) ≡ open_reply desk bs m
    unfolding open_reply
    open_taken {n} q s e =
        ap (λ (k : Memory). (Ok tt, k)) e ∙ sym (ap (opened desk m) (said ∙ ap (λ (b : Bool). if b then answer S.table else no_answer NotSound) q)
        ∙ ap (λ (b : Bool). if b then (Ok tt, encode desk S.table) else (Err NotSound, m)) s)

-- Each vertex element in the front of the list is replaced by the vertex that it names, in the same place.
use Prim.Native.Nat.{ℕ, suc, ◌+◌, ◌<◌, ◌≤◌}
use mathlib.Core.Bool.{true}
use mathlib.Core.List.{List, ◌++◌, map}
use mathlib.Core.Path.{◌≡◌, refl, sym, ap, subst, ◌∙◌}
use native.Mathlib.Omega.{arith}
use lib.Dec.{ltb}
use lib.ListN.{length, get_or, take, drop, set, length-set, length-map, get_or-map}
use lib.Seq.{sets, sets-eq, length-sets, get_or-take, get_or-set_other, length-take-le, take-append_seam, drop-append_seam}
use Rattle.rules.specs.Lists.{all}
use Rattle.rules.proofs.Borders.{at_each}
use Rattle.rules.proofs.Laws.{le_test}
use Rattle.space.proofs.RowWords.{sets_more, sets_all}
use Rattle.elements.specs.Marks.{marked_numbers}
use Rattle.elements.specs.Ranks.{vertex_word}
use Rattle.elements.proofs.MemberLaws.{members_low}

-- those before i are replaced
pub record Naming (es l₀ : List ℕ) (n : ℕ) (l : List ℕ) (i : ℕ) : Type 0 where
  pub long : length l ≡ length l₀
  pub left : (j : ℕ) → i ≤ j → get_or l j 0 ≡ get_or l₀ j 0
  pub list : l ≡ sets l₀ 0 (take i (map (vertex_word es) (take n l₀)))

pub naming_start : (es l : List ℕ) (n : ℕ) → Naming es l n l 0
naming_start es l n = record { long = refl; left = λ j h. refl; list = refl }

module _ (es l₀ : List ℕ) (n : ℕ) (l : List ℕ) (i : ℕ) (fit : n ≤ length l₀) (m : Naming es l₀ n l i) where
  names_long : length (map (vertex_word es) (take n l₀)) ≡ n
  names_long = length-map (take n l₀) (vertex_word es) ∙ length-take-le n l₀ fit

  pub naming_low : all (λ x. ltb x 512) (take n l₀) ≡ true → i < n → get_or l i 0 < 512
  naming_low a h =
      subst (λ (x : ℕ). x < 512) (get_or-take n l₀ i 0 h ∙ sym (m.left i (omega arith)))
      (le_test (suc (get_or (take n l₀) i 0)) 512 (at_each (λ x. ltb x 512) (take n l₀) i a (subst (λ (k : ℕ). i < k) (sym (length-take-le n l₀ fit)) h)))

  pub naming_next : (v x : ℕ) → i < n → x ≡ get_or l i 0 → v ≡ vertex_word es x → Naming es l₀ n (set l i v) (i + 1)
  naming_next v x h p q = record {
    long = length-set l i v ∙ m.long;
    left = λ j k. get_or-set_other l i j v 0 (λ e. let z : ⊥ = omega (arith, e, k) in z) ∙ m.left j (omega (arith, k));
    list =
        ap (set l i) name
        ∙ ap (λ (k : List ℕ). set k i (get_or names i (vertex_word es 0))) m.list
        ∙ ap (λ (k : ℕ). set (sets l₀ 0 (take i names)) k (get_or names i (vertex_word es 0))) (let z : i ≡ 0 + i = omega arith in z)
        ∙ sets_more l₀ 0 names i (vertex_word es 0) (omega (arith, h, fit)) (let k = names_long in omega (arith, k, h));
  }
    where
      names : List ℕ
      names = map (vertex_word es) (take n l₀)

      name : v ≡ get_or (map (vertex_word es) (take n l₀)) i (vertex_word es 0)
      name = q ∙ ap (vertex_word es) (p ∙ m.left i (omega arith) ∙ sym (get_or-take n l₀ i 0 h)) ∙ sym (get_or-map (vertex_word es) (take n l₀) i 0)

  pub naming_end : i ≡ n → l ≡ sets l₀ 0 (map (vertex_word es) (take n l₀))
  naming_end e = m.list ∙ ap (λ (k : ℕ). sets l₀ 0 (take k (map (vertex_word es) (take n l₀)))) e ∙ sets_all l₀ 0 (map (vertex_word es) (take n l₀)) n names_long

-- ---- after the elements are listed

module _ (ws l l' : List ℕ) (n : ℕ) (e : n ≡ length (marked_numbers ws)) (h : n ≤ length l) (q : l' ≡ sets l 0 (marked_numbers ws)) where
  split : l' ≡ marked_numbers ws ++ drop n l
  split = q ∙ sets-eq (marked_numbers ws) l 0 (omega (arith, e, h)) ∙ ap (λ (k : ℕ). marked_numbers ws ++ drop k l) (let z : 0 + length (marked_numbers ws) ≡ n = omega (arith, e) in z)

  pub still_long : n ≤ length l'
  still_long = let k = ap length q ∙ length-sets l 0 (marked_numbers ws) in omega (arith, k, h)

  front : take n l' ≡ marked_numbers ws
  front = ap (take n) split ∙ ap (λ (k : ℕ). take k (marked_numbers ws ++ drop n l)) e ∙ take-append_seam (marked_numbers ws) (drop n l)

  pub listed_low : all (λ x. ltb x 512) (take n l') ≡ true
  listed_low = ap (all (λ x. ltb x 512)) front ∙ members_low ws

  pub replaced : (es l'' : List ℕ) → l'' ≡ sets l' 0 (map (vertex_word es) (take n l')) → l'' ≡ sets l 0 (map (vertex_word es) (marked_numbers ws))
  replaced es l'' r =
      let names = map (vertex_word es) (marked_numbers ws) in
      let k : length names ≡ n = length-map (marked_numbers ws) (vertex_word es) ∙ sym e in
      r ∙ ap (λ (xs : List ℕ). sets l' 0 (map (vertex_word es) xs)) front
      ∙ sets-eq names l' 0 (let s = still_long in omega (arith, k, s))
      ∙ ap (λ (j : ℕ). names ++ drop j l') (let z : 0 + length names ≡ n = omega (arith, k) in z)
      ∙ ap (λ (xs : List ℕ). names ++ xs) (ap (drop n) split ∙ ap (λ (j : ℕ). drop j (marked_numbers ws ++ drop n l)) e ∙ drop-append_seam (marked_numbers ws) (drop n l))
      ∙ sym (sets-eq names l 0 (omega (arith, k, h)) ∙ ap (λ (j : ℕ). names ++ drop j l) (let z : 0 + length names ≡ n = omega (arith, k) in z))

-- The public reply, by the tests in their order; and a sound memory lends the elements of the table that it holds.
use Prim.Native.Nat.{ℕ, suc, ◌<◌}
use mathlib.Core.Bool.{true}
use mathlib.Core.List.{List, [], ◌∷◌}
use mathlib.Core.Path.{◌≡◌, refl, ap, ◌∙◌}
use lib.Dec.{ltb}
use lib.Ieee.{Float}
use Rattle.rules.specs.Limits.{desk}
use Rattle.rules.specs.Lists.{all}
use Rattle.rules.specs.Table.{Table, element_count}
use Rattle.rules.specs.Memory.{Memory, decode, sound_memory}
use Rattle.rules.specs.Held.{memory_of}
use Rattle.rules.specs.Questions.{Asked, answer, sub_elements, with_rank, vertex_set, greatest_common}
use Rattle.rules.specs.Replies.{asked, listed, sub_elements_reply, with_rank_reply, vertex_set_reply, greatest_common_reply}
use Rattle.rules.proofs.Laws.{le_test, and_left}
use Rattle.space.proofs.Lent.{memory_sound_table}
use Rattle.space.proofs.RowAdds.{readable_desk}
use Rattle.soundness.specs.Asked.{roots_asked}
use Rattle.soundness.proofs.AskedOnce as once
use Rattle.soundness.proofs.AskedOnce.{table, held, goes_on, question_is}
use Rattle.elements.specs.Below.{Lent, Used}
use Rattle.elements.specs.Ranks.{AllUsed}
use Rattle.rules.specs.Refusals.{Reply}
use Rattle.std.specs.Prelude.{Err, Ok}
use Rattle.rules.specs.declared.Refusal.{Refusal}

module _ (cs : List ℕ) (ps hs : List Float) (es : List ℕ) where
  abbrev memory : Memory
  memory = memory_of cs ps hs es

  pub memory_lent : sound_memory desk memory ≡ true → Lent es (table cs ps hs es)
  memory_lent s =
      let H = held cs ps hs es s in record { elements = H.elements; fits = H.fits; sound = memory_sound_table desk readable_desk memory s }

  -- r is what the code found
  module _ (roots : List ℕ) (r : Reply (Unit {0})) (e : r ≡ roots_asked memory roots) where
    pub refused : (q : Asked (List ℕ)) (l : List ℕ) (x : Refusal) → r ≡ Err x → (Err x, l) ≡ listed (asked desk memory roots q) l
    refused q l x z = ap (λ (a : Asked (List ℕ)). listed a l) (once.refused cs ps hs es roots r e q x z)

    module _ (z : r ≡ Ok tt) where
      pub answered : (q : Asked (List ℕ)) (l : List ℕ) (x : Reply ℕ × List ℕ) → x ≡ listed q l → x ≡ listed (asked desk memory roots q) l
      answered q l x h = h ∙ ap (λ (y : Asked (List ℕ)). listed y l) (question_is cs ps hs es roots r e z q)

      pub roots_used : AllUsed es roots
      roots_used = let g = goes_on cs ps hs es roots r e z in record { table = table cs ps hs es; lent = memory_lent g.0; used = g.1 }

-- ---- one root

-- what is asked of a table and a root, and the whole reply
pub record RootQuestion : Type 0 where
  pub reply : Memory → ℕ → List ℕ → Reply ℕ × List ℕ
  pub asks : Table → ℕ → List ℕ
  pub is : (m : Memory) (e : ℕ) (l : List ℕ) → listed (asked desk m (e ∷ []) (answer (asks (decode desk m) e))) l ≡ reply m e l

pub sub_elements_is : (m : Memory) (e : ℕ) (l : List ℕ) → listed (asked desk m (e ∷ []) (answer (sub_elements (decode desk m) e))) l ≡ sub_elements_reply desk m e l
unfolding sub_elements_reply
sub_elements_is m e l = refl

pub with_rank_is : (k : ℕ) (m : Memory) (e : ℕ) (l : List ℕ) → listed (asked desk m (e ∷ []) (answer (with_rank (decode desk m) k e))) l ≡ with_rank_reply desk m k e l
unfolding with_rank_reply
with_rank_is k m e l = refl

pub vertex_set_is : (m : Memory) (e : ℕ) (l : List ℕ) → listed (asked desk m (e ∷ []) (answer (vertex_set (decode desk m) e))) l ≡ vertex_set_reply desk m e l
unfolding vertex_set_reply
vertex_set_is m e l = refl

abbrev pub sub_elements_lem : RootQuestion
sub_elements_lem = record { reply = sub_elements_reply desk; asks = sub_elements; is = sub_elements_is }

abbrev pub with_rank_lem : ℕ → RootQuestion
with_rank_lem k = record { reply = λ m e l. with_rank_reply desk m k e l; asks = λ t e. with_rank t k e; is = with_rank_is k }

abbrev pub vertices : RootQuestion
vertices = record { reply = vertex_set_reply desk; asks = vertex_set; is = vertex_set_is }

module _ (cs : List ℕ) (ps hs : List Float) (es : List ℕ) (root : ℕ) (r : Reply (Unit {0})) (e : r ≡ roots_asked (memory_of cs ps hs es) (root ∷ [])) where
  pub root_refused : (Q : RootQuestion) (l : List ℕ) (x : Refusal) → r ≡ Err x → (Err x, l) ≡ Q.reply (memory_of cs ps hs es) root l
  root_refused Q l x z = refused cs ps hs es (root ∷ []) r e (answer (Q.asks (table cs ps hs es) root)) l x z ∙ Q.is (memory_of cs ps hs es) root l

  module _ (z : r ≡ Ok tt) where
    used : root < element_count (table cs ps hs es)
    used = le_test (suc root) (element_count (table cs ps hs es)) (and_left (ltb root (element_count (table cs ps hs es))) true (goes_on cs ps hs es (root ∷ []) r e z).1)

    lent : Lent es (table cs ps hs es)
    lent = memory_lent cs ps hs es (goes_on cs ps hs es (root ∷ []) r e z).0

    pub root_used : Used es root
    root_used = record { table = table cs ps hs es; lent = lent; used = used }

    pub root_answered : (Q : RootQuestion) (l xs : List ℕ) (x : Reply ℕ × List ℕ) → x ≡ listed (answer xs) l
        → ((t : Table) → Lent es t → root < element_count t → xs ≡ Q.asks t root) → x ≡ Q.reply (memory_of cs ps hs es) root l
    root_answered Q l xs x h q =
        answered cs ps hs es (root ∷ []) r e z (answer (Q.asks (table cs ps hs es) root)) l x
        (h ∙ ap (λ (ys : List ℕ). listed (answer ys) l) (q (table cs ps hs es) lent used))
        ∙ Q.is (memory_of cs ps hs es) root l

-- ---- any number of roots

greatest_is : (m : Memory) (roots l : List ℕ) → listed (asked desk m roots (greatest_common (decode desk m) roots)) l ≡ greatest_common_reply desk m roots l
unfolding greatest_common_reply
greatest_is m roots l = refl

module _ (cs : List ℕ) (ps hs : List Float) (es roots : List ℕ) (r : Reply (Unit {0})) (e : r ≡ roots_asked (memory_of cs ps hs es) roots) (l : List ℕ) where
  pub roots_refused : (x : Refusal) → r ≡ Err x → (Err x, l) ≡ greatest_common_reply desk (memory_of cs ps hs es) roots l
  roots_refused x z = refused cs ps hs es roots r e (greatest_common (table cs ps hs es) roots) l x z ∙ greatest_is (memory_of cs ps hs es) roots l

  pub roots_answered : r ≡ Ok tt → (q : Asked (List ℕ)) (x : Reply ℕ × List ℕ) → x ≡ listed q l
      → ((t : Table) → Lent es t → all (λ y. ltb y (element_count t)) roots ≡ true → q ≡ greatest_common t roots) → x ≡ greatest_common_reply desk (memory_of cs ps hs es) roots l
  roots_answered z q x h f =
      let g = goes_on cs ps hs es roots r e z in
      answered cs ps hs es roots r e z (greatest_common (table cs ps hs es) roots) l x
      (h ∙ ap (λ (y : Asked (List ℕ)). listed y l) (f (table cs ps hs es) (memory_lent cs ps hs es g.0) g.1))
      ∙ greatest_is (memory_of cs ps hs es) roots l

-- What the repeat needs of a table, far less than soundness: an element names what is in use, and the cube's planes are there.
-- Every number that a step handles is in use.
use Prim.Native.Nat.{ℕ, ◌<◌, ◌≤◌, suc, zero, suc-le-suc}
use mathlib.Core.Bool.{Bool, ◌||◌}
use mathlib.Core.List.{List, [], ◌++◌, ◌∷◌}
use mathlib.Core.Path.{◌≡◌, ap, ◌∙◌, refl, subst, sym}
use native.Mathlib.Nat.{le_trans, le_of_lt, not-suc-le-zero, le_of_suc-le-suc, zero-lt-suc}
use lib.Ieee.{Float}
use lib.ListN.{length, get_or, get_or-append}
use lib.Seq.{get_or-append_seam}
use Rattle.rules.specs.Table.{Element, corner, polytope, Table, element_count, element, primordials, point_of, point_at, boundary, boundary_of, Plane}
use Rattle.rules.specs.Cut.{Gathered, including, gathering, gathering_output, corner_output, with_element, with_point, with_plane}
use Rattle.rules.specs.Held.{Begins, Extends}
use Rattle.rules.specs.declared.ElementCutOutput.{ElementCutOutput}
use Rattle.rules.specs.declared.ElementCutOutput.TheVariants.{Flush, NonFlush}
use Rattle.rules.specs.declared.ElementAnswer.{ElementAnswer}
use Rattle.rules.specs.declared.Side.{Side}
use Rattle.rules.specs.declared.Side.TheVariants.{Inside, On, Outside}
use Rattle.rules.proofs.Extends.{Below, below_with, below_more, element_same, grown_element, begins_length}
use Rattle.rules.proofs.Growing.{length_snoc}
use Rattle.rules.specs.declared.ElementId.{ElementId}
use Rattle.std.specs.Prelude.{Option, Some, None}

-- ---- numbers in use

abbrev pub SomeIn : Option ElementId → ℕ → Type 0
SomeIn None n = Unit {0}
SomeIn (Some e) n = e.0 < n

abbrev pub OutputIn : ElementCutOutput → ℕ → Type 0
OutputIn Flush n = Unit {0}
OutputIn (NonFlush i o x) n = SomeIn i n × SomeIn o n × SomeIn x n

abbrev pub AnswerIn : ElementAnswer → ℕ → Type 0
AnswerIn a n = OutputIn a.output n

pub record GatheredIn (g : Gathered) (n : ℕ) : Type 0 where
  pub flush : Below n g.flush
  pub inside : Below n g.inside
  pub outside : Below n g.outside
  pub intersections : Below n g.intersections

pub some_more : {n m : ℕ} (p : Option ElementId) → n ≤ m → SomeIn p n → SomeIn p m
some_more None l h = tt
some_more (Some e) l h = le_trans h l

pub below_including : (n : ℕ) (p : Option ElementId) (s : List ℕ) → SomeIn p n → Below n s → Below n (including p s)
below_including n None s h b = b
below_including n (Some e) s h b = below_with n e.0 s h b

pub gathering_in : (n b : ℕ) (a : ElementAnswer) (g : Gathered) → b < n → AnswerIn a n → GatheredIn g n → GatheredIn (gathering b a g) n
gathering_in n b a g l h k = go a.output (g.warning || a.warning) h
  where
    go : (out : ElementCutOutput) (w : Bool) → OutputIn out n → GatheredIn (gathering_output b out w g) n
    go Flush w h = record { flush = (l, k.flush); inside = k.inside; outside = k.outside; intersections = k.intersections }
    go (NonFlush i o x) w h = record {
      flush = k.flush;
      inside = below_including n i g.inside h.0 k.inside;
      outside = below_including n o g.outside h.1 k.outside;
      intersections = below_including n x g.intersections h.2 k.intersections;
    }

pub gathered_more : {n m : ℕ} (g : Gathered) → n ≤ m → GatheredIn g n → GatheredIn g m
gathered_more g l k = record {
  flush = below_more g.flush l k.flush;
  inside = below_more g.inside l k.inside;
  outside = below_more g.outside l k.outside;
  intersections = below_more g.intersections l k.intersections;
}

pub corner_in : (n e : ℕ) (s : Side) → e < n → OutputIn (corner_output e s) n
corner_in n e Inside l = (l, tt, tt)
corner_in n e On l = tt
corner_in n e Outside l = (tt, l, tt)

-- ---- fine tables

abbrev pub Names : ℕ → ℕ → Element → Type 0
Names n e (corner v) = v < n
Names n e (polytope r b h m) = Below e b

pub record Fine (t : Table) : Type 0 where
  pub names : (e : ℕ) → e < element_count t → Names (length t.points) e (element t e)
  pub planes : primordials t.dimension ≤ length t.planes

pub point_same : (ps qs : List (List Float)) (n : ℕ) (e : Element) → Begins ps qs → Names (length ps) n e → point_of qs e ≡ point_of ps e
point_same ps qs n (corner v) b h =
    ap (λ (xs : List (List Float)). get_or xs v []) b.1 ∙ get_or-append ps b.0 [] v h
point_same ps qs n (polytope r c k m) b h = refl

pub point_at_same : (t l : Table) (e : ℕ) → Fine t → Extends t l → e < element_count t → point_at l e ≡ point_at t e
point_at_same t l e f x h =
    ap (point_of l.points) (element_same t l e x h) ∙ point_same t.points l.points e (element t e) x.points (f.names e h)

pub names_more : (n m e : ℕ) (x : Element) → n ≤ m → Names n e x → Names m e x
names_more n m e (corner v) l h = le_trans h l
names_more n m e (polytope r b k q) l h = h

pub below_names : (n e m : ℕ) (x : Element) → e ≤ m → Names n e x → Below m (boundary_of x)
below_names n e m (corner v) l h = tt
below_names n e m (polytope r b k q) l h = below_more b l h

pub boundary_below : (t : Table) (e : ℕ) → Fine t → e < element_count t → Below (element_count t) (boundary t e)
boundary_below t e f h = below_names (length t.points) e (element_count t) (element t e) (le_of_lt h) (f.names e h)

-- ---- an entry appended keeps a table fine

-- an index below a length that grew by one is an old one, or the new one
pub data Index (n i : ℕ) : Type 0 where
  before_end : i < n → Index n i
  at_end : n ≡ i → Index n i

pub index_of : (n i : ℕ) → i < suc n → Index n i
index_of zero zero h = at_end refl
index_of zero (suc i) h = absurd (not-suc-le-zero (le_of_suc-le-suc h))
index_of (suc n) zero h = before_end (zero-lt-suc n)
index_of (suc n) (suc i) h = up (index_of n i (le_of_suc-le-suc h))
  where
    up : Index n i → Index (suc n) (suc i)
    up (before_end l) = before_end (suc-le-suc l)
    up (at_end e) = at_end (ap suc e)

pub fine_element : (x : Element) (t : Table) → Fine t → Names (length t.points) (element_count t) x → Fine (with_element x t)
fine_element x t f n = record {
  names = λ e h. at e (index_of (element_count t) e (subst (λ (k : ℕ). e < k) (length_snoc t.elements x) h));
  planes = f.planes;
}
  where
    at : (e : ℕ) → Index (element_count t) e → Names (length t.points) e (element (with_element x t) e)
    at e (before_end l) = subst (Names (length t.points) e) (sym (element_same t (with_element x t) e (grown_element x t) l)) (f.names e l)
    at e (at_end q) =
        subst (λ (k : ℕ). Names (length t.points) k (element (with_element x t) k)) q
        (subst (Names (length t.points) (element_count t)) (sym (get_or-append_seam t.elements x [] (corner 0))) n)

pub fine_point : (p : List Float) (t : Table) → Fine t → Fine (with_point p t)
fine_point p t f = record {
  names = λ e h. names_more (length t.points) (length (t.points ++ p ∷ [])) e (element t e) (begins_length t.points (t.points ++ p ∷ []) (p ∷ [], refl)) (f.names e h);
  planes = f.planes;
}

pub fine_plane : (h : Plane) (t : Table) → Fine t → Fine (with_plane h t)
fine_plane h t f = record { names = f.names; planes = le_trans f.planes (begins_length t.planes (t.planes ++ h ∷ []) (h ∷ [], refl)) }

-- Test 7 over the words of the lent memory. Definitions only.
use Rattle.std.specs.Prelude.{ℕ, zero, suc, ◌+◌, ◌*◌, ◌-◌, ◌<◌, ◌≤◌, ◌≡◌, Bool, true, false, cond, List, [], ◌∷◌, map, eqb, ltb, leb, length, get_or, set, take, None}
use Rattle.rules.specs.Lists.{all, up_to, rises, member, occurrences}
use Rattle.rules.specs.Table.{Table, polytope, element_count, boundary}
use Rattle.rules.specs.Limits.{desk}
use Rattle.rules.specs.Walk.{one_ring}
use Rattle.space.specs.Numbers.{row_width, element_slice}
use Rattle.space.specs.declared.closed.Joined.{Joined}
use Rattle.space.specs.declared.closed.Joined.TheVariants.{Met, Closes, Thrice}

-- the first n entries of a list are numbers within the room, whether in use or not
pub record Low (list : List ℕ) (n : ℕ) : Type 0 where
  pub at : (k : ℕ) → k < n → get_or list k 0 < desk.elements

-- the two ends of edge x, as the memory has them
abbrev pub first_end : List ℕ → ℕ → ℕ
first_end es x = get_or es (x * row_width + 4) 0

abbrev pub second_end : List ℕ → ℕ → ℕ
second_end es x = get_or es (x * row_width + 5) 0

-- they are two numbers within the room
pub record EndsLow (es : List ℕ) (e : ℕ) : Type 0 where
  pub apart : first_end es e < second_end es e
  pub second : second_end es e < desk.elements

-- and so are those of each of the first n edges of a list, which rises
pub record LowEnds (es list : List ℕ) (n : ℕ) : Type 0 where
  pub rising : rises (take n list) ≡ true
  pub each : (k : ℕ) → k < n → EndsLow es (get_or list k 0)

-- the ends of each edge
unfoldable pub raw_ends : List ℕ → List ℕ → List ℕ
raw_ends es [] = []
raw_ends es (x ∷ xs) = first_end es x ∷ second_end es x ∷ raw_ends es xs

-- every row of the memory read as an edge: all that test 7 of a face looks at
unfoldable pub as_edges : List ℕ → Table
as_edges es = record { dimension = 0; points = []; elements = map (λ x. polytope 1 (first_end es x ∷ second_end es x ∷ []) None false) (up_to desk.elements); planes = [] }

-- no two of the edges share both ends
abbrev pub Untwinned : Table → List ℕ → Type 0
Untwinned t es = (x y : ℕ) → member x es ≡ true → member y es ≡ true → boundary t x ≡ boundary t y → x ≡ y

-- up to how many edges, in so many dimensions, it is enough to count how often each corner is met
abbrev pub few : ℕ → ℕ
few d = cond (ltb d 3) 3 5

-- each corner met lies on exactly two of the edges, as the memory has them
abbrev pub met_twice : List ℕ → List ℕ → Bool
met_twice es b = all (λ v. eqb (occurrences v (raw_ends es b)) 2) (raw_ends es b)

-- the edges make one ring, as the memory has them
abbrev pub ring_raw : List ℕ → List ℕ → Bool
ring_raw es b = one_ring (as_edges es) b

-- test 7 in d dimensions, as the code makes it: few edges are counted
abbrev pub closed_raw : ℕ → List ℕ → ℕ → List ℕ → Bool
closed_raw d es zero b = true
closed_raw d es (suc zero) b = eqb (length b) 2
closed_raw d es (suc (suc zero)) b = cond (leb (length b) (few d)) (met_twice es b) (ring_raw es b)
closed_raw d es (suc (suc (suc r))) b = true

-- each is an edge in use with two ends, the lower first
abbrev pub EachEdge : Table → List ℕ → Type 0
EachEdge t [] = Unit {0}
EachEdge t (x ∷ xs) = (x < element_count t) × (length (boundary t x) ≡ 2) × (rises (boundary t x) ≡ true) × EachEdge t xs

-- and their numbers rise, and from three dimensions on no two of them share both ends
abbrev pub Edges : Table → List ℕ → Type 0
Edges t xs = (rises xs ≡ true) × EachEdge t xs × (2 < t.dimension → Untwinned t xs)

-- ---- the corners of a face: a word for each

-- no corner is met since the stamp was new
pub record Unmet (s : ℕ) (words : List ℕ) : Type 0 where
  pub long : length words ≡ desk.elements
  pub under : (v : ℕ) → v < desk.elements → get_or words v 0 < s

-- ---- few edges: how often each corner is met

-- the word of a corner once it is met: the stamp the first time, and one more every later time
abbrev pub met_next : ℕ → ℕ → ℕ
met_next s m = cond (ltb m s) s (s + 1)

-- the words once v is met
unfoldable pub meeting : ℕ → List ℕ → ℕ → List ℕ
meeting s met v = set met v (met_next s (get_or met v 0))

-- 1 where v is met for the second time
abbrev pub is_second : ℕ → List ℕ → ℕ → ℕ
is_second s met v = cond (eqb (get_or met v 0) s) 1 0

-- the words once both ends of edge e are met
unfoldable pub both_met : ℕ → List ℕ → List ℕ → ℕ → List ℕ
both_met s es met e = meeting s (meeting s met (first_end es e)) (second_end es e)

-- how many of them for the second time
unfoldable pub seconds : ℕ → List ℕ → List ℕ → ℕ → ℕ
seconds s es met e = is_second s met (first_end es e) + is_second s (meeting s met (first_end es e)) (second_end es e)

-- ---- more edges: the paths that they make

-- what a corner's word is above the stamp once it is met twice: no path ends there
abbrev pub inside : ℕ
inside = desk.elements

-- a word below the stamp: the corner is not met; `inside` above it: met twice; else it ends a path, and the path's other end is so far above
pub record Stamped (s : ℕ) (paths : List ℕ) : Type 0 where
  pub long : length paths ≡ desk.elements
  pub under : (v : ℕ) → v < desk.elements → get_or paths v 0 < s + suc inside

-- the other end of v's path: itself where v is not met
abbrev pub far_end : ℕ → List ℕ → ℕ → ℕ
far_end s paths v = cond (ltb (get_or paths v 0) s) v (get_or paths v 0 - s)

-- an edge from a to b joins their paths, whose other ends are x and y: how many of the two were met before; or it closes a path, or one is met for the third time
abbrev pub join_code : ℕ → ℕ → ℕ → ℕ → Joined
join_code a b x y = cond (eqb x inside) Thrice (cond (eqb y inside) Thrice (cond (eqb x b) Closes (Met (cond (eqb x a) 0 1 + cond (eqb y b) 0 1))))

-- how many of its ends were met before, where it joins paths
abbrev pub met_before : Joined → ℕ
met_before (Met n) = n
met_before Closes = 0
met_before Thrice = 0

-- of the words before it and those where it joins paths, the words after it
abbrev pub words_after : Joined → List ℕ → List ℕ → List ℕ
words_after (Met n) before joining = joining
words_after Closes before joining = before
words_after Thrice before joining = before

-- the words after it
abbrev pub join_words : ℕ → List ℕ → ℕ → ℕ → ℕ → ℕ → List ℕ
join_words s paths a b x y = set (set (set (set paths a (s + inside)) b (s + inside)) x (s + y)) y (s + x)

-- both as the paths have it
abbrev pub path_code : ℕ → List ℕ → ℕ → ℕ → Joined
path_code s paths a b = join_code a b (far_end s paths a) (far_end s paths b)

abbrev pub path_words : ℕ → List ℕ → ℕ → ℕ → List ℕ
path_words s paths a b = join_words s paths a b (far_end s paths a) (far_end s paths b)

-- and for edge e of the memory
unfoldable pub joining : ℕ → List ℕ → List ℕ → ℕ → Joined
joining s es paths e = path_code s paths (first_end es e) (second_end es e)

unfoldable pub joined : ℕ → List ℕ → List ℕ → ℕ → List ℕ
joined s es paths e = path_words s paths (first_end es e) (second_end es e)

-- ---- what the functions ask for and what they answer

-- every word of a corner fits 32 bits where stamps stay below this
abbrev pub stamp_room : ℕ
stamp_room = 1000000

-- a word is put at corner v, where words lie below top
pub record PutReady (top v word : ℕ) : Type 0 where
  pub room : v < desk.elements
  pub bound : word < top

-- corner v is met under a stamp
pub record MeetReady (v s : ℕ) : Type 0 where
  pub room : v < desk.elements
  pub stamp : s < stamp_room

-- 1 where it is for the second time, and its word
pub record CornerMet (s : ℕ) (met : List ℕ) (v reply : ℕ) (met' : List ℕ) : Type 0 where
  pub count : reply ≡ is_second s met v
  pub words : met' ≡ meeting s met v

-- corners a and b are met under a stamp, one after the other
pub record BothReady (a b s : ℕ) : Type 0 where
  pub first : a < desk.elements
  pub second : b < desk.elements
  pub stamp : s < stamp_room

-- how many of them for the second time, and their words
pub record BothMet (s : ℕ) (met : List ℕ) (a b reply : ℕ) (met' : List ℕ) : Type 0 where
  pub count : reply ≡ is_second s met a + is_second s (meeting s met a) b
  pub words : met' ≡ meeting s (meeting s met a) b
  pub most : reply ≤ 2

-- the path that ends in corner v is followed
pub record PathReady (s : ℕ) (paths : List ℕ) (v : ℕ) : Type 0 where
  pub room : v < desk.elements
  pub stamped : Stamped s paths

-- the ends of edge e are taken up under a stamp
pub record EdgeReady (es : List ℕ) (e s : ℕ) : Type 0 where
  pub elements : length es ≡ element_slice
  pub room : e < desk.elements
  pub ends : EndsLow es e
  pub stamp : s < stamp_room

-- both are met: how many of them for the second time
pub record EndsMet (s : ℕ) (es met : List ℕ) (e reply : ℕ) (met' : List ℕ) : Type 0 where
  pub count : reply ≡ seconds s es met e
  pub words : met' ≡ both_met s es met e
  pub most : reply ≤ 2

-- an edge from a to b is taken up, and the corners met are the ends of paths
pub record PathsReady (a b s : ℕ) (paths : List ℕ) : Type 0 where
  pub apart : a < b
  pub second : b < desk.elements
  pub stamp : s < stamp_room
  pub stamped : Stamped s paths

-- it joins paths; nothing is written where it joins none
pub record PathsJoined (s : ℕ) (paths : List ℕ) (a b : ℕ) (reply : Joined) (paths' : List ℕ) : Type 0 where
  pub code : reply ≡ path_code s paths a b
  pub words : paths' ≡ words_after reply paths (path_words s paths a b)
  pub most : met_before reply ≤ 2

-- and the same of edge e of the memory
pub record JoinEndsReady (es : List ℕ) (e s : ℕ) (paths : List ℕ) : Type 0 where
  pub edge : EdgeReady es e s
  pub stamped : Stamped s paths

pub record EndsJoined (s : ℕ) (es paths : List ℕ) (e : ℕ) (reply : Joined) (paths' : List ℕ) : Type 0 where
  pub code : reply ≡ joining s es paths e
  pub words : paths' ≡ words_after reply paths (joined s es paths e)
  pub most : met_before reply ≤ 2

-- the numbers of a list are the edges of a face
pub record FaceReady (es list : List ℕ) : Type 0 where
  pub elements : length es ≡ element_slice
  pub size : length list ≤ suc desk.boundary
  pub low : Low list (length list)
  pub ends : LowEnds es list (length list)

-- and the boundary of an element of any rank
pub record BoundaryReady (cs es : List ℕ) (r : ℕ) (list : List ℕ) : Type 0 where
  pub counts : length cs ≡ 4
  pub elements : length es ≡ element_slice
  pub size : length list ≤ suc desk.boundary
  pub low : Low list (length list)
  pub ends : r ≡ 2 → LowEnds es list (length list)

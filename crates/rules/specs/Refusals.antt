-- Document 01, "The numbered replies": the number of each refusal, and what a call replies. Definitions only.
use Rattle.std.specs.Prelude.{ℕ, Result, Ok, Err}
use Rattle.rules.specs.declared.Refusal.{Refusal}
use Rattle.rules.specs.declared.Refusal.TheVariants.{Dimension, Radius, NotSound, NotInUse, Divider, Rank, NotClosed, VerticesFull, ElementsFull, HyperplanesFull, BoundaryFull}
use Rattle.rules.specs.declared.Refusal.TheVariants.{RoomShort, Layout, PrimordialFacet, OffGrid, ListLong}

abbrev pub refusal_number : Refusal → ℕ
refusal_number Dimension = 1
refusal_number Radius = 2
refusal_number NotSound = 3
refusal_number NotInUse = 4
refusal_number Divider = 5
refusal_number Rank = 6
refusal_number NotClosed = 7
refusal_number VerticesFull = 8
refusal_number ElementsFull = 9
refusal_number HyperplanesFull = 10
refusal_number BoundaryFull = 11
refusal_number RoomShort = 12
refusal_number Layout = 13
refusal_number PrimordialFacet = 16
refusal_number OffGrid = 25
refusal_number ListLong = 26

-- what a call gives, or why it is refused
abbrev pub Reply : Type 0 → Type 0
Reply A = Result A Refusal

-- 0 for done; what is done carries its answer, and a refusal its number alone
abbrev pub reply_number : {A : Type 0} → Reply A → ℕ
reply_number (Ok a) = 0
reply_number (Err r) = refusal_number r

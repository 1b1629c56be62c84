-- The 32 bits of a narrowed float, by the fields of its 64. Definitions only.
use Rattle.std.specs.Prelude.{ℕ, ◌+◌, ◌-◌, ◌*◌, ◌^◌, ◌<◌, ◌≡◌, ltb, if◌then◌else◌}
use Rattle.std.specs.Float.Ieee.Nearest.{closest}

-- q with its leading digit, from the digits below it
abbrev pub with_leading : ℕ → ℕ
with_leading digits = 2 ^ 52 + digits

-- The bits below the sign: 0 below half of the least value, and an infinity's past the largest. Between them 29 digits are dropped, and each step of the
-- field is one of the shorter field; below the shorter format's normal range more are dropped, and its field is 0. A digit carried out of the kept ones
-- moves the field up by itself.
unfoldable pub narrowed_size : ℕ → ℕ → ℕ
narrowed_size field digits =
    if ltb field 873 then 0
    else if ltb 1150 field then 255 * 2 ^ 23
    else if ltb field 897 then closest (with_leading digits) (2 ^ (926 - field))
    else ((field - 897) * 2 ^ 23 + closest (with_leading digits) (2 ^ 29))

-- a number, and that it is small enough to be added to
pub record NumberUnder (value bound reply : ℕ) : Type 0 where
  pub is : reply ≡ value
  pub below : reply < bound

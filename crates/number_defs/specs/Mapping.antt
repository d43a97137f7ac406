-- A number as the value of its difference to the one before, from 0; numbers are given by their heights.
-- (CCSDS 122.0-B-2, section 4.3.2.)
use Rattle.std.specs.Prelude.{ℕ, ◌+◌, ◌-◌, ◌*◌, ◌/◌, ◌%◌, ◌^◌, ◌==◌, min, if◌then◌else◌, nat_le}

-- the distance that is in the range both below and above a number p of N bits
abbrev pub theta : ℕ → ℕ → ℕ
theta N p = min p (2 ^ N - 1 - p)

-- the mapped value of the number c after the number p
unfoldable pub mapped : ℕ → ℕ → ℕ → ℕ
mapped N p c =
    if nat_le p c
    then (if nat_le (c - p) (theta N p) then 2 * (c - p) else theta N p + (c - p))
    else (if nat_le (p - c) (theta N p) then 2 * (p - c) - 1 else theta N p + (p - c))

-- the number after p that has the mapped value v: up if v is even, down if it is odd, and if only one side
-- has room, v - theta away to that side
unfoldable pub unmapped : ℕ → ℕ → ℕ → ℕ
unmapped N p v =
    if nat_le v (2 * theta N p)
    then (if v % 2 == 0 then p + v / 2 else p - (v + 1) / 2)
    else (if nat_le p (2 ^ N - 1 - p) then v else 2 ^ N - 1 - v)

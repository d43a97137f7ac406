-- The octets that a reader has and can still take. This project's own.
use Rattle.std.specs.Prelude.{ℕ, ◌-◌, ◌||◌, Bool, nat_lt, if◌then◌else◌, List, [], ◌++◌, length, take}
use Rattle.space_packets.specs.Intake.{Intake}

-- the octets that wait in a reader or that it can still take, if these are left
abbrev pub arriving : Intake → List ℕ → List ℕ
arriving v rest = v.pending ++ (if v.ended then [] else take (v.cap - v.taken) rest)

-- the end is reached before the cap
abbrev pub sees_end : Intake → List ℕ → Bool
sees_end v rest = v.ended || nat_lt (length rest) (v.cap - v.taken)

-- A slice that octets fill from its beginning.
use Rattle.std.specs.Prelude.{◌≡◌, ◌<◌, ℕ, ◌+◌, ◌-◌, ◌^◌, min, List, ◌++◌, length, take, drop}

-- the reference that has the slice, what the slice holds, how many octets of it were given, and how often a
-- call has failed
pub record Filling : Type 0 where
  pub name : ℕ
  pub slice : List ℕ
  pub len : ℕ
  pub faults : ℕ

-- these octets follow those before, and the rest is as it was
pub record Fills (old new : Filling) (octets : List ℕ) : Type 0 where
  pub name : new.name ≡ old.name
  pub len : new.len ≡ old.len + length octets
  pub prefix : take new.len new.slice ≡ take old.len old.slice ++ octets
  pub rest : drop new.len new.slice ≡ drop new.len old.slice
  pub size : length new.slice ≡ length old.slice
  pub faults : new.faults ≡ old.faults

-- a prefix of these octets follows those before and fills the slice, and there are more; the call of each of the
-- others failed, and the count of faults ends at 2 ^ 64 - 1
pub record Overfills (old new : Filling) (octets : List ℕ) : Type 0 where
  pub name : new.name ≡ old.name
  pub fitting : List ℕ
  pub over : List ℕ
  pub parts : octets ≡ fitting ++ over
  pub some : 0 < length over
  pub full : length new.slice ≡ new.len
  pub prefix : new.slice ≡ take old.len old.slice ++ fitting
  pub size : length new.slice ≡ length old.slice
  pub faults : new.faults ≡ min (old.faults + length over) (2 ^ 64 - 1)

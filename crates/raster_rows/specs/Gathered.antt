-- Octets of rows that wait to be given. This project's own.
use Rattle.std.specs.Prelude.{◌≡◌, ◌≤◌, ℕ, Bool, List, [], ◌++◌, length, take, Result, MatchResult}
use Rattle.port_122.specs.Outside.{Outside, Exchange, NoRead, Rose}
use Rattle.raster_rows.specs.declared.gathered.GatheredRows.{GatheredRows}

-- the octets that wait, and the form of the rows
abbrev pub waiting_of : GatheredRows → List ℕ
waiting_of s = take s.held s.octets

abbrev pub depth_of : GatheredRows → ℕ
depth_of s = s.form.depth

abbrev pub is_signed : GatheredRows → Bool
is_signed s = s.form.signed

abbrev pub width_of : GatheredRows → ℕ
width_of s = s.width

-- the form of the rows stays
pub record IsAlike (old new : GatheredRows) : Type 0 where
  pub depth : depth_of new ≡ depth_of old
  pub signed : is_signed new ≡ is_signed old
  pub width : width_of new ≡ width_of old

-- octets are added after those that wait, and the first of all are given
pub record Adds (p q : Outside) (before after octets : List ℕ) : Type 0 where
  pub gave : List ℕ
  pub out : Exchange p q [] gave [] NoRead
  pub all : gave ++ after ≡ before ++ octets

-- a write failed, and a prefix of these octets is given
pub record GivesPart (p q : Outside) (octets : List ℕ) : Type 0 where
  pub rose : Rose p.write_faults q.write_faults
  pub count : ℕ
  pub within : count ≤ length octets
  pub out : Exchange p q [] (take count octets) [] NoRead

abbrev pub AddsAll : {T E : Type 0} → Result T E → (p q : Outside) (before after octets : List ℕ) → Type 0
AddsAll result p q before after octets = MatchResult result (λ _. Adds p q before after octets) (λ _. GivesPart p q (before ++ octets))

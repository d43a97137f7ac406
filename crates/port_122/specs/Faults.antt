-- The counts of faults after a call. This project's own.
use Rattle.std.specs.Prelude.{◌≡◌, ◌+◌, ◌-◌, ◌^◌, ℕ, min, Result, Ok, Err}
use Rattle.port_122.specs.Outside.{Outside}

-- a count of faults after a call with this result: it is one more after a failure, and stops at 2^64 - 1
abbrev pub faults_after : {T E : Type 0} → Result T E → ℕ → ℕ
faults_after (Ok done) faults = faults
faults_after (Err failed) faults = min (faults + 1) (2 ^ 64 - 1)

-- these are the counts of faults
pub record HasFaults (now : Outside) (reads writes notes : ℕ) : Type 0 where
  pub read_faults : now.read_faults ≡ reads
  pub write_faults : now.write_faults ≡ writes
  pub note_faults : now.note_faults ≡ notes

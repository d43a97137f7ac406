-- One run of a command's engine. This project's own.
use Rattle.std.specs.Prelude.{◌≡◌, ◌≤◌, ℕ, List, [], length}
use Rattle.port_122.specs.Outside.{Outside, Exchange, NoRead}
use Rattle.strip122.specs.Notes.{IsNoted, Report, memory_report}

-- what an engine does at a read call
abbrev pub Asking : Type 1
Asking = Outside → List ℕ → List ℕ → ℕ → ℕ → Type 0

-- What was taken, given and noted, when, and the engine's answer, which has its cause, its status and its note.
pub record Ran {R : Type 0} (causes : Outside → Outside → List ℕ → List ℕ → R → Type 0) (asks : Asking)
    (report_of : R → Report) (old new : Outside) (status : ℕ) : Type 0 where
  pub answer : R
  pub took : List ℕ
  pub gave : List ℕ
  pub wrote : List ℕ
  pub since : Exchange old new took gave wrote (asks old took gave)
  pub cause : causes old new took gave answer
  pub status_is : status ≡ (report_of answer).status
  pub noted : IsNoted old new wrote (report_of answer).line

-- An answer and its cause, for which at most `most` octets were taken.
pub record CausedWithin {R : Type 0} (most : ℕ) (causes : Outside → Outside → List ℕ → List ℕ → R → Type 0) (old new : Outside) (took gave : List ℕ)
    (answer : R) : Type 0 where
  pub within : length took ≤ most
  pub cause : causes old new took gave answer

-- There is too little memory for the engine: nothing is read or given.
pub record LacksMemory (old new : Outside) (status : ℕ) : Type 0 where
  pub wrote : List ℕ
  pub since : Exchange old new [] [] wrote NoRead
  pub status_is : status ≡ memory_report.status
  pub noted : IsNoted old new wrote memory_report.line

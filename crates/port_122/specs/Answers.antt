-- What ends a call that is made again while it is interrupted. This project's own.
use Rattle.std.specs.Prelude.{◌≡◌, ◌≢◌, ◌⊎◌, ◌<◌, ◌-◌, ◌^◌, ℕ, zero, suc, Result, Ok, Err, IsErr, IfErr, MatchResult}
use Rattle.std.specs.IoError.{error_kind}
use Rattle.std.specs.declared.io.Error.{Error}
use Rattle.std.specs.declared.io.ErrorKind.TheVariants.{Interrupted}

-- this number of calls, each of which was interrupted, leads from old to now
abbrev pub Interruptions : {I : Type 0} → (I → Result ℕ Error → I → Type 0) → I → ℕ → I → Type 0
Interruptions answers old zero now = now ≡ old
Interruptions answers old (suc n) now =
    (last : _) × (e : Error) × Interruptions answers old n last × (error_kind e ≡ Interrupted) × answers last (Err e) now

-- it's an answer that isn't an interruption
abbrev pub IsFinal : Result ℕ Error → Type 0
IsFinal answer = IfErr answer (λ e. error_kind e ≢ Interrupted)

-- Calls that lead from old to new end with this answer: all before it were interrupted, and it's no interruption, or
-- 2^64 - 1 calls were interrupted and it's an error.
abbrev pub EndsWith : {I : Type 0} → (I → Result ℕ Error → I → Type 0) → I → Result ℕ Error → I → Type 0
EndsWith answers old answer new = (n : ℕ) × (last : _) × Interruptions answers old n last × IsFinal answer ×
    (answers last answer new ⊎ ((n ≡ 2 ^ 64 - 1) × (new ≡ last) × IsErr answer))

-- a port returns the number of a reader's answer, and fails at an error
abbrev pub IsRead : {E : Type 0} → Result ℕ Error → Result ℕ E → Type 0
IsRead answer result = MatchResult answer (λ n. result ≡ Ok n) (λ _. IsErr result)

-- a port returns the number of a writer's answer, and fails at an error, and at none of some octets
abbrev pub IsWritten : {E : Type 0} → ℕ → Result ℕ Error → Result ℕ E → Type 0
IsWritten octets answer result = MatchResult answer
    (λ n. (result ≡ Ok n) ⊎ ((n ≡ 0) × (0 < octets) × IsErr result))
    (λ _. IsErr result)

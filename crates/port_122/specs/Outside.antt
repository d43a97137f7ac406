-- What is known of the outside at one moment, and what a stretch of calls does to it. This project's own.
use Rattle.std.specs.Prelude.{◌≡◌, ◌<◌, ◌≤◌, ◌+◌, ◌-◌, ◌^◌, ℕ, min, List, [], ◌∷◌, ◌++◌, length, take, ⊤, Option, None, Some, Result, MatchResult}
use Rattle.std.specs.List.{AllByRecursion}

-- the octets that a port reports, and how often each kind of call has failed
pub record Outside : Type 0 where
  pub rest : Option (List ℕ)
  pub taken : Option (List ℕ)
  pub given : Option (List ℕ)
  pub noted : Option (List ℕ)
  pub asked : Option (List (ℕ × ℕ))
  pub read_faults : ℕ
  pub write_faults : ℕ
  pub note_faults : ℕ

-- what is known afterwards was known before, and has grown by this list
abbrev pub Grows : {A : Type 0} → Option (List A) → Option (List A) → List A → Type 0
Grows old None xs = ⊤
Grows None (Some now) xs = ⊥
Grows (Some before) (Some now) xs = now ≡ before ++ xs

-- it is known before and afterwards, or never, and began with this list
abbrev pub Loses : Option (List ℕ) → Option (List ℕ) → List ℕ → Type 0
Loses None None xs = ⊤
Loses (Some before) (Some now) xs = before ≡ xs ++ now
Loses old now xs = ⊥

-- nothing is left, if that is known
abbrev pub IsUsedUp : Option (List ℕ) → Type 0
IsUsedUp None = ⊤
IsUsedUp (Some left) = left ≡ []

-- nothing is left to be read
abbrev pub AtEnd : Outside → Type 0
AtEnd now = IsUsedUp now.rest

-- a count of faults rose, or is at its end
abbrev pub Rose : ℕ → ℕ → Type 0
Rose before now = min (before + 1) (2 ^ 64 - 1) ≤ now

-- a read call is recorded with the numbers of octets taken and given at its start
abbrev pub Enters : Option (List (ℕ × ℕ)) → Option (List (ℕ × ℕ)) → Option (List ℕ) → Option (List ℕ) → Type 0
Enters old None taken given = ⊤
Enters (Some before) (Some now) (Some taken) (Some given) = now ≡ before ++ (length taken, length given) ∷ []
Enters old (Some now) taken given = ⊥

-- these counts are past those of a start by i and j for which Q holds
abbrev pub CountedFrom : Option (List ℕ) → Option (List ℕ) → (ℕ → ℕ → Type 0) → ℕ × ℕ → Type 0
CountedFrom (Some taken) (Some given) Q entry =
    (i : ℕ) × (j : ℕ) × (entry.0 ≡ length taken + i) × (entry.1 ≡ length given + j) × Q i j
CountedFrom taken given Q entry = ⊥

-- at each read call that was entered since a start, Q holds of the numbers of octets taken and given since
abbrev pub AsksOnly : Option (List (ℕ × ℕ)) → Option (List (ℕ × ℕ)) → Option (List ℕ) → Option (List ℕ) → (ℕ → ℕ → Type 0) → Type 0
AsksOnly old None taken given Q = ⊤
AsksOnly None (Some now) taken given Q = ⊥
AsksOnly (Some before) (Some now) taken given Q =
    (more : List (ℕ × ℕ)) × (now ≡ before ++ more) × AllByRecursion (CountedFrom taken given Q) more

-- no count of faults has fallen
pub record NoFewerFaults (old new : Outside) : Type 0 where
  pub reads : old.read_faults ≤ new.read_faults
  pub writes : old.write_faults ≤ new.write_faults
  pub notes : old.note_faults ≤ new.note_faults

-- From old to new exactly these octets were taken, given and noted, and at each read call, which had taken and
-- given some of them, Q held of their numbers.
pub record Exchange (old new : Outside) (took gave wrote : List ℕ) (Q : ℕ → ℕ → Type 0) : Type 0 where
  pub rest : Loses old.rest new.rest took
  pub taken : Grows old.taken new.taken took
  pub given : Grows old.given new.given gave
  pub noted : Grows old.noted new.noted wrote
  pub asked : AsksOnly old.asked new.asked old.taken old.given (λ i j. (i ≤ length took) × (j ≤ length gave) × Q i j)
  pub faults : NoFewerFaults old new

-- a read call with i octets taken and j given, which are those that are due for the octets taken
abbrev pub GivenBy : (List ℕ → List ℕ) → List ℕ → ℕ → ℕ → Type 0
GivenBy given_for took i j = j ≡ length (given_for (take i took))

-- no read call
abbrev pub NoRead : ℕ → ℕ → Type 0
NoRead i j = ⊥

-- a read call only at the start
abbrev pub AtStart : ℕ → ℕ → Type 0
AtStart i j = (i ≡ 0) × (j ≡ 0)

-- a read of n octets into a piece that then has these octets
pub record Read (old new : Outside) (piece : List ℕ) (n : ℕ) : Type 0 where
  pub within : n ≤ length piece
  pub since : Exchange old new (take n piece) [] [] AtStart
  pub entered : Enters old.asked new.asked old.taken old.given
  pub at_end : n ≡ 0 → 0 < length piece → AtEnd new

-- a read that failed
pub record ReadFailed (old new : Outside) : Type 0 where
  pub since : Exchange old new [] [] [] AtStart
  pub rose : Rose old.read_faults new.read_faults

-- a write of the first n of these octets
pub record Written (old new : Outside) (octets : List ℕ) (n : ℕ) : Type 0 where
  pub within : n ≤ length octets
  pub some : 0 < length octets → 0 < n
  pub since : Exchange old new [] (take n octets) [] NoRead

-- a write that failed
pub record WriteFailed (old new : Outside) : Type 0 where
  pub since : Exchange old new [] [] [] NoRead
  pub rose : Rose old.write_faults new.write_faults

-- a note of the first n of these octets
pub record Noted (old new : Outside) (octets : List ℕ) (n : ℕ) : Type 0 where
  pub within : n ≤ length octets
  pub some : 0 < length octets → 0 < n
  pub since : Exchange old new [] [] (take n octets) NoRead

-- a note that failed
pub record NoteFailed (old new : Outside) : Type 0 where
  pub since : Exchange old new [] [] [] NoRead
  pub rose : Rose old.note_faults new.note_faults

-- the result of a call that writes all of these octets: a prefix of them is written if it failed
abbrev pub WritesAll : {T E : Type 0} → Result T E → Outside → Outside → List ℕ → Type 0
WritesAll result old new octets = MatchResult result
    (λ _. Exchange old new [] octets [] NoRead)
    (λ _. Rose old.write_faults new.write_faults × ((n : ℕ) × (n ≤ length octets) × Exchange old new [] (take n octets) [] NoRead))

abbrev pub NotesAll : {T E : Type 0} → Result T E → Outside → Outside → List ℕ → Type 0
NotesAll result old new octets = MatchResult result
    (λ _. Exchange old new [] [] octets NoRead)
    (λ _. Rose old.note_faults new.note_faults × ((n : ℕ) × (n ≤ length octets) × Exchange old new [] [] (take n octets) NoRead))

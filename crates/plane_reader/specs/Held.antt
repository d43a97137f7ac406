-- A window of the text that is held while several words are read from it: the input is behind by the bits that were read of it.
-- (This project's own.)
use Rattle.std.specs.Prelude.{◌≡◌, ◌≤◌, ℕ, ◌+◌, ◌*◌, ◌%◌, ◌^◌, if◌then◌else◌, nat_le, List, [], ◌++◌, Bool}
use Rattle.bit_pipe.specs.Sources.{SourceOf}
use Rattle.bit_pipe.specs.SourceState.{SourceState, Takes, IsEnd, FailsSo}
use Rattle.bit_pipe.specs.Windows.{IsWindow, first_of}
use Rattle.item_defs.specs.Scripts.{Script}
use Rattle.bit_pipe.specs.ScriptSources.{Found, got, ends, refuses, fails, Says, GoesOn}
use Rattle.plane_reader.specs.declared.cursor.Cursor.{Cursor}

-- the bits that were read of a window: none if it is not there
abbrev pub read_of : Cursor → List Bool
read_of c = if nat_le c.used 56 then first_of c.used c.window else []

-- the window has this number of bits left
abbrev pub has_left : ℕ → Cursor → Type 0
has_left count c = c.used + count ≤ 56

-- the window, if it is there, has the bits that the input has next, and its rest those after what was read
pub record Holds {I : Type 0} (k : SourceOf I) (s : SourceState I) (c : Cursor) : Type 0 where
  pub window : c.used ≤ 56 → IsWindow k s c.window
  pub rest : c.used ≤ 56 → c.rest ≡ c.window * 2 ^ c.used % 2 ^ 64

-- a place in a text: the input, and the bits after it that were read of a window
pub record Point (I : Type 0) : Type 0 where
  pub input : SourceState I
  pub read : List Bool

abbrev pub point : {I : Type 0} → SourceState I → Cursor → Point I
point s c = record { input = s; read = read_of c }

-- these bits are between two places
pub record Moves {I : Type 0} (k : SourceOf I) (old new : Point I) (bits : List Bool) : Type 0 where
  pub moved : List Bool
  pub taken : Takes k old.input new.input moved
  pub same : moved ++ new.read ≡ old.read ++ bits

abbrev pub Stays : {I : Type 0} → SourceOf I → Point I → Point I → Type 0
Stays k old new = Moves k old new []

abbrev pub StopsAt : {I G A : Type 0} → SourceOf I → Found G A → Point I → Point I → Type 0
StopsAt k (got a) old new = Unit {0}
StopsAt k (ends g) old new = IsEnd k new.input × (new.read ≡ [])
StopsAt k (refuses g name) old new = Unit {0}
StopsAt k (fails g e) old new = FailsSo k e old.input new.input × (new.read ≡ [])

-- exactly the bits that decide what was found were read
pub record ReadsFrom {I G A : Type 0} (k : SourceOf I) (s : Script G A) (found : Found G A) (old new : Point I) : Type 0 where
  pub bits : List Bool
  pub moves : Moves k old new bits
  pub says : Says s bits found
  pub stops : StopsAt k found old new

-- some bits were read, and then the rest follows
pub record LeadsTo {I G A : Type 0} (k : SourceOf I) (all rest : Script G A) (old new : Point I) : Type 0 where
  pub bits : List Bool
  pub moves : Moves k old new bits
  pub goes : GoesOn all bits rest

-- The effect of octets of a text that are written to a port in pieces. (This project's own.)
use Rattle.std.specs.Prelude.{◌≡◌, ◌≤◌, ◌+◌, ◌^◌, ℕ, List, [], ◌++◌, length, take, Result, MatchResult}
use Rattle.port_122.specs.Outside.{Outside, Exchange, NoRead, Rose}
use Rattle.bare_stream.specs.declared.sink.TextSink.{TextSink}

-- the octets that wait for the rest of their piece
abbrev pub waiting : {X : Type 0} → TextSink X → List ℕ
waiting s = s.piece.items

-- the octets were given: those that waited and these are written, except those that wait now
pub record Gave {X : Type 0} (outside : X → Outside) (old new : TextSink X) (octets : List ℕ) : Type 0 where
  pub port : new.port.ghost_name ≡ old.port.ghost_name
  pub wrote : List ℕ
  pub out : Exchange (outside old.port.now) (outside new.port.now) [] wrote [] NoRead
  pub waits : waiting old ++ octets ≡ wrote ++ waiting new
  pub few : old.given ≤ 2 ^ 32 → new.given ≤ 2 ^ 32
  pub given : new.given ≡ old.given + length octets

-- a write failed while they were given: a prefix of those that waited and these is written
pub record Broke {X : Type 0} (outside : X → Outside) (old new : TextSink X) (octets : List ℕ) : Type 0 where
  pub port : new.port.ghost_name ≡ old.port.ghost_name
  pub wrote : List ℕ
  pub more : List ℕ
  pub out : Exchange (outside old.port.now) (outside new.port.now) [] wrote [] NoRead
  pub waits : waiting old ++ octets ≡ wrote ++ more

-- the octets that waited were written
pub record HasFlushed {X : Type 0} (outside : X → Outside) (old new : TextSink X) : Type 0 where
  pub port : new.port.ghost_name ≡ old.port.ghost_name
  pub out : Exchange (outside old.port.now) (outside new.port.now) [] (waiting old) [] NoRead
  pub none : waiting new ≡ []
  pub given : new.given ≡ old.given

-- a write of them failed, and a prefix of them is written
pub record HasNotFlushed {X : Type 0} (outside : X → Outside) (old new : TextSink X) : Type 0 where
  pub port : new.port.ghost_name ≡ old.port.ghost_name
  pub some : ℕ
  pub within : some ≤ length (waiting old)
  pub out : Exchange (outside old.port.now) (outside new.port.now) [] (take some (waiting old)) [] NoRead
  pub rose : Rose (outside old.port.now).write_faults (outside new.port.now).write_faults

abbrev pub Flushes : {X T E : Type 0} → (X → Outside) → Result T E → TextSink X → TextSink X → Type 0
Flushes outside result old new = MatchResult result (λ _. HasFlushed outside old new) (λ _. HasNotFlushed outside old new)

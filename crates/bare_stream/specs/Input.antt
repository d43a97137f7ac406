-- What is known of the octets of a port that are taken up to a cap. (This project's own.)
use Rattle.std.specs.Prelude.{◌≡◌, ◌⊎◌, ◌<◌, ◌+◌, ◌-◌, ◌^◌, ℕ, List, [], ◌∷◌, ◌++◌, length, take, drop, Bool, true, false, nat_lt, if◌then◌else◌}
use Rattle.std.specs.Prelude.{Option, None, Some, Result, Ok, Err}
use Rattle.port_122.specs.Outside.{Outside, Exchange, AtStart, AtEnd, Rose}
use Rattle.bit_pipe.specs.Sources.{Plainly, TooLong, Tail}
use Rattle.bit_pipe.specs.declared.fault.InFault.{InFault}
use Rattle.bit_pipe.specs.declared.fault.InFault.TheVariants.{ReadFault, LongInput, Broken}
use Rattle.bare_stream.specs.declared.input.PortIn.{PortIn}

-- the octets that were taken and not given yet
abbrev pub waiting : {X : Type 0} → PortIn X → List ℕ
waiting s = take (s.end - s.next) (drop s.next s.piece)

-- the octets that still follow, if the port reports what is left: those that wait, and then at most `left` of the others
abbrev pub tail_with : Option (List ℕ) → (waiting : List ℕ) → (left : ℕ) → Option Tail
tail_with None waiting left = None
tail_with (Some rest) waiting left = Some (record { octets = waiting ++ take left rest; ends = if nat_lt (length rest) left then Plainly else TooLong })

abbrev pub tail_of : {X : Type 0} → (X → Outside) → PortIn X → Option Tail
tail_of outside s = tail_with (outside s.port.now).rest (waiting s) s.left

-- the faults that were seen: after one each call fails, so their number is at its end
abbrev pub faults_of : {X : Type 0} → PortIn X → ℕ
faults_of s = if s.failed then 2 ^ 64 else 0

-- the call that took the last octets found the end, or failed: nothing is taken after it
pub record IsLast (took : List ℕ) (failed : Bool) (left : Option (List ℕ)) (i : ℕ) : Type 0 where
  pub all : i ≡ length took
  pub over : (failed ≡ true) ⊎ (left ≡ Some [])

-- A read call within the cap, at which all octets that were taken are among the first ones that are given, and one more is given; or none
-- is taken at it and after it.
abbrev pub AsksWithin : {X : Type 0} → (X → Outside) → (old new : PortIn X) → (took gave : List ℕ) → ℕ → ℕ → Type 0
AsksWithin outside old new took gave i j =
    (j ≡ 0) × (i < old.left)
    × ((length (waiting old) + i < length gave) ⊎ ((input : List ℕ) → (outside old.port.now).rest ≡ Some input →
    IsLast took new.failed (outside new.port.now).rest i))

-- Some octets were taken and some given: each read call had given all octets that were taken by then, and an octet that it took was given.
pub record Went {X : Type 0} (outside : X → Outside) (old new : PortIn X) : Type 0 where
  pub port : new.port.ghost_name ≡ old.port.ghost_name
  pub took : List ℕ
  pub gave : List ℕ
  pub flow : waiting old ++ took ≡ gave ++ waiting new
  pub left : length took + new.left ≡ old.left
  pub since : Exchange (outside old.port.now) (outside new.port.now) took [] [] (AsksWithin outside old new took gave)
  pub stops : old.failed ≡ true → (took ≡ []) × (new.failed ≡ true)
  pub rises : new.failed ≡ true → (old.failed ≡ true) ⊎ Rose (outside old.port.now).read_faults (outside new.port.now).read_faults

-- the reason for each result of a read of a piece
abbrev pub EndsFill : {X : Type 0} → (X → Outside) → Result Bool InFault → (old new : PortIn X) → Type 0
EndsFill outside (Ok true) old new = (0 < length (waiting new)) × (old.failed ≡ false) × (new.failed ≡ false)
EndsFill outside (Ok false) old new = (waiting new ≡ []) × AtEnd (outside new.port.now) × (0 < old.left) × (old.failed ≡ false) × (new.failed ≡ false)
EndsFill outside (Err ReadFault) old new =
    (waiting new ≡ []) × (new.failed ≡ true) × ((old.failed ≡ true) ⊎ Rose (outside old.port.now).read_faults (outside new.port.now).read_faults)
EndsFill outside (Err LongInput) old new = (waiting new ≡ []) × (old.left ≡ 0) × (new.failed ≡ old.failed)
EndsFill outside (Err Broken) old new = ⊥

-- a read call within the cap, with nothing taken before
abbrev pub AsksOnce : (left : ℕ) → ℕ → ℕ → Type 0
AsksOnce left i j = AtStart i j × (0 < left)

-- a piece was read while no octet waited
pub record FillsPiece {X : Type 0} (outside : X → Outside) (result : Result Bool InFault) (old new : PortIn X) : Type 0 where
  pub port : new.port.ghost_name ≡ old.port.ghost_name
  pub left : length (waiting new) + new.left ≡ old.left
  pub since : Exchange (outside old.port.now) (outside new.port.now) (waiting new) [] [] (AsksOnce old.left)
  pub ends : EndsFill outside result old new

-- the first octet that waited was given
pub record GivesFirst {X : Type 0} (octet : ℕ) (old new : PortIn X) : Type 0 where
  pub port : new.port ≡ old.port
  pub left : new.left ≡ old.left
  pub failed : new.failed ≡ old.failed
  pub waits : waiting old ≡ octet ∷ waiting new

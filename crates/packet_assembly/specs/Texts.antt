-- The effect of a call for the next octet of a text. This project's own.
use Rattle.std.specs.Prelude.{◌≡◌, ◌<◌, ◌++◌, ℕ, take, List, [], ◌∷◌, Option, None, Some, Result, Ok, Err, IfOk, Bool, true, false, length}
use Rattle.bit_pipe.specs.Sources.{Plainly, TooLong, InPieces, Arrives, IsOver}
use Rattle.bit_pipe.specs.declared.fault.InFault.{InFault}
use Rattle.bit_pipe.specs.declared.fault.InFault.TheVariants.{ReadFault, LongInput, Broken}
use Rattle.port_122.specs.Outside.{Outside, Exchange, Rose}
use Rattle.packet_defs.specs.Streams.{whole_packets}
use Rattle.stream_defs.specs.declared.fate.FateState.{FateState}
use Rattle.stream_defs.specs.Fates.{after}
use Rattle.packet_assembly.specs.Assembling.{Assembling, is_first, is_closed}
use Rattle.packet_assembly.specs.Notes.{text_brought}
use Rattle.packet_assembly.specs.Segments.{Continues}
use Rattle.packet_assembly.specs.Tails.{known_tail}

-- why no octet was given
abbrev pub FailsSo : InFault → (old new : Outside) (b : Assembling) → Type 0
FailsSo ReadFault old new b = Rose old.read_faults new.read_faults
FailsSo LongInput old new b = IsOver (known_tail new b) TooLong
FailsSo Broken old new b = IsOver (known_tail new b) InPieces

-- the octets that were given
abbrev pub ArrivesSo : (old new : Outside) (a b : Assembling) → List ℕ → Type 0
ArrivesSo old new a b octets = Arrives (known_tail old a) (known_tail new b) octets

abbrev pub EndsTaken : (old new : Outside) (a b : Assembling) → Result (Option ℕ) InFault → Type 0
EndsTaken old new a b (Ok (Some octet)) = ArrivesSo old new a b (octet ∷ []) × (octet < 256)
EndsTaken old new a b (Ok None) = ArrivesSo old new a b [] × IsOver (known_tail new b) Plainly
EndsTaken old new a b (Err fault) = ArrivesSo old new a b [] × FailsSo fault old new b

-- ---- no call reads while an octet of the text, its end or its break was read already

-- none of these packets, one after another, adds an octet to the text, begins another segment or closes the text
abbrev pub BringsNone : (apid : ℕ) → FateState → List (List ℕ) → Type 0
BringsNone apid s [] = Unit {0}
BringsNone apid s (packet ∷ packets) =
    (text_brought apid s packet ≡ []) × (is_first apid s packet ≡ false) × (is_closed (after apid s packet).last ≡ false)
    × BringsNone apid (after apid s packet) packets

-- no octet waited, the text was open, and these packets left it so
pub record NoneReady (a : Assembling) (packets : List (List ℕ)) : Type 0 where
  pub unheld : a.held ≡ None
  pub empty : a.text ≡ []
  pub unclosed : is_closed a.state.last ≡ false
  pub none : BringsNone a.apid a.state packets

-- a read call with i of these octets taken, whose packets leave the text in this state, and none given
abbrev pub AsksNoneReady : Assembling → List ℕ → ℕ → ℕ → Type 0
AsksNoneReady a took i j = NoneReady a (whole_packets (a.intake.pending ++ take i took)) × (j ≡ 0)

-- all read calls are of this kind
pub record Silent (old new : Outside) (a : Assembling) : Type 0 where
  pub took : List ℕ
  pub asks : Exchange old new took [] [] (AsksNoneReady a took)

-- ---- the calls

-- The text's next octet, or its end, or why there is none. At the end the packets that were passed have closed the text.
pub record TakesOctet (old new : Outside) (a b : Assembling) (result : Result (Option ℕ) InFault) : Type 0 where
  pub goes : Continues old new a b
  pub silent : Silent old new a
  pub closed : result ≡ Ok None → (b.held ≡ None) × (is_closed b.state.last ≡ true)
  pub ends : EndsTaken old new a b result

abbrev pub EndsFilling : (old new : Outside) (a b : Assembling) → Result Bool InFault → Type 0
EndsFilling old new a b (Ok true) = 0 < length b.text
EndsFilling old new a b (Ok false) = IsOver (known_tail new b) Plainly
EndsFilling old new a b (Err fault) = FailsSo fault old new b

-- octets of the text wait, or its end, or why there is none
pub record FillsText (old new : Outside) (a b : Assembling) (result : Result Bool InFault) : Type 0 where
  pub goes : Continues old new a b
  pub silent : Silent old new a
  pub arrives : ArrivesSo old new a b []
  pub unheld : IfOk result (λ _. b.held ≡ None)
  pub closed : result ≡ Ok false → is_closed b.state.last ≡ true
  pub ends : EndsFilling old new a b result

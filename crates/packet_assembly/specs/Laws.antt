-- What all calls that go packet by packet preserve. This project's own.
use Rattle.std.specs.Prelude.{◌≡◌, Option, None, Result, Ok, Err}
use Rattle.bit_pipe.specs.declared.fault.InFault.{InFault}
use Rattle.bit_pipe.specs.declared.fault.InFault.TheVariants.{LongInput}
use Rattle.port_122.specs.Outside.{Outside}
use Rattle.packet_assembly.specs.declared.note.PacketNote.{PacketNote}
use Rattle.packet_assembly.specs.Assembling.{Assembling}
use Rattle.packet_assembly.specs.Notes.{ReadsNote}
use Rattle.packet_assembly.specs.Segments.{IsValidEnded, IsValidLong}

-- after the end, what can't be read on and an input that is too long each further call returns the same
pub record AnswersAgain : Type 0 where
  pub ended : (old new : Outside) (a b : Assembling) (result : Result (Option PacketNote) InFault) → ReadsNote old new a b result → IsValidEnded a →
      (result ≡ Ok None) × IsValidEnded b
  pub long : (old new : Outside) (a b : Assembling) (result : Result (Option PacketNote) InFault) → ReadsNote old new a b result → IsValidLong a →
      (result ≡ Err LongInput) × IsValidLong b

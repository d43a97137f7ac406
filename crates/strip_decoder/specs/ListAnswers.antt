-- How a list of packets ends, by what it took and gave. This project's own.
use Rattle.std.specs.Prelude.{◌≡◌, ◌≤◌, ℕ, List, [], length, take, false, Result, Ok, Err}
use Rattle.port_122.specs.Outside.{Outside, Exchange, Rose}
use Rattle.base_122.specs.declared.wish.DecodeWish.{DecodeWish}
use Rattle.packet_defs.specs.Streams.{whole_packets, left_over, has_bad_version, framing}
use Rattle.packet_assembly.specs.Readings.{IsReadOut, AsksReadable}
use Rattle.strip_decoder.specs.declared.list.ListDone.{ListDone}
use Rattle.strip_decoder.specs.declared.list.ListFault.{ListFault}
use Rattle.strip_decoder.specs.declared.list.ListFault.TheVariants.{ReadFault, WriteFault, LongInput, Memory}
use Rattle.strip_decoder.specs.PacketLines.{listing}
use Rattle.strip_decoder.specs.ListProgress.{AsksListed}

-- What is given is the lines of all packets of the octets that were taken, and they were read to the end, or can't be read on for this
-- reason.
pub record IsListing (wish : DecodeWish) (new : Outside) (took gave : List ℕ) (done : ListDone) : Type 0 where
  pub lines : gave ≡ listing wish.apid took
  pub packets : done.packets ≡ length (whole_packets took)
  pub framing_is : done.framing ≡ framing took
  pub out : IsReadOut wish.octets new took

-- Why the call ended so. If the port reports what is left, what was taken and the end decide between a list that is done and an input that
-- is too long.
abbrev pub Answers : DecodeWish → (old new : Outside) → (took gave : List ℕ) → Result ListDone ListFault → Type 0
Answers wish old new took gave (Ok done) = IsListing wish new took gave done
Answers wish old new took gave (Err LongInput) = (length took ≡ wish.octets) × (has_bad_version (left_over took) ≡ false) × (gave ≡ listing wish.apid took)
Answers wish old new took gave (Err ReadFault) = Rose old.read_faults new.read_faults × (gave ≡ listing wish.apid took)
Answers wish old new took gave (Err WriteFault) = Rose old.write_faults new.write_faults × ((some : ℕ) × (gave ≡ take some (listing wish.apid took)))
Answers wish old new took gave (Err Memory) = (old ≡ new) × (took ≡ []) × (gave ≡ [])

-- One run over a port: what it took and gave, when, and why it ended so. However it ends, it takes at most the number of octets in the
-- wish. At each read call what is given is exactly the lines of the packets that are whole in the octets taken by then, and these can be
-- read on and are fewer than the wish allows.
pub record Lists (wish : DecodeWish) (old new : Outside) (result : Result ListDone ListFault) : Type 0 where
  pub took : List ℕ
  pub gave : List ℕ
  pub since : Exchange old new took gave [] (AsksListed wish.apid took gave)
  pub readable : Exchange old new took gave [] (AsksReadable wish.octets took)
  pub within : length took ≤ wish.octets
  pub answer : Answers wish old new took gave result

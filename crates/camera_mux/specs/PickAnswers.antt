-- How a pick of packets ends, by what it took and gave. This project's own.
use Rattle.std.specs.Prelude.{◌≡◌, ◌≤◌, ℕ, List, [], length, take, false, Option, Result, Ok, Err}
use Rattle.port_122.specs.Outside.{Outside, Exchange, Rose}
use Rattle.base_122.specs.declared.wish.DecodeWish.{DecodeWish}
use Rattle.packet_defs.specs.Streams.{whole_packets, left_over, has_bad_version, framing}
use Rattle.packet_assembly.specs.Readings.{IsReadOut, AsksReadable}
use Rattle.camera_mux.specs.Picked.{picked_of, picked}
use Rattle.strip_decoder.specs.declared.list.ListDone.{ListDone}
use Rattle.strip_decoder.specs.declared.list.ListFault.{ListFault}
use Rattle.strip_decoder.specs.declared.list.ListFault.TheVariants.{ReadFault, WriteFault, LongInput, Memory}
use Rattle.camera_mux.specs.PickProgress.{AsksPicked}

-- What is given is the picked packets of the octets that were taken, and these were read to the end, or can't be read on for this reason.
pub record IsPick (wish : DecodeWish) (image : Option ℕ) (new : Outside) (took gave : List ℕ) (done : ListDone) : Type 0 where
  pub octets : gave ≡ picked took wish.apid image
  pub packets : done.packets ≡ length (picked_of wish.apid image (whole_packets took))
  pub framing_is : done.framing ≡ framing took
  pub out : IsReadOut wish.octets new took

-- Why the call ended so. If the port reports what is left, what was taken and the end decide between a pick that is done and an input that
-- is too long.
abbrev pub Answers : DecodeWish → (image : Option ℕ) → (old new : Outside) → (took gave : List ℕ) → Result ListDone ListFault → Type 0
Answers wish image old new took gave (Ok done) = IsPick wish image new took gave done
Answers wish image old new took gave (Err LongInput) = (length took ≡ wish.octets) × (has_bad_version (left_over took) ≡ false)
    × (gave ≡ picked took wish.apid image)
Answers wish image old new took gave (Err ReadFault) = Rose old.read_faults new.read_faults × (gave ≡ picked took wish.apid image)
Answers wish image old new took gave (Err WriteFault) = Rose old.write_faults new.write_faults × ((some : ℕ) × (gave ≡ take some (picked took wish.apid image)))
Answers wish image old new took gave (Err Memory) = (old ≡ new) × (took ≡ []) × (gave ≡ [])

-- One run over a port: what it took and gave, when, and why it ended so. However it ends, it takes at most the number of octets in the
-- wish. At each read call what is given is exactly the picked packets of those that are whole in the octets taken by then, and these can be
-- read on and are fewer than the wish allows.
pub record Picks (wish : DecodeWish) (image : Option ℕ) (old new : Outside) (result : Result ListDone ListFault) : Type 0 where
  pub took : List ℕ
  pub gave : List ℕ
  pub since : Exchange old new took gave [] (AsksPicked wish.apid image took gave)
  pub readable : Exchange old new took gave [] (AsksReadable wish.octets took)
  pub within : length took ≤ wish.octets
  pub answer : Answers wish image old new took gave result

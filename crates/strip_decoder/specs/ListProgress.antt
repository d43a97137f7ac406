-- The progress of a list since it began: what it took, and for which packets it gave the lines. This project's own.
use Rattle.std.specs.Prelude.{◌≡◌, ◌≤◌, ℕ, List, [], ◌++◌, length, take}
use Rattle.port_122.specs.Outside.{Outside, Exchange}
use Rattle.base_122.specs.declared.wish.DecodeWish.{DecodeWish}
use Rattle.packet_assembly.specs.Assembling.{Assembling}
use Rattle.packet_assembly.specs.Readings.{HasRead, SawEnd, AsksReadable}
use Rattle.strip_decoder.specs.PacketLines.{lines_of, listing}

-- a read call with i octets taken and j given: what is given is the lines of the packets that are whole by then
abbrev pub AsksListed : (apid : ℕ) → (took gave : List ℕ) → ℕ → ℕ → Type 0
AsksListed apid took gave i j = (j ≤ length gave) × (take j gave ≡ listing apid (take i took))

-- A number of packets were listed. Of their lines some were given, and the others wait.
pub record HasListed (wish : DecodeWish) (start now : Outside) (a : Assembling) (packets : ℕ) (waiting : List ℕ) : Type 0 where
  pub took : List ℕ
  pub passed : List (List ℕ)
  pub gave : List ℕ
  pub lines_are : gave ++ waiting ≡ lines_of wish.apid passed
  pub since : Exchange start now took gave [] (AsksListed wish.apid took gave)
  pub readable : Exchange start now took gave [] (AsksReadable wish.octets took)
  pub read : HasRead wish.apid wish.octets a took passed
  pub at_end : SawEnd now a
  pub packets_are : packets ≡ length passed

-- The forms in which the coded segments of an image are given.
use Rattle.std.specs.Prelude.{◌≡◌, ℕ, ℤ, List, [], length}
use Rattle.base_122.specs.Setting.{sized}
use Rattle.base_122.specs.declared.setting.Setting.{Setting}
use Rattle.packet_defs.specs.Packets.{joined}
use Rattle.stream_defs.specs.Output.{packets_before, packets_of, reports_last}
use Rattle.space_packets.specs.declared.stage.PacketiserState.TheVariants.{Idle}
use Rattle.space_packets.specs.Progress.{Progress}

-- A form of the segments of an image with this number of rows, by its blocks. Between two segments, a work has a packetiser, the number of
-- segments that were given, and a count of the octets of their texts.
pub record Form : Type 1 where
  -- the octets of the first n segments
  pub octets : Setting → (rows : ℕ) → List (List ℤ) → (n : ℕ) → List ℕ
  -- no segment is begun
  pub ready : Setting → Progress → (index used : ℕ) → Type 0
  -- the segments that were given are the first ones
  pub holds : Setting → (rows : ℕ) → List (List ℤ) → Progress → (index used : ℕ) → Type 0

-- a packetiser has written the packets of this number of segments of an image with these blocks, and nothing else
abbrev pub progress_of : Setting → (rows : ℕ) → List (List ℤ) → ℕ → Progress
progress_of s rows all n = record {
  packet = s.packet;
  stage = Idle;
  texts = n;
  packets = packets_before (sized s rows) all n;
  octets = length (joined (packets_of (reports_last s) (sized s rows) all n));
  pending = [];
}

-- segments as packets
abbrev pub packets : Form
packets = record {
  octets = λ s rows all n. joined (packets_of (reports_last s) (sized s rows) all n);
  ready = λ s p index used. (p.stage ≡ Idle) × (p.texts ≡ index);
  holds = λ s rows all p index used. p ≡ progress_of s rows all index;
}

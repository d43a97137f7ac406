-- Packets that can be written. This project's own.
use Rattle.std.specs.Prelude.{ℕ, ◌≤◌, ◌<◌, ◌+◌, ◌^◌, List, length}
use Rattle.packet_defs.specs.declared.ancillary.Ancillary.{Ancillary}

-- each number fits its field
pub record IsAncillary (a : Ancillary) : Type 0 where
  pub image : a.image < 2 ^ 16
  pub rows : a.rows < 2 ^ 32
  pub segment : a.segment < 2 ^ 32
  pub index : a.index < 2 ^ 32
  pub first : a.first < 2 ^ 32
  pub part : a.part < 2 ^ 32

-- a packet of an image, whose text fits it
pub record CanBeWritten (apid flags : ℕ) (a : Ancillary) (text : List ℕ) : Type 0 where
  pub own : apid < 2047
  pub few_flags : flags < 4
  pub ancillary : IsAncillary a
  pub room : 24 + length text ≤ 65536

-- The DCs that are read into blocks of 64 numbers. (This project's own.)
use Rattle.std.specs.Prelude.{◌≡◌, ◌<◌, ◌≤◌, ℕ, ◌+◌, ◌*◌, ℤ, pos, unsigned_abs, List, length, slice_index_or, Result}
use Rattle.std.specs.Int.{div_ceil}
use Rattle.bit_pipe.specs.declared.fault.Part.{Part}
use Rattle.bit_pipe.specs.declared.fault.TextFault.{TextFault}
use Rattle.bit_pipe.specs.Sources.{SourceOf}
use Rattle.bit_pipe.specs.SourceState.{SourceState}
use Rattle.number_defs.specs.Cells.{cell_at}
use Rattle.number_defs.specs.DcPart.{dc_q, dc_bits, dc_planes}
use Rattle.item_defs.specs.Scripts.{Script}
use Rattle.bit_pipe.specs.ScriptSources.{ReadsAs}
use Rattle.gaggle_codes.specs.Given.{by_given}
use Rattle.dc_depths.specs.declared.plan.DcPlan.{DcPlan}

-- the number of blocks that these numbers have
abbrev pub block_count : List ℤ → ℕ
block_count blocks = div_ceil (length blocks) 64

-- the first number of each block is this DC, and the 63 others are as they were
pub record SetsDcs (dc : ℕ → ℤ) (old new : List ℤ) : Type 0 where
  pub size : length new ≡ length old
  pub dcs : (r : ℕ) → r * 64 < length old → cell_at 64 new r ≡ dc r
  pub others : (i : ℕ) → ((r : ℕ) → i ≡ r * 64 → ⊥) → slice_index_or new i (pos 0) ≡ slice_index_or old i (pos 0)

-- DCs were read as this script says: the blocks have those that it gives
pub record TakesDcs {I : Type 0} (k : SourceOf I) (script : Script (ℕ → ℤ) (ℕ → ℤ)) (result : Result Part TextFault)
    (old new : SourceState I) (before now : List ℤ) : Type 0 where
  pub given : ℕ → ℤ
  pub read : ReadsAs k script (by_given result given) old new
  pub cells : SetsDcs given before now

-- ---- what a plan says

-- the number of low bits that are left for the planes
abbrev pub q_in : DcPlan → ℕ
q_in plan = dc_q plan.depth_dc plan.depth_ac plan.shift

-- the bits of each number
abbrev pub bits_in : DcPlan → ℕ
bits_in plan = dc_bits plan.depth_dc plan.depth_ac plan.shift

-- the number of bit planes of the DC part
abbrev pub planes_in : DcPlan → ℕ
planes_in plan = dc_planes plan.depth_dc plan.depth_ac plan.shift

-- ---- sizes

-- this weight can be added to each DC
pub record HasRoom (weight : ℕ) (blocks : List ℤ) : Type 0 where
  pub at : (r : ℕ) → r * 64 < length blocks → unsigned_abs (cell_at 64 blocks r) + weight < 2147483648

-- each DC is at most this much greater
pub record GrowsBy (weight : ℕ) (old new : List ℤ) : Type 0 where
  pub at : (r : ℕ) → r * 64 < length old → unsigned_abs (cell_at 64 new r) ≤ unsigned_abs (cell_at 64 old r) + weight

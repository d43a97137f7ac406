-- How far a DC part was read, and what of it is given then. (docs/formats.md, "DC part and block depths"; this project's own.)
use Rattle.std.specs.Prelude.{◌≡◌, ◌<◌, ◌≤◌, ℕ, ◌+◌, ◌==◌, if◌then◌else◌, nat_lt, ℤ, List, Option, Some, None, Result, Ok, Err}
use Rattle.bit_pipe.specs.declared.fault.Part.{Part}
use Rattle.bit_pipe.specs.declared.fault.Part.TheVariants.{Whole, Ended}
use Rattle.bit_pipe.specs.declared.fault.TextFault.{TextFault}
use Rattle.bit_pipe.specs.Sources.{SourceOf}
use Rattle.bit_pipe.specs.SourceState.{SourceState}
use Rattle.bit_pipe.specs.ScriptSources.{Found, by_fault, ReadsAs}
use Rattle.item_defs.specs.Scripts.{Script}
use Rattle.number_defs.specs.DcLows.{DcGiven}
use Rattle.gaggle_codes.specs.Given.{by_given}
use Rattle.dc_depths.specs.declared.reach.DcReach.{DcReach}
use Rattle.dc_depths.specs.Dcs.{block_count, SetsDcs}

-- the least plane of which a bit is given of the number of block r
abbrev pub lows_of : (q : ℕ) → DcReach → (r : ℕ) → Option ℕ
lows_of q reach r = if nat_lt r reach.blocks then Some reach.plane else if reach.plane == q then None else Some (reach.plane + 1)

-- so far the numbers of `count` blocks are given
pub record AreGivenTo (q count : ℕ) (reach : DcReach) (lows : ℕ → Option ℕ) : Type 0 where
  pub low : reach.plane ≤ q
  pub at : (r : ℕ) → r < count → lows r ≡ lows_of q reach r

-- the numbers of all blocks are given down to this plane
abbrev pub all_to : (plane count : ℕ) → DcReach
all_to plane count = record { plane = plane; blocks = count }

-- ---- the result of a call

abbrev pub by_reach : Result (Part × DcReach) TextFault → DcGiven → Found DcGiven DcGiven
by_reach (Ok p) given = by_given (Ok p.0) given
by_reach (Err fault) given = by_fault fault given

-- if all was read, the numbers of all blocks are given down to this plane
abbrev pub IsAllTo : (plane count : ℕ) → Part → DcReach → Type 0
IsAllTo plane count Whole reach = reach ≡ all_to plane count
IsAllTo plane count Ended reach = Unit {0}

abbrev pub IsReached : (q plane count : ℕ) → Result (Part × DcReach) TextFault → DcGiven → Type 0
IsReached q plane count (Ok p) given = AreGivenTo q count p.1 given.lows × IsAllTo plane count p.0 p.1
IsReached q plane count (Err fault) given = Unit {0}

-- DCs were read as this script says, down to this plane if all was read: the blocks have those that it gives, and they are given so far
pub record ReachesDcs {I : Type 0} (k : SourceOf I) (script : Script DcGiven DcGiven) (q plane : ℕ) (result : Result (Part × DcReach) TextFault)
    (old new : SourceState I) (before now : List ℤ) : Type 0 where
  pub given : DcGiven
  pub read : ReadsAs k script (by_reach result given) old new
  pub cells : SetsDcs given.dcs before now
  pub reached : IsReached q plane (block_count before) result given

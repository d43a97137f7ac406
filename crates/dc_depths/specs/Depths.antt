-- The block depths that are read into the states of blocks. (This project's own.)
use Rattle.std.specs.Prelude.{◌≡◌, ◌<◌, ◌≤◌, ℕ, ℤ, pos, List, length, slice_index, slice_index_or, Result}
use Rattle.bit_pipe.specs.declared.fault.Part.{Part}
use Rattle.bit_pipe.specs.declared.fault.TextFault.{TextFault}
use Rattle.bit_pipe.specs.Sources.{SourceOf}
use Rattle.bit_pipe.specs.SourceState.{SourceState}
use Rattle.bit_pipe.specs.ScriptSources.{ReadsAs}
use Rattle.gaggle_codes.specs.Given.{by_given}
use Rattle.number_defs.specs.DepthScript.{depths_script}

-- block depths were read as their script says: the states are the depths that it gives, none of which is above the greatest, and 0
-- for further ones
pub record TakesDepths {I : Type 0} (k : SourceOf I) (depth_ac : ℕ) (result : Result Part TextFault) (old new : SourceState I) (now : List ℤ) : Type 0 where
  pub given : List ℕ
  pub read : ReadsAs k (depths_script depth_ac (length now)) (by_given result given) old new
  pub low : (i : ℕ) → slice_index given i ≤ depth_ac
  pub marks : (i : ℕ) → i < length now → slice_index_or now i (pos 0) ≡ pos (slice_index given i)

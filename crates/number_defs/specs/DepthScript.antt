-- The block depths as a script. (CCSDS 122.0-B-2, section 4.4; docs/formats.md, "DC part and block depths".)
use Rattle.std.specs.Prelude.{ℕ, ◌==◌, if◌then◌else◌, List, [], ◌∷◌, ◌++◌, replicate}
use Rattle.number_defs.specs.Depths.{depth_kind}
use Rattle.item_defs.specs.Scripts.{Script, ask, done, in_turn, bit_form}
use Rattle.number_defs.specs.NumberScript.{numbers_script}

-- depths of 0 or 1, one bit each
abbrev pub raw_depths_script : ℕ → Script (List ℕ) (List ℕ)
raw_depths_script count = in_turn (λ r depths. ask depths bit_form (λ b. done (depths ++ b ∷ []))) 0 count []

-- the depths of `count` blocks; if they are cut or refused, those before
abbrev pub depths_script : (depth_ac count : ℕ) → Script (List ℕ) (List ℕ)
depths_script depth_ac count =
    if depth_ac == 0 then done (replicate count 0) else
    if depth_ac == 1 then raw_depths_script count else numbers_script (depth_kind depth_ac) count

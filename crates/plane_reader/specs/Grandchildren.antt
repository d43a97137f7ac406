-- Stage 3 of a block, whose state before the stage is given beside that of the stage alone. (docs/formats.md, "Bit planes"; this project's own.)
use Rattle.std.specs.Prelude.{◌≡◌, ℕ, ◌||◌, Bool, true, false, if◌then◌else◌, List, map, filter, ℤ}
use Rattle.std.specs.List.{list_any}
use Rattle.item_defs.specs.Bits.{bit}
use Rattle.plane_defs.specs.declared.sets.Set.{Set}
use Rattle.plane_defs.specs.declared.sets.Set.TheVariants.{Grandchildren}
use Rattle.plane_defs.specs.Spans.{span}
use Rattle.plane_defs.specs.Sets.{members}
use Rattle.plane_defs.specs.Steps.{ones_at}
use Rattle.item_defs.specs.Scripts.{Script, done, then_ask, in_turn}
use Rattle.plane_defs.specs.States.{State}
use Rattle.plane_defs.specs.WordScripts.{due_script}
use Rattle.plane_defs.specs.StageScripts.{Terms, above, is_due, is_childless, quads_script}

-- no member of a set is significant above the plane, and some can have a bit of it
abbrev pub MayBeNew : (mask : ℕ) → (can : ℕ → Bool) → Set → Type 0
MayBeNew mask can s = (list_any (bit mask) (members s) ≡ false) × (list_any can (members s) ≡ true)

-- what the set of sixteen in family i sends
abbrev pub sixteen_script : Terms → List ℤ → (now new : ℕ → Bool) → ℕ → State → Script State State
sixteen_script t block now new i u = if now i then quads_script t block i (new i) u else done u

-- the state before the stage has the families, and the children that were read
abbrev pub grandchildren_from : Terms → List ℤ → (earlier : State) → State → Script State State
grandchildren_from t block earlier s =
    let due : ℕ → Bool = λ i. is_due t block (Grandchildren i) (earlier.families i) in
    then_ask (due_script t.book due (ones_at (map (is_childless t block earlier) (filter due (span 0 3)))) (span 0 3) s) (λ r.
    in_turn (sixteen_script t block (λ i. above t block (Grandchildren i) || r.1 i) r.1) 0 3 r.0)

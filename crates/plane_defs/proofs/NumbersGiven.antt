-- The numbers that planes give, with and without what is given of each; restored numbers by position.
use Rattle.std.proofs.Common.{◌≡◌, ◌<◌, ℕ, zero, suc, List, [], length, refl, ap, ◌∙◌, ℤ, pos}
use lib.ListN.{get_or}
use Rattle.item_defs.specs.Scripts.{then_ask, around}
use Rattle.item_defs.proofs.ScriptAround.{around_then, around_twice}
use Rattle.plane_defs.specs.StageScripts.{Terms}
use Rattle.plane_defs.specs.PlaneScript.{plane_script, planes_script}
use Rattle.plane_defs.specs.Lows.{Given, given_with, planes_given}
use Rattle.plane_defs.specs.Restored.{restored_at, restored_block, restored}
use Rattle.plane_defs.specs.LowLaws.{NumbersAreGiven, RestoredByPosition}
use Rattle.plane_defs.proofs.SpanLists.{length-map-span, get_or-map-span}

abbrev numbers : Given → List (List ℤ)
numbers g = g.numbers

pub numbers_are_given : NumbersAreGiven
numbers_are_given book weights q depths stages zero g = refl
numbers_are_given book weights q depths stages (suc b) g =
    let t : Terms = record { book = book; weights = weights; plane = b; q = q } in
    let plane = plane_script t depths g.numbers (stages b) in
    around_then numbers (planes_given book weights q depths stages b) (planes_script book weights q depths stages b)
    (numbers_are_given book weights q depths stages b) (around (given_with b g) plane) ∙
    ap (λ s. then_ask s (planes_script book weights q depths stages b)) (around_twice numbers (given_with b g) plane)

module _ (weights : List ℕ) (g : Given) where
  abbrev block_at : ℕ → List ℤ
  block_at r = restored_block weights (g.lows r) (get_or g.numbers r [])

  here : (r : ℕ) → r < length g.numbers → get_or (restored weights g) r [] ≡ block_at r
  here r lt = get_or-map-span block_at (length g.numbers) r [] lt

  number_at : (r p : ℕ) → r < length g.numbers → p < 64 →
      get_or (get_or (restored weights g) r []) p (pos 0) ≡ restored_at weights p (g.lows r p) (get_or (get_or g.numbers r []) p (pos 0))
  number_at r p lt few =
      ap (λ l. get_or l p (pos 0)) (here r lt) ∙
      get_or-map-span (λ i. restored_at weights i (g.lows r i) (get_or (get_or g.numbers r []) i (pos 0))) 64 p (pos 0) few

pub restored_by_position : RestoredByPosition
restored_by_position = record {
  count = λ weights g. length-map-span (block_at weights g) (length g.numbers);
  long = λ weights g r lt. ap length (here weights g r lt) ∙ length-map-span _ 64;
  at = number_at;
}

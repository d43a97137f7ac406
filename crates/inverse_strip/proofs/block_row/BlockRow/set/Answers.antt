use Rattle.std.proofs.Common.{◌≡◌, ℕ, ◌+◌, ◌^◌, ◌<◌, ℤ, pos, w32, w64, to_z, of_z, List, length, get_or, set, [], sym, ap, subst, ◌∙◌, arith, length-set}
use Rattle.std.proofs.lemmas.Int.{to_z-of_z}
use Rattle.wave_defs.specs.Blocks.{Place}
use Rattle.wave_defs.specs.Within.{IsWithin}
use Rattle.wave_defs.proofs.Shifts.{kept}
use Rattle.block_families.specs.Places.{IsWithin as IsPlaceIn}
use Rattle.inverse_strip.specs.Cells.{AreBandRows, number_in, row_place}
use Rattle.inverse_strip.proofs.CellLemmas.{number-set, number-set_other, column-in, row-there, AreBandRows-set, AllWithin-set}
use Rattle.inverse_strip.proofs.block_row.BlockRow.set.Goals as goal

pub set-requires-clause-inside : goal.set-requires-clause-inside
set-requires-clause-inside c =
    let s = c.args.self.now in
    let p : Place = record { band = c.args.band; row = c.args.row; column = c.args.column } in
    let is : IsPlaceIn s.columns p = record { band = c.requires.band; row = c.requires.row; column = c.requires.column } in
    subst (λ (n : ℕ). c.args.column < length (get_or s.rows (n + c.args.row) [])) (sym c.rows_before.ensures) (column-in s.columns s.rows p (pos 0) is s.whole)

pub invariant_of-self-clause-whole : goal.invariant_of-self-clause-whole
invariant_of-self-clause-whole c =
    let s = c.args.self.now in
    let p : Place = record { band = c.args.band; row = c.args.row; column = c.args.column } in
    let is : IsPlaceIn s.columns p = record { band = c.requires.band; row = c.requires.row; column = c.requires.column } in
    let k = row_place c.args.band c.args.row in
    let v = to_z w32 (of_z w32 (to_z w64 (of_z w64 c.args.value))) in
    let same : v ≡ c.args.value = ap (λ (z : ℤ). to_z w32 (of_z w32 z)) (to_z-of_z w64 c.args.value c.ranges.value) ∙ kept w32 (2 ^ 27) c.args.value
    (omega arith) c.requires.small in
    let there = row-there s.columns c.args.band c.args.row s.rows s.whole c.requires.band c.requires.row in
    let made = c.set.ensures ∙ ap (λ (n : ℕ). set s.rows (n + c.args.row) (set (get_or s.rows (n + c.args.row) []) c.args.column v)) c.rows_before.ensures in
    let row = get_or s.rows k [] in
    subst (AreBandRows s.columns) (sym made)
    (AreBandRows-set s.columns k s.rows (set row c.args.column v) s.whole there (length-set row c.args.column v)
    (AllWithin-set (2 ^ 27) c.args.column row v (column-in s.columns s.rows p v is s.whole) (s.whole.small k there)
    (subst (IsWithin (2 ^ 27)) (sym same) c.requires.small)))

pub returns-clause-value : goal.returns-clause-value
returns-clause-value c =
    let s = c.args.self.now in
    let p : Place = record { band = c.args.band; row = c.args.row; column = c.args.column } in
    let is : IsPlaceIn s.columns p = record { band = c.requires.band; row = c.requires.row; column = c.requires.column } in
    let v = to_z w32 (of_z w32 (to_z w64 (of_z w64 c.args.value))) in
    let same : v ≡ c.args.value = ap (λ (z : ℤ). to_z w32 (of_z w32 z)) (to_z-of_z w64 c.args.value c.ranges.value) ∙ kept w32 (2 ^ 27) c.args.value
    (omega arith) c.requires.small in
    let made = c.set.ensures ∙ ap (λ (n : ℕ). set s.rows (n + c.args.row) (set (get_or s.rows (n + c.args.row) []) c.args.column v)) c.rows_before.ensures in
    ap (λ (xs : List (List ℤ)). number_in s.columns xs p) made ∙ number-set s.columns s.rows p v is s.whole ∙ same

pub returns-clause-others : goal.returns-clause-others
returns-clause-others c = λ q other.
    let s = c.args.self.now in
    let p : Place = record { band = c.args.band; row = c.args.row; column = c.args.column } in
    let is : IsPlaceIn s.columns p = record { band = c.requires.band; row = c.requires.row; column = c.requires.column } in
    let v = to_z w32 (of_z w32 (to_z w64 (of_z w64 c.args.value))) in
    let made = c.set.ensures ∙ ap (λ (n : ℕ). set s.rows (n + c.args.row) (set (get_or s.rows (n + c.args.row) []) c.args.column v)) c.rows_before.ensures in
    ap (λ (xs : List (List ℤ)). number_in s.columns xs q) made ∙ number-set_other s.columns s.rows p v is s.whole q other

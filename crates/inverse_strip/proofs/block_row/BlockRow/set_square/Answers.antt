use Rattle.std.proofs.Common.{◌≡◌, ℕ, ◌+◌, ◌^◌, ◌<◌, w64, to_z, of_z, pos, get_or, refl, ◌∙◌, arith}
use Rattle.wave_defs.specs.Blocks.{Place}
use Rattle.wave_defs.proofs.Shifts.{kept}
use Rattle.inverse_strip.specs.Cells.{number_in}
use Rattle.inverse_strip.proofs.SquareLemmas.{sets_square, corner}
use Rattle.inverse_strip.proofs.block_row.BlockRow.set_square.Goals as goal

pub returns-clause-values : goal.returns-clause-values
returns-clause-values c =
    let s0 = c.args.self.now in
    let s1 = c.set.new.self in
    let s2 = c.set-2.new.self in
    let s3 = c.set-3.new.self in
    let s4 = c.set-4.new.self in
    let values = c.args.values in
    let p : Place = record { band = c.args.band; row = c.args.row; column = c.args.column } in
    let q1 : Place = record { band = c.args.band; row = c.args.row; column = c.args.column + 1 } in
    let q2 : Place = record { band = c.args.band; row = c.args.row + 1; column = c.args.column } in
    let q3 : Place = record { band = c.args.band; row = c.args.row + 1; column = c.args.column + 1 } in
    let fit : (k : ℕ) → k < 4 → to_z w64 (of_z w64 (get_or values k (pos 0))) ≡ get_or values k (pos 0) =
    λ k lt. kept w64 (2 ^ 27) (get_or values k (pos 0)) (omega arith) (c.requires.small k lt) in
    sets_square (number_in s0.columns s0.rows) (number_in s1.columns s1.rows) (number_in s2.columns s2.rows) (number_in s3.columns s3.rows)
    (number_in s4.columns s4.rows) p p q1 q2 q3 values
    (corner p p 0 refl (omega arith) (omega arith)) (corner p q1 1 refl (omega arith) (omega arith)) (corner p q2 2 refl (omega arith) (omega arith))
    (corner p q3 3 refl (omega arith) (omega arith))
    (c.set.ensures.value ∙ fit 0 (omega arith)) (c.set-2.ensures.value ∙ fit 1 (omega arith)) (c.set-3.ensures.value ∙ fit 2 (omega arith))
    (c.set-4.ensures.value ∙ fit 3 (omega arith))
    c.set.ensures.others c.set-2.ensures.others c.set-3.ensures.others c.set-4.ensures.others

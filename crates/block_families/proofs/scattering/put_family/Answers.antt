use Rattle.std.proofs.Common.{◌≡◌, ℕ, ◌+◌, ◌*◌, arith, subst}
use Rattle.block_families.specs.Scattering.{PutsBack}
use Rattle.block_families.proofs.PutBack.{puts_on}
use Rattle.block_families.proofs.scattering.put_family.Goals as goal

pub returns-clause-scattered : goal.returns-clause-scattered
returns-clause-scattered g c =
    let weights = c.args.weights.now.shifts in
    let column = c.args.column in
    let numbers = c.args.from.now in
    let family = c.requires.family in
    let at = 4 + 4 * (3 + 4 * c.args.family) in
    let begin : at ≡ 16 + 16 * c.args.family = omega arith in
    let two = puts_on weights column numbers at 4 4 _ 8 _ _ _ (omega arith) (omega arith) (omega arith) c.put_square.ensures.scattered
    c.put_square-2.ensures.scattered in
    let three = puts_on weights column numbers at 8 4 _ 12 _ _ _ (omega arith) (omega arith) (omega arith) two c.put_square-3.ensures.scattered in
    subst (λ (n : ℕ). PutsBack weights column numbers n 16 (g.B.BandSink.number c.args.bands.now) (g.B.BandSink.number c.put_square-4.new.bands)) begin
    (puts_on weights column numbers at 12 4 _ 16 _ _ _ (omega arith) (omega arith) (omega arith) three c.put_square-4.ensures.scattered)

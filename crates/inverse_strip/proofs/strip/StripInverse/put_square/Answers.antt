use Rattle.std.proofs.Common.{ℕ, subst}
use Rattle.block_families.specs.Scattering.{SetsSquare}
use Rattle.inverse_strip.specs.Cells.{number_in}
use Rattle.inverse_strip.proofs.strip.StripInverse.put_square.Goals as goal

pub returns-clause-values : goal.returns-clause-values
returns-clause-values c =
    let s = c.args.self.now.next in
    let t = c.set_square.new.self in
    subst (λ (b : ℕ). SetsSquare (number_in s.columns s.rows) (number_in t.columns t.rows)
    (record { band = b; row = c.args.place.row; column = c.args.place.column }) c.args.values)
    c.number_of.ensures c.set_square.ensures.values

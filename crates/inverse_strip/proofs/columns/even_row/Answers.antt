use Rattle.std.proofs.Common.{arith, refl}
use Rattle.wave_defs.proofs.LiftLaws.{Agrees-columns_even}
use Rattle.inverse_strip.proofs.RowLemmas.{Agrees-even_row}
use Rattle.inverse_strip.proofs.columns.even_row.Goals as goal

pub returns-then-j-eq0 : goal.returns-then-j-eq0
returns-then-j-eq0 c = λ low high newest l h.
    Agrees-columns_even low high _ _ c.args.j c.args.j _ _ _ _ refl (omega arith) c.update_add_narrow.ensures l h h

pub returns : goal.returns
returns c = λ low high newest l h.
    let lifted = simp c.at.ensures at c.update_add_narrow-2.ensures in
    Agrees-even_row low high _ _ c.args.j c.args.highs.now _ _ _ refl c.requires.highs.count_is (omega arith) lifted newest l h

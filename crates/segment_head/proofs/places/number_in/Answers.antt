use Rattle.segment_head.proofs.FieldBits.{number_in-masked}
use Rattle.segment_head.proofs.places.number_in.Goals as goal

pub returns-clause-value : goal.returns-clause-value
returns-clause-value c =
    rw (c.from.ensures, c.from-2.ensures) (
    number_in-masked c.args.octets.now c.args.start c.args.width _ _ (λ i. (c.type_inv.octets i).fits) c.requires.width.0 c.requires.width.1 c.requires.within
    (rw (c.from.ensures, c.from-2.ensures) at c.div_ceil-past.ensures)
    (rw c.from-first.ensures at c.read_uint-number.ensures)
    )

use Rattle.std.proofs.Common.{arith}
use Rattle.block_masks.proofs.Viewing.{from_zero}
use Rattle.plane_reader.proofs.HeldStates.{held_later}
use Rattle.plane_reader.proofs.RefineReads.{half_none}
use Rattle.plane_reader.proofs.refine.take_half.Goals as goal

pub returns-then-here-eq0-clause-bits : goal.returns-then-here-eq0-clause-bits
returns-then-here-eq0-clause-bits g c = λ s f is shown.
    half_none f c.args.start s is c.if-here-eq0.true (from_zero c.args.start (c.part-here.ensures.if_known f 0 64 shown (omega (
      arith,
      c.requires.start,
    )))) c.requires.reading.is_in

pub returns-then-deal-clause-bits : goal.returns-then-deal-clause-bits
returns-then-deal-clause-bits g c = λ s f is shown.
    c.deal.ensures.dealt c.if-deal.true s f is (from_zero c.args.start (c.part-here.ensures.if_known f 0 64 shown (omega (arith, c.requires.start))))

pub returns-clause-bits : goal.returns-clause-bits
returns-clause-bits g c = λ s f is shown.
    let no = c.if-deal.false in
    let here = from_zero c.args.start (c.part-here.ensures.if_known f 0 64 shown (omega (arith, c.requires.start))) in
    held_later _ _ (c.deal.ensures.stays no) (c.take_bits-read.ensures.bits s f (rw (c.deal.ensures.gaggle, c.deal.ensures.kept no) is) here)

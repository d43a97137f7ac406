use Rattle.std.proofs.Common.{◌≡◌, arith}
use Rattle.std.proofs.lemmas.Result.{err_from_is_err_and}
use Rattle.item_defs.specs.Bits.{bits_of}
use Rattle.item_defs.specs.Items.{fixed}
use Rattle.item_defs.proofs.NumberBits.{bits_none, length-bits_of}
use Rattle.item_defs.proofs.Spellings.{lacks_bits}
use Rattle.bit_pipe.proofs.Taking.{in_later, takes_start, within_at_end, within_at_fault}
use Rattle.bit_pipe.proofs.PieceSteps.{code_number, number_below, number_more}
use Rattle.bit_pipe.proofs.bit_in.BitIn.take_pieces.Goals as goal

pub loop-taken-init : goal.loop-taken-init
loop-taken-init g c = record {
  within = omega arith;
  is_in = c.requires.bound;
  small = omega arith;
  so_far = rw bits_none (takes_start g.I.OctetIn.source _ c.requires.bound);
}

pub loop-taken-preserved : goal.loop-taken-preserved
loop-taken-preserved g c =
    let i = c.loop-taken.invariant in
    let h = rw c.in-Some.is at c.in_ok-piece.ensures in
    let p = h.ends in
    let piece = c.in-Some.piece in
    let code = code_number c.loop-taken.value c.loop-taken.taken piece.value c.from.result piece.count c.from.ensures i.small p.fits
    (omega (arith, p.within)) in
    record {
      within = omega (arith, p.within);
      is_in = in_later i.is_in p.taken;
      small = rw code (number_below c.loop-taken.value c.loop-taken.taken piece.value piece.count i.small p.fits);
      so_far = rw code (number_more c.loop-taken.value c.loop-taken.taken piece.value piece.count p.fits i.so_far p.taken);
    }

pub returns-in_err-piece : goal.returns-in_err-piece
returns-in_err-piece g c =
    let p = err_from_is_err_and c.from_residual.result c.from_residual.ensures.1 in
    let i = c.loop-taken.invariant in
    let h = c.in_err-piece.ensures in
    rw (p.1, p.2) (record {
      ends = within_at_fault (fixed c.args.count) _ (lacks_bits c.args.count (bits_of c.loop-taken.taken c.loop-taken.value)
          (rw length-bits_of c.loop-taken-test.true)) i.so_far h.ends;
    })

pub returns-in_default : goal.returns-in_default
returns-in_default g c =
    let i = c.loop-taken.invariant in
    let h = rw c.in_default.is at c.in_ok-piece.ensures in
    record {
      ends = within_at_end (fixed c.args.count) (lacks_bits c.args.count (bits_of c.loop-taken.taken c.loop-taken.value)
          (rw length-bits_of c.loop-taken-test.true)) i.so_far h.ends;
    }

pub returns : goal.returns
returns g c =
    let i = c.loop-taken.invariant in
    let e : c.loop-taken.taken ≡ c.args.count = omega arith in
    record { ends = (rw e at i.small, rw e at i.so_far) }

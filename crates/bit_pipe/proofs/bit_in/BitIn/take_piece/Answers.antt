use Rattle.std.proofs.Common.{arith}
use Rattle.std.proofs.lemmas.Result.{err_from_is_err_and}
use Rattle.bit_pipe.proofs.Taking.{octet_end, octet_fault, at_bound}
use Rattle.bit_pipe.proofs.PieceSteps.{piece_pending, piece_octet}
use Rattle.bit_pipe.proofs.bit_in.BitIn.take_piece.Goals as goal

pub returns-then-self-eq0 : goal.returns-then-self-eq0
returns-then-self-eq0 g c = record { ends = at_bound g.I.OctetIn.source _ c.requires.bound c.if-self-eq0.true }

pub returns-then-self-gt0 : goal.returns-then-self-gt0
returns-then-self-gt0 g c =
    let b = c.args.self.now in
    let f = c.first-piece.ensures in
    record {
      ends = piece_pending g.I.OctetIn.source b.input.now b.octet b.left b.used b.room _ c.args.most c.width_of-count.result _ _ c.first-piece.result
          c.from.ensures c.from-then-self-gt0.ensures c.width_of-count.ensures c.requires.some c.if-self-gt0.true (omega arith) b.within f.count f.fits f.bits;
    }

pub returns-in_err-octet : goal.returns-in_err-octet
returns-in_err-octet g c =
    let b = c.args.self.now in
    let p = err_from_is_err_and c.from_residual.result c.from_residual.ensures.1 in
    rw (p.1, p.2) (record {
      ends = octet_fault g.I.OctetIn.source _ b.input.now c.take.new.self b.octet b.left b.used b.room _ (omega arith) (omega arith)
          c.in_err-octet.ensures;
    })

pub returns-in_default : goal.returns-in_default
returns-in_default g c =
    let b = c.args.self.now in
    record {
      ends = octet_end g.I.OctetIn.source b.input.now c.take.new.self b.octet b.left b.used b.room _ (omega arith)
          (rw c.in_default.is at c.in_ok-octet.ensures);
    }

pub returns : goal.returns
returns g c =
    let b = c.args.self.now in
    let h = rw c.in-Some.is at c.in_ok-octet.ensures in
    let f = c.first.ensures in
    record {
      ends = piece_octet g.I.OctetIn.source b.input.now c.take.new.self b.octet c.in-Some.octet b.left b.used b.room _ c.args.most
          c.width_of-count-2.result _ _ c.first.result c.from-2.ensures c.from-3.ensures c.width_of-count-2.ensures c.requires.some (omega arith)
          (omega arith) f.count f.fits f.bits h;
    }

use Rattle.std.proofs.Common.{arith, refl}
use Rattle.std.proofs.lemmas.Result.{err_from_is_err_and}
use Rattle.bit_pipe.proofs.Taking.{takes_pending, takes_octet, octet_end, octet_fault, at_bound}
use Rattle.bit_pipe.proofs.PieceSteps.{first_bit}
use Rattle.bit_pipe.proofs.bit_in.BitIn.take.Goals as goal

pub returns-then-self-eq0 : goal.returns-then-self-eq0
returns-then-self-eq0 g c = record { ends = at_bound g.I.OctetIn.source _ c.requires c.if-self-eq0.true }

pub returns-then-self-gt0 : goal.returns-then-self-gt0
returns-then-self-gt0 g c =
    let b = c.args.self.now in
    record {
      ends = takes_pending g.I.OctetIn.source b.input.now b.octet b.left b.used b.room _ 1 _ (first_bit b.octet b.left (omega arith)) refl b.within
          (omega arith);
    }

pub returns-in_err-octet : goal.returns-in_err-octet
returns-in_err-octet g c =
    let b = c.args.self.now in
    let p = err_from_is_err_and c.from_residual.result c.from_residual.ensures.1 in
    rw (p.1, p.2) (record {
      ends = octet_fault g.I.OctetIn.source _ b.input.now c.take.new.self b.octet b.left b.used b.room _ (omega arith) (omega arith)
          c.in_err-octet.ensures;
    })

pub returns-in_default : goal.returns-in_default
returns-in_default g c =
    let b = c.args.self.now in
    record {
      ends = octet_end g.I.OctetIn.source b.input.now c.take.new.self b.octet b.left b.used b.room _ (omega arith)
          (rw c.in_default.is at c.in_ok-octet.ensures);
    }

pub returns : goal.returns
returns g c =
    let b = c.args.self.now in
    let h = rw c.in-Some.is at c.in_ok-octet.ensures in
    record {
      ends = takes_octet g.I.OctetIn.source b.input.now c.take.new.self b.octet c.in-Some.octet b.left b.used b.room _ 1 _
          (first_bit c.in-Some.octet 8 (omega arith)) refl (omega arith) (omega arith) (omega arith) h;
    }

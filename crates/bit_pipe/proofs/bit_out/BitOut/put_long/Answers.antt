use Rattle.std.proofs.Common.{◌-◌, arith, refl, subst, Err}
use Rattle.std.proofs.lemmas.Result.{err_from_is_err_and}
use Rattle.item_defs.specs.Bits.{bits_of}
use Rattle.item_defs.proofs.NumberBits.{length-bits_of}
use Rattle.bit_pipe.specs.SinkState.{sink_state, Puts}
use Rattle.bit_pipe.specs.declared.fault.PutFault.TheVariants.{Stopped}
use Rattle.bit_pipe.proofs.Putting.{puts_cut, puts_stopped}
use Rattle.bit_pipe.proofs.BitSteps.{fits_then}
use Rattle.bit_pipe.proofs.bit_out.BitOut.put_long.Goals as goal

pub returns-in_err-put_fitting : goal.returns-in_err-put_fitting
returns-in_err-put_fitting g c =
    let k = g.O.OctetOut.sink in
    let b = c.args.self.now in
    let p = err_from_is_err_and c.from_residual.result c.from_residual.ensures.1 in
    let e = fits_then c.args.count b.room c.args.value c.args.value refl (omega arith) in
    rw (p.1, p.2) (subst (λ r. Puts {T = Unit {0}} k (Err c.in_err-put_fitting.field-0.0) (sink_state k b) (sink_state k c.put_fitting-2.new.self) r) e
    (puts_cut (bits_of (c.args.count - b.room) c.args.value) c.in_err-put_fitting.ensures))

pub returns : goal.returns
returns g c =
    let k = g.O.OctetOut.sink in
    let b = c.args.self.now in
    let e = fits_then c.args.count b.room c.args.value c.args.value refl (omega arith) in
    let h = c.in_ok-put_fitting.ensures in
    subst (λ r. Puts {T = Unit {0}} k (Err Stopped) (sink_state k b) (sink_state k c.put_fitting-2.new.self) r) e
    (puts_stopped (bits_of (c.args.count - b.room) c.args.value) h.ends (length-bits_of b.room _)
    (omega (arith, c.if-from-self.false, c.from.ensures, length-bits_of (c.args.count - b.room) c.args.value)))

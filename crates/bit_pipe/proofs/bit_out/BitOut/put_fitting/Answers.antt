use Rattle.bit_pipe.proofs.Putting.{puts_whole}
use Rattle.bit_pipe.proofs.BitSteps.{code_low, code_low_fits, code_wait, fits_waiting, adds_waiting}
use Rattle.bit_pipe.proofs.bit_out.BitOut.put_fitting.Goals as goal

pub invariant_of-self : goal.invariant_of-self
invariant_of-self g c =
    let b = c.args.self.now in
    record {
      fits = rw (code_wait b.filled b.pending c.args.count c.args.value b.fits c.if-filled-ge64.false)
          (fits_waiting b.filled b.pending c.args.count _ b.fits (code_low_fits c.args.value c.args.count c.requires.count));
      within = c.if-filled-ge64.false;
    }

pub returns : goal.returns
returns g c =
    let b = c.args.self.now in
    puts_whole (adds_waiting g.O.OctetOut.sink b.out.now b.filled b.pending b.bound b.room b.out.ghost_name c.args.count c.args.value _
    (code_low c.args.value c.args.count c.requires.count) _ _ (code_wait b.filled b.pending c.args.count c.args.value b.fits c.if-filled-ge64.false)
    c.from.ensures c.if-filled-ge64.false c.requires.room)

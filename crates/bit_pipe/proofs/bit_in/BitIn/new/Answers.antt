use Rattle.std.proofs.Common.{arith, refl}
use Rattle.item_defs.proofs.NumberBits.{bits_none, length-bits_of}
use Rattle.bit_pipe.proofs.BitSteps.{bounded}
use Rattle.bit_pipe.proofs.bit_in.BitIn.new.Goals as goal

pub returns-clause-begins : goal.returns-clause-begins
returns-clause-begins g c =
    let e = c.octets_within-bound.ensures in
    record { source = refl; pending = bits_none 0; used = refl; room = omega (arith, e, c.requires.bound) }

pub returns-clause-is_in : goal.returns-clause-is_in
returns-clause-is_in g c =
    let e = c.octets_within-bound.ensures in
    record {
      bound = omega (arith, e, c.requires.bound, bounded c.octets_within-bound.result c.args.limit e c.requires.limit);
      pending =
          omega (arith, length-bits_of 0 0);
    }

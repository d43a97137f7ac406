-- After bits were put, more may be put, except if the write failed.
use Rattle.std.proofs.Common.{◌≡◌, ◌≢◌, List, Bool, Result, Ok, Err, refl}
use Rattle.bit_pipe.specs.Sinks.{SinkOf}
use Rattle.bit_pipe.specs.SinkState.{SinkState, IsOpen, Puts}
use Rattle.bit_pipe.specs.declared.fault.PutFault.{PutFault}
use Rattle.bit_pipe.specs.declared.fault.PutFault.TheVariants.{Stopped, WriteFault}
use Rattle.bit_pipe.proofs.Putting.{open_later}

pub open_unless : {S T : Type 0} {k : SinkOf S} {a b : SinkState S} {xs : List Bool} (r : Result T PutFault) → IsOpen a → Puts k r a b xs →
    r ≢ Err WriteFault → IsOpen b
open_unless (Ok x) h p n = open_later h p.ends
open_unless (Err Stopped) h p n = open_later h p.ends.1
open_unless (Err WriteFault) h p n = absurd (n refl)

-- the bound stays
pub bound_unless : {S T : Type 0} {k : SinkOf S} {a b : SinkState S} {xs : List Bool} (r : Result T PutFault) → Puts k r a b xs → r ≢ Err WriteFault →
    b.bound ≡ a.bound
bound_unless (Ok x) p n = p.ends.bound
bound_unless (Err Stopped) p n = p.ends.1.bound
bound_unless (Err WriteFault) p n = absurd (n refl)

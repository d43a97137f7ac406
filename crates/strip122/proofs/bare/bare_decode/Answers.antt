use Rattle.strip122.proofs.BareRuns.{bare_decode_failed}
use Rattle.strip122.proofs.bare.bare_decode.Goals as goal

pub returns-in-Err : goal.returns-in-Err
returns-in-Err g c = bare_decode_failed c.args.wish.now _ _ _ c.in-Err.fault c.bare_fault_status.result c.in-Err.ensures c.note_bare_fault.ensures
    c.bare_fault_status.ensures

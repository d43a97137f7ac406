use Rattle.strip122.proofs.Decoded.{found, find_failed}
use Rattle.strip122.proofs.packets.damage.Goals as goal

pub returns-in-Ok : goal.returns-in-Ok
returns-in-Ok g c = found c.args.wish.now _ _ _ c.in-Ok.done c.report_done.result c.in-Ok.ensures c.report_done.ensures

pub returns-in-Err : goal.returns-in-Err
returns-in-Err g c = find_failed c.args.wish.now _ _ _ c.in-Err.fault c.decoder_fault_status.result c.in-Err.ensures c.note_decoder_fault.ensures
    c.decoder_fault_status.ensures

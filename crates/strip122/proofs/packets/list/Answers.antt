use Rattle.strip122.specs.Listing.{lister}
use Rattle.strip122.proofs.Listed.{if_known, failed, list_reads}
use Rattle.strip122.proofs.packets.list.Goals as goal

pub returns-in-Ok : goal.returns-in-Ok
returns-in-Ok g c =
    let run = c.in-Ok.ensures in
    if_known (lister c.args.wish.now) (list_reads c.args.wish.now) run.since run.readable run.within c.report_framing.result c.in-Ok.done run.answer
    c.report_framing.ensures

pub returns-in-Err : goal.returns-in-Err
returns-in-Err g c =
    let run = c.in-Err.ensures in
    failed (lister c.args.wish.now) (list_reads c.args.wish.now) run.since run.readable run.within c.list_fault_status.result c.in-Err.fault run.answer
    c.note_list_fault.ensures c.list_fault_status.ensures

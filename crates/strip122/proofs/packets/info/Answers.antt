use Rattle.std.proofs.Common.{◌∙◌, ap, subst}
use Rattle.camera_mux.specs.declared.info.InfoWish.{InfoWish}
use Rattle.strip122.specs.Notes.{Notes}
use Rattle.strip122.specs.Listing.{informer}
use Rattle.strip122.proofs.Reports.{list_fault_status, list_fault_line}
use Rattle.strip122.proofs.Listed.{if_known, failed, info_reads}
use Rattle.strip122.proofs.packets.info.Goals as goal

pub returns-in-Ok : goal.returns-in-Ok
returns-in-Ok g c =
    let run = c.in-Ok.ensures in
    let wish : InfoWish = record { apid = c.args.apid; octets = c.args.octets } in
    if_known (informer wish) (info_reads wish) run.since run.readable run.within c.report_framing.result c.in-Ok.done run.answer c.report_framing.ensures

pub returns-in-Err : goal.returns-in-Err
returns-in-Err g c =
    let run = c.in-Err.ensures in
    let wish : InfoWish = record { apid = c.args.apid; octets = c.args.octets } in
    failed (informer wish) (info_reads wish) run.since run.readable run.within c.list_fault_status.result c.in-Err.fault run.answer
    (subst (λ fault. Notes (g.X.Port.outside c.list_images.new.port) (g.X.Port.outside c.note_list_fault.new.port) (list_fault_line fault))
    c.list_fault_of-known.ensures c.note_list_fault.ensures) (c.list_fault_status.ensures ∙ ap list_fault_status c.list_fault_of-known.ensures)

use Rattle.std.proofs.Common.{rules, ◌≡◌, ◌∙◌, ap, subst, to_z, of_z, w32, Err}
use Rattle.raster_rows.specs.RowReads.{RowRead}
use Rattle.encoder_rows.specs.Ports.{octets_outside}
use Rattle.encoder_rows.proofs.RowReads.{reads_all, reads_bad}
use Rattle.encoder_rows.proofs.rows.read_octets.Goals as goal

pub returns-in-Ok-clause-reads : goal.returns-in-Ok-clause-reads
returns-in-Ok-clause-reads c =
    let s = c.args.setting.now in
    let old = octets_outside c.new-port.result in
    let new = octets_outside c.read_row.new.port in
    reads_all s c.args.octets.now c.requires.whole old new (ap (λ o. o.rest) c.new-port.ensures) c.deref_mut.result.now c.read_row.new.into c.in-Ok.field-0
    c.args.row.now (c.read_row.auto.into ∙ c.deref_mut.ensures.len)
    c.in-Ok.ensures

pub returns-in-Err-BadPixel-clause-reads : goal.returns-in-Err-BadPixel-clause-reads
returns-in-Err-BadPixel-clause-reads c =
    let s = c.args.setting.now in
    let old = octets_outside c.new-port.result in
    let new = octets_outside c.read_row.new.port in
    let value = c.in-Err-BadPixel.value in
    let same : to_z w32 (of_z w32 value) ≡ value = search rules in
    rw same
    (reads_bad s c.args.octets.now c.requires.whole old new (ap (λ o. o.rest) c.new-port.ensures) c.deref_mut.result.now c.read_row.new.into _
    c.in-Err-BadPixel.column _
    (subst (λ f. RowRead s.depth s.signed s.width 0 old new c.deref_mut.result.now c.read_row.new.into (Err f)) c.in-Err-BadPixel.field-0-is
    c.in-Err-BadPixel.ensures))

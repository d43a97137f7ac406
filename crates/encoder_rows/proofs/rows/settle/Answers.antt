use Rattle.std.proofs.Common.{arith, refl, subst}
use Rattle.strip_coder.specs.Steps.{BreaksAt, TakesRow}
use Rattle.encoder_rows.specs.Ports.{packets_outside}
use Rattle.encoder_rows.proofs.Reach.{reached_is}
use Rattle.encoder_rows.proofs.RowSteps.{row_fits_room, row_never_breaks, row_size}
use Rattle.encoder_rows.proofs.rows.settle.Goals as goal

pub unreachable-requires : goal.unreachable-requires
unreachable-requires c =
    let s = c.args.setting.now in
    let w = c.args.work.now in
    let k = w.at.rows in
    let few = c.requires.few in
    let size = c.args.packets.now.size in
    let new = c.row_in.new.port in
    let index = reached_is s c.requires.usable.in_range k w (omega (arith, few)) c.requires.taken in
    let breaks = subst (λ o. BreaksAt s k o (packets_outside new) w c.row_in.new.work) c.clear.ensures c.in_default.ensures in
    row_never_breaks s c.requires.usable k few w refl index c.requires.next size new.size new.faults new.kept.items c.row_in.new.work c.requires.room
    c.row_in.new.port.full breaks

pub returns-clause-fits : goal.returns-clause-fits
returns-clause-fits c =
    let s = c.args.setting.now in
    let w = c.args.work.now in
    let k = w.at.rows in
    let few = c.requires.few in
    let size = c.args.packets.now.size in
    let new = c.row_in.new.port in
    let index = reached_is s c.requires.usable.in_range k w (omega (arith, few)) c.requires.taken in
    let takes = subst (λ o. TakesRow s k o (packets_outside new) w c.row_in.new.work) c.clear.ensures c.in-Ok.ensures in
    row_fits_room s c.requires.usable k few w refl index c.requires.next size new.size new.faults new.kept.items c.row_in.new.work takes

pub returns-clause-room : goal.returns-clause-room
returns-clause-room c =
    let s = c.args.setting.now in
    let w = c.args.work.now in
    let k = w.at.rows in
    let few = c.requires.few in
    let size = c.args.packets.now.size in
    let new = c.row_in.new.port in
    let index = reached_is s c.requires.usable.in_range k w (omega (arith, few)) c.requires.taken in
    let takes = subst (λ o. TakesRow s k o (packets_outside new) w c.row_in.new.work) c.clear.ensures c.in-Ok.ensures in
    row_size s c.requires.usable k few w refl index c.requires.next size new.size new.faults new.kept.items c.row_in.new.work takes

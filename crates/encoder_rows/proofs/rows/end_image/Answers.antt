use Rattle.std.proofs.Common.{subst}
use Rattle.strip_coder.specs.Steps.{EndBreaks, EndsImage}
use Rattle.encoder_rows.specs.Ports.{packets_outside}
use Rattle.encoder_rows.proofs.EndSteps.{end_fits_room, end_given, end_never_breaks, end_size}
use Rattle.encoder_rows.proofs.rows.end_image.Goals as goal

pub unreachable-requires : goal.unreachable-requires
unreachable-requires c =
    let s = c.args.setting.now in
    let w = c.args.work.now in
    let k = w.at.rows in
    let run = c.requires.running in
    let size = c.args.packets.now.size in
    let new = c.image_end.new.port in
    let breaks = subst (λ o. EndBreaks s k o (packets_outside new) w c.image_end.new.work) c.clear.ensures c.in_default.ensures in
    end_never_breaks s c.requires.usable k c.requires.height run.taken run.given w run.rows size new.size new.faults new.kept.items c.image_end.new.work
    c.requires.room c.image_end.new.port.full breaks

pub returns-clause-gives : goal.returns-clause-gives
returns-clause-gives c =
    let s = c.args.setting.now in
    let w = c.args.work.now in
    let k = w.at.rows in
    let run = c.requires.running in
    let size = c.args.packets.now.size in
    let new = c.image_end.new.port in
    let ends = subst (λ o. EndsImage s k o (packets_outside new) w c.image_end.new.work c.in-Ok.done) c.clear.ensures c.in-Ok.ensures in
    record {
      made = ends.made;
      fits = end_fits_room s c.requires.usable k c.requires.height run.taken run.given w run.rows size new.size new.faults new.kept.items
          c.image_end.new.work c.in-Ok.done ends;
      all = λ taken given has. end_given s c.requires.usable k c.requires.height taken given w has size new.size new.faults new.kept.items
          c.image_end.new.work c.in-Ok.done ends;
    }

pub returns-clause-room : goal.returns-clause-room
returns-clause-room c =
    let s = c.args.setting.now in
    let w = c.args.work.now in
    let k = w.at.rows in
    let run = c.requires.running in
    let size = c.args.packets.now.size in
    let new = c.image_end.new.port in
    let ends = subst (λ o. EndsImage s k o (packets_outside new) w c.image_end.new.work c.in-Ok.done) c.clear.ensures c.in-Ok.ensures in
    end_size s c.requires.usable k c.requires.height run.taken run.given w run.rows size new.size new.faults new.kept.items c.image_end.new.work
    c.in-Ok.done ends

use Rattle.std.proofs.Common.{rules, ◌≡◌, ◌++◌, length, drop, refl, ap}
use Rattle.port_122.specs.Outside.{Outside}
use Rattle.strip122_c.specs.Lent.{outside_of}
use Rattle.strip122_c.proofs.WholeListed.{has_info}
use Rattle.strip122_c.proofs.info.list_whole.Goals as goal

pub returns-then-lines-room : goal.returns-then-lines-room
returns-then-lines-room c =
    let info = has_info c.args.wish.now c.args.packets.now c.in-Some.lines.now (outside_of c.in-Ok.port) (outside_of c.run.new.port) c.in-Ok-run.done
    (ap (λ (o : Outside). o.rest) c.in-Ok.ensures.outside) (ap (λ (o : Outside). o.given) c.in-Ok.ensures.outside) c.in-Some.ensures c.in-Ok-run.ensures in
    (refl, record { lines = c.in-Some.lines.now; are = info.are; octets_are = refl; small = c.if-lines-room.true })

pub returns : goal.returns
returns c =
    let lines = c.in-Some.lines.now in
    let copied : c.copy_from_slice.new.self ≡ lines = search rules in
    let info = has_info c.args.wish.now c.args.packets.now lines (outside_of c.in-Ok.port) (outside_of c.run.new.port) c.in-Ok-run.done
    (ap (λ (o : Outside). o.rest) c.in-Ok.ensures.outside) (ap (λ (o : Outside). o.given) c.in-Ok.ensures.outside) c.in-Some.ensures c.in-Ok-run.ensures in
    record {
      lines = lines;
      are = info.are;
      octets = refl;
      images = info.images_are;
      framing_is = info.framing_is;
      room = ap (λ octets. octets ++ drop (length lines) c.args.room.now) copied;
    }

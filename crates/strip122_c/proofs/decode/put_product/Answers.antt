use Rattle.std.proofs.Common.{rules, ◌≡◌, ◌++◌, length, drop, refl, ap}
use Rattle.port_122.specs.Outside.{Outside}
use Rattle.strip122_c.specs.Lent.{outside_of}
use Rattle.strip122_c.proofs.WholeDecoded.{is_made, refused, small_room}
use Rattle.strip122_c.proofs.decode.put_product.Goals as goal

pub returns-in-Err-run : goal.returns-in-Err-run
returns-in-Err-run c =
    refused c.args.product c.args.wish.now c.args.packets.now c.args.room.now (outside_of c.in-Ok-new.port) (outside_of c.run.new.port) c.in-Err-run.refusal
    c.in-Ok.ensures.fits
    (ap (λ (o : Outside). o.rest) c.in-Ok-new.ensures.outside) c.in-Err-run.ensures

pub returns-then-given-room : goal.returns-then-given-room
returns-then-given-room c =
    let made = is_made c.args.product c.args.wish.now c.args.packets.now c.in-Some.given.now (outside_of c.in-Ok-new.port) (outside_of c.run.new.port)
    c.in-Ok-run.done c.received_is_known.ensures
    (ap (λ (o : Outside). o.rest) c.in-Ok-new.ensures.outside) (ap (λ (o : Outside). o.given) c.in-Ok-new.ensures.outside) c.in-Some.ensures
    c.in-Ok-run.ensures in
    (refl, small_room c.args.product c.args.wish.now c.args.packets.now c.in-Some.given.now (length c.args.room.now) c.in-Ok-run.done made c.if-given-room.true)

pub returns : goal.returns
returns c =
    let given = c.in-Some.given.now in
    let copied : c.copy_from_slice.new.self ≡ given = search rules in
    record {
      octets = given;
      are = is_made c.args.product c.args.wish.now c.args.packets.now given (outside_of c.in-Ok-new.port) (outside_of c.run.new.port) c.in-Ok-run.done
          c.received_is_known.ensures
          (ap (λ (o : Outside). o.rest) c.in-Ok-new.ensures.outside) (ap (λ (o : Outside). o.given) c.in-Ok-new.ensures.outside) c.in-Some.ensures
          c.in-Ok-run.ensures;
      count = refl;
      fits = c.if-given-room.false;
      room = ap (λ octets. octets ++ drop (length given) c.args.room.now) copied;
    }

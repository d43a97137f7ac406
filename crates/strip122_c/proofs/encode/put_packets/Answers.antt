use Rattle.std.proofs.Common.{rules, ◌≡◌, ◌∙◌, ◌++◌, drop, ap}
use Rattle.port_122.specs.Outside.{Outside}
use Rattle.strip122_c.specs.Lent.{outside_of}
use Rattle.strip122_c.specs.WholeEncoding.{IsAdmitted}
use Rattle.strip122_c.proofs.WholeEncoded.{has_encoded, refused}
use Rattle.strip122_c.proofs.encode.put_packets.Goals as goal

pub returns-in-Err-encode : goal.returns-in-Err-encode
returns-in-Err-encode c =
    let admits : IsAdmitted c.args.setting.now = search rules in
    refused c.args.setting.now c.args.raster.now c.args.room.now (outside_of c.in-Ok.port) (outside_of c.encode.new.port) c.in-Err-encode.refusal admits
    (ap (λ (o : Outside). o.rest) c.in-Ok.ensures.outside) c.in-Err-encode.ensures

pub returns : goal.returns
returns c =
    let admits : IsAdmitted c.args.setting.now = search rules in
    let copied : c.copy_from_slice.new.self ≡ c.in-Some.packets.now = search rules in
    let has = has_encoded c.args.setting.now c.args.raster.now (outside_of c.in-Ok.port) (outside_of c.encode.new.port) c.in-Ok-encode.done admits
    c.requires.book c.ten_weights.ensures
    (ap (λ (o : Outside). o.rest) c.in-Ok.ensures.outside) (ap (λ (o : Outside). o.given) c.in-Ok.ensures.outside) c.in-Ok-encode.ensures in
    record {
      took = has.took;
      image = has.image;
      done_for = has.done_for;
      room = ap (λ octets. octets ++ drop c.in-Ok-encode.done.octets c.args.room.now) (copied ∙ has.gave c.in-Some.packets.now c.in-Some.ensures);
    }

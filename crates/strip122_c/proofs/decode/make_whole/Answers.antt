use Rattle.std.proofs.Common.{◌≡◌, ap, subst}
use Rattle.strip122_c.specs.WholeDecoding.{Makes}
use Rattle.strip122_c.proofs.ImagesBack.{brings_back}
use Rattle.strip122_c.proofs.decode.make_whole.Goals as goal

pub returns-clause-back : goal.returns-clause-back
returns-clause-back c picture =
    brings_back c.args.wish.now c.args.packets.now c.args.room.now c.put_product.new.room c.put_product.result c.round_trip.ensures
    c.received_is_known.ensures c.heights_are_known.ensures
    (subst (λ product. Makes product c.args.wish.now c.args.packets.now c.args.room.now c.put_product.new.room c.put_product.result) picture
    c.put_product.ensures)

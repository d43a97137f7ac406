use Rattle.std.proofs.Common.{◌*◌, refl}
use Rattle.block_masks.proofs.Pairing.{shows_octet}
use Rattle.block_masks.proofs.paired.PairedFours.pick.Goals as goal

pub returns-clause-picked : goal.returns-clause-picked
returns-clause-picked c due bits f g paired dues ones =
    let k = c.args.k in
    let both = shows_octet c.octet.result k (4 * k) refl c.requires (c.octet.ensures.value due bits paired) dues ones in
    c.pick_octet.ensures.picked f g (4 * k) both.0 both.1

use Rattle.std.proofs.Common.{◌-◌, ◌*◌, ◌/◌, sym, subst}
use Rattle.block_masks.specs.Masks.{Shows}
use Rattle.plane_coder.proofs.FourTypes.{shows_filled}
use Rattle.plane_coder.proofs.fours.filled.Goals as goal

pub returns : goal.returns
returns c f count few p start = subst (λ m. Shows m (λ p. f ((p - start) / 4)) start (4 * count)) (sym c.from.ensures)
    (shows_filled c.args.sets count start f c.requires few p)

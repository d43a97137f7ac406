use Rattle.std.proofs.Common.{◌*◌, ◌/◌, ◌%◌, length}
use Rattle.block_masks.specs.Slices.{width}
use Rattle.block_masks.proofs.SlicePlaces.{place_in}
use Rattle.block_masks.proofs.slices.Column.place.Goals as goal

pub returns-clause-place : goal.returns-clause-place
returns-clause-place c =
    let r = c.args.self.block in
    place_in c.args.self.first c.args.self.step (4096 * (r / 64)) (width (length c.args.cells.now / 64) r) (r % 64) c.args.slot c.requires.column.first
    c.requires.column.step

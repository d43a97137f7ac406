use Rattle.std.proofs.Common.{arith, w32, ◌∙◌}
use Rattle.std.proofs.lemmas.Int.{to_z-of_z}
use Rattle.wave_plain.proofs.BlockRowLaws.{number_is, cell_within, number_small, within_more}
use Rattle.wave_plain.proofs.block_row.BlockRowBandSource.value.Goals as goal

pub cell_of-requires-clause-cell : goal.cell_of-requires-clause-cell
cell_of-requires-clause-cell c = rw c.side_of.ensures (cell_within c.args.self.now.bands.now c.args.self.now.row _ c.plane_of-plane.result.now
    c.args.self.now.holds c.requires.within c.plane_of-plane.ensures)

pub cell_of-requires-clause-small : goal.cell_of-requires-clause-small
cell_of-requires-clause-small c =
    rw (
      c.side_of.ensures,
      number_is c.args.self.now.bands.now c.args.self.now.row _ c.plane_of-plane.result.now c.args.self.now.holds c.requires.within
          c.plane_of-plane.ensures,
    )
    (within_more (omega arith) (number_small c.args.self.now.bands.now c.args.self.now.row _ c.args.self.now.holds c.requires.within))

pub returns : goal.returns
returns c = to_z-of_z w32 c.cell_of.result (record { sfits = c.cell_of.type_inv }) ∙ c.cell_of.ensures
    ∙ rw c.side_of.ensures (number_is c.args.self.now.bands.now c.args.self.now.row _ c.plane_of-plane.result.now c.args.self.now.holds c.requires.within
    c.plane_of-plane.ensures)

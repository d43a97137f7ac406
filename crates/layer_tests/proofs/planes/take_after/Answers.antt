use Rattle.layer_tests.proofs.Awaiting.{has_no_acs, dc_awaits}
use Rattle.layer_tests.proofs.planes.take_after.Goals as goal

pub take_planes-requires-clause-acs : goal.take_planes-requires-clause-acs
take_planes-requires-clause-acs c = rw c.requires (has_no_acs c.args.known.now.dc)

pub take_planes-requires-clause-dcs : goal.take_planes-requires-clause-dcs
take_planes-requires-clause-dcs c =
    rw c.requires (dc_awaits c.args.known.now.sent.below c.args.known.now.sent.q c.args.known.now.dc c.args.known.now.none)

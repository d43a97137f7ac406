use Rattle.camera_mux.proofs.PickedPackets.{picks_whole}
use Rattle.camera_mux.proofs.PickedFates.{picks_all}
use Rattle.camera_mux.proofs.picked_laws.picking_keeps.Goals as goal

pub returns : goal.returns
returns c = record { whole = picks_whole; all = picks_all }

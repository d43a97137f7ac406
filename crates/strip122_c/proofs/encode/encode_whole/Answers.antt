use Rattle.strip122_c.proofs.WholeEncoded.{accepts}
use Rattle.strip122_c.proofs.encode.encode_whole.Goals as goal

pub returns-clause-accepts : goal.returns-clause-accepts
returns-clause-accepts c = accepts c.args.setting.now c.args.raster.now c.args.room.now c.put_packets.new.room c.put_packets.result c.put_packets.ensures

use Rattle.std.proofs.Common.{◌≡◌, ap}
use Rattle.space_packets.specs.Progress.{Progress, fresh}
use Rattle.space_packets.specs.Serving.{ServesAs}

-- with the same length, a reset leaves the same state
serves : {v w : Progress} → w.packet ≡ v.packet → ServesAs v w
serves e = record { packet = e; again = ap fresh e }

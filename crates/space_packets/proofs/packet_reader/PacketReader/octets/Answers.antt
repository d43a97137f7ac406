use Rattle.std.proofs.Common.{length, sym, ap, ◌∙◌, arith, length-take-le}
use Rattle.packet_defs.specs.Streams.{reported_length}
use Rattle.packet_defs.proofs.Prefixes.{begins_so}
use Rattle.space_packets.proofs.packet_reader.PacketReader.octets.Goals as goal

pub reported_length-requires : goal.reported_length-requires
reported_length-requires c = rw c.pending-pending.ensures.waiting (begins_so _ c.requires).header

pub slice_bounds-result-end : goal.slice_bounds-result-end
slice_bounds-result-end c =
    let whole = (begins_so _ c.requires).whole in
    let if_known = c.reported_length.ensures.value ∙ ap reported_length c.pending-pending.ensures.waiting in
    let long = ap length c.pending-pending.ensures.waiting in
    sym (length-take-le c.reported_length.result c.pending-pending.result.now (omega (arith, whole, if_known, long)))

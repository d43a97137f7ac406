use Rattle.std.proofs.Common.{rules, arith, ◌≡◌, ◌≤◌, ◌<◌, ◌-◌, length, take, drop, None}
use Rattle.std.proofs.lemmas.Grind.{common_steps}
use Rattle.port_122.proofs.MemoryReads.{memory_read}
use Rattle.encoder_rows.proofs.ports.OctetsInPort.read.Goals as goal

pub returns : goal.returns
returns c =
    let s = c.args.self.now in
    let count = c.min-count.result in
    let room : count ≤ length s.octets.now - s.at = search rules in
    let copied : c.copy_from_slice.new.self ≡ take count (drop s.at s.octets.now) = grind (arith, common_steps) in
    let ends : count ≡ 0 → 0 < length (drop count c.args.into.now) → length s.octets.now ≤ s.at = λ z some. grind (arith, common_steps, z, some) in
    record {
      octets = memory_read s.octets.now c.copy_from_slice.new.self (drop count c.args.into.now) None None None None s.at count 0 0 0 s.within room
          copied ends tt tt;
    }

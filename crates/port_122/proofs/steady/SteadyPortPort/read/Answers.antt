use Rattle.std.proofs.Common.{rules, arith, ◌≡◌, ◌≤◌, ◌<◌, ◌-◌, length, take, drop, None}
use Rattle.std.proofs.lemmas.Grind.{common_steps}
use Rattle.port_122.specs.Steady.{outside_of}
use Rattle.port_122.proofs.MemoryReads.{memory_read}
use Rattle.port_122.proofs.steady.SteadyPortPort.read.Goals as goal

pub returns-clause-octets : goal.returns-clause-octets
returns-clause-octets c =
    let s = c.args.self.now in
    let count = c.min-count.result in
    let room : count ≤ length s.input.items - s.at = search rules in
    let copied : c.copy_from_slice.new.self ≡ take count (drop s.at s.input.items) = grind (arith, common_steps) in
    let ends : count ≡ 0 → 0 < length (drop count c.args.into.now) → length s.input.items ≤ s.at = λ z some. grind (arith, common_steps, z, some) in
    memory_read s.input.items c.copy_from_slice.new.self (drop count c.args.into.now) (outside_of s).given (outside_of s).noted None None s.at count 0 0 0
    s.within room copied ends tt tt

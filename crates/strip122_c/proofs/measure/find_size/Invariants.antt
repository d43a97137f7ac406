use Rattle.std.proofs.Common.{◌≡◌, ℕ, List, Some}
use Rattle.base_122.specs.declared.geometry.Geometry.{Geometry}
use Rattle.packet_assembly.proofs.PacketSteps.{octets_left}
use Rattle.strip122_c.specs.Lent.{outside_of}
use Rattle.strip122_c.proofs.Measures.{HasHeadFrom}
use Rattle.strip122_c.proofs.measure.find_size.Given as goal

abbrev pub invariant-heads : goal.invariant-heads
invariant-heads l = (packets : List ℕ) → (outside_of l.fn.port).rest ≡ Some packets →
    (first : Geometry) × HasHeadFrom l.wish packets (outside_of l.port) l.assembly l.found first × (first.rows ≡ 0)

abbrev pub decreases-heads : goal.decreases-heads
decreases-heads l = octets_left l.assembly.intake

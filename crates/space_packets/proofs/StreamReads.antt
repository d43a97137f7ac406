-- A reader reads a stream packet by packet: its result is that of the stream's definitions.
use Rattle.std.proofs.lemmas.Bool.Decides.{nat_tests}
use Rattle.std.proofs.Common.{arith, ◌≡◌, ◌==◌, false}
use Rattle.std.proofs.lemmas.Bool.{false≢true}
use Rattle.packet_defs.specs.Streams.{has_bad_version, begins_packet}
use Rattle.space_packets.specs.Intake.{Intake, is_decided}

-- if nothing is decided, no packet waits: so at each read call all whole packets among the octets taken were returned
pub undecided_none : (u : Intake) → is_decided u ≡ false → begins_packet u.pending ≡ false
unfolding is_decided
undecided_none u e = grind (arith, nat_tests, false≢true)

-- nor octets that can't be read on, and further ones may be taken
pub undecided_good : (u : Intake) → is_decided u ≡ false → has_bad_version u.pending ≡ false
unfolding is_decided
undecided_good u e = grind (arith, nat_tests, false≢true)

pub undecided_below : (u : Intake) → is_decided u ≡ false → (u.taken == u.cap) ≡ false
unfolding is_decided
undecided_below u e = grind (arith, nat_tests, false≢true)

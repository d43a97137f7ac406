-- What a reader's results imply for the octets that decided them.
use Rattle.std.proofs.Common.{◌≡◌, ◌≤◌, ◌+◌, ℕ, List, [], ◌∷◌, length, refl, sym, subst, arith, length-drop, Bool, true, false, Option, Some, None, Result}
use Rattle.std.proofs.Common.{Ok, Err, ◌⊎◌, ◌==◌}
use Rattle.std.proofs.lemmas.Bool.{false≢true}
use Rattle.std.proofs.lemmas.Bool.Decides.{nat_tests}
use Rattle.bit_pipe.specs.declared.fault.InFault.{InFault}
use Rattle.bit_pipe.specs.declared.fault.InFault.TheVariants.{ReadFault, LongInput, Broken}
use Rattle.port_122.specs.Outside.{Outside}
use Rattle.packet_defs.specs.declared.ancillary.Ancillary.{Ancillary}
use Rattle.packet_defs.specs.declared.packet.PacketHead.{PacketHead}
use Rattle.packet_defs.specs.declared.packet.PacketRead.{PacketRead}
use Rattle.packet_defs.specs.declared.packet.PacketRead.TheVariants.{Mine, Skipped, Ended, Fault}
use Rattle.packet_defs.specs.declared.packet.Framing.{Framing}
use Rattle.packet_defs.specs.declared.packet.Skip.{Skip}
use Rattle.packet_defs.specs.Tests.{when, first_of}
use Rattle.packet_defs.specs.Reading.{read_as, skip_of, head_in, ancillary_in}
use Rattle.packet_defs.specs.Streams.{has_bad_version, reported_length, begins_packet, first_packet, after_packet}
use Rattle.packet_defs.proofs.Prefixes.{begins_so, known_least}
use Rattle.space_packets.specs.Intake.{Intake, end_read, verdict, answered}
use Rattle.space_packets.specs.PacketReads.{EndsPacket}
use Rattle.space_packets.proofs.Intakes.{no_begin}
use Rattle.packet_defs.proofs.Equations.{packet_read-is}

-- ---- the test that decided

abbrev first_answer : (a b c d : Bool) → Framing → PacketRead → Option Framing → Option (Result PacketRead InFault)
first_answer a b c d f y o = first_of (when a (Ok (Fault f)) ∷ when b (Ok y) ∷ when c (Ok (end_read o)) ∷ when d (Err LongInput) ∷ [])

mine_by : (a b c d : Bool) (f : Framing) (y : PacketRead) (o : Option Framing) (head : PacketHead) (reports : Ancillary) →
    first_answer a b c d f y o ≡ Some (Ok (Mine head reports)) → (b ≡ true) × (y ≡ Mine head reports)
mine_by a b c d f y o head reports e = grind (arith, nat_tests)

skipped_by : (a b c d : Bool) (f : Framing) (y : PacketRead) (o : Option Framing) (skip : Skip) →
    first_answer a b c d f y o ≡ Some (Ok (Skipped skip)) → (b ≡ true) × (y ≡ Skipped skip)
skipped_by a b c d f y o skip e = grind (arith, nat_tests)

-- the end, or why there is none, is no packet
abbrev pub is_over : PacketRead → Bool
is_over (Mine head reports) = false
is_over (Skipped skip) = false
is_over Ended = true
is_over (Fault fault) = true

over_by : (a b c d : Bool) (f : Framing) (y : PacketRead) (o : Option Framing) (r : PacketRead) → is_over r ≡ true → is_over y ≡ false →
    (a ≡ true → b ≡ false) →
    first_answer a b c d f y o ≡ Some (Ok r) → (b ≡ false) × ((a ≡ true) ⊎ (c ≡ true))
over_by a b c d f y o r over none bad e = grind (arith, nat_tests, false≢true)

-- why no octets were read, if the cap decided that
pub record AtCap (u : Intake) (fault : InFault) : Type 0 where
  pub good : has_bad_version u.pending ≡ false
  pub none : begins_packet u.pending ≡ false
  pub going : u.ended ≡ false
  pub full : u.taken ≡ u.cap
  pub is : fault ≡ LongInput

long_by : (u : Intake) (a b c d : Bool) (f : Framing) (y : PacketRead) (o : Option Framing) (fault : InFault) → has_bad_version u.pending ≡ a →
    begins_packet u.pending ≡ b → u.ended ≡ c → (u.taken == u.cap) ≡ d →
    first_answer a b c d f y o ≡ Some (Err fault) → AtCap u fault
long_by u a b c d f y o fault ea eb ec ed e = grind (arith, nat_tests)

-- ---- what was read

-- a packet of the image waits first
pub record MineAt (apid : ℕ) (u : Intake) (head : PacketHead) (reports : Ancillary) : Type 0 where
  pub whole : begins_packet u.pending ≡ true
  pub mine : skip_of apid (first_packet u.pending) ≡ None
  pub head_is : head ≡ head_in (first_packet u.pending)
  pub ancillary_is : reports ≡ ancillary_in (first_packet u.pending)

-- another packet waits first
pub record OtherAt (apid : ℕ) (u : Intake) (skip : Skip) : Type 0 where
  pub whole : begins_packet u.pending ≡ true
  pub other : skip_of apid (first_packet u.pending) ≡ Some skip

as_mine : (o : Option Skip) (packet : List ℕ) (head : PacketHead) (reports : Ancillary) → read_as o packet ≡ Mine head reports →
    (o ≡ None) × (head ≡ head_in packet) × (reports ≡ ancillary_in packet)
as_mine o packet head reports e = grind (arith, nat_tests)

as_skipped : (o : Option Skip) (packet : List ℕ) (skip : Skip) → read_as o packet ≡ Skipped skip → o ≡ Some skip
as_skipped o packet skip e = grind (arith, nat_tests)

as_none : (o : Option Skip) (packet : List ℕ) → is_over (read_as o packet) ≡ false
as_none o packet = grind (arith, nat_tests)

pub mine_read : (apid : ℕ) (u : Intake) (head : PacketHead) (reports : Ancillary) → verdict apid u ≡ Some (Ok (Mine head reports)) → MineAt apid u head reports
unfolding verdict
mine_read apid u head reports e = grind (arith, nat_tests, mine_by, as_mine, packet_read-is)

pub other_read : (apid : ℕ) (u : Intake) (skip : Skip) → verdict apid u ≡ Some (Ok (Skipped skip)) → OtherAt apid u skip
unfolding verdict
other_read apid u skip e = grind (arith, nat_tests, skipped_by, as_skipped, packet_read-is)

pub over_read : (apid : ℕ) (u : Intake) (r : PacketRead) → is_over r ≡ true → verdict apid u ≡ Some (Ok r) →
    (begins_packet u.pending ≡ false) × ((has_bad_version u.pending ≡ true) ⊎ (u.ended ≡ true))
unfolding verdict
over_read apid u r over e = grind (arith, nat_tests, packet_read-is, over_by, as_none, no_begin)

pub long_read : (apid : ℕ) (u : Intake) (fault : InFault) → verdict apid u ≡ Some (Err fault) → AtCap u fault
unfolding verdict
long_read apid u fault e = grind (arith, nat_tests, long_by)

-- ---- what holds afterwards

-- a reader that took no octet
pub record Continues (u w : Intake) : Type 0 where
  pub cap : w.cap ≡ u.cap
  pub taken : w.taken ≡ u.taken
  pub shorter : length w.pending ≤ length u.pending

pub answered_none_text : (apid : ℕ) (u : Intake) → begins_packet u.pending ≡ false → answered apid u ≡ record u { text = [] }
unfolding answered
answered_none_text apid u none = rw none refl

answered_goes : (apid : ℕ) (u : Intake) → Continues u (answered apid u)
unfolding answered
answered_goes apid u = grind (arith, nat_tests, length-drop)

here : (apid : ℕ) (u w : Intake) → w ≡ answered apid u → Continues u w
here apid u w e = subst (λ w. Continues u w) (sym e) (answered_goes apid u)

pub ends_go : (apid : ℕ) (p q : Outside) (u w : Intake) (result : Result PacketRead InFault) → EndsPacket apid p q u w result → Continues u w
ends_go apid p q u w (Ok read) ends = here apid u w ends.1
ends_go apid p q u w (Err ReadFault) ends = subst (λ w. Continues u w) (sym ends.2) (record { cap = refl; taken = refl; shorter = omega arith })
ends_go apid p q u w (Err LongInput) ends = here apid u w ends.1
ends_go apid p q u w (Err Broken) ends = here apid u w ends.1

-- a packet that is passed is no octet's
pub shorter_past : (u : Intake) → begins_packet u.pending ≡ true → length (after_packet u.pending) + 7 ≤ length u.pending
shorter_past u whole =
    let fits = (begins_so u.pending whole).whole in
    omega (arith, fits, known_least u.pending, length-drop (reported_length u.pending) u.pending)

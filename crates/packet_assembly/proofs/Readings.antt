-- How a stream is read on, and to its end.
use Rattle.std.proofs.Common.{◌≡◌, ◌≤◌, ◌<◌, ◌+◌, ◌-◌, ℕ, List, [], ◌∷◌, ◌++◌, length, take, refl, sym, ap, ◌∙◌, arith, append_assoc, length-append, Bool}
use Rattle.std.proofs.Common.{true, false, nat_lt, ◌==◌, Option, Some, Result, Ok, Err, ltb-true, append-nil, take_all, subst}
use Rattle.std.proofs.lemmas.Bool.Decides.{nat_tests}
use Rattle.std.proofs.lemmas.List.{take-append-le}
use Rattle.std.proofs.Math.Seq.{take-append-add}
use Rattle.bit_pipe.specs.declared.fault.InFault.{InFault}
use Rattle.bit_pipe.specs.declared.fault.InFault.TheVariants as in_faults
use Rattle.port_122.specs.Outside.{Outside, Exchange}
use Rattle.port_122.proofs.Stretches.{since_then, since_weaker, each_of_both, at_end_later}
use Rattle.packet_defs.specs.Packets.{joined}
use Rattle.packet_defs.specs.Tests.{when, first_of}
use Rattle.packet_defs.specs.declared.packet.Framing.{Framing}
use Rattle.packet_defs.specs.declared.packet.Framing.TheVariants.{BadVersion}
use Rattle.packet_defs.specs.declared.packet.PacketRead.{PacketRead}
use Rattle.packet_defs.specs.declared.packet.PacketRead.TheVariants.{Fault}
use Rattle.packet_defs.specs.Streams.{Splits, has_bad_version, begins_packet, whole_packets, left_over, place_after, framing_at, framing}
use Rattle.packet_defs.proofs.Joins.{joined-append}
use Rattle.packet_defs.proofs.Splits.{splits_whole, splits_left}
use Rattle.stream_defs.specs.declared.fate.FateState.{FateState}
use Rattle.stream_defs.proofs.ChosenLaws.{after_all-append}
use Rattle.space_packets.specs.Intake.{end_read, place_of}
use Rattle.space_packets.proofs.Equations.{verdict-is}
use Rattle.packet_assembly.specs.Assembling.{Assembling, AsksReadableFrom, Passes, unread_assembly}
use Rattle.packet_assembly.specs.Segments.{IsValidEnded, IsValidLong}
use Rattle.packet_assembly.specs.Passing.{before_loses, left_after}
use Rattle.packet_assembly.specs.Readings.{HasRead, SawEnd, IsReadOut, AsksReadable}
use Rattle.space_packets.proofs.Verdicts.{is_over, over_read, long_read}
use Rattle.packet_defs.proofs.Equations.{framing_at-is}

-- ---- further

-- nothing was read yet
pub none_read : (apid cap : ℕ) → HasRead apid cap (unread_assembly apid cap) [] []
none_read apid cap = record { apid = refl; taken = refl; cap = refl; capped = omega arith; octets_are = refl; packets_are = tt; state = refl; count = refl }

pub read_on : {P : FateState → Type 0} {old new : Outside} {a b : Assembling} {took : List ℕ} {passed went : List (List ℕ)} (apid cap : ℕ) →
    HasRead apid cap a took passed → (q : Passes P old new a b went) →
    HasRead apid cap b (took ++ q.took) (passed ++ went)
read_on {a = a} {b = b} {took = took} {passed = passed} {went = went} apid cap read q =
    grind (arith, nat_tests, length-append, append_assoc, joined-append, each_of_both, after_all-append)

-- at most the octets that the cap allows were taken
pub read_within : {apid cap : ℕ} {a : Assembling} {took : List ℕ} {passed : List (List ℕ)} → HasRead apid cap a took passed → length took ≤ cap
read_within read = omega (arith, read.taken, read.cap, read.capped)

-- a read call of a stretch, as one of all that was read
readable_here : {a : Assembling} {took : List ℕ} {passed : List (List ℕ)} (apid cap : ℕ) (t : List ℕ) → HasRead apid cap a took passed → (i j k : ℕ) →
    AsksReadableFrom a t i j → AsksReadable cap (took ++ t) (length took + i) k
readable_here {a = a} {took = took} {passed = passed} apid cap t read i j k r =
    let octets : take (length took + i) (took ++ t) ≡ joined passed ++ (a.intake.pending ++ take i t) =
    take-append-add took t i ∙ ap (λ zs. zs ++ take i t) read.octets_are ∙ append_assoc (joined passed) a.intake.pending (take i t) in
    let left = ap left_over octets ∙ left_after passed (a.intake.pending ++ take i t) read.packets_are in
    (subst (λ zs. has_bad_version zs ≡ false) (sym left) r.0, omega (arith, r.1, read.taken, read.cap))

-- so all read calls were made while the octets could be read on
pub readable_more : {start now new : Outside} {a : Assembling} {took gave t : List ℕ} {passed : List (List ℕ)} (apid cap : ℕ) → HasRead apid cap a took passed →
    Exchange start now took gave [] (AsksReadable cap took) → Exchange now new t [] [] (AsksReadableFrom a t) →
    Exchange start new (took ++ t) gave [] (AsksReadable cap (took ++ t))
readable_more {start = start} {now = now} {new = new} {took = took} {gave = gave} {t = t} apid cap read before more =
    let Q : ℕ → ℕ → Type 0 = AsksReadable cap (took ++ t) in
    let first : Exchange start now took gave [] Q =
    since_weaker before (λ i j le r. (subst (λ zs. has_bad_version (left_over zs) ≡ false) (sym (take-append-le i took t le)) r.0, r.1)) in
    let both : Exchange start new (took ++ t) (gave ++ []) [] Q = since_then first more (λ i j le r. readable_here apid cap t read i j (length gave + j) r) in
    subst (λ zs. Exchange start new (took ++ t) zs [] Q) (append-nil gave) both

-- ---- the end

-- octets of which none are left
nothing_more : (took rest : List ℕ) → length (took ++ rest) ≡ length took → rest ≡ []
nothing_more took [] e = refl
nothing_more took (x ∷ rest) e = absurd (omega (arith, e, length-append took (x ∷ rest)))

all_nothing : (took rest : List ℕ) → took ++ rest ≡ [] → (rest ≡ []) × (length took ≡ 0)
all_nothing [] rest e = (e, refl)
all_nothing (x ∷ took) rest e = absurd (let long = ap length e in omega (arith, long))

-- if the end was reached, nothing is left
pub end_on : {P : FateState → Type 0} {old new : Outside} {a b : Assembling} {went : List (List ℕ)} → (q : Passes P old new a b went) → SawEnd old a →
    SawEnd new b
end_on {old = old} {new = new} {a = a} {b = b} {went = went} q before rest if_known ended = by a.intake.ended refl
  where
    by : (c : Bool) → a.intake.ended ≡ c → (rest ≡ []) × (b.intake.taken < b.intake.cap)
    by true e = grind (arith, nat_tests, all_nothing)
    by false e =
        let n : ℕ = a.intake.cap - a.intake.taken in
        let sees : nat_lt (length (q.took ++ rest)) n ≡ true = rw (e, ended) at (q.sees rest if_known) in
        let fewer : length (q.took ++ rest) < n = ltb-true (length (q.took ++ rest)) n sees in
        let arrives : a.intake.pending ++ take n (q.took ++ rest) ≡ joined went ++ (b.intake.pending ++ []) = rw (e, ended) at (q.arrives rest if_known) in
        let all : take n (q.took ++ rest) ≡ q.took ++ rest = take_all n (q.took ++ rest) (omega (arith, fewer)) in
        let long = ap length arrives in
        grind (arith, nat_tests, length, nothing_more, length-append, append-nil)

-- what was valid before octets were written is valid after it
pub end_later : {Q : ℕ → ℕ → Type 0} {now new : Outside} {g : List ℕ} (a : Assembling) → Exchange now new [] g [] Q → SawEnd now a → SawEnd new a
end_later {now = now} {new = new} a out before rest if_known = before rest (before_loses now.rest new.rest [] rest out.rest if_known)

pub out_later : {Q : ℕ → ℕ → Type 0} {g : List ℕ} (cap : ℕ) (now new : Outside) (took : List ℕ) → Exchange now new [] g [] Q → IsReadOut cap now took →
    IsReadOut cap new took
out_later cap now new took since given = grind (arith, nat_tests, at_end_later)

-- ---- the packets of the octets that were taken

end_is_over : (o : Option Framing) → is_over (end_read o) ≡ true
end_is_over o = grind (arith, nat_tests)

-- what is returned at the end
abbrev end_answer : Option Framing → Option (Result PacketRead InFault)
end_answer found = Some (Ok (end_read found))

abbrev answer_by : (bad begins ended full : Bool) (place : ℕ) (left : List ℕ) (read : PacketRead) → Option (Result PacketRead InFault)
answer_by bad begins ended full place left read =
    first_of (when bad (Ok (Fault (BadVersion place))) ∷ when begins (Ok read) ∷ when ended (Ok (end_read (framing_at place left))) ∷ when full
    (Err in_faults.LongInput) ∷ [])

-- why it ended
by_tests : (bad begins ended full : Bool) (place : ℕ) (left : List ℕ) (read : PacketRead) (found : Option Framing) → has_bad_version left ≡ bad →
    begins ≡ false → answer_by bad begins ended full place left read ≡ end_answer found → found ≡ framing_at place left
by_tests bad begins ended full place left read found h8 none e = grind (arith, nat_tests, framing_at-is)

module _ {apid cap : ℕ} {b : Assembling} {took : List ℕ} {passed : List (List ℕ)} (read : HasRead apid cap b took passed) where
  -- if no whole packet waits
  splits_so : begins_packet b.intake.pending ≡ false → Splits took passed b.intake.pending
  splits_so none = record { octets_are = read.octets_are; packets_are = read.packets_are; none_left = none }

  pub whole_so : begins_packet b.intake.pending ≡ false → whole_packets took ≡ passed
  whole_so none = splits_whole (splits_so none)

  -- none waits at the end
  pub ended_none : IsValidEnded b → begins_packet b.intake.pending ≡ false
  ended_none ended = (over_read b.apid b.intake (end_read b.framing) (end_is_over b.framing) ended).0

  -- so the packets of the octets that were taken are those that were passed
  pub ended_packets : IsValidEnded b → whole_packets took ≡ passed
  ended_packets ended = whole_so (ended_none ended)

  pub ended_framing : IsValidEnded b → b.framing ≡ framing took
  ended_framing ended =
      let v = b.intake in
      let splits = splits_so (ended_none ended) in
      let place : place_after took ≡ place_of v = ap (λ xs. length (joined xs)) (splits_whole splits)
      ∙ (let size = ap length read.octets_are in omega (arith, size, length-append (joined passed) v.pending, read.taken)) in
      by_tests (has_bad_version v.pending) (begins_packet v.pending) v.ended (v.taken == v.cap) (place_of v) v.pending _ b.framing refl (ended_none ended)
      (sym (verdict-is b.apid v) ∙ ended)
      ∙ ap (λ n. framing_at n v.pending) (sym place) ∙ ap (framing_at (place_after took)) (sym (splits_left splits))

  -- the end was read, or what can't be read on
  pub ended_out : (now : Outside) → IsValidEnded b → SawEnd now b → IsReadOut cap now took
  ended_out now ended at_end = grind (arith, nat_tests, over_read, end_is_over, splits_left, splits_so, ended_none)

  -- the same if all octets that the cap allows were taken; then more can be read
  pub long_packets : IsValidLong b → whole_packets took ≡ passed
  long_packets long = whole_so (long_read b.apid b.intake in_faults.LongInput long).none

  pub long_good : IsValidLong b → has_bad_version (left_over took) ≡ false
  long_good long = let at = long_read b.apid b.intake in_faults.LongInput long in ap has_bad_version (splits_left (splits_so at.none)) ∙ at.good

  pub long_full : IsValidLong b → length took ≡ cap
  long_full long = let full = (long_read b.apid b.intake in_faults.LongInput long).full in omega (arith, full, read.taken, read.cap)

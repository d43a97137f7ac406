-- What a reader can still take, before a read and after it.
use Rattle.std.proofs.Common.{◌≡◌, ◌≤◌, ◌<◌, ◌+◌, ◌-◌, ℕ, List, [], ◌++◌, length, take, drop, refl, sym, ap, ◌∙◌, arith, append_assoc, length-append, Bool}
use Rattle.std.proofs.Common.{true, false, ◌||◌, nat_lt, if◌then◌else◌, append-nil, take_all, take-append-drop}
use Rattle.std.proofs.lemmas.Bool.Decides.{nat_tests}
use Rattle.std.proofs.Math.Seq.{take-append-add}
use Rattle.bit_pipe.specs.Sources.{End, TooLong, InPieces}
use Rattle.bit_pipe.specs.declared.fault.InFault.{InFault}
use Rattle.packet_defs.specs.Streams.{has_bad_version, begins_packet, Splits, whole_packets, left_over}
use Rattle.packet_defs.proofs.Prefixes.{version-append}
use Rattle.packet_defs.proofs.Splits.{splits_whole, splits_left}
use Rattle.space_packets.specs.Intake.{Intake, is_decided, fed}
use Rattle.space_packets.proofs.Intakes.{no_begin}
use Rattle.space_packets.proofs.Equations.{is_decided-is}
use Rattle.packet_assembly.specs.Arriving.{arriving, sees_end}
use Rattle.packet_assembly.specs.Tails.{stop_of}
use Rattle.packet_assembly.proofs.BadVersions.{bad_some}
use Rattle.space_packets.proofs.Verdicts.{AtCap}

-- ---- a read

pub decided_ended : (v : Intake) → v.ended ≡ true → is_decided (fed v [] false) ≡ true
decided_ended v e = grind (arith, nat_tests, is_decided-is)

arriving_by : (ended saw_end : Bool) (cap taken : ℕ) (pending took rest : List ℕ) → taken + length took ≤ cap → (ended ≡ true → took ≡ []) →
    (saw_end ≡ true → rest ≡ []) →
    pending ++ (if ended then [] else take (cap - taken) (took ++ rest)) ≡ (pending ++ took)
    ++ (if ended || saw_end then [] else take (cap - (taken + length took)) rest)
arriving_by true saw_end cap taken pending took rest within none seen = grind (arith, nat_tests, append-nil)
arriving_by false true cap taken pending took rest within none seen = grind (arith, nat_tests, append-nil, take_all)
arriving_by false false cap taken pending took rest within none seen =
    let size : cap - taken ≡ length took + (cap - (taken + length took)) = omega (arith, within) in
    grind (arith, nat_tests, take-append-add, length, append_assoc)

pub arriving_on : (v : Intake) (took rest : List ℕ) (saw_end : Bool) → v.taken + length took ≤ v.cap → (is_decided (fed v [] false) ≡ true → took ≡ []) →
    (saw_end ≡ true → rest ≡ []) →
    arriving v (took ++ rest) ≡ arriving (fed v took saw_end) rest
arriving_on v took rest saw_end within at_once seen = grind (arith, nat_tests, arriving_by, decided_ended)

lt_past : (a r c t : ℕ) → t + a ≤ c → nat_lt (a + r) (c - t) ≡ nat_lt r (c - (t + a))
lt_past a r c t le = grind (arith, nat_tests)

sees_by : (ended saw_end : Bool) (cap taken : ℕ) (took rest : List ℕ) → taken + length took ≤ cap → (saw_end ≡ true → rest ≡ []) →
    (saw_end ≡ true → taken + length took < cap) →
    (ended || nat_lt (length (took ++ rest)) (cap - taken)) ≡ ((ended || saw_end) || nat_lt (length rest) (cap - (taken + length took)))
sees_by ended saw_end cap taken took rest within seen below = grind (arith, nat_tests, append-nil, length-append, lt_past)

pub sees_on : (v : Intake) (took rest : List ℕ) (saw_end : Bool) → v.taken + length took ≤ v.cap → (saw_end ≡ true → rest ≡ []) →
    (saw_end ≡ true → v.taken + length took < v.cap) →
    sees_end v (took ++ rest) ≡ sees_end (fed v took saw_end) rest
sees_on v took rest saw_end within seen below = sees_by v.ended saw_end v.cap v.taken took rest within seen below

-- the first packet is passed
pub arriving_past : (u : Intake) (n : ℕ) (text rest : List ℕ) →
    arriving u rest ≡ take n u.pending ++ arriving (record u { pending = drop n u.pending; text = text }) rest
arriving_past u n text rest =
    let more : List ℕ = if u.ended then [] else take (u.cap - u.taken) rest in
    ap (λ zs. zs ++ more) (sym (take-append-drop n u.pending)) ∙ append_assoc (take n u.pending) (drop n u.pending) more

-- ---- no packet follows

none_split : (octets : List ℕ) → begins_packet octets ≡ false → Splits octets [] octets
none_split octets none = record { octets_are = refl; packets_are = tt; none_left = none }

-- so a stream ends
pub record StopsSo (v : Intake) (rest : List ℕ) (stop : End) : Type 0 where
  pub none : whole_packets (arriving v rest) ≡ []
  pub stops : stop_of v rest ≡ stop

pub bad_stops : (v : Intake) (rest : List ℕ) → has_bad_version v.pending ≡ true → StopsSo v rest InPieces
bad_stops v rest bad =
    let octets = arriving v rest in
    let worse : has_bad_version octets ≡ true = version-append v.pending _ (bad_some v.pending bad) ∙ bad in
    let split = none_split octets (no_begin octets worse) in
    let left : has_bad_version (left_over octets) ≡ true = ap has_bad_version (splits_left split) ∙ worse in
    record { none = splits_whole split; stops = ap (λ b. if b || sees_end v rest then InPieces else TooLong) left }

pub ended_stops : (v : Intake) (rest : List ℕ) → begins_packet v.pending ≡ false → v.ended ≡ true → StopsSo v rest InPieces
ended_stops v rest none over =
    let octets : arriving v rest ≡ v.pending = ap (λ (b : Bool). v.pending ++ (if b then [] else take (v.cap - v.taken) rest)) over ∙ append-nil v.pending in
    let split = none_split (arriving v rest) (ap begins_packet octets ∙ none) in
    record {
      none = splits_whole split;
      stops = grind (arith, nat_tests, nat_lt, length, either);
    }
  where
    either : (a b : Bool) → (if a || (true || b) then InPieces else TooLong) ≡ InPieces
    either a b = grind (arith, nat_tests)

pub long_stops : {fault : InFault} (v : Intake) (rest : List ℕ) → AtCap v fault → StopsSo v rest TooLong
long_stops v rest at =
    let room : v.cap - v.taken ≡ 0 = omega (arith, at.full) in
    let octets : arriving v rest ≡ v.pending = ap (λ (b : Bool). v.pending ++ (if b then [] else take (v.cap - v.taken) rest)) at.going
    ∙ ap (λ n. v.pending ++ take n rest) room ∙ append-nil v.pending in
    let split = none_split (arriving v rest) (ap begins_packet octets ∙ at.none) in
    let good : has_bad_version (left_over (arriving v rest)) ≡ false = ap has_bad_version (splits_left split ∙ octets) ∙ at.good in
    let last : sees_end v rest ≡ false = ap (λ (b : Bool). b || nat_lt (length rest) (v.cap - v.taken)) at.going ∙ ap (nat_lt (length rest)) room
    ∙ no_less (length rest) in
    record {
      none = splits_whole split;
      stops = ap (λ (b : Bool). if b || sees_end v rest then InPieces else TooLong) good ∙ ap (λ (b : Bool). if b then InPieces else TooLong) last;
    }
  where
    no_less : (n : ℕ) → nat_lt n 0 ≡ false
    no_less n = grind (arith, nat_tests)

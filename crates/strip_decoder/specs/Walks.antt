-- How a walk over the segments of a stream ends, by what it took and gave, whatever its sink does with the blocks. This project's own.
use Rattle.std.specs.Prelude.{◌≡◌, ◌≢◌, ◌⊎◌, ◌≤◌, ◌-◌, ◌==◌, if◌then◌else◌, ℕ, Bool, not, List, [], length, false, Option, None, Some, Result, Ok, Err}
use Rattle.port_122.specs.Outside.{Outside, Exchange, Rose, NoFewerFaults}
use Rattle.base_122.specs.Ranges.{IsGeometryInRange}
use Rattle.base_122.specs.declared.geometry.Geometry.{Geometry}
use Rattle.base_122.specs.declared.wish.DecodeWish.{DecodeWish}
use Rattle.packet_defs.specs.declared.packet.Framing.{Framing}
use Rattle.packet_defs.specs.Streams.{framing}
use Rattle.stream_defs.specs.Begun.{HasFewPixels, begun_in, end_of, height, placed}
use Rattle.stream_defs.specs.Fates.{geometry_in, kept_in}
use Rattle.stream_defs.specs.Received.{ReceivedIn}
use Rattle.stream_defs.specs.Damage.{damage, ranges, whole_missing}
use Rattle.stream_defs.specs.Marks.{Marks, ended_at}
use Rattle.packet_assembly.specs.Assembling.{Assembling}
use Rattle.packet_assembly.specs.Segments.{IsValidEnded, IsValidLong}
use Rattle.packet_assembly.specs.Readings.{IsReadOut}
use Rattle.segment_defs.specs.TextWish.{text_wish}
use Rattle.strip_decoder.specs.declared.engine.Walked.{Walked}
use Rattle.strip_decoder.specs.declared.ending.DecodeFault.{DecodeFault}
use Rattle.strip_decoder.specs.declared.ending.DecodeFault.TheVariants.{ReadFault, WriteFault, NoSegment, TooManyPixels, LongInput, Memory}
use Rattle.strip_decoder.specs.Sinks.{SinkOf, Numbers, blocks_with}
use Rattle.strip_decoder.specs.WalkSteps.{Walking, IsCurrent, Follows, passed_in, total_in}
use Rattle.strip_decoder.specs.Segments.{HasImage}
use Rattle.strip_decoder.specs.Endings.{EndsBy}
use Rattle.strip_decoder.specs.Runs.{holds_after, blocks_passed, AsksPassed, PartBy, IsPartOfSome, Run, BreaksRun}

-- ---- the steps

abbrev pub is_height_known : Option Geometry → Bool
is_height_known None = false
is_height_known (Some g) = not (g.rows == 0)

-- the blocks that are left; none is known to be if the height isn't known
abbrev pub left_in : {S : Type 0} → (known : Bool) → Walking S → ℕ
left_in known p = if known then total_in p - passed_in p else 0

-- all segments were taken
pub record TookAll {S : Type 0} (k : SinkOf S) (old new : Outside) (a b : Assembling) (p q : Walking S) : Type 0 where
  pub current : IsCurrent k q
  pub image : Geometry
  pub has : HasImage b image
  pub goes_by : q.geometry ≡ placed image
  pub ended : IsValidEnded b
  pub faults : NoFewerFaults old new

abbrev pub TakesAll : {S : Type 0} → SinkOf S → (old new : Outside) (a b : Assembling) (p q : Walking S) → Result (Unit {0}) DecodeFault → Type 0
TakesAll k old new a b p q (Ok done) = TookAll k old new a b p q
TakesAll k old new a b p q (Err ReadFault) = Rose old.read_faults new.read_faults
TakesAll k old new a b p q (Err WriteFault) = Rose old.write_faults new.write_faults
TakesAll k old new a b p q (Err LongInput) = IsValidLong b
TakesAll k old new a b p q (Err (TooManyPixels pixels)) = Unit {0}
TakesAll k old new a b p q (Err other) = ⊥

-- all blocks were passed
abbrev pub PassesAll : (old new : Outside) → Result (Unit {0}) DecodeFault → Type 0
PassesAll old new (Err ReadFault) = Rose old.read_faults new.read_faults
PassesAll old new (Err WriteFault) = Rose old.write_faults new.write_faults
PassesAll old new (Err NoSegment) = ⊥
PassesAll old new (Err Memory) = ⊥
PassesAll old new other = Unit {0}

-- The damage of an image if these segments are received: its ranges of rows, and if the height is known its missing block rows.
pub record IsDamageOf (g : Geometry) (received : Numbers) (n : ℕ) (marks : Marks) : Type 0 where
  pub ranges_are : ranges marks.rows marks.missing ≡ damage g received n
  pub missing : g.rows ≢ 0 → marks.missing ≡ whole_missing g received

-- All blocks were passed, of the segments that are received in the octets that were taken.
pub record HasPassedAll {S : Type 0} (k : SinkOf S) (w : Run) (now : Outside) (image : Geometry) (p : Walking S) (found : Option Framing) : Type 0 where
  pub took : List ℕ
  pub gave : List ℕ
  pub since : Exchange w.start now took gave [] (AsksPassed k w took gave)
  pub within : length took ≤ w.cap
  pub small : HasFewPixels w.pixels w.apid took
  pub geometry : geometry_in w.apid took ≡ Some image
  pub range : IsGeometryInRange image
  pub placed_is : p.geometry ≡ placed image
  pub framing_is : found ≡ framing took
  pub out : IsReadOut w.cap now took
  pub current : IsCurrent k p
  pub all : passed_in p ≡ blocks_passed image (end_of (kept_in w.apid took))
  pub for_some : IsPartOfSome k gave
  pub if_known : (every : List ℕ) → w.start.rest ≡ Some every → (received : Numbers) × ReceivedIn (holds_after w.texts) w.apid took received
      × Follows k p (blocks_with image received) gave

abbrev pub RunsWalk : {S : Type 0} → SinkOf S → Run → Outside → Assembling → Walking S → Result (Unit {0}) DecodeFault → Type 0
RunsWalk k w now a p (Ok done) = (image : Geometry) → a.state.geometry ≡ Some image → HasPassedAll k w now image p a.framing
RunsWalk k w now a p (Err fault) = BreaksRun k w now fault

-- ---- the whole walk

-- what was read once all blocks were passed of an image of this geometry
abbrev pub walked_of : {S : Type 0} → Geometry → Option Framing → Walking S → Walked S
walked_of g framing p = record {
  done = record { geometry = g; damage = ended_at p.damage (height g p.at.row); written = height g p.at.row; framing = framing };
  sink = p.sink;
}

-- The sink has taken all blocks, of the segments that are received in the octets that were taken. The missing block rows are those with
-- a block in none of them, and the octets were read to the end, or can't be read on for this reason.
pub record IsWalked {S : Type 0} (k : SinkOf S) (wish : DecodeWish) (start new : Outside) (took gave : List ℕ) (walked : Walked S) : Type 0 where
  pub geometry : geometry_in wish.apid took ≡ Some walked.done.geometry
  pub range : IsGeometryInRange walked.done.geometry
  pub few : HasFewPixels wish.pixels wish.apid took
  pub framing_is : walked.done.framing ≡ framing took
  pub out : IsReadOut wish.octets new took
  pub written : walked.done.written ≡ height walked.done.geometry (begun_in wish.apid took)
  pub rows : walked.done.damage.rows ≡ walked.done.written
  pub valid : k.IsValid walked.sink (placed walked.done.geometry) (blocks_passed walked.done.geometry (end_of (kept_in wish.apid took)))
  pub if_known : (all : List ℕ) → start.rest ≡ Some all → (received : Numbers) × ReceivedIn (holds_after (text_wish wish)) wish.apid took received
      × k.Follows walked.sink (placed walked.done.geometry) (blocks_with walked.done.geometry received)
      (blocks_passed walked.done.geometry (end_of (kept_in wish.apid took))) gave
      × IsDamageOf walked.done.geometry received (begun_in wish.apid took) walked.done.damage

-- a part of what the sink gives for the octets that were taken, if the port reports what is left
abbrev pub GivesPart : {S : Type 0} → SinkOf S → DecodeWish → Outside → (took gave : List ℕ) → Type 0
GivesPart k wish start took gave = (all : List ℕ) → start.rest ≡ Some all → PartBy k (text_wish wish) wish.apid took gave

-- why the walk ended so: all that the sink gives is given, or a part of it
abbrev pub WalkAnswers : {S : Type 0} → SinkOf S → DecodeWish → (old new : Outside) (took gave : List ℕ) → Result (Walked S) DecodeFault → Type 0
WalkAnswers k wish = EndsBy (IsWalked k wish) (GivesPart k wish) (λ old new. GivesPart k wish old) wish

-- the run that a wish asks for, if it begins here
abbrev pub run_of : DecodeWish → Outside → Run
run_of wish start = record { apid = wish.apid; cap = wish.octets; pixels = wish.pixels; texts = text_wish wish; start = start }

-- One run over a port: what it took and gave, when, and why it ended so. However it ends, it takes at most the number of octets in the
-- wish. At each read call the octets that were taken by then do not decide the answer, and the sink has taken at least the blocks that they
-- settle. Whatever the port reports, what is given is nothing, or a part of what the sink gives of some blocks.
pub record Walks {S : Type 0} (k : SinkOf S) (wish : DecodeWish) (old new : Outside) (result : Result (Walked S) DecodeFault) : Type 0 where
  pub took : List ℕ
  pub gave : List ℕ
  pub since : Exchange old new took gave [] (AsksPassed k (run_of wish old) took gave)
  pub within : length took ≤ wish.octets
  pub for_some : (gave ≡ []) ⊎ IsPartOfSome k gave
  pub answer : WalkAnswers k wish old new took gave result

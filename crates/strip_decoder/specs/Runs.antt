-- The progress of a walk since it began: what it took, what it knows of the segments, and which blocks it has passed. This project's own.
use Rattle.std.specs.Prelude.{◌≡◌, ◌≤◌, ◌<◌, ◌+◌, ◌*◌, ◌/◌, ◌==◌, ℕ, ℤ, Bool, if◌then◌else◌, List, [], ◌∷◌, ◌++◌, length, take, drop, Option, None, Some}
use Rattle.std.specs.Prelude.{Result, Ok, Err, true, false, MatchOption, MatchResult}
use Rattle.port_122.specs.Outside.{Outside, Exchange}
use Rattle.base_122.specs.Sizes.{first_block, segment_blocks}
use Rattle.base_122.specs.declared.geometry.Geometry.{Geometry}
use Rattle.segment_defs.specs.TextWish.{TextWish, text_read}
use Rattle.segment_defs.specs.Head.{head_length}
use Rattle.packet_defs.specs.Streams.{whole_packets, left_over, has_bad_version}
use Rattle.stream_defs.specs.declared.fate.LastPart.{LastPart}
use Rattle.stream_defs.specs.declared.fate.FateState.{FateState}
use Rattle.stream_defs.specs.Agreement.{blocks_of}
use Rattle.stream_defs.specs.Begun.{HasFewPixels, end_of, placed, rows_reached}
use Rattle.stream_defs.specs.Fates.{fresh, after_all, kept, kept_in, state_after, geometry_in}
use Rattle.stream_defs.specs.Received.{Acceptance, IsReceived, ReceivedIn}
use Rattle.stream_defs.specs.Settled.{blocks_through}
use Rattle.packet_assembly.specs.Segments.{IsValidEnded}
use Rattle.packet_assembly.specs.declared.note.SegmentStart.{SegmentStart}
use Rattle.packet_assembly.specs.Arriving.{arriving}
use Rattle.packet_assembly.specs.Assembling.{Assembling, Starts, last_index, text_after}
use Rattle.packet_assembly.specs.Readings.{HasRead, SawEnd, AsksReadable}
use Rattle.strip_decoder.specs.declared.ending.DecodeFault.{DecodeFault}
use Rattle.strip_decoder.specs.declared.ending.DecodeFault.TheVariants.{WriteFault, TooManyPixels, LongInput}
use Rattle.strip_decoder.specs.Sinks as sinks
use Rattle.strip_decoder.specs.Sinks.{Blocks, SinkOf, blocks_with}
use Rattle.strip_decoder.specs.WalkSteps.{Walking, Follows, passed_in, total_in}
use Rattle.strip_decoder.specs.Segments.{HasImage}

-- ---- what is claimed

-- a text holds the numbers that its octets after the head are read as, with the codes of a book, and restored if that is wished
abbrev pub holds_after : TextWish → Acceptance
holds_after texts head text numbers = text_read texts head (drop (head_length head) text) ≡ Ok numbers

abbrev pub Numbers : Type 0
Numbers = sinks.Numbers

-- the blocks that octets settle which left this state: those before the last place, and those of its segment if that is received
abbrev pub settled_blocks : FateState → Numbers → ℕ
settled_blocks s received = settled_in s.geometry s.last
  where
    settled_in : Option Geometry → Option LastPart → ℕ
    settled_in None last = 0
    settled_in (Some g) None = 0
    settled_in (Some g) (Some last) = blocks_through g received last.index

-- The number of blocks that are passed in the end: all of an image, or if the height isn't known those of the segments that were begun, the
-- last of which ends here.
abbrev pub blocks_passed : Geometry → (ended : ℕ) → ℕ
blocks_passed g ended = if g.rows == 0 then ended else blocks_of g

-- What is given once these octets are taken: nothing without a geometry, otherwise what the sink gives after the first blocks of the
-- segments that are received, at least after those that are settled.
pub record PassedBy {S : Type 0} (k : SinkOf S) (texts : TextWish) (apid : ℕ) (taken given : List ℕ) : Type 0 where
  pub none : geometry_in apid taken ≡ None → given ≡ []
  pub some : (g : Geometry) (received : Numbers) → geometry_in apid taken ≡ Some g → ReceivedIn (holds_after texts) apid taken received →
      (n : ℕ) × (n ≤ blocks_passed g (end_of (kept_in apid taken))) × (settled_blocks (state_after apid taken) received ≤ n)
      × k.Given (placed g) (blocks_with g received) n given

-- a part of what the sink gives of the segments that are received in these octets; nothing without a geometry
pub record PartBy {S : Type 0} (k : SinkOf S) (texts : TextWish) (apid : ℕ) (taken given : List ℕ) : Type 0 where
  pub none : geometry_in apid taken ≡ None → given ≡ []
  pub some : (g : Geometry) (received : Numbers) → geometry_in apid taken ≡ Some g → ReceivedIn (holds_after texts) apid taken received →
      (n : ℕ) × (n ≤ blocks_passed g (end_of (kept_in apid taken))) × k.Part (placed g) (blocks_with g received) n given

-- Whatever the port reports, it is a part of what the sink gives of some blocks.
pub record IsPartOfSome {S : Type 0} (k : SinkOf S) (given : List ℕ) : Type 0 where
  pub geometry : Geometry
  pub blocks : Blocks
  pub place : ℕ
  pub part : k.Part geometry blocks place given

-- ---- a run

-- for which packets, the greatest numbers of octets and of pixels, how segments are read, and the outside at its beginning
pub record Run : Type 0 where
  pub apid : ℕ
  pub cap : ℕ
  pub pixels : ℕ
  pub texts : TextWish
  pub start : Outside

-- the kept heads of these packets report at most this number of pixels
abbrev pub HasFew : (pixels apid : ℕ) → (packets : List (List ℕ)) → Type 0
HasFew pixels apid packets = (g : Geometry) → (after_all apid fresh packets).geometry ≡ Some g →
    g.width * rows_reached g (end_of (kept apid fresh packets)) ≤ pixels

-- the same for the octets that were taken, if the height is reported from the first head on
abbrev pub HasFewKnown : (pixels apid : ℕ) → List ℕ → Type 0
HasFewKnown pixels apid taken = (state_after apid taken).reported_last ≡ false → HasFewPixels pixels apid taken

-- A packet among the octets that were taken is kept whose head is the first to report too many pixels: this number.
pub record ReportsMany (most apid pixels : ℕ) (taken : List ℕ) : Type 0 where
  pub before : List (List ℕ)
  pub packet : List ℕ
  pub later : List (List ℕ)
  pub packets_are : whole_packets taken ≡ (before ++ packet ∷ []) ++ later
  pub few : HasFew most apid before
  pub image : Geometry
  pub geometry : (after_all apid fresh (before ++ packet ∷ [])).geometry ≡ Some image
  pub pixels_are : pixels ≡ image.width * rows_reached image (end_of (kept apid fresh (before ++ packet ∷ [])))
  pub many : most < pixels

-- the head reports no height, or reports it last
abbrev pub reports_last : {most apid pixels : ℕ} {taken : List ℕ} → ReportsMany most apid pixels taken → Bool
reports_last {apid = apid} many = (after_all apid fresh (many.before ++ many.packet ∷ [])).reported_last

-- A read call with i of these octets taken, which do not decide the answer: they can be read on, are fewer than the cap allows, and their
-- kept heads report at most this number of pixels.
abbrev pub AsksUnanswered : (apid cap pixels : ℕ) → List ℕ → ℕ → ℕ → Type 0
AsksUnanswered apid cap pixels took i j = AsksReadable cap took i j × HasFewPixels pixels apid (take i took)

-- A read call with i octets taken and j given, if the port reports what is left.
abbrev pub AsksPassed : {S : Type 0} → SinkOf S → Run → (took gave : List ℕ) → ℕ → ℕ → Type 0
AsksPassed k w took gave i j =
    (j ≤ length gave) × AsksUnanswered w.apid w.cap w.pixels took i j × ((all : List ℕ) → w.start.rest ≡ Some all →
    PassedBy k w.texts w.apid (take i took) (take j gave))

-- the whole packets that are left, if these octets are left
abbrev pub future : Assembling → List ℕ → List (List ℕ)
future a rest = whole_packets (arriving a.intake rest)

-- The segments before a bound: each is received with these numbers, or it isn't, however many of the next packets follow.
pub record Knows (texts : TextWish) (apid : ℕ) (passed later : List (List ℕ)) (bound : ℕ) (sofar : Numbers) : Type 0 where
  pub at : (next more : List (List ℕ)) → later ≡ next ++ more → (index : ℕ) → index < bound → MatchOption (sofar index)
      ((numbers : List (List ℤ)) → IsReceived (holds_after texts) (kept apid fresh (passed ++ next)) index numbers → ⊥)
      (IsReceived (holds_after texts) (kept apid fresh (passed ++ next)) index)

-- the first n blocks are those of these segments
pub record AreOf (g : Geometry) (sofar : Numbers) (n : ℕ) (blocks : Blocks) : Type 0 where
  pub at : (block : ℕ) → block < n → blocks block ≡ blocks_with g sofar block

-- one segment more
abbrev pub with_segment : (index : ℕ) → Option (List (List ℤ)) → Numbers → Numbers
with_segment index numbers sofar i = if i == index then numbers else sofar i

-- the blocks of these segments were passed, and this was given for them
abbrev pub Shows : {S : Type 0} → SinkOf S → Walking S → Numbers → List ℕ → Type 0
Shows k p sofar gave = (blocks : Blocks) → AreOf p.geometry sofar (passed_in p) blocks → Follows k p blocks gave

-- so far the packets were read, and the segments before this bound are known
pub record HasKnown (w : Run) (now : Outside) (a : Assembling) (bound : ℕ) (took : List ℕ) : Type 0 where
  pub passed : List (List ℕ)
  pub sofar : Numbers
  pub read : HasRead w.apid w.cap a took passed
  pub knows : (rest : List ℕ) → now.rest ≡ Some rest → Knows w.texts w.apid passed (future a rest) bound sofar
  pub above : (index : ℕ) → bound ≤ index → sofar index ≡ None
  pub at_end : SawEnd now a

-- the progress of the walk: the segments before this bound are known, and at most their blocks were passed
pub record HasWalkedTo {S : Type 0} (k : SinkOf S) (w : Run) (now : Outside) (a : Assembling) (p : Walking S) (bound : ℕ) : Type 0 where
  pub took : List ℕ
  pub gave : List ℕ
  pub since : Exchange w.start now took gave [] (AsksPassed k w took gave)
  pub known : HasKnown w now a bound took
  pub shows : Shows k p known.sofar gave
  pub few : passed_in p ≤ first_block p.geometry.segment bound
  pub begun : passed_in p ≤ end_of (kept w.apid fresh known.passed)

-- the last of the packets begins this segment, which isn't before the bound, and none before it is of the bound or later
pub record IsBegun (apid : ℕ) (passed : List (List ℕ)) (text : List ℕ) (start : SegmentStart) (bound : ℕ) : Type 0 where
  pub before : List (List ℕ)
  pub packet : List ℕ
  pub passed_are : passed ≡ before ++ packet ∷ []
  pub starts : Starts apid (after_all apid fresh before) packet start
  pub text_is : text ≡ text_after packet start.head
  pub below : (l : LastPart) → (after_all apid fresh before).last ≡ Some l → l.index < bound
  pub later : bound ≤ start.ancillary.index

-- the same for a segment of an image that was begun before, and no head before reported too many pixels
pub record IsNextBegun (w : Run) (passed : List (List ℕ)) (text : List ℕ) (start : SegmentStart) (bound : ℕ) : Type 0 where
  pub begun : IsBegun w.apid passed text start bound
  pub few : HasFew w.pixels w.apid begun.before
  pub image : Geometry
  pub geometry : (after_all w.apid fresh begun.before).geometry ≡ Some image

-- it is at a segment, all segments before it are known, and no head before reported too many pixels
pub record WalksTo {S : Type 0} (k : SinkOf S) (w : Run) (now : Outside) (a : Assembling) (p : Walking S) (start : SegmentStart) : Type 0 where
  pub arrived : HasWalkedTo k w now a p start.ancillary.index
  pub begun : IsBegun w.apid arrived.known.passed a.text start start.ancillary.index
  pub few : HasFew w.pixels w.apid begun.before
  pub lost : (block : ℕ) → passed_in p ≤ block → block < start.ancillary.first → arrived.known.sofar (block / p.geometry.segment) ≡ None

-- and another segment was begun before
pub record WalksAfter {S : Type 0} (k : SinkOf S) (w : Run) (now : Outside) (a : Assembling) (p : Walking S) (start : SegmentStart) : Type 0 where
  pub to : WalksTo k w now a p start
  pub image : Geometry
  pub geometry : (after_all w.apid fresh to.begun.before).geometry ≡ Some image

-- nor did its own head
pub record WalksIn {S : Type 0} (k : SinkOf S) (w : Run) (now : Outside) (a : Assembling) (p : Walking S) (start : SegmentStart) : Type 0 where
  pub to : WalksTo k w now a p start
  pub small : HasFew w.pixels w.apid to.arrived.known.passed

-- it has passed a segment, which is the last one unless the next was begun
pub record WalksPast {S : Type 0} (k : SinkOf S) (w : Run) (now : Outside) (a : Assembling) (p : Walking S) : Type 0 where
  pub index : ℕ
  pub arrived : HasWalkedTo k w now a p (index + 1)
  pub small : HasFew w.pixels w.apid arrived.known.passed
  pub last : a.held ≡ None → last_index a.state.last ≡ Some index
  pub begun : (start : SegmentStart) → a.held ≡ Some start → IsNextBegun w arrived.known.passed a.text start (index + 1)
  pub reached : first_block p.geometry.segment index + segment_blocks (total_in p) p.geometry.segment index ≤ passed_in p

-- A fault ended it: what it took, which is no more than the cap lets, and gave.
pub record HasBroken {S : Type 0} (k : SinkOf S) (w : Run) (now : Outside) : Type 0 where
  pub took : List ℕ
  pub gave : List ℕ
  pub since : Exchange w.start now took gave [] (AsksPassed k w took gave)
  pub within : length took ≤ w.cap
  pub part : (all : List ℕ) → w.start.rest ≡ Some all → PartBy k w.texts w.apid took gave
  pub for_some : IsPartOfSome k gave

-- a write failed
pub record HasFailedWrite {S : Type 0} (k : SinkOf S) (w : Run) (now : Outside) : Type 0 where
  pub broken : HasBroken k w now
  pub small : HasFewKnown w.pixels w.apid broken.took

-- a fault ended it as the input is too long
pub record HasLong {S : Type 0} (k : SinkOf S) (w : Run) (now : Outside) : Type 0 where
  pub broken : HasBroken k w now
  pub full : length broken.took ≡ w.cap
  pub good : has_bad_version (left_over broken.took) ≡ false
  pub small : HasFewPixels w.pixels w.apid broken.took

-- a head that isn't the first one reports too many pixels: then the height is reported last
pub record HasMany {S : Type 0} (k : SinkOf S) (w : Run) (now : Outside) (pixels : ℕ) : Type 0 where
  pub broken : HasBroken k w now
  pub many : ReportsMany w.pixels w.apid pixels broken.took
  pub reported_last : reports_last many ≡ true

abbrev pub BreaksRun : {S : Type 0} → SinkOf S → Run → Outside → DecodeFault → Type 0
BreaksRun k w now WriteFault = HasFailedWrite k w now
BreaksRun k w now LongInput = HasLong k w now
BreaksRun k w now (TooManyPixels pixels) = HasMany k w now pixels
BreaksRun k w now fault = HasBroken k w now

-- it advances to the first block of a segment, or a fault ends it
abbrev pub RunsReach : {S T E : Type 0} → SinkOf S → Run → Outside → Assembling → Walking S → SegmentStart → Result T E → Type 0
RunsReach k w now a p start result = MatchResult result (λ _. WalksIn k w now a p start) (λ _. HasFailedWrite k w now)

-- it advances past a segment, or a fault ends it
abbrev pub RunsSegment : {S : Type 0} → SinkOf S → Run → Outside → Assembling → Walking S → Result (Unit {0}) DecodeFault → Type 0
RunsSegment k w now a p (Ok done) = WalksPast k w now a p
RunsSegment k w now a p (Err fault) = BreaksRun k w now fault

-- it is at the end of the packets
pub record ArrivesToEnd {S : Type 0} (k : SinkOf S) (w : Run) (now : Outside) (a : Assembling) (p : Walking S) : Type 0 where
  pub index : ℕ
  pub arrived : HasWalkedTo k w now a p (index + 1)
  pub small : HasFew w.pixels w.apid arrived.known.passed
  pub last : last_index a.state.last ≡ Some index
  pub image : Geometry
  pub has : HasImage a image
  pub goes_by : p.geometry ≡ placed image
  pub ended : IsValidEnded a
  pub reached : first_block p.geometry.segment index + segment_blocks (total_in p) p.geometry.segment index ≤ passed_in p

-- it advances to the end, or a fault ends it
abbrev pub RunsAll : {S : Type 0} → SinkOf S → Run → Outside → Assembling → Walking S → Result (Unit {0}) DecodeFault → Type 0
RunsAll k w now a p (Ok done) = ArrivesToEnd k w now a p
RunsAll k w now a p (Err fault) = BreaksRun k w now fault

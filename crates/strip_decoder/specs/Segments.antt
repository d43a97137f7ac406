-- The effect of the steps from segment to segment. This project's own.
use Rattle.std.specs.Prelude.{◌≡◌, ◌≤◌, ◌<◌, ◌+◌, ◌-◌, ◌*◌, ℕ, ℤ, List, [], take, min, Bool, true, false, Option, None, Some, Result, Ok, Err, IsOk, IsErr}
use Rattle.std.specs.Prelude.{MatchOption, MatchResult}
use Rattle.port_122.specs.Outside.{Outside, Rose, NoFewerFaults}
use Rattle.base_122.specs.Sizes.{first_block}
use Rattle.base_122.specs.Ranges.{IsGeometryInRange}
use Rattle.base_122.specs.declared.geometry.Geometry.{Geometry}
use Rattle.wave_defs.specs.Held.{blocks_in}
use Rattle.bit_pipe.specs.declared.fault.InFault.TheVariants as in_faults
use Rattle.bit_pipe.specs.Sources.{Plainly}
use Rattle.segment_defs.specs.TextWish.{TextWish, text_read}
use Rattle.segment_defs.specs.declared.head.SegmentHead.{SegmentHead}
use Rattle.segment_defs.specs.Head.{IsHead}
use Rattle.packet_assembly.specs.declared.note.SegmentStart.{SegmentStart}
use Rattle.packet_assembly.specs.Assembling.{Assembling, last_index, is_closed}
use Rattle.packet_assembly.specs.Segments as assembling
use Rattle.packet_assembly.specs.Tails.{text_tail}
use Rattle.stream_defs.specs.Agreement.{blocks_of}
use Rattle.stream_defs.specs.Begun.{placed, rows_reached}
use Rattle.stream_defs.specs.Fates.{fresh, after_all}
use Rattle.strip_decoder.specs.declared.ending.DecodeFault.{DecodeFault}
use Rattle.strip_decoder.specs.declared.ending.DecodeFault.TheVariants.{ReadFault, WriteFault, TooManyPixels, LongInput}
use Rattle.strip_decoder.specs.Sinks.{SinkOf, MayEnd}
use Rattle.strip_decoder.specs.WalkSteps.{Walking, IsCurrent, HasGeometry, passed_in, missing, held}

-- ---- where a segment is

-- what is reported of a segment is valid in an image of this geometry
pub record FitsImage (g : Geometry) (start : SegmentStart) : Type 0 where
  pub first : start.ancillary.first ≡ first_block g.segment start.ancillary.index
  pub within : start.ancillary.first < blocks_of g
  pub blocks : start.head.blocks ≡ min g.segment (blocks_of g - start.ancillary.first)
  pub head : IsHead start.head
  pub weights : start.head.image.weights.shifts ≡ g.weights.shifts

-- and the walk hasn't passed its first block
pub record FitsNext {S : Type 0} (p : Walking S) (start : SegmentStart) : Type 0 where
  pub fits : FitsImage p.geometry start
  pub reached : passed_in p ≤ start.ancillary.first

-- the packets that an assembly has passed are of an image of this geometry
pub record HasImage (a : Assembling) (g : Geometry) : Type 0 where
  pub passed : List (List ℕ)
  pub state : a.state ≡ after_all a.apid fresh passed
  pub geometry : a.state.geometry ≡ Some g
  pub range : IsGeometryInRange g

-- an assembly returned this segment last, and the walk has the geometry of its image
pub record IsAt {S : Type 0} (a : Assembling) (p : Walking S) (start : SegmentStart) : Type 0 where
  pub image : Geometry
  pub has : HasImage a image
  pub goes_by : p.geometry ≡ placed image
  pub unheld : a.held ≡ None
  pub last : last_index a.state.last ≡ Some start.ancillary.index
  pub next : FitsNext p start

-- The last place is in a segment that was passed, or the next segment was begun.
pub record IsBetween {S : Type 0} (a : Assembling) (p : Walking S) : Type 0 where
  pub image : Geometry
  pub has : HasImage a image
  pub goes_by : p.geometry ≡ placed image
  pub unheld : a.held ≡ None → (index : ℕ) × (last_index a.state.last ≡ Some index) × (passed_in p ≤ first_block p.geometry.segment (index + 1))
  pub held : (start : SegmentStart) → a.held ≡ Some start → (last_index a.state.last ≡ Some start.ancillary.index) × FitsNext p start

-- A segment was begun in an image of this geometry, and the walk hasn't passed its first block. Its head may have reported the height,
-- which the walk doesn't know yet.
pub record MayFollow {S : Type 0} (g : Geometry) (p : Walking S) (start : SegmentStart) : Type 0 where
  pub range : IsGeometryInRange g
  pub ends : MayEnd p.geometry (placed g) (passed_in p)
  pub fits : FitsImage (placed g) start
  pub reached : passed_in p ≤ start.ancillary.first

-- an assembly returned this segment last
pub record IsFound {S : Type 0} (a : Assembling) (p : Walking S) (start : SegmentStart) : Type 0 where
  pub image : Geometry
  pub has : HasImage a image
  pub unheld : a.held ≡ None
  pub last : last_index a.state.last ≡ Some start.ancillary.index
  pub next : MayFollow image p start

-- if a segment was begun while the text of the one before it was read, the walk may follow it
pub record MayFollowHeld {S : Type 0} (a : Assembling) (p : Walking S) : Type 0 where
  pub image : Geometry
  pub has : HasImage a image
  pub next : (start : SegmentStart) → a.held ≡ Some start → MayFollow image p start

-- ---- the height

-- the least number of pixels of an image in which this segment is, or that of the image if its height is known
abbrev pub pixels_reached : Geometry → SegmentStart → ℕ
pixels_reached g start = g.width * rows_reached g (start.ancillary.first + start.head.blocks)

-- the walk takes the geometry of the image in which this segment was begun, unless that has too many pixels
abbrev pub FollowsHead : {S : Type 0} → SinkOf S → (pixels : ℕ) → Geometry → SegmentStart → (old new : Walking S) → Result (Unit {0}) DecodeFault → Type 0
FollowsHead k pixels g start old new (Ok done) = HasGeometry k (placed g) old new × (pixels_reached g start ≤ pixels)
FollowsHead k pixels g start old new (Err (TooManyPixels found)) = (found ≡ pixels_reached g start) × (pixels < found)
FollowsHead k pixels g start old new (Err other) = ⊥

-- the same for the segment that an assembly returned last, and for the one that it holds
abbrev pub FollowsFound : {S : Type 0} → SinkOf S → (pixels : ℕ) → Assembling → SegmentStart → (old new : Walking S) → Result (Unit {0}) DecodeFault → Type 0
FollowsFound k pixels a start old new result = (image : Geometry) → a.state.geometry ≡ Some image → FollowsHead k pixels image start old new result

abbrev pub FollowsHeld : {S : Type 0} → SinkOf S → (pixels : ℕ) → Assembling → (old new : Walking S) → Result (Unit {0}) DecodeFault → Type 0
FollowsHeld k pixels a old new result = MatchOption a.held ((IsOk result) × (new ≡ old)) (λ next. FollowsFound k pixels a next old new result)

-- ---- the calls

-- the next segment was found, or there is none, as the assembly has it
abbrev pub FindsNext : (old new : Outside) (a b : Assembling) → Result (Option SegmentStart) DecodeFault → Type 0
FindsNext old new a b (Ok found) = assembling.FindsSegment old new a b (Ok found)
FindsNext old new a b (Err LongInput) = assembling.FindsSegment old new a b (Err in_faults.LongInput)
FindsNext old new a b (Err ReadFault) = assembling.FindsSegment old new a b (Err in_faults.ReadFault)
FindsNext old new a b (Err other) = ⊥

-- The end of a text was requested, and the port reports what is left: the text is over, and its closing part was passed; or it has more
-- octets, or ends otherwise.
pub record TextHasEnded (old new : Outside) (a b : Assembling) : Type 0 where
  pub goes : assembling.Continues old new a b
  pub unheld : b.held ≡ None
  pub closed : is_closed b.state.last ≡ true

pub record HasNotEnded (old new : Outside) (a b : Assembling) : Type 0 where
  pub goes : assembling.Continues old new a b
  pub if_known : (rest : List ℕ) → old.rest ≡ Some rest → (text_tail a rest).octets ≡ [] → (text_tail a rest).ends ≡ Plainly → ⊥

pub record HasFailed (old new : Outside) (a b : Assembling) : Type 0 where
  pub goes : assembling.Continues old new a b
  pub rose : Rose old.read_faults new.read_faults

abbrev pub EndsText : (old new : Outside) (a b : Assembling) → Result Bool DecodeFault → Type 0
EndsText old new a b (Ok true) = TextHasEnded old new a b
EndsText old new a b (Ok false) = HasNotEnded old new a b
EndsText old new a b (Err ReadFault) = HasFailed old new a b
EndsText old new a b (Err other) = ⊥

-- the numbers of a segment with this head, which are the first ones
abbrev pub cells_of : SegmentHead → List ℤ → List ℤ
cells_of head cells = take (64 * head.blocks) cells

-- A segment's text was read whole, as these blocks; its closing part was passed.
pub record Accepts (texts : TextWish) (old new : Outside) (a b : Assembling) (head : SegmentHead) (cells : List ℤ) : Type 0 where
  pub goes : assembling.Continues old new a b
  pub unheld : b.held ≡ None
  pub closed : is_closed b.state.last ≡ true
  pub some : List ℕ
  pub holds : text_read texts head some ≡ Ok (blocks_in (cells_of head cells))
  pub if_known : (rest : List ℕ) → old.rest ≡ Some rest →
      ((text_tail a rest).ends ≡ Plainly) × (text_read texts head (text_tail a rest).octets ≡ Ok (blocks_in (cells_of head cells)))

-- It breaks off, or it is refused.
pub record Refuses (texts : TextWish) (old new : Outside) (a b : Assembling) (head : SegmentHead) : Type 0 where
  pub goes : assembling.Continues old new a b
  pub if_known : (rest : List ℕ) → old.rest ≡ Some rest → (text_tail a rest).ends ≡ Plainly → IsErr (text_read texts head (text_tail a rest).octets)

abbrev pub ReadsText : TextWish → (old new : Outside) (a b : Assembling) (head : SegmentHead) (cells : List ℤ) → Result Bool DecodeFault → Type 0
ReadsText texts old new a b head cells (Ok true) = Accepts texts old new a b head cells
ReadsText texts old new a b head cells (Ok false) = Refuses texts old new a b head
ReadsText texts old new a b head cells (Err ReadFault) = HasFailed old new a b
ReadsText texts old new a b head cells (Err other) = ⊥

-- the n blocks of a segment were passed: put if it was accepted, otherwise lost
abbrev pub segment_values : Bool → List ℤ → ℕ → Option (List ℤ)
segment_values true cells = held cells
segment_values false cells = missing

-- the same image, whose height may have become known
pub record IsShorter (old new : Geometry) : Type 0 where
  pub same : new ≡ record old { rows = new.rows }
  pub fewer : new.rows ≤ old.rows

-- a segment was taken
pub record HasTaken {S : Type 0} (k : SinkOf S) (p q : Outside) (a b : Assembling) (old new : Walking S) : Type 0 where
  pub current : IsCurrent k new
  pub geometry : IsShorter old.geometry new.geometry
  pub between : IsBetween b new
  pub more : passed_in old < passed_in new
  pub faults : NoFewerFaults p q

abbrev pub TakesSegment : {S : Type 0} → SinkOf S → (p q : Outside) (a b : Assembling) (old new : Walking S) → Result (Unit {0}) DecodeFault → Type 0
TakesSegment k p q a b old new (Ok done) = HasTaken k p q a b old new
TakesSegment k p q a b old new (Err ReadFault) = Rose p.read_faults q.read_faults
TakesSegment k p q a b old new (Err WriteFault) = Rose p.write_faults q.write_faults
TakesSegment k p q a b old new (Err (TooManyPixels pixels)) = Unit {0}
TakesSegment k p q a b old new (Err other) = ⊥

-- the blocks before a segment were lost
pub record HasReached {S : Type 0} (k : SinkOf S) (p q : Outside) (a : Assembling) (old new : Walking S) (start : SegmentStart) : Type 0 where
  pub current : IsCurrent k new
  pub geometry : new.geometry ≡ old.geometry
  pub at : IsAt a new start
  pub there : passed_in new ≡ start.ancillary.first
  pub faults : NoFewerFaults p q

abbrev pub ReachesSegment : {S T E : Type 0} → SinkOf S → (p q : Outside) (a : Assembling) (old new : Walking S) → SegmentStart → Result T E → Type 0
ReachesSegment k p q a old new start result = MatchResult result (λ _. HasReached k p q a old new start) (λ _. Rose p.write_faults q.write_faults)

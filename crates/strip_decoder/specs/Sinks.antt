-- The meaning of a sink of blocks, by those that it has taken. This project's own.
use Rattle.std.specs.Prelude.{◌≡◌, ◌⊎◌, ◌≤◌, ◌<◌, ◌+◌, ◌/◌, ◌%◌, ℕ, ℤ, pos, List, [], ◌++◌, length, Option, None, Some, Result, MatchResult, slice_index_or}
use Rattle.std.specs.Prelude.{unwrap_or}
use Rattle.std.specs.Option.{option_map}
use Rattle.port_122.specs.Outside.{Outside, Exchange, NoRead, Rose}
use Rattle.base_122.specs.Ranges.{IsGeometryInRange, IsWithin, rows_range}
use Rattle.base_122.specs.declared.geometry.Geometry.{Geometry}
use Rattle.block_families.specs.Places.{AreWeighted}
use Rattle.stream_defs.specs.Agreement.{blocks_of}

-- the segments that are received, by their index, each with the numbers of its blocks
abbrev pub Numbers : Type 0
Numbers = ℕ → Option (List (List ℤ))

-- the blocks of an image in raster order: the 64 numbers of each, or none if it is missing
abbrev pub Blocks : Type 0
Blocks = ℕ → Option (List ℤ)

-- those that these segments have
abbrev pub blocks_with : Geometry → Numbers → Blocks
blocks_with g received block = option_map (λ numbers. slice_index_or numbers (block % g.segment) []) (received (block / g.segment))

-- the numbers of blocks; those of a missing one are 0
abbrev pub numbers_in : Blocks → (block i : ℕ) → ℤ
numbers_in blocks block i = slice_index_or (unwrap_or (blocks block) []) i (pos 0)

-- An image whose height becomes known while blocks are passed: `before` is the geometry that they were placed by, and `after` the one
-- with the height. Block n is in it.
pub record EndsAt (before after : Geometry) (n : ℕ) : Type 0 where
  pub range : IsGeometryInRange after
  pub height : IsWithin rows_range after.rows
  pub same : after ≡ record before { rows = after.rows }
  pub fewer : after.rows ≤ before.rows
  pub more : n < blocks_of after

-- the geometry is the same, or the height became known
abbrev pub MayEnd : (before after : Geometry) (n : ℕ) → Type 0
MayEnd before after n = (after ≡ before) ⊎ EndsAt before after n

-- The meaning of a sink with these states. Stands: it has taken the first n blocks of an image, so the next can follow. Follows: they
-- were the first n of these blocks, and these octets were given for them. Given: these octets are given once the first n blocks were
-- taken, whatever the sink's state; if the image ends after more blocks, it is the same. Part: these octets may be given if a
-- fault ended it while the first n blocks were taken.
pub record SinkOf (S : Type 0) : Type 1 where
  pub IsValid : S → Geometry → ℕ → Type 0
  pub Follows : S → Geometry → Blocks → ℕ → List ℕ → Type 0
  pub Given : Geometry → Blocks → ℕ → List ℕ → Type 0
  pub Part : Geometry → Blocks → ℕ → List ℕ → Type 0
  pub given_of : (s : S) (g : Geometry) (blocks : Blocks) (n : ℕ) (gave : List ℕ) → IsValid s g n → Follows s g blocks n gave → Given g blocks n gave
  pub part_of : (g : Geometry) (blocks : Blocks) (n : ℕ) (gave : List ℕ) → Given g blocks n gave → Part g blocks n gave
  pub part_none : (g : Geometry) (blocks : Blocks) → Part g blocks 0 []
  pub given_ended : (g h : Geometry) (blocks : Blocks) (n : ℕ) (gave : List ℕ) → EndsAt g h n → Given g blocks n gave → Given h blocks n gave
  pub part_ended : (g h : Geometry) (blocks : Blocks) (n : ℕ) (gave : List ℕ) → EndsAt g h n → Part g blocks n gave → Part h blocks n gave

-- no block was taken, of whatever image of this geometry
pub record Begins {S : Type 0} (k : SinkOf S) (g : Geometry) (s : S) : Type 0 where
  pub valid : k.IsValid s g 0
  pub follows : (blocks : Blocks) → k.Follows s g blocks 0 []

-- numbers that a block of this geometry can have
abbrev pub IsBlock : Geometry → Option (List ℤ) → Type 0
IsBlock g None = Unit {0}
IsBlock g (Some numbers) = (length numbers ≡ 64) × AreWeighted numbers g.weights.shifts

-- a block is left, and it may be this one
pub record IsNext {S : Type 0} (k : SinkOf S) (block : Option (List ℤ)) (s : S) : Type 0 where
  pub geometry : Geometry
  pub place : ℕ
  pub valid : k.IsValid s geometry place
  pub within : place < blocks_of geometry
  pub fits : IsBlock geometry block

-- it was taken as the n-th one
pub record Takes {S : Type 0} (k : SinkOf S) (g : Geometry) (n : ℕ) (block : Option (List ℤ)) (p q : Outside) (old new : S) : Type 0 where
  pub gave : List ℕ
  pub out : Exchange p q [] gave [] NoRead
  pub valid : k.IsValid new g (n + 1)
  pub follows : (blocks : Blocks) (before : List ℕ) → k.Follows old g blocks n before → blocks n ≡ block → k.Follows new g blocks (n + 1) (before ++ gave)

-- a write failed meanwhile
pub record Fails {S : Type 0} (k : SinkOf S) (g : Geometry) (n : ℕ) (block : Option (List ℤ)) (p q : Outside) (old : S) : Type 0 where
  pub gave : List ℕ
  pub out : Exchange p q [] gave [] NoRead
  pub rose : Rose p.write_faults q.write_faults
  pub part : (blocks : Blocks) (before : List ℕ) → k.Follows old g blocks n before → blocks n ≡ block → k.Part g blocks (n + 1) (before ++ gave)

-- the call for a block, whatever the state of the sink
abbrev pub TakesBlock : {S T E : Type 0} → SinkOf S → Result T E → Option (List ℤ) → (p q : Outside) (old new : S) → Type 0
TakesBlock k result block p q old new = (g : Geometry) (n : ℕ) → k.IsValid old g n → n < blocks_of g →
    MatchResult result (λ _. Takes k g n block p q old new) (λ _. Fails k g n block p q old)

-- ---- the height

-- its image may end with the height of this geometry
pub record IsEndable {S : Type 0} (k : SinkOf S) (h : Geometry) (s : S) : Type 0 where
  pub geometry : Geometry
  pub place : ℕ
  pub valid : k.IsValid s geometry place
  pub ends : EndsAt geometry h place

-- the image has this geometry from now on
pub record Ends {S : Type 0} (k : SinkOf S) (g h : Geometry) (n : ℕ) (old new : S) : Type 0 where
  pub valid : k.IsValid new h n
  pub follows : (blocks : Blocks) (gave : List ℕ) → k.Follows old g blocks n gave → k.Follows new h blocks n gave

abbrev pub EndsImage : {S : Type 0} → SinkOf S → (h : Geometry) (old new : S) → Type 0
EndsImage k h old new = (g : Geometry) (n : ℕ) → k.IsValid old g n → EndsAt g h n → Ends k g h n old new

-- The effect of the steps of a walk. This project's own.
use Rattle.std.specs.Prelude.{◌≡◌, ◌≤◌, ◌<◌, ◌+◌, ◌*◌, ◌/◌, ◌==◌, ◌&&◌, ℕ, ℤ, List, [], ◌++◌, Bool, not, is_some, Option, None, Some, Result, MatchResult}
use Rattle.std.specs.Prelude.{filter}
use Rattle.std.specs.List.{list_any, range_with_len}
use Rattle.port_122.specs.Outside.{Outside, Exchange, NoRead, Rose}
use Rattle.base_122.specs.Sizes.{block_count}
use Rattle.base_122.specs.Ranges.{IsGeometryInRange, IsWithin, rows_range}
use Rattle.base_122.specs.declared.geometry.Geometry.{Geometry}
use Rattle.wave_defs.specs.Held.{block_at}
use Rattle.stream_defs.specs.Agreement.{blocks_of}
use Rattle.stream_defs.specs.Marks.{Marks, most_block_rows, unmarked}
use Rattle.strip_decoder.specs.declared.walk.Walk.{Walk}
use Rattle.strip_decoder.specs.declared.walk.BlockAt.{BlockAt}
use Rattle.strip_decoder.specs.Sinks.{Blocks, SinkOf, IsBlock, Begins}

-- its parts
pub record Walking (S : Type 0) : Type 0 where
  pub geometry : Geometry
  pub at : BlockAt
  pub damage : Marks
  pub sink : S

abbrev pub walking : {S : Type 0} → Walk S → Walking S
walking p = record { geometry = p.geometry; at = p.at; damage = p.damage; sink = p.sink }

-- the blocks of its geometry, and those before the next one
abbrev pub total_in : {S : Type 0} → Walking S → ℕ
total_in p = blocks_of p.geometry

abbrev pub passed_in : {S : Type 0} → Walking S → ℕ
passed_in p = p.at.row * block_count p.geometry.width + p.at.column

-- at least this number of blocks is left
abbrev pub HasRoom : {S : Type 0} → ℕ → Walking S → Type 0
HasRoom n p = passed_in p + n ≤ total_in p

-- its parts are those of its geometry, and are at its place
pub record IsCurrent {S : Type 0} (k : SinkOf S) (p : Walking S) : Type 0 where
  pub range : IsGeometryInRange p.geometry
  pub height : IsWithin rows_range p.geometry.rows
  pub column : p.at.column < block_count p.geometry.width
  pub few : passed_in p ≤ total_in p
  pub damage : p.damage.rows ≡ p.geometry.rows
  pub valid : k.IsValid p.sink p.geometry (passed_in p)

-- no block was passed yet
pub record IsFresh {S : Type 0} (k : SinkOf S) (g : Geometry) (p : Walking S) : Type 0 where
  pub geometry : p.geometry ≡ g
  pub row : p.at.row ≡ 0
  pub column : p.at.column ≡ 0
  pub damage : p.damage ≡ unmarked g.rows
  pub begins : Begins k g p.sink

-- ---- which blocks

-- a block row is among those that are missing
abbrev pub is_marked : List ℕ → (row : ℕ) → Bool
is_marked missing row = list_any (λ k. k == row) missing

-- they are in rising order
abbrev pub IsListed : Marks → Type 0
IsListed m = m.missing ≡ filter (is_marked m.missing) (range_with_len 0 most_block_rows)

-- one of the first n blocks is in this block row, and missing
abbrev pub is_lost : Geometry → Blocks → (n row : ℕ) → Bool
is_lost g blocks n row = list_any (λ block. not (is_some (blocks block)) && (block / block_count g.width == row)) (range_with_len 0 n)

-- It has passed the first of these blocks: the sink has taken them and given these octets for them, and the block rows with a missing block
-- are marked.
pub record Follows {S : Type 0} (k : SinkOf S) (p : Walking S) (blocks : Blocks) (gave : List ℕ) : Type 0 where
  pub sink : k.Follows p.sink p.geometry blocks (passed_in p) gave
  pub marked : (row : ℕ) → row < most_block_rows → is_marked p.damage.missing row ≡ is_lost p.geometry blocks (passed_in p) row
  pub listed : IsListed p.damage

-- ---- the steps

-- the next n of these blocks are such
pub record AreNext {S : Type 0} (values : ℕ → Option (List ℤ)) (n : ℕ) (p : Walking S) (blocks : Blocks) : Type 0 where
  pub at : (i : ℕ) → i < n → blocks (passed_in p + i) ≡ values i

-- a missing block, and the blocks of a segment's numbers
abbrev pub missing : ℕ → Option (List ℤ)
missing i = None

abbrev pub held : List ℤ → ℕ → Option (List ℤ)
held cells i = Some (block_at cells i)

-- the next n blocks were passed, which are such
pub record HasPassed {S : Type 0} (k : SinkOf S) (values : ℕ → Option (List ℤ)) (n : ℕ) (p q : Outside) (old new : Walking S) : Type 0 where
  pub current : IsCurrent k new
  pub geometry : new.geometry ≡ old.geometry
  pub count : passed_in new ≡ passed_in old + n
  pub gave : List ℕ
  pub out : Exchange p q [] gave [] NoRead
  pub follows : (blocks : Blocks) (before : List ℕ) → Follows k old blocks before → AreNext values n old blocks → Follows k new blocks (before ++ gave)

-- a write failed meanwhile
pub record StopsEarly {S : Type 0} (k : SinkOf S) (values : ℕ → Option (List ℤ)) (n : ℕ) (p q : Outside) (old : Walking S) : Type 0 where
  pub gave : List ℕ
  pub out : Exchange p q [] gave [] NoRead
  pub rose : Rose p.write_faults q.write_faults
  pub part : (blocks : Blocks) (before : List ℕ) → Follows k old blocks before → AreNext values n old blocks →
      (m : ℕ) × (m ≤ passed_in old + n) × k.Part old.geometry blocks m (before ++ gave)

abbrev pub PassesBlocks : {S T E : Type 0} → SinkOf S → Result T E → (ℕ → Option (List ℤ)) → ℕ → (p q : Outside) (old new : Walking S) → Type 0
PassesBlocks k result values n p q old new = MatchResult result (λ _. HasPassed k values n p q old new) (λ _. StopsEarly k values n p q old)

-- the first n blocks of a segment's numbers are such as its image can have
pub record AreBlocks (n : ℕ) (g : Geometry) (cells : List ℤ) : Type 0 where
  pub at : (i : ℕ) → i < n → IsBlock g (Some (block_at cells i))

-- it is at the next block, and nothing else has changed
pub record HasAdvanced {S : Type 0} (old new : Walking S) : Type 0 where
  pub same : new ≡ record old { at = new.at }
  pub column : new.at.column < block_count old.geometry.width
  pub count : new.at.row * block_count old.geometry.width + new.at.column ≡ passed_in old + 1

-- ---- the height

-- the image has this geometry from now on, and no block was passed
pub record HasGeometry {S : Type 0} (k : SinkOf S) (g : Geometry) (old new : Walking S) : Type 0 where
  pub current : IsCurrent k new
  pub geometry : new.geometry ≡ g
  pub count : passed_in new ≡ passed_in old
  pub follows : (blocks : Blocks) (gave : List ℕ) → Follows k old blocks gave → Follows k new blocks gave

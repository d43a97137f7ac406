-- Which blocks the segments so far have.
use Rattle.std.proofs.Common.{◌≡◌, ◌≤◌, ◌<◌, ◌+◌, ◌-◌, ◌*◌, ◌/◌, ◌%◌, ℕ, ℤ, pos, List, [], length, take, drop, get_or, sym, ap, ◌∙◌, arith, ◌++◌, Option}
use Rattle.std.proofs.Common.{None, Some, option_map}
use Rattle.std.proofs.lemmas.List.{length-take-le, take-take, drop-take}
use Rattle.std.proofs.lemmas.List.FromFn.{get_or-map-range_with_len}
use Rattle.std.proofs.lemmas.Nat.{div-mul-add, mod-mul-add}
use Rattle.std.proofs.lemmas.Bool.Decides.{nat_tests}
use Rattle.port_122.specs.Outside.{Outside}
use Rattle.base_122.specs.Sizes.{first_block}
use Rattle.base_122.specs.declared.geometry.Geometry.{Geometry}
use Rattle.wave_defs.specs.Held.{block_at, blocks_in}
use Rattle.stream_defs.specs.Picture.{number_at}
use Rattle.strip_decoder.specs.Sinks.{Numbers, Blocks, SinkOf, blocks_with, numbers_in}
use Rattle.strip_decoder.specs.WalkSteps.{Walking, HasPassed, passed_in}
use Rattle.strip_decoder.specs.Runs.{AreOf, Shows}
use Rattle.stream_defs.proofs.Equations.{number_at-is}
use Rattle.wave_defs.proofs.Equations.{blocks_in-is}

-- ---- numbers of blocks

-- the number of a block in the segment that has it
pub number_in : (g : Geometry) (sofar : Numbers) (index k i : ℕ) (w : List (List ℤ)) → k < g.segment → sofar index ≡ Some w →
    number_at g sofar (index * g.segment + k) i ≡ get_or (get_or w k []) i (pos 0)
number_in g sofar index k i w lt some = rw number_at-is (grind (arith, nat_tests, pos, div-mul-add, mod-mul-add))

-- the number of a block is that of its segment alone
pub number_by : (g : Geometry) (a b : Numbers) (block i : ℕ) → a (block / g.segment) ≡ b (block / g.segment) → number_at g a block i ≡ number_at g b block i
number_by g a b block i e = grind (arith, nat_tests, number_at-is)

-- those of received segments are the picture's
pub numbers_same : (g : Geometry) (received : Numbers) → numbers_in (blocks_with g received) ≡ number_at g received
numbers_same g received = grind (arith, nat_tests, number_at-is, get_or, pos)

-- ---- blocks

-- a block is that of its segment alone
pub block_by : (g : Geometry) (a b : Numbers) (block : ℕ) → a (block / g.segment) ≡ b (block / g.segment) → blocks_with g a block ≡ blocks_with g b block
block_by g a b block e = ap (option_map (λ numbers. get_or numbers (block % g.segment) [])) e

-- a block of no received segment is missing
pub block_lost : (g : Geometry) (sofar : Numbers) (block : ℕ) → sofar (block / g.segment) ≡ None → blocks_with g sofar block ≡ None
block_lost g sofar block none = ap (option_map (λ numbers. get_or numbers (block % g.segment) [])) none

pub block_in : (cells : List ℤ) (k : ℕ) → 64 * k + 64 ≤ length cells → get_or (blocks_in cells) k [] ≡ block_at cells k
block_in cells k le = rw blocks_in-is (get_or-map-range_with_len (block_at cells) 0 (length cells / 64) k k [] (omega (arith, le)) (omega arith))

-- a block of the first ones
pub prefix_block : (cells : List ℤ) (count k : ℕ) → k < count → block_at (take (64 * count) cells) k ≡ block_at cells k
prefix_block cells count k lt =
    let rest = 64 * (count - k) in
    let parts : 64 * count ≡ 64 * k + rest = omega (arith, lt) in
    ap (λ n. take 64 (drop (64 * k) (take n cells))) parts ∙ ap (take 64) (drop-take (64 * k) rest cells) ∙ take-take 64 rest (drop (64 * k) cells)
    (omega (arith, lt))

-- the blocks of a segment that holds these numbers
pub block_held : (g : Geometry) (sofar : Numbers) (index n k : ℕ) (cells : List ℤ) → n ≤ g.segment → k < n → 64 * n ≤ length cells →
    sofar index ≡ Some (blocks_in (take (64 * n) cells)) → blocks_with g sofar (first_block g.segment index + k) ≡ Some (block_at cells k)
block_held g sofar index n k cells few lt long some = grind (arith, nat_tests, length-take-le, div-mul-add, mod-mul-add, block_in, prefix_block)

-- ---- the first blocks

pub of_same : (g : Geometry) (n : ℕ) (a b : Numbers) (blocks : Blocks) → ((block : ℕ) → block < n → a (block / g.segment) ≡ b (block / g.segment)) →
    AreOf g a n blocks → AreOf g b n blocks
of_same g n a b blocks same of = record { at = λ block lt. of.at block lt ∙ block_by g a b block (same block lt) }

pub of_fewer : (g : Geometry) (m n : ℕ) (a : Numbers) (blocks : Blocks) → m ≤ n → AreOf g a n blocks → AreOf g a m blocks
of_fewer g m n a blocks le of = record { at = λ block lt. of.at block (omega (arith, lt, le)) }

-- for other segments, if those of the blocks so far are the same
pub shows_same : {S : Type 0} (k : SinkOf S) (p : Walking S) (a b : Numbers) (gave : List ℕ) →
    ((block : ℕ) → block < passed_in p → a (block / p.geometry.segment) ≡ b (block / p.geometry.segment)) → Shows k p a gave → Shows k p b gave
shows_same k p a b gave same shows blocks of = shows blocks (of_same p.geometry (passed_in p) b a blocks (λ block lt. sym (same block lt)) of)

-- after n more blocks
pub shows_passed : {S : Type 0} {w x : Outside} (k : SinkOf S) (p q : Walking S) (values : ℕ → Option (List ℤ)) (n : ℕ) (sofar : Numbers) (gave : List ℕ) →
    Shows k p sofar gave →
    ((i : ℕ) → i < n → blocks_with p.geometry sofar (passed_in p + i) ≡ values i) → (passed : HasPassed k values n w x p q) →
    Shows k q sofar (gave ++ passed.gave)
shows_passed k p q values n sofar gave shows are passed blocks of = grind (arith, nat_tests, of_fewer)

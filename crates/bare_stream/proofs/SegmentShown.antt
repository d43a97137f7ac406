-- The blocks of one more segment are given to a picture.
use Rattle.std.proofs.Common.{◌≡◌, ◌≤◌, ◌<◌, ◌+◌, ◌*◌, ◌/◌, ◌%◌, ℕ, ℤ, pos, List, [], ◌∷◌, ◌++◌, length, take, get_or, sym, ap, ◌∙◌, arith, length-append}
use Rattle.std.proofs.Common.{Option}
use Rattle.std.proofs.lemmas.List.{length-take-le, get_or_append_left}
use Rattle.std.proofs.Math.Seq.{get_or-append_seam}
use Rattle.std.proofs.lemmas.Nat.{div_below, div-mul-add, mod-mul-add}
use Rattle.std.proofs.lemmas.Bool.Decides.{nat_tests}
use Rattle.port_122.specs.Outside.{Outside}
use Rattle.base_122.specs.Sizes.{first_block}
use Rattle.base_122.specs.declared.geometry.Geometry.{Geometry}
use Rattle.wave_defs.specs.Held.{block_at, blocks_in}
use Rattle.stream_defs.specs.Settled.{rows_through, block_rows_before}
use Rattle.picture_rows.specs.Prefixes.{rows_of}
use Rattle.picture_rows.specs.Pictures.{PictureState, passed_in}
use Rattle.picture_rows.specs.Steps.{RowsStop}
use Rattle.picture_rows.proofs.RowsOut.{rows_out}
use Rattle.bare_stream.specs.Pictures.{open_geometry}
use Rattle.bare_stream.specs.Reads.{SegmentsRead, AreNumbersOf, ShowsRead}
use Rattle.bare_stream.specs.Blocks.{HasNextBlocks, HasPutBlocks}
use Rattle.bare_stream.proofs.RowsShown.{number_is}
use Rattle.bare_stream.proofs.SegmentMore.{with_more}
use Rattle.strip_decoder.proofs.Showing.{block_in, prefix_block}

-- ---- the blocks of a slice

-- those of the first ones
pub block_of_prefix : (cells : List ℤ) (count k : ℕ) → 64 * count ≤ length cells → k < count → get_or (blocks_in (take (64 * count) cells)) k []
    ≡ block_at cells k
block_of_prefix cells count k long lt = grind (arith, nat_tests, length-take-le, block_in, prefix_block)

-- ---- the numbers of the segments

module _ (r : SegmentsRead) (text : List ℕ) (w : List (List ℤ)) (ended : Option Geometry) (numbers : ℕ → ℕ → ℤ)
    (are : AreNumbersOf (with_more r text w ended) numbers) where
  abbrev s : ℕ
  s = r.first.blocks

  abbrev n : ℕ
  n = length r.blocks

  more : first_block s (length (r.blocks ++ w ∷ [])) ≡ n * s + s
  more = ap (λ k. k * s) (length-append r.blocks (w ∷ [])) ∙ (let e : (n + 1) * s ≡ n * s + s = grind arith in e)

  -- of those before
  pub numbers_before : 1 ≤ s → AreNumbersOf r numbers
  numbers_before some = record {
    at = λ block i lt small.
        let inside : block / s < n = div_below block s n (omega (arith, some)) lt in
        are.at block i (omega (arith, lt, more)) small
        ∙ number_is (open_geometry r.first) (r.blocks ++ w ∷ []) block i
        ∙ ap (λ b. get_or (get_or b (block % s) []) i (pos 0)) (get_or_append_left r.blocks (w ∷ []) [] (block / s) inside)
        ∙ sym (number_is (open_geometry r.first) r.blocks block i);
  }

  -- and of the new one
  pub numbers_next : (k i : ℕ) → k < s → i < 64 → numbers (n * s + k) i ≡ get_or (get_or w k []) i (pos 0)
  numbers_next k i lt small =
      are.at (n * s + k) i (omega (arith, lt, more)) small
      ∙ number_is (open_geometry r.first) (r.blocks ++ w ∷ []) (n * s + k) i
      ∙ ap (λ q. get_or (get_or (get_or (r.blocks ++ w ∷ []) q []) ((n * s + k) % s) []) i (pos 0)) (div-mul-add n s k lt)
      ∙ ap (λ b. get_or (get_or b ((n * s + k) % s) []) i (pos 0)) (get_or-append_seam r.blocks w [] [])
      ∙ ap (λ q. get_or (get_or w q []) i (pos 0)) (mod-mul-add n s k lt)

-- ---- the picture

module _ (g : Geometry) (r : SegmentsRead) (text : List ℕ) (w : List (List ℤ)) (ended : Option Geometry) (gave : List ℕ) (cells : List ℤ) (count : ℕ)
    (p : PictureState) (shows : ShowsRead g r gave p)
    (long : 64 * count ≤ length cells) (some : 1 ≤ r.first.blocks) (few : count ≤ r.first.blocks) (is : w ≡ blocks_in (take (64 * count) cells)) where
  -- the next blocks are those of the segment
  pub next_blocks : (numbers : ℕ → ℕ → ℤ) → AreNumbersOf (with_more r text w ended) numbers → HasNextBlocks cells count p numbers
  next_blocks numbers are = record {
    valid = shows.valid numbers (numbers_before r text w ended numbers are some);
    next = λ k i lt small.
        ap (λ m. numbers (m + k) i) shows.passed
        ∙ numbers_next r text w ended numbers are k i (omega (arith, lt, few)) small
        ∙ ap (λ l. get_or (get_or l k []) i (pos 0)) is ∙ ap (λ l. get_or l i (pos 0)) (block_of_prefix cells count k long lt);
  }

  given_before : (numbers : ℕ → ℕ → ℤ) → AreNumbersOf (with_more r text w ended) numbers → gave ≡ rows_of p.geometry numbers p.at.next
  given_before numbers are = shows.given numbers (numbers_before r text w ended numbers are some)

  module _ {a b : Outside} (q : PictureState) (put : HasPutBlocks cells count a b p q) where
    given_now : (numbers : ℕ → ℕ → ℤ) → AreNumbersOf (with_more r text w ended) numbers → gave ++ put.goes.gave ≡ rows_of q.geometry numbers q.at.next
    given_now numbers are = grind (arith, nat_tests, given_before, next_blocks)

    -- a whole segment is passed
    pub shows_more : count ≡ r.first.blocks → ShowsRead g (with_more r text w ended) (gave ++ put.goes.gave) q
    shows_more whole = record {
      current = put.current;
      geometry = put.geometry ∙ shows.geometry;
      passed =
          put.count ∙ ap (λ m. m + count) shows.passed ∙ ap (λ m. first_block r.first.blocks (length r.blocks) + m) whole
          ∙ sym (ap (λ k. k * r.first.blocks) (length-append r.blocks (w ∷ [])) ∙
          (let e : (length r.blocks + 1) * r.first.blocks ≡ length r.blocks * r.first.blocks + r.first.blocks = grind arith in e));
      valid = λ numbers are. put.goes.follows numbers (next_blocks numbers are);
      given = given_now;
    }

    -- the rows that are given once n blocks are passed
    pub rows_now : (numbers : ℕ → ℕ → ℤ) (n : ℕ) → passed_in p + count ≡ n → AreNumbersOf (with_more r text w ended) numbers →
        gave ++ put.goes.gave ≡ rows_of g numbers (rows_through g (block_rows_before g n))
    rows_now numbers n at are = rows_out q g n numbers (gave ++ put.goes.gave) put.current (put.geometry ∙ shows.geometry) (put.count ∙ at)
        (given_now numbers are ∙ ap (λ g. rows_of g numbers q.at.next) (put.geometry ∙ shows.geometry))

  -- a write failed
  pub rows_broken : {a b : Outside} (numbers : ℕ → ℕ → ℤ) (n : ℕ) → passed_in p + count ≡ n → AreNumbersOf (with_more r text w ended) numbers →
      (broken : RowsStop (HasNextBlocks cells count p) (block_rows_before p.geometry (passed_in p + count)) a b p) →
      (some : ℕ) × (gave ++ broken.gave ≡ take some (rows_of g numbers (rows_through g (block_rows_before g n))))
  rows_broken numbers n at are broken =
      let there = broken.given numbers (next_blocks numbers are) in (
        there.0,
        ap (λ l. l ++ broken.gave) (given_before numbers are) ∙ there.1
            ∙ ap (λ m. take there.0 (rows_of p.geometry numbers (rows_through p.geometry (block_rows_before p.geometry m)))) at
            ∙ ap (λ (g : Geometry). take there.0 (rows_of g numbers (rows_through g (block_rows_before g n)))) shows.geometry,
      )

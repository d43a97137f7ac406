-- A segment's text up to its planes, and its planes.
use Rattle.std.proofs.Common.{◌≡◌, ℕ, ◌+◌, ◌-◌, ◌*◌, ◌/◌, ◌^◌, ◌<◌, ◌≤◌, min, List, [], length, ap, ◌∙◌, arith, ℤ, pos, get_or, Result, Ok, Err}
use Rattle.std.specs.Int.RustNames.{unsigned_abs}
use Rattle.std.proofs.lemmas.List.FromFn.{length-map-range_with_len, get_or-map-range_with_len}
use Rattle.std.proofs.Common.{pow-add}
use Rattle.wave_defs.specs.Held.{block_at, blocks_in}
use Rattle.wave_defs.proofs.Equations.{blocks_in-is}
use Rattle.segment_defs.specs.declared.head.SegmentHead.{SegmentHead}
use Rattle.segment_defs.specs.SegmentItems.{q_of}
use Rattle.segment_code.specs.Starts.{low_bits, HasDc, AwaitsPlanes, TakesText}
use Rattle.segment_defs.specs.TextWish.{TextWish, segment_read}
use Rattle.bit_pipe.specs.ScriptSources.{by_part, ReadsAs}
use Rattle.bit_pipe.specs.Sources.{SourceOf}
use Rattle.bit_pipe.specs.SourceState.{SourceState}
use Rattle.bit_pipe.specs.declared.fault.Part.{Part}
use Rattle.bit_pipe.specs.declared.fault.TextFault.{TextFault}
use Rattle.plane_reader.specs.declared.planes.SentPlanes.{SentPlanes}
use Rattle.plane_reader.specs.Above.{AwaitDcs, HasNoAcs}
use Rattle.plane_reader.specs.Restoring.{AwaitLows}

module _ (head : SegmentHead) (blocks : List ℤ) (whole : length blocks ≡ 64 * head.blocks) (dcs : (r : ℕ) → r < head.blocks →
    HasDc head (block_at blocks r)) where
  pub no_acs : HasNoAcs blocks
  no_acs r p lt is = (dcs r (omega (arith, whole, lt))).acs p is.0

  block_is : (r : ℕ) → r < head.blocks → get_or (blocks_in blocks) r [] ≡ block_at blocks r
  block_is r lt =
      ap (λ l. get_or l r []) (blocks_in-is blocks) ∙
      get_or-map-range_with_len (block_at blocks) 0 (length blocks / 64) r r [] (omega (arith, whole, lt)) (omega arith)

  count_is : length (blocks_in blocks) ≡ head.blocks
  count_is = ap length (blocks_in-is blocks) ∙ length-map-range_with_len (block_at blocks) 0 (length blocks / 64) ∙ omega (arith, whole)

  lower : (low n m part : ℕ) → low ≤ m → n ≡ 2 ^ m * part → n ≡ 2 ^ low * (2 ^ (m - low) * part)
  lower low n m part le e =
      let split : 2 ^ m ≡ 2 ^ low * 2 ^ (m - low) = (let from : m ≡ low + (m - low) = omega (arith, le) in ap (λ k. 2 ^ k) from ∙ pow-add 2 low (m - low)) in
      e ∙ ap (λ x. x * part) split ∙ grind arith

  pub await_dcs : AwaitDcs head.depth_ac (q_of head) (blocks_in blocks)
  await_dcs r lt =
      let inside : r < head.blocks = omega (arith, lt, count_is) in
      let has = dcs r inside in
      let low : min head.depth_ac (q_of head) ≤ low_bits head = omega arith in
      record {
        part = 2 ^ (low_bits head - min head.depth_ac (q_of head)) * has.part;
        whole = ap (λ b. unsigned_abs (get_or b 0 (pos 0))) (block_is r inside) ∙
            lower (min head.depth_ac (q_of head)) _ (low_bits head) has.part low has.dc;
      }

-- what is given before the planes is what their reader awaits
pub await_lows : {I : Type 0} (k : SourceOf I) (wish : TextWish) (head : SegmentHead) (blocks : List ℤ) → length blocks ≡ 64 * head.blocks →
    (marks : List ℤ) (sent : SentPlanes) → sent.weights ≡ head.image.weights → sent.q ≡ q_of head → sent.below ≡ head.depth_ac →
    {old new : SourceState I} (start : AwaitsPlanes k wish head old new blocks marks) → AwaitLows sent start.given
await_lows k wish head blocks whole marks sent weights q below start = record {
  dcs = λ r lt. rw (weights, q, below) (start.dc_lows r (omega (arith, lt, ap length start.numbers, count_is head blocks whole start.dcs)));
  acs = λ r p lt ac. start.ac_lows r p ac;
}

-- what was read up to the end, by the result of the call that read it
pub text_taken : {I : Type 0} (k : SourceOf I) (wish : TextWish) (head : SegmentHead) (result : Result Part TextFault) (blocks : List ℤ)
    {old new : SourceState I} → ReadsAs k (segment_read wish head) (by_part result (blocks_in blocks) (blocks_in blocks)) old new →
    TakesText k wish head result old new blocks
text_taken k wish head (Ok part) blocks read = read
text_taken k wish head (Err fault) blocks read = (blocks_in blocks, read)

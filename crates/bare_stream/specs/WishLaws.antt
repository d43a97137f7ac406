-- What of a bare stream does not depend on whether its numbers are restored. (This project's own.)
use Rattle.std.specs.Prelude.{◌≡◌, ℕ, Bool, List, length}
use Rattle.base_122.specs.declared.wish.DecodeWish.{DecodeWish}
use Rattle.segment_defs.specs.TextWish.{TextWish}
use Rattle.bare_stream.specs.StreamRead.{Read, stream_in, answer_for, octets_for}

-- two readings have the same segments and the same ending, except for the numbers of the blocks
pub record AreAlike (a b : Read) : Type 0 where
  pub first : a.segments.first ≡ b.segments.first
  pub before : a.segments.before ≡ b.segments.before
  pub count : length a.segments.blocks ≡ length b.segments.blocks
  pub ended : a.segments.ended ≡ b.segments.ended
  pub octets : a.segments.octets ≡ b.segments.octets
  pub ending : a.ending ≡ b.ending

-- Which octets are segments, what their heads report, where a stream is refused and why, and which octets decide it, does not depend on
-- whether numbers are restored.
pub record BareWishesAgree : Type 0 where
  pub reads : (wish : TextWish) (restore : Bool) (pixels : ℕ) (octets : List ℕ) →
      AreAlike (stream_in (record wish { restore = restore }) pixels octets) (stream_in wish pixels octets)
  pub answer : (wish : DecodeWish) (restore : Bool) (input : List ℕ) → answer_for (record wish { restore = restore }) input ≡ answer_for wish input
  pub octets : (wish : DecodeWish) (restore : Bool) (input : List ℕ) → octets_for (record wish { restore = restore }) input ≡ octets_for wish input

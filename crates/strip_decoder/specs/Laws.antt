-- What is received of a stream. This project's own.
use Rattle.std.specs.Prelude.{◌≡◌, ℕ, List, is_some}
use Rattle.base_122.specs.declared.geometry.Geometry.{Geometry}
use Rattle.stream_defs.specs.Marks.{Marks}
use Rattle.stream_defs.specs.Received.{ReceivedIn}
use Rattle.segment_defs.specs.TextWish.{TextWish, unrestored}
use Rattle.strip_decoder.specs.Runs.{Numbers, holds_after}
use Rattle.strip_decoder.specs.Walks.{IsDamageOf}

-- The octets that were taken determine which segments are received with a book, and with which numbers, restored or as they are: there is
-- exactly one answer for each stream.
pub record ReceivedIsKnown : Type 0 where
  pub one : (texts : TextWish) (apid : ℕ) (taken : List ℕ) (a b : Numbers) → ReceivedIn (holds_after texts) apid taken a →
      ReceivedIn (holds_after texts) apid taken b → (index : ℕ) → a index ≡ b index
  pub some : (texts : TextWish) (apid : ℕ) (taken : List ℕ) → (received : Numbers) × ReceivedIn (holds_after texts) apid taken received
  -- whether the numbers are restored changes no segment that is received
  pub same : (texts : TextWish) (apid : ℕ) (taken : List ℕ) (a b : Numbers) → ReceivedIn (holds_after texts) apid taken a →
      ReceivedIn (holds_after (unrestored texts.book)) apid taken b → (index : ℕ) → is_some (a index) ≡ is_some (b index)
  -- and so no damage
  pub damage : (texts : TextWish) (apid : ℕ) (taken : List ℕ) (a b : Numbers) (g : Geometry) (n : ℕ) (marks : Marks) →
      ReceivedIn (holds_after texts) apid taken a → ReceivedIn (holds_after (unrestored texts.book)) apid taken b →
      IsDamageOf g a n marks → IsDamageOf g b n marks

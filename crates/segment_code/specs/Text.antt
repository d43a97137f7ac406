-- What an encoder writes into its sink (this project's own).
use Rattle.std.specs.Prelude.{◌≡◌, ℕ, ℤ, List, ◌++◌, length, Result}
use Rattle.item_defs.specs.Items.{text}
use Rattle.base_122.specs.declared.book.Book.{Book}
use Rattle.bit_pipe.specs.Sinks.{SinkOf, Rose}
use Rattle.bit_pipe.specs.SinkState.{SinkState, Puts}
use Rattle.bit_pipe.specs.declared.fault.PutFault.{PutFault}
use Rattle.segment_defs.specs.declared.head.SegmentHead.{SegmentHead}
use Rattle.segment_defs.specs.Depths.{block_depths}
use Rattle.segment_defs.specs.SegmentItems.{segment_items}
use Rattle.segment_defs.specs.Coded.{chosen_options}

-- the sink was given a text of this number of octets
pub record GivesText {S : Type 0} (k : SinkOf S) (old new : S) (text : List ℕ) (octets : ℕ) : Type 0 where
  pub gave : k.Gave old new text
  pub count : octets ≡ length text

-- a call failed while a prefix of these octets was given
pub record BreaksWithin {S : Type 0} (k : SinkOf S) (old new : S) (octets : List ℕ) : Type 0 where
  pub prefix : List ℕ
  pub more : List ℕ
  pub parts : octets ≡ prefix ++ more
  pub broke : k.Broke old new prefix
  pub rose : Rose (k.counts old).faults (k.counts new).faults

-- the items of a segment's text were put, with the options that a writer chooses
pub record EncodesItems {S T : Type 0} (k : SinkOf S) (book : Book) (head : SegmentHead) (blocks : List (List ℤ)) (result : Result T PutFault)
    (old new : SinkState S) : Type 0 where
  pub puts : Puts k result old new (text (segment_items head blocks (block_depths blocks) (chosen_options book head blocks)))

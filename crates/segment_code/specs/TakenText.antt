-- The result of a call that reads the items of a segment's text. (This project's own.)
use Rattle.std.specs.Prelude.{◌≡◌, ℕ, ℤ, List, Result, Ok, Err}
use Rattle.bit_pipe.specs.declared.fault.Part.{Part}
use Rattle.bit_pipe.specs.declared.fault.TextFault.{TextFault}
use Rattle.bit_pipe.specs.Bounds.{bound_of}
use Rattle.bit_pipe.specs.Sources.{SourceOf}
use Rattle.bit_pipe.specs.SourceState.{SourceState, BeginsIn}
use Rattle.segment_defs.specs.declared.head.SegmentHead.{SegmentHead}
use Rattle.segment_defs.specs.TextWish.{TextWish}
use Rattle.segment_code.specs.Starts.{TakesText}

-- how far the items were read, and how many bits were taken
abbrev pub with_used : Result Part TextFault → ℕ → Result (Part × ℕ) TextFault
with_used (Ok part) used = Ok (record { 0 = part; 1 = used })
with_used (Err fault) used = Err fault

-- the items were read from an input that is after the head, of `size` octets
pub record TakesFrom {I : Type 0} (k : SourceOf I) (wish : TextWish) (head : SegmentHead) (size : ℕ) (result : Result (Part × ℕ) TextFault) (old new : I)
    (now : List ℤ) : Type 0 where
  pub start : SourceState I
  pub begins : BeginsIn old (bound_of head.limit) size start
  pub stop : SourceState I
  pub valid : stop.source ≡ new
  pub answered : Result Part TextFault
  pub text : TakesText k wish head answered start stop now
  pub answer : result ≡ with_used answered stop.used

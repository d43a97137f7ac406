-- Some bits of one octet.
use Rattle.std.specs.Prelude.{◌<◌, ◌≤◌, ℕ, ◌^◌, [], Option, None, Some, Result, Ok, Err}
use Rattle.item_defs.specs.Bits.{bits_of}
use Rattle.bit_pipe.specs.Sources.{SourceOf}
use Rattle.bit_pipe.specs.SourceState.{SourceState, Takes, IsEnd, FailsSo}
use Rattle.bit_pipe.specs.declared.fault.InFault.{InFault}
use Rattle.bit_pipe.specs.declared.piece.Piece.{Piece}

-- these bits were taken, at least one and at most `most`
pub record TakesPiece {I : Type 0} (k : SourceOf I) (most : ℕ) (piece : Piece) (old new : SourceState I) : Type 0 where
  pub some : 0 < piece.count
  pub within : piece.count ≤ most
  pub fits : piece.value < 2 ^ piece.count
  pub taken : Takes k old new (bits_of piece.count piece.value)

abbrev pub EndsPiece : {I : Type 0} → SourceOf I → ℕ → Result (Option Piece) InFault → SourceState I → SourceState I → Type 0
EndsPiece k most (Ok (Some piece)) old new = TakesPiece k most piece old new
EndsPiece k most (Ok None) old new = Takes k old new [] × IsEnd k new
EndsPiece k most (Err e) old new = Takes k old new [] × FailsSo k e old new

-- the result of a call for some bits
pub record GivesPiece {I : Type 0} (k : SourceOf I) (most : ℕ) (result : Result (Option Piece) InFault) (old new : SourceState I) : Type 0 where
  pub ends : EndsPiece k most result old new

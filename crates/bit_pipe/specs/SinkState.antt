-- How far a text of bits was written.
use Rattle.std.specs.Prelude.{◌≡◌, ◌≤◌, ◌<◌, ℕ, ◌+◌, ◌*◌, ◌^◌, List, [], ◌++◌, length, take, Bool, false, Result, Ok, Err, MatchResult}
use Rattle.item_defs.specs.Bits.{bits_of, copies}
use Rattle.item_defs.specs.Padding.{padding}
use Rattle.bit_pipe.specs.Sinks.{SinkOf, GaveBits, BrokeBits}
use Rattle.bit_pipe.specs.declared.bit_out.BitOut.{BitOut}
use Rattle.bit_pipe.specs.declared.fault.PutFault.{PutFault}
use Rattle.bit_pipe.specs.declared.fault.PutFault.TheVariants.{Stopped, WriteFault}

-- the sink's state; the bits that wait, fewer than a word of them; how many bits there are, with those before; how many
-- more may follow; the bound in octets; and the name of the reference to the sink
pub record SinkState (S : Type 0) : Type 0 where
  pub sink : S
  pub pending : List Bool
  pub used : ℕ
  pub room : ℕ
  pub bound : ℕ
  pub name : ℕ

abbrev pub sink_state : {O : Type 0} → SinkOf O → BitOut O → SinkState O
sink_state k b = record {
  sink = b.out.now;
  pending = bits_of b.filled b.pending;
  used = 8 * (k.counts b.out.now).given + b.filled;
  room = b.room;
  bound = b.bound;
  name = b.out.ghost_name;
}

-- bits may be put
pub record IsOpen {S : Type 0} (s : SinkState S) : Type 0 where
  pub whole : s.used + s.room ≡ 8 * s.bound
  pub bound : s.bound ≤ 2 ^ 32
  pub pending : length s.pending < 64

-- no bit was put yet, and the bound is this number of octets
pub record Begins {S : Type 0} (k : SinkOf S) (out : S) (octets : ℕ) (s : SinkState S) : Type 0 where
  pub sink : s.sink ≡ out
  pub pending : s.pending ≡ []
  pub used : s.used ≡ 8 * (k.counts out).given
  pub bound : s.bound ≡ octets

-- exactly these bits were put: the bits of whole octets were given, and those after them wait
pub record Adds {S : Type 0} (k : SinkOf S) (old new : SinkState S) (put : List Bool) : Type 0 where
  pub out : List Bool
  pub gave : GaveBits k old.sink new.sink out
  pub bits : old.pending ++ put ≡ out ++ new.pending
  pub pending : length new.pending < 64
  pub used : new.used ≡ old.used + length put
  pub room : old.room ≡ new.room + length put
  pub bound : new.bound ≡ old.bound
  pub name : new.name ≡ old.name

-- the sink failed while these bits were put
pub record Breaks {S : Type 0} (k : SinkOf S) (old new : SinkState S) (put : List Bool) : Type 0 where
  pub broke : BrokeBits k old.sink new.sink (old.pending ++ put)
  pub name : new.name ≡ old.name

-- it stops exactly if the bits do not all fit, and those that fit were put
abbrev pub EndsPut : {S T : Type 0} → SinkOf S → Result T PutFault → SinkState S → SinkState S → List Bool → Type 0
EndsPut k (Ok _) old new put = Adds k old new put
EndsPut k (Err Stopped) old new put = (old.room < length put) × Adds k old new (take old.room put)
EndsPut k (Err WriteFault) old new put = Breaks k old new (take old.room put)

-- the result of a call that puts these bits
pub record Puts {S T : Type 0} (k : SinkOf S) (result : Result T PutFault) (old new : SinkState S) (put : List Bool) : Type 0 where
  pub ends : EndsPut k result old new put

-- the pending bits and these zeros were given, after which there is this number of octets
pub record Finishes {S : Type 0} (k : SinkOf S) (old : SinkState S) (new : S) (zeros answer : ℕ) : Type 0 where
  pub gave : GaveBits k old.sink new (old.pending ++ copies zeros false)
  pub octets : answer ≡ (k.counts new).given
  pub bits : 8 * answer ≡ old.used + zeros

-- the result of `end`: the text is padded to words, and filled up to the bound if that is asked for
pub record Closes {S E : Type 0} (k : SinkOf S) (result : Result ℕ E) (word : ℕ) (fill : Bool) (old : SinkState S) (new : S) : Type 0 where
  pub ends : MatchResult result
      (λ answer. Finishes k old new (padding word old.bound fill old.used) answer)
      (λ _. BrokeBits k old.sink new (old.pending ++ copies (padding word old.bound fill old.used) false))

-- ---- the same of a writer itself

-- bits may be put
abbrev pub IsReady : {O : Type 0} → SinkOf O → BitOut O → Type 0
IsReady k out = IsOpen (sink_state k out)

-- the result of a call that writes these bits
abbrev pub Writes : {O T : Type 0} → SinkOf O → Result T PutFault → BitOut O → BitOut O → List Bool → Type 0
Writes k result old new bits = Puts k result (sink_state k old) (sink_state k new) bits

-- What is known of a place where octets are written.
use Rattle.std.specs.Prelude.{◌≡◌, ◌≤◌, ℕ, ◌+◌, ◌-◌, ◌*◌, ◌^◌, min, List, [], ◌∷◌, ◌++◌, length, Bool, Result, MatchResult}
use Rattle.item_defs.specs.Bits.{AreOctets, bits_of_octets}

-- how many octets were given, and how often a call has failed
pub record Counts : Type 0 where
  pub given : ℕ
  pub faults : ℕ

-- The meaning of a sink with these states. Gave: the second state is the first after these octets were given.
-- Broke: it is the first after a call failed while these octets were given, of which a prefix may have been
-- written.
pub record SinkOf (S : Type 0) : Type 1 where
  pub counts : S → Counts
  pub Gave : S → S → List ℕ → Type 0
  pub Broke : S → S → List ℕ → Type 0
  pub gave_none : (s : S) → Gave s s []
  pub gave_both : (s t u : S) (xs ys : List ℕ) → Gave s t xs → Gave t u ys → Gave s u (xs ++ ys)
  pub broke_after : (s t u : S) (xs ys : List ℕ) → Gave s t xs → Broke t u ys → Broke s u (xs ++ ys)

-- a count of faults rose, or is at its end
abbrev pub Rose : ℕ → ℕ → Type 0
Rose before now = min (before + 1) (2 ^ 64 - 1) ≤ now

-- an octet was given
pub record GaveOctet {S : Type 0} (k : SinkOf S) (old new : S) (octet : ℕ) : Type 0 where
  pub gave : k.Gave old new (octet ∷ [])
  pub given : (k.counts new).given ≡ (k.counts old).given + 1
  pub faults : (k.counts old).faults ≤ (k.counts new).faults

-- the call for an octet failed
pub record BrokeOctet {S : Type 0} (k : SinkOf S) (old new : S) (octet : ℕ) : Type 0 where
  pub broke : k.Broke old new (octet ∷ [])
  pub rose : Rose (k.counts old).faults (k.counts new).faults

-- octets were given whose bits are these
pub record GaveBits {S : Type 0} (k : SinkOf S) (old new : S) (bits : List Bool) : Type 0 where
  pub octets : List ℕ
  pub small : AreOctets octets
  pub spell : bits ≡ bits_of_octets octets
  pub gave : k.Gave old new octets
  pub given : 8 * (k.counts new).given ≡ 8 * (k.counts old).given + length bits
  pub faults : (k.counts old).faults ≤ (k.counts new).faults

-- a call failed while octets were given whose bits are a prefix of these
pub record BrokeBits {S : Type 0} (k : SinkOf S) (old new : S) (bits : List Bool) : Type 0 where
  pub octets : List ℕ
  pub small : AreOctets octets
  pub more : List Bool
  pub spell : bits ≡ bits_of_octets octets ++ more
  pub broke : k.Broke old new octets
  pub rose : Rose (k.counts old).faults (k.counts new).faults

-- the result of calls that give octets with these bits
abbrev pub PutsOctets : {S T E : Type 0} → SinkOf S → Result T E → S → S → List Bool → Type 0
PutsOctets k result old new bits = MatchResult result (λ _. GaveBits k old new bits) (λ _. BrokeBits k old new bits)

-- Bits of numbers and of octets, highest first.
use Rattle.std.specs.Prelude.{ℕ, zero, suc, ◌+◌, ◌*◌, ◌/◌, ◌%◌, ◌^◌, ◌<◌, ◌==◌, List, [], ◌∷◌, length, map, take, drop, fold, Bool, true, false}
use Rattle.std.specs.List.{All, flat_map, range_with_len}

-- the bit of weight 2 ^ i
abbrev pub bit : ℕ → ℕ → Bool
bit n i = n / 2 ^ i % 2 == 1

-- the lowest w bits of a number
unfoldable pub bits_of : ℕ → ℕ → List Bool
bits_of zero n = []
bits_of (suc w) n = bit n w ∷ bits_of w n

-- n bits of one kind
unfoldable pub copies : ℕ → Bool → List Bool
copies zero b = []
copies (suc n) b = b ∷ copies n b

abbrev pub digit : Bool → ℕ
digit true = 1
digit false = 0

-- the number that has these bits
unfoldable pub value_of : List Bool → ℕ
value_of bits = fold (λ n b. 2 * n + digit b) 0 bits

abbrev pub AreOctets : List ℕ → Type 0
AreOctets octets = All (λ n. n < 256) octets

-- the bits of octets
unfoldable pub bits_of_octets : List ℕ → List Bool
bits_of_octets octets = flat_map (bits_of 8) octets

-- the octets that bits fill, eight in each
unfoldable pub octets_of : List Bool → List ℕ
octets_of bits = map (λ i. value_of (take 8 (drop (8 * i) bits))) (range_with_len 0 (length bits / 8))

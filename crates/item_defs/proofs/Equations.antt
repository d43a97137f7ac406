-- What the definitions compute to: outside this crate these equations are cited, and nothing is unfolded.
use Rattle.std.proofs.Common.{◌≡◌, refl}
use Rattle.std.specs.Prelude.{ℕ, suc, ◌+◌, ◌*◌, List, [], ◌∷◌, fold, Bool}
use Rattle.item_defs.specs.Bits.{bit, digit, bits_of, value_of}

pub value_of-is : (bits : List Bool) → value_of bits ≡ fold (λ n b. 2 * n + digit b) 0 bits
unfolding value_of
value_of-is bits = refl

pub bits_of-none : (n : ℕ) → bits_of 0 n ≡ []
unfolding bits_of
bits_of-none n = refl

pub bits_of-more : (w n : ℕ) → bits_of (suc w) n ≡ bit n w ∷ bits_of w n
unfolding bits_of
bits_of-more w n = refl

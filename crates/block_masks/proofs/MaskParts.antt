-- A mask without one of its positions.
use Rattle.std.proofs.Common.{◌≡◌, ℕ, ◌<◌, true, false, bit_and, arith}
use Rattle.std.proofs.lemmas.Bool.{true≢false}
use Rattle.std.proofs.lemmas.Nat.{and_le_l}
use Rattle.std.proofs.lemmas.Bool.Decides.{nat_tests}
use Rattle.item_defs.specs.Bits.{bit}

pub fewer_left : (mask rest position : ℕ) → bit mask position ≡ true → bit (bit_and mask rest) position ≡ false → bit_and mask rest < mask
fewer_left mask rest position here gone = grind (arith, nat_tests, bit_and, and_le_l, true≢false)

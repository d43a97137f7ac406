-- What the definitions compute to: outside this crate these equations are cited, and nothing is unfolded.
use Rattle.std.proofs.Common.{◌≡◌, refl}
use Rattle.std.specs.Prelude.{◌+◌, ◌*◌, Bool, List, length}
use Rattle.item_defs.specs.Bits.{value_of}
use Rattle.block_masks.specs.Picks.{packed}

pub packed-is : (bits : List Bool) → packed bits ≡ 16 * length bits + value_of bits
unfolding packed
packed-is bits = refl

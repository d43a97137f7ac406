-- The number of parts of a text that are full and not the last.
use Rattle.std.proofs.Common.{◌≡◌, ◌≤◌, ◌<◌, ◌+◌, ◌-◌, ◌*◌, ◌/◌, ℕ, ◌∙◌, ap, arith}
use Rattle.std.proofs.Math.Nat.{div-mul-le_self, lt-div-mul-add}
use Rattle.std.proofs.lemmas.Nat.{div-mul-add}
use Rattle.space_packets.specs.Parts.{full_parts}

-- they have at most these octets, and fewer if there are some
pub full_parts_below : (size octets : ℕ) → 0 < octets → full_parts size octets * size < octets
full_parts_below size octets some = omega (arith, div-mul-le_self (octets - 1) size)

pub full_parts_within : (size octets : ℕ) → full_parts size octets * size ≤ octets
full_parts_within size octets = omega (arith, div-mul-le_self (octets - 1) size)

-- what is left is at most one part
pub full_parts_left : (size octets : ℕ) → 0 < size → octets ≤ full_parts size octets * size + size
full_parts_left size octets some = omega (arith, lt-div-mul-add {a = octets - 1} {b = size} some)

-- the number of them, by what is left
pub full_parts_is : (size octets count rest : ℕ) → octets ≡ count * size + rest → 0 < rest → rest ≤ size → full_parts size octets ≡ count
full_parts_is size octets count rest e some few =
    let less : octets - 1 ≡ count * size + (rest - 1) = omega arith in
    ap (λ n. n / size) less ∙ div-mul-add count size (rest - 1) (omega arith)

-- at most one part has none
pub full_parts_none : (size octets : ℕ) → octets ≤ size → 0 < size → full_parts size octets ≡ 0
full_parts_none size octets few some =
    let less : octets - 1 ≡ 0 * size + (octets - 1) = omega arith in
    ap (λ n. n / size) less ∙ div-mul-add 0 size (octets - 1) (omega arith)

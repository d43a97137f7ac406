-- The octets of a text that was put whole, or up to its limit.
use Rattle.std.proofs.Common.{◌≡◌, ℕ, ◌*◌, ◌%◌, ◌≤◌, List, [], ◌∷◌, ◌++◌, length, take, drop, Bool, false, refl, sym, ap, ◌∙◌, arith, length-append, ◌==◌}
use Rattle.std.proofs.lemmas.Bool.Decides.{nat_tests}
use Rattle.std.proofs.lemmas.List.{append-nil, take_all, take_at, take-append-le, take-append-drop, length-take-le}
use Rattle.item_defs.specs.Bits.{copies, octets_of}
use Rattle.item_defs.specs.Padding.{padded_length, padding, padded}
use Rattle.item_defs.proofs.BitLists.{length-copies, copies_none}
use Rattle.item_defs.proofs.OctetBits.{length-octets_of}
use Rattle.item_defs.proofs.Rounding.{rounded_bounds, rounded_least}
use Rattle.segment_defs.specs.Text.{text_octets}
use Rattle.segment_defs.proofs.WrittenFields.{octets_of-append}

-- the first octets are those of the first bits
pub take-octets_of : (n : ℕ) (bits : List Bool) → 8 * n ≤ length bits → take n (octets_of bits) ≡ octets_of (take (8 * n) bits)
take-octets_of n bits le =
    let prefix = take (8 * n) bits in
    let long : length prefix ≡ 8 * n = length-take-le (8 * n) bits le in
    let count : length (octets_of prefix) ≡ n = length-octets_of prefix ∙ omega (arith, long) in
    ap (λ r. take n (octets_of r)) (sym (take-append-drop (8 * n) bits))
    ∙ ap (take n) (octets_of-append n prefix (drop (8 * n) bits) long)
    ∙ take_at (octets_of prefix) (octets_of (drop (8 * n) bits)) n count

-- ---- a limit of whole words

pub record IsLimit (word limit : ℕ) : Type 0 where
  pub octets : 1 ≤ word
  pub some : 1 ≤ limit
  pub whole : limit % word ≡ 0

-- what is within the limit is within it after it is padded to whole words
pub padded_within : (word limit used : ℕ) (fill : Bool) → IsLimit word limit → used ≤ 8 * limit → padded_length word limit fill used ≤ 8 * limit
padded_within word limit used fill l le = grind (arith, nat_tests, rounded_least)

pub padded_least : (word limit used : ℕ) (fill : Bool) → 1 ≤ word → used ≤ padded_length word limit fill used
padded_least word limit used fill some = grind (arith, nat_tests, rounded_bounds)

pub length-padded : (word limit : ℕ) (fill : Bool) (bits : List Bool) → 1 ≤ word → length (padded word limit fill bits) ≡ padded_length word limit fill
    (length bits)
length-padded word limit fill bits some = grind (arith, nat_tests, length-append, length-copies, padded_least)

-- all bits fit below the limit
pub text_within : (word limit : ℕ) (fill : Bool) (bits : List Bool) → IsLimit word limit → length bits ≤ 8 * limit → octets_of (padded word limit fill bits)
    ≡ text_octets word limit fill bits
unfolding text_octets
text_within word limit fill bits l le = grind (arith, nat_tests, length-octets_of, length-padded, padded_within, take_all)

-- there is no limit
pub text_unlimited : (word bound : ℕ) (bits : List Bool) → octets_of (padded word bound false bits) ≡ text_octets word 0 false bits
unfolding text_octets
text_unlimited word bound bits = refl

-- the bits reach the limit or exceed it
pub text_cut : (word limit : ℕ) (fill : Bool) (bits : List Bool) → IsLimit word limit → 8 * limit ≤ length bits →
    octets_of (padded word limit fill (take (8 * limit) bits)) ≡ text_octets word limit fill bits
unfolding text_octets
text_cut word limit fill bits l le =
    let there : (limit == 0) ≡ false = grind (arith, nat_tests, l.some) in
    let prefix = take (8 * limit) bits in
    let long : length prefix ≡ 8 * limit = length-take-le (8 * limit) bits le in
    let none : padding word limit fill (length prefix) ≡ 0 =
    ap (padding word limit fill) long ∙ (let w = padded_within word limit (8 * limit) fill l (omega arith) in omega (arith, w)) in
    let here : padded word limit fill prefix ≡ prefix = ap (λ n. prefix ++ copies n false) none ∙ ap (λ r. prefix ++ r) (copies_none false)
    ∙ append-nil prefix in
    let zeros = copies (padding word limit fill (length bits)) false in
    rw there (
    ap octets_of here
    ∙ ap octets_of (sym (take-append-le (8 * limit) bits zeros le))
    ∙ sym (take-octets_of limit (bits ++ zeros) (omega (arith, le, length-append bits zeros)))
    )

-- a list without a length is empty
pub none_long : (l : List ℕ) → length l ≡ 0 → l ≡ []
none_long [] e = refl
none_long (x ∷ l) e = absurd (omega (arith, e))

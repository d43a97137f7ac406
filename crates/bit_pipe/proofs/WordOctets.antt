-- The octets of a word, as a slice takes them.
use Rattle.std.proofs.Common.{◌≡◌, ℕ, zero, suc, ◌+◌, ◌*◌, ◌/◌, ◌%◌, ◌^◌, ◌<◌, ◌≤◌, List, ◌++◌, length, take, drop, refl, sym, ap, ◌∙◌, arith}
use Rattle.std.proofs.Common.{length-append, length-drop, pow-suc, length-take-le}
use Rattle.std.specs.Int.{w64, byte_at, bytes_high_first, to_be_bytes}
use Rattle.std.proofs.lemmas.Nat.{mod_below, pow-add}
use Rattle.std.proofs.lemmas.Slice.{take-put_mid, drop-put_mid}
use Rattle.std.proofs.lemmas.List.Elements.{All-nil, All-cons}
use borrow.Rule.Slice.PartMut.{put_mid}
use Rattle.item_defs.specs.Bits.{bits_of, bits_of_octets, AreOctets}
use Rattle.item_defs.proofs.NumberBits.{bits_none, bits_of-mod, bits_of-split}
use Rattle.item_defs.proofs.OctetBits.{no_octets, octets_first}
use Rattle.bit_pipe.specs.Fills.{Fills}

pub octets_wide : (k : ℕ) → 256 ^ k ≡ 2 ^ (8 * k)
octets_wide zero = refl
octets_wide (suc k) =
    let more : 8 * k + 8 ≡ 8 * suc k = omega arith in
    pow-suc 256 k ∙ ap (λ m. m * 256) (octets_wide k) ∙ sym (pow-add 2 (8 * k) 8) ∙ ap (λ w. 2 ^ w) more

octet_is : (i n : ℕ) → byte_at i n ≡ n / 2 ^ (8 * i) % 2 ^ 8
octet_is zero n = let e : n / 2 ^ 0 ≡ n = omega arith in ap (λ m. m % 256) (sym e)
octet_is (suc i) n = ap (λ m. n / m % 256) (octets_wide (suc i))

-- the lowest octets of a number have its lowest bits
pub octets_bits : (k n : ℕ) → bits_of_octets (bytes_high_first k n) ≡ bits_of (8 * k) n
octets_bits zero n = no_octets ∙ sym (bits_none n)
octets_bits (suc k) n =
    let more : 8 + 8 * k ≡ 8 * suc k = omega arith in
    octets_first (byte_at k n) (bytes_high_first k n)
    ∙ ap (λ r. bits_of 8 (byte_at k n) ++ r) (octets_bits k n)
    ∙ ap (λ r. r ++ bits_of (8 * k) n) (ap (bits_of 8) (octet_is k n) ∙ bits_of-mod 8 (n / 2 ^ (8 * k)))
    ∙ sym (bits_of-split 8 (8 * k) n)
    ∙ ap (λ w. bits_of w n) more

pub are_octets : (k n : ℕ) → AreOctets (bytes_high_first k n)
are_octets zero n = All-nil (λ m. m < 256)
are_octets (suc k) n = All-cons (λ m. m < 256) (byte_at k n) (bytes_high_first k n) (rw (octet_is k n) (mod_below (n / 2 ^ (8 * k)) 256 (omega arith)))
    (are_octets k n)

pub length-octets : (k n : ℕ) → length (bytes_high_first k n) ≡ k
length-octets zero n = refl
length-octets (suc k) n = ap suc (length-octets k n)

-- a word adds eight octets to a slice
pub fills_word : (name name' len faults k word : ℕ) (slice octets : List ℕ) → name' ≡ name → octets ≡ to_be_bytes w64 word → k ≡ 8 → len + 8 ≤ length slice →
    Fills (record { name = name; slice = slice; len = len; faults = faults }) (record {
      name = name';
      slice = put_mid len k slice octets;
      len =
          len + 8;
      faults = faults;
    }) (to_be_bytes w64 word)
fills_word name name' len faults k word slice octets e f g le =
    let eight : length octets ≡ 8 = ap length f ∙ length-octets 8 word in
    let prefix : take (len + 8) (put_mid len k slice octets) ≡ take len slice ++ octets =
    take-put_mid len k slice octets (len + 8) (omega (arith, eight)) (omega arith) in
    let rest : drop (len + 8) (put_mid len k slice octets) ≡ drop (len + 8) slice =
    drop-put_mid len k slice octets (len + 8) (omega arith) (omega arith) (omega (arith, eight, g)) in
    let whole : length (put_mid len k slice octets) ≡ length slice =
    simp (length-append, length-drop) (omega (arith, eight, g, length-take-le len slice (omega arith))) in
    record {
      name = e;
      len = omega (arith, length-octets 8 word);
      prefix = prefix ∙ ap (λ r. take len slice ++ r) f;
      rest = rest;
      size = whole;
      faults = refl;
    }

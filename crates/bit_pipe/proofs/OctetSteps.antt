-- Octets of a number and octets of zeros, one more at a time.
use Rattle.std.proofs.Common.{◌≡◌, ℕ, ◌+◌, ◌-◌, ◌*◌, ◌/◌, ◌%◌, ◌^◌, ◌<◌, ◌≤◌, [], ◌++◌, false, sym, ap, subst, ◌∙◌, append_assoc, arith, bit_and, Result}
use Rattle.std.proofs.Common.{Ok, Err}
use Rattle.std.proofs.lemmas.Nat.{and_mask, mod_below, one_shl, pow_pos}
use Rattle.item_defs.specs.Bits.{bits_of, copies}
use Rattle.item_defs.proofs.BitLists.{copies_none, copies_then, length-copies}
use Rattle.item_defs.proofs.NumberBits.{bits_none, bits_of-mod, bits_of-split, bits_of_zero, bits_between, bits_join, length-bits_of}
use Rattle.bit_pipe.specs.Sinks.{SinkOf, GaveOctet, BrokeOctet, GaveBits, BrokeBits, PutsOctets}
use Rattle.bit_pipe.proofs.Giving.{gives_none, gives_octet, gives_then, breaks_octet, broke_then, broke_more}

low_octet : (n : ℕ) → bit_and n 255 ≡ n % 2 ^ 8
low_octet n = and_mask n 8

no_bits : (n x : ℕ) → n ≡ 0 → bits_of n x ≡ []
no_bits n x e = ap (λ k. bits_of k x) e ∙ bits_none x

-- the octet that the code takes at a place
octet_at : (left x : ℕ) → 8 ≤ left → bits_of 8 (bit_and (x / 2 ^ (left - 8)) 255) ≡ bits_of (left - (left - 8)) (x / 2 ^ (left - 8))
octet_at left x le =
    let eight : left - (left - 8) ≡ 8 = omega arith in
    ap (bits_of 8) (low_octet (x / 2 ^ (left - 8))) ∙ bits_of-mod 8 (x / 2 ^ (left - 8)) ∙ ap (λ k. bits_of k (x / 2 ^ (left - 8))) (sym eight)

one_more : (count left x : ℕ) → 8 ≤ left → left ≤ count → bits_of (count - left) (x / 2 ^ left) ++ bits_of 8 (bit_and (x / 2 ^ (left - 8)) 255)
    ≡ bits_of (count - (left - 8)) (x / 2 ^ (left - 8))
one_more count left x p q =
    ap (λ r. bits_of (count - left) (x / 2 ^ left) ++ r) (octet_at left x p) ∙ bits_between count left (left - 8) x (omega arith) q

octet_small : (n : ℕ) → bit_and n 255 < 256
octet_small n = omega (arith, low_octet n, mod_below n 256 (omega arith))

-- the bits that wait: those of whole octets, and those after them
pending_parts : (filled pending : ℕ) → bits_of (filled - filled % 8) (pending / 2 ^ (filled % 8))
    ++ (bits_of (filled % 8) pending ++ copies ((8 - filled % 8) % 8) false) ≡ bits_of filled pending ++ copies ((8 - filled % 8) % 8) false
pending_parts filled pending =
    let whole : (filled - filled % 8) + filled % 8 ≡ filled = omega arith in
    sym (append_assoc (bits_of (filled - filled % 8) (pending / 2 ^ (filled % 8))) (bits_of (filled % 8) pending) (copies ((8 - filled % 8) % 8) false))
    ∙ ap (λ r. r ++ copies ((8 - filled % 8) % 8) false) (sym (bits_of-split (filled - filled % 8) (filled % 8) pending) ∙ ap (λ n. bits_of n pending) whole)

mask_of : (filled pending : ℕ) → bit_and pending ((1 * 2 ^ (filled % 8)) % 2 ^ 64 - 1) ≡ pending % 2 ^ (filled % 8)
mask_of filled pending =
    let one : (1 * 2 ^ (filled % 8)) % 2 ^ 64 ≡ 2 ^ (filled % 8) = one_shl (filled % 8) 64 (omega arith) in
    ap (λ m. bit_and pending (m - 1)) one ∙ and_mask pending (filled % 8)

pub pending_fits : (filled pending : ℕ) → bit_and pending ((1 * 2 ^ (filled % 8)) % 2 ^ 64 - 1) < 2 ^ (filled % 8)
pending_fits filled pending = rw (mask_of filled pending) (mod_below pending (2 ^ (filled % 8)) (pow_pos (filled % 8)))

pending_all : (filled pending : ℕ) → bits_of (filled - filled % 8) (pending / 2 ^ (filled % 8))
    ++ (bits_of (filled % 8) (bit_and pending ((1 * 2 ^ (filled % 8)) % 2 ^ 64 - 1)) ++ copies ((8 - filled % 8) % 8) false) ≡ bits_of filled pending
    ++ copies ((8 - filled % 8) % 8) false
pending_all filled pending =
    let kept : bits_of (filled % 8) (bit_and pending ((1 * 2 ^ (filled % 8)) % 2 ^ 64 - 1)) ≡ bits_of (filled % 8) pending =
    ap (bits_of (filled % 8)) (mask_of filled pending) ∙ bits_of-mod (filled % 8) pending in
    ap (λ r. bits_of (filled - filled % 8) (pending / 2 ^ (filled % 8)) ++ (r ++ copies ((8 - filled % 8) % 8) false)) kept ∙ pending_parts filled pending

module _ {S : Type 0} (k : SinkOf S) where
  pub number_start : (s : S) (n x : ℕ) → n ≡ 0 → GaveBits k s s (bits_of n x)
  number_start s n x e = subst (GaveBits k s s) (sym (no_bits n x e)) (gives_none k s)

  pub number_more : {a b c : S} (count left x : ℕ) → 8 ≤ left → left ≤ count → GaveBits k a b (bits_of (count - left) (x / 2 ^ left)) →
      GaveOctet k b c (bit_and (x / 2 ^ (left - 8)) 255) → GaveBits k a c (bits_of (count - (left - 8)) (x / 2 ^ (left - 8)))
  number_more {a} {b} {c} count left x p q h o =
      subst (GaveBits k a c) (one_more count left x p q) (gives_then k h (gives_octet k _ (octet_small (x / 2 ^ (left - 8))) o))

  pub number_broke : {a b c : S} (count left x : ℕ) → 8 ≤ left → left ≤ count → left % 8 ≡ count % 8 → GaveBits k a b (bits_of (count - left) (x / 2 ^ left)) →
      BrokeOctet k b c (bit_and (x / 2 ^ (left - 8)) 255) → BrokeBits k a c (bits_of (count - count % 8) (x / 2 ^ (count % 8)))
  number_broke {a} {b} {c} count left x p q same h o =
      let rest = bits_of ((left - 8) - count % 8) (x / 2 ^ (count % 8)) in
      let broke : BrokeBits k a c (bits_of (count - (left - 8)) (x / 2 ^ (left - 8))) =
      subst (BrokeBits k a c) (one_more count left x p q) (broke_then k h (breaks_octet k _ (octet_small (x / 2 ^ (left - 8))) o)) in
      let le : count % 8 ≤ left - 8 = omega (arith, same) in
      subst (BrokeBits k a c) (bits_between count (left - 8) (count % 8) x le (omega arith)) (broke_more k rest broke)

  pub number_room : {a b : S} (count left x : ℕ) → 8 ≤ left → left ≤ count → 8 * (k.counts a).given + count ≤ 2 ^ 35 →
      GaveBits k a b (bits_of (count - left) (x / 2 ^ left)) → (k.counts b).given < 2 ^ 32
  number_room count left x p q r h = omega (arith, h.given, length-bits_of (count - left) (x / 2 ^ left))

  -- all octets of a word
  pub number_all : {a b : S} (left x : ℕ) → left ≡ 0 → GaveBits k a b (bits_of (64 - left) (x / 2 ^ left)) → GaveBits k a b (bits_of 64 x)
  number_all {a} {b} left x e h =
      let one : x / 2 ^ 0 ≡ x = omega arith in
      subst (GaveBits k a b) (ap (λ n. bits_of (64 - n) (x / 2 ^ n)) e ∙ ap (bits_of 64) one) h

  pub number_all_broke : {a b : S} (x : ℕ) → BrokeBits k a b (bits_of (64 - 64 % 8) (x / 2 ^ (64 % 8))) → BrokeBits k a b (bits_of 64 x)
  number_all_broke {a} {b} x h =
      let one : x / 2 ^ 0 ≡ x = omega arith in
      subst (BrokeBits k a b) (ap (bits_of 64) one) h

  -- ---- zeros

  pub zeros_start : (s : S) → GaveBits k s s (copies (8 * 0) false)
  zeros_start s = subst (GaveBits k s s) (sym (copies_none false)) (gives_none k s)

  pub zeros_more : {a b c : S} (n : ℕ) → GaveBits k a b (copies (8 * n) false) → GaveOctet k b c 0 → GaveBits k a c (copies (8 * (n + 1)) false)
  zeros_more {a} {b} {c} n h o =
      let e : copies (8 * n) false ++ bits_of 8 0 ≡ copies (8 * (n + 1)) false =
      ap (λ r. copies (8 * n) false ++ r) (bits_of_zero 8) ∙ copies_then (8 * n) 8 false ∙ ap (λ m. copies m false) (omega arith) in
      subst (GaveBits k a c) e (gives_then k h (gives_octet k 0 (omega arith) o))

  pub zeros_broke : {a b c : S} (n count : ℕ) → n < count → GaveBits k a b (copies (8 * n) false) → BrokeOctet k b c 0 →
      BrokeBits k a c (copies (8 * count) false)
  zeros_broke {a} {b} {c} n count lt h o =
      let rest = copies (8 * (count - (n + 1))) false in
      let e : (copies (8 * n) false ++ bits_of 8 0) ++ rest ≡ copies (8 * count) false =
      ap (λ r. (copies (8 * n) false ++ r) ++ rest) (bits_of_zero 8) ∙ ap (λ r. r ++ rest) (copies_then (8 * n) 8 false) ∙ copies_then (8 * n + 8)
      (8 * (count - (n + 1))) false ∙ ap (λ m. copies m false) (omega arith) in
      subst (BrokeBits k a c) e (broke_more k rest (broke_then k h (breaks_octet k 0 (omega arith) o)))

  pub zeros_room : {a b : S} (n count : ℕ) → n < count → (k.counts a).given + count ≤ 2 ^ 32 → GaveBits k a b (copies (8 * n) false) →
      (k.counts b).given < 2 ^ 32
  zeros_room n count lt r h = omega (arith, h.given, length-copies (8 * n) false)

  -- ---- the last octet

  last_bits : (filled pending : ℕ) → 0 < filled → filled < 8 → bits_of 8 (pending * 2 ^ (8 - filled)) ≡ bits_of filled pending
      ++ copies ((8 - filled) % 8) false
  last_bits filled pending some lt =
      let zeros : (8 - filled) % 8 ≡ 8 - filled = omega arith in
      let whole : filled + (8 - filled) ≡ 8 = omega arith in
      let plus : pending * 2 ^ (8 - filled) + 0 ≡ pending * 2 ^ (8 - filled) = omega arith in
      let below : 0 < 2 ^ (8 - filled) = pow_pos (8 - filled) in
      sym (ap (λ n. bits_of filled pending ++ copies n false) zeros ∙ ap (λ r. bits_of filled pending ++ r) (sym (bits_of_zero (8 - filled))) ∙ bits_join
      filled (8 - filled) pending 0 below ∙ ap (λ n. bits_of n (pending * 2 ^ (8 - filled) + 0)) whole ∙ ap (bits_of 8) plus)

  pub last_none : (s : S) (filled pending : ℕ) → filled ≡ 0 → GaveBits k s s (bits_of filled pending ++ copies ((8 - filled) % 8) false)
  last_none s filled pending e =
      let zeros : (8 - filled) % 8 ≡ 0 = omega arith in
      let nothing : bits_of filled pending ++ copies ((8 - filled) % 8) false ≡ [] =
      ap (λ r. r ++ copies ((8 - filled) % 8) false) (no_bits filled pending e) ∙ ap (λ n. copies n false) zeros ∙ copies_none false in
      subst (GaveBits k s s) (sym nothing) (gives_none k s)

  pub last_gave : {a b : S} (filled pending octet : ℕ) → 0 < filled → filled < 8 → pending < 2 ^ filled → octet ≡ pending * 2 ^ (8 - filled) % 2 ^ 8 →
      GaveOctet k a b octet →
      GaveBits k a b (bits_of filled pending ++ copies ((8 - filled) % 8) false)
  last_gave {a} {b} filled pending octet some lt fits e o =
      let small : octet < 256 = omega (arith, e, mod_below (pending * 2 ^ (8 - filled)) 256 (omega arith)) in
      let same : bits_of 8 octet ≡ bits_of 8 (pending * 2 ^ (8 - filled)) = ap (bits_of 8) e ∙ bits_of-mod 8 (pending * 2 ^ (8 - filled)) in
      subst (GaveBits k a b) (same ∙ last_bits filled pending some lt) (gives_octet k octet small o)

  pub last_broke : {a b : S} (filled pending octet : ℕ) → 0 < filled → filled < 8 → pending < 2 ^ filled → octet ≡ pending * 2 ^ (8 - filled) % 2 ^ 8 →
      BrokeOctet k a b octet →
      BrokeBits k a b (bits_of filled pending ++ copies ((8 - filled) % 8) false)
  last_broke {a} {b} filled pending octet some lt fits e o =
      let small : octet < 256 = omega (arith, e, mod_below (pending * 2 ^ (8 - filled)) 256 (omega arith)) in
      let same : bits_of 8 octet ≡ bits_of 8 (pending * 2 ^ (8 - filled)) = ap (bits_of 8) e ∙ bits_of-mod 8 (pending * 2 ^ (8 - filled)) in
      subst (BrokeBits k a b) (same ∙ last_bits filled pending some lt) (breaks_octet k octet small o)

  -- ---- what waits: its whole octets, and the bits after them

  pub pending_room : {a b : S} (filled pending : ℕ) → 8 * (k.counts a).given + filled ≤ 2 ^ 35 →
      GaveBits k a b (bits_of (filled - filled % 8) (pending / 2 ^ (filled % 8))) → 8 * (k.counts b).given + filled % 8 ≤ 2 ^ 35
  pending_room filled pending r h = omega (arith, h.given, length-bits_of (filled - filled % 8) (pending / 2 ^ (filled % 8)))

  pub pending_broke : {a b : S} (filled pending : ℕ) → BrokeBits k a b (bits_of (filled - filled % 8) (pending / 2 ^ (filled % 8))) →
      BrokeBits k a b (bits_of filled pending ++ copies ((8 - filled % 8) % 8) false)
  pending_broke {a} {b} filled pending h =
      let rest = bits_of (filled % 8) pending ++ copies ((8 - filled % 8) % 8) false in
      subst (BrokeBits k a b) (pending_parts filled pending) (broke_more k rest h)

  pub pending_puts : {T E : Type 0} {a b : S} (c : S) (filled pending : ℕ) (r : Result T E) →
      GaveBits k a b (bits_of (filled - filled % 8) (pending / 2 ^ (filled % 8))) →
      PutsOctets k r b c (bits_of (filled % 8) (bit_and pending ((1 * 2 ^ (filled % 8)) % 2 ^ 64 - 1)) ++ copies ((8 - filled % 8) % 8) false) →
      PutsOctets k r a c (bits_of filled pending ++ copies ((8 - filled % 8) % 8) false)
  pending_puts {a = a} {b} c filled pending (Ok x) h o = subst (GaveBits k a c) (pending_all filled pending) (gives_then k h o)
  pending_puts {a = a} {b} c filled pending (Err x) h o = subst (BrokeBits k a c) (pending_all filled pending) (broke_then k h o)

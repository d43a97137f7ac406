-- Octets given one after another.
use Rattle.std.proofs.Common.{ℕ, ◌<◌, ◌≤◌, List, [], ◌∷◌, ◌++◌, Bool, sym, ap, ◌∙◌, append_assoc, arith, length-append, Result, Ok, Err, IsErr, append-nil}
use Rattle.item_defs.specs.Bits.{bits_of, bits_of_octets}
use Rattle.item_defs.proofs.NumberBits.{length-bits_of}
use Rattle.item_defs.proofs.OctetBits.{no_octets, octets_one, octets_append, octets_nil, octets_both, octet_alone}
use Rattle.bit_pipe.specs.Sinks.{SinkOf, Rose, GaveOctet, BrokeOctet, GaveBits, BrokeBits, PutsOctets}

pub rose_since : (a b c : ℕ) → a ≤ b → Rose b c → Rose a c
rose_since a b c p q = omega (arith, q)

module _ {S : Type 0} (k : SinkOf S) where
  pub gives_none : (s : S) → GaveBits k s s []
  gives_none s = record { octets = []; small = octets_nil; spell = sym no_octets; gave = k.gave_none s; given = omega arith; faults = omega arith }

  pub gives_octet : {a b : S} (octet : ℕ) → octet < 256 → GaveOctet k a b octet → GaveBits k a b (bits_of 8 octet)
  gives_octet octet lt p = record {
    octets = octet ∷ [];
    small = octet_alone octet lt;
    spell = sym (octets_one octet);
    gave = p.gave;
    given = omega (arith, p.given, length-bits_of 8 octet);
    faults = p.faults;
  }

  pub gives_then : {a b c : S} {xs ys : List Bool} → GaveBits k a b xs → GaveBits k b c ys → GaveBits k a c (xs ++ ys)
  gives_then {a} {b} {c} {xs} {ys} p q = record {
    octets = p.octets ++ q.octets;
    small = octets_both p.octets q.octets p.small q.small;
    spell = ap (λ r. r ++ ys) p.spell ∙ ap (λ r. bits_of_octets p.octets ++ r) q.spell ∙ sym (octets_append p.octets q.octets);
    gave = k.gave_both a b c p.octets q.octets p.gave q.gave;
    given = omega (arith, p.given, q.given, length-append xs ys);
    faults = omega (arith, p.faults, q.faults);
  }

  pub breaks_octet : {a b : S} (octet : ℕ) → octet < 256 → BrokeOctet k a b octet → BrokeBits k a b (bits_of 8 octet)
  breaks_octet octet lt p = record {
    octets = octet ∷ [];
    small = octet_alone octet lt;
    more = [];
    spell = sym (append-nil (bits_of_octets (octet ∷ [])) ∙ octets_one octet);
    broke = p.broke;
    rose = p.rose;
  }

  pub broke_then : {a b c : S} {xs ys : List Bool} → GaveBits k a b xs → BrokeBits k b c ys → BrokeBits k a c (xs ++ ys)
  broke_then {a} {b} {c} {xs} {ys} p q = record {
    octets = p.octets ++ q.octets;
    small = octets_both p.octets q.octets p.small q.small;
    more = q.more;
    spell = ap (λ r. r ++ ys) p.spell ∙ ap (λ r. bits_of_octets p.octets ++ r) q.spell
        ∙ sym (append_assoc (bits_of_octets p.octets) (bits_of_octets q.octets) q.more) ∙ ap (λ r. r ++ q.more) (sym (octets_append p.octets q.octets));
    broke = k.broke_after a b c p.octets q.octets p.gave q.broke;
    rose = rose_since (k.counts a).faults (k.counts b).faults (k.counts c).faults p.faults q.rose;
  }

  -- a call that failed while bits were given failed as well while these bits and more were given
  pub broke_more : {a b : S} {xs : List Bool} (ys : List Bool) → BrokeBits k a b xs → BrokeBits k a b (xs ++ ys)
  broke_more {a} {b} {xs} ys p = record {
    octets = p.octets;
    small = p.small;
    more = p.more ++ ys;
    spell = ap (λ r. r ++ ys) p.spell ∙ append_assoc (bits_of_octets p.octets) p.more ys;
    broke = p.broke;
    rose = p.rose;
  }

-- the call for an octet failed, and so did the call that made it
pub puts_broke : {S T E : Type 0} {k : SinkOf S} {a b : S} {xs : List Bool} (r : Result T E) → IsErr r → BrokeBits k a b xs → PutsOctets k r a b xs
puts_broke (Ok x) e p = absurd cc
puts_broke (Err x) e p = p

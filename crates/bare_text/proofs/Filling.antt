-- Octets taken into places one after another.
use Rattle.std.proofs.Common.{◌≡◌, ℕ, ◌+◌, ◌<◌, ◌≤◌, List, [], ◌∷◌, ◌++◌, length, take, ap, ◌∙◌, arith, append_assoc, length-append, Ok, Some, set}
use Rattle.std.proofs.lemmas.List.{take_more_set}
use Rattle.item_defs.specs.Bits.{AreOctets}
use Rattle.item_defs.proofs.OctetBits.{octets_both, octet_alone}
use Rattle.bit_pipe.specs.Sources.{SourceOf, Arrives, GivesOctet}
use Rattle.bit_pipe.proofs.Taking.{arrives_then}

-- the places from one on and before another have the octets that were taken
pub record Filled {I : Type 0} (k : SourceOf I) (from place : ℕ) (old new : I) (before after : List ℕ) : Type 0 where
  pub octets : List ℕ
  pub long : place ≡ from + length octets
  pub small : AreOctets octets
  pub came : Arrives (k.tail old) (k.tail new) octets
  pub faults : k.faults old ≤ k.faults new
  pub went : k.Went old new
  pub places : take place after ≡ take from before ++ octets
  pub size : length after ≡ length before

module _ {I : Type 0} {k : SourceOf I} where
  pub one_filled : {from place : ℕ} {a b c : I} {before after : List ℕ} (octet : ℕ) → place < length after → Filled k from place a b before after →
      GivesOctet k (Ok (Some octet)) b c →
      (later : List ℕ) → later ≡ set after place octet → length later ≡ length after → Filled k from (place + 1) a c before later
  one_filled {from} {place} {a} {b} {c} {before} {after} octet lt p q later e size = record {
    octets = p.octets ++ octet ∷ [];
    long = omega (arith, p.long, length-append p.octets (octet ∷ []));
    small = octets_both p.octets (octet ∷ []) p.small (octet_alone octet q.ends.1);
    came = arrives_then (k.tail a) (k.tail b) (k.tail c) p.octets (octet ∷ []) p.came q.ends.0;
    faults = omega (arith, p.faults, q.faults);
    went = k.went_both a b c p.went q.went;
    places =
        ap (take (place + 1)) e ∙ take_more_set after place octet lt ∙ ap (λ l. l ++ octet ∷ []) p.places
        ∙ append_assoc (take from before) p.octets (octet ∷ []);
    size = size ∙ p.size;
  }

-- Octets asked for one after another.
use Rattle.std.proofs.Common.{◌≡◌, ℕ, ◌+◌, ◌*◌, ◌/◌, ◌%◌, ◌<◌, ◌≤◌, min, List, [], ◌∷◌, ◌++◌, length, refl, ap, ◌∙◌, arith, length-append, Result, Ok, Some}
use Rattle.std.proofs.lemmas.Grind.{div_ceil_times}
use Rattle.item_defs.specs.Bits.{AreOctets}
use Rattle.item_defs.specs.Padding.{rounded}
use Rattle.item_defs.proofs.Rounding.{rounded_is}
use Rattle.item_defs.proofs.OctetBits.{octets_both, octet_alone}
use Rattle.bit_pipe.specs.declared.fault.Part.{Part}
use Rattle.bit_pipe.specs.Sources.{SourceOf, Arrives, GivesOctet}
use Rattle.bit_pipe.proofs.Taking.{arrives_then}
use Rattle.segment_code.specs.declared.fault.SegmentFault.{SegmentFault}
use Rattle.segment_code.specs.TextEnds.{EndsLength, Passes}

-- this number of octets was read
pub record HaveArrived {I : Type 0} (k : SourceOf I) (count : ℕ) (old new : I) : Type 0 where
  pub octets : List ℕ
  pub long : length octets ≡ count
  pub small : AreOctets octets
  pub came : Arrives (k.tail old) (k.tail new) octets
  pub faults : k.faults old ≤ k.faults new
  pub went : k.Went old new

module _ {I : Type 0} {k : SourceOf I} where
  pub one_came : {a b c : I} {n octet : ℕ} → HaveArrived k n a b → GivesOctet k (Ok (Some octet)) b c → HaveArrived k (n + 1) a c
  one_came {a} {b} {c} {n} {octet} p q = record {
    octets = p.octets ++ octet ∷ [];
    long = omega (arith, p.long, length-append p.octets (octet ∷ []));
    small = octets_both p.octets (octet ∷ []) p.small (octet_alone octet q.ends.1);
    came = arrives_then (k.tail a) (k.tail b) (k.tail c) p.octets (octet ∷ []) p.came q.ends.0;
    faults = omega (arith, p.faults, q.faults);
    went = k.went_both a b c p.went q.went;
  }

  ends_so : {a b : I} {n : ℕ} (p : HaveArrived k n a b) (count : ℕ) (part : Part) (r : Result Part SegmentFault) → EndsLength k count part r p.octets a b →
      Passes k count part r a b
  ends_so p count part r e = record { octets = p.octets; small = p.small; came = p.came; faults = p.faults; went = p.went; ends = e }

  -- all of them were read
  pub ends_there : {a b : I} (n count : ℕ) (part : Part) → n ≡ count → HaveArrived k n a b → Passes k count part (Ok part) a b
  ends_there n count part same p = ends_so p count part (Ok part) (refl, p.long ∙ same)

-- ---- the expected length

pub rounded_octets : (word used ceiling a b : ℕ) → 0 < word → a ≡ word → b ≡ word → ceiling ≡ used / (8 * a) + min 1 (used % (8 * a)) → 8 *
    (ceiling * b) ≡ rounded (8 * word) used
rounded_octets word used ceiling a b some f g h =
    let unit = 8 * word in
    let c : ceiling ≡ used / unit + min 1 (used % unit) = h ∙ ap (λ n. used / (8 * n) + min 1 (used % (8 * n))) f in
    let bounds = div_ceil_times used unit (omega arith) in
    let turned : 8 * (ceiling * b) ≡ ceiling * unit = rw g (grind arith) in
    turned ∙ ap (λ n. n * unit) c ∙ rounded_is unit used (used / unit + min 1 (used % unit)) (omega arith) bounds.0 bounds.1

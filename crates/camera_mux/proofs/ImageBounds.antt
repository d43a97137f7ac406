-- The counts of an image are at most the octets of all packets.
use Rattle.std.proofs.Common.{◌≡◌, ◌≤◌, ℕ, List, [], ◌∷◌, length, sym, subst, inl, inr, arith, Bool, true, false, cond, filter, sum_by}
use Rattle.std.specs.List.{AllByRecursion}
use Rattle.std.proofs.lemmas.List.Sums.{sum_by-cons, count_by-le-length}
use Rattle.std.proofs.lemmas.List.Concat.{length-flat_map}
use Rattle.packet_defs.specs.Packets.{joined}
use Rattle.packet_defs.specs.Reading.{flags_in}
use Rattle.packet_defs.specs.Streams.{IsPacket}
use Rattle.packet_defs.proofs.Splits.{few_packets}
use Rattle.stream_defs.specs.declared.fate.FateState.{FateState}
use Rattle.stream_defs.specs.Fates.{fresh, closes, after, kept}
use Rattle.stream_defs.proofs.KeptOrder.{does}
use Rattle.camera_mux.specs.declared.image.ImageId.{ImageId}
use Rattle.camera_mux.specs.Images.{own_packets, kept_of, count_of}
use Rattle.camera_mux.specs.ImageSteps.{CountsBelow}
use Rattle.camera_mux.proofs.OneImage.{is_own}
use Rattle.stream_defs.proofs.Equations.{kept-none}

abbrev octets_of : List (List ℕ) → ℕ
octets_of packets = sum_by length packets

-- the first packets are at most as numerous as the second ones, and have at most their octets
record AreFewer (xs ys : List (List ℕ)) : Type 0 where
  number : length xs ≤ length ys
  octets : octets_of xs ≤ octets_of ys

both_more : (x : List ℕ) (xs ys : List (List ℕ)) → AreFewer xs ys → AreFewer (x ∷ xs) (x ∷ ys)
both_more x xs ys f = record {
  number = (let n = f.number in omega (arith, n));
  octets = (let n = f.octets in omega (arith, n, sum_by-cons length x xs, sum_by-cons length x ys));
}

one_more : (x : List ℕ) (xs ys : List (List ℕ)) → AreFewer xs ys → AreFewer xs (x ∷ ys)
one_more x xs ys f = record {
  number = (let n = f.number in omega (arith, n));
  octets = (let n = f.octets in omega (arith, n, sum_by-cons length x ys));
}

fewer_own : (p : List ℕ → Bool) (packets : List (List ℕ)) → AreFewer (filter p packets) packets
fewer_own p [] = record { number = omega arith; octets = omega arith }
fewer_own p (x ∷ packets) = by (p x) (fewer_own p packets)
  where
    by : (b : Bool) → AreFewer (filter p packets) packets → AreFewer (cond b (x ∷ filter p packets) (filter p packets)) (x ∷ packets)
    by true f = both_more x (filter p packets) packets f
    by false f = one_more x (filter p packets) packets f

fewer_kept : (apid : ℕ) (s : FateState) (packets : List (List ℕ)) → AreFewer (kept apid s packets) packets
fewer_kept apid s [] = rw kept-none record { number = omega arith; octets = omega arith }
fewer_kept apid s (x ∷ xs) = elim (does apid s x) [
  | inl lost ↦ subst (λ ks. AreFewer ks (x ∷ xs)) (sym (lost.kept_are xs)) (one_more x _ xs (fewer_kept apid (after apid s x) xs))
  | inr here ↦ elim here [
    | inl first ↦ subst (λ ks. AreFewer ks (x ∷ xs)) (sym (first.kept_are xs)) (both_more x _ xs (fewer_kept apid (after apid s x) xs))
    | inr next ↦ subst (λ ks. AreFewer ks (x ∷ xs)) (sym (next.kept_are xs)) (both_more x _ xs (fewer_kept apid (after apid s x) xs))
  ]
]

pub counts_below : (id : ImageId) (packets : List (List ℕ)) → AllByRecursion IsPacket packets →
    CountsBelow (count_of (kept_of id packets)) (length (joined packets))
counts_below id packets whole =
    let own = fewer_own (is_own id) packets in
    let few = fewer_kept id.apid fresh (own_packets id packets) in
    let all = few_packets packets whole in
    let octets : length (joined packets) ≡ octets_of packets = length-flat_map (λ (packet : List ℕ). packet) packets in
    record {
      packets = (let a = own.number in let b = few.number in omega (arith, a, b, all));
      octets_are = (let a = own.octets in let b = few.octets in omega (arith, a, b, octets));
      received = (let a = own.number in let b = few.number in omega (
        arith,
        a,
        b,
        all,
        count_by-le-length (λ packet. closes (flags_in packet))
            (kept_of id packets),
      ));
    }

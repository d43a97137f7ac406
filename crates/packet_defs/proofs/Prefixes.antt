-- Octets that begin with a packet.
use Rattle.std.proofs.Common.{◌≡◌, ◌≤◌, ◌<◌, ℕ, List, ◌++◌, length, take, drop, refl, sym, ap, ◌∙◌, arith, length-append, length-take, Bool, true, false}
use Rattle.std.proofs.Common.{slice_index, nat_le, ◌&&◌, not, leb-true}
use Rattle.std.proofs.lemmas.Bool.Decides.{nat_tests}
use Rattle.std.proofs.lemmas.List.{length-take-le, take-append-drop, get_or-drop, get_or_append_left, take_at, drop_at}
use Rattle.packet_defs.specs.Reading.{header_length}
use Rattle.packet_defs.specs.Streams.{has_bad_version, reported_length, begins_packet, first_packet, after_packet, IsPacket}

-- a packet's header, and all of it, are a prefix of these octets
pub record Begins (octets : List ℕ) : Type 0 where
  pub version : has_bad_version octets ≡ false
  pub header : 6 ≤ length octets
  pub whole : reported_length octets ≤ length octets

and_true : (a b c : Bool) → (not a && (b && c)) ≡ true → (a ≡ false) × (b ≡ true) × (c ≡ true)
and_true true b c e = grind (arith, nat_tests)
and_true false true true e = (refl, refl, refl)
and_true false true false e = grind (arith, nat_tests)
and_true false false c e = grind (arith, nat_tests)

pub begins_so : (octets : List ℕ) → begins_packet octets ≡ true → Begins octets
unfolding begins_packet
begins_so octets e =
    let parts = and_true (has_bad_version octets) (nat_le header_length (length octets)) (nat_le (reported_length octets) (length octets)) e in
    record { version = parts.0; header = leb-true 6 (length octets) parts.1; whole = leb-true (reported_length octets) (length octets) parts.2 }

pub so_begins : (octets : List ℕ) → Begins octets → begins_packet octets ≡ true
unfolding begins_packet
so_begins octets b = let v = b.version in let h = b.header in let w = b.whole in grind (arith, nat_tests)

-- a header reports the same whatever octets follow
pub if_known-append : (xs ys : List ℕ) → 6 ≤ length xs → reported_length (xs ++ ys) ≡ reported_length xs
unfolding reported_length
if_known-append xs ys long =
    let a : slice_index (drop 4 (xs ++ ys)) 0 ≡ slice_index (drop 4 xs) 0 = grind (arith, get_or-drop, get_or_append_left) in
    let b : slice_index (drop 4 (xs ++ ys)) 1 ≡ slice_index (drop 4 xs) 1 = grind (arith, get_or-drop, get_or_append_left) in
    omega (arith, a, b)

pub if_known-take : (n : ℕ) (xs : List ℕ) → 6 ≤ n → 6 ≤ length xs → reported_length (take n xs) ≡ reported_length xs
if_known-take n xs few long =
    let e : reported_length (take n xs ++ drop n xs) ≡ reported_length (take n xs) =
    if_known-append (take n xs) (drop n xs) (omega (arith, length-take n xs)) in
    sym e ∙ ap reported_length (take-append-drop n xs)

pub known_least : (xs : List ℕ) → 7 ≤ reported_length xs
unfolding reported_length
known_least xs = omega arith

pub version-append : (xs ys : List ℕ) → 0 < length xs → has_bad_version (xs ++ ys) ≡ has_bad_version xs
version-append xs ys some = let e : slice_index (xs ++ ys) 0 ≡ slice_index xs 0 = get_or_append_left xs ys 0 0 some in ap (λ (octet : ℕ). nat_le 32 octet) e

pub version-take : (n : ℕ) (xs : List ℕ) → 0 < n → 0 < length xs → has_bad_version (take n xs) ≡ has_bad_version xs
version-take n xs few some =
    let e : has_bad_version (take n xs ++ drop n xs) ≡ has_bad_version (take n xs) = version-append (take n xs) (drop n xs) (omega (arith, length-take n xs)) in
    sym e ∙ ap has_bad_version (take-append-drop n xs)

-- octets that begin with a packet do so whatever follows
pub begins-append : {xs : List ℕ} (ys : List ℕ) → Begins xs → Begins (xs ++ ys)
begins-append {xs = xs} ys b = record {
  version = version-append xs ys (omega (arith, b.header)) ∙ b.version;
  header = omega (arith, b.header, length-append xs ys);
  whole = omega (arith, b.whole, if_known-append xs ys b.header, length-append xs ys);
}

-- the octets that begin so are a packet
pub first_is_packet : {xs : List ℕ} → Begins xs → IsPacket (first_packet xs)
first_is_packet {xs = xs} b =
    let least = known_least xs in
    record {
      version = version-take (reported_length xs) xs (omega (arith, least)) (omega (arith, b.header)) ∙ b.version;
      whole = length-take-le (reported_length xs) xs b.whole ∙ sym (if_known-take (reported_length xs) xs (omega (arith, least)) b.header);
    }

-- a packet begins so
pub packet_begins : {packet : List ℕ} → IsPacket packet → Begins packet
packet_begins {packet = packet} p =
    let least = known_least packet in
    record { version = p.version; header = omega (arith, least, p.whole); whole = omega (arith, p.whole) }

-- whatever octets follow, it is the first
pub first-packet : {packet : List ℕ} (ys : List ℕ) → IsPacket packet → first_packet (packet ++ ys) ≡ packet
first-packet {packet = packet} ys p =
    let long : 6 ≤ length packet = (packet_begins p).header in
    ap (λ n. take n (packet ++ ys)) (if_known-append packet ys long ∙ sym p.whole) ∙ take_at packet ys (length packet) refl

pub after-packet : {packet : List ℕ} (ys : List ℕ) → IsPacket packet → after_packet (packet ++ ys) ≡ ys
after-packet {packet = packet} ys p =
    let long : 6 ≤ length packet = (packet_begins p).header in
    ap (λ n. drop n (packet ++ ys)) (if_known-append packet ys long ∙ sym p.whole) ∙ drop_at packet ys (length packet) refl

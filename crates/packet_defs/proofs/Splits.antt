-- A stream as its whole packets and what is left over.
use Rattle.std.proofs.Common.{◌≡◌, ◌≤◌, ◌+◌, ℕ, zero, suc, List, [], ◌∷◌, ◌++◌, length, drop, refl, sym, ap, subst, ◌∙◌, arith, append_assoc, length-append}
use Rattle.std.proofs.Common.{Bool, true, false, append-nil, take-append-drop, drop_at}
use Rattle.std.specs.List.{AllByRecursion}
use Rattle.packet_defs.specs.Packets.{joined}
use Rattle.packet_defs.specs.Streams.{reported_length, begins_packet, first_packet, after_packet, IsPacket, Splits, packets_within, whole_packets, left_over}
use Rattle.packet_defs.proofs.Prefixes.{begins_so, so_begins, begins-append, packet_begins, first-packet, after-packet, first_is_packet, known_least}

-- each packet has some octets, so there are at most as many packets as octets
pub few_packets : (packets : List (List ℕ)) → AllByRecursion IsPacket packets → length packets ≤ length (joined packets)
few_packets [] p = omega arith
few_packets (packet ∷ packets) p =
    let rest : length packets ≤ length (joined packets) = few_packets packets p.1 in
    let some = (packet_begins p.0).header in
    omega (arith, rest, some, length-append packet (joined packets))

step_taken : (most : ℕ) (octets : List ℕ) → begins_packet octets ≡ true → packets_within (suc most) octets ≡ first_packet octets
    ∷ packets_within most (after_packet octets)
unfolding packets_within
step_taken most octets e = rw e refl

step_none : (most : ℕ) (octets : List ℕ) → begins_packet octets ≡ false → packets_within most octets ≡ []
unfolding packets_within
step_none zero octets e = refl
step_none (suc most) octets e = rw e refl

-- whole packets before octets that begin with none are found
found : (most : ℕ) (packets : List (List ℕ)) (left : List ℕ) → AllByRecursion IsPacket packets → begins_packet left ≡ false → length packets ≤ most →
    packets_within most (joined packets ++ left) ≡ packets
found most [] left p none few = step_none most left none
found zero (packet ∷ packets) left p none few = absurd (omega (arith, few))
found (suc most) (packet ∷ packets) left p none few =
    let rest = joined packets ++ left in
    let parts : joined (packet ∷ packets) ++ left ≡ packet ++ rest = append_assoc packet (joined packets) left in
    let begins : begins_packet (packet ++ rest) ≡ true = so_begins (packet ++ rest) (begins-append rest (packet_begins p.0)) in
    ap (packets_within (suc most)) parts
    ∙ step_taken most (packet ++ rest) begins
    ∙ ap (λ x. x ∷ packets_within most (after_packet (packet ++ rest))) (first-packet rest p.0)
    ∙ ap (λ zs. packet ∷ packets_within most zs) (after-packet rest p.0)
    ∙ ap (λ ps. packet ∷ ps) (found most packets left p.1 none (omega (arith, few)))

-- the whole packets of a stream are the only ones that it splits into
pub splits_whole : {octets : List ℕ} {packets : List (List ℕ)} {left : List ℕ} → Splits octets packets left → whole_packets octets ≡ packets
splits_whole {octets = octets} {packets = packets} {left = left} s =
    let few : length packets ≤ length octets = omega (arith, few_packets packets s.packets_are, ap length s.octets_are, length-append (joined packets) left) in
    ap (packets_within (length octets)) s.octets_are ∙ found (length octets) packets left s.packets_are s.none_left few

-- and so is the rest
pub splits_left : {octets : List ℕ} {packets : List (List ℕ)} {left : List ℕ} → Splits octets packets left → left_over octets ≡ left
splits_left {octets = octets} {packets = packets} {left = left} s =
    ap (λ ps. drop (length (joined ps)) octets) (splits_whole s) ∙ ap (drop (length (joined packets))) s.octets_are ∙ drop_at (joined packets) left
    (length (joined packets)) refl

-- the first whole packets, and octets after them that begin with none
split_within : (most : ℕ) (octets : List ℕ) → length octets ≤ most → (left : List ℕ) × Splits octets (packets_within most octets) left
split_within most octets few = by_prefix most octets few (begins_packet octets) refl
  where
    by_prefix : (most : ℕ) (octets : List ℕ) → length octets ≤ most → (b : Bool) → begins_packet octets ≡ b →
        (left : List ℕ) × Splits octets (packets_within most octets) left
    by_prefix most octets few false e =
        (octets, subst (λ ps. Splits octets ps octets) (sym (step_none most octets e)) (record { octets_are = refl; packets_are = tt; none_left = e }))
    by_prefix zero octets few true e = absurd (let some = (begins_so octets e).header in omega (arith, few, some))
    by_prefix (suc most) octets few true e =
        let b = begins_so octets e in
        let least = known_least octets in
        let size : length (first_packet octets) + length (after_packet octets) ≡ length octets =
        sym (length-append (first_packet octets) (after_packet octets)) ∙ ap length (take-append-drop (reported_length octets) octets) in
        let prefix : length (first_packet octets) ≡ reported_length (first_packet octets) = (first_is_packet b).whole in
        let rest = by_prefix most (after_packet octets) (omega (arith, few, size, prefix, known_least (first_packet octets)))
        (begins_packet (after_packet octets)) refl in (
          rest.0,
          subst (λ ps. Splits octets ps rest.0) (sym (step_taken most octets e)) (record {
            octets_are = sym (take-append-drop (reported_length octets) octets) ∙ ap (λ zs. first_packet octets ++ zs) rest.1.octets_are
                ∙ sym (append_assoc (first_packet octets) (joined (packets_within most (after_packet octets))) rest.0);
            packets_are = (first_is_packet b, rest.1.packets_are);
            none_left = rest.1.none_left;
          }),
        )

-- each stream is its whole packets and what is left over
pub whole_splits : (octets : List ℕ) → Splits octets (whole_packets octets) (left_over octets)
whole_splits octets =
    let parts = split_within (length octets) octets (omega arith) in
    subst (λ left. Splits octets (whole_packets octets) left) (sym (splits_left parts.1)) parts.1

no_packet : begins_packet [] ≡ false
unfolding begins_packet
no_packet = refl

-- packets one after another
pub joined_splits : (packets : List (List ℕ)) → AllByRecursion IsPacket packets → Splits (joined packets) packets []
joined_splits packets p = record { octets_are = sym (append-nil (joined packets)); packets_are = p; none_left = no_packet }

-- A reader for an APID reads the packets that are picked by it as it reads the whole stream.
use Rattle.std.proofs.Common.{◌≡◌, inl, inr, ℕ, List, [], ◌∷◌, refl, sym, ap, ◌∙◌, Bool, true, false, cond, None}
use Rattle.std.proofs.lemmas.Bool.{false≢true}
use Rattle.packet_defs.specs.Streams.{whole_packets}
use Rattle.stream_defs.specs.declared.fate.FateState.{FateState}
use Rattle.stream_defs.specs.Fates.{fresh, fate, is_kept, after, after_all, kept}
use Rattle.stream_defs.proofs.FateLaws.{after_as_other}
use Rattle.stream_defs.proofs.KeptOrder.{is_kept_so, kept_tests, does}
use Rattle.camera_mux.specs.Picked.{is_picked, picked_of}
use Rattle.camera_mux.specs.PickLaws.{PicksAll}
use Rattle.camera_mux.proofs.PickedPackets.{mine_own, picked_whole}

module _ (apid : ℕ) where
  -- a packet of another APID isn't kept
  other_lost : (s : FateState) (packet : List ℕ) → is_picked apid None packet ≡ false → is_kept (fate apid s packet) ≡ false
  other_lost s packet other = by_test (is_kept (fate apid s packet)) refl
    where
      by_test : (b : Bool) → is_kept (fate apid s packet) ≡ b → b ≡ false
      by_test false e = refl
      by_test true e = absurd (false≢true (sym other ∙ mine_own apid packet (kept_tests apid s packet (is_kept_so (fate apid s packet) e)).mine))

  -- so it changes nothing
  other_leaves : (s : FateState) (packet : List ℕ) → is_picked apid None packet ≡ false → after apid s packet ≡ s
  other_leaves s packet other = after_as_other apid s packet (other_lost s packet other)

  -- ---- all packets

  pub after_picked : (s : FateState) (packets : List (List ℕ)) → after_all apid s (picked_of apid None packets) ≡ after_all apid s packets
  after_picked s [] = refl
  after_picked s (packet ∷ packets) = by_test (λ s. after_picked s packets) (is_picked apid None packet) refl
    where
      by_test : ((s : FateState) → after_all apid s (picked_of apid None packets) ≡ after_all apid s packets) → (b : Bool) →
          is_picked apid None packet ≡ b → after_all apid s (cond b (packet ∷ picked_of apid None packets) (picked_of apid None packets))
          ≡ after_all apid (after apid s packet) packets
      by_test rest true e = rest (after apid s packet)
      by_test rest false e = rest s ∙ ap (λ s. after_all apid s packets) (sym (other_leaves s packet e))

  -- the same packets are kept of two lists if this holds for what follows a first packet
  kept_same : (s : FateState) (packet : List ℕ) (xs ys : List (List ℕ)) → kept apid (after apid s packet) xs ≡ kept apid (after apid s packet) ys →
      kept apid s (packet ∷ xs) ≡ kept apid s (packet ∷ ys)
  kept_same s packet xs ys same = elim (does apid s packet) [
    | inl lost ↦ lost.kept_are xs ∙ same ∙ sym (lost.kept_are ys)
    | inr (inl begins) ↦ begins.kept_are xs ∙ ap (λ zs. packet ∷ zs) same ∙ sym (begins.kept_are ys)
    | inr (inr follows) ↦ follows.kept_are xs ∙ ap (λ zs. packet ∷ zs) same ∙ sym (follows.kept_are ys)
  ]

  kept_past : (s : FateState) (packet : List ℕ) (xs : List (List ℕ)) → is_picked apid None packet ≡ false → kept apid s (packet ∷ xs) ≡ kept apid s xs
  kept_past s packet xs other =
      let lost = other_lost s packet other in
      elim (does apid s packet) [
        | inl l ↦ l.kept_are xs ∙ ap (λ s. kept apid s xs) l.same
        | inr (inl begins) ↦ absurd (false≢true (sym lost ∙ begins.is_kept))
        | inr (inr follows) ↦ absurd (false≢true (sym lost ∙ follows.is_kept))
      ]

  pub kept_picked : (s : FateState) (packets : List (List ℕ)) → kept apid s (picked_of apid None packets) ≡ kept apid s packets
  kept_picked s [] = refl
  kept_picked s (packet ∷ packets) = by_test (λ s. kept_picked s packets) (is_picked apid None packet) refl
    where
      by_test : ((s : FateState) → kept apid s (picked_of apid None packets) ≡ kept apid s packets) → (b : Bool) → is_picked apid None packet ≡ b →
          kept apid s (cond b (packet ∷ picked_of apid None packets) (picked_of apid None packets)) ≡ kept apid s (packet ∷ packets)
      by_test rest true e = kept_same s packet (picked_of apid None packets) packets (rest (after apid s packet))
      by_test rest false e = rest s ∙ sym (kept_past s packet packets e)

pub picks_all : (octets : List ℕ) (apid : ℕ) → PicksAll octets apid
picks_all octets apid =
    let packets = whole_packets octets in
    record {
      kept = ap (kept apid fresh) (picked_whole octets apid None) ∙ kept_picked apid fresh packets;
      state = ap (after_all apid fresh) (picked_whole octets apid None) ∙ after_picked apid fresh packets;
      fates = λ before later packet are. ap (λ s. fate apid s packet) (after_picked apid fresh before);
    }

-- What is known of an image, and one packet more.
use Rattle.std.proofs.Common.{◌≡◌, ℕ, List, [], ◌∷◌, ◌++◌, length, refl, ap, ◌∙◌, arith, length-append, Bool, true, false, cond, ◌==◌, is_none, None, Some}
use Rattle.std.proofs.Common.{append-nil}
use Rattle.std.proofs.lemmas.Bool.{and_parts, eqb-true}
use Rattle.std.proofs.lemmas.Bool.Decides.{nat_tests}
use Rattle.std.proofs.lemmas.List.Elements.{filter-append}
use Rattle.std.proofs.lemmas.List.Sums.{sum_by_push}
use Rattle.std.proofs.lemmas.Grind.{fold-append}
use Rattle.packet_defs.specs.Reading.{apid_in, flags_in, ancillary_in, skip_of}
use Rattle.stream_defs.specs.declared.fate.FateState.{FateState}
use Rattle.stream_defs.specs.Fates.{fresh, fate, is_kept, closes, after, after_all, kept}
use Rattle.stream_defs.proofs.ChosenLaws.{kept-append, after_all-append}
use Rattle.stream_defs.proofs.FateLaws.{after_as_other}
use Rattle.stream_defs.proofs.KeptOrder.{is_kept_so, kept_tests}
use Rattle.camera_mux.specs.Picked.{is_picked}
use Rattle.camera_mux.proofs.PickedPackets.{mine_own, none_so}
use Rattle.camera_mux.specs.declared.image.ImageId.{ImageId}
use Rattle.camera_mux.specs.Images.{id_in, own_packets, state_of, kept_of, count_of, entry_of}
use Rattle.camera_mux.specs.Tables.{count_with}
use Rattle.stream_defs.proofs.Equations.{kept-none, kept-cons}

-- ---- which image a packet is of

-- a packet of an image with its own APID
abbrev pub is_own : ImageId → List ℕ → Bool
is_own id packet = is_picked id.apid (Some id.image) packet

pub own_skip : (id : ImageId) (packet : List ℕ) → is_own id packet ≡ true → skip_of id.apid packet ≡ None
own_skip id packet e = none_so (skip_of id.apid packet) (and_parts (is_none (skip_of id.apid packet)) ((ancillary_in packet).image == id.image) e).0

-- it is of this image alone
pub own_id : (id : ImageId) (packet : List ℕ) → is_own id packet ≡ true → id_in packet ≡ id
own_id id packet e =
    let apid : apid_in packet ≡ id.apid = eqb-true (apid_in packet) id.apid (mine_own id.apid packet (own_skip id packet e)) in
    grind (arith, nat_tests, eqb-true, and_parts)

-- a packet that isn't skipped for its own APID is of its image
pub skip_own : (packet : List ℕ) → skip_of (apid_in packet) packet ≡ None → is_own (id_in packet) packet ≡ true
skip_own packet e = rw e (let same : ((ancillary_in packet).image == (ancillary_in packet).image) ≡ true = grind (arith, nat_tests) in same)

-- so is a packet that is kept
pub kept_own : (s : FateState) (packet : List ℕ) → is_kept (fate (apid_in packet) s packet) ≡ true → is_own (id_in packet) packet ≡ true
kept_own s packet e = skip_own packet (kept_tests (apid_in packet) s packet (is_kept_so (fate (apid_in packet) s packet) e)).mine

-- ---- one packet more

pub own_other : (id : ImageId) (packets : List (List ℕ)) (packet : List ℕ) → is_own id packet ≡ false → own_packets id (packets ++ packet ∷ [])
    ≡ own_packets id packets
own_other id packets packet other = grind (arith, nat_tests, filter-append, append-nil)

own_more : (id : ImageId) (packets : List (List ℕ)) (packet : List ℕ) → is_own id packet ≡ true → own_packets id (packets ++ packet ∷ [])
    ≡ own_packets id packets ++ packet ∷ []
own_more id packets packet own = filter-append (is_own id) packets (packet ∷ []) ∙ ap (λ b. own_packets id packets ++ cond b (packet ∷ []) []) own

kept_one : (apid : ℕ) (s : FateState) (packet : List ℕ) → is_kept (fate apid s packet) ≡ true → kept apid s (packet ∷ []) ≡ packet ∷ []
kept_one apid s packet e = rw (kept-cons, e, kept-none) refl

lost_one : (apid : ℕ) (s : FateState) (packet : List ℕ) → is_kept (fate apid s packet) ≡ false → kept apid s (packet ∷ []) ≡ []
lost_one apid s packet e = rw (kept-cons, e, kept-none) refl

-- the fate of a packet after those of its image
abbrev pub is_kept_by : ImageId → List (List ℕ) → List ℕ → Bool
is_kept_by id packets packet = is_kept (fate id.apid (state_of id packets) packet)

-- a packet of another image changes nothing
pub entry_other : (id : ImageId) (packets : List (List ℕ)) (packet : List ℕ) → is_own id packet ≡ false → entry_of (packets ++ packet ∷ []) id
    ≡ entry_of packets id
entry_other id packets packet other = grind (arith, nat_tests, own_other)

pub kept_other : (id : ImageId) (packets : List (List ℕ)) (packet : List ℕ) → is_own id packet ≡ false → kept_of id (packets ++ packet ∷ [])
    ≡ kept_of id packets
kept_other id packets packet other = ap (kept id.apid fresh) (own_other id packets packet other)

module _ (id : ImageId) (packets : List (List ℕ)) (packet : List ℕ) (own : is_own id packet ≡ true) where
  state_more : state_of id (packets ++ packet ∷ []) ≡ after id.apid (state_of id packets) packet
  state_more = ap (after_all id.apid fresh) (own_more id packets packet own) ∙ after_all-append id.apid fresh (own_packets id packets) (packet ∷ [])

  kept_both : kept_of id (packets ++ packet ∷ []) ≡ kept_of id packets ++ kept id.apid (state_of id packets) (packet ∷ [])
  kept_both = ap (kept id.apid fresh) (own_more id packets packet own) ∙ kept-append id.apid fresh (own_packets id packets) (packet ∷ [])

  -- nor does one that isn't kept
  pub kept_lost : is_kept_by id packets packet ≡ false → kept_of id (packets ++ packet ∷ []) ≡ kept_of id packets
  kept_lost lost = kept_both ∙ ap (λ ks. kept_of id packets ++ ks) (lost_one id.apid (state_of id packets) packet lost) ∙ append-nil (kept_of id packets)

  pub kept_more : is_kept_by id packets packet ≡ true → kept_of id (packets ++ packet ∷ []) ≡ kept_of id packets ++ packet ∷ []
  kept_more is = kept_both ∙ ap (λ ks. kept_of id packets ++ ks) (kept_one id.apid (state_of id packets) packet is)

  pub entry_lost : is_kept_by id packets packet ≡ false → entry_of (packets ++ packet ∷ []) id ≡ entry_of packets id
  entry_lost lost = grind (arith, nat_tests, state_more, after_as_other, kept_lost)

-- ---- a packet that is kept

count_more : (packets : List (List ℕ)) (packet : List ℕ) → count_of (packets ++ packet ∷ []) ≡ count_with (count_of packets) (length packet)
    (closes (flags_in packet))
count_more packets packet = grind (arith, nat_tests, length-append, sum_by_push, fold-append)

pub entry_more : (id : ImageId) (packets : List (List ℕ)) (packet : List ℕ) → is_own id packet ≡ true → is_kept_by id packets packet ≡ true →
    entry_of (packets ++ packet ∷ []) id ≡ record {
      id = id;
      state = after id.apid (state_of id packets) packet;
      count =
          count_with (count_of (kept_of id packets)) (length packet) (closes (flags_in packet));
    }
entry_more id packets packet own is =
    let state = state_more id packets packet own in
    grind (arith, nat_tests, length, kept_more, count_more)

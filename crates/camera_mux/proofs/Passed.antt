-- The table after one packet more.
use Rattle.std.proofs.Common.{◌≡◌, ◌<◌, ◌≤◌, ℕ, List, [], ◌∷◌, ◌++◌, length, map, refl, sym, ap, subst, ◌∙◌, arith, length-append, Bool, true, false}
use Rattle.std.proofs.Common.{slice_set, Option, None, Some, Result, Ok, Err}
use Rattle.std.proofs.lemmas.Bool.{false≢true}
use Rattle.std.proofs.lemmas.Bool.Decides.{nat_tests}
use Rattle.segment_defs.specs.declared.head.SegmentHead.{SegmentHead}
use Rattle.packet_defs.specs.declared.packet.Skip.{Skip}
use Rattle.packet_defs.specs.declared.ancillary.Ancillary.{Ancillary}
use Rattle.packet_defs.specs.Reading.{apid_in, flags_in, ancillary_in, text_in, skip_of}
use Rattle.stream_defs.specs.declared.fate.Fate.{Fate}
use Rattle.stream_defs.specs.Fates.{is_kept, closes, after}
use Rattle.packet_assembly.specs.Classification.{classified, past_kept}
use Rattle.packet_assembly.proofs.FateSteps.{kept_so, classified_unkept}
use Rattle.camera_mux.specs.declared.image.ImageId.{ImageId}
use Rattle.camera_mux.specs.declared.image.ImageEntry.{ImageEntry}
use Rattle.camera_mux.specs.declared.image_table.TableFull.{TableFull}
use Rattle.camera_mux.specs.Images.{id_in, state_of, kept_of, count_of, entry_of, is_wanted, is_kept_after, images, entries, most_images}
use Rattle.camera_mux.specs.Tables.{count_with, entry_at, IsPlace, state_at, count_at, entry_past, LeavesTable, PassesImage, PassesBy, PassesPacket}
use Rattle.camera_mux.proofs.OneImage.{is_kept_by, own_id, own_skip, skip_own, entry_more}
use Rattle.camera_mux.proofs.ImageLists.{id_at, Misses, AreBegun, begun_none, begun_next, images-none}
use Rattle.camera_mux.proofs.EntryLists.{length-entries, entry_is, Loses, entries_same, entries_counted, entries_begun, none_fresh}

-- the table has what is known of all images after these packets
pub record IsTable (wanted : Option ℕ) (passed : List (List ℕ)) (table : List ImageEntry) : Type 0 where
  pub table_is : table ≡ entries wanted passed
  pub begun : AreBegun wanted passed (images wanted passed)

pub table_none : (wanted : Option ℕ) → IsTable wanted [] []
table_none wanted = grind (arith, nat_tests, map, images-none, begun_none)

module _ (wanted : Option ℕ) (passed : List (List ℕ)) (packet : List ℕ) where
  -- ---- a packet that isn't kept

  unwanted_loses : is_wanted wanted (apid_in packet) ≡ false → Loses wanted passed packet
  unwanted_loses not id is own = grind (arith, nat_tests, false≢true, own_id)

  skipped_loses : (skip : Skip) → skip_of (apid_in packet) packet ≡ Some skip → Loses wanted passed packet
  skipped_loses skip other id is own = grind (arith, nat_tests, own_id, own_skip)

  unkept_loses : is_kept_after passed packet ≡ false → Loses wanted passed packet
  unkept_loses not id is own = subst (λ id. is_kept_by id passed packet ≡ false) (own_id id packet own) not

  -- so nothing changes
  lost : (table after : List ImageEntry) → IsTable wanted passed table → Loses wanted passed packet → after ≡ table →
      IsTable wanted (passed ++ packet ∷ []) after
  lost table after known loses same = grind (arith, nat_tests, entries_same, begun_next)

  -- ---- what the table has of its image

  module _ (table : List ImageEntry) (known : IsTable wanted passed table) (is : is_wanted wanted (apid_in packet) ≡ true) where
    -- at its place
    at_place : (place : ℕ) → IsPlace table (id_in packet) (Some place) →
        (place < length (images wanted passed)) × (id_at (images wanted passed) place ≡ id_in packet)
    at_place place there = grind (arith, nat_tests, length, length-entries, entry_is)

    entry_so : (place : ℕ) → IsPlace table (id_in packet) (Some place) → entry_at table place ≡ entry_of passed (id_in packet)
    entry_so place there =
        let at = at_place place there in
        ap (λ t. entry_at t place) known.table_is ∙ entry_is wanted passed place at.0 ∙ ap (entry_of passed) at.1

    misses_so : IsPlace table (id_in packet) None → Misses (images wanted passed) (id_in packet)
    misses_so none k lt e =
        let size = ap length known.table_is ∙ length-entries wanted passed in
        none k (omega (arith, lt, size)) (ap (λ t. (entry_at t k).id) known.table_is ∙ ap (λ (e : ImageEntry). e.id) (entry_is wanted passed k lt) ∙ e)

    none_kept : IsPlace table (id_in packet) None → kept_of (id_in packet) passed ≡ []
    none_kept none = known.begun.others (id_in packet) is (misses_so none)

    state_so : (place : Option ℕ) → IsPlace table (id_in packet) place → state_at table place ≡ state_of (id_in packet) passed
    state_so place none = grind (arith, nat_tests, none_fresh, none_kept, entry_so)

    count_so : (place : Option ℕ) → IsPlace table (id_in packet) place → count_at table place ≡ count_of (kept_of (id_in packet) passed)
    count_so place none = grind (arith, nat_tests, none_kept, entry_so)

    -- ---- a packet of its image, by its fate

    classified_so : (place : Option ℕ) → IsPlace table (id_in packet) place → (r : Result (Option SegmentHead) Fate) →
        classified (state_at table place) (flags_in packet) (ancillary_in packet) (text_in packet) ≡ r →
        classified (state_of (id_in packet) passed) (flags_in packet) (ancillary_in packet) (text_in packet) ≡ r
    classified_so place there r e = ap (λ s. classified s (flags_in packet) (ancillary_in packet) (text_in packet)) (sym (state_so place there)) ∙ e

    refused : skip_of (apid_in packet) packet ≡ None → (why : Fate) → classified (state_of (id_in packet) passed) (flags_in packet) (ancillary_in packet)
        (text_in packet) ≡ Err why → is_kept_after passed packet ≡ false
    refused mine why e =
        let x = classified_unkept (apid_in packet) (state_of (id_in packet) passed) packet why mine e in
        ap is_kept x.1.fate_is ∙ x.0.unkept

    keeps : skip_of (apid_in packet) packet ≡ None → (found : Option SegmentHead) → classified (state_of (id_in packet) passed) (flags_in packet)
        (ancillary_in packet) (text_in packet) ≡ Ok found → is_kept_after passed packet ≡ true
    keeps mine found e = ap is_kept (kept_so (apid_in packet) (state_of (id_in packet) passed) packet found mine e).fate_is

    -- the entry of a kept packet
    past_so : skip_of (apid_in packet) packet ≡ None → (place : Option ℕ) → IsPlace table (id_in packet) place → (found : Option SegmentHead) →
        classified (state_of (id_in packet) passed) (flags_in packet) (ancillary_in packet) (text_in packet) ≡ Ok found →
        entry_past table (id_in packet) place (flags_in packet) (ancillary_in packet) (length packet) found ≡ entry_of (passed ++ packet ∷ []) (id_in packet)
    past_so mine place there found e =
        let s = state_of (id_in packet) passed in
        let state : past_kept (state_at table place) (flags_in packet) (ancillary_in packet) found ≡ after (apid_in packet) s packet =
        ap (λ s. past_kept s (flags_in packet) (ancillary_in packet) found) (state_so place there)
        ∙ sym (kept_so (apid_in packet) s packet found mine e).after_is in
        let count = count_so place there in
        let same : entry_past table (id_in packet) place (flags_in packet) (ancillary_in packet) (length packet) found
        ≡ record {
          id = id_in packet;
          state = after (apid_in packet) s packet;
          count = count_with (count_of (kept_of (id_in packet) passed)) (length packet)
              (closes (flags_in packet));
        } =
        (λ i. record { id = id_in packet; state = state i; count = count_with (count i) (length packet) (closes (flags_in packet)) }) in
        same ∙ sym (entry_more (id_in packet) passed packet (skip_own packet mine) (keeps mine found e))

    kept_next : skip_of (apid_in packet) packet ≡ None → (after : List ImageEntry) (place : Option ℕ) → IsPlace table (id_in packet) place →
        (found : Option SegmentHead) →
        classified (state_of (id_in packet) passed) (flags_in packet) (ancillary_in packet) (text_in packet) ≡ Ok found →
        LeavesTable table after (id_in packet) place (flags_in packet) (ancillary_in packet) (length packet) (Ok found) (Ok tt) →
        IsTable wanted (passed ++ packet ∷ []) after
    kept_next mine after (Some place) there found e leaves =
        let at = at_place place there in
        record {
          table_is = leaves.0 ∙ ap (slice_set table place) (past_so mine (Some place) there found e)
              ∙ ap (λ t. slice_set t place (entry_of (passed ++ packet ∷ []) (id_in packet))) known.table_is
              ∙ sym (entries_counted wanted passed packet known.begun place at.0 at.1);
          begun = begun_next wanted passed packet known.begun;
        }
    kept_next mine after None none found e leaves = record {
      table_is = leaves.0 ∙ ap (λ y. table ++ y ∷ []) (past_so mine None none found e) ∙ ap (λ t. t ++ entry_of (passed ++ packet ∷ []) (id_in packet) ∷ [])
          known.table_is
          ∙ sym (entries_begun wanted passed packet known.begun is (keeps mine found e) (misses_so none));
      begun = begun_next wanted passed packet known.begun;
    }

    image_next : skip_of (apid_in packet) packet ≡ None → (after : List ImageEntry) →
        PassesImage table after (id_in packet) (flags_in packet) (ancillary_in packet) (text_in packet) (length packet) (Ok tt) →
        IsTable wanted (passed ++ packet ∷ []) after
    image_next mine after x = by (classified (state_at table x.place) (flags_in packet) (ancillary_in packet) (text_in packet)) refl x.leaves
      where
        by : (r : Result (Option SegmentHead) Fate) → classified (state_at table x.place) (flags_in packet) (ancillary_in packet) (text_in packet) ≡ r →
            LeavesTable table after (id_in packet) x.place (flags_in packet) (ancillary_in packet) (length packet) r (Ok tt) →
            IsTable wanted (passed ++ packet ∷ []) after
        by (Err why) e leaves = lost table after known (unkept_loses (refused mine why (classified_so x.place x.is_place (Err why) e))) leaves.1
        by (Ok found) e leaves = kept_next mine after x.place x.is_place found (classified_so x.place x.is_place (Ok found) e) leaves

    -- an image that begins while the table is full
    image_full : skip_of (apid_in packet) packet ≡ None → (after : List ImageEntry) (full : TableFull) →
        PassesImage table after (id_in packet) (flags_in packet) (ancillary_in packet) (text_in packet) (length packet) (Err full) →
        most_images < length (images wanted (passed ++ packet ∷ []))
    image_full mine after full x = by (classified (state_at table x.place) (flags_in packet) (ancillary_in packet) (text_in packet)) refl x.leaves
      where
        more : IsPlace table (id_in packet) None → is_kept_after passed packet ≡ true → length table ≡ most_images →
            most_images < length (images wanted (passed ++ packet ∷ []))
        more none is_kept full =
            let all = ap length (entries_begun wanted passed packet known.begun is is_kept (misses_so none)) in
            grind (arith, nat_tests, length, length-entries, length-append)

        by : (r : Result (Option SegmentHead) Fate) → classified (state_at table x.place) (flags_in packet) (ancillary_in packet) (text_in packet) ≡ r →
            LeavesTable table after (id_in packet) x.place (flags_in packet) (ancillary_in packet) (length packet) r (Err full) →
            most_images < length (images wanted (passed ++ packet ∷ []))
        by (Err why) e leaves = absurd (let no : Err full ≡ Ok tt = leaves.0 in cc)
        by (Ok found) e leaves =
            let none : IsPlace table (id_in packet) None = subst (IsPlace table (id_in packet)) leaves.0 x.is_place in
            more none (keeps mine found (classified_so x.place x.is_place (Ok found) e)) leaves.1

  -- ---- any packet

  pub table_next : (table after : List ImageEntry) → IsTable wanted passed table → PassesPacket wanted table after packet (Ok tt) →
      IsTable wanted (passed ++ packet ∷ []) after
  table_next table after known x = by (is_wanted wanted (apid_in packet)) (skip_of (apid_in packet) packet) refl refl x
    where
      by : (b : Bool) (o : Option Skip) → is_wanted wanted (apid_in packet) ≡ b → skip_of (apid_in packet) packet ≡ o →
          PassesBy table after packet b o (Ok tt) → IsTable wanted (passed ++ packet ∷ []) after
      by true None is mine x = image_next table known is mine after x
      by true (Some skip) is other x = lost table after known (skipped_loses skip other) x.1
      by false o not skip x = lost table after known (unwanted_loses not) x.1

  pub table_full : (table after : List ImageEntry) (full : TableFull) → IsTable wanted passed table → PassesPacket wanted table after packet (Err full) →
      most_images < length (images wanted (passed ++ packet ∷ []))
  table_full table after full known x = by (is_wanted wanted (apid_in packet)) (skip_of (apid_in packet) packet) refl refl x
    where
      by : (b : Bool) (o : Option Skip) → is_wanted wanted (apid_in packet) ≡ b → skip_of (apid_in packet) packet ≡ o →
          PassesBy table after packet b o (Err full) → most_images < length (images wanted (passed ++ packet ∷ []))
      by true None is mine x = image_full table known is mine after full x
      by true (Some skip) is other x = absurd (let no : Err full ≡ Ok tt = x.0 in cc)
      by false o not skip x = absurd (let no : Err full ≡ Ok tt = x.0 in cc)

-- ---- the number of images

few_leaves : (table after : List ImageEntry) (id : ImageId) (place : Option ℕ) (flags : ℕ) (a : Ancillary) (octets : ℕ)
    (r : Result (Option SegmentHead) Fate) → length table ≤ most_images →
    LeavesTable table after id place flags a octets r (Ok tt) → length after ≤ most_images
few_leaves table after id place flags a octets r few leaves = grind (arith, nat_tests)

pub few_next : (wanted : Option ℕ) (packet : List ℕ) (table after : List ImageEntry) → length table ≤ most_images →
    PassesPacket wanted table after packet (Ok tt) → length after ≤ most_images
few_next wanted packet table after few x = grind (arith, nat_tests, few_leaves)

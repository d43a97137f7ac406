-- How the packets that `pick` gave are read.
use Rattle.std.proofs.Common.{◌≡◌, ◌⊎◌, ◌≤◌, ◌∙◌, ℕ, ap, arith, inl, inr, Option, Result, Ok, Err}
use Rattle.port_122.specs.Outside.{Outside}
use Rattle.base_122.specs.declared.wish.DecodeWish.{DecodeWish}
use Rattle.packet_defs.specs.Streams.{whole_packets}
use Rattle.strip_decoder.specs.declared.list.ListDone.{ListDone}
use Rattle.strip_decoder.specs.declared.list.ListFault.{ListFault}
use Rattle.strip_decoder.specs.declared.list.ListFault.TheVariants.{ReadFault, WriteFault, LongInput, Memory}
use Rattle.stream_defs.specs.Fates.{fresh, kept, after_all, kept_in, state_after}
use Rattle.camera_mux.specs.Picked.{picked, picked_of}
use Rattle.camera_mux.specs.PickLaws.{PickingKeeps}
use Rattle.strip122.specs.Listing.{Reads, WithMemory, picker}
use Rattle.strip122.specs.Picks.{GavePicked}
use Rattle.strip122.proofs.Reports.{list_fault_status, reader_status}

fault_statuses : (fault : ListFault) → 3 ≤ list_fault_status fault
fault_statuses LongInput = omega arith
fault_statuses ReadFault = omega arith
fault_statuses WriteFault = omega arith
fault_statuses Memory = omega arith

low_status : (status : ℕ) → (status ≡ 0) ⊎ (status ≡ 1) → status ≤ 1
low_status status (inl none) = omega (arith, none)
low_status status (inr some) = omega (arith, some)

pub gave_picked : PickingKeeps → (wish : DecodeWish) (image : Option ℕ) (old new : Outside) (status : ℕ) → Reads (picker wish image) old new status →
    (status ≡ 0) ⊎ (status ≡ 1) →
    GavePicked wish image old new
gave_picked law wish image old new status (inl none) given = absurd (omega (arith, none.status_is, low_status status given))
gave_picked law wish image old new status (inr run) given = by run.answer run.cause.cause run.status_is
  where
    alone : whole_packets (picked run.took wish.apid image) ≡ picked_of wish.apid image (whole_packets run.took)
    alone = (law.whole run.took wish.apid image).whole

    by : (answer : Result ListDone ListFault) → WithMemory (picker wish image) old new run.took run.gave answer →
        status ≡ reader_status (picker wish image) answer → GavePicked wish image old new
    by (Ok done) k is = record {
      took = run.took;
      gave = run.gave;
      wrote = run.wrote;
      since = run.since;
      octets = k.octets;
      kept_are = ap (kept_in wish.apid) k.octets ∙ ap (kept wish.apid fresh) alone;
      state = ap (state_after wish.apid) k.octets ∙ ap (after_all wish.apid fresh) alone;
      all_kept = λ none. ap (kept_in wish.apid) k.octets ∙ ap (λ image. kept_in wish.apid (picked run.took wish.apid image)) none
          ∙ (law.all run.took wish.apid).kept;
      all_state = λ none. ap (state_after wish.apid) k.octets ∙ ap (λ image. state_after wish.apid (picked run.took wish.apid image)) none
          ∙ (law.all run.took wish.apid).state;
    }
    by (Err fault) k is = absurd (omega (arith, is, fault_statuses fault, low_status status given))

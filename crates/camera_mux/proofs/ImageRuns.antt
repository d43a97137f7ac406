-- A list of images is continued by one packet.
use Rattle.std.proofs.lemmas.Bool.Decides.{nat_tests}
use Rattle.std.proofs.Common.{◌≡◌, ◌≤◌, ◌<◌, ◌+◌, ◌^◌, ℕ, List, [], ◌∷◌, ◌++◌, length, sym, ap, subst, arith, length-append, Option, None, Result, Ok}
use Rattle.std.proofs.lemmas.List.{take-append-le}
use Rattle.port_122.specs.Outside.{Outside, Exchange}
use Rattle.port_122.proofs.Stretches.{since_start, since_weaker}
use Rattle.port_122.proofs.ReadCalls.{since_in}
use Rattle.packet_defs.specs.Reading.{apid_in}
use Rattle.packet_defs.specs.Streams.{first_packet}
use Rattle.space_packets.specs.Intake.{Intake, unread}
use Rattle.space_packets.specs.PacketReads.{AsksUndecided, TakenSoFar}
use Rattle.packet_assembly.specs.Readings.{HasRead, SawEnd, AsksReadable}
use Rattle.packet_assembly.specs.PacketSteps.{reading}
use Rattle.packet_assembly.proofs.PacketSteps.{unread_so, unended_so, whole_so_far, read_more, readable_fed, end_more, read_past, end_past, octets_left}
use Rattle.packet_assembly.proofs.PacketSteps.{less_left}
use Rattle.camera_mux.specs.declared.image.ImageEntry.{ImageEntry}
use Rattle.camera_mux.specs.declared.info.InfoWish.{InfoWish}
use Rattle.camera_mux.specs.declared.image_table.TableFull.{TableFull}
use Rattle.camera_mux.specs.Images.{images, most_images}
use Rattle.camera_mux.specs.Tables.{AreRanged}
use Rattle.camera_mux.specs.InfoAnswers.{image_count, AsksFew}
use Rattle.camera_mux.specs.ImageSteps.{CanTake, TakesPacket}
use Rattle.camera_mux.proofs.EntryLists.{length-entries, entry_is}
use Rattle.camera_mux.proofs.Passed.{IsTable, table_none, table_next, few_next}
use Rattle.camera_mux.proofs.ImageBounds.{counts_below}

-- Some packets were passed, and the table has the images that begin in them.
pub record HasTabled (wish : InfoWish) (start now : Outside) (v : Intake) (table : List ImageEntry) : Type 0 where
  pub took : List ℕ
  pub passed : List (List ℕ)
  pub since : Exchange start now took [] [] (AsksFew wish.apid took)
  pub readable : Exchange start now took [] [] (AsksReadable wish.octets took)
  pub read : HasRead 0 wish.octets (reading 0 v passed None) took passed
  pub at_end : SawEnd now (reading 0 v passed None)
  pub table_of : IsTable wish.apid passed table
  pub few : length table ≤ most_images
  pub ranged : AreRanged table

-- ---- octets more

-- a read call at earlier octets is unchanged, whatever is taken afterwards
asks_took : (wanted : Option ℕ) (took t : List ℕ) (i j : ℕ) → i ≤ length took → AsksFew wanted took i j → AsksFew wanted (took ++ t) i j
asks_took wanted took t i j le asks = (asks.0, subst (λ zs. image_count wanted zs ≤ most_images) (sym (take-append-le i took t le)) asks.1)

few_images : {wish : InfoWish} {start now : Outside} {v : Intake} {table : List ImageEntry} (arrived : HasTabled wish start now v table) →
    length (images wish.apid arrived.passed) ≤ most_images
few_images {wish = wish} arrived = let size = ap length arrived.table_of.table_is in let few =
    arrived.few in omega (arith, size, few, length-entries wish.apid arrived.passed)

-- the octets that decide what is next were taken
pub filled : {wish : InfoWish} {start now new : Outside} {v u : Intake} {table : List ImageEntry} → HasTabled wish start now v table →
    TakenSoFar now new v u → HasTabled wish start new u table
filled {wish = wish} {start = start} {new = new} {v = v} {table = table} arrived x =
    let asks_now : (i j : ℕ) → AsksUndecided v x.took i j → AsksFew wish.apid (arrived.took ++ x.took) (length arrived.took + i) (0 + j) = λ i j r.
    (omega (arith, r.1), subst (λ ps. length (images wish.apid ps) ≤ most_images) (sym (whole_so_far arrived.read x i r.0)) (few_images arrived)) in
    subst (λ u. HasTabled wish start new u table) (sym x.valid) (record {
      took = arrived.took ++ x.took;
      passed = arrived.passed;
      since = since_in (since_weaker arrived.since (λ i j le r. asks_took wish.apid arrived.took x.took i j le r)) x.since (λ i j le r. asks_now i j r);
      readable = readable_fed arrived.read x arrived.readable;
      read = read_more arrived.read x;
      at_end = end_more arrived.read x arrived.at_end;
      table_of = arrived.table_of;
      few = arrived.few;
      ranged = arrived.ranged;
    })

-- ---- the next packet

-- it was passed
pub passed_one : {wish : InfoWish} {start now new : Outside} {v w : Intake} {table after : List ImageEntry} → HasTabled wish start now v table →
    TakesPacket wish.apid now new v w table after (Ok tt) → AreRanged after →
    HasTabled wish start new w after
passed_one {wish = wish} {start = start} {new = new} {table = table} {after = after} before x ranged =
    let arrived = filled before x.taken in
    let packet = first_packet x.full.pending in
    let apid = apid_in packet in
    subst (λ w. HasTabled wish start new w after) (sym x.valid) (record {
      took = arrived.took;
      passed = arrived.passed ++ packet ∷ [];
      since = arrived.since;
      readable = arrived.readable;
      read = read_past 0 apid x.full arrived.passed x.whole wish.octets arrived.took arrived.read;
      at_end = end_past 0 apid x.full arrived.passed x.whole new arrived.at_end;
      table_of = table_next wish.apid arrived.passed packet table after arrived.table_of x.passes;
      few = few_next wish.apid packet table after arrived.few x.passes;
      ranged = ranged;
    })

-- ---- the beginning

pub none_tabled : (wish : InfoWish) (start : Outside) (v : Intake) (table : List ImageEntry) → v ≡ unread wish.octets → table ≡ [] →
    HasTabled wish start start v table
none_tabled wish start v table is none = subst (λ v. HasTabled wish start start v table) (sym is)
    (subst (λ table. HasTabled wish start start (unread wish.octets) table) (sym none) (record {
      took = [];
      passed = [];
      since = since_start start _;
      readable = since_start start _;
      read = unread_so 0 wish.octets;
      at_end = unended_so 0 wish.octets start;
      table_of = table_none wish.apid;
      few = omega arith;
      ranged = record { ranged = λ k lt. absurd (omega (arith, lt)) };
    }))

-- ---- what is left

pub less_passed : {wanted : Option ℕ} {old new : Outside} {v w : Intake} {table after : List ImageEntry} {result : Result Unit TableFull} →
    TakesPacket wanted old new v w table after result → octets_left w < octets_left v
less_passed x = less_left _ x.taken x.whole x.valid

-- ---- room for the counts

pub can_take : {wish : InfoWish} {start now : Outside} {v : Intake} {table : List ImageEntry} → wish.octets < 2 ^ 64 → HasTabled wish start now v table →
    CanTake table v
can_take {wish = wish} {v = v} {table = table} small arrived = grind (arith, nat_tests, length, length-append, length-entries, entry_is, counts_below)

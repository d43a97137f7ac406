-- How a list of images ends.
use Rattle.std.proofs.Common.{◌≡◌, ◌≤◌, ℕ, List, [], ◌∷◌, ◌++◌, length, take, refl, sym, ap, subst, ◌∙◌, arith, length-append, Option, Ok, Err}
use Rattle.std.proofs.lemmas.Bool.Decides.{nat_tests}
use Rattle.bit_pipe.specs.declared.fault.InFault.TheVariants as in_faults
use Rattle.port_122.specs.Outside.{Outside, Exchange, NoRead, Rose}
use Rattle.port_122.proofs.Stretches.{rose_since, since_out}
use Rattle.packet_defs.specs.declared.packet.Framing.{Framing}
use Rattle.packet_defs.specs.Reading.{apid_in}
use Rattle.packet_defs.specs.Streams.{first_packet, after_packet, whole_packets}
use Rattle.space_packets.specs.Intake.{Intake}
use Rattle.space_packets.specs.PacketReads.{ReadsPacket}
use Rattle.space_packets.proofs.StreamReads.{undecided_none}
use Rattle.packet_assembly.specs.PacketSteps.{FindsEnd, FindsCap}
use Rattle.packet_assembly.proofs.PacketSteps.{whole_past, taken_by, read_found}
use Rattle.packet_assembly.proofs.Readings.{read_within, whole_so, ended_packets, ended_framing, ended_out, out_later, long_packets, long_good, long_full}
use Rattle.camera_mux.specs.declared.image.ImageEntry.{ImageEntry}
use Rattle.camera_mux.specs.declared.info.InfoWish.{InfoWish}
use Rattle.camera_mux.specs.declared.info.InfoFault.{InfoFault}
use Rattle.camera_mux.specs.declared.info.InfoFault.TheVariants.{ReadFault, WriteFault, LongInput, TooManyImages}
use Rattle.camera_mux.specs.declared.image_table.TableFull.{TableFull}
use Rattle.camera_mux.specs.Images.{entries, most_images}
use Rattle.camera_mux.specs.ImageLines.{lines_of}
use Rattle.camera_mux.specs.InfoAnswers.{image_count, Informs}
use Rattle.camera_mux.specs.ImageSteps.{TakesPacket, TakesNext}
use Rattle.camera_mux.proofs.ImageLists.{images-prefix}
use Rattle.camera_mux.proofs.EntryLists.{length-entries}
use Rattle.camera_mux.proofs.Passed.{table_full}
use Rattle.camera_mux.proofs.ImageRuns.{HasTabled, filled}

-- ---- all packets were passed

-- the table has all images of the octets that were taken
table_whole : {wish : InfoWish} {start now : Outside} {v : Intake} {table : List ImageEntry} (arrived : HasTabled wish start now v table) →
    whole_packets arrived.took ≡ arrived.passed →
    table ≡ entries wish.apid (whole_packets arrived.took)
table_whole {wish = wish} arrived whole = arrived.table_of.table_is ∙ ap (entries wish.apid) (sym whole)

few_whole : {wish : InfoWish} {start now : Outside} {v : Intake} {table : List ImageEntry} (arrived : HasTabled wish start now v table) →
    whole_packets arrived.took ≡ arrived.passed →
    image_count wish.apid arrived.took ≤ most_images
few_whole {wish = wish} arrived whole = grind (arith, nat_tests, table_whole, length-entries)

-- all lines were given
pub all_informed : {wish : InfoWish} {start now new last : Outside} {v : Intake} {table : List ImageEntry} {found : Option Framing} (count : ℕ) →
    HasTabled wish start now v table → FindsEnd 0 now new v found →
    Exchange new last [] (lines_of table) [] NoRead → count ≡ length table → Informs wish start last (Ok (record { images = count; framing = found }))
all_informed {wish = wish} {new = new} {last = last} {table = table} {found = found} count before x gives is =
    let arrived = filled before x.taken in
    let read = read_found found arrived.read in
    let whole = ended_packets read x.over in
    let images_are : count ≡ image_count wish.apid arrived.took =
    is ∙ ap length (table_whole arrived whole) ∙ length-entries wish.apid (whole_packets arrived.took) in
    record {
      took = arrived.took;
      gave = lines_of table;
      since = since_out arrived.since gives;
      readable = since_out arrived.readable gives;
      within = read_within read;
      answer = record {
        lines = ap lines_of (table_whole arrived whole);
        images_are = images_are;
        few = subst (λ n. n ≤ most_images) (sym images_are) (few_whole arrived whole);
        framing_is = ended_framing read x.over;
        out = out_later wish.octets new last arrived.took gives (ended_out read new x.over arrived.at_end);
      };
    }

-- a prefix of them was given
pub write_failed : {wish : InfoWish} {start now new last : Outside} {v : Intake} {table : List ImageEntry} {found : Option Framing} →
    HasTabled wish start now v table → FindsEnd 0 now new v found →
    Rose new.write_faults last.write_faults × ((n : ℕ) × (n ≤ length (lines_of table)) × Exchange new last [] (take n (lines_of table)) [] NoRead) →
    Informs wish start last (Err WriteFault)
write_failed {wish = wish} {new = new} {last = last} {table = table} {found = found} before x (rose, (n, le, gives)) =
    let arrived = filled before x.taken in
    let read = read_found found arrived.read in
    let whole = ended_packets read x.over in
    record {
      took = arrived.took;
      gave = take n (lines_of table);
      since = since_out arrived.since gives;
      readable = since_out arrived.readable gives;
      within = read_within read;
      answer = (
        rose_since arrived.since.faults.writes rose,
        few_whole arrived whole,
        out_later wish.octets new last arrived.took gives (ended_out read new x.over arrived.at_end),
        (n, ap (λ t. take n (lines_of t)) (table_whole arrived whole)),
      );
    }

-- ---- not all were passed

-- all octets that may be taken were taken
long_informed : {wish : InfoWish} {start now new : Outside} {v : Intake} {table : List ImageEntry} → HasTabled wish start now v table →
    FindsCap 0 now new v → Informs wish start new (Err LongInput)
long_informed {wish = wish} before x =
    let arrived = filled before x.taken in
    record {
      took = arrived.took;
      gave = [];
      since = arrived.since;
      readable = arrived.readable;
      within = read_within arrived.read;
      answer = (long_full arrived.read x.over, long_good arrived.read x.over, few_whole arrived (long_packets arrived.read x.over), refl);
    }

-- a read failed
read_failed : {wish : InfoWish} {start now new : Outside} {v w : Intake} {table : List ImageEntry} → HasTabled wish start now v table →
    ReadsPacket 0 now new v w (Err in_faults.ReadFault) →
    Informs wish start new (Err ReadFault)
read_failed {wish = wish} {now = now} {new = new} {v = v} before x =
    let arrived = filled before (taken_by x) in
    let whole = whole_so arrived.read (undecided_none _ x.ends.1) in
    record {
      took = arrived.took;
      gave = [];
      since = arrived.since;
      readable = arrived.readable;
      within = read_within arrived.read;
      answer = (rose_since before.since.faults.reads x.ends.0, few_whole arrived whole, refl);
    }

-- one image more begins than the table has room for
full_informed : {wish : InfoWish} {start now new : Outside} {v w : Intake} {table after : List ImageEntry} (full : TableFull) →
    HasTabled wish start now v table →
    TakesPacket wish.apid now new v w table after (Err full) → Informs wish start new (Err TooManyImages)
full_informed {wish = wish} {table = table} {after = after} full before x =
    let arrived = filled before x.taken in
    let packet = first_packet x.full.pending in
    let apid = apid_in packet in
    let rest = after_packet x.full.pending in
    let all = arrived.passed ++ packet ∷ [] in
    let whole = whole_past 0 apid x.full arrived.passed x.whole wish.octets arrived.took arrived.read in
    let many = table_full wish.apid arrived.passed packet table after full arrived.table_of x.passes in
    let more = images-prefix wish.apid all (whole_packets rest) in
    grind (arith, nat_tests, length, length-append, read_within)

pub info_failed : {wish : InfoWish} {start now : Outside} {v : Intake} {table : List ImageEntry} (new : Outside) (w : Intake) (after : List ImageEntry)
    (fault : InfoFault) → HasTabled wish start now v table →
    TakesNext wish.apid now new v w table after (Err fault) → Informs wish start new (Err fault)
info_failed new w after ReadFault before x = read_failed before x
info_failed new w after LongInput before x = long_informed before x
info_failed new w after TooManyImages before (full, x) = full_informed full before x
info_failed new w after other before x = absurd x

-- The effect of a run of `decode`, `damage`, `look` and `rects` after its note, and what follows for each status.
use Rattle.std.proofs.Common.{◌≡◌, ◌≤◌, ◌<◌, ◌*◌, ℕ, List, [], ◌∷◌, length, refl, sym, ◌∙◌, ap, subst, arith, inl, inr, true, false, ◌≢◌, ◌⊎◌, ◌==◌, Bool}
use Rattle.std.proofs.Common.{not, Option, None, Some, Result, Ok, Err, filter, All}
use Rattle.std.specs.List.{range_with_len}
use Rattle.std.proofs.lemmas.Bool.{false≢true, eq-eqb}
use Rattle.std.proofs.lemmas.List.Elements.{All-filter, All-get_or, All-from_get_or}
use Rattle.std.proofs.lemmas.List.FromFn.{length-range_with_len, get_or-range_with_len}
use Rattle.port_122.specs.Outside.{Outside, Exchange, NoRead, Rose, Loses}
use Rattle.port_122.proofs.Stretches.{since_start, at_end_later}
use Rattle.base_122.specs.Sizes.{block_count}
use Rattle.base_122.specs.declared.geometry.Geometry.{Geometry}
use Rattle.base_122.specs.declared.wish.DecodeWish.{DecodeWish}
use Rattle.packet_defs.specs.Streams.{left_over, has_bad_version}
use Rattle.packet_defs.specs.declared.packet.Framing.{Framing}
use Rattle.stream_defs.specs.declared.range.RowRange.{RowRange}
use Rattle.stream_defs.specs.Damage.{is_covered, is_damaged, is_missing as is_missing_of}
use Rattle.stream_defs.specs.Begun.{HasFewPixels, begun_in}
use Rattle.stream_defs.specs.Fates.{geometry_in}
use Rattle.stream_defs.specs.Marks.{Marks}
use Rattle.stream_defs.proofs.DamageLaws.{whole_damage}
use Rattle.stream_defs.proofs.PlacedLaws.{is_open, is_not_open}
use Rattle.damage_rows.specs.Table.{is_missing}
use Rattle.damage_rows.proofs.RangeLaws.{damaged_by}
use Rattle.segment_defs.specs.TextWish.{TextWish}
use Rattle.strip_decoder.specs.declared.ending.DecodeDone.{DecodeDone}
use Rattle.strip_decoder.specs.declared.ending.DecodeFault.{DecodeFault}
use Rattle.strip_decoder.specs.declared.ending.DecodeFault.TheVariants.{ReadFault, WriteFault, NoSegment, TooManyPixels, LongInput, Memory}
use Rattle.packet_assembly.specs.Readings.{IsReadOut}
use Rattle.strip_decoder.specs.WalkAnswers.{PictureBy}
use Rattle.strip_decoder.specs.Answers.{Answers, Asks, Decodes as DecodesOver}
use Rattle.strip_decoder.specs.Finding.{GivesSome, FindAnswers, Finds}
use Rattle.strip_decoder.specs.Runs.{ReportsMany}
use Rattle.strip_decoder.proofs.Endings.{height_known}
use Rattle.quick_look.specs.Looks.{LookAnswers, LookAsks, Looks}
use Rattle.quick_look.specs.Listing.{AreLines, GivesSome as GivesSomeLines, RectAnswers, ListsRects}
use Rattle.strip122.specs.Notes.{IsNoted, Notes}
use Rattle.strip122.specs.DamageNotes.{damaged, is_known, damage_line, ReportsDone}
use Rattle.strip122.specs.Ran.{Asking, CausedWithin}
use Rattle.strip122.specs.Decoding.{Causes, RunsDecoder, AsksFound, Decodes, FindsDamage, LooksAt, FindsRects}
use Rattle.strip122.specs.Outcomes.{AtStatus, picture_outcomes}
use Rattle.strip122.proofs.Reports.{decoder_fault_status, decoder_fault_line, done_status, done_line, decode_line, decode_status}
use Rattle.strip122.proofs.NoteLines.{ran_on, nothing_noted}
use Rattle.stream_defs.proofs.Equations.{missing_below-is}

-- ---- after the note

known_before : (b c : Option (List ℕ)) (rest : List ℕ) → Loses b c [] → c ≡ Some rest → b ≡ Some rest
known_before None None rest l is = absurd cc
known_before None (Some now) rest l is = absurd l
known_before (Some before) None rest l is = absurd cc
known_before (Some before) (Some now) rest l is = ap Some l ∙ is

-- an input that was read to its end is so after a note too
pub out_later : (cap : ℕ) (b c : Outside) (took wrote : List ℕ) → Exchange b c [] [] wrote NoRead → IsReadOut cap b took → IsReadOut cap c took
out_later cap b c took wrote n (inl bad) = inl bad
out_later cap b c took wrote n (inr ended) = inr (at_end_later n ended.0, λ rest if_known. ended.1 rest (known_before b.rest c.rest rest n.rest if_known))

picture_later : (gives : Bool) {texts : TextWish} (wish : DecodeWish) (a b c : Outside) (took gave wrote : List ℕ) (done : DecodeDone) →
    Exchange b c [] [] wrote NoRead →
    PictureBy gives texts wish a b took gave done → PictureBy gives texts wish a c took gave done
picture_later gives wish a b c took gave wrote done n p = record {
  geometry = p.geometry;
  range = p.range;
  few = p.few;
  framing_is = p.framing_is;
  out = out_later wish.octets b c took wrote n p.out;
  written = p.written;
  rows = p.rows;
  if_known = p.if_known;
}

-- a cause is also valid after a note
decode_later : (wish : DecodeWish) (a b c : Outside) (took gave wrote : List ℕ) (r : Result DecodeDone DecodeFault) → Exchange b c [] [] wrote NoRead →
    Answers wish a b took gave r → Answers wish a c took gave r
decode_later wish a b c took gave wrote (Ok done) n k = picture_later true wish a b c took gave wrote done n k
decode_later wish a b c took gave wrote (Err NoSegment) n k = (k.0, out_later wish.octets b c took wrote n k.1, k.2)
decode_later wish a b c took gave wrote (Err (TooManyPixels pixels)) n k = k
decode_later wish a b c took gave wrote (Err LongInput) n k = k
decode_later wish a b c took gave wrote (Err ReadFault) n k = (omega (arith, k.0, n.faults.reads), k.1)
decode_later wish a b c took gave wrote (Err WriteFault) n k = (omega (arith, k.0, n.faults.writes), k.1, k.2)
decode_later wish a b c took gave wrote (Err Memory) n k = k

part_later : (wish : DecodeWish) (a b c : Outside) (took gave wrote : List ℕ) → Exchange b c [] [] wrote NoRead → GivesSome wish a b took gave →
    GivesSome wish a c took gave
part_later wish a b c took gave wrote n (inl none) = inl none
part_later wish a b c took gave wrote n (inr part) = inr record {
  done = part.done;
  found = picture_later false wish a b c took [] wrote part.done n part.found;
  some = part.some;
  lines = part.lines;
}

find_later : (wish : DecodeWish) (a b c : Outside) (took gave wrote : List ℕ) (r : Result DecodeDone DecodeFault) → Exchange b c [] [] wrote NoRead →
    FindAnswers wish a b took gave r → FindAnswers wish a c took gave r
find_later wish a b c took gave wrote (Ok done) n k = record { found = picture_later false wish a b c took [] wrote done n k.found; lines = k.lines }
find_later wish a b c took gave wrote (Err NoSegment) n k = (k.0, out_later wish.octets b c took wrote n k.1, k.2)
find_later wish a b c took gave wrote (Err (TooManyPixels pixels)) n k = k
find_later wish a b c took gave wrote (Err LongInput) n k = k
find_later wish a b c took gave wrote (Err ReadFault) n k = (omega (arith, k.0, n.faults.reads), k.1)
find_later wish a b c took gave wrote (Err WriteFault) n k = (omega (arith, k.0, n.faults.writes), k.1, part_later wish a b c took gave wrote n k.2)
find_later wish a b c took gave wrote (Err Memory) n k = k

look_later : (wish : DecodeWish) (a b c : Outside) (took gave wrote : List ℕ) (r : Result DecodeDone DecodeFault) → Exchange b c [] [] wrote NoRead →
    LookAnswers wish a b took gave r → LookAnswers wish a c took gave r
look_later wish a b c took gave wrote (Ok done) n k = record { found = picture_later false wish a b c took [] wrote done n k.found; look = k.look }
look_later wish a b c took gave wrote (Err NoSegment) n k = (k.0, out_later wish.octets b c took wrote n k.1, k.2)
look_later wish a b c took gave wrote (Err (TooManyPixels pixels)) n k = k
look_later wish a b c took gave wrote (Err LongInput) n k = k
look_later wish a b c took gave wrote (Err ReadFault) n k = (omega (arith, k.0, n.faults.reads), k.1)
look_later wish a b c took gave wrote (Err WriteFault) n k = (omega (arith, k.0, n.faults.writes), k.1, k.2)
look_later wish a b c took gave wrote (Err Memory) n k = k

lines_later : (wish : DecodeWish) (a b c : Outside) (took lines wrote : List ℕ) (done : DecodeDone) → Exchange b c [] [] wrote NoRead →
    AreLines wish a b took lines done → AreLines wish a c took lines done
lines_later wish a b c took lines wrote done n k = record { found = picture_later false wish a b c took [] wrote done n k.found; if_known = k.if_known }

prefix_later : (wish : DecodeWish) (a b c : Outside) (took gave wrote : List ℕ) → Exchange b c [] [] wrote NoRead → GivesSomeLines wish a b took gave →
    GivesSomeLines wish a c took gave
prefix_later wish a b c took gave wrote n (inl none) = inl none
prefix_later wish a b c took gave wrote n (inr part) =
    inr record {
      done = part.done;
      lines = part.lines;
      are = lines_later wish a b c took part.lines wrote part.done n part.are;
      some = part.some;
      gave_is =
          part.gave_is;
    }

rects_later : (wish : DecodeWish) (a b c : Outside) (took gave wrote : List ℕ) (r : Result DecodeDone DecodeFault) → Exchange b c [] [] wrote NoRead →
    RectAnswers wish a b took gave r → RectAnswers wish a c took gave r
rects_later wish a b c took gave wrote (Ok done) n k = lines_later wish a b c took gave wrote done n k
rects_later wish a b c took gave wrote (Err NoSegment) n k = (k.0, out_later wish.octets b c took wrote n k.1, k.2)
rects_later wish a b c took gave wrote (Err (TooManyPixels pixels)) n k = k
rects_later wish a b c took gave wrote (Err LongInput) n k = k
rects_later wish a b c took gave wrote (Err ReadFault) n k = (omega (arith, k.0, n.faults.reads), k.1)
rects_later wish a b c took gave wrote (Err WriteFault) n k = (omega (arith, k.0, n.faults.writes), k.1, prefix_later wish a b c took gave wrote n k.2)
rects_later wish a b c took gave wrote (Err Memory) n k = k

-- ---- the text of the note

pub reports_nothing : (ranges : List RowRange) (known : Bool) (framing : Option Framing) (a : Outside) → ranges ≡ [] → known ≡ true → framing ≡ None →
    ReportsDone ranges known framing a a 0
reports_nothing ranges known framing a unharmed if_known good = record {
  wrote = [];
  since = since_start a NoRead;
  status_is = rw (unharmed, if_known, good) refl;
  noted = inl (rw (unharmed, if_known, good) refl);
}

lacking_status : (ranges : List RowRange) (known : Bool) (framing : Option Framing) → (ranges ≡ [] → known ≡ true → framing ≡ None → ⊥) →
    1 ≡ done_status ranges known framing
lacking_status [] true None lacks = absurd (lacks refl refl refl)
lacking_status [] true (Some f) lacks = refl
lacking_status [] false framing lacks = refl
lacking_status (r ∷ rs) known framing lacks = refl

pub lacking_line : (ranges : List RowRange) (known : Bool) (framing : Option Framing) → (ranges ≡ [] → known ≡ true → framing ≡ None → ⊥) →
    done_line ranges known framing ≡ damage_line ranges known framing
lacking_line [] true None lacks = absurd (lacks refl refl refl)
lacking_line [] true (Some f) lacks = refl
lacking_line [] false framing lacks = refl
lacking_line (r ∷ rs) known framing lacks = refl

pub reports_damage : (ranges : List RowRange) (known : Bool) (framing : Option Framing) (a b : Outside) → (ranges ≡ [] → known ≡ true → framing ≡ None → ⊥) →
    Notes a b (damage_line ranges known framing) →
    ReportsDone ranges known framing a b 1
reports_damage ranges known framing a b lacks n = record {
  wrote = n.0;
  since = n.1;
  status_is = lacking_status ranges known framing lacks;
  noted = subst (IsNoted a b n.0) (sym (lacking_line ranges known framing lacks)) n.2;
}

-- ---- the height

pub known_some : (g : Geometry) → is_known g ≡ true → g.rows ≢ 0
known_some g known none = let open_rows = is_open g.rows none in let shut : not true ≡ true = subst (λ b. not b ≡ true) open_rows known in false≢true shut

pub some_known : (g : Geometry) → g.rows ≢ 0 → is_known g ≡ true
some_known g some = ap not (is_not_open g.rows some)

-- ---- nothing is damaged only if nothing is missing

rows_below : (n : ℕ) → All (λ k. k < n) (range_with_len 0 n)
rows_below n = All-from_get_or (λ k. k < n) (range_with_len 0 n) 0 (λ i below. let size = length-range_with_len 0 n in let at =
    get_or-range_with_len 0 n i 0 (omega (arith, below, size)) in omega (arith, at, below, size))

none_listed : (rows : ℕ) (p : ℕ → Bool) (missing : List ℕ) → missing ≡ filter p (range_with_len 0 (block_count rows)) →
    ((row : ℕ) → is_damaged rows missing row ≡ false) → missing ≡ []
none_listed rows p [] is none = refl
none_listed rows p (r ∷ rs) is none =
    let all : All (λ k. k < block_count rows) (r ∷ rs) =
    subst (All (λ k. k < block_count rows)) (sym is) (All-filter p (λ k. k < block_count rows) _ (rows_below (block_count rows))) in
    let low : r < block_count rows = All-get_or (λ k. k < block_count rows) (r ∷ rs) 0 0 (omega arith) all in
    let within : 8 * r < rows = omega (arith, low) in
    let same : (r == r) ≡ true = eq-eqb r r refl in
    let listed : is_missing (r ∷ rs) r ≡ true = rw same refl in
    absurd (false≢true (sym (none (8 * r)) ∙ damaged_by rows (r ∷ rs) (8 * r) r within listed (omega arith) (omega arith)))

-- a row that is in no range isn't damaged
undamaged : (m : Marks) → damaged m ≡ [] → (row : ℕ) → is_damaged m.rows m.missing row ≡ false
undamaged m none row = sym ((whole_damage m.rows m.missing).0.each row) ∙ ap (λ rs. is_covered rs row) none

missing_listed : (gives : Bool) {texts : TextWish} (wish : DecodeWish) (a b : Outside) (took gave : List ℕ) (done : DecodeDone) →
    PictureBy gives texts wish a b took gave done →
    damaged done.damage ≡ [] → done.geometry.rows ≢ 0 →
    (all : List ℕ) → a.rest ≡ Some all → done.damage.missing ≡ []
missing_listed gives wish a b took gave done p none known all if_known =
    let t = p.if_known all if_known in
    let rows : done.damage.rows ≡ done.geometry.rows = p.rows ∙ p.written ∙ height_known done.geometry (begun_in wish.apid took) known in
    none_listed done.damage.rows (is_missing_of done.geometry t.0) done.damage.missing
    (t.3.missing known ∙ missing_below-is _ _ _ ∙ ap (λ n. filter (is_missing_of done.geometry t.0) (range_with_len 0 (block_count n))) (sym rows))
    (undamaged done.damage none)

-- ---- what follows from each cause

-- an image that was read, of few pixels, and to the end; if its height is known and no row is damaged, nothing is missing
pub record SawImage (wish : DecodeWish) (old new : Outside) (took : List ℕ) (done : DecodeDone) : Type 0 where
  pub geometry : geometry_in wish.apid took ≡ Some done.geometry
  pub few : HasFewPixels wish.pixels wish.apid took
  pub out : IsReadOut wish.octets new took
  pub none_missing : damaged done.damage ≡ [] → done.geometry.rows ≢ 0 → (all : List ℕ) → old.rest ≡ Some all → done.damage.missing ≡ []

-- what follows from an answer for the octets and the faults, whatever was given
abbrev pub Says : DecodeWish → Outside → Outside → List ℕ → List ℕ → Result DecodeDone DecodeFault → Type 0
Says wish old new took gave (Ok done) = SawImage wish old new took done
Says wish old new took gave (Err NoSegment) = (geometry_in wish.apid took ≡ None) × IsReadOut wish.octets new took
Says wish old new took gave (Err (TooManyPixels pixels)) = ReportsMany wish.pixels wish.apid pixels took
Says wish old new took gave (Err LongInput) = (length took ≡ wish.octets) × (has_bad_version (left_over took) ≡ false)
Says wish old new took gave (Err ReadFault) = Rose old.read_faults new.read_faults
Says wish old new took gave (Err WriteFault) = Rose old.write_faults new.write_faults
Says wish old new took gave (Err Memory) = gave ≡ []

saw : (gives : Bool) {texts : TextWish} (wish : DecodeWish) (a b : Outside) (took gave : List ℕ) (done : DecodeDone) →
    PictureBy gives texts wish a b took gave done →
    SawImage wish a b took done
saw gives wish a b took gave done p = record { geometry = p.geometry; few = p.few; out = p.out; none_missing = missing_listed gives wish a b took gave done p }

-- this follows from all answers of an engine
abbrev pub AllSay : DecodeWish → Causes → Type 0
AllSay wish answers = (old new : Outside) (took gave : List ℕ) (r : Result DecodeDone DecodeFault) → answers old new took gave r → Says wish old new took gave r

pub decode_says : (wish : DecodeWish) → AllSay wish (Answers wish)
decode_says wish a b took gave (Ok done) k = saw true wish a b took gave done k
decode_says wish a b took gave (Err NoSegment) k = (k.0, k.1)
decode_says wish a b took gave (Err (TooManyPixels pixels)) k = k.0.many
decode_says wish a b took gave (Err LongInput) k = (k.0, k.1)
decode_says wish a b took gave (Err ReadFault) k = k.0
decode_says wish a b took gave (Err WriteFault) k = k.0
decode_says wish a b took gave (Err Memory) k = k

pub find_says : (wish : DecodeWish) → AllSay wish (FindAnswers wish)
find_says wish a b took gave (Ok done) k = saw false wish a b took [] done k.found
find_says wish a b took gave (Err NoSegment) k = (k.0, k.1)
find_says wish a b took gave (Err (TooManyPixels pixels)) k = k.0.many
find_says wish a b took gave (Err LongInput) k = (k.0, k.1)
find_says wish a b took gave (Err ReadFault) k = k.0
find_says wish a b took gave (Err WriteFault) k = k.0
find_says wish a b took gave (Err Memory) k = k

pub look_says : (wish : DecodeWish) → AllSay wish (LookAnswers wish)
look_says wish a b took gave (Ok done) k = saw false wish a b took [] done k.found
look_says wish a b took gave (Err NoSegment) k = (k.0, k.1)
look_says wish a b took gave (Err (TooManyPixels pixels)) k = k.0.many
look_says wish a b took gave (Err LongInput) k = (k.0, k.1)
look_says wish a b took gave (Err ReadFault) k = k.0
look_says wish a b took gave (Err WriteFault) k = k.0
look_says wish a b took gave (Err Memory) k = k

pub rects_say : (wish : DecodeWish) → AllSay wish (RectAnswers wish)
rects_say wish a b took gave (Ok done) k = saw false wish a b took [] done k.found
rects_say wish a b took gave (Err NoSegment) k = (k.0, k.1)
rects_say wish a b took gave (Err (TooManyPixels pixels)) k = k.0.many
rects_say wish a b took gave (Err LongInput) k = (k.0, k.1)
rects_say wish a b took gave (Err ReadFault) k = k.0
rects_say wish a b took gave (Err WriteFault) k = k.0
rects_say wish a b took gave (Err Memory) k = k

-- ---- after the note of a command

-- all answers of an engine are also answers after a note
abbrev pub AllLast : Causes → Type 0
AllLast answers = (a b c : Outside) (took gave wrote : List ℕ) (r : Result DecodeDone DecodeFault) → Exchange b c [] [] wrote NoRead →
    answers a b took gave r → answers a c took gave r

module _ (wish : DecodeWish) (answers : Causes) (asks : Asking) (later : AllLast answers) (a b c : Outside) {took gave : List ℕ}
    (run : Exchange a b took gave [] (asks a took gave)) (within : length took ≤ wish.octets) (status : ℕ) where
  done_noted : (done : DecodeDone) → answers a b took gave (Ok done) → ReportsDone (damaged done.damage) (is_known done.geometry) done.framing b c status →
      RunsDecoder (CausedWithin wish.octets answers) asks a c status
  done_noted done k n = ran_on a b c (Ok done) took gave n.wrote status run
      (record { within = within; cause = later a b c took gave n.wrote (Ok done) n.since k }) n.since n.status_is n.noted

  fault_noted : (fault : DecodeFault) → answers a b took gave (Err fault) → Notes b c (decoder_fault_line fault) → status ≡ decoder_fault_status fault →
      RunsDecoder (CausedWithin wish.octets answers) asks a c status
  fault_noted fault k n is = ran_on a b c (Err fault) took gave n.0 status run
      (record { within = within; cause = later a b c took gave n.0 (Err fault) n.1 k }) n.1 is n.2

pub decoded : (wish : DecodeWish) (a b c : Outside) (done : DecodeDone) (status : ℕ) → DecodesOver wish a b (Ok done) →
    ReportsDone (damaged done.damage) (is_known done.geometry) done.framing b c status → Decodes wish a c status
decoded wish a b c done status run n = done_noted wish (Answers wish) (Asks wish) (decode_later wish) a b c run.since run.within status done run.answer n

pub decode_failed : (wish : DecodeWish) (a b c : Outside) (fault : DecodeFault) (status : ℕ) → DecodesOver wish a b (Err fault) →
    Notes b c (decoder_fault_line fault) →
    status ≡ decoder_fault_status fault → Decodes wish a c status
decode_failed wish a b c fault status run n is = fault_noted wish (Answers wish) (Asks wish) (decode_later wish) a b c run.since run.within status fault
    run.answer n is

pub found : (wish : DecodeWish) (a b c : Outside) (done : DecodeDone) (status : ℕ) → Finds wish a b (Ok done) →
    ReportsDone (damaged done.damage) (is_known done.geometry) done.framing b c status → FindsDamage wish a c status
found wish a b c done status run n = done_noted wish (FindAnswers wish) (AsksFound wish) (find_later wish) a b c run.since run.within status done run.answer n

pub find_failed : (wish : DecodeWish) (a b c : Outside) (fault : DecodeFault) (status : ℕ) → Finds wish a b (Err fault) → Notes b c (decoder_fault_line fault) →
    status ≡ decoder_fault_status fault → FindsDamage wish a c status
find_failed wish a b c fault status run n is = fault_noted wish (FindAnswers wish) (AsksFound wish) (find_later wish) a b c run.since run.within status
    fault run.answer n is

pub looked : (wish : DecodeWish) (a b c : Outside) (done : DecodeDone) (status : ℕ) → Looks wish a b (Ok done) →
    ReportsDone (damaged done.damage) (is_known done.geometry) done.framing b c status → LooksAt wish a c status
looked wish a b c done status run n = done_noted wish (LookAnswers wish) (LookAsks wish) (look_later wish) a b c run.since run.within status done run.answer n

pub look_failed : (wish : DecodeWish) (a b c : Outside) (fault : DecodeFault) (status : ℕ) → Looks wish a b (Err fault) → Notes b c (decoder_fault_line fault) →
    status ≡ decoder_fault_status fault → LooksAt wish a c status
look_failed wish a b c fault status run n is = fault_noted wish (LookAnswers wish) (LookAsks wish) (look_later wish) a b c run.since run.within status fault
    run.answer n is

pub listed_rects : (wish : DecodeWish) (a b c : Outside) (done : DecodeDone) (status : ℕ) → ListsRects wish a b (Ok done) →
    ReportsDone (damaged done.damage) (is_known done.geometry) done.framing b c status → FindsRects wish a c status
listed_rects wish a b c done status run n = done_noted wish (RectAnswers wish) (AsksFound wish) (rects_later wish) a b c run.since run.within status done
    run.answer n

pub rects_failed : (wish : DecodeWish) (a b c : Outside) (fault : DecodeFault) (status : ℕ) → ListsRects wish a b (Err fault) →
    Notes b c (decoder_fault_line fault) →
    status ≡ decoder_fault_status fault → FindsRects wish a c status
rects_failed wish a b c fault status run n is = fault_noted wish (RectAnswers wish) (AsksFound wish) (rects_later wish) a b c run.since run.within status
    fault run.answer n is

-- ---- each status

pub undamaged_status : (ranges : List RowRange) (known : Bool) (framing : Option Framing) → done_status ranges known framing ≡ 0 →
    (ranges ≡ []) × (known ≡ true) × (framing ≡ None)
undamaged_status [] true None e = (refl, refl, refl)
undamaged_status [] true (Some f) e = absurd (omega (arith, e))
undamaged_status [] false framing e = absurd (omega (arith, e))
undamaged_status (r ∷ rs) known framing e = absurd (omega (arith, e))

pub damaged_status : (ranges : List RowRange) (known : Bool) (framing : Option Framing) → done_status ranges known framing ≡ 1 → ranges ≡ [] →
    known ≡ true → framing ≡ None → ⊥
damaged_status [] true None e none if_known good = absurd (omega (arith, e))
damaged_status [] true (Some f) e none if_known good = absurd cc
damaged_status [] false framing e none if_known good = absurd cc
damaged_status (r ∷ rs) known framing e none if_known good = absurd cc

pub status_small : (ranges : List RowRange) (known : Bool) (framing : Option Framing) →
    (done_status ranges known framing ≡ 0) ⊎ (done_status ranges known framing ≡ 1)
status_small [] true None = inl refl
status_small [] true (Some f) = inr refl
status_small [] false framing = inr refl
status_small (r ∷ rs) known framing = inr refl

pub fault_statuses : (fault : DecodeFault) → 3 ≤ decoder_fault_status fault
fault_statuses NoSegment = omega arith
fault_statuses (TooManyPixels pixels) = omega arith
fault_statuses LongInput = omega arith
fault_statuses ReadFault = omega arith
fault_statuses WriteFault = omega arith
fault_statuses Memory = omega arith

pub whole_line : (ranges : List RowRange) (known : Bool) (framing : Option Framing) → ranges ≡ [] → known ≡ true → framing ≡ None →
    done_line ranges known framing ≡ []
whole_line ranges known framing none if_known good = rw (none, if_known, good) refl

-- a run of an engine, and what follows for its status
pub picture_ends : (wish : DecodeWish) (answers : Causes) (asks : Asking) → AllSay wish answers → (old new : Outside) (status : ℕ) →
    RunsDecoder (CausedWithin wish.octets answers) asks old new status → AtStatus (picture_outcomes wish answers asks) old new status
picture_ends wish answers asks say old new status run = subst (AtStatus (picture_outcomes wish answers asks) old new) (sym run.status_is)
    (by run.answer run.noted run.cause)
  where
    done_ends : (done : DecodeDone) → IsNoted old new run.wrote (done_line (damaged done.damage) (is_known done.geometry) done.framing) →
        CausedWithin wish.octets answers old new run.took run.gave (Ok done) →
        AtStatus (picture_outcomes wish answers asks) old new (done_status (damaged done.damage) (is_known done.geometry) done.framing)
    done_ends done noted k = elim (status_small (damaged done.damage) (is_known done.geometry) done.framing) [
      | inl none ↦
          let fine = undamaged_status (damaged done.damage) (is_known done.geometry) done.framing none in
          let silent = nothing_noted old new run.wrote _ (whole_line (damaged done.damage) (is_known done.geometry) done.framing fine.0 fine.1 fine.2) noted in
          subst (AtStatus (picture_outcomes wish answers asks) old new) (sym none) record {
            done = done;
            took = run.took;
            gave = run.gave;
            since = subst (λ w. Exchange old new run.took run.gave w (asks old run.took run.gave)) silent run.since;
            cause = k;
            framing = fine.2;
            known = known_some done.geometry fine.1;
            none_damaged = fine.0;
            none_missing = (say old new run.took run.gave (Ok done) k.cause).none_missing fine.0 (known_some done.geometry fine.1);
          }
      | inr some ↦
          let lacks = damaged_status (damaged done.damage) (is_known done.geometry) done.framing some in
          subst (AtStatus (picture_outcomes wish answers asks) old new) (sym some) record {
            done = done;
            took = run.took;
            gave = run.gave;
            wrote = run.wrote;
            since = run.since;
            cause = k;
            lacks = λ none known good. lacks none (some_known done.geometry known) good;
            noted = subst (IsNoted old new run.wrote) (lacking_line (damaged done.damage) (is_known done.geometry) done.framing lacks) noted;
          }
    ]

    refuses : (fault : DecodeFault) → decoder_fault_status fault ≡ 3 → IsNoted old new run.wrote (decoder_fault_line fault) →
        CausedWithin wish.octets answers old new run.took run.gave (Err fault) → AtStatus (picture_outcomes wish answers asks) old new 3
    refuses fault three noted k =
        record { fault = fault; took = run.took; gave = run.gave; wrote = run.wrote; since = run.since; input = three; cause = k; noted = noted }

    by : (r : Result DecodeDone DecodeFault) → IsNoted old new run.wrote (decode_line r) → CausedWithin wish.octets answers old new run.took run.gave r →
        AtStatus (picture_outcomes wish answers asks) old new (decode_status r)
    by (Ok done) noted k = done_ends done noted k
    by (Err NoSegment) noted k = refuses NoSegment refl noted k
    by (Err (TooManyPixels pixels)) noted k = refuses (TooManyPixels pixels) refl noted k
    by (Err LongInput) noted k = refuses LongInput refl noted k
    by (Err ReadFault) noted k = say old new run.took run.gave (Err ReadFault) k.cause
    by (Err WriteFault) noted k = say old new run.took run.gave (Err WriteFault) k.cause
    by (Err Memory) noted k =
        let none = say old new run.took run.gave (Err Memory) k.cause in
        record {
          took = run.took;
          wrote = run.wrote;
          since = subst (λ g. Exchange old new run.took g run.wrote (asks old run.took g)) none run.since;
          within = k.within;
        }

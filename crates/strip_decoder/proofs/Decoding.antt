-- How a whole walk ends.
use Rattle.std.proofs.Common.{◌≡◌, ◌≤◌, ◌<◌, ◌*◌, ◌/◌, ℕ, List, [], ◌∷◌, ◌++◌, refl, sym, ap, subst, ◌∙◌, inl, inr, arith, Option, None, Some, Ok, Err}
use Rattle.std.proofs.Common.{mul-le-mul_right, append-nil}
use Rattle.std.proofs.lemmas.Bool.{false≢true}
use Rattle.std.proofs.lemmas.Nat.{div-mul-add}
use Rattle.std.proofs.lemmas.Bool.Decides.{nat_tests}
use Rattle.port_122.specs.Outside.{Outside}
use Rattle.port_122.proofs.Stretches.{rose_since, since_start}
use Rattle.base_122.specs.Sizes.{block_count}
use Rattle.base_122.specs.Ranges.{IsGeometryInRange}
use Rattle.base_122.proofs.SizeBounds.{block_count-rows}
use Rattle.base_122.specs.declared.geometry.Geometry.{Geometry}
use Rattle.base_122.specs.declared.wish.DecodeWish.{DecodeWish}
use Rattle.packet_defs.specs.declared.packet.Framing.{Framing}
use Rattle.stream_defs.specs.declared.fate.FateState.{FateState}
use Rattle.packet_defs.specs.Streams.{whole_packets}
use Rattle.stream_defs.specs.Begun.{begun_in, end_of, height, placed, rows_reached}
use Rattle.stream_defs.specs.Fates.{fresh, after_all, kept, kept_in}
use Rattle.stream_defs.specs.Marks.{ended_at}
use Rattle.stream_defs.proofs.PlacedLaws.{is_open, is_not_open, blocks_known, placed_same}
use Rattle.stream_defs.proofs.Equations.{most_is}
use Rattle.stream_defs.proofs.ChosenLaws.{after_all-append}
use Rattle.packet_assembly.specs.declared.note.SegmentStart.{SegmentStart}
use Rattle.packet_assembly.specs.Assembling.{Assembling, last_index, unread_assembly}
use Rattle.packet_assembly.specs.Segments.{FindsSegment, FoundNone}
use Rattle.packet_assembly.specs.Readings.{HasRead}
use Rattle.packet_assembly.proofs.Images.{begun_by, end_begun}
use Rattle.packet_assembly.proofs.Readings.{read_within, ended_packets, ended_out, long_packets, long_full, long_good}
use Rattle.segment_defs.specs.TextWish.{text_wish}
use Rattle.strip_decoder.specs.declared.ending.DecodeFault.{DecodeFault}
use Rattle.strip_decoder.specs.declared.ending.DecodeFault.TheVariants.{ReadFault, WriteFault, NoSegment, TooManyPixels, LongInput, Memory}
use Rattle.strip_decoder.specs.Sinks.{Numbers, SinkOf, blocks_with}
use Rattle.strip_decoder.specs.WalkSteps.{Walking, IsCurrent, Follows, passed_in}
use Rattle.strip_decoder.specs.Segments.{FindsNext, pixels_reached}
use Rattle.strip_decoder.specs.Runs.{Run, BreaksRun}
use Rattle.strip_decoder.specs.Walks.{HasPassedAll, IsDamageOf, PassesAll, Walks, run_of, walked_of}
use Rattle.strip_decoder.proofs.Staying.{known_or_not}
use Rattle.strip_decoder.proofs.Asking.{blocks_by, packets_then}
use Rattle.strip_decoder.proofs.RunEnds.{all_missing, open_damage}
use Rattle.strip_decoder.proofs.RunStarts.{HasFound, few_first, first_part, none_few, first_read, first_asks, first_end, none_kept}

-- ---- before the first segment

-- nothing was read yet
pub no_memory_first : {S : Type 0} (k : SinkOf S) (wish : DecodeWish) (now : Outside) → Walks k wish now now (Err Memory)
no_memory_first k wish now = record { took = []; gave = []; since = since_start now _; within = omega arith; for_some = inl refl; answer = refl }

module _ {S : Type 0} (k : SinkOf S) (wish : DecodeWish) (old new : Outside) (a b : Assembling) (unread : a ≡ unread_assembly wish.apid wish.octets)
    (found : FoundNone old new a b) where
  abbrev w : Run
  w = run_of wish old

  abbrev took : List ℕ
  took = found.passes.took

  none_read_yet : HasRead wish.apid wish.octets b took found.passed
  none_read_yet = first_read w new a b found.passed unread found.passes

  -- no packet was kept
  no_geometry : (after_all wish.apid fresh found.passed).geometry ≡ None
  no_geometry = none_kept wish.apid found.passed (ap (λ (s : FateState). last_index s.last) (sym none_read_yet.state) ∙ found.stays ∙
      ap (λ (a : Assembling). last_index a.state.last) unread)

pub first_none : {S : Type 0} (k : SinkOf S) (wish : DecodeWish) (old new : Outside) (a b : Assembling) → a ≡ unread_assembly wish.apid wish.octets →
    FindsSegment old new a b (Ok None) → Walks k wish old new (Err NoSegment)
first_none k wish old new a b unread finds =
    let w = run_of wish old in
    let found = finds.ends.0 in
    let read = none_read_yet k wish old new a b unread found in
    record {
      took = found.passes.took;
      gave = [];
      since = first_asks k w new a b found.passed unread found.passes;
      within = read_within read;
      for_some = inl refl;
      answer = (
        ap (λ xs. (after_all wish.apid fresh xs).geometry) (ended_packets read finds.ends.1) ∙ no_geometry k wish old new a b unread found,
        ended_out read new finds.ends.1 (first_end w new a b found.passed unread found.passes),
        refl,
      );
    }

pub first_fails : {S : Type 0} (k : SinkOf S) (wish : DecodeWish) (old new : Outside) (a b : Assembling) → a ≡ unread_assembly wish.apid wish.octets →
    (fault : DecodeFault) → FindsNext old new a b (Err fault) → Walks k wish old new (Err fault)
first_fails k wish old new a b unread ReadFault finds =
    let found = finds.ends.0 in
    record {
      took = found.passes.took;
      gave = [];
      since = first_asks k (run_of wish old) new a b found.passed unread found.passes;
      within = read_within (none_read_yet k wish old new a b unread found);
      for_some = inl refl;
      answer = (finds.ends.1, λ all if_known. first_part k (text_wish wish) wish.apid found.passes.took);
    }
first_fails k wish old new a b unread LongInput finds =
    let found = finds.ends.0 in
    let long = finds.ends.1 in
    let read = none_read_yet k wish old new a b unread found in
    let none = ap (λ xs. (after_all wish.apid fresh xs).geometry) (long_packets read long) ∙ no_geometry k wish old new a b unread found in
    record {
      took = found.passes.took;
      gave = [];
      since = first_asks k (run_of wish old) new a b found.passed unread found.passes;
      within = read_within read;
      for_some = inl refl;
      answer = (
        long_full read long,
        long_good read long,
        none_few wish.pixels wish.apid found.passes.took none,
        λ all if_known. first_part k (text_wish wish) wish.apid found.passes.took,
      );
    }
first_fails k wish old new a b unread other finds = absurd finds

-- ---- the first segment

module _ {S : Type 0} (k : SinkOf S) (wish : DecodeWish) (old new : Outside) (b : Assembling) (start : SegmentStart)
    (found : HasFound k (run_of wish old) new b start) where
  -- the image that its head reports
  reported : (image : Geometry) × (b.state.geometry ≡ Some image)
  reported =
      let begun = found.begun in
      let b' = begun_by wish.apid begun.before begun.packet start begun.starts in
      grind (arith, nat_tests, after_all-append)

  -- there is a geometry then
  pub never_none : b.state.geometry ≡ None → ⊥
  never_none none = let there = reported.1 in absurd (let both = sym none ∙ there in cc)

  pub too_many : (image : Geometry) (pixels : ℕ) → b.state.geometry ≡ Some image → pixels ≡ pixels_reached image start → wish.pixels < pixels →
      Walks k wish old new (Err (TooManyPixels pixels))
  too_many image pixels geometry is lt =
      let begun = found.begun in
      let there : (after_all wish.apid fresh (begun.before ++ begun.packet ∷ [])).geometry ≡ Some image =
      ap (λ xs. (after_all wish.apid fresh xs).geometry) (sym begun.passed_are) ∙ ap (λ (s : FateState). s.geometry) (sym found.read.state) ∙ geometry in
      let reached : pixels ≡ image.width * rows_reached image (end_of (kept wish.apid fresh (begun.before ++ begun.packet ∷ []))) =
      is ∙ ap (λ n. image.width * rows_reached image n) (sym (end_begun wish.apid begun.before begun.packet start begun.starts)) in
      record {
        took = found.took;
        gave = [];
        since = found.since;
        within = read_within found.read;
        for_some = inl refl;
        answer = (
          record {
            many = record {
              before = begun.before;
              packet = begun.packet;
              later = whole_packets (b.intake.pending ++ []);
              packets_are = ap whole_packets (sym (append-nil found.took)) ∙ packets_then (run_of wish old) b found.took [] found.went found.read
                  ∙ ap (λ xs. xs ++ whole_packets (b.intake.pending ++ [])) begun.passed_are;
              few = few_first k (run_of wish old) new b start found;
              image = image;
              geometry = there;
              pixels_are = reached;
              many = lt;
            };
            nothing = λ known. refl;
          },
          λ all if_known. first_part k (text_wish wish) wish.apid found.took,
        );
      }

  pub no_memory : Walks k wish old new (Err Memory)
  no_memory = record { took = found.took; gave = []; since = found.since; within = read_within found.read; for_some = inl refl; answer = refl }

-- ---- all blocks

rows_within : (m n c : ℕ) → 0 < c → m * c ≤ n * c → m ≤ n
rows_within m n c some le = grind (arith, nat_tests, mul-le-mul_right)

-- a walk has passed no more block rows than an image has
pub rows_few : {S : Type 0} (k : SinkOf S) (q : Walking S) → IsCurrent k q → q.at.row ≤ 32768
rows_few k q current = grind (arith, nat_tests, block_count-rows, rows_within)

-- so its picture has no more rows
pub written_few : (g : Geometry) (r : ℕ) → IsGeometryInRange g → r ≤ 32768 → height g r ≤ 262144
written_few g r range few = grind (arith, nat_tests, is_open, is_not_open)

-- the damage of what was passed
module _ {S : Type 0} (k : SinkOf S) (w : Run) (now : Outside) (image : Geometry) (q : Walking S) (found : Option Framing)
    (whole : HasPassedAll k w now image q found) where
  abbrev n : ℕ
  n = begun_in w.apid whole.took

  abbrev ended : ℕ
  ended = end_of (kept_in w.apid whole.took)

  abbrev c : ℕ
  c = block_count image.width

  begun_is : n ≡ ended / c
  begun_is = rw whole.geometry refl

  width : block_count q.geometry.width ≡ c
  width = ap (λ (g : Geometry). block_count g.width) whole.placed_is

  -- the block rows that were passed, while the height isn't known
  pub rows_passed : image.rows ≡ 0 → q.at.row ≡ n
  rows_passed none = grind (arith, nat_tests, is_open, width, div-mul-add, begun_is)

  -- the rows of the picture
  pub written_is : height image q.at.row ≡ height image n
  written_is = grind (arith, nat_tests, known_or_not, rows_passed, is_not_open)

  pub damage_is : (received : Numbers) (gave : List ℕ) → Follows k q (blocks_with image received) gave →
      IsDamageOf image received n (ended_at q.damage (height image q.at.row))
  damage_is received gave follows =
      let segment : q.geometry.segment ≡ image.segment = ap (λ (g : Geometry). g.segment) whole.placed_is in
      let here : Follows k q (blocks_with q.geometry received) gave =
      subst (λ blocks. Follows k q blocks gave) (ap (λ m. blocks_by m received) (sym segment)) follows in
      grind (
        arith,
        nat_tests,
        known_or_not,
        rows_passed,
        width,
        open_damage,
        rows_few,
        most_is,
        is_open,
        written_is,
        is_not_open,
        blocks_known,
        all_missing,
        placed_same,
      )

pub walk_done : {S : Type 0} (k : SinkOf S) (wish : DecodeWish) (old new : Outside) (q : Walking S) (image : Geometry) (found if_known : Option Framing) →
    HasPassedAll k (run_of wish old) new image q found → if_known ≡ found → Walks k wish old new (Ok (walked_of image if_known q))
walk_done k wish old new q image found if_known whole is =
    let w = run_of wish old in
    record {
      took = whole.took;
      gave = whole.gave;
      since = whole.since;
      within = whole.within;
      for_some = inr whole.for_some;
      answer = record {
        geometry = whole.geometry;
        range = whole.range;
        few = whole.small;
        framing_is = is ∙ whole.framing_is;
        out = whole.out;
        written = written_is k w new image q found whole;
        rows = refl;
        valid = subst (λ n. k.IsValid q.sink (placed image) n) whole.all (subst (λ g. k.IsValid q.sink g (passed_in q)) whole.placed_is whole.current.valid);
        if_known = λ all there.
            let t = whole.if_known all there in (
              t.0,
              t.1,
              subst (λ n. k.Follows q.sink (placed image) (blocks_with image t.0) n whole.gave) whole.all
                  (subst (λ g. k.Follows q.sink g (blocks_with image t.0) (passed_in q) whole.gave) whole.placed_is t.2.sink),
              damage_is k w new image q found whole t.0 whole.gave t.2,
            );
      };
    }

module _ {S : Type 0} (k : SinkOf S) (wish : DecodeWish) (old mid new : Outside) (reads : old.read_faults ≤ mid.read_faults)
    (writes : old.write_faults ≤ mid.write_faults) where
  pub walk_fails : (fault : DecodeFault) → PassesAll mid new (Err fault) → BreaksRun k (run_of wish old) new fault → Walks k wish old new (Err fault)
  walk_fails ReadFault ends broken = record {
    took = broken.took;
    gave = broken.gave;
    since = broken.since;
    within = broken.within;
    for_some =
        inr broken.for_some;
    answer = (rose_since reads ends, broken.part);
  }
  walk_fails WriteFault ends failed = let broken = failed.broken in record {
    took = broken.took;
    gave = broken.gave;
    since = broken.since;
    within =
        broken.within;
    for_some = inr broken.for_some;
    answer = (rose_since writes ends, failed.small, broken.part);
  }
  walk_fails LongInput ends long = let broken = long.broken in record {
    took = broken.took;
    gave = broken.gave;
    since = broken.since;
    within =
        broken.within;
    for_some = inr broken.for_some;
    answer = (long.full, long.good, long.small, broken.part);
  }
  walk_fails (TooManyPixels pixels) ends many =
      let broken = many.broken in
      record {
        took = broken.took;
        gave = broken.gave;
        since = broken.since;
        within = broken.within;
        for_some = inr broken.for_some;
        answer =
            (record { many = many.many; nothing = λ known. absurd (false≢true (sym known ∙ many.reported_last)) }, broken.part);
      }
  walk_fails NoSegment ends broken = absurd ends
  walk_fails Memory ends broken = absurd ends

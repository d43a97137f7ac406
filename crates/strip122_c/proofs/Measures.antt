-- The size of an image, from the headers of its packets.
use Rattle.std.proofs.Common.{◌≡◌, ◌≢◌, ◌⊎◌, ◌≤◌, ◌<◌, ◌+◌, ◌-◌, ◌*◌, ◌/◌, ◌^◌, ◌∙◌, ℕ, List, [], ◌∷◌, ◌++◌, length, length-append, append_assoc}
use Rattle.std.proofs.Common.{append-nil, refl, sym, ap, subst, inl, inr, arith, true, false, Option, Some, None, Result, Ok, Err, mul-le-mul_right}
use Rattle.std.proofs.lemmas.Bool.{false≢true}
use Rattle.std.proofs.lemmas.Nat.{div_below}
use Rattle.bit_pipe.specs.declared.fault.InFault.TheVariants as in_faults
use Rattle.port_122.specs.Outside.{Outside, IsUsedUp}
use Rattle.base_122.specs.Ranges.{IsGeometryInRange, IsWithin, rows_range}
use Rattle.base_122.specs.Sizes.{block_count}
use Rattle.base_122.specs.declared.geometry.Geometry.{Geometry}
use Rattle.base_122.specs.declared.wish.DecodeWish.{DecodeWish}
use Rattle.base_122.proofs.SizeBounds.{three-le-block_count, block_count-rows}
use Rattle.packet_defs.specs.Packets.{joined}
use Rattle.packet_defs.specs.Streams.{IsPacket, whole_packets}
use Rattle.packet_defs.proofs.Splits.{few_packets}
use Rattle.stream_defs.specs.declared.fate.FateState.{FateState}
use Rattle.stream_defs.specs.Agreement.{blocks_of}
use Rattle.stream_defs.specs.Begun.{HasFewPixels, begun, begun_in, end_of, placed, placed_rows, rows_reached}
use Rattle.stream_defs.specs.Fates.{fresh, after, after_all, kept, kept_in, geometry_in}
use Rattle.stream_defs.proofs.ChosenLaws.{after_all-append}
use Rattle.stream_defs.proofs.PlacedLaws.{reached_known, is_open, is_not_open}
use Rattle.packet_assembly.specs.declared.note.SegmentStart.{SegmentStart}
use Rattle.packet_assembly.specs.Assembling.{Assembling, BeginsNone, Passes, StaysAt, Starts, unread_assembly}
use Rattle.packet_assembly.specs.Passing.{whole_after}
use Rattle.packet_assembly.specs.Readings.{HasRead, SawEnd}
use Rattle.packet_assembly.specs.Segments.{FindsSegment, FoundNone, IsValidEnded, IsValidLong, WasFound}
use Rattle.packet_assembly.proofs.Images.{begun_by, end_begun, end_few, end_none, geometry_known, geometry_none}
use Rattle.packet_assembly.proofs.PacketSteps.{octets_left}
use Rattle.packet_assembly.proofs.Readings.{ended_out, ended_packets, end_on, long_full, long_good, long_packets, none_read, read_on, read_within}
use Rattle.strip_decoder.specs.Runs.{HasFew, ReportsMany}
use Rattle.strip_decoder.proofs.TextReads.{left_after}
use Rattle.strip122_c.specs.Measuring.{FindsHead, FoundHead, FoundMany, FoundNothing, HasLong, HasSize, IsMeasurable, IsMeasured, end_after}
use Rattle.strip122_c.specs.WholeDecoding.{HasNoSegment, HasTooMany, IsFirstHead, IsReadToEnd}
use Rattle.strip122_c.specs.declared.decode.DecodeRefusal.{DecodeRefusal}
use Rattle.strip122_c.specs.declared.decode.DecodeRefusal.TheVariants.{NoSegment, SmallRoom, TooManyPixels, LongInput, Memory}
use Rattle.strip122_c.specs.declared.measure.Measured.{Measured}
use Rattle.strip122_c.proofs.FirstHeads.{first_more, first_one, some_first}
use Rattle.strip122_c.proofs.WholeDecoded.{ended_to_end, ended_whole}
use Rattle.strip122_c.proofs.Written.{begun_is}

-- ---- what was read

-- Some of the packets were read, and their headers don't report too many pixels.
pub record HasHeads (wish : DecodeWish) (packets : List ℕ) (now : Outside) (a : Assembling) : Type 0 where
  pub took : List ℕ
  pub passed : List (List ℕ)
  pub rest : List ℕ
  pub if_known : now.rest ≡ Some rest
  pub are : packets ≡ took ++ rest
  pub read : HasRead wish.apid wish.octets a took passed
  pub at_end : SawEnd now a
  pub unheld : a.held ≡ None
  pub few : HasFew wish.pixels wish.apid passed

-- the header that was read last reports this
pub record HasHead (wish : DecodeWish) (packets : List ℕ) (now : Outside) (a : Assembling) (m : Measured) : Type 0 where
  pub heads : HasHeads wish packets now a
  pub geometry : a.state.geometry ≡ Some m.geometry
  pub range : IsGeometryInRange m.geometry
  pub ended : m.ended ≡ end_of (kept wish.apid fresh heads.passed)
  pub first : Geometry
  pub is_first : IsFirstHead wish.apid heads.passed first

none_some : (g : Geometry) → None ≡ Some g → ⊥
none_some g both = cc

abbrev no_heads : (wish : DecodeWish) (packets : List ℕ) (now : Outside) → now.rest ≡ Some packets →
    HasHeads wish packets now (unread_assembly wish.apid wish.octets)
no_heads wish packets now if_known = record {
  took = [];
  passed = [];
  rest = packets;
  if_known = if_known;
  are = refl;
  read = none_read wish.apid wish.octets;
  at_end = λ rest if_known ended. absurd (false≢true ended);
  unheld = refl;
  few = λ g there. absurd (none_some g there);
}

pub unread_heads : (wish : DecodeWish) (packets : List ℕ) (now : Outside) (a : Assembling) → a ≡ unread_assembly wish.apid wish.octets →
    now.rest ≡ Some packets → HasHeads wish packets now a
unread_heads wish packets now a unread if_known = subst (HasHeads wish packets now) (sym unread) (no_heads wish packets now if_known)

-- more packets were read
abbrev heads_on : {P : FateState → Type 0} {wish : DecodeWish} {packets : List ℕ} {old new : Outside} {a b : Assembling} {went : List (List ℕ)} →
    (h : HasHeads wish packets old a) → (q : Passes P old new a b went) →
    b.held ≡ None → HasFew wish.pixels wish.apid (h.passed ++ went) → HasHeads wish packets new b
heads_on {wish = wish} {old = old} {new = new} {went = went} h q unheld few =
    let left = left_after old.rest new.rest q.took h.rest q.since.rest h.if_known in
    record {
      took = h.took ++ q.took;
      passed = h.passed ++ went;
      rest = left.rest;
      if_known = left.if_known;
      are = h.are ∙ ap (λ xs. h.took ++ xs) left.are ∙ sym (append_assoc h.took q.took left.rest);
      read = read_on wish.apid wish.octets h.read q;
      at_end = end_on q h.at_end;
      unheld = unheld;
      few = few;
    }

-- ---- packets that begin no segment

few_none : (pixels apid : ℕ) (before went : List (List ℕ)) → HasFew pixels apid before → BeginsNone apid (after_all apid fresh before) went →
    HasFew pixels apid (before ++ went)
few_none pixels apid before went few none g there =
    let geometry : (after_all apid fresh before).geometry ≡ Some g =
    sym (geometry_none apid (after_all apid fresh before) went none) ∙ ap (λ (s : FateState). s.geometry) (sym (after_all-append apid fresh before went))
    ∙ there in
    subst (λ n. g.width * rows_reached g n ≤ pixels) (sym (end_none apid before went none)) (few g geometry)

module _ {wish : DecodeWish} {packets : List ℕ} {old : Outside} {a : Assembling} (h : HasHeads wish packets old a) where
  begins_none : (went : List (List ℕ)) → BeginsNone a.apid a.state went → BeginsNone wish.apid (after_all wish.apid fresh h.passed) went
  begins_none went none = subst (λ s. BeginsNone wish.apid s went) h.read.state (subst (λ n. BeginsNone n a.state went) h.read.apid none)

  module _ (new : Outside) (b : Assembling) (found : FoundNone old new a b) where
    none : BeginsNone wish.apid (after_all wish.apid fresh h.passed) found.passed
    none = begins_none found.passed found.none_begins

    abbrev heads_none : HasHeads wish packets new b
    heads_none = heads_on h found.passes found.none_after (few_none wish.pixels wish.apid h.passed found.passed h.few none)

    -- to their end
    abbrev none_ended : IsValidEnded b → IsReadToEnd wish.octets packets
    none_ended ended =
        let on = heads_none in
        ended_to_end wish.octets on.took packets on.rest new on.if_known on.are (read_within on.read) (ended_out on.read new ended on.at_end)

    -- which then are all
    none_packets : IsValidEnded b → whole_packets packets ≡ h.passed ++ found.passed
    none_packets ended =
        let on = heads_none in
        let same : whole_packets on.took ≡ whole_packets packets =
        ended_whole wish.octets on.took packets on.rest new on.if_known on.are (ended_out on.read new ended on.at_end) in
        sym same ∙ ended_packets on.read ended

    -- too long
    none_long : IsValidLong b → ((g : Geometry) → IsFirstHead wish.apid (h.passed ++ found.passed) g → g.rows ≢ 0 → ⊥) → HasLong wish packets
    none_long long not_known =
        let on = heads_none in
        record {
          took = on.took;
          rest = on.rest;
          are = on.are;
          long = long_full on.read long;
          readable = long_good on.read long;
          few = subst (HasFew wish.pixels wish.apid) (sym (long_packets on.read long)) on.few;
          open_first = λ g reports. not_known g (subst (λ packets. IsFirstHead wish.apid packets g) (long_packets on.read long) reports.0) reports.1;
        }

-- the height isn't known from the first header
pub long_heads : {wish : DecodeWish} {packets : List ℕ} {old : Outside} {a : Assembling} (new : Outside) (b : Assembling) (m : Measured) →
    (h : HasHead wish packets old a m) → h.first.rows ≡ 0 → FindsSegment old new a b (Err in_faults.LongInput) → HasLong wish packets
long_heads {wish = wish} new b m h unknown finds =
    let found = finds.ends.0 in
    none_long h.heads new b found finds.ends.1
    (λ g first known.
    let same : h.first ≡ g = first_one wish.apid (h.heads.passed ++ found.passed) h.first g (first_more found.passed h.is_first) first in
    known (ap (λ (g : Geometry). g.rows) (sym same) ∙ unknown))

-- there is no header
pub long_start : {wish : DecodeWish} {packets : List ℕ} {old : Outside} {a : Assembling} (new : Outside) (b : Assembling) →
    a ≡ unread_assembly wish.apid wish.octets → old.rest ≡ Some packets → FindsSegment old new a b (Err in_faults.LongInput) → HasLong wish packets
long_start {wish = wish} {packets = packets} {old = old} new b unread if_known finds = by (subst (λ a. FoundNone old new a b) unread finds.ends.0)
  where
    by : FoundNone old new (unread_assembly wish.apid wish.octets) b → HasLong wish packets
    by found =
        let h = no_heads wish packets old if_known in
        none_long h new b found finds.ends.1
        (λ g first known. some_first wish.apid found.passed g first (geometry_none wish.apid fresh found.passed (none h new b found)))

-- no packet begins a segment
pub no_segment : {wish : DecodeWish} {packets : List ℕ} {old : Outside} {a : Assembling} (new : Outside) (b : Assembling) →
    a ≡ unread_assembly wish.apid wish.octets → old.rest ≡ Some packets → FindsSegment old new a b (Ok None) → HasNoSegment wish packets
no_segment {wish = wish} {packets = packets} {old = old} new b unread if_known finds = by (subst (λ a. FoundNone old new a b) unread finds.ends.0)
  where
    by : FoundNone old new (unread_assembly wish.apid wish.octets) b → HasNoSegment wish packets
    by found =
        let h = no_heads wish packets old if_known in
        record {
          none = ap (λ all. (after_all wish.apid fresh all).geometry) (none_packets h new b found finds.ends.1) ∙ geometry_none wish.apid fresh found.passed
              (none h new b found);
          to_end = none_ended h new b found finds.ends.1;
        }

-- ---- a segment that begins

module _ {wish : DecodeWish} {packets : List ℕ} {old new : Outside} {a b : Assembling} {start : SegmentStart} (h : HasHeads wish packets old a)
    (found : WasFound old new a b start) where
  abbrev before : List (List ℕ)
  before = h.passed ++ found.prefix

  abbrev parts : h.passed ++ (found.prefix ++ found.packet ∷ []) ≡ before ++ found.packet ∷ []
  parts = sym (append_assoc h.passed found.prefix (found.packet ∷ []))

  state_before : after_all a.apid a.state found.prefix ≡ after_all wish.apid fresh before
  state_before =
      ap (λ n. after_all n a.state found.prefix) h.read.apid ∙ ap (λ s. after_all wish.apid s found.prefix) h.read.state
      ∙ sym (after_all-append wish.apid fresh h.passed found.prefix)

  starts : Starts wish.apid (after_all wish.apid fresh before) found.packet start
  starts = subst (λ s. Starts wish.apid s found.packet start) state_before (subst (λ n. Starts n (after_all a.apid a.state found.prefix) found.packet start)
      h.read.apid found.starts)

  ended_is : end_of (kept wish.apid fresh (before ++ found.packet ∷ [])) ≡ end_after start
  ended_is = end_begun wish.apid before found.packet start starts

  state_is : b.state ≡ after_all wish.apid fresh (before ++ found.packet ∷ [])
  state_is = (read_on wish.apid wish.octets h.read found.passed).state ∙ ap (after_all wish.apid fresh) parts

  geometry_there : (g : Geometry) → b.state.geometry ≡ Some g → (after_all wish.apid fresh (before ++ found.packet ∷ [])).geometry ≡ Some g
  geometry_there g if_known = ap (λ (s : FateState). s.geometry) (sym state_is) ∙ if_known

  few_before : HasFew wish.pixels wish.apid before
  few_before = few_none wish.pixels wish.apid h.passed found.prefix h.few (begins_none h found.prefix found.none_before)

  few_there : (g : Geometry) → b.state.geometry ≡ Some g → g.width * rows_reached g (end_after start) ≤ wish.pixels →
      HasFew wish.pixels wish.apid (before ++ found.packet ∷ [])
  few_there g if_known few k there =
      let same : g ≡ k = (let both : Some g ≡ Some k = sym (geometry_there g if_known) ∙ there in cc) in
      subst (λ (k : Geometry). k.width * rows_reached k (end_of (kept wish.apid fresh (before ++ found.packet ∷ []))) ≤ wish.pixels) same
      (subst (λ n. g.width * rows_reached g n ≤ wish.pixels) (sym ended_is) few)

  abbrev head_there : (m : Measured) (first : Geometry) → b.state.geometry ≡ Some m.geometry → IsGeometryInRange m.geometry → m.ended ≡ end_after start →
      m.geometry.width * rows_reached m.geometry m.ended ≤ wish.pixels →
      IsFirstHead wish.apid (before ++ found.packet ∷ []) first → HasHead wish packets new b m
  head_there m first if_known range ended few is_first = record {
    heads = heads_on h found.passed found.none_after (subst (HasFew wish.pixels wish.apid) (sym parts)
        (few_there m.geometry if_known (subst (λ n. m.geometry.width * rows_reached m.geometry n ≤ wish.pixels) ended few)));
    geometry = if_known;
    range = range;
    ended = ended ∙ sym ended_is ∙ ap (λ all. end_of (kept wish.apid fresh all)) (sym parts);
    first = first;
    is_first = subst (λ all. IsFirstHead wish.apid all first) (sym parts) is_first;
  }

  -- it is the first, or it isn't
  first_there : (g : Geometry) → b.state.geometry ≡ Some g → (after_all wish.apid fresh before).geometry ≡ None →
      IsFirstHead wish.apid (before ++ found.packet ∷ []) g
  first_there g if_known none = record {
    before = before;
    packet = found.packet;
    later = [];
    packets_are = sym (append-nil (before ++ found.packet ∷ []));
    none = none;
    geometry = geometry_there g if_known;
  }

  later_there : (g : Geometry) → IsFirstHead wish.apid h.passed g → IsFirstHead wish.apid (before ++ found.packet ∷ []) g
  later_there g first = subst (λ all. IsFirstHead wish.apid all g) parts (first_more (found.prefix ++ found.packet ∷ []) first)

  many_there : (pixels : ℕ) (g : Geometry) → b.state.geometry ≡ Some g → pixels ≡ g.width * rows_reached g (end_after start) → wish.pixels < pixels →
      HasTooMany wish packets pixels
  many_there pixels g if_known is many =
      let read = read_on wish.apid wish.octets h.read found.passed in
      let left = left_after old.rest new.rest found.passed.took h.rest found.passed.since.rest h.if_known in
      record {
        took = h.took ++ found.passed.took;
        rest = left.rest;
        are = h.are ∙ ap (λ xs. h.took ++ xs) left.are ∙ sym (append_assoc h.took found.passed.took left.rest);
        within = read_within read;
        many = record {
          before = before;
          packet = found.packet;
          later = whole_packets b.intake.pending;
          packets_are = ap whole_packets read.octets_are ∙ whole_after (h.passed ++ (found.prefix ++ found.packet ∷ [])) b.intake.pending read.packets_are
              ∙ ap (λ xs. xs ++ whole_packets b.intake.pending) parts;
          few = few_before;
          image = g;
          geometry = geometry_there g if_known;
          pixels_are = is ∙ ap (λ n. g.width * rows_reached g n) (sym ended_is);
          many = many;
        };
      }

  never_none : b.state.geometry ≡ None → ⊥
  never_none none =
      let begun = begun_by wish.apid before found.packet start starts in
      let there = ap (λ (s : FateState). s.geometry) (state_is ∙ after_all-append wish.apid fresh before (found.packet ∷ [])) ∙ begun.geometry in
      let both : None ≡ Some begun.image = sym none ∙ there in cc

-- the octets that are left for an assembly are fewer
less_there : {old new : Outside} {a b : Assembling} {start : SegmentStart} → a.intake.taken ≤ a.intake.cap → (found : WasFound old new a b start) →
    octets_left b.intake < octets_left a.intake
less_there {a = a} {b = b} capped found =
    let q = found.passed in
    let went = found.prefix ++ found.packet ∷ [] in
    let some : 1 ≤ length (joined went) = (let few = few_packets went q.packets_are in omega (arith, few, length-append found.prefix (found.packet ∷ []))) in
    let sizes : length a.intake.pending + length q.took ≡ length (joined went) + length b.intake.pending =
    sym (length-append a.intake.pending q.took) ∙ ap length q.octets_are ∙ length-append (joined went) b.intake.pending in
    let within = q.capped capped in
    let cap = q.cap in
    let taken = q.taken in
    omega (arith, some, sizes, within, capped, cap, taken)

-- ---- the steps

not_held : {wish : DecodeWish} {packets : List ℕ} {old : Outside} {a : Assembling} {start : SegmentStart} → HasHeads wish packets old a →
    a.held ≡ Some start → ⊥
not_held {start = start} h held = let both : None ≡ Some start = sym h.unheld ∙ held in cc

-- the header that was read last, and the first one that was kept
pub record HasHeadFrom (wish : DecodeWish) (packets : List ℕ) (now : Outside) (a : Assembling) (m : Measured) (first : Geometry) : Type 0 where
  pub head : HasHead wish packets now a m
  pub first_is : head.first ≡ first

pub next_found : {wish : DecodeWish} {packets : List ℕ} {old new : Outside} {a b : Assembling} (before m : Measured) (first : Geometry) →
    HasHeadFrom wish packets old a before first → FoundHead wish.pixels old new a b m → HasHeadFrom wish packets new b m first
next_found last m first h f = elim f.finds.ends [
  | inl held ↦ absurd (not_held h.head.heads held.held)
  | inr found ↦ record {
    head = head_there h.head.heads found m h.head.first f.geometry f.range f.ended f.few
        (later_there h.head.heads found h.head.first h.head.is_first);
    first_is = h.first_is;
  }
]

pub first_found : {wish : DecodeWish} {packets : List ℕ} {old new : Outside} {a b : Assembling} (m : Measured) → a ≡ unread_assembly wish.apid wish.octets →
    old.rest ≡ Some packets → FoundHead wish.pixels old new a b m → HasHeadFrom wish packets new b m m.geometry
first_found {wish = wish} {packets = packets} {old = old} {new = new} {a = a} {b = b} m unread if_known f =
    by (subst (λ a. FoundHead wish.pixels old new a b m) unread f)
  where
    by : FoundHead wish.pixels old new (unread_assembly wish.apid wish.octets) b m → HasHeadFrom wish packets new b m m.geometry
    by f = elim f.finds.ends [
      | inl held ↦ absurd (not_held (no_heads wish packets old if_known) held.held)
      | inr found ↦
          let h = no_heads wish packets old if_known in
          record {
            head = head_there h found m m.geometry f.geometry f.range f.ended f.few
                (first_there h found m.geometry f.geometry (geometry_none wish.apid fresh found.prefix found.none_before));
            first_is = refl;
          }
    ]

pub many_found : {wish : DecodeWish} {packets : List ℕ} {old new : Outside} {a b : Assembling} (pixels : ℕ) → HasHeads wish packets old a →
    FoundMany wish.pixels old new a b pixels → HasTooMany wish packets pixels
many_found pixels h f = elim f.finds.ends [
  | inl held ↦ absurd (not_held h held.held)
  | inr found ↦ many_there h found pixels f.image f.geometry f.reached f.many
]

pub nothing_found : {wish : DecodeWish} {packets : List ℕ} {old new : Outside} {a b : Assembling} → HasHeads wish packets old a → FoundNothing old new a b → ⊥
nothing_found h f = elim f.finds.ends [
  | inl held ↦ not_held h held.held
  | inr found ↦ never_none h found f.none
]

pub less_found : {wish : DecodeWish} {packets : List ℕ} {old new : Outside} {a b : Assembling} {m : Measured} → HasHeads wish packets old a →
    FoundHead wish.pixels old new a b m → octets_left b.intake < octets_left a.intake
less_found h f = elim f.finds.ends [
  | inl held ↦ absurd (not_held h held.held)
  | inr found ↦ less_there h.read.capped found
]

-- ---- the size

-- at most the block rows of the tallest image
begun_few : (apid : ℕ) (passed : List (List ℕ)) (g : Geometry) → IsGeometryInRange g → (after_all apid fresh passed).geometry ≡ Some g →
    end_of (kept apid fresh passed) / block_count g.width ≤ 32768
begun_few apid passed g range if_known =
    let c = block_count g.width in
    let n = end_of (kept apid fresh passed) in
    let some = three-le-block_count g.width range.width.0 in
    let few = end_few apid passed g if_known in
    let tall : block_count (placed_rows g) ≤ 32768 = tall_rows range.rows in
    let most : block_count (placed_rows g) * c ≤ 32768 * c = mul-le-mul_right c tall in
    let turned : blocks_of (placed g) ≡ block_count (placed_rows g) * c = grind arith in
    let more : (32768 + 1) * c ≡ 32768 * c + c = grind arith in
    let low : n / c < 32768 + 1 = div_below n c (32768 + 1) (omega (arith, some)) (omega (arith, some, more, few, most, turned)) in
    omega (arith, low)
  where
    tall_rows : (g.rows ≡ 0) ⊎ IsWithin rows_range g.rows → block_count (placed_rows g) ≤ 32768
    tall_rows (inl none) = rw (is_open g.rows none) (block_count-rows 262144 (omega arith, omega arith))
    tall_rows (inr within) =
        let known : g.rows ≢ 0 = λ none. (let least = within.0 in omega (arith, none, least)) in
        rw (is_not_open g.rows known) (block_count-rows g.rows within)

measurable : {wish : DecodeWish} {packets : List ℕ} {now : Outside} {a : Assembling} (m : Measured) → HasHead wish packets now a m → IsMeasurable m
measurable {wish = wish} m h = record {
  range = h.range;
  few = subst (λ n. n / block_count m.geometry.width ≤ 32768) (sym h.ended)
      (begun_few wish.apid h.heads.passed m.geometry h.range (ap (λ (s : FateState). s.geometry) (sym h.heads.read.state) ∙ h.geometry));
}

-- The first header reports the height, which doesn't change.
pub known_size : {wish : DecodeWish} {packets : List ℕ} {now : Outside} {a : Assembling} (m : Measured) → HasHeadFrom wish packets now a m m.geometry →
    m.geometry.rows ≢ 0 → HasSize wish packets m
known_size {wish = wish} {packets = packets} {a = a} m from some =
    let g = m.geometry in
    let h = from.head in
    let on = h.heads in
    let is_first : IsFirstHead wish.apid on.passed g = subst (IsFirstHead wish.apid on.passed) from.first_is h.is_first in
    let taken : whole_packets on.took ≡ on.passed ++ whole_packets a.intake.pending =
    ap whole_packets on.read.octets_are ∙ whole_after on.passed a.intake.pending on.read.packets_are in
    let here : (after_all wish.apid fresh on.passed).geometry ≡ Some g = ap (λ (s : FateState). s.geometry) (sym on.read.state) ∙ h.geometry in
    let later : (octets : List ℕ) → geometry_in wish.apid (on.took ++ octets) ≡ Some g =
    λ octets.
    let all : whole_packets (on.took ++ octets) ≡ on.passed ++ whole_packets (a.intake.pending ++ octets) =
    ap (λ xs. whole_packets (xs ++ octets)) on.read.octets_are ∙ ap whole_packets (append_assoc (joined on.passed) a.intake.pending octets)
    ∙ whole_after on.passed (a.intake.pending ++ octets) on.read.packets_are in
    ap (λ all. (after_all wish.apid fresh all).geometry) all ∙ ap (λ (s : FateState). s.geometry)
    (after_all-append wish.apid fresh on.passed (whole_packets (a.intake.pending ++ octets)))
    ∙ geometry_known wish.apid on.passed (whole_packets (a.intake.pending ++ octets)) g here some in
    let first : geometry_in wish.apid on.took ≡ Some g = ap (geometry_in wish.apid) (sym (append-nil on.took)) ∙ later [] in
    let pixels : g.width * g.rows ≤ wish.pixels = subst (λ n. g.width * n ≤ wish.pixels) (reached_known g (end_of (kept wish.apid fresh on.passed)) some)
    (on.few g here) in
    record {
      took = on.took;
      rest = on.rest;
      are = on.are;
      within = read_within on.read;
      few = λ k there.
          let same : g ≡ k = (let both : Some g ≡ Some k = sym first ∙ there in cc) in
          subst (λ (k : Geometry). k.width * rows_reached k (end_of (kept_in wish.apid on.took)) ≤ wish.pixels) same
          (subst (λ n. g.width * n ≤ wish.pixels) (sym (reached_known g (end_of (kept_in wish.apid on.took)) some)) pixels);
      known = inl (subst (λ all. IsFirstHead wish.apid all g) (sym taken) (first_more (whole_packets a.intake.pending) is_first), some);
      reports = record { geometry = ap (geometry_in wish.apid) on.are ∙ later on.rest; range = h.range };
      begun = λ none. absurd (some none);
      measurable = measurable m h;
    }

-- All headers were read.
pub all_size : {wish : DecodeWish} {packets : List ℕ} {old : Outside} {a : Assembling} (new : Outside) (b : Assembling) (m : Measured) →
    HasHead wish packets old a m → FindsSegment old new a b (Ok None) → HasSize wish packets m
all_size {wish = wish} {packets = packets} {old = old} {a = a} new b m h finds =
    let g = m.geometry in
    let before = h.heads in
    let found = finds.ends.0 in
    let ended = finds.ends.1 in
    let on = heads_none before new b found in
    let to_end = none_ended before new b found ended in
    let all : whole_packets packets ≡ before.passed ++ found.passed = none_packets before new b found ended in
    let quiet = none before new b found in
    let here : (after_all wish.apid fresh before.passed).geometry ≡ Some g = ap (λ (s : FateState). s.geometry) (sym before.read.state) ∙ h.geometry in
    let there : geometry_in wish.apid packets ≡ Some g =
    ap (λ all. (after_all wish.apid fresh all).geometry) all ∙ ap (λ (s : FateState). s.geometry) (after_all-append wish.apid fresh before.passed found.passed)
    ∙ geometry_none wish.apid (after_all wish.apid fresh before.passed) found.passed quiet ∙ here in
    let same : m.ended ≡ end_of (kept_in wish.apid packets) =
    h.ended ∙ sym (end_none wish.apid before.passed found.passed quiet) ∙ ap (λ all. end_of (kept wish.apid fresh all)) (sym all) in
    record {
      took = on.took;
      rest = on.rest;
      are = on.are;
      within = read_within on.read;
      few = subst (HasFew wish.pixels wish.apid) (sym (ended_packets on.read ended)) on.few;
      known = inr record { to_end = to_end; few = subst (HasFew wish.pixels wish.apid) (sym all) on.few };
      reports = record { geometry = there; range = h.range };
      begun = λ unknown. ap (λ n. n / block_count g.width) same ∙ sym (begun_is wish.apid packets g there);
      measurable = measurable m h;
    }

-- ---- refusals

pub start_refused : (wish : DecodeWish) (packets : List ℕ) (old new : Outside) (a b : Assembling) (refusal : DecodeRefusal) →
    a ≡ unread_assembly wish.apid wish.octets → old.rest ≡ Some packets → FindsHead wish.pixels old new a b (Err refusal) →
    IsMeasured wish packets (Err refusal)
start_refused wish packets old new a b NoSegment unread if_known finds = absurd (nothing_found (unread_heads wish packets old a unread if_known) finds)
start_refused wish packets old new a b (SmallRoom g rows octets) unread if_known finds = absurd finds
start_refused wish packets old new a b (TooManyPixels pixels) unread if_known finds = many_found pixels (unread_heads wish packets old a unread if_known) finds
start_refused wish packets old new a b LongInput unread if_known finds = long_start new b unread if_known finds
start_refused wish packets old new a b Memory unread if_known finds = absurd finds

pub next_refused : {wish : DecodeWish} {packets : List ℕ} {old : Outside} {a : Assembling} (new : Outside) (b : Assembling) (m : Measured)
    (first : Geometry) (refusal : DecodeRefusal) → HasHeadFrom wish packets old a m first → first.rows ≡ 0 →
    FindsHead wish.pixels old new a b (Err refusal) → IsMeasured wish packets (Err refusal)
next_refused new b m first NoSegment h unknown finds = absurd (nothing_found h.head.heads finds)
next_refused new b m first (SmallRoom g rows octets) h unknown finds = absurd finds
next_refused new b m first (TooManyPixels pixels) h unknown finds = many_found pixels h.head.heads finds
next_refused new b m first LongInput h unknown finds = long_heads new b m h.head (ap (λ (g : Geometry). g.rows) h.first_is ∙ unknown) finds
next_refused new b m first Memory h unknown finds = absurd finds

-- The fates of an image's packets.
use Rattle.std.proofs.Common.{◌≡◌, ◌⊎◌, inl, inr, ◌≤◌, ◌<◌, ◌+◌, ◌-◌, ◌*◌, ◌/◌, ◌%◌, ◌^◌, ℕ, ℤ, List, [], ◌∷◌, min, refl, sym, ap, ◌∙◌, arith, Bool, true}
use Rattle.std.proofs.Common.{false, ◌==◌, ◌&&◌, ◌||◌, not, nat_le, nat_lt, if◌then◌else◌, Option, Some, None, Ok, unwrap_or, option_map, bytes_eq}
use Rattle.std.proofs.lemmas.Bool.{eq-eqb, ne_eqb, lt-leb, lt-ltb, le-leb, eqb-true, and_right}
use Rattle.std.proofs.Math.Nat.{mul-le-mul_left, mul-div_cancel_left, mul-mod_right}
use Rattle.std.proofs.lemmas.Bool.Decides.{nat_tests}
use Rattle.base_122.specs.declared.range.FieldRange.{FieldRange}
use Rattle.base_122.specs.Ranges.{IsWithin, is_within, rows_range, segment_range}
use Rattle.base_122.specs.Sizes.{block_count, total_blocks, padded_size}
use Rattle.base_122.specs.Setting.{image_geometry}
use Rattle.base_122.specs.declared.geometry.Geometry.{Geometry}
use Rattle.base_122.specs.declared.setting.Setting.{Setting}
use Rattle.base_122.proofs.SizeBounds.{first_block-lt, total-le-segments, three-le-block_count, block_count-rows}
use Rattle.base_122.specs.Sizes.{segment_count as segments}
use Rattle.segment_defs.specs.declared.fault.HeadFault.TheVariants.{BadValue}
use Rattle.segment_defs.specs.declared.fault.HeadField.TheVariants.{PadRows, Image}
use Rattle.segment_defs.specs.declared.head.SegmentHead.{SegmentHead}
use Rattle.segment_defs.specs.Reading.{head_read}
use Rattle.packet_defs.specs.declared.ancillary.Ancillary.{Ancillary}
use Rattle.packet_defs.specs.Reading.{skip_of, flags_in, ancillary_in, text_in}
use Rattle.packet_defs.specs.Tests.{when, first_of}
use Rattle.packet_defs.proofs.ReadBack.{none_first}
use Rattle.stream_defs.specs.declared.fate.Fate.{Fate}
use Rattle.stream_defs.specs.declared.fate.Fate.TheVariants.{Kept, Foreign, Late, OutOfPlace}
use Rattle.stream_defs.specs.declared.fate.LastPart.{LastPart}
use Rattle.stream_defs.specs.declared.fate.FateState.{FateState}
use Rattle.stream_defs.specs.Output.{head_for, image_part, segments_of}
use Rattle.stream_defs.specs.Agreement.{geometry_for, same_flag, is_of_image, has_blocks, ends_where_reported, pads_as_reported, may_have_blocks, may_end}
use Rattle.stream_defs.specs.Agreement.{disagreement, geometry_past}
use Rattle.stream_defs.specs.Fates.{fresh, reports_rows, is_past, differs, is_foreign, is_late, begins, follows, is_out_of_place, refusal_in, fate, is_kept}
use Rattle.stream_defs.specs.Fates.{geometry_after, part_in, after_kept, after}
use Rattle.stream_defs.specs.Places.{parts_of, packet_at, place_at, AreCoded}
use Rattle.stream_defs.specs.StreamLaws.{geometry_by}
use Rattle.stream_defs.proofs.OutPackets.{written_at, some_blocks, block_before, part_reads, part_begins, part_closes}

-- ---- the tests in their order

passes_all : (o p : Option Fate) (b c d : Bool) → o ≡ None → b ≡ false → c ≡ false → d ≡ false → p ≡ None →
    unwrap_or (first_of (o ∷ when b Foreign ∷ when c Late ∷ when d OutOfPlace ∷ p ∷ [])) Kept ≡ Kept
passes_all o p b c d x y z u v = rw (x, y, z, u, v) refl

fails_place : (o p : Option Fate) (b c d : Bool) → o ≡ None → b ≡ false → c ≡ false → d ≡ true →
    unwrap_or (first_of (o ∷ when b Foreign ∷ when c Late ∷ when d OutOfPlace ∷ p ∷ [])) Kept ≡ OutOfPlace
fails_place o p b c d x y z u = rw (x, y, z, u) refl

pub kept_by : (apid : ℕ) (st : FateState) (packet : List ℕ) → skip_of apid packet ≡ None → is_foreign st (ancillary_in packet) ≡ false →
    is_late st.last (ancillary_in packet) ≡ false → is_out_of_place st.last (flags_in packet) (ancillary_in packet) ≡ false →
    refusal_in st.geometry packet ≡ None →
    fate apid st packet ≡ Kept
unfolding fate
kept_by apid st packet mine own early placed head = passes_all _ _ _ _ _ (ap (option_map _) mine) own early placed (ap (option_map _) head)

pub misplaced_by : (apid : ℕ) (st : FateState) (packet : List ℕ) → skip_of apid packet ≡ None → is_foreign st (ancillary_in packet) ≡ false →
    is_late st.last (ancillary_in packet) ≡ false → is_out_of_place st.last (flags_in packet) (ancillary_in packet) ≡ true →
    fate apid st packet ≡ OutOfPlace
unfolding fate
misplaced_by apid st packet mine own early misplaced = fails_place _ _ _ _ _ (ap (option_map _) mine) own early misplaced

pub after_as_kept : (apid : ℕ) (st : FateState) (packet : List ℕ) → fate apid st packet ≡ Kept → after apid st packet ≡ after_kept st packet
unfolding after
after_as_kept apid st packet e = rw e refl

pub after_as_other : (apid : ℕ) (st : FateState) (packet : List ℕ) → is_kept (fate apid st packet) ≡ false → after apid st packet ≡ st
unfolding after
after_as_other apid st packet e = rw e refl

-- ---- numbers

within : (range : FieldRange) (n : ℕ) → IsWithin range n → is_within range n ≡ true
within range n both = let low = both.0 in let high = both.1 in grind (arith, nat_tests)

own_tests : (a b c d : Bool) → a ≡ true → b ≡ true → c ≡ true → d ≡ false → (not a || (not b || (not c || d))) ≡ false
own_tests a b c d x y z u = rw (x, y, z, u) refl

same_tests : (a b c d e : Bool) → a ≡ true → b ≡ true → c ≡ true → d ≡ true → e ≡ false → (not a || (not b || (not c || (not d || e)))) ≡ false
same_tests a b c d e x y z u v = rw (x, y, z, u, v) refl

flag_same : (b : Bool) → same_flag b b ≡ true
flag_same b = grind (arith, nat_tests)

bytes_same : (xs : List ℕ) → bytes_eq xs xs ≡ true
bytes_same [] = refl
bytes_same (x ∷ xs) = rw (eq-eqb x x refl) (bytes_same xs)

-- ---- what packets before a place leave

-- a part before the one at a place
abbrev pub IsEarlier : LastPart → (index part : ℕ) → Type 0
IsEarlier last index part = (last.index < index) ⊎ ((last.index ≡ index) × (last.part < part))

-- the state after a part of an image that is kept
abbrev pub state_by : (reported_last : Bool) → Setting → LastPart → FateState
state_by reported_last s last = record { geometry = Some (geometry_by reported_last s last.index); reported_last = reported_last; last = Some last }

-- nothing was kept yet, or an earlier part of this image was kept last
abbrev pub LeftBefore : (reported_last : Bool) → Setting → (index part : ℕ) → FateState → Type 0
LeftBefore reported_last s index part st = (st ≡ fresh) ⊎ ((last : LastPart) × (st ≡ state_by reported_last s last) × IsEarlier last index part)

-- the geometry before the last segment
abbrev geometry_first : (reported_last : Bool) → Setting → Geometry
geometry_first reported_last s = image_geometry s (if reported_last then 0 else s.rows)

not_late : (last : LastPart) (a : Ancillary) → IsEarlier last a.index a.part → is_late (Some last) a ≡ false
not_late last a h2 = grind (arith, nat_tests)

first_placed : (last : Option LastPart) (flags : ℕ) (a : Ancillary) → a.part ≡ 0 → begins flags ≡ true → is_out_of_place last flags a ≡ false
first_placed last flags a first flag = rw (eq-eqb a.part 0 first, flag) refl

next_placed : (last : LastPart) (flags : ℕ) (a : Ancillary) → (a.part == 0) ≡ false → begins flags ≡ false → follows (Some last) a ≡ true →
    is_out_of_place (Some last) flags a ≡ false
next_placed last flags a next flag here = rw (next, flag, here) refl

gap_misplaced : (last : Option LastPart) (flags : ℕ) (a : Ancillary) → (a.part == 0) ≡ false → begins flags ≡ false → follows last a ≡ false →
    is_out_of_place last flags a ≡ true
gap_misplaced last flags a next flag gap = rw (next, flag, gap) refl

follows_so : (last : LastPart) (a : Ancillary) → a.index ≡ last.index → a.part ≡ last.part + 1 → last.closed ≡ false → follows (Some last) a ≡ true
follows_so last a index part unclosed = rw (eq-eqb a.index last.index index, eq-eqb a.part (last.part + 1) part, unclosed) refl

same_last : {a b : LastPart} → a.index ≡ b.index → a.part ≡ b.part → a.closed ≡ b.closed → a ≡ b
same_last index part closed = λ i. record { index = index i; part = part i; closed = closed i }

same_state : {a b : FateState} → a.geometry ≡ b.geometry → a.reported_last ≡ b.reported_last → a.last ≡ b.last → a ≡ b
same_state geometry if_known last = λ i. record { geometry = geometry i; reported_last = if_known i; last = last i }

-- ---- the head agrees

-- a segment is the last one exactly if its blocks end the image's
last_by_blocks : (total S index : ℕ) → 0 < S → index < segments total S → (index + 1 == segments total S) ≡ (index * S + min S (total - index * S) == total)
last_by_blocks total S index some lt = grind (arith, nat_tests, first_block-lt, ne_eqb, total-le-segments, eq-eqb)

pads_last : (b : Bool) (n : ℕ) → (not b || ((if b then n else 0) == n)) ≡ true
pads_last b n = grind (arith, nat_tests, eq-eqb)

both : (a b : Bool) → a ≡ true → b ≡ true → (a && b) ≡ true
both a b x y = rw (x, y) refl

image_agrees : (s : Setting) (rows : ℕ) → is_of_image (image_geometry s rows) (image_part s) ≡ true
image_agrees s rows = rw (flag_same s.signed, eq-eqb s.depth s.depth refl, eq-eqb s.width s.width refl, eq-eqb s.word s.word refl) (bytes_same s.weights.shifts)

-- a head that agrees isn't refused
refusal_at : (current : Option Geometry) (packet : List ℕ) (a : Ancillary) (head : SegmentHead) → ancillary_in packet ≡ a → a.part ≡ 0 →
    head_read (text_in packet) ≡ Ok head →
    disagreement (geometry_for current a head.image) a head ≡ None → refusal_in current packet ≡ None
refusal_at current packet a head says first read agree = grind (arith, nat_tests, eq-eqb)

-- and it makes the geometry, or leaves it unchanged
geometry_at : (current : Option Geometry) (packet : List ℕ) (a : Ancillary) (head : SegmentHead) → ancillary_in packet ≡ a → a.part ≡ 0 →
    head_read (text_in packet) ≡ Ok head →
    geometry_after current packet ≡ Some (geometry_past (geometry_for current a head.image) a head)
geometry_at current packet a head says first read = grind (arith, nat_tests, eq-eqb)

-- ---- the height that the last head tells

more_after : (m n : ℕ) → m < n → (m + 1 == n) ≡ false → m + 1 < n
more_after m n lt e = grind (arith, nat_tests)

-- the last segment ends the image's block rows, and these without the padding rows are its height
ends_rows : (columns rows : ℕ) → 0 < columns → (columns * block_count rows) % columns ≡ 0
    × (8 * ((columns * block_count rows) / columns) - (padded_size rows - rows) ≡ rows)
ends_rows columns rows some = grind (arith, nat_tests, mul-div_cancel_left, mul-mod_right)

module _ (s : Setting) (all : List (List ℤ)) (coded : AreCoded s all) (index : ℕ) (lt : index < segments_of s) where
  some_columns : 0 < block_count s.width
  some_columns = let width = coded.setting.width in let three = three-le-block_count s.width width.0 in omega (arith, three)

  blocks_are : (head_for s all index).blocks ≡ min s.segment (total_blocks s.width s.rows - index * s.segment)
  blocks_are = coded.blocks index lt

  last_is : (index + 1 == segments_of s) ≡ (index * s.segment + (head_for s all index).blocks == total_blocks s.width s.rows)
  last_is = last_by_blocks (total_blocks s.width s.rows) s.segment index (some_blocks s all coded) lt
      ∙ ap (λ n. index * s.segment + n == total_blocks s.width s.rows) (sym blocks_are)

  -- if the packets report the height
  agrees_known : disagreement (image_geometry s s.rows) (written_at false s index 0) (head_for s all index) ≡ None
  unfolding disagreement
  agrees_known =
      let head = head_for s all index in
      let g = image_geometry s s.rows in
      let a = written_at false s index 0 in
      let before = block_before s all coded index lt in
      none_first (not (same_flag head.first (index == 0))) _ _ (ap not (flag_same (index == 0)))
      ∙ none_first (not (has_blocks g a head)) _ _
      (ap not (both _ _ (lt-ltb (index * s.segment) (total_blocks s.width s.rows) before)
      (eq-eqb head.blocks (min s.segment (total_blocks s.width s.rows - index * s.segment)) blocks_are)))
      ∙ none_first (not (ends_where_reported g a head)) _ _ (ap not (ap (same_flag head.last) (sym last_is) ∙ flag_same (index + 1 == segments_of s)))
      ∙ none_first (not (index % 256 == index % 256)) _ _ (ap not (eq-eqb (index % 256) (index % 256) refl))
      ∙ none_first (not (pads_as_reported g head)) _ _ (ap not (pads_last (index + 1 == segments_of s) (padded_size s.rows - s.rows)))
      ∙ none_first (not (is_of_image g head.image)) (BadValue Image) [] (ap not (image_agrees s s.rows))

  -- if it is reported last: by whether this segment is the last one
  known_blocks : (last : Bool) → (index + 1 == segments_of s) ≡ last →
      (if last then nat_le 1 (head_for s all index).blocks && nat_le (head_for s all index).blocks s.segment else (head_for s all index).blocks ==
      s.segment) ≡ true
  known_blocks true e =
      let before = block_before s all coded index lt in
      let some = some_blocks s all coded in
      both _ _ (le-leb 1 (head_for s all index).blocks (omega (arith, blocks_are, before, some)))
      (le-leb (head_for s all index).blocks s.segment (omega (arith, blocks_are)))
  known_blocks false e =
      let more : index + 1 < segments_of s = more_after index (segments_of s) lt e in
      let next : (index + 1) * s.segment < total_blocks s.width s.rows =
      first_block-lt (total_blocks s.width s.rows) s.segment (index + 1) (some_blocks s all coded) more in
      eq-eqb (head_for s all index).blocks s.segment (omega (arith, blocks_are, next))

  ends_last : (index + 1 == segments_of s) ≡ true → index * s.segment + (head_for s all index).blocks ≡ block_count s.width * block_count s.rows
  ends_last e = eqb-true (index * s.segment + (head_for s all index).blocks) (total_blocks s.width s.rows) (sym last_is ∙ e)

  height_reported : (index + 1 == segments_of s) ≡ true → 8 * ((index * s.segment + (head_for s all index).blocks) / block_count s.width)
      - (padded_size s.rows - s.rows) ≡ s.rows
  height_reported e = ap (λ n. 8 * (n / block_count s.width) - (padded_size s.rows - s.rows)) (ends_last e)
      ∙ (ends_rows (block_count s.width) s.rows some_columns).1

  known_end : (last : Bool) → (index + 1 == segments_of s) ≡ last →
      (if last
      then ((index * s.segment + (head_for s all index).blocks) % block_count s.width == 0)
      && is_within rows_range (8 * ((index * s.segment + (head_for s all index).blocks) / block_count s.width) -
      (if last then padded_size s.rows - s.rows else 0))
      else nat_lt (index * s.segment + s.segment) (32768 * block_count s.width)) ≡ true
  known_end true e = grind (arith, nat_tests, both, eq-eqb, ends_last, ends_rows, some_columns, height_reported)
  known_end false e =
      let more : index + 1 < segments_of s = more_after index (segments_of s) lt e in
      let next : (index + 1) * s.segment < total_blocks s.width s.rows =
      first_block-lt (total_blocks s.width s.rows) s.segment (index + 1) (some_blocks s all coded) more in
      let tall : block_count s.rows ≤ 2 ^ 15 = block_count-rows s.rows coded.rows in
      lt-ltb (index * s.segment + s.segment) (32768 * block_count s.width) (omega (arith, next, mul-le-mul_left (block_count s.width) tall))

  agrees_last : disagreement (image_geometry s 0) (written_at true s index 0) (head_for s all index) ≡ None
  unfolding disagreement
  agrees_last =
      let head = head_for s all index in
      let g = image_geometry s 0 in
      none_first (not (same_flag head.first (index == 0))) _ _ (ap not (flag_same (index == 0)))
      ∙ none_first (not (may_have_blocks g head)) _ _ (ap not (known_blocks (index + 1 == segments_of s) refl))
      ∙ none_first (not (may_end g (written_at true s index 0) head)) _ _ (ap not (known_end (index + 1 == segments_of s) refl))
      ∙ none_first (not (index % 256 == index % 256)) _ _ (ap not (eq-eqb (index % 256) (index % 256) refl))
      ∙ none_first (not (true || pads_as_reported g head)) (BadValue PadRows) (when (not (is_of_image g head.image)) (BadValue Image) ∷ []) refl
      ∙ none_first (not (is_of_image g head.image)) (BadValue Image) [] (ap not (image_agrees s 0))

  pub agrees : (reported_last : Bool) → disagreement (geometry_first reported_last s) (written_at reported_last s index 0) (head_for s all index) ≡ None
  agrees reported_last = grind (arith, nat_tests, agrees_last, agrees_known)

  -- the geometry once the head is kept
  past_by : (last : Bool) → (index + 1 == segments_of s) ≡ last →
      (if last then image_geometry s (8 * ((index * s.segment + (head_for s all index).blocks) / block_count s.width) -
      (if last then padded_size s.rows - s.rows else 0)) else image_geometry s 0)
      ≡ image_geometry s (if not last then 0 else s.rows)
  past_by last e = grind (arith, nat_tests, height_reported)

  pub past : (reported_last : Bool) → geometry_past (geometry_first reported_last s) (written_at reported_last s index 0) (head_for s all index)
      ≡ geometry_by reported_last s index
  past reported_last = grind (arith, nat_tests, past_by)

module _ (reported_last : Bool) (s : Setting) (all : List (List ℤ)) (coded : AreCoded s all) where
  reports : (if_known : Bool) → (if if_known then (if if_known then 0 else s.rows) == 0 else is_within rows_range (if if_known then 0 else s.rows)) ≡ true
  reports if_known = grind (arith, nat_tests, eq-eqb, within)

  -- the rows field is as before, and the block isn't past the last one
  same_rows : (if_known over : Bool) → ((if if_known then 0 else s.rows) == (if if_known then 0 else (if if_known && over then 0 else s.rows))) ≡ true
  same_rows if_known over = grind (arith, nat_tests, eq-eqb)

  not_past : (over : Bool) (index part : ℕ) → index < segments_of s →
      is_past (image_geometry s (if over then 0 else s.rows)) (written_at reported_last s index part) ≡ false
  not_past true index part lt = refl
  not_past false index part lt = and_right (not (s.rows == 0)) _ (lt-leb (total_blocks s.width s.rows) (index * s.segment) (block_before s all coded index lt))

  own : (st : FateState) (index part : ℕ) → index < segments_of s → LeftBefore reported_last s index part st →
      is_foreign st (written_at reported_last s index part)
      ≡ false
  own st index part lt left =
      let range = coded.setting in
      let a = written_at reported_last s index part in
      own_tests (reports_rows a) (is_within segment_range s.segment) (index * s.segment == index * s.segment) (differs st.geometry st.reported_last a)
      (reports reported_last) (within segment_range s.segment range.segment) (eq-eqb (index * s.segment) (index * s.segment) refl)
      (elim left [
        | inl none ↦ ap (λ st. differs st.geometry st.reported_last a) none
        | inr kept ↦
            ap (λ st. differs st.geometry st.reported_last a) kept.1
            ∙ same_tests (same_flag reported_last reported_last) (s.image == s.image) _ (s.segment == s.segment) _
            (flag_same reported_last) (eq-eqb s.image s.image refl) (same_rows reported_last (not (kept.0.index + 1 == segments_of s)))
            (eq-eqb s.segment s.segment refl)
            (not_past (reported_last && not (kept.0.index + 1 == segments_of s)) index part lt)
      ])

  early : (st : FateState) (index part : ℕ) → LeftBefore reported_last s index part st → is_late st.last (written_at reported_last s index part) ≡ false
  early st index part left = grind (arith, nat_tests, written_at, not_late)

  -- the geometry for the head of a segment is the one before the last segment
  geometry_here : (st : FateState) (index : ℕ) → index < segments_of s → LeftBefore reported_last s index 0 st →
      geometry_for st.geometry (written_at reported_last s index 0) (image_part s) ≡ geometry_first reported_last s
  geometry_here st index lt left = grind (arith, nat_tests, written_at, ne_eqb)

  -- ---- the fates

  -- the first part of a segment is kept
  pub first_kept : (st : FateState) (index : ℕ) → index < segments_of s → 0 < parts_of s all index → LeftBefore reported_last s index 0 st →
      fate s.apid st (packet_at reported_last s all index 0) ≡ Kept
  first_kept st index lt some left =
      let packet = packet_at reported_last s all index 0 in
      let reads = part_reads reported_last s all coded index 0 lt some in
      let says = reads.ancillary_is in
      let read = ap head_read reads.text_is ∙ coded.heads index lt in
      let agree = ap (λ g. disagreement g (written_at reported_last s index 0) (head_for s all index)) (geometry_here st index lt left)
      ∙ agrees s all coded index lt reported_last in
      kept_by s.apid st packet reads.mine
      (ap (is_foreign st) says ∙ own st index 0 lt left)
      (ap (is_late st.last) says ∙ early st index 0 left)
      (first_placed st.last (flags_in packet) (ancillary_in packet) (ap (λ a. a.part) says)
      (part_begins reported_last s all coded index 0 lt some ∙ eq-eqb 0 0 refl))
      (refusal_at st.geometry packet (written_at reported_last s index 0) (head_for s all index) says refl read agree)

  -- a further part is kept if it follows
  pub next_kept : (index part : ℕ) → index < segments_of s → part + 1 < parts_of s all index →
      fate s.apid (state_by reported_last s (place_at s all index part)) (packet_at reported_last s all index (part + 1)) ≡ Kept
  next_kept index part lt few =
      let packet = packet_at reported_last s all index (part + 1) in
      let st = state_by reported_last s (place_at s all index part) in
      let reads = part_reads reported_last s all coded index (part + 1) lt few in
      let says = reads.ancillary_is in
      let left : LeftBefore reported_last s index (part + 1) st = inr (place_at s all index part, refl, inr (refl, omega arith)) in
      let zero : (part + 1 == 0) ≡ false = ne_eqb (part + 1) 0 (λ e. omega (arith, e)) in
      let further : ((ancillary_in packet).part == 0) ≡ false = ap (λ a. a.part == 0) says ∙ zero in
      let unclosed : (part + 1 == parts_of s all index) ≡ false = ne_eqb (part + 1) (parts_of s all index) (λ e. omega (arith, e, few)) in
      kept_by s.apid st packet reads.mine
      (ap (is_foreign st) says ∙ own st index (part + 1) lt left)
      (ap (is_late st.last) says ∙ early st index (part + 1) left)
      (next_placed (place_at s all index part) (flags_in packet) (ancillary_in packet) further
      (part_begins reported_last s all coded index (part + 1) lt few ∙ zero)
      (ap (follows st.last) says ∙ follows_so (place_at s all index part) (written_at reported_last s index (part + 1)) refl refl unclosed))
      (rw further refl)

  -- and isn't if it doesn't
  pub gap_not_kept : (st : FateState) (index part : ℕ) → index < segments_of s → part + 1 < parts_of s all index →
      LeftBefore reported_last s index (part + 1) st →
      follows st.last (written_at reported_last s index (part + 1)) ≡ false → fate s.apid st (packet_at reported_last s all index (part + 1)) ≡ OutOfPlace
  gap_not_kept st index part lt few left gap =
      let packet = packet_at reported_last s all index (part + 1) in
      let reads = part_reads reported_last s all coded index (part + 1) lt few in
      let says = reads.ancillary_is in
      let zero : (part + 1 == 0) ≡ false = ne_eqb (part + 1) 0 (λ e. omega (arith, e)) in
      misplaced_by s.apid st packet reads.mine
      (ap (is_foreign st) says ∙ own st index (part + 1) lt left)
      (ap (is_late st.last) says ∙ early st index (part + 1) left)
      (gap_misplaced st.last (flags_in packet) (ancillary_in packet) (ap (λ a. a.part == 0) says ∙ zero)
      (part_begins reported_last s all coded index (part + 1) lt few ∙ zero)
      (ap (follows st.last) says ∙ gap))

  -- ---- what they leave

  same_part : (index part : ℕ) → index < segments_of s → part < parts_of s all index → part_in (packet_at reported_last s all index part)
      ≡ place_at s all index part
  same_part index part lt few =
      let says = (part_reads reported_last s all coded index part lt few).ancillary_is in
      same_last (ap (λ a. a.index) says) (ap (λ a. a.part) says) (part_closes reported_last s all coded index part lt few)

  pub first_leaves : (st : FateState) (index : ℕ) → index < segments_of s → 0 < parts_of s all index → LeftBefore reported_last s index 0 st →
      after s.apid st (packet_at reported_last s all index 0) ≡ state_by reported_last s (place_at s all index 0)
  first_leaves st index lt some left =
      let packet = packet_at reported_last s all index 0 in
      let reads = part_reads reported_last s all coded index 0 lt some in
      let read = ap head_read reads.text_is ∙ coded.heads index lt in
      let geometry : geometry_after st.geometry packet ≡ Some (geometry_by reported_last s index) =
      geometry_at st.geometry packet (written_at reported_last s index 0) (head_for s all index) reads.ancillary_is refl read
      ∙ ap (λ g. Some (geometry_past g (written_at reported_last s index 0) (head_for s all index))) (geometry_here st index lt left)
      ∙ ap Some (past s all coded index lt reported_last) in
      after_as_kept s.apid st packet (first_kept st index lt some left) ∙ same_state geometry (ap (λ a. a.reported_last) reads.ancillary_is)
      (ap Some (same_part index 0 lt some))

  pub next_leaves : (index part : ℕ) → index < segments_of s → part + 1 < parts_of s all index →
      after s.apid (state_by reported_last s (place_at s all index part)) (packet_at reported_last s all index (part + 1)) ≡ state_by reported_last s
      (place_at s all index (part + 1))
  next_leaves index part lt few =
      let packet = packet_at reported_last s all index (part + 1) in
      let st = state_by reported_last s (place_at s all index part) in
      let says = (part_reads reported_last s all coded index (part + 1) lt few).ancillary_is in
      let further : ((ancillary_in packet).part == 0) ≡ false = ap (λ a. a.part == 0) says ∙ ne_eqb (part + 1) 0 (λ e. omega (arith, e)) in
      after_as_kept s.apid st packet (next_kept index part lt few) ∙ same_state (rw further refl) (ap (λ a. a.reported_last) says)
      (ap Some (same_part index (part + 1) lt few))

-- One segment of an image is written from the work that gathered it.
use Rattle.std.proofs.Common.{◌≡◌, ◌≢◌, ℕ, ◌+◌, ◌-◌, ◌*◌, ◌/◌, ◌^◌, ◌<◌, ◌≤◌, ℤ, List, [], ◌++◌, length, take, drop, sym, ap, ◌∙◌, subst, arith, get_or}
use Rattle.std.proofs.Common.{min, inl, inr, vec_len, length-append, length-take, length-drop}
use Rattle.std.proofs.lemmas.Bool.Decides.{nat_tests}
use Rattle.std.proofs.lemmas.List.{same_lists, get_or_default, get_or-take, get_or-drop}
use Rattle.std.proofs.lemmas.List.FromFn.{get_or-map-range_with_len}
use Rattle.std.proofs.Math.Seq.{take-append-add}
use Rattle.port_122.specs.Outside.{Outside, Exchange, NoRead, Rose}
use Rattle.segment_code.specs.declared.encode.SegmentWriter.{SegmentWriter}
use Rattle.strip_coder.specs.declared.plan.Plan.{Plan}
use Rattle.strip_coder.specs.Plans.{Job, IsPlan, packed, whole}
use Rattle.base_122.specs.Sizes.{segment_blocks, total_blocks}
use Rattle.base_122.specs.Ranges.{IsInRange}
use Rattle.base_122.specs.declared.setting.Setting.{Setting}
use Rattle.base_122.proofs.GeometryRanges.{in_range-sized}
use Rattle.base_122.proofs.SizeBounds.{first_block-lt, one-le-segment_blocks}
use Rattle.packet_defs.specs.Packets.{joined}
use Rattle.wave_defs.specs.Held.{block_at, blocks_in}
use Rattle.stream_defs.specs.Output.{segment_packets, segment_text, segments_of, share, reports_last, used_before}
use Rattle.stream_defs.proofs.Outputs.{packets_before-more, used_before-more}
use Rattle.stream_defs.proofs.ShareLaws.{left_next, segment_within, share_none}
use Rattle.space_packets.specs.Progress.{Progress}
use Rattle.space_packets.specs.Writes.{TextOut, TextCut}
use Rattle.wave_strip.specs.Strip.{columns_of}
use Rattle.strip_coder.specs.declared.work.Work.{Work}
use Rattle.strip_coder.specs.SegmentsOut.{text_of, text_for, progress_at}
use Rattle.strip_coder.specs.declared.work.ImageAt.{ImageAt}
use Rattle.strip_coder.specs.Works.{IsMadeFor, KeepsShare, HasGathered, IsFull, HoldsBlocks, most_blocks}
use Rattle.strip_coder.specs.Steps.{octets_at, PresentOut, PresentCut}
use Rattle.strip_coder.proofs.SegmentRuns.{same_progress, octets-more}
use Rattle.strip_coder.proofs.SegmentTexts.{length-blocks_in}
use Rattle.wave_defs.proofs.Equations.{blocks_in-is}

-- ---- the blocks of the present segment

block_of : (cells : List ℤ) (i : ℕ) (d : List ℤ) → i < length cells / 64 → get_or (blocks_in cells) i d ≡ block_at cells i
block_of cells i d lt = rw blocks_in-is (get_or-map-range_with_len (block_at cells) 0 (length cells / 64) i i d lt (omega arith))

pub segment_is : (cells : List ℤ) (all : List (List ℤ)) (n first S total : ℕ) → length all ≡ total → n ≡ min S (total - first) → length cells ≡ 64 * n →
    ((i : ℕ) → i < n → block_at cells i ≡ get_or all (first + i) []) → blocks_in cells ≡ take S (drop first all)
segment_is cells all n first S total whole e long each =
    grind (arith, nat_tests, length-blocks_in, length-take, length-drop, same_lists, block_of, get_or-take, get_or-drop, get_or_default)

-- ---- its packets

progress_more : {a b : Outside} (s : Job) (all : List (List ℤ)) (n : ℕ) (w : Progress) →
    TextOut (text_of s n) a b (progress_at s all n) w (segment_text (whole s) all n) → w ≡ progress_at s all (n + 1)
progress_more s all n w at = grind (arith, nat_tests, same_progress, packets_before-more, octets-more, length-append)

-- ---- shares

-- what was counted matters only if there is a bound on all
share_same : (s : Setting) (index a b : ℕ) → (s.total ≢ 0 → a ≡ b) → share s index a ≡ share s index b
share_same s index a b same = grind (arith, nat_tests, share_none)

pub share_kept : (s : Setting) (a b : ImageAt) → b.index ≡ a.index → b.used ≡ a.used → KeepsShare s a → KeepsShare s b
share_kept s a b index used keeps = record { left = rw (index, used) keeps.left }

-- a count that stays below its bound
counted : (a n m c total : ℕ) → total ≤ 2 ^ 40 → c ≡ min (a + n) (2 ^ 64 - 1) → a + n + m ≤ total → c ≡ a + n
counted a n m c total most is le = omega arith

-- ---- the present segment of a work

-- a segment has at most the blocks that there is room for
most_filled : (s : Job) (index : ℕ) → IsPlan s → segment_blocks (total_blocks s.setting.width s.rows) s.setting.segment index ≤ most_blocks s.setting
most_filled s index range = grind (arith, nat_tests)

-- so there is room for what the present segment can still take
pub room_left : (s : Job) (w : Work) (n : ℕ) → IsPlan s → HasGathered s w →
    w.at.filled + n ≤ segment_blocks (total_blocks s.setting.width s.rows) s.setting.segment w.at.index → length w.blocks.numbers + 64 * n ≤ 64 * w.blocks.most
room_left s w n range has fit =
    let most = most_filled s w.at.index range in
    let room = has.made.blocks in
    let held = has.held in
    omega (arith, most, room, fit, held)

pub some_filled : (s : Job) (old : Work) → IsPlan s → IsFull s old → 64 ≤ length old.blocks.numbers
some_filled s old range full =
    let segment = range.in_range.segment in
    let some = one-le-segment_blocks (total_blocks s.setting.width s.rows) s.setting.segment old.at.index (omega (arith, segment)) full.index in
    let filled = full.full in
    let held = full.held in
    omega (arith, some, filled, held)

pub few_filled : (s : Job) (old : Work) → IsPlan s → IsFull s old → length old.blocks.numbers ≤ 64 * 1048575
few_filled s old range full =
    let f = full.full in
    let segment = range.in_range.segment in
    let held = full.held in
    omega (arith, f, segment, held)

pub text_is : (s : Job) (old : Work) → IsPlan s → IsFull s old → (all : List (List ℤ)) → length all ≡ total_blocks s.setting.width s.rows →
    HoldsBlocks s all old →
    text_for s old.at.index old.at.used (blocks_in old.blocks.numbers) ≡ segment_text (whole s) all old.at.index
text_is s old range full all long holds = grind (arith, nat_tests, segment_is, share_same)

-- what differs in a work after its present segment was given to be written
pub record Rewritten (old new : Work) : Type 0 where
  pub strip : new.strip ≡ old.strip
  pub row : new.row ≡ old.row
  pub blocks : new.blocks.most ≡ old.blocks.most
  pub writer : new.writer ≡ old.writer
  pub room : new.room ≡ old.room

pub still_made : (s : Setting) (old new : Work) → IsMadeFor s old → Rewritten old new → new.packets.packet ≡ old.packets.packet → IsMadeFor s new
still_made s old new made same packet = record {
  row = ap (λ v. vec_len v) same.row ∙ made.row;
  blocks = subst (λ n. most_blocks s ≤ n) (sym same.blocks) made.blocks;
  strip = ap columns_of same.strip ∙ made.strip;
  packet = packet ∙ made.packet;
  writer = ap (λ (v : SegmentWriter). v.tables.book) same.writer ∙ made.writer;
  room = same.room ∙ made.room;
}

-- the blocks of the present segment, and its text
abbrev present_blocks : Work → List (List ℤ)
present_blocks w = blocks_in w.blocks.numbers

abbrev present_text : Job → Work → List ℕ
present_text s w = text_for s w.at.index w.at.used (present_blocks w)

-- ---- a segment that was given, or a part of it

-- the segment after the first ones of these blocks
pub record GivesMore (s : Job) (all : List (List ℤ)) (p q : Outside) (old new : Work) : Type 0 where
  pub given : s.form.holds s.setting s.rows all new.packets new.at.index new.at.used
  pub used : s.setting.total ≢ 0 → new.at.used ≡ used_before (whole s) all new.at.index
  pub gave : List ℕ
  pub out : Exchange p q [] gave [] NoRead
  pub more : octets_at s all (old.at.index + 1) ≡ octets_at s all old.at.index ++ gave

-- a prefix of it
pub record CutsMore (s : Job) (all : List (List ℤ)) (p q : Outside) (old : Work) : Type 0 where
  pub some : ℕ
  pub octets : List ℕ
  pub out : Exchange p q [] (take some octets) [] NoRead
  pub more : octets_at s all (old.at.index + 1) ≡ octets_at s all old.at.index ++ octets

-- the work after it
pub record IsNextOf (s : Job) (old new : Work) : Type 0 where
  pub same : Rewritten old new
  pub packet : new.packets.packet ≡ old.packets.packet
  pub cleared : new.blocks.numbers ≡ []
  pub rows : new.at.rows ≡ old.at.rows
  pub filled : new.at.filled ≡ 0
  pub index : new.at.index ≡ old.at.index + 1
  pub share : KeepsShare (whole s) new.at
  pub ready : s.form.ready s.setting new.packets new.at.index new.at.used

module _ (s : Job) (old new : Work) (range : IsPlan s) (full : IsFull s old) where
  pub present_out : {p q : Outside} → IsNextOf s old new → p.write_faults ≤ q.write_faults →
      ((all : List (List ℤ)) → length all ≡ total_blocks s.setting.width s.rows → HoldsBlocks s all old → GivesMore s all p q old new) →
      PresentOut s p q old new
  present_out here faults gives =
      let segment = range.in_range.segment in
      let next = full.index in
      let index = here.index in
      let filled = here.filled in
      record {
        stays = record { strip = here.same.strip; row = here.same.row; rows = here.rows };
        gathered = record {
          made = still_made s.setting old new full.made here.same here.packet;
          share = here.share;
          index = omega (arith, index, next);
          present = λ lt.
              let some = one-le-segment_blocks (total_blocks s.setting.width s.rows) s.setting.segment new.at.index (omega (arith, segment)) lt in
              omega (arith, some, filled);
          none = λ e. filled;
          held = (let none : length new.blocks.numbers ≡ 0 = ap length here.cleared in omega (arith, none, filled));
          ready = here.ready;
        };
        index = index;
        filled = filled;
        faults = faults;
        holds = λ all long holds. let gave = gives all long holds in record {
          blocks = λ i lt. absurd (omega (arith, lt, filled));
          given = gave.given;
          used = gave.used;
        };
        goes = λ all long holds. let gave = gives all long holds in record {
          gave = gave.gave;
          out = gave.out;
          then_are = sym gave.more ∙ ap (octets_at s all) (sym index);
        };
      }

  pub present_cut : {p q : Outside} → IsMadeFor s.setting new → Rose p.write_faults q.write_faults →
      ((all : List (List ℤ)) → length all ≡ total_blocks s.setting.width s.rows → HoldsBlocks s all old → CutsMore s all p q old) → PresentCut s p q old new
  present_cut made rose cuts = record {
    made = made;
    rose = rose;
    breaks = λ all long holds. let cut = cuts all long holds in record {
      gave = take cut.some cut.octets;
      out = cut.out;
      index = old.at.index;
      inside = full.index;
      there =
          let segment = range.in_range.segment in
          let before = first_block-lt (total_blocks s.setting.width s.rows) s.setting.segment old.at.index (omega (arith, segment)) full.index in
          let filled = full.full in
          omega (arith, before, filled);
      some = length (octets_at s all old.at.index) + cut.some;
      prefix = sym (ap (take (length (octets_at s all old.at.index) + cut.some)) cut.more
          ∙ take-append-add (octets_at s all old.at.index) cut.octets cut.some);
    };
  }

-- ---- its packets

module _ (plan : Plan) (old new : Work) (range : IsPlan (packed plan)) (full : IsFull (packed plan) old) (same : Rewritten old new) where
  abbrev s : Job
  s = packed plan

  sized_range : IsInRange (whole s)
  sized_range = in_range-sized s.setting s.rows range.in_range range.height

  -- what is left after its text
  left_now : s.setting.total ≢ 0 → old.at.used + length (present_text s old) + 36 * (segments_of (whole s) - (old.at.index + 1)) ≤ s.setting.total
  left_now some = grind (arith, nat_tests, left_next, sized_range, segment_within)

  total_most : s.setting.total ≢ 0 → s.setting.total ≤ 2 ^ 40
  total_most some = elim range.in_range.total [ inl none ↦ absurd (some none) | inr has ↦ let within = has.within in omega (arith, within) ]

  used_now : (octets : ℕ) → octets ≡ length (present_text s old) → new.at.used ≡ min (old.at.used + octets) (2 ^ 64 - 1) → s.setting.total ≢ 0 →
      new.at.used ≡ old.at.used + length (present_text s old)
  used_now octets e counts some = grind (arith, nat_tests, counted, total_most, left_now)

  sent_of : {a b : Outside} (w : Progress) (all : List (List ℤ)) → length all ≡ total_blocks s.setting.width s.rows → HoldsBlocks s all old →
      TextOut (text_of s old.at.index) a b old.packets w (present_text s old) → TextOut (text_of s old.at.index) a b (progress_at s all old.at.index) w
      (segment_text (whole s) all old.at.index)
  sent_of {a = a} {b = b} w all long holds sent =
      subst (λ v. TextOut (text_of s old.at.index) a b v w (segment_text (whole s) all old.at.index)) holds.given
      (subst (λ t. TextOut (text_of s old.at.index) a b old.packets w t) (text_is s old range full all long holds) sent)

  pub packets_out : {a b : Outside} (octets : ℕ) → new.blocks.numbers ≡ [] → new.at.rows ≡ old.at.rows → new.at.filled ≡ 0 → new.at.index ≡ old.at.index + 1 →
      new.at.used ≡ min (old.at.used + octets) (2 ^ 64 - 1) → TextOut (text_of s old.at.index) a b old.packets new.packets (present_text s old)
      × (octets ≡ length (present_text s old)) →
      PresentOut s a b old new
  packets_out {a = a} {b = b} octets cleared rows filled index counts written =
      let sent = written.0 in
      present_out s old new range full (record {
        same = same;
        packet = ap (λ (v : Progress). v.packet) sent.valid;
        cleared = cleared;
        rows = rows;
        filled = filled;
        index = index;
        share = record {
          left = λ some. let used = used_now octets written.1 counts some in let left = left_now some in
              subst (λ n. new.at.used + 36 * (segments_of (whole s) - n) ≤ s.setting.total) (sym index)
              (subst (λ n. n + 36 * (segments_of (whole s) - (old.at.index + 1)) ≤ s.setting.total) (sym used) left);
        };
        ready = (
          ap (λ (v : Progress). v.stage) sent.valid,
          ap (λ (v : Progress). v.texts) sent.valid ∙ ap (λ n. n + 1) full.ready.1 ∙ sym index,
        );
      }) sent.out.faults.writes (λ all long holds. record {
        given = progress_more s all old.at.index new.packets (sent_of new.packets all long holds sent) ∙ ap (progress_at s all) (sym index);
        used = λ some.
            used_now octets written.1 counts some
            ∙ ap (λ n. n + length (present_text s old)) (holds.used some)
            ∙ ap (λ t. used_before (whole s) all old.at.index + length t) (text_is s old range full all long holds)
            ∙ sym (used_before-more (whole s) all old.at.index)
            ∙ ap (used_before (whole s) all) (sym index);
        gave = joined (segment_packets (reports_last s.setting) (whole s) all old.at.index);
        out = (sent_of new.packets all long holds sent).out;
        more = octets-more s all old.at.index;
      })

  pub packets_cut : {a b : Outside} → TextCut (text_of s old.at.index) a b old.packets new.packets (present_text s old) → PresentCut s a b old new
  packets_cut {a = a} {b = b} cut = present_cut s old new range full (still_made s.setting old new full.made same cut.packet) cut.rose (λ all long holds.
      let at : TextCut (text_of s old.at.index) a b (progress_at s all old.at.index) new.packets (segment_text (whole s) all old.at.index) =
      subst (λ v. TextCut (text_of s old.at.index) a b v new.packets (segment_text (whole s) all old.at.index)) holds.given
      (subst (λ t. TextCut (text_of s old.at.index) a b old.packets new.packets t) (text_is s old range full all long holds) cut) in
      record {
        some = at.some;
        octets = joined (segment_packets (reports_last s.setting) (whole s) all old.at.index);
        out = at.out;
        more = octets-more s all old.at.index;
      })

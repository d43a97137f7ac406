-- The present segment of a work, which is full, and its text.
use Rattle.std.proofs.Common.{◌≡◌, ℕ, zero, suc, ◌+◌, ◌*◌, ◌<◌, ℤ, List, [], ◌++◌, sym, refl, ap, ◌∙◌, arith, length, length-append}
use Rattle.std.proofs.Common.{Some, drop, length-take, length-drop}
use Rattle.std.proofs.lemmas.Bool.Decides.{nat_tests}
use Rattle.port_122.specs.Outside.{Outside}
use Rattle.base_122.specs.Sizes.{total_blocks}
use Rattle.base_122.specs.declared.setting.Setting.{Setting}
use Rattle.base_122.proofs.SizeBounds.{first_block-lt}
use Rattle.wave_defs.specs.Held.{blocks_in}
use Rattle.segment_defs.specs.declared.head.SegmentHead.{SegmentHead}
use Rattle.segment_defs.specs.Depths.{depth_dc_of, depth_ac_of}
use Rattle.stream_defs.specs.Output.{head_for, head_with, segment_of, segments_of, share, used_before}
use Rattle.stream_defs.proofs.ShareLaws.{share_none}
use Rattle.strip_coder.specs.declared.plan.Plan.{Plan}
use Rattle.strip_coder.specs.declared.work.Work.{Work}
use Rattle.strip_coder.specs.Plans.{Job, IsPlan, job_of, whole}
use Rattle.strip_coder.specs.Works.{IsFull, HoldsBlocks}
use Rattle.strip_coder.specs.Steps.{PresentOut, PresentCut}
use Rattle.strip_coder.proofs.SegmentSteps.{Rewritten, still_made, segment_is, present_out, present_cut}
use Rattle.strip_coder.proofs.SegmentTexts.{length-blocks_in}
use Rattle.bare_text.specs.Writing.{bare_text, carried_after}
use Rattle.bare_text.proofs.Texts.{text_carried}
use Rattle.bare_stream.specs.Bare.{first_texts, head_before, segment_octets}
use Rattle.bare_stream.specs.Steps.{TextOut, TextCut, head_now, parts_before, text_now}
use Rattle.bare_stream.specs.Works.{texts}
use Rattle.bare_stream.proofs.TextLists.{first_texts-more}

-- a head with the counts of these blocks is that of their segment
pub head_made : (s : Setting) (index count dc ac : ℕ) (head : SegmentHead) (cells : List ℤ) → head ≡ head_with s index s.limit count dc ac →
    64 * count ≡ length cells →
    dc ≡ depth_dc_of (blocks_in cells) → ac ≡ depth_ac_of (blocks_in cells) → head ≡ head_now s index (blocks_in cells)
head_made s index count dc ac head cells is long dc_is ac_is =
    let e : count ≡ length (blocks_in cells) = omega (arith, long, length-blocks_in cells) in
    is
    ∙ ap (λ n. head_with s index s.limit n dc ac) e
    ∙ ap (λ d. head_with s index s.limit (length (blocks_in cells)) d ac) dc_is
    ∙ ap (λ d. head_with s index s.limit (length (blocks_in cells)) (depth_dc_of (blocks_in cells)) d) ac_is

-- ---- the text of a segment of an image, if there is no bound on all texts

module _ (s : Setting) (no_total : s.total ≡ 0) where
  -- each segment has the limit of the setting
  pub head_is_now : (all : List (List ℤ)) (index : ℕ) → head_now s index (segment_of s all index) ≡ head_for s all index
  head_is_now all index = grind (arith, nat_tests, share_none)

  -- the parts in force are those of the limit and of the number of blocks
  same_parts : (index limit count dc ac dc' ac' : ℕ) (head : SegmentHead) → limit ≡ s.limit → count ≡ s.segment →
      carried_after (Some (head_with s index s.limit s.segment dc ac)) head ≡ carried_after (Some (head_with s index limit count dc' ac')) head
  same_parts index limit count dc ac dc' ac' head e f = rw (e, f) refl

  module _ (some : 0 < s.segment) (all : List (List ℤ)) (long : length all ≡ total_blocks s.width s.rows) where
    same_carried : (index dc ac : ℕ) (head : SegmentHead) → index < segments_of s →
        carried_after (parts_before s index dc ac) head ≡ carried_after (head_before s all index) head
    same_carried zero dc ac head lt = refl
    same_carried (suc index) dc ac head lt =
        let segment = segment_of s all index in
        let next = first_block-lt (total_blocks s.width s.rows) s.segment (suc index) some lt in
        let turned : suc index * s.segment ≡ index * s.segment + s.segment = omega arith in
        let count : length segment ≡ s.segment = omega
        (arith, long, next, turned, length-take s.segment (drop (index * s.segment) all), length-drop (index * s.segment) all) in
        same_parts index (share s index (used_before s all index)) (length segment) dc ac (depth_dc_of segment) (depth_ac_of segment) head
        (share_none s index (used_before s all index) no_total) count

    pub text_is : (index : ℕ) → index < segments_of s → text_now s index (segment_of s all index) ≡ segment_octets s all index
    text_is index lt =
        let segment = segment_of s all index in
        let before = parts_before s index (depth_dc_of segment) (depth_ac_of segment) in
        ap (λ h. bare_text s.book before h segment) (head_is_now all index)
        ∙ text_carried s.book before (head_before s all index) (head_for s all index) segment
        (same_carried index (depth_dc_of segment) (depth_ac_of segment) (head_for s all index) lt)

-- ---- a work before and after its text was written

module _ (plan : Plan) (old new : Work) (range : IsPlan (job_of texts plan)) (full : IsFull (job_of texts plan) old) (same : Rewritten old new)
    (packets : new.packets ≡ old.packets) where
  abbrev s : Job
  s = job_of texts plan

  abbrev segment : List (List ℤ)
  segment = blocks_in old.blocks.numbers

  some_blocks : 0 < s.setting.segment
  some_blocks = let segment = range.in_range.segment in omega (arith, segment)

  -- its text is that of its segment in each image
  present_is : (all : List (List ℤ)) → length all ≡ total_blocks s.setting.width s.rows → HoldsBlocks s all old →
      text_now (whole s) old.at.index segment ≡ segment_octets (whole s) all old.at.index
  present_is all long holds =
      let blocks : segment ≡ segment_of (whole s) all old.at.index = grind (arith, nat_tests, segment_is) in
      ap (text_now (whole s) old.at.index) blocks ∙ text_is (whole s) full.ready.0 some_blocks all long old.at.index full.index

  pub texts_cut : {p q : Outside} → TextCut p q (text_now (whole s) old.at.index segment) → PresentCut s p q old new
  texts_cut {p = p} {q = q} cut =
      present_cut s old new range full (still_made s.setting old new full.made same (ap (λ v. v.packet) packets)) cut.rose
      (λ all long holds. record {
        some = cut.some;
        octets = text_now (whole s) old.at.index segment;
        out = cut.out;
        more = first_texts-more (whole s) all old.at.index ∙ ap (λ t. first_texts (whole s) all old.at.index ++ t) (sym (present_is all long holds));
      })

  pub texts_out : {p q : Outside} (octets : ℕ) → new.blocks.numbers ≡ [] → new.at.rows ≡ old.at.rows → new.at.filled ≡ 0 → new.at.index ≡ old.at.index + 1 →
      new.at.used ≡ old.at.used + octets → TextOut p q (text_now (whole s) old.at.index segment) octets → PresentOut s p q old new
  texts_out {p = p} {q = q} octets cleared rows filled index used out =
      present_out s old new range full (record {
        same = same;
        packet = ap (λ v. v.packet) packets;
        cleared = cleared;
        rows = rows;
        filled = filled;
        index = index;
        share = record { left = λ some. absurd (some full.ready.0) };
        ready = (full.ready.0, (let most = full.ready.1 in let few = out.few in omega (arith, index, used, most, few)));
      }) out.out.faults.writes (λ all long holds.
      let text = text_now (whole s) old.at.index segment in
      let more : first_texts (whole s) all (old.at.index + 1) ≡ first_texts (whole s) all old.at.index ++ text =
      first_texts-more (whole s) all old.at.index ∙ ap (λ t. first_texts (whole s) all old.at.index ++ t) (sym (present_is all long holds)) in
      record {
        given =
            let so_far = holds.given in
            let count = out.count in
            let size : length (first_texts (whole s) all new.at.index) ≡ length (first_texts (whole s) all old.at.index) + length text =
            ap (λ n. length (first_texts (whole s) all n)) index ∙ ap length more ∙ length-append (first_texts (whole s) all old.at.index) text in
            omega (arith, used, so_far, count, size);
        used = λ some. absurd (some full.ready.0);
        gave = text;
        out = out.out;
        more = more;
      })

use Rattle.std.proofs.Common.{rules, Ok, Err, ◌≡◌, ◌<◌, ◌≤◌, ◌*◌, ◌∙◌, ◌++◌, ℕ, ℤ, List, length, refl, sym, ap, subst, arith}
use Rattle.std.proofs.lemmas.Grind.{common_steps}
use Rattle.port_122.specs.Outside.{Outside}
use Rattle.base_122.specs.declared.book.Book.{Book}
use Rattle.strip_coder.specs.Plans.{Job, IsPlan, whole, packed}
use Rattle.segment_defs.specs.declared.head.SegmentHead.{SegmentHead}
use Rattle.wave_defs.specs.Held.{blocks_in}
use Rattle.segment_defs.specs.Depths.{depth_dc_of, depth_ac_of}
use Rattle.segment_defs.specs.Coded.{coded}
use Rattle.packet_defs.specs.declared.ancillary.Ancillary.{Ancillary}
use Rattle.stream_defs.specs.Output.{ancillary_of, head_with, share, reports_last}
use Rattle.stream_defs.specs.Shares.{CanBeSaid}
use Rattle.space_packets.specs.declared.stage.Text.{Text}
use Rattle.space_packets.specs.declared.stage.PacketiserState.{PacketiserState}
use Rattle.space_packets.specs.declared.stage.PacketiserState.TheVariants.{Begun}
use Rattle.space_packets.specs.Stages.{IsBegun}
use Rattle.space_packets.specs.Progress.{Progress, begun}
use Rattle.space_packets.specs.Writes.{Continues, TextCut}
use Rattle.space_packets.proofs.WholeCalls.{some_wait, text_cut, text_closed}
use Rattle.space_packets.proofs.SinkCalls.{sink_goes_on, sink_breaks_off}
use Rattle.strip_coder.specs.SegmentsOut.{text_of, text_for}
use Rattle.strip_coder.proofs.SegmentTexts.{length-blocks_in, head_is, coded_some, text_same, share_said}
use Rattle.strip_coder.proofs.segments.write_segment.Goals as goal

-- after a loan the place holds the last value under its name
sent_to : {X : Type 0} (outside : X → Outside) (x y : X) (w u : Progress) {t : Text} {p : Outside} {v : Progress} {text : List ℕ} → x ≡ y → w ≡ u →
    Continues t p (outside y) v u text → Continues t p (outside x) v w text
sent_to outside x y w u {t = t} {p = p} {v = v} {text = text} e f sent = grind (arith, common_steps)

cut_to : {X : Type 0} (outside : X → Outside) (x y : X) (w u : Progress) {t : Text} {p : Outside} {v : Progress} {text : List ℕ} → x ≡ y → w ≡ u →
    TextCut t p (outside y) v u text → TextCut t p (outside x) v w text
cut_to outside x y w u {t = t} {p = p} {v = v} {text = text} e f cut = grind (arith, common_steps)

begun_valid : (stage : PacketiserState) (t : Text) → stage ≡ Begun t → IsBegun stage
begun_valid stage t e = subst IsBegun (sym e) tt

begun_with : (s : Job) (index : ℕ) (v : Progress) (a : Ancillary) → a ≡ ancillary_of (reports_last s.setting) (whole s) index →
    begun v (record { apid = s.setting.apid; ancillary = a }) ≡ begun v (text_of s index)
begun_with s index v a e = ap (λ a. begun v (record { apid = s.setting.apid; ancillary = a })) e

begun_to : (a b : PacketiserState) → a ≡ b → IsBegun b → IsBegun a
begun_to a b e begun = subst IsBegun (sym e) begun

-- the text of the head that was made
made : (book : Book) (s : Job) → book ≡ s.setting.book → (index used limit count depth_dc depth_ac : ℕ) (head : SegmentHead) (cells : List ℤ) →
    head ≡ head_with (whole s) index limit count depth_dc depth_ac →
    limit ≡ share (whole s) index used → length cells ≡ 64 * count → depth_dc ≡ depth_dc_of (blocks_in cells) → depth_ac ≡ depth_ac_of (blocks_in cells) →
    coded book head (blocks_in cells) ≡ text_for s index used (blocks_in cells)
made book s own index used limit count depth_dc depth_ac head cells e l f dc ac = grind (arith, common_steps, text_same, length-blocks_in)

-- and it isn't empty
some_text : (s : Job) (index used : ℕ) (cells : List ℤ) → IsPlan s → 0 < length (text_for s index used (blocks_in cells))
some_text s index used cells range = grind (arith, common_steps, coded_some)

-- it can be written
pub encode-requires-clause-fits : goal.encode-requires-clause-fits
encode-requires-clause-fits g c =
    let s = packed c.args.present.now.plan.now in
    let image = c.args.present.now.at.now in
    let depths = c.depths-depths in
    let long = c.len.ensures in
    let said = subst (CanBeSaid (whole s)) (sym {b = share (whole s) image.index image.used} c.share-limit.ensures)
    (share_said s image c.requires.in_range c.requires.share c.requires.index) in
    rw c.make_head-head.ensures
    (head_is s image.index c.share-limit.result _ depths.result.0 depths.result.1 c.requires.in_range said (omega (arith, c.requires.some, long))
    (omega (arith, c.requires.most, long))
    depths.ensures.least_dc depths.ensures.most_dc depths.ensures.most_ac)

pub returns-in_default : goal.returns-in_default
returns-in_default g c =
    let s = packed c.args.present.now.plan.now in
    let image = c.args.present.now.at.now in
    let cells = c.args.blocks.now.numbers in
    let least : 64 ≤ c.args.packets.now.packet = omega (arith, c.requires.packet, c.requires.in_range.in_range.packet) in
    let begins = c.sink-sink.ensures.same_packets ∙ c.begin.ensures.begun ∙ begun_with s image.index c.args.packets.now c.ancillary.result
    c.ancillary.ensures in
    let broken = c.in_default.ensures.text in
    let depths = c.depths-depths in
    let long : length cells ≡ 64 * c.len.result = sym c.len.ensures in
    let same = made c.args.writer.now.tables.book s c.requires.book image.index image.used c.share-limit.result _ depths.result.0
    depths.result.1 c.make_head-head.result cells c.make_head-head.ensures c.share-limit.ensures long depths.ensures.dc depths.ensures.ac in
    let off = sink_breaks_off g.X.Port.outside c.sink-sink.result c.encode.new.out c.args.packets.now (text_of s image.index) c.args.port.now
    broken.prefix begins c.sink-sink.ensures.same_port least broken.broke in
    let whole : broken.prefix ++ broken.more ≡ text_for s image.index image.used (blocks_in cells) = sym broken.parts ∙ same in
    let some : 0 < length (broken.prefix ++ broken.more) =
    subst (λ xs. 0 < length xs) (sym whole) (some_text s image.index image.used cells c.requires.in_range) in
    let cut = rw whole at (text_cut c.args.packets.now broken.prefix broken.more least refl some off) in
    record {
      text = cut_to g.X.Port.outside _ c.encode.new.out.port.now _ c.encode.new.out.packets.now (search rules) (search rules) cut;
      most =
          c.in_default.ensures.most;
    }

pub close-requires-clause-begun : goal.close-requires-clause-begun
close-requires-clause-begun g c =
    let s = packed c.args.present.now.plan.now in
    let image = c.args.present.now.at.now in
    let least : 64 ≤ c.args.packets.now.packet = omega (arith, c.requires.packet, c.requires.in_range.in_range.packet) in
    let begins = c.sink-sink.ensures.same_packets ∙ c.begin.ensures.begun ∙ begun_with s image.index c.args.packets.now c.ancillary.result
    c.ancillary.ensures in
    let given = c.in-Ok.ensures.text in
    let sent = sink_goes_on g.X.Port.outside c.sink-sink.result c.encode.new.out c.args.packets.now (text_of s image.index) c.args.port.now _ begins
    c.sink-sink.ensures.same_port least given.gave in
    begun_to _ c.encode.new.out.packets.now.stage (search rules) (begun_valid _ _ (ap (λ (w : Progress). w.stage) sent.valid))

pub close-requires-clause-some : goal.close-requires-clause-some
close-requires-clause-some g c =
    let s = packed c.args.present.now.plan.now in
    let image = c.args.present.now.at.now in
    let cells = c.args.blocks.now.numbers in
    let least : 64 ≤ c.args.packets.now.packet = omega (arith, c.requires.packet, c.requires.in_range.in_range.packet) in
    let begins = c.sink-sink.ensures.same_packets ∙ c.begin.ensures.begun ∙ begun_with s image.index c.args.packets.now c.ancillary.result
    c.ancillary.ensures in
    let given = c.in-Ok.ensures.text in
    let depths = c.depths-depths in
    let long : length cells ≡ 64 * c.len.result = sym c.len.ensures in
    let same = made c.args.writer.now.tables.book s c.requires.book image.index image.used c.share-limit.result _ depths.result.0
    depths.result.1 c.make_head-head.result cells c.make_head-head.ensures c.share-limit.ensures long depths.ensures.dc depths.ensures.ac in
    let gave = rw same at given.gave in
    let sent = sink_goes_on g.X.Port.outside c.sink-sink.result c.encode.new.out c.args.packets.now (text_of s image.index) c.args.port.now _ begins
    c.sink-sink.ensures.same_port least gave in
    let waits : 0 < length c.encode.new.out.packets.now.pending =
    some_wait c.args.packets.now (text_for s image.index image.used (blocks_in cells))
    (some_text s image.index image.used cells c.requires.in_range) sent in
    grind (arith, waits)

pub returns-in_default-close : goal.returns-in_default-close
returns-in_default-close g c =
    let s = packed c.args.present.now.plan.now in
    let image = c.args.present.now.at.now in
    let cells = c.args.blocks.now.numbers in
    let index = image.index in
    let used = image.used in
    let least : 64 ≤ c.args.packets.now.packet = omega (arith, c.requires.packet, c.requires.in_range.in_range.packet) in
    let begins = c.sink-sink.ensures.same_packets ∙ c.begin.ensures.begun ∙ begun_with s index c.args.packets.now c.ancillary.result c.ancillary.ensures in
    let given = c.in-Ok.ensures.text in
    let depths = c.depths-depths in
    let long : length cells ≡ 64 * c.len.result = sym c.len.ensures in
    let same = made c.args.writer.now.tables.book s c.requires.book index used c.share-limit.result _ depths.result.0 depths.result.1
    c.make_head-head.result cells c.make_head-head.ensures c.share-limit.ensures long depths.ensures.dc depths.ensures.ac in
    let gave = rw same at given.gave in
    let sent = sink_goes_on g.X.Port.outside c.sink-sink.result c.encode.new.out c.args.packets.now (text_of s index) c.args.port.now _ begins
    c.sink-sink.ensures.same_port least gave in
    record {
      text =
          text_closed {T = Unit {0}} {E = Unit {0}} (Err tt) c.args.packets.now _ c.close.new.self (text_of s index)
          (text_for s index used (blocks_in cells)) (g.X.Port.outside c.args.port.now) _ (g.X.Port.outside c.close.new.port) least refl
          (some_text s index used cells c.requires.in_range)
          (sent_to g.X.Port.outside _ c.encode.new.out.port.now _ c.encode.new.out.packets.now (search rules) (search rules) sent) c.in_default-close.ensures;
      most = c.in-Ok.ensures.most;
    }

pub returns : goal.returns
returns g c =
    let s = packed c.args.present.now.plan.now in
    let image = c.args.present.now.at.now in
    let cells = c.args.blocks.now.numbers in
    let index = image.index in
    let used = image.used in
    let least : 64 ≤ c.args.packets.now.packet = omega (arith, c.requires.packet, c.requires.in_range.in_range.packet) in
    let begins = c.sink-sink.ensures.same_packets ∙ c.begin.ensures.begun ∙ begun_with s index c.args.packets.now c.ancillary.result c.ancillary.ensures in
    let given = c.in-Ok.ensures.text in
    let depths = c.depths-depths in
    let long : length cells ≡ 64 * c.len.result = sym c.len.ensures in
    let same = made c.args.writer.now.tables.book s c.requires.book index used c.share-limit.result _ depths.result.0 depths.result.1
    c.make_head-head.result cells c.make_head-head.ensures c.share-limit.ensures long depths.ensures.dc depths.ensures.ac in
    let gave = rw same at given.gave in
    let sent = sink_goes_on g.X.Port.outside c.sink-sink.result c.encode.new.out c.args.packets.now (text_of s index) c.args.port.now _ begins
    c.sink-sink.ensures.same_port least gave in
    record {
      text = (
        text_closed {T = Unit {0}} {E = Unit {0}} (Ok tt) c.args.packets.now _ c.close.new.self (text_of s index) (text_for s index used (blocks_in cells))
            (g.X.Port.outside c.args.port.now) _ (g.X.Port.outside c.close.new.port) least refl
            (some_text s index used cells c.requires.in_range)
            (sent_to g.X.Port.outside _ c.encode.new.out.port.now _ c.encode.new.out.packets.now (search rules) (search rules) sent) c.in-Ok-close.ensures,
        given.count ∙ ap length same,
      );
      most = c.in-Ok.ensures.most;
    }

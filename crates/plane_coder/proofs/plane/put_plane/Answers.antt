use Rattle.std.proofs.Common.{◌≡◌, ◌+◌, ap, sym, ◌∙◌, subst}
use Rattle.item_defs.specs.Items.{text}
use Rattle.bit_pipe.specs.SinkState.{sink_state, Puts}
use Rattle.plane_defs.specs.Planes.{Plane, chosen}
use Rattle.plane_defs.specs.Marks.{depths_of}
use Rattle.block_masks.specs.SegmentNumbers.{AreAbove}
use Rattle.plane_coder.specs.Chosen.{AreChosen}
use Rattle.plane_coder.specs.Kept.{AreKept}
use Rattle.plane_coder.specs.Sends.{chosen_items}
use Rattle.plane_coder.specs.Views.{plane_of, plane_at}
use Rattle.plane_coder.proofs.plane.put_plane.Goals as goal

pub choose_all-requires-clause-above : goal.choose_all-requires-clause-above
choose_all-requires-clause-above g c = subst (λ n. AreAbove (n + 1) c.args.segment.now) (sym c.new-coded.ensures.plane) c.requires.above

pub put_stages-result-requires-clause-chosen : goal.put_stages-result-requires-clause-chosen
put_stages-result-requires-clause-chosen g c =
    let same = ap (λ d. plane_at c.args.segment.now.numbers d c.new-coded.result) c.choose_all.ensures.chosen.depths in
    subst (λ (q : Plane). AreChosen c.args.source.now.tables.now.book q c.choose_all.new.marks) (sym same) c.choose_all.ensures.chosen.are

pub put_stages-result-requires-clause-kept : goal.put_stages-result-requires-clause-kept
put_stages-result-requires-clause-kept g c =
    let book = c.args.source.now.tables.now.book in
    let numbers = c.args.segment.now.numbers in
    let same = ap (λ d. plane_at numbers d c.new-coded.result) c.choose_all.ensures.chosen.depths in
    let p = plane_at numbers (depths_of c.args.marks.now) c.new-coded.result in
    subst (λ (q : Plane). AreKept book (chosen book q) q c.deref.result.now) (sym same)
    (subst (AreKept book (chosen book p) p) (sym c.deref.ensures.value) c.choose_all.ensures.kept)

pub returns-clause-puts : goal.returns-clause-puts
returns-clause-puts g c =
    let plan = c.args.source.now.plan.now in
    let n = c.args.segment.now.numbers in
    let d = depths_of c.args.marks.now in
    let k = g.O.OctetOut.sink in
    let same = ap (λ e. plane_at n e c.new-coded.result) c.choose_all.ensures.chosen.depths in
    let coded : plane_at n d c.new-coded.result ≡ plane_of n d plan = cc in
    subst (λ (q : Plane). Puts {T = Unit {0}} k c.put_stages-result.result (sink_state k c.args.out.now) (sink_state k c.put_stages-result.new.out)
    (text (chosen_items c.args.source.now.tables.now.book q plan.last)))
    (same ∙ coded) c.put_stages-result.ensures.puts

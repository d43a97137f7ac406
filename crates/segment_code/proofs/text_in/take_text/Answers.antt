use Rattle.std.proofs.Common.{◌≡◌, ◌*◌, length, arith}
use Rattle.std.proofs.lemmas.Result.{err_from_is_err_and}
use Rattle.segment_code.specs.Readers.{by_tables}
use Rattle.segment_code.proofs.TextJoined.{no_acs, await_dcs, await_lows, text_taken}
use Rattle.segment_code.proofs.text_in.take_text.Goals as goal

pub returns-in_err-part-clause-takes : goal.returns-in_err-part-clause-takes
returns-in_err-part-clause-takes g c =
    let e = err_from_is_err_and c.from_residual.result c.from_residual.ensures.1 in
    rw (e.1, e.2) (c.in_err-part.ensures c.args.terms.now.tables.now.words.book).ends

pub returns-in-Some-clause-takes : goal.returns-in-Some-clause-takes
returns-in-Some-clause-takes g c = (rw c.in-Some.is at (c.in_ok-part.ensures c.args.terms.now.tables.now.words.book)).ends

pub take_planes-requires-clause-open : goal.take_planes-requires-clause-open
take_planes-requires-clause-open g c =
    (rw c.in_default.is at (c.in_ok-part.ensures c.args.terms.now.tables.now.words.book)).ends.is_in

pub take_planes-requires-clause-acs : goal.take_planes-requires-clause-acs
take_planes-requires-clause-acs g c =
    let start = (rw c.in_default.is at (c.in_ok-part.ensures c.args.terms.now.tables.now.words.book)).ends in
    let whole : length c.take_start.new.blocks ≡ 64 * c.args.terms.now.head.now.blocks =
    omega (arith, c.requires.count, c.requires.marks, c.take_start.auto.blocks) in
    no_acs c.args.terms.now.head.now c.take_start.new.blocks whole start.dcs

pub take_planes-requires-clause-dcs : goal.take_planes-requires-clause-dcs
take_planes-requires-clause-dcs g c =
    let start = (rw c.in_default.is at (c.in_ok-part.ensures c.args.terms.now.tables.now.words.book)).ends in
    let whole : length c.take_start.new.blocks ≡ 64 * c.args.terms.now.head.now.blocks =
    omega (arith, c.requires.count, c.requires.marks, c.take_start.auto.blocks) in
    rw (c.sent_planes-sent.ensures.below, c.sent_planes-sent.ensures.q) (await_dcs c.args.terms.now.head.now c.take_start.new.blocks whole start.dcs)

pub returns-clause-takes : goal.returns-clause-takes
returns-clause-takes g c =
    let wish = by_tables c.args.terms.now.tables.now c.args.terms.now.restore in
    let start = (rw c.in_default.is at (c.in_ok-part.ensures c.args.terms.now.tables.now.words.book)).ends in
    let whole : length c.take_start.new.blocks ≡ 64 * c.args.terms.now.head.now.blocks =
    omega (arith, c.requires.count, c.requires.marks, c.take_start.auto.blocks) in
    let sent = c.sent_planes-sent.ensures in
    let lows = await_lows g.I.OctetIn.source wish c.args.terms.now.head.now c.take_start.new.blocks whole c.take_start.new.marks c.sent_planes-sent.result
    sent.weights sent.q sent.below start in
    text_taken g.I.OctetIn.source wish c.args.terms.now.head.now c.take_planes.result c.take_planes.new.blocks (start.left _ _
    (rw (sent.weights, sent.q, sent.below, sent.restore) at (c.take_planes.ensures.planes _ sent.stages start.given start.numbers lows)))

use Rattle.std.proofs.Common.{◌≡◌, ap, subst, arith}
use Rattle.bit_pipe.specs.SinkState.{sink_state}
use Rattle.plane_defs.specs.declared.stages.Stage.TheVariants.{Parents, Children, Grandchildren}
use Rattle.plane_coder.specs.declared.tables.CodeTables.{CodeTables}
use Rattle.plane_coder.specs.Collected.{wants}
use Rattle.plane_coder.specs.Listed.{listed}
use Rattle.plane_coder.specs.Spells.{Spells}
use Rattle.plane_coder.proofs.Alike.{spells_alike}
use Rattle.plane_coder.proofs.stages.put_stage_words.Goals as goal

pub returns-in-1 : goal.returns-in-1
returns-in-1 g c sent has =
    let k = g.O.OctetOut.sink in
    let is : g.row.STAGE ≡ 1 = c.in-1.is in
    let wanted = ap (λ n. wants n 1) is in
    let put = subst (λ (t : CodeTables). Spells k t.book c.args.pending.now.gaggle c.put_words.new.pending.gaggle c.put_words.result
    (sink_state k c.args.out.now) (sink_state k c.put_words.new.out) (listed c.args.words.now.parents)) c.new-option_codes.ensures.tables
    c.put_words.ensures.spells in
    rw is (spells_alike (listed c.args.words.now.parents) (sent Parents) (has.parents wanted) put)

pub returns-in-2 : goal.returns-in-2
returns-in-2 g c sent has =
    let k = g.O.OctetOut.sink in
    let is : g.row.STAGE ≡ 2 = c.in-2.is in
    let wanted = ap (λ n. wants n 2) is in
    let put = subst (λ (t : CodeTables). Spells k t.book c.args.pending.now.gaggle c.put_words-in-2.new.pending.gaggle c.put_words-in-2.result
    (sink_state k c.args.out.now) (sink_state k c.put_words-in-2.new.out) (listed c.args.words.now.children)) c.new-option_codes.ensures.tables
    c.put_words-in-2.ensures.spells in
    rw is (spells_alike (listed c.args.words.now.children) (sent Children) (has.children wanted) put)

pub returns-in_default : goal.returns-in_default
returns-in_default g c sent has =
    let k = g.O.OctetOut.sink in
    let is : g.row.STAGE ≡ 3 = omega (arith, c.requires.first, c.requires.last) in
    let wanted = ap (λ n. wants n 3) is in
    let put = subst (λ (t : CodeTables). Spells k t.book c.args.pending.now.gaggle c.put_words-in_default.new.pending.gaggle c.put_words-in_default.result
    (sink_state k c.args.out.now) (sink_state k c.put_words-in_default.new.out) (listed c.args.words.now.grandchildren)) c.new-option_codes.ensures.tables
    c.put_words-in_default.ensures.spells in
    rw is (spells_alike (listed c.args.words.now.grandchildren) (sent Grandchildren) (has.grandchildren wanted) put)

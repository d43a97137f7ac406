use Rattle.std.proofs.Common.{◌≡◌, ◌∙◌, ap, sym, subst, arith, Result, Ok}
use Rattle.bit_pipe.specs.SourceState.{source_state}
use Rattle.bit_pipe.specs.declared.fault.Part.{Part}
use Rattle.bit_pipe.specs.declared.fault.Part.TheVariants.{Whole}
use Rattle.bit_pipe.specs.declared.fault.TextFault.{TextFault}
use Rattle.bit_pipe.specs.ScriptSources.{ReadsAs, by_part, got}
use Rattle.bit_pipe.proofs.ScriptReading.{leaves_all}
use Rattle.item_defs.specs.Scripts.{around}
use Rattle.plane_defs.specs.Marks.{depths_of}
use Rattle.plane_defs.specs.Lows.{planes_given}
use Rattle.plane_defs.specs.Restored.{numbers_for}
use Rattle.wave_defs.specs.Held.{blocks_in}
use Rattle.plane_reader.specs.Above.{AwaitDcs, HasNoAcs}
use Rattle.plane_reader.specs.Planes.{stages_of}
use Rattle.plane_reader.proofs.PlaneReads.{part_around}
use Rattle.plane_reader.proofs.PlanesReads.{planes_done, below_stop, blocks_whole, AreWhole}
use Rattle.plane_reader.proofs.planes.take_planes.Goals as goal

pub returns-then-sent-clause-planes : goal.returns-then-sent-clause-planes
returns-then-sent-clause-planes g c = λ stages same h is await.
    let s = c.args.sent.now in
    let k = g.I.OctetIn.source in
    let x = source_state c.args.input.now in
    let book = c.args.tables.now.words.book in
    let depths = depths_of c.args.marks.now in
    let blocks = c.args.blocks.now in
    let script = planes_given book s.weights.shifts s.q depths stages s.below h in
    let whole : AreWhole h.numbers = subst AreWhole (sym is) (blocks_whole blocks (omega (arith, c.requires.whole))) in
    let read = planes_done book s.weights.shifts s.q depths stages c.requires.open (λ p lt. same p ∙ below_stop s p (omega (arith, lt, c.if-sent.true)))
    whole (leaves_all script x) in
    let all : Result Part TextFault = Ok Whole in
    subst (λ w. ReadsAs k (around (numbers_for s.restore s.weights.shifts) script) (got w) x x) (c.restore_unread.ensures.numbers h is await)
    (part_around (numbers_for s.restore s.weights.shifts) script all h read)

pub take_sent-taken-requires-clause-acs : goal.take_sent-taken-requires-clause-acs
take_sent-taken-requires-clause-acs g c = subst HasNoAcs (sym c.slice_numbers.ensures.numbers) c.requires.acs

pub take_sent-taken-requires-clause-dcs : goal.take_sent-taken-requires-clause-dcs
take_sent-taken-requires-clause-dcs g c = subst (λ b. AwaitDcs c.args.sent.now.below c.args.sent.now.q (blocks_in
    b)) (sym c.slice_numbers.ensures.numbers) c.requires.dcs

pub join_numbers-requires-clause-below : goal.join_numbers-requires-clause-below
join_numbers-requires-clause-below g c =
    let taken = c.take_sent-taken.ensures in
    c.restore_read.ensures.below c.args.sent.now.below taken.plane taken.empty

pub returns-clause-planes : goal.returns-clause-planes
returns-clause-planes g c = λ stages same h is await.
    let s = c.args.sent.now in
    let k = g.I.OctetIn.source in
    let old = source_state c.args.input.now in
    let new = source_state c.take_sent-taken.new.input in
    let book = c.args.tables.now.words.book in
    let depths = depths_of c.args.marks.now in
    let result = c.take_sent-taken.result.read in
    let all : stages ≡ stages_of s = λ i p. same p i in
    let taken = c.take_sent-taken.ensures.planes h (is ∙ ap blocks_in (sym c.slice_numbers.ensures.numbers)) await in
    let script = planes_given book s.weights.shifts s.q depths (stages_of s) s.below h in
    let numbers = c.restore_read.ensures.numbers taken.now taken.lows ∙ ap blocks_in (sym c.join_numbers.ensures) in
    let read = part_around (numbers_for s.restore s.weights.shifts) script result taken.now taken.read in
    subst (λ f. ReadsAs k (around (numbers_for s.restore s.weights.shifts) (planes_given book s.weights.shifts s.q depths f s.below h)) (by_part result
    (blocks_in c.join_numbers.new.cells) (blocks_in c.join_numbers.new.cells)) old new) (sym all)
    (subst (λ w. ReadsAs k (around (numbers_for s.restore s.weights.shifts) script) (by_part result w w) old new) numbers read)

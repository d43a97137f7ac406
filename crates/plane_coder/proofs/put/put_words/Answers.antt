use Rattle.std.proofs.Common.{◌≡◌, ◌+◌, ◌<◌, ◌∙◌, ap, sym, subst, arith, flat_map}
use Rattle.std.proofs.lemmas.Result.{err_from_is_err_and}
use Rattle.std.proofs.lemmas.Grind.{common_steps}
use Rattle.bit_pipe.specs.SinkState.{sink_state}
use Rattle.plane_defs.specs.Spans.{span}
use Rattle.plane_defs.proofs.SpanLists.{flat_map-span-suc, flat_map-span-none}
use Rattle.plane_coder.specs.Appends.{Appends}
use Rattle.plane_coder.specs.Listed.{entries_at}
use Rattle.plane_coder.specs.Spells.{Spells}
use Rattle.plane_coder.proofs.Waiting.{Waits, waits_none, waits_more, waits_put, waits_end}
use Rattle.plane_coder.proofs.Sending.{spelled_cut}
use Rattle.plane_coder.proofs.put.put_words.Goals as goal
use Rattle.plane_coder.proofs.put.put_words.Goals.{then-not-has_room+in_ok-put, else-not-has_room}

pub loop-i-init : goal.loop-i-init
loop-i-init g c = grind (arith, common_steps, flat_map-span-none, waits_none)

pub returns-in_err-put-clause-spells : goal.returns-in_err-put-clause-spells
returns-in_err-put-clause-spells g c =
    let p = err_from_is_err_and c.from_residual.result c.from_residual.ensures.1 in
    let below : c.loop-i.i < c.args.words.now.count = omega (arith, c.count-i-end.ensures, c.loop-i-test.true) in
    rw (p.1, p.2) (spelled_cut (entries_at c.args.words.now.list) 0 c.loop-i.i c.args.words.now.count below
    (waits_end c.requires.«open» c.loop-i.invariant.waits c.in_err-put.ensures.puts c.in_err-put.ensures.gaggle))

pub loop-i-preserved : goal.loop-i-preserved
loop-i-preserved g c =
    let k = g.O.OctetOut.sink in
    let book = c.args.option_codes.now.tables.now.book in
    let gaggle = c.args.pending.now.gaggle in
    let from = sink_state k c.args.out.now in
    let to = sink_state k c.if-not-has_room.out in
    let f = entries_at c.args.words.now.list in
    let i = c.loop-i.i in
    let now : Waits k book gaggle c.if-not-has_room.pending from to (flat_map f (span 0 i)) = elim c.if-not-has_room.branch [
      | then-not-has_room+in_ok-put w ↦ rw (w.out-is, w.pending-is)
          (waits_put c.loop-i.invariant.waits w.in_ok-put.ensures.puts.ends w.in_ok-put.ensures.gaggle w.in_ok-put.ensures.silent)
      | else-not-has_room w ↦ rw (w.out-is, w.pending-is) c.loop-i.invariant.waits
    ] in
    let here : i ≡ 0 + i = omega arith in
    let next = subst (λ l. Appends book c.if-not-has_room.pending c.typed.new.self l 12) (c.at.ensures.typed ∙ ap f here) c.typed.ensures in
    record { waits = subst (Waits k book gaggle c.typed.new.self from to) (sym (flat_map-span-suc f 0 i)) (waits_more 12 now next) }

pub returns-clause-spells : goal.returns-clause-spells
returns-clause-spells g c =
    let k = g.O.OctetOut.sink in
    let all : c.loop-i.i ≡ c.args.words.now.count = omega (arith, c.count-i-end.ensures, c.loop-i-test.false, c.loop-i.auto.i-end) in
    subst (λ n. Spells k c.args.option_codes.now.tables.now.book c.args.pending.now.gaggle c.put-2.new.self.gaggle c.put-2.result (sink_state k c.args.out.now)
    (sink_state k c.put-2.new.out) (flat_map (entries_at c.args.words.now.list) (span 0 n))) all
    (waits_end c.requires.«open» c.loop-i.invariant.waits c.put-2.ensures.puts c.put-2.ensures.gaggle)

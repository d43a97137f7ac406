use Rattle.std.proofs.Common.{rules, ◌≡◌, FitsSigned, w32, pos, ap, sym, ◌∙◌, [], ◌∷◌, subst, get_or}
use Rattle.std.proofs.lemmas.Int.{to_z-of_z}
use Rattle.bit_pipe.specs.SinkState.{sink_state, Puts}
use Rattle.plane_defs.specs.Entries.{twos_bit}
use Rattle.plane_coder.proofs.Spelling.{spells_raw, spells_if, spells_if_not}
use Rattle.plane_coder.proofs.BlockReads.{dc_there}
use Rattle.plane_coder.proofs.put.put_dc_bit.Goals as goal

pub returns-then-not-is_dc_bit_due : goal.returns-then-not-is_dc_bit_due
returns-then-not-is_dc_bit_due g c book gaggle = spells_if_not _ (sym c.is_dc_bit_due.ensures ∙ c.if-not-is_dc_bit_due.true) c.requires.open

pub returns : goal.returns
returns g c book gaggle =
    let r = c.args.r in
    let number = get_or c.dcs.result.now r (pos 0) in
    let fits : FitsSigned w32 number = search rules in
    let if_known : c.twos_bit_at.result ≡ twos_bit number c.args.plan.now.plane = simp to_z-of_z at c.twos_bit_at.ensures in
    let same = if_known ∙ ap (λ n. twos_bit n c.args.plan.now.plane) (c.dcs.ensures.dcs r ∙ sym (dc_there c.args.segment.now.numbers r)) in
    spells_if _ (sym c.is_dc_bit_due.ensures ∙ c.if-not-is_dc_bit_due.false)
    (spells_raw gaggle c.put.result _ _ _ c.requires.open
    (subst (λ b. Puts g.O.OctetOut.sink c.put.result (sink_state g.O.OctetOut.sink c.args.out.now) (sink_state g.O.OctetOut.sink c.put.new.self) (b ∷ [])) same
    c.put.ensures))

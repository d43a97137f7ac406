use Rattle.std.proofs.Common.{◌≡◌, ◌^◌, ◌∙◌, pos, get_or, ap, rules, Some}
use Rattle.std.proofs.lemmas.Int.{to_z-of_z}
use mir.Syntax.{w32, w64}
use mir.Val.{to_z, of_z}
use Rattle.wave_defs.specs.Line.{floor_div}
use Rattle.quick_look.proofs.row.LookRowBlockSink.put.Goals as goal

pub returns : goal.returns
returns g c =
    let number = get_or c.args.numbers.now 0 (pos 0) in
    let value = c.unweighted-value.result in
    let passed : to_z w32 (of_z w32 number) ≡ number = to_z-of_z w32 number (search rules) in
    let given : to_z w64 (of_z w64 value) ≡ value = to_z-of_z w64 value (search rules) in
    c.take_value.ensures (Some c.args.numbers.now) (given ∙ c.unweighted-value.ensures ∙ ap (λ z. floor_div z (2 ^ c.args.self.now.shift)) passed)

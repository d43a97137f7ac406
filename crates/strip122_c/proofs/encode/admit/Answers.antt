use Rattle.std.proofs.Common.{rules, ◌≡◌, ◌&&◌, ◌∙◌, sym, false, ◌==◌}
use Rattle.base_122.specs.Ranges.{is_within, width_range, first_out_of_range}
use Rattle.strip122_c.proofs.Admitted.{checks}
use Rattle.strip122_c.proofs.WholeEncoded.{field_named}
use Rattle.strip122_c.proofs.encode.admit.Goals as goal

pub returns-in-Err : goal.returns-in-Err
returns-in-Err c =
    let s = c.args.setting.now in
    let passes : ((s.rows == 0) && is_within width_range s.width) ≡ false = search rules in
    checks s passes ∙ field_named (first_out_of_range s) c.in-Err.out (sym c.in-Err.ensures.first)

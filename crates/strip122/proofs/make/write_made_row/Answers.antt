use Rattle.std.proofs.Common.{rules, sym, subst, []}
use Rattle.port_122.specs.Outside.{Exchange, NoRead}
use Rattle.port_122.proofs.Stretches.{since_out}
use Rattle.strip122.proofs.MadeParts.{part_is, parts_then, row_failed}
use Rattle.strip122.proofs.make.write_made_row.Goals as goal

pub returns-in_err-write_row : goal.returns-in_err-write_row
returns-in_err-write_row g c =
    let made = c.args.made.now in
    let part = part_is made c.args.row c.loop-done.done c.min-count.result _ c.requires.depth c.make_pixels.ensures.pixels in
    row_failed made c.args.row c.loop-done.done c.min-count.result c.from_residual.result (search rules) c.loop-done.invariant.out
    (rw part at c.in_err-write_row.ensures) (search rules)

pub loop-done-preserved : goal.loop-done-preserved
loop-done-preserved g c =
    let made = c.args.made.now in
    let part = part_is made c.args.row c.loop-done.done c.min-count.result _ c.requires.depth c.make_pixels.ensures.pixels in
    record {
      within = search rules;
      same = search rules;
      out = subst (λ gave. Exchange (g.X.Port.outside c.args.port.now) (g.X.Port.outside c.write_row.new.port) [] gave [] NoRead)
          (sym (parts_then made c.args.row c.loop-done.done c.min-count.result))
          (since_out c.loop-done.invariant.out (rw part at c.in_ok-write_row.ensures));
    }

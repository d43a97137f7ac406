use Rattle.std.proofs.Common.{◌∙◌, subst}
use Rattle.port_122.specs.Outside.{WritesAll}
use Rattle.raster_rows.specs.Gathered.{waiting_of}
use Rattle.picture_rows.specs.Pictures.{picture_state}
use Rattle.picture_rows.proofs.RowGives.{rows_failed}
use Rattle.picture_rows.proofs.RowsGathered.{gathered_nothing, gathered_then, gathered_broken, gathered_given, row_less}
use Rattle.picture_rows.proofs.rows.give_rows.Goals as goal

pub loop-init : goal.loop-init
loop-init g c = record {
  gathered = gathered_nothing (g.X.Port.outside c.args.port.now) (picture_state c.args.picture.now) (waiting_of c.new-rows.result) c.requires.sized
      c.new-rows.ensures.none;
  form = record { depth = c.new-rows.ensures.depth; signed = c.new-rows.ensures.signed; width = c.new-rows.ensures.width };
}

pub returns-in_err-give_row : goal.returns-in_err-give_row
returns-in_err-give_row g c = rows_failed _ c.from_residual.result c.from_residual.ensures.0
    (gathered_broken c.loop.invariant.gathered c.in_err-give_row.ensures.row)

pub loop-smaller : goal.loop-smaller
loop-smaller g c = row_less (rw c.if-branch.true at c.in_ok-give_row.ensures.row)

pub loop-preserved : goal.loop-preserved
loop-preserved g c =
    let form = c.loop.invariant.form in
    let alike = c.give_row.ensures.alike in
    record {
      gathered = gathered_then c.loop.invariant.gathered (rw c.if-branch.true at c.in_ok-give_row.ensures.row);
      form = record { depth = alike.depth ∙ form.depth; signed = alike.signed ∙ form.signed; width = alike.width ∙ form.width };
    }

pub returns : goal.returns
returns g c =
    let out = g.X.Port.outside c.give.new.port in
    let none = rw c.if-branch.false at c.in_ok-give_row.ensures.row in
    let given = subst (λ p. WritesAll c.give.result p out (waiting_of c.give_row.new.rows)) none.0 c.give.ensures.given in
    gathered_given out c.give.result c.loop.invariant.gathered none.2 (subst (WritesAll c.give.result (g.X.Port.outside c.loop.port) out) none.1 given)

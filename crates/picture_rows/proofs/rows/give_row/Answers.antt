use Rattle.std.proofs.Common.{◌++◌, refl, subst}
use Rattle.raster_rows.specs.Gathered.{waiting_of, Adds, GivesPart}
use Rattle.picture_rows.specs.Pictures.{picture_state}
use Rattle.picture_rows.proofs.RowGives.{row_added, row_made, row_broken, row_none, row_failed}
use Rattle.picture_rows.proofs.RowsGathered.{form_of}
use Rattle.picture_rows.proofs.rows.give_row.Goals as goal

pub returns-then-not-make_row-clause-row : goal.returns-then-not-make_row-clause-row
returns-then-not-make_row-clause-row g c =
    let e = c.if-not-make_row.ensures in (
      refl,
      refl,
      row_none (picture_state c.args.picture.now) c.make_row.new.self c.requires.sized
          (record { height = e.height; width = e.width; taken = e.taken; next = e.kept; idle = e.idle; numbers = e.numbers; follows = e.follows }),
    )

pub returns-in_err-add-clause-row : goal.returns-in_err-add-clause-row
returns-in_err-add-clause-row g c =
    let e = c.if-not-make_row.ensures in
    let out = g.X.Port.outside c.add.new.port in
    let waiting = waiting_of c.args.rows.now in
    let octets = form_of c.args.picture.now.geometry c.args.rows.now c.row.result.now c.requires.form in
    let part = subst (λ zs. GivesPart (g.X.Port.outside c.args.port.now) out (waiting ++ zs)) octets c.in_err-add.ensures.added in
    row_failed _ _ c.from_residual.result c.from_residual.ensures.0
    (row_broken (picture_state c.args.picture.now) c.make_row.new.self c.requires.sized
    (record { height = e.height; width = e.width; taken = e.taken; next = e.given; could = e.made; numbers = e.numbers; follows = e.follows; value = e.value })
    (rw c.row.ensures.row at c.row.ensures.wide)
    (g.X.Port.outside c.args.port.now) out waiting c.if-row-picture.true (rw c.row.ensures.row at part))

pub returns-in_ok-add-clause-row : goal.returns-in_ok-add-clause-row
returns-in_ok-add-clause-row g c =
    let e = c.if-not-make_row.ensures in
    let out = g.X.Port.outside c.add.new.port in
    let waiting = waiting_of c.args.rows.now in
    let octets = form_of c.args.picture.now.geometry c.args.rows.now c.row.result.now c.requires.form in
    let adds = subst (λ zs. Adds (g.X.Port.outside c.args.port.now) out waiting (waiting_of c.add.new.self) zs) octets c.in_ok-add.ensures.added in
    row_added (picture_state c.args.picture.now) c.make_row.new.self c.requires.sized
    (record { height = e.height; width = e.width; taken = e.taken; next = e.given; could = e.made; numbers = e.numbers; follows = e.follows; value = e.value })
    (rw c.row.ensures.row at c.row.ensures.wide)
    (g.X.Port.outside c.args.port.now) out waiting (waiting_of c.add.new.self) c.if-row-picture.true (rw c.row.ensures.row at adds)

pub returns-else-row-picture-clause-row : goal.returns-else-row-picture-clause-row
returns-else-row-picture-clause-row g c =
    let e = c.if-not-make_row.ensures in
    row_made (picture_state c.args.picture.now) c.make_row.new.self c.requires.sized
    (record { height = e.height; width = e.width; taken = e.taken; next = e.given; could = e.made; numbers = e.numbers; follows = e.follows; value = e.value })
    (g.X.Port.outside c.args.port.now) (waiting_of c.args.rows.now) c.if-row-picture.false

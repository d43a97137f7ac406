use Rattle.std.proofs.Common.{◌∙◌, refl, sym, ap, subst, vec_len}
use Rattle.strip_coder.specs.Plans.{plan_of, tallest}
use Rattle.strip_coder.specs.Steps.{IsRowInRange}
use Rattle.encoder_rows.specs.Rows.{ShowsRow}
use Rattle.encoder_rows.proofs.RowSteps.{next_is, row_given, shown_values, taken_only}
use Rattle.encoder_rows.proofs.rows.take_row.Goals as goal

pub settle-requires-clause-taken : goal.settle-requires-clause-taken
settle-requires-clause-taken c =
    let s = c.args.setting.now in
    let w = c.args.work.now in
    let k = w.at.rows in
    let run = c.requires.running in
    taken_only (plan_of s (tallest s)) k w _ (record {
      row =
          ap vec_len c.swap.ensures.x_after ∙ c.read_octets.ensures.row ∙ sym run.rows.valid.taken.running.gathered.made.row;
      strip = refl;
      blocks =
          refl;
      packets = refl;
      writer = refl;
      room = refl;
      at = refl;
    }) run.rows.valid.taken

pub settle-requires-clause-values : goal.settle-requires-clause-values
settle-requires-clause-values c =
    let s = c.args.setting.now in
    let reads = c.in_default.ensures.reads in
    subst (λ v. IsRowInRange s v.items) (sym c.swap.ensures.x_after) (shown_values s c.args.octets.now _ reads.0 reads.1)

pub settle-requires-clause-next : goal.settle-requires-clause-next
settle-requires-clause-next c =
    let s = c.args.setting.now in
    let w = c.args.work.now in
    let k = w.at.rows in
    let run = c.requires.running in
    let reads = c.in_default.ensures.reads in
    next_is s c.requires.usable k c.requires.few run.taken run.given c.args.octets.now w _ run.rows
    (record {
      row = ap vec_len c.swap.ensures.x_after ∙ c.read_octets.ensures.row ∙ sym run.rows.valid.taken.running.gathered.made.row;
      strip =
          refl;
      blocks = refl;
      packets = refl;
      writer = refl;
      room = refl;
      at = refl;
    })
    c.requires.whole reads.0 (subst (λ v. ShowsRow s c.args.octets.now v.items) (sym c.swap.ensures.x_after) reads.1) refl

pub returns-clause-takes : goal.returns-clause-takes
returns-clause-takes c =
    let s = c.args.setting.now in
    let w = c.args.work.now in
    let k = w.at.rows in
    let run = c.requires.running in
    let reads = c.in_default.ensures.reads in
    let new = c.settle.new.packets in (
      reads.0,
      c.settle.ensures.fits,
      c.settle.ensures.row.taken.rows,
      λ taken given has.
          row_given s c.requires.usable k c.requires.few taken given c.args.octets.now w _ has
          (record {
            row = ap vec_len c.swap.ensures.x_after ∙ c.read_octets.ensures.row ∙ sym run.rows.valid.taken.running.gathered.made.row;
            strip =
                refl;
            blocks = refl;
            packets = refl;
            writer = refl;
            room = refl;
            at = refl;
          })
          c.requires.whole reads.0 (subst (λ v. ShowsRow s c.args.octets.now v.items) (sym c.swap.ensures.x_after) reads.1) c.args.packets.now.size new.size
          new.faults new.kept.items c.settle.new.work c.settle.ensures.row,
    )

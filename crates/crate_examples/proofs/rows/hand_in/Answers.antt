use Rattle.std.proofs.Common.{◌∙◌, arith}
use Rattle.strip_coder.proofs.PlanLaws.{known_tallest}
use Rattle.strip_coder.specs.Works.{FollowsRows}
use Rattle.crate_examples.proofs.RowsIn.{row_shows, row_in_range, row_made, row_counted, row_given, some_rows}
use Rattle.crate_examples.proofs.rows.hand_in.Goals as goal

pub row_in-requires-clause-values : goal.row_in-requires-clause-values
row_in-requires-clause-values g c =
    row_in_range c.args.setting.now c.requires.octets c.args.row.now c.requires.row c.args.work.now.row _ (c.put_row.auto.row ∙ c.deref_mut.ensures.len)
    c.put_row.ensures.row c.put_row.ensures.in_range

pub returns-clause-made : goal.returns-clause-made
returns-clause-made g c = row_made c.args.setting.now _ _ _ c.row_in.new.work c.row_in.result c.row_in.ensures

pub returns-clause-count : goal.returns-clause-count
returns-clause-count g c = row_counted c.args.setting.now _ _ _ c.row_in.new.work c.row_in.result c.row_in.ensures

pub returns-clause-given : goal.returns-clause-given
returns-clause-given g c image start given is =
    let s = c.args.setting.now in
    let v = c.args.work.now.row in
    let long = c.put_row.auto.row ∙ c.deref_mut.ensures.len in
    let shows = row_shows s c.requires.octets c.args.row.now c.requires.row v _ long c.put_row.ensures.row in
    let in_range = row_in_range s c.requires.octets c.args.row.now c.requires.row v _ long c.put_row.ensures.row c.put_row.ensures.in_range in
    let tall = given.follows.tall in
    let holds = tall.holds in
    let follows : FollowsRows s image _ =
    record {
      tall = record { strip = tall.strip; holds = record { blocks = holds.blocks; given = holds.given; used = holds.used } };
      any =
          given.follows.any;
    } in
    row_given s image start _ _ _ c.row_in.new.work (some_rows s.rows c.args.work.now.at.rows c.requires.few) follows given.since
    (record { at = λ k lt. shows.at k lt ∙ is.at k lt }) c.row_in.result in_range c.row_in.ensures

pub row_in-requires-clause-few : goal.row_in-requires-clause-few
row_in-requires-clause-few g c =
    let s = c.args.setting.now in
    let tall = known_tallest s (some_rows s.rows c.args.work.now.at.rows c.requires.few) in
    omega (arith, tall, c.requires.few)

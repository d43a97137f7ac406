use Rattle.plane_coder.proofs.CodeRows.{all_coded}
use Rattle.plane_coder.proofs.tables.CodeTables.new.Goals as goal

pub invariant_of-result : goal.invariant_of-result
invariant_of-result c =
    let book = c.args.book.now in
    let coded = all_coded book _ _ _ _ _ _ _ _ _ _ (c.raw_codes.ensures book) c.codes_of.ensures c.codes_of-2.ensures c.codes_of-3.ensures
    c.codes_of-4.ensures c.codes_of-5.ensures c.codes_of-6.ensures c.codes_of-7.ensures c.codes_of-8.ensures c.codes_of-9.ensures in
    record {
      sound = c.requires;
      coded = coded;
      costed = record { short = c.short_costs_of.ensures book coded; long = c.long_costs_of.ensures book coded };
    }

use Rattle.std.proofs.Common.{◌∙◌}
use Rattle.plane_coder.proofs.Choosing.{cheapest_of_words}
use Rattle.plane_coder.proofs.choose.choose_options.Goals as goal

pub returns-clause-chosen : goal.returns-clause-chosen
returns-clause-chosen c =
    c.best_options.ensures.best c.args.view.now.tables.now.book _ c.costs_of.ensures ∙ cheapest_of_words _ c.args.g _ c.collect_gaggle.ensures
    c.args.view.now.tables.now.book

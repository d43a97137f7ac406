use Rattle.std.proofs.Common.{rules}
use Rattle.wave_tests.proofs.Widened.{widened_fits}
use Rattle.wave_tests.proofs.kernels.plus_predicted_widened.Goals as goal

pub predict_add_widened-requires-clause-fits : goal.predict_add_widened-requires-clause-fits
predict_add_widened-requires-clause-fits c =
    widened_fits _ _ _ _ _ _ (search rules) (search rules) (search rules) (search rules) (search rules)

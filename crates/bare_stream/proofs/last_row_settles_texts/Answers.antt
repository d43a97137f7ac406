use Rattle.bare_stream.proofs.Runs.{all_so}
use Rattle.bare_stream.proofs.last_row_settles_texts.Goals as goal

pub returns : goal.returns
returns c = record { all = λ s raster more is_bare whole. all_so s is_bare raster whole more }

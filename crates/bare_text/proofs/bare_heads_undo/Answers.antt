use Rattle.bare_text.specs.Laws.{in_force, bare_head}
use Rattle.bare_text.proofs.FurtherOctets.{in_whole}
use Rattle.bare_text.proofs.WrittenBare.{read_after, whole_after, force_after}
use Rattle.bare_text.proofs.bare_heads_undo.Goals as goal

pub returns : goal.returns
returns c = record {
  read = λ before h fits small ten. in_whole (in_force before) (bare_head before h) h (read_after h fits small ten before)
      (whole_after h fits small ten before);
  force = λ before h fits small ten. force_after h fits small ten before;
}

use Rattle.std.proofs.Common.{ap, subst, ◌∙◌}
use Rattle.packet_assembly.specs.Notes.{note_in, PassesNext}
use Rattle.packet_assembly.proofs.Again.{ended_again, long_again}
use Rattle.packet_assembly.proofs.OneStep.{end_on, fail_on}
use Rattle.packet_assembly.proofs.laws.answers_again.Goals as goal

pub returns : goal.returns
returns c = record {
  ended = λ old new a b result x ended.
      let e = ended_again x.passes ended in
      (x.answer ∙ ap note_in e, (end_on {P = λ s. Unit {0}} (subst (λ r. PassesNext old new a b r) e x.passes) tt).ended);
  long = λ old new a b result x long.
      let e = long_again x.passes long in
      (x.answer ∙ ap note_in e, (fail_on {P = λ s. Unit {0}} (subst (λ r. PassesNext old new a b r) e x.passes) tt).fails);
}

use Rattle.std.proofs.Common.{refl, ap, ◌∙◌}
use Rattle.space_packets.specs.Progress.{Progress, fresh}
use Rattle.strip_coder.proofs.WorkStarts.{starts}
use Rattle.strip_coder.proofs.engine.start_image.Goals as goal

pub returns-clause-start : goal.returns-clause-start
returns-clause-start c =
    let made = c.requires.made in
    starts c.args.setting.now _ c.requires.in_range
    (record {
      row = made.row;
      blocks = rw c.clear.ensures.most made.blocks;
      strip = c.reset.ensures.columns ∙ made.strip;
      packet = ap (λ (p : Progress). p.packet) c.reset-2.ensures ∙ made.packet;
      writer = made.writer;
      room = made.room;
    })
    (record { strip = c.reset.ensures.start; packets = c.reset-2.ensures ∙ ap fresh made.packet; none = c.clear.ensures.numbers; at = refl })

pub returns-clause-fresh : goal.returns-clause-fresh
returns-clause-fresh c = record {
  strip = c.reset.ensures.start;
  packets = c.reset-2.ensures ∙ ap fresh c.requires.made.packet;
  none = c.clear.ensures.numbers;
  at = refl;
}

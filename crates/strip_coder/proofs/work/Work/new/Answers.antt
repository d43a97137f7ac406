use Rattle.std.proofs.Common.{refl, ◌∙◌, arith, ap, ◌≡◌, ◌≤◌}
use Rattle.base_122.specs.Sizes.{block_count}
use Rattle.wave_strip.specs.Strip.{columns_of}
use Rattle.strip_coder.proofs.PlanLaws.{tall_height}
use Rattle.strip_coder.specs.Works.{most_blocks}
use Rattle.strip_coder.proofs.WorkStarts.{starts, most_within}
use Rattle.strip_coder.proofs.work.Work.new.Goals as goal

pub geometry_for-geometry-requires : goal.geometry_for-geometry-requires
geometry_for-geometry-requires c = rw c.tallest.ensures (tall_height c.args.setting.now c.requires.in_range).0

pub invariant_of-result : goal.invariant_of-result
invariant_of-result c =
    let width = rw c.geometry_for-geometry.ensures at c.padded_width-width.ensures in
    let few : most_blocks c.args.setting.now ≤ c.args.setting.now.segment = most_within c.args.setting.now in
    record {
      within = omega (
        arith,
        width,
        few,
        c.in_ok-strip.ensures.columns,
        c.in_ok-row.ensures.len,
        c.in_ok-blocks.ensures.most,
        c.most_blocks-count.ensures,
        c.need.ensures,
      );
    }

pub returns-clause-start : goal.returns-clause-start
returns-clause-start c =
    let width = rw c.geometry_for-geometry.ensures at c.padded_width-width.ensures in
    let count = c.most_blocks-count.ensures in
    let columns : columns_of c.in_ok-strip.strip ≡ block_count c.args.setting.now.width = omega (arith, c.in_ok-strip.ensures.columns, width) in
    starts c.args.setting.now _ c.requires.in_range
    (record {
      row = c.in_ok-row.ensures.len ∙ width;
      blocks = omega (arith, c.in_ok-blocks.ensures.most, count);
      strip = columns;
      packet = ap (λ p. p.packet) c.in_ok-packets.ensures;
      writer = c.new-4.ensures.book;
      room = c.need.ensures;
    })
    (record { strip = c.in_ok-strip.ensures.start; packets = c.in_ok-packets.ensures; none = c.in_ok-blocks.ensures.numbers; at = refl })

use Rattle.std.proofs.Common.{◌≡◌, ◌<◌, ◌-◌, ◌*◌, ◌∙◌, arith, ap, subst}
use Rattle.base_122.specs.Setting.{sized}
use Rattle.base_122.specs.Sizes.{segment_count, total_blocks}
use Rattle.base_122.specs.declared.geometry.Geometry.{Geometry}
use Rattle.stream_defs.specs.Output.{segments_of}
use Rattle.encoder_rows.specs.Room.{reached, segment_room}
use Rattle.encoder_rows.proofs.Reach.{end_fits, end_room-few}
use Rattle.encoder_rows.proofs.room.end_need.Goals as goal

pub overflow_mul-result : goal.overflow_mul-result
overflow_mul-result c =
    let s = c.args.setting.now in
    let range = c.requires.in_range in
    let few = c.segment_room.ensures.few in
    let most = end_fits s range c.args.rows c.requires.rows in
    let room = end_room-few s range (segment_room s) (subst (λ r. r < 8589934592) c.segment_room.ensures.value few) in
    let segments : c.from.result ≡ segments_of (sized s c.args.rows) =
    c.from.ensures ∙ c.segments.ensures ∙ ap (λ (g : Geometry). segment_count (total_blocks g.width g.rows) g.segment) c.geometry_for.ensures in
    let same = ap (λ n. (n - c.reached.result) * c.segment_room.result) segments ∙ ap (λ n. (segments_of (sized s c.args.rows) - n) * c.segment_room.result)
    c.reached.ensures.value
    ∙ ap (λ r. (segments_of (sized s c.args.rows) - reached s c.args.rows) * r) c.segment_room.ensures.value in
    omega (arith, same, most, room)

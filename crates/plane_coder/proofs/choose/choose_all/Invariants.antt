use Rattle.std.proofs.Common.{◌≡◌, vec_len}
use Rattle.plane_defs.specs.Marks.{depths_of}
use Rattle.plane_defs.specs.Planes.{chosen as cheapest_options}
use Rattle.plane_coder.specs.Chosen.{ChoosesFirst}
use Rattle.plane_coder.specs.Kept.{KeepFirst}
use Rattle.plane_coder.specs.Views.{plane_at}
use Rattle.plane_coder.proofs.choose.choose_all.Given as goal

abbrev pub invariant-loop-g : goal.invariant-loop-g
invariant-loop-g l =
    let p = plane_at l.segment.numbers (depths_of l.initial.marks) l.plan in
    record {
      chosen : ChoosesFirst l.tables.book p l.initial.marks l.marks l.g;
      room : vec_len l.room.kept ≡ vec_len l.initial.room.kept;
      kept : KeepFirst l.tables.book (cheapest_options l.tables.book p) p l.g l.room.kept.items;
    }

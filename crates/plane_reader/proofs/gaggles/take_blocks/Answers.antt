use Rattle.std.proofs.Common.{rules, FitsSigned, w32, pos, ◌≡◌, ◌<◌, ◌+◌, ◌*◌, ◌/◌, ◌∙◌, nat_lt, get_or, length, refl, sym, ap, true, arith}
use Rattle.std.proofs.lemmas.Result.{err_from_is_err_and}
use Rattle.std.proofs.lemmas.Int.{to_z-of_z}
use Rattle.plane_reader.specs.Blocks.{terms_of}
use Rattle.item_defs.specs.Bits.{bit}
use Rattle.plane_reader.proofs.SignReads.{bit_inside}
use Rattle.plane_reader.proofs.HeldGroups.{zero_bit}
use Rattle.plane_reader.proofs.GaggleReads.{deep_start, deep_to, deep_after, next_is_left, blocks_done, slots_kept, slots_more, above_after, states_kept}
use Rattle.plane_reader.proofs.GaggleReads.{states_set, block_whole, block_cut, block_fault}
use Rattle.plane_reader.proofs.gaggles.take_blocks.Goals as goal

pub loop-left-init : goal.loop-left-init
loop-left-init g c =
    let b = c.args.of.now.blocks in
    let plan = c.args.of.now.plan.now in
    record {
      reading = c.requires.reading;
      tables = refl;
      keeps = slots_kept c.args.cells.now;
      states = states_kept c.args.marks.now;
      small = c.requires.small;
      left = λ depths numbers p deep above have families are.
          deep_start (terms_of plan c.args.reading.now.tables.now.words.book) g.row.STAGE depths numbers plan.plane
          (b.first.block / 16) b.first.block b.count p b.deep c.requires.reading.is_in are have families;
    }

pub further-column-requires-clause-gaggle : goal.further-column-requires-clause-gaggle
further-column-requires-clause-gaggle g c =
    let inside = bit_inside c.loop-left.left c.args.of.now.blocks.count c.first_in-k.result c.loop-left.invariant.small c.first_in-k.ensures.here in
    omega (arith, inside, c.requires.gaggle, c.requires.count, c.from.ensures)

pub further-column-requires-clause-block : goal.further-column-requires-clause-block
further-column-requires-clause-block g c =
    let inside = bit_inside c.loop-left.left c.args.of.now.blocks.count c.first_in-k.result c.loop-left.invariant.small c.first_in-k.ensures.here in
    omega (arith, inside, c.requires.within, c.requires.whole, c.from.ensures, c.loop-left.invariant.keeps.long)

pub returns-clause-blocks : goal.returns-clause-blocks
returns-clause-blocks g c = λ depths numbers p deep above have families are.
    let i = c.loop-left.invariant in
    let b = c.args.of.now.blocks in
    let plan = c.args.of.now.plan.now in
    let first = b.first.block in
    let t = terms_of plan c.args.reading.now.tables.now.words.book in
    let l = i.left depths numbers p deep above have families are in
    let done = deep_to t g.row.STAGE depths numbers plan.plane (first / 16) first b.count p c.requires.some plan.low i.reading.is_in
    (λ j lt. (
      omega (arith, c.requires.gaggle, c.requires.count, lt),
      omega (
        arith,
        c.requires.within,
        c.requires.whole,
        lt,
        i.keeps.long,
      ),
    )) deep l b.count (omega arith) l.within
    (λ j lt. ap (λ m. bit m j) c.loop-left-test.false ∙ zero_bit j) in
    blocks_done t g.row.STAGE depths numbers plan.plane (first / 16) first p (omega arith) done

pub returns-in_err-read-clause-blocks : goal.returns-in_err-read-clause-blocks
returns-in_err-read-clause-blocks g c = λ depths numbers p deep above have families are.
    let e = err_from_is_err_and c.from_residual.result c.from_residual.ensures.1 in
    let h = c.in_err-read.ensures in
    let fits : FitsSigned w32 (get_or c.loop-left.marks c.further-column.result.block (pos 0)) = search rules in
    let own = to_z-of_z w32 (get_or c.loop-left.marks c.further-column.result.block (pos 0)) fits in
    let i = c.loop-left.invariant in
    let plan = c.args.of.now.plan.now in
    let first = c.args.of.now.blocks.first.block in
    let k = c.first_in-k.result in
    let d = i.left depths numbers p deep above have families are in
    let t = terms_of plan c.args.reading.now.tables.now.words.book in
    let lt = bit_inside c.loop-left.left c.args.of.now.blocks.count k i.small c.first_in-k.ensures.here in
    let same : (first + k) / 16 ≡ first / 16 = omega (arith, c.requires.gaggle, c.requires.count, lt) in
    let in_marks : first + k < length c.loop-left.marks = omega (arith, c.requires.within, lt, i.states.long) in
    let inside : 64 * (first + k) < length c.loop-left.cells = omega (arith, c.requires.within, c.requires.whole, lt, i.keeps.long) in
    let past = next_is_left c.loop-left.left d.none c.first_in-k.ensures.here in
    let l = deep_to t g.row.STAGE depths numbers plan.plane (first / 16) first c.args.of.now.blocks.count p c.requires.some plan.low i.reading.is_in
    (λ j less. (
      omega (arith, c.requires.gaggle, c.requires.count, less),
      omega (
        arith,
        c.requires.within,
        c.requires.whole,
        less,
        i.keeps.long,
      ),
    )) deep d k (omega (arith, lt)) past c.first_in-k.ensures.none_before in
    let is_deep : nat_lt plan.plane (get_or depths (first + k) 0) ≡ true = sym (deep.at k lt) ∙ sym (d.kept k past lt) ∙ c.first_in-k.ensures.here in
    let at : c.further-column.result.block ≡ first + k = omega (arith, c.further-column.ensures.block, c.from.ensures) in
    let now = above_after numbers plan.low i.keeps above in
    rw (e.1, e.2) (block_fault t g.row.STAGE depths numbers plan.plane
    (first / 16) first p lt l same c.requires.some plan.low c.requires.stage is_deep at inside in_marks now h.keeps
    (λ block s a b read kept. rw i.tables at (h.block block s a b read (rw own kept))) _ refl)

pub returns-in_default-clause-blocks : goal.returns-in_default-clause-blocks
returns-in_default-clause-blocks g c = λ depths numbers p deep above have families are.
    let h = rw c.in_default.is at c.in_ok-read.ensures in
    let fits : FitsSigned w32 (get_or c.loop-left.marks c.further-column.result.block (pos 0)) = search rules in
    let own = to_z-of_z w32 (get_or c.loop-left.marks c.further-column.result.block (pos 0)) fits in
    let i = c.loop-left.invariant in
    let plan = c.args.of.now.plan.now in
    let first = c.args.of.now.blocks.first.block in
    let k = c.first_in-k.result in
    let d = i.left depths numbers p deep above have families are in
    let t = terms_of plan c.args.reading.now.tables.now.words.book in
    let lt = bit_inside c.loop-left.left c.args.of.now.blocks.count k i.small c.first_in-k.ensures.here in
    let same : (first + k) / 16 ≡ first / 16 = omega (arith, c.requires.gaggle, c.requires.count, lt) in
    let in_marks : first + k < length c.loop-left.marks = omega (arith, c.requires.within, lt, i.states.long) in
    let inside : 64 * (first + k) < length c.loop-left.cells = omega (arith, c.requires.within, c.requires.whole, lt, i.keeps.long) in
    let past = next_is_left c.loop-left.left d.none c.first_in-k.ensures.here in
    let l = deep_to t g.row.STAGE depths numbers plan.plane (first / 16) first c.args.of.now.blocks.count p c.requires.some plan.low i.reading.is_in
    (λ j less. (
      omega (arith, c.requires.gaggle, c.requires.count, less),
      omega (
        arith,
        c.requires.within,
        c.requires.whole,
        less,
        i.keeps.long,
      ),
    )) deep d k (omega (arith, lt)) past c.first_in-k.ensures.none_before in
    let is_deep : nat_lt plan.plane (get_or depths (first + k) 0) ≡ true = sym (deep.at k lt) ∙ sym (d.kept k past lt) ∙ c.first_in-k.ensures.here in
    let at : c.further-column.result.block ≡ first + k = omega (arith, c.further-column.ensures.block, c.from.ensures) in
    let now = above_after numbers plan.low i.keeps above in
    block_cut t g.row.STAGE depths numbers plan.plane (first / 16) first p lt l same c.requires.some plan.low c.requires.stage is_deep at inside in_marks now
    h.keeps (λ block s a b read kept. rw i.tables at (h.block block s a b read (rw own kept))) refl

pub loop-left-preserved : goal.loop-left-preserved
loop-left-preserved g c =
    let h = rw c.in-Whole.is at c.in_ok-read.ensures in
    let new = c.take_block-read.new.block.mark in
    let new_fits : FitsSigned w32 new = search rules in
    let back = to_z-of_z w32 new new_fits in
    let fits : FitsSigned w32 (get_or c.loop-left.marks c.further-column.result.block (pos 0)) = search rules in
    let own = to_z-of_z w32 (get_or c.loop-left.marks c.further-column.result.block (pos 0)) fits in
    let j = c.loop-left.invariant in
    let in_states : c.further-column.result.block < length c.loop-left.marks = omega (
      arith,
      c.requires.within,
      (bit_inside c.loop-left.left c.args.of.now.blocks.count c.first_in-k.result c.loop-left.invariant.small c.first_in-k.ensures.here),
      j.states.long,
      c.further-column.ensures.block,
      c.from.ensures,
    ) in
    record {
      reading = h.reading;
      tables = h.tables ∙ j.tables;
      keeps = slots_more j.keeps h.keeps;
      states = rw back (states_set c.args.marks.now c.loop-left.marks c.further-column.result.block new in_states (rw own at h.depth) (rw own at h.options)
          (rw own at h.sent) j.states);
      small = omega (arith, c.without-left.ensures.fewer c.first_in-k.ensures.here, j.small);
      left = λ depths numbers p deep above have families are.
          let i = c.loop-left.invariant in
          let plan = c.args.of.now.plan.now in
          let first = c.args.of.now.blocks.first.block in
          let k = c.first_in-k.result in
          let d = i.left depths numbers p deep above have families are in
          let t = terms_of plan c.args.reading.now.tables.now.words.book in
          let lt = bit_inside c.loop-left.left c.args.of.now.blocks.count k i.small c.first_in-k.ensures.here in
          let same : (first + k) / 16 ≡ first / 16 = omega (arith, c.requires.gaggle, c.requires.count, lt) in
          let in_marks : first + k < length c.loop-left.marks = omega (arith, c.requires.within, lt, i.states.long) in
          let inside : 64 * (first + k) < length c.loop-left.cells = omega (arith, c.requires.within, c.requires.whole, lt, i.keeps.long) in
          let past = next_is_left c.loop-left.left d.none c.first_in-k.ensures.here in
          let l = deep_to t g.row.STAGE depths numbers plan.plane (first / 16) first c.args.of.now.blocks.count p c.requires.some plan.low i.reading.is_in
          (λ j less. (
            omega (arith, c.requires.gaggle, c.requires.count, less),
            omega (
              arith,
              c.requires.within,
              c.requires.whole,
              less,
              i.keeps.long,
            ),
          )) deep d k (omega (arith, lt)) past c.first_in-k.ensures.none_before in
          let is_deep : nat_lt plan.plane (get_or depths (first + k) 0) ≡ true = sym (deep.at k lt) ∙ sym (d.kept k past lt) ∙ c.first_in-k.ensures.here in
          let at : c.further-column.result.block ≡ first + k = omega (arith, c.further-column.ensures.block, c.from.ensures) in
          let now = above_after numbers plan.low i.keeps above in
          rw back (deep_after t g.row.STAGE depths numbers plan.plane (first / 16) first c.args.of.now.blocks.count p c.requires.count d k lt past
          c.first_in-k.ensures.none_before c.without-left.ensures.gone c.without-left.ensures.others
          (block_whole t g.row.STAGE depths numbers plan.plane (first / 16) first p lt l same c.requires.some plan.low c.requires.stage is_deep at inside
          in_marks now h.keeps (λ block s a b read kept. rw i.tables at (h.block block s a b read (rw own kept))) refl));
    }

pub returns-in_err-read-clause-states : goal.returns-in_err-read-clause-states
returns-in_err-read-clause-states g c =
    let h = c.in_err-read.ensures in
    let fits : FitsSigned w32 (get_or c.loop-left.marks c.further-column.result.block (pos 0)) = search rules in
    let own = to_z-of_z w32 (get_or c.loop-left.marks c.further-column.result.block (pos 0)) fits in
    let new = c.take_block-read.new.block.mark in
    let new_fits : FitsSigned w32 new = search rules in
    let back = to_z-of_z w32 new new_fits in
    let j = c.loop-left.invariant in
    let in_states : c.further-column.result.block < length c.loop-left.marks = omega (
      arith,
      c.requires.within,
      (bit_inside c.loop-left.left c.args.of.now.blocks.count c.first_in-k.result c.loop-left.invariant.small c.first_in-k.ensures.here),
      j.states.long,
      c.further-column.ensures.block,
      c.from.ensures,
    ) in
    rw back (states_set c.args.marks.now c.loop-left.marks c.further-column.result.block new in_states (rw own at h.depth) (rw own at h.options)
    (rw own at h.sent) j.states)

pub returns-in_err-read-clause-keeps : goal.returns-in_err-read-clause-keeps
returns-in_err-read-clause-keeps g c = let h = c.in_err-read.ensures in slots_more c.loop-left.invariant.keeps h.keeps

pub returns-in_default-clause-states : goal.returns-in_default-clause-states
returns-in_default-clause-states g c =
    let h = rw c.in_default.is at c.in_ok-read.ensures in
    let fits : FitsSigned w32 (get_or c.loop-left.marks c.further-column.result.block (pos 0)) = search rules in
    let own = to_z-of_z w32 (get_or c.loop-left.marks c.further-column.result.block (pos 0)) fits in
    let new = c.take_block-read.new.block.mark in
    let new_fits : FitsSigned w32 new = search rules in
    let back = to_z-of_z w32 new new_fits in
    let j = c.loop-left.invariant in
    let in_states : c.further-column.result.block < length c.loop-left.marks = omega (
      arith,
      c.requires.within,
      (bit_inside c.loop-left.left c.args.of.now.blocks.count c.first_in-k.result c.loop-left.invariant.small c.first_in-k.ensures.here),
      j.states.long,
      c.further-column.ensures.block,
      c.from.ensures,
    ) in
    rw back (states_set c.args.marks.now c.loop-left.marks c.further-column.result.block new in_states (rw own at h.depth) (rw own at h.options)
    (rw own at h.sent) j.states)

pub returns-in_default-clause-keeps : goal.returns-in_default-clause-keeps
returns-in_default-clause-keeps g c = let h = rw c.in_default.is at c.in_ok-read.ensures in slots_more c.loop-left.invariant.keeps h.keeps

pub loop-left-smaller : goal.loop-left-smaller
loop-left-smaller g c = c.without-left.ensures.fewer c.first_in-k.ensures.here

use Rattle.std.specs.Int.{div_ceil}
use Rattle.std.proofs.Common.{◌≡◌, ◌<◌, ◌*◌, ◌^◌, ◌+ℤ◌, ap, get_or, length, arith, pos, w32, to_z, of_z, rules}
use Rattle.std.proofs.lemmas.Int.{to_z-of_z, fits_signed_from_abs}
use Rattle.std.proofs.lemmas.Result.{err_from_is_err_and}
use Rattle.number_defs.proofs.CellPlaces.{place_within}
use Rattle.bit_pipe.proofs.Taking.{in_later}
use Rattle.dc_depths.proofs.DcReads.{bits_start, bits_more, bits_ended, bits_failed, bits_all, grew_start, grew_fits, grew_more}
use Rattle.dc_depths.proofs.dc_in.take_bits.Goals as goal

pub loop-block-init : goal.loop-block-init
loop-block-init g c = record {
  is_in = c.requires.open;
  grew = grew_start _ c.args.blocks.now;
  so_far = λ q given first s lows. bits_start _ q c.args.plane given _ c.args.blocks.now s lows;
}

pub loop-block-preserved : goal.loop-block-preserved
loop-block-preserved g c =
    let weight = to_z-of_z w32 c.args.weight c.ranges.weight in
    let i = rw weight at c.loop-block.invariant in
    let counts = rw weight at c.weighed.ensures in
    let at = c.loop-block.block in
    let cells = c.loop-block.blocks in
    let h = rw c.in-Some.is at c.in_ok-bit.ensures in
    let small : c.in-Some.bit < 2 ^ 1 = h.ends.0 in
    let place : at * 64 < length c.args.blocks.now = place_within (length c.args.blocks.now) 64 at (omega arith)
    (omega (arith, c.div_ceil-count.ensures)) in
    let cell : to_z w32 (of_z w32 (get_or cells (at * 64) (pos 0))) ≡ get_or cells (at * 64) (pos 0) =
    to_z-of_z w32 (get_or cells (at * 64) (pos 0)) (search rules) in
    let one : to_z w32 (of_z w32 c.weighed.result) ≡ c.weighed.result = to_z-of_z w32 c.weighed.result (search rules) in
    let sum = to_z-of_z w32 (get_or cells (at * 64) (pos 0) +ℤ c.weighed.result)
    (fits_signed_from_abs w32 (get_or cells (at * 64) (pos 0) +ℤ c.weighed.result) (grew_fits c.args.weight at c.in-Some.bit c.weighed.result place
    (omega (arith, small)) counts i.grew c.requires.room)) in
    rw (weight, cell, one, sum) (record {
      is_in = in_later i.is_in h.ends.1;
      grew = grew_more c.args.weight at c.in-Some.bit c.weighed.result place (omega (arith, small)) counts i.grew;
      so_far = λ q given first s lows.
          let same = ap (λ n. div_ceil n 64) s.size in
          bits_more c.args.weight q c.args.plane given at (omega (arith, same, c.div_ceil-count.ensures)) (i.so_far q given first s lows) _
          c.in-Some.bit c.weighed.result (omega arith) (omega (arith, place, s.size)) counts h.ends;
    })

pub overflow_add-blocks : goal.overflow_add-blocks
overflow_add-blocks g c =
    let weight = to_z-of_z w32 c.args.weight c.ranges.weight in
    let i = rw weight at c.loop-block.invariant in
    let counts = rw weight at c.weighed.ensures in
    let at = c.loop-block.block in
    let cells = c.loop-block.blocks in
    let h = rw c.in-Some.is at c.in_ok-bit.ensures in
    let small : c.in-Some.bit < 2 ^ 1 = h.ends.0 in
    let place : at * 64 < length c.args.blocks.now = place_within (length c.args.blocks.now) 64 at (omega arith)
    (omega (arith, c.div_ceil-count.ensures)) in
    let cell : to_z w32 (of_z w32 (get_or cells (at * 64) (pos 0))) ≡ get_or cells (at * 64) (pos 0) =
    to_z-of_z w32 (get_or cells (at * 64) (pos 0)) (search rules) in
    let one : to_z w32 (of_z w32 c.weighed.result) ≡ c.weighed.result = to_z-of_z w32 c.weighed.result (search rules) in
    rw (cell, one) (fits_signed_from_abs w32 (get_or cells (at * 64) (pos 0) +ℤ c.weighed.result)
    (grew_fits c.args.weight at c.in-Some.bit c.weighed.result place (omega (arith, small)) counts i.grew c.requires.room))

pub returns-in_err-bit-clause-takes : goal.returns-in_err-bit-clause-takes
returns-in_err-bit-clause-takes g c = λ q given first s lows.
    let p = err_from_is_err_and c.from_residual.result c.from_residual.ensures.1 in
    let i = rw (to_z-of_z w32 c.args.weight c.ranges.weight) at c.loop-block.invariant in
    let same = ap (λ n. div_ceil n 64) s.size in
    rw (p.1, p.2) (bits_failed c.args.weight q c.args.plane given c.loop-block.block (omega (arith, same, c.div_ceil-count.ensures))
    (i.so_far q given first s lows) _ c.in_err-bit.ensures.ends)

pub returns-in_default-clause-takes : goal.returns-in_default-clause-takes
returns-in_default-clause-takes g c = λ q given first s lows.
    let h = rw c.in_default.is at c.in_ok-bit.ensures in
    let i = rw (to_z-of_z w32 c.args.weight c.ranges.weight) at c.loop-block.invariant in
    let same = ap (λ n. div_ceil n 64) s.size in
    bits_ended c.args.weight q c.args.plane given c.loop-block.block (omega (arith, same, c.div_ceil-count.ensures)) (i.so_far q given first s lows) _
    (omega (arith, c.requires.few, c.div_ceil-count.ensures)) h.ends

pub returns-clause-takes : goal.returns-clause-takes
returns-clause-takes g c = λ q given first s lows.
    let i = rw (to_z-of_z w32 c.args.weight c.ranges.weight) at c.loop-block.invariant in
    let same = ap (λ n. div_ceil n 64) s.size in
    bits_all c.args.weight q c.args.plane given c.loop-block.block _ (omega (arith, same, c.div_ceil-count.ensures))
    (omega (arith, c.requires.few, c.div_ceil-count.ensures)) i.is_in (i.so_far q given first s lows)

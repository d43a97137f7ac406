use Rattle.std.proofs.Common.{rules}
use Rattle.std.proofs.lemmas.Result.{err_from_is_err_and}
use Rattle.wave_defs.specs.Held.{blocks_in}
use Rattle.segment_defs.specs.Coded.{coded_bits}
use Rattle.segment_code.proofs.Bounded.{is_bounded}
use Rattle.segment_code.proofs.Encoding.{put_broke, closed_fitting, fitting_fits, if_known}
use Rattle.segment_code.proofs.encode.SegmentWriter.encode.Goals as goal

pub end-requires-clause-padded : goal.end-requires-clause-padded
end-requires-clause-padded g c =
    let h = c.args.head.now in
    let b = is_bounded c.args.self.now.tables.book c.args.self.now.tables.sound h c.args.blocks.now.numbers c.requires.fits c.in_ok-put_fitting.ensures.ten
    c.requires.count c.requires.dc c.requires.ac in
    fitting_fits g.O.OctetOut.sink c.args.out.now _ _ h.image.word h.limit h.fill
    (coded_bits c.args.self.now.tables.book h (blocks_in c.args.blocks.now.numbers)) (rw c.from.ensures at c.new-bits.ensures.begins)
    c.new-bits.ensures.is_open c.requires.none b c.in_ok-put_fitting.ensures.puts

pub returns-in_err-put_fitting-clause-text : goal.returns-in_err-put_fitting-clause-text
returns-in_err-put_fitting-clause-text g c =
    let p = err_from_is_err_and c.from_residual.result c.from_residual.ensures.1 in
    let name = c.in_err-put_fitting.ensures.puts.name in
    let same = c.new-bits.ensures.same in
    let h = c.args.head.now in
    let bits = coded_bits c.args.self.now.tables.book h (blocks_in c.args.blocks.now.numbers) in
    let b = is_bounded c.args.self.now.tables.book c.args.self.now.tables.sound h c.args.blocks.now.numbers c.requires.fits c.in_err-put_fitting.ensures.ten
    c.requires.count c.requires.dc c.requires.ac in
    let broke = put_broke g.O.OctetOut.sink c.args.out.now _ _ h.image.word h.limit h.fill bits (rw c.from.ensures at c.new-bits.ensures.begins)
    c.new-bits.ensures.is_open c.requires.none b c.in_err-put_fitting.ensures.puts in
    if_known g.O.OctetOut.sink c.args.out.now c.from_residual.result c.args.self.now.tables.book h (blocks_in c.args.blocks.now.numbers)
    c.put_fitting.new.out.out.now _ (search rules) (rw p.1 broke)

pub returns-clause-text : goal.returns-clause-text
returns-clause-text g c =
    let h = c.args.head.now in
    let name = c.in_ok-put_fitting.ensures.puts.name in
    let same = c.new-bits.ensures.same in
    let b = is_bounded c.args.self.now.tables.book c.args.self.now.tables.sound h c.args.blocks.now.numbers c.requires.fits c.in_ok-put_fitting.ensures.ten
    c.requires.count c.requires.dc c.requires.ac in
    let all = closed_fitting g.O.OctetOut.sink c.args.out.now _ _ h.image.word h.limit h.fill
    (coded_bits c.args.self.now.tables.book h (blocks_in c.args.blocks.now.numbers)) (rw c.from.ensures at c.new-bits.ensures.begins)
    c.new-bits.ensures.is_open c.requires.none c.end.result b c.in_ok-put_fitting.ensures.puts c.end.ensures in
    if_known g.O.OctetOut.sink c.args.out.now c.end.result c.args.self.now.tables.book h (blocks_in c.args.blocks.now.numbers) c.end.new.self.0 _
    (search rules) all

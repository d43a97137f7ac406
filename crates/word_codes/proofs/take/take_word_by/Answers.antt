use Rattle.std.proofs.Common.{◌^◌, arith}
use Rattle.bit_pipe.specs.Prefixes.{Reports}
use Rattle.plane_defs.specs.Codes.{word_item}
use Rattle.word_codes.proofs.WordPrefixes.{row_reports, takes_plain}
use Rattle.word_codes.proofs.take.take_word_by.Goals as goal

pub returns-then-option-length : goal.returns-then-option-length
returns-then-option-length g c = takes_plain c.args.tables.now.book c.args.length c.args.option (omega arith) c.take_plain.ensures

pub take_prefix-requires-clause-table : goal.take_prefix-requires-clause-table
take_prefix-requires-clause-table g c =
    let t = c.args.tables.now in
    let reports : Reports (2 ^ c.args.length) (word_item t.book c.args.length c.args.option) c.row.result.now =
    rw c.row.ensures (row_reports t c.args.length c.args.option c.requires.short c.requires.long (omega (arith, c.requires.known))) in
    record { most = _; item = _; reports = reports }

pub returns : goal.returns
returns g c =
    let t = c.args.tables.now in
    let reports : Reports (2 ^ c.args.length) (word_item t.book c.args.length c.args.option) c.row.result.now =
    rw c.row.ensures (row_reports t c.args.length c.args.option c.requires.short c.requires.long (omega (arith, c.requires.known))) in
    c.take_prefix.ensures _ _ reports

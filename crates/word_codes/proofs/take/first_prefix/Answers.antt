use Rattle.std.proofs.Common.{◌≡◌, arith, subst, sym}
use Rattle.bit_pipe.specs.Prefixes.{prefix_at}
use Rattle.word_codes.specs.WordPrefixes.{IsFirst}
use Rattle.word_codes.proofs.WordPrefixes.{first_plain, first_coded}
use Rattle.word_codes.proofs.take.first_prefix.Goals as goal

pub returns-then-option-length : goal.returns-then-option-length
returns-then-option-length c =
    subst (λ row. IsFirst c.args.tables.now.book c.args.length c.args.option c.args.octet (prefix_at row c.args.octet)) (sym c.row.ensures)
    (first_coded c.args.tables.now c.args.length c.args.option c.args.octet (omega arith) c.requires.long (omega arith) c.requires.octet)

pub returns : goal.returns
returns c = first_plain c.args.tables.now.book c.args.length c.args.option c.args.octet c.requires.long (λ some. omega arith) c.requires.octet

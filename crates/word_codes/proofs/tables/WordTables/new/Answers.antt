use Rattle.word_codes.proofs.WordPrefixes.{all_known}
use Rattle.word_codes.proofs.tables.WordTables.new.Goals as goal

pub invariant_of-result : goal.invariant_of-result
invariant_of-result c = record {
  sound = c.requires;
  if_known = all_known c.args.book.now _ _ _ _ _ _ c.prefixes_of.ensures c.prefixes_of-2.ensures c.prefixes_of-3.ensures c.prefixes_of-4.ensures
      c.prefixes_of-5.ensures c.prefixes_of-6.ensures;
}

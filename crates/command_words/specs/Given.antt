-- The table of what was found at each key.
use Rattle.std.specs.Prelude.{None, slice_index_or}
use Rattle.command_words.specs.declared.given.Given.{Given}
use Rattle.command_words.specs.Tables.{key_place, Finds}

abbrev pub finds_of : Given → Finds
finds_of given key = slice_index_or given.found (key_place key) None

use Rattle.std.proofs.Common.{◌<◌, ℕ}
use Rattle.bit_pipe.specs.Prefixes.{prefix_at}
use Rattle.plane_defs.specs.Codes.{code_at}
use Rattle.word_codes.specs.WordPrefixes.{Begins, PrefixOf}
use Rattle.word_codes.proofs.tables.prefixes_of.Given as goal

abbrev pub invariant-loop-symbol : goal.invariant-loop-symbol
invariant-loop-symbol l = (octet s : ℕ) → octet < 256 → s < l.symbol → Begins (code_at l.book l.length l.option s) octet →
    PrefixOf l.book l.length l.option s (prefix_at l.prefixes octet)

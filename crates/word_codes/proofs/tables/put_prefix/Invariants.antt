use Rattle.std.proofs.Common.{◌≡◌, ◌≤◌, ◌<◌, ℕ, length}
use Rattle.bit_pipe.specs.Prefixes.{prefix_at}
use Rattle.word_codes.proofs.tables.put_prefix.Given as goal

abbrev pub invariant-loop-octet : goal.invariant-loop-octet
invariant-loop-octet l = record {
  whole : length l.prefixes ≡ 256;
  begun : (octet : ℕ) → l.first ≤ octet → octet < l.octet → prefix_at l.prefixes octet ≡ l.prefix;
  before : (octet : ℕ) → octet < l.first → prefix_at l.prefixes octet ≡ prefix_at l.initial.prefixes octet;
  after : (octet : ℕ) → l.octet ≤ octet → prefix_at l.prefixes octet ≡ prefix_at l.initial.prefixes octet;
}

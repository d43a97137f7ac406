use Rattle.std.proofs.Common.{◌≡◌, ◌-◌, ◌≤◌, ◌++◌, replicate, vec_len, vec_capacity}
use Rattle.block_masks.proofs.segment_masks.fill_to.Given as goal

abbrev pub invariant-loop-words : goal.invariant-loop-words
invariant-loop-words l = record {
  items : l.words.items ≡ l.initial.words.items ++ replicate (vec_len l.words - vec_len l.initial.words) 0;
  grown : vec_len l.initial.words ≤ vec_len l.words;
  within : vec_len l.words ≤ l.len;
  capacity : vec_capacity l.words ≡ vec_capacity l.initial.words;
}

abbrev pub decreases-loop-words : goal.decreases-loop-words
decreases-loop-words l = l.len - vec_len l.words

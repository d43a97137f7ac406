use Rattle.packet_defs.proofs.Splits.{whole_splits, splits_whole, splits_left}
use Rattle.packet_defs.proofs.streams_split.Goals as goal

pub returns : goal.returns
returns c = record {
  some = whole_splits;
  only = λ octets packets left s. splits_whole s;
  left = λ octets packets left s. splits_left s;
}

-- What a decoder reads if it is given all packets of an image.
use Rattle.std.proofs.Common.{◌≡◌, ◌∙◌, inl, inr, ℕ, true, List, [], ◌++◌, length, sym, ap, arith, length-append, Some}
use Rattle.port_122.specs.Outside.{Outside, Exchange}
use Rattle.port_122.proofs.IfKnown.{end_known}
use Rattle.packet_defs.specs.Streams.{has_bad_version, left_over}
use Rattle.packet_assembly.specs.Readings.{IsReadOut}
use Rattle.packet_assembly.proofs.BadVersions.{bad_some, left_stays}
use Rattle.strip122.proofs.ReadOut.{took_prefix}

-- ---- what can't be read on

-- so if nothing is left over of an input, each prefix of it can be read on
prefix_good : (took more : List ℕ) → left_over (took ++ more) ≡ [] → has_bad_version (left_over took) ≡ true → ⊥
prefix_good took more none bad = omega (
  arith,
  ap length (sym (left_stays took more bad) ∙ none),
  length-append (left_over took) more,
  bad_some (left_over took) bad,
)

-- and if the input was read out, all of it was taken
pub took_all : {g w : List ℕ} {Q : ℕ → ℕ → Type 0} (cap : ℕ) (took input : List ℕ) (old new : Outside) → Exchange old new took g w Q →
    old.rest ≡ Some input → left_over input ≡ [] →
    IsReadOut cap new took → took ≡ input
took_all cap took input old new since if_known none (inl bad) =
    let prefix = took_prefix input took old.rest new.rest if_known since.rest in
    absurd (prefix_good took prefix.0 (ap left_over (sym prefix.1) ∙ none) bad)
took_all cap took input old new since if_known none (inr ended) = end_known input since if_known ended.0

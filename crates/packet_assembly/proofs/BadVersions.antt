-- Octets that can't be read on, and what follows them.
use Rattle.std.proofs.lemmas.Bool.Decides.{nat_tests}
use Rattle.std.proofs.Common.{◌≡◌, ◌<◌, ◌∙◌, ℕ, List, [], ◌∷◌, ◌++◌, length, arith, append_assoc, true}
use Rattle.std.proofs.lemmas.Bool.{false≢true}
use Rattle.packet_defs.specs.Streams.{Splits, has_bad_version, left_over, whole_packets}
use Rattle.packet_defs.proofs.Prefixes.{version-append}
use Rattle.packet_defs.proofs.Splits.{splits_left, splits_whole, whole_splits}
use Rattle.space_packets.proofs.Intakes.{no_begin}

pub bad_some : (xs : List ℕ) → has_bad_version xs ≡ true → 0 < length xs
bad_some [] bad = absurd (false≢true bad)
bad_some (x ∷ xs) bad = omega arith

-- a bad version stays bad if more octets follow
pub bad_later : (took more : List ℕ) → has_bad_version (left_over took) ≡ true → has_bad_version (left_over took ++ more) ≡ true
bad_later took more bad = version-append (left_over took) more (bad_some (left_over took) bad) ∙ bad

pub bad_splits : (took more : List ℕ) → has_bad_version (left_over took) ≡ true → Splits (took ++ more) (whole_packets took) (left_over took ++ more)
bad_splits took more bad =
    let parts = whole_splits took in
    grind (arith, nat_tests, append_assoc, no_begin, bad_later)

-- after a bad version no more packets are read
pub bad_stays : (took more : List ℕ) → has_bad_version (left_over took) ≡ true → whole_packets (took ++ more) ≡ whole_packets took
bad_stays took more bad = splits_whole (bad_splits took more bad)

-- and the bad version is left over with all that follows
pub left_stays : (took more : List ℕ) → has_bad_version (left_over took) ≡ true → left_over (took ++ more) ≡ left_over took ++ more
left_stays took more bad = splits_left (bad_splits took more bad)

-- What was taken of an input, and what can't be read on.
use Rattle.std.proofs.Common.{◌≡◌, ◌≤◌, ◌+◌, ◌-◌, ◌∙◌, ℕ, true, false, List, ◌++◌, length, take, sym, ap, inl, inr, arith, Option, None, Some, append-nil}
use Rattle.std.proofs.lemmas.Bool.{false≢true}
use Rattle.std.proofs.Math.Seq.{take-append-add}
use Rattle.port_122.specs.Outside.{Outside, Exchange, Loses}
use Rattle.port_122.proofs.IfKnown.{end_known}
use Rattle.packet_defs.specs.Streams.{has_bad_version, left_over}
use Rattle.packet_assembly.specs.Readings.{IsReadOut}
use Rattle.packet_assembly.proofs.BadVersions.{bad_later, left_stays}
use Rattle.strip_decoder.proofs.TextReads.{left_after}

-- what was taken of an input, and the rest of it
pub took_prefix : (input took : List ℕ) (old new : Option (List ℕ)) → old ≡ Some input → Loses old new took → (rest : List ℕ) × (input ≡ took ++ rest)
took_prefix input took old None is p = absurd (let q = rw is at p in q)
took_prefix input took old (Some rest) is p = (rest, rw is at p)

-- ---- the octets that the cap allows

-- octets that were taken within a cap are a prefix of those that the cap allows
within_cap : (cap : ℕ) (input took rest : List ℕ) → input ≡ took ++ rest → length took ≤ cap → take cap input ≡ took ++ take (cap - length took) rest
within_cap cap input took rest is within =
    let all : cap ≡ length took + (cap - length took) = omega (arith, within) in
    ap (take cap) is ∙ ap (λ n. take n (took ++ rest)) all ∙ take-append-add took rest (cap - length took)

-- and if the full cap was taken, they are exactly these
pub all_within : (cap : ℕ) (input took rest : List ℕ) → input ≡ took ++ rest → length took ≡ cap → take cap input ≡ took
all_within cap input took rest is full =
    let none : cap - length took ≡ 0 = omega (arith, full) in
    within_cap cap input took rest is (omega (arith, full)) ∙ ap (λ n. took ++ take n rest) none ∙ append-nil took

-- if the octets taken can't be read on, those that the cap allows can't either
bad_within : (cap : ℕ) (input took rest : List ℕ) → input ≡ took ++ rest → length took ≤ cap → has_bad_version (left_over took) ≡ true →
    has_bad_version (left_over (take cap input)) ≡ true
bad_within cap input took rest is within bad =
    let more = take (cap - length took) rest in
    ap (λ xs. has_bad_version (left_over xs)) (within_cap cap input took rest is within) ∙ ap has_bad_version (left_stays took more bad)
    ∙ bad_later took more bad

-- An input that has at least the octets that the cap allows isn't read out, if these can be read on.
pub not_read_out : {g w : List ℕ} {Q : ℕ → ℕ → Type 0} (cap : ℕ) (took input : List ℕ) (old new : Outside) → Exchange old new took g w Q →
    old.rest ≡ Some input → length took ≤ cap →
    cap ≤ length input → has_bad_version (left_over (take cap input)) ≡ false → IsReadOut cap new took → ⊥
not_read_out cap took input old new since if_known within long good (inl bad) =
    let prefix = took_prefix input took old.rest new.rest if_known since.rest in
    false≢true (sym good ∙ bad_within cap input took prefix.0 prefix.1 within bad)
not_read_out cap took input old new since if_known within long good (inr ended) =
    let left = left_after old.rest new.rest took input since.rest if_known in
    omega (arith, ap length (end_known input since if_known ended.0), ended.1 left.rest left.if_known, long)

-- The values in missing blocks change only the samples that these blocks reach.
use Rattle.std.proofs.Common.{◌≡◌, ℕ, Bool, true, false, ◌+◌, ◌*◌, ◌<◌, ◌≤◌, ℤ, ◌⊎◌, inl, refl, arith}
use Rattle.std.proofs.lemmas.Bool.Decides.{nat_tests}
use Rattle.wave_defs.specs.Line.{merged}
use Rattle.wave_defs.specs.Pyramid.{Pyramid, rebuilt}
use Rattle.wave_defs.specs.Reach.{Reaches, SameBlock, SameReceived}
use Rattle.wave_defs.proofs.LineReach.{merged-reach}
use Rattle.wave_defs.proofs.InverseReach.{rebuilt-reach}

pub line-reach : (n i : ℕ) (c c' d d' : ℕ → ℤ) → 2 ≤ n → i < 2 * n → ((j : ℕ) → j < n → 2 * j ≤ i + 3 → i ≤ 2 * j + 3 → c j ≡ c' j) →
    ((j : ℕ) → j < n → 2 * j ≤ i + 3 → i ≤ 2 * j + 5 → d j ≡ d' j) → merged c d n i ≡ merged c' d' n i
line-reach n i c c' d d' two h low high = grind (arith, nat_tests, merged-reach)

pub sample-reach : (p q : Pyramid) (r c i j : ℕ) → 2 ≤ r → 2 ≤ c → i < 8 * r → j < 8 * c →
    ((t s : ℕ) → t < r → s < c → Reaches t i → Reaches s j → SameBlock p q t s) → rebuilt p r c i j ≡ rebuilt q r c i j
sample-reach p q r c i j hr hc hi hj same = rebuilt-reach p q r r c i j hr hc (record { or_far = inl refl }) same hi hj

received-or_missing : (b : Bool) (P : Type 0) → (b ≡ false → P) → (b ≡ true → ⊥) → P
received-or_missing true P received missing = absurd (missing refl)
received-or_missing false P received missing = received refl

pub blocks-reach : (p q : Pyramid) (missing : ℕ → ℕ → Bool) (r c i j : ℕ) → 2 ≤ r → 2 ≤ c → i < 8 * r → j < 8 * c → SameReceived missing r c p q →
    ((t s : ℕ) → t < r → s < c → missing t s ≡ true → Reaches t i → Reaches s j → ⊥) → rebuilt p r c i j ≡ rebuilt q r c i j
blocks-reach p q missing r c i j hr hc hi hj same away =
    sample-reach p q r c i j hr hc hi hj (λ t s ht hs row column.
    received-or_missing (missing t s) (SameBlock p q t s) (same.block t s ht hs) (λ m. away t s ht hs m row column))

pub rows-reach : (p q : Pyramid) (missing : ℕ → Bool) (r c i j : ℕ) → 2 ≤ r → 2 ≤ c → i < 8 * r → j < 8 * c → SameReceived (λ t s. missing t) r c p q →
    ((t : ℕ) → t < r → missing t ≡ true → Reaches t i → ⊥) → rebuilt p r c i j ≡ rebuilt q r c i j
rows-reach p q missing r c i j hr hc hi hj same away = grind (arith, nat_tests, blocks-reach)

pub columns-reach : (p q : Pyramid) (missing : ℕ → Bool) (r c i j : ℕ) → 2 ≤ r → 2 ≤ c → i < 8 * r → j < 8 * c → SameReceived (λ t s. missing s) r c p q →
    ((s : ℕ) → s < c → missing s ≡ true → Reaches s j → ⊥) → rebuilt p r c i j ≡ rebuilt q r c i j
columns-reach p q missing r c i j hr hc hi hj same away = grind (arith, nat_tests, blocks-reach)

-- ---- one block row, one block column, one block

from_first : (b i : ℕ) → Reaches b i → 8 * b ≤ i + 21
from_first b i reaches = grind (arith, nat_tests)

to_last : (b i : ℕ) → Reaches b i → i ≤ 8 * b + 29
to_last b i reaches = grind (arith, nat_tests)

away : (b i : ℕ) → (i + 21 < 8 * b) ⊎ (8 * b + 29 < i) → Reaches b i → ⊥
away b i outside reaches = grind (arith, nat_tests, from_first, to_last)

pub row-reach : (p q : Pyramid) (r c t i j : ℕ) → 2 ≤ r → 2 ≤ c → i < 8 * r → j < 8 * c → ((u s : ℕ) → u < r → s < c → (u ≡ t → ⊥) → SameBlock p q u s) →
    (i + 21 < 8 * t) ⊎ (8 * t + 29 < i) → rebuilt p r c i j ≡ rebuilt q r c i j
row-reach p q r c t i j hr hc hi hj same outside = grind (arith, nat_tests, sample-reach, away)

pub column-reach : (p q : Pyramid) (r c s i j : ℕ) → 2 ≤ r → 2 ≤ c → i < 8 * r → j < 8 * c → ((t u : ℕ) → t < r → u < c → (u ≡ s → ⊥) → SameBlock p q t u) →
    (j + 21 < 8 * s) ⊎ (8 * s + 29 < j) → rebuilt p r c i j ≡ rebuilt q r c i j
column-reach p q r c s i j hr hc hi hj same outside = grind (arith, nat_tests, sample-reach, away)

pub block-reach : (p q : Pyramid) (r c t s i j : ℕ) → 2 ≤ r → 2 ≤ c → i < 8 * r → j < 8 * c →
    ((u v : ℕ) → u < r → v < c → ((u ≡ t) × (v ≡ s) → ⊥) → SameBlock p q u v) →
    ((i + 21 < 8 * t) ⊎ (8 * t + 29 < i)) ⊎ ((j + 21 < 8 * s) ⊎ (8 * s + 29 < j)) → rebuilt p r c i j ≡ rebuilt q r c i j
block-reach p q r c t s i j hr hc hi hj same outside = grind (arith, nat_tests, sample-reach, away)

-- ---- the first rows, whatever the height is

pub rising-reach : (p q : Pyramid) (r r' c n i j : ℕ) → n ≤ r → n ≤ r' → 2 ≤ c → i + 21 < 8 * n → j < 8 * c →
    ((t s : ℕ) → t < n → s < c → SameBlock p q t s) → rebuilt p r c i j ≡ rebuilt q r' c i j
rising-reach p q r r' c n i j hr hr' hc hi hj same = grind (arith, nat_tests, rebuilt-reach, from_first)

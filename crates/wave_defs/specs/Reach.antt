-- The reach of a block: the samples of the inverse that depend on it, and the rows of an image that it is made from.
use Rattle.std.specs.Prelude.{◌≡◌, ℕ, ◌+◌, ◌*◌, ◌≤◌, ◌<◌, ℤ, Bool, true, false, ◌&&◌, nat_le, IsTrue, ◌⊎◌, List}
use Rattle.wave_defs.specs.Line.{merged, low_of, high_of}
use Rattle.wave_defs.specs.Pyramid.{Pyramid, padded, pyramid, rebuilt}
use Rattle.wave_defs.specs.Blocks.{coefficient, block}
use Rattle.wave_defs.specs.Held.{SameWithin}

-- block b of an axis reaches samples 8 * b - 21 to 8 * b + 29 of that axis; the axis is that of the rows or of the columns
abbrev pub reaches : (b i : ℕ) → Bool
reaches b i = nat_le (8 * b) (i + 21) && nat_le i (8 * b + 29)

abbrev pub Reaches : (b i : ℕ) → Type 0
Reaches b i = IsTrue (reaches b i)

-- the 64 numbers of block (t, s) are the same
pub record SameBlock (p q : Pyramid) (t s : ℕ) : Type 0 where
  pub at : (k : ℕ) → k < 64 → coefficient p t s k ≡ coefficient q t s k

-- the blocks that are not missing are the same, of r block rows of c blocks
pub record SameReceived (missing : ℕ → ℕ → Bool) (r c : ℕ) (p q : Pyramid) : Type 0 where
  pub block : (t s : ℕ) → t < r → s < c → missing t s ≡ false → SameBlock p q t s

-- In the inverse, a sample of a line depends on the low samples j with 2 * j - 3 <= i <= 2 * j + 3 and on the high
-- samples j with 2 * j - 3 <= i <= 2 * j + 5, mirrored ones among them.
pub record LineReach : Type 0 where
  pub sample : (n i : ℕ) (c c' d d' : ℕ → ℤ) → 2 ≤ n → i < 2 * n
      → ((j : ℕ) → j < n → 2 * j ≤ i + 3 → i ≤ 2 * j + 3 → c j ≡ c' j)
      → ((j : ℕ) → j < n → 2 * j ≤ i + 3 → i ≤ 2 * j + 5 → d j ≡ d' j)
      → merged c d n i ≡ merged c' d' n i

-- In the inverse of three levels, a sample only depends on the blocks that reach it by its row and by its column.
-- So what is in missing blocks changes only samples that one of them reaches, and what is in a block row, or a
-- block column, only the rows, or columns, that it reaches.
pub record InverseReach : Type 0 where
  pub sample : (p q : Pyramid) (r c i j : ℕ) → 2 ≤ r → 2 ≤ c → i < 8 * r → j < 8 * c
      → ((t s : ℕ) → t < r → s < c → Reaches t i → Reaches s j → SameBlock p q t s)
      → rebuilt p r c i j ≡ rebuilt q r c i j
  pub blocks : (p q : Pyramid) (missing : ℕ → ℕ → Bool) (r c i j : ℕ) → 2 ≤ r → 2 ≤ c → i < 8 * r → j < 8 * c
      → SameReceived missing r c p q
      → ((t s : ℕ) → t < r → s < c → missing t s ≡ true → Reaches t i → Reaches s j → ⊥)
      → rebuilt p r c i j ≡ rebuilt q r c i j
  pub rows : (p q : Pyramid) (missing : ℕ → Bool) (r c i j : ℕ) → 2 ≤ r → 2 ≤ c → i < 8 * r → j < 8 * c
      → SameReceived (λ t s. missing t) r c p q
      → ((t : ℕ) → t < r → missing t ≡ true → Reaches t i → ⊥)
      → rebuilt p r c i j ≡ rebuilt q r c i j
  pub columns : (p q : Pyramid) (missing : ℕ → Bool) (r c i j : ℕ) → 2 ≤ r → 2 ≤ c → i < 8 * r → j < 8 * c
      → SameReceived (λ t s. missing s) r c p q
      → ((s : ℕ) → s < c → missing s ≡ true → Reaches s j → ⊥)
      → rebuilt p r c i j ≡ rebuilt q r c i j

-- one block row, block column or block
pub record OneReach : Type 0 where
  pub row : (p q : Pyramid) (r c t i j : ℕ) → 2 ≤ r → 2 ≤ c → i < 8 * r → j < 8 * c
      → ((u s : ℕ) → u < r → s < c → (u ≡ t → ⊥) → SameBlock p q u s)
      → (i + 21 < 8 * t) ⊎ (8 * t + 29 < i)
      → rebuilt p r c i j ≡ rebuilt q r c i j
  pub column : (p q : Pyramid) (r c s i j : ℕ) → 2 ≤ r → 2 ≤ c → i < 8 * r → j < 8 * c
      → ((t u : ℕ) → t < r → u < c → (u ≡ s → ⊥) → SameBlock p q t u)
      → (j + 21 < 8 * s) ⊎ (8 * s + 29 < j)
      → rebuilt p r c i j ≡ rebuilt q r c i j
  pub block : (p q : Pyramid) (r c t s i j : ℕ) → 2 ≤ r → 2 ≤ c → i < 8 * r → j < 8 * c
      → ((u v : ℕ) → u < r → v < c → ((u ≡ t) × (v ≡ s) → ⊥) → SameBlock p q u v)
      → ((i + 21 < 8 * t) ⊎ (8 * t + 29 < i)) ⊎ ((j + 21 < 8 * s) ⊎ (8 * s + 29 < j))
      → rebuilt p r c i j ≡ rebuilt q r c i j

-- The first 8 * n - 21 rows of the inverse are made from the first n block rows, the same whatever the height is.
pub record RisingInverse : Type 0 where
  pub sample : (p q : Pyramid) (r r' c n i j : ℕ) → n ≤ r → n ≤ r' → 2 ≤ c → i + 21 < 8 * n → j < 8 * c
      → ((t s : ℕ) → t < n → s < c → SameBlock p q t s)
      → rebuilt p r c i j ≡ rebuilt q r' c i j

-- Forward: block row t is made from rows 0 to 8 * t + 28, the same whatever the height is.
pub record ForwardReach : Type 0 where
  pub line : (m n n' j : ℕ) (x y : ℕ → ℤ) → m ≤ 2 * n → m ≤ 2 * n' → 2 * j + 4 < m
      → ((k : ℕ) → k < m → x k ≡ y k)
      → (low_of x n j ≡ low_of y n' j) × (high_of x n j ≡ high_of y n' j)
  pub weighted : (p q : Pyramid) (weights : List ℕ) (t s : ℕ) → SameBlock p q t s
      → block p weights t s ≡ block q weights t s
  pub block : (a b : ℕ → ℕ → ℤ) (r r' c t s : ℕ) → 8 * t + 28 < 8 * r → 8 * t + 28 < 8 * r' → 2 ≤ c → s < c
      → SameWithin (8 * t + 29) (8 * c) a b
      → SameBlock (pyramid a r c) (pyramid b r' c) t s
  pub images : (x y : ℕ → ℕ → ℤ) (rows rows' width k r r' c t s : ℕ) → k ≤ rows → k ≤ rows' → 1 ≤ width
      → rows ≤ 8 * r → rows' ≤ 8 * r' → 2 ≤ c → s < c → 8 * t + 28 < k
      → SameWithin k width x y
      → SameBlock (pyramid (padded x rows width) r c) (pyramid (padded y rows' width) r' c) t s

-- The codes of an option.
use Rattle.std.proofs.Common.{◌≡◌, ℕ, ◌+◌, ◌^◌, ◌<◌, ◌≤◌, Bool, true, false, List, [], ◌∷◌, ◌++◌, length, refl, ap, arith}
use Rattle.item_defs.specs.Items.{coded, IsSaid}
use Rattle.base_122.specs.declared.book.Book.{Book}
use Rattle.plane_defs.specs.Codes.{table, table_place, is_book_sound, code_at, code_bits, codes_of, is_prefix}
use Rattle.plane_defs.proofs.SpanLists.{length-map-span}
use Rattle.plane_defs.proofs.Tables.{table_len, sound_table}

-- what a prefix leaves
pub past_prefix : (xs bits : List Bool) → is_prefix xs bits ≡ true → (more : List Bool) × (bits ≡ xs ++ more)
past_prefix [] bits e = (bits, refl)
past_prefix (x ∷ xs) [] e = absurd cc
past_prefix (true ∷ xs) (true ∷ bits) e = let r = past_prefix xs bits e in (r.0, ap (λ l. true ∷ l) r.1)
past_prefix (true ∷ xs) (false ∷ bits) e = absurd cc
past_prefix (false ∷ xs) (true ∷ bits) e = absurd cc
past_prefix (false ∷ xs) (false ∷ bits) e = let r = past_prefix xs bits e in (r.0, ap (λ l. false ∷ l) r.1)

module _ (book : Book) (n option : ℕ) (sound : is_book_sound book ≡ true) (low : 2 ≤ n) (high : n ≤ 4) (known : option + 1 < n) where
  pub code_length : (s : ℕ) → s < 2 ^ n → (1 ≤ (code_at book n option s).len) × ((code_at book n option s).len ≤ 8)
  code_length s below = table_len (table book (table_place n option)) (2 ^ n) s (sound_table book n option sound low high known) below

  count : length (codes_of book n option) ≡ 2 ^ n
  count = length-map-span (λ s. code_bits (code_at book n option s)) (2 ^ n)

  pub said_below : (s : ℕ) → s < length (codes_of book n option) → s < 2 ^ n
  said_below s lt = omega (arith, lt, count)

  pub below_said : (s : ℕ) → s < 2 ^ n → IsSaid (coded (codes_of book n option)) s
  below_said s lt = omega (arith, lt, count)

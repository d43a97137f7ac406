-- The choice of an option by the bits that it takes. (This project's own.)
use Rattle.std.specs.Prelude.{ℕ, ◌*◌, ◌^◌, Bool, false, ◌&&◌, ◌==◌, if◌then◌else◌, List, nat_le, count_by, sum_by, filter, map}
use Rattle.std.specs.List.{list_all}
use lib.ListN.{get_or}
use Rattle.base_122.specs.declared.book.Book.{Book}
use Rattle.plane_defs.specs.declared.entries.Entry.{Entry}
use Rattle.plane_defs.specs.declared.entries.Entry.TheVariants.{Bit, Word}
use Rattle.plane_defs.specs.Spans.{span}
use Rattle.plane_defs.specs.Codes.{symbol, uncoded, code_at}

-- the bits of a word with this symbol
abbrev pub code_length : Book → (length option : ℕ) → ℕ → ℕ
code_length book length option s = if option == uncoded length then length else (code_at book length option s).len

-- the bits of all words of a length under an option, from the count of each symbol
unfoldable pub cost : Book → ℕ → List ℕ → ℕ → ℕ
cost book length counts option = sum_by (λ s. get_or counts s 0 * code_length book length option s) (span 0 (2 ^ length))

-- no option takes fewer bits
unfoldable pub is_cheapest : Book → ℕ → List ℕ → ℕ → Bool
is_cheapest book length counts option =
    list_all (λ other. nat_le (cost book length counts option) (cost book length counts other)) (span 0 length)

-- the least option that takes the fewest bits
unfoldable pub cheapest : Book → ℕ → List ℕ → ℕ
cheapest book length counts = get_or (filter (is_cheapest book length counts) (span 0 length)) 0 0

-- an entry is a word of this length and symbol
abbrev pub has_symbol : (length s : ℕ) → Entry → Bool
has_symbol length s (Bit bit) = false
has_symbol length s (Word bits) = bits.count == length && symbol length bits.value == s

-- the number of words of a length that have each symbol
abbrev pub symbol_counts : ℕ → List Entry → List ℕ
symbol_counts length entries = map (λ s. count_by (has_symbol length s) entries) (span 0 16)

-- The entries of a stage in a list, which leaves out the words that have no bits.
use Rattle.std.specs.Prelude.{◌≡◌, ◌≤◌, ℕ, ◌+◌, ◌==◌, Bool, true, not, List, ◌++◌, filter}
use Rattle.std.specs.List.{flat_map}
use lib.ListN.{get_or}
use Rattle.plane_defs.specs.declared.entries.Entry.{Entry}
use Rattle.plane_defs.specs.declared.entries.Entry.TheVariants.{Bit, Word}
use Rattle.plane_defs.specs.Spans.{span}
use Rattle.plane_coder.specs.declared.plane_masks.Typed.{Typed}
use Rattle.plane_coder.specs.declared.words.Words.{Words}
use Rattle.plane_coder.specs.Picked.{entries_of, no_word}

abbrev pub has_bits : Entry → Bool
has_bits (Bit bit) = true
has_bits (Word bits) = not (bits.count == 0)

-- the same entries, except empty words
abbrev pub AreAlike : List Entry → List Entry → Type 0
AreAlike xs ys = filter has_bits xs ≡ filter has_bits ys

-- the entries of place i of a list
abbrev pub entries_at : List Typed → ℕ → List Entry
entries_at list i = entries_of (get_or list i no_word)

abbrev pub listed : {most : ℕ} → Words most → List Entry
listed words = flat_map (entries_at words.list) (span 0 words.count)

-- these entries were added, except empty words, in at most this number of places
pub record Lists {most : ℕ} (old new : Words most) (entries : List Entry) (rise : ℕ) : Type 0 where
  pub said : filter has_bits (listed new) ≡ filter has_bits (listed old) ++ filter has_bits entries
  pub more : new.count ≤ old.count + rise

-- The items of the entries of a gaggle in a plane, with one option for each length of words. (Identifiers
-- after CCSDS 122.0-B-2, section 4.5.3.3; their place is this project's own.)
use Rattle.std.specs.Prelude.{ℕ, ◌-◌, Bool, false, ◌==◌, if◌then◌else◌, List, [], ◌∷◌, ◌++◌}
use Rattle.std.specs.List.{list_any}
use lib.ListN.{get_or}
use Rattle.item_defs.specs.Bits.{digit}
use Rattle.item_defs.specs.Items.{Item, raw}
use Rattle.base_122.specs.declared.book.Book.{Book}
use Rattle.plane_defs.specs.declared.entries.Entry.{Entry}
use Rattle.plane_defs.specs.declared.entries.Entry.TheVariants.{Bit, Word}
use Rattle.plane_defs.specs.Codes.{word_item, option_item}

-- an entry is a word of this length
abbrev pub is_word_of : ℕ → Entry → Bool
is_word_of n (Bit bit) = false
is_word_of n (Word bits) = bits.count == n

-- the option of words of length n
abbrev pub option_of : List ℕ → ℕ → ℕ
option_of options n = get_or options (n - 2) 0

-- the option's identifier precedes the first word of its length
abbrev pub opening : List ℕ → List Entry → ℕ → List Item
opening options before n = if list_any (is_word_of n) before then [] else option_item n (option_of options n) ∷ []

-- the items of an entry, with these entries of its gaggle and plane before it: an empty word has no bits, a
-- word of one bit is raw
unfoldable pub entry_items : Book → List ℕ → List Entry → Entry → List Item
entry_items book options before (Bit bit) = raw (digit bit) ∷ []
entry_items book options before (Word bits) =
    if bits.count == 0 then [] else if bits.count == 1 then raw bits.value ∷ [] else
    opening options before bits.count ++ word_item book bits.count (option_of options bits.count) bits.value ∷ []

-- the items of some entries, with these before them
abbrev pub spelled_after : Book → List ℕ → List Entry → List Entry → List Item
spelled_after book options before [] = []
spelled_after book options before (x ∷ xs) = entry_items book options before x ++ spelled_after book options (before ++ x ∷ []) xs

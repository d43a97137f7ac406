-- The bits that represent a word in a coded option.
use Rattle.std.proofs.Common.{◌≡◌, ℕ, ◌+◌, ◌<◌, ◌^◌, Bool, false, ◌∙◌, sym, ap, arith, ◌==◌, if◌then◌else◌}
use Rattle.item_defs.specs.Items.{item_bits, plain, code}
use Rattle.base_122.specs.declared.book.Book.{Book}
use Rattle.plane_defs.specs.Codes.{symbol, uncoded, code_at, code_bits, codes_of, word_item}
use Rattle.plane_defs.proofs.ReadOnce.{code_there}

not_uncoded : (length option : ℕ) → option + 1 < length → (option == uncoded length) ≡ false
not_uncoded length option h = grind arith

pub coded_bits : (book : Book) (length option word : ℕ) → option + 1 < length → symbol length word < 2 ^ length →
    code_bits (code_at book length option (symbol length word)) ≡ item_bits (word_item book length option word)
coded_bits book length option word coded within =
    let test = not_uncoded length option coded in
    let choose = λ (b : Bool). item_bits (if b then plain length word else code (codes_of book length option) (symbol length word)) in
    sym (code_there book length option (symbol length word) within) ∙ ap choose (sym test)

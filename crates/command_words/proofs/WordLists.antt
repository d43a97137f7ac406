-- The arguments, one by one.
use Rattle.std.proofs.Common.{◌≡◌, ◌≤◌, ◌-◌, ◌+◌, ℕ, List, [], ◌∷◌, length, sym, ◌∙◌, ap, arith, take, drop, get_or, inr, String, string_bytes, Result}
use Rattle.std.specs.declared.alloc.Global.{Global}
use Rattle.std.proofs.lemmas.List.{take_rest}
use Rattle.command_words.specs.Tables.{Finds}
use Rattle.command_words.specs.declared.tables.Key.{Key}
use Rattle.command_words.specs.declared.entries.Entry.{Entry}
use Rattle.command_words.specs.declared.command.WordFault.{WordFault}
use Rattle.command_words.specs.Words.{texts}
use Rattle.command_words.specs.Entries.{IsEntry, EntriesSay, with_entry}

-- the first argument and those after it
pub first_word : (words : List (String Global)) (word : String Global) → 1 ≤ length words → word ≡ get_or words 0 word →
    texts words ≡ string_bytes word ∷ texts (take (length words - 1) (drop 1 words))
first_word [] word some is = absurd (omega arith)
first_word (w ∷ ws) word some is =
    let rest : take (length (w ∷ ws) - 1) (drop 1 (w ∷ ws)) ≡ ws = take_rest (w ∷ ws) 1 in
    ap (λ v. string_bytes v ∷ texts ws) (sym is) ∙ ap (λ vs. string_bytes word ∷ texts vs) (sym rest)

pub entry_first : (keys : List Key) (finds : Finds) (place : ℕ) (word : List ℕ) (words after : List (List ℕ)) (entry : Entry) (said : Result Finds WordFault) →
    words ≡ word ∷ after → IsEntry keys finds word entry → EntriesSay keys (with_entry finds entry) (place + 1) after said →
    EntriesSay keys finds place words said
entry_first keys finds place word words after entry said is spells more = rw is (inr (entry, spells, more))

-- A fault's place is that of an argument.
use Rattle.std.proofs.Common.{◌≡◌, ◌<◌, ◌+◌, ℕ, List, [], ◌∷◌, length, sym, subst, inl, inr, arith, Result, Ok, Err, Option, Some, None, IfErr, String}
use Rattle.std.proofs.Common.{string_bytes}
use Rattle.std.specs.declared.alloc.Global.{Global}
use Rattle.std.proofs.lemmas.List.{length-map}
use Rattle.base_122.specs.declared.field.Field.{Field}
use Rattle.command_words.specs.declared.tables.Task.{Task}
use Rattle.command_words.specs.declared.tables.Key.{Key}
use Rattle.command_words.specs.declared.command.Command.{Command}
use Rattle.command_words.specs.declared.command.WordFault.{WordFault}
use Rattle.command_words.specs.declared.command.WordFault.TheVariants.{MissingCommand, BadWord, MissingKey, OutOfRange}
use Rattle.command_words.specs.Tables.{command_of, command_named, Finds}
use Rattle.command_words.specs.Entries.{nothing, with_entry, WordSays, EntriesSay}
use Rattle.command_words.specs.Commands.{after, first_missing, first_refused, field_of}
use Rattle.command_words.specs.Words.{texts, named_or_fault, name_said, made_of, RestSays, Says, IsPlaced}

word_placed : (keys : List Key) (finds : Finds) (place count : ℕ) (word : List ℕ) (fault : WordFault) → place < count →
    WordSays keys finds place word (Err fault) → IsPlaced count fault
word_placed keys finds place count word (BadWord m) here says = omega (arith, says.0)
word_placed keys finds place count word MissingCommand here says = tt
word_placed keys finds place count word (MissingKey f) here says = tt
word_placed keys finds place count word (OutOfRange f) here says = tt

entries_placed : (keys : List Key) (words : List (List ℕ)) (finds : Finds) (place count : ℕ) (said : Result Finds WordFault) →
    place + length words ≡ count → EntriesSay keys finds place words said → IfErr said (IsPlaced count)
entries_placed keys [] finds place count said all says = subst (λ r. IfErr r (IsPlaced count)) (sym says) tt
entries_placed keys (word ∷ words) finds place count said all (inl says) =
    subst (λ r. IfErr r (IsPlaced count)) (sym says.2) (word_placed keys finds place count word says.0 (omega arith) says.1)
entries_placed keys (word ∷ words) finds place count said all (inr says) =
    entries_placed keys words (with_entry finds says.0) (place + 1) count said (omega arith) says.2

after_placed : (count : ℕ) (fault : Field → WordFault) (first : Option Field) (result : Result Command WordFault) →
    ((field : Field) → IsPlaced count (fault field)) → IfErr result (IsPlaced count) → IfErr (after fault first result) (IsPlaced count)
after_placed count fault None result placed rest = rest
after_placed count fault (Some field) result placed rest = placed field

made_of_placed : (named : Task × List Key) (count : ℕ) (said : Result Finds WordFault) → IfErr said (IsPlaced count) →
    IfErr (made_of named said) (IsPlaced count)
made_of_placed named count (Ok finds) placed =
    after_placed count MissingKey (field_of (first_missing named.1 finds)) _ (λ field. tt)
    (after_placed count OutOfRange (field_of (first_refused named.0 finds)) (Ok (command_of named.0 finds)) (λ field. tt) tt)
made_of_placed named count (Err fault) placed = placed

name_placed : (count : ℕ) (named : Option (Task × List Key)) → 0 < count → IfErr (named_or_fault named) (IsPlaced count)
name_placed count (Some named) some = tt
name_placed count None some = some

rest_placed : (said : Result (Task × List Key) WordFault) (rest : List (List ℕ)) (result : Result Command WordFault) → IfErr said (IsPlaced (length rest + 1)) →
    RestSays said rest result → IfErr result (IsPlaced (length rest + 1))
rest_placed (Err fault) rest result placed says = subst (λ r. IfErr r (IsPlaced (length rest + 1))) (sym says) placed
rest_placed (Ok named) rest result placed says =
    subst (λ r. IfErr r (IsPlaced (length rest + 1))) (sym says.2)
    (made_of_placed named (length rest + 1) says.0 (entries_placed named.1 rest nothing 1 (length rest + 1) says.0 (omega arith) says.1))

says_placed : (words : List (List ℕ)) (result : Result Command WordFault) → Says words result → IfErr result (IsPlaced (length words))
says_placed [] result says = subst (λ r. IfErr r (IsPlaced 0)) (sym says) tt
says_placed (first ∷ rest) result says =
    let more : length rest + 1 ≡ length (first ∷ rest) = omega arith in
    subst (λ count. IfErr result (IsPlaced count)) more
    (rest_placed (name_said first) rest result (name_placed (length rest + 1) (command_named first) (omega arith)) says)

pub words_placed : (words : List (String Global)) (result : Result Command WordFault) → Says (texts words) result → IfErr result (IsPlaced (length words))
words_placed words result says = subst (λ count. IfErr result (IsPlaced count)) (length-map words string_bytes) (says_placed (texts words) result says)

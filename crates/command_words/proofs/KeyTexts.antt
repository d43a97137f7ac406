-- An argument has at most one key, and one text after it.
use Rattle.std.proofs.Common.{◌≡◌, ◌≢◌, ◌<◌, ℕ, zero, suc, List, [], ◌∷◌, ◌++◌, length, get_or, refl, sym, ◌∙◌, ap, append_assoc, arith, true, false, codes}
use Rattle.std.proofs.Common.{Bool, not, cond, find, Option, Some, None, is_some, ◌==◌, bytes_eq}
use Rattle.std.specs.List.{list_all}
use Rattle.std.proofs.lemmas.Bool.{false≢true, and_parts, eq-eqb}
use Rattle.std.proofs.lemmas.Slice.Eq.{bytes_eq-Decides}
use Rattle.std.proofs.lemmas.Bool.Decides.{nat_tests}
use Rattle.command_words.proofs.Separators.{split_one}
use Rattle.command_words.specs.declared.tables.Key.{Key}
use Rattle.command_words.specs.declared.tables.Key.TheVariants.{Width}
use Rattle.command_words.specs.Listed.{key_text, all_keys}
use Rattle.command_words.specs.Tables.{key_named}
use Rattle.command_words.specs.Entries.{IsKeyed}

-- no octet is an equals sign
abbrev is_plain : List ℕ → Bool
is_plain text = list_all (λ b. not (b == 61)) text

plain_at : (text : List ℕ) → is_plain text ≡ true → (i : ℕ) → i < length text → get_or text i 0 ≢ 61
plain_at [] plain i below e = absurd (omega arith)
plain_at (b ∷ bs) plain zero below e = grind (arith, nat_tests, and_parts, not, is_plain, false≢true, eq-eqb)
plain_at (b ∷ bs) plain (suc i) below e = plain_at bs (and_parts (not (b == 61)) (is_plain bs) plain).1 i (omega arith) e

plain_key : (key : Key) → is_plain (key_text key) ≡ true
plain_key Width = refl
plain_key key = refl

-- each key has the name by which it is found
pub named_text : (key : Key) → key_named (key_text key) ≡ Some key
named_text Width = refl
named_text key = refl

passes_here : (p : Key → Bool) (key other : Key) (rest : Option Key) (b : Bool) → p other ≡ b → cond b (Some other) rest ≡ Some key →
    (rest ≡ Some key → p key ≡ true) → p key ≡ true
passes_here p key other rest true is e later = let same : other ≡ key = cc in ap p (sym same) ∙ is
passes_here p key other rest false is e later = later e

found_passes : (p : Key → Bool) (keys : List Key) (key : Key) → find p keys ≡ Some key → p key ≡ true
found_passes p [] key e = absurd (cc)
found_passes p (other ∷ keys) key e = passes_here p key other (find p keys) (p other) refl e (found_passes p keys key)

pub text_of_named : (text : List ℕ) (key : Key) → key_named text ≡ Some key → key_text key ≡ text
text_of_named text key e = (bytes_eq-Decides (key_text key) text).0 (found_passes (λ own. bytes_eq (key_text own) text) all_keys key e)

pub keyed_from_parts : (word before text : List ℕ) (key : Key) → word ≡ before ++ (61 ∷ text) → key_named before ≡ Some key → IsKeyed word key text
keyed_from_parts word before text key e named =
    e ∙ ap (λ prefix. prefix ++ (61 ∷ text)) (sym (text_of_named before key named)) ∙ sym (append_assoc (key_text key) (codes "=") text)

-- two readings of one argument have the same key and the same text
pub keyed_one : (word text text' : List ℕ) (key key' : Key) → IsKeyed word key text → IsKeyed word key' text' → (key ≡ key') × (text ≡ text')
keyed_one word text text' key key' is is' = grind (arith, nat_tests, split_one, plain_at, plain_key, append_assoc, codes, named_text)

pub none_from : {A : Type 0} (o : Option A) → is_some o ≡ false → o ≡ None
none_from None e = refl
none_from (Some x) e = absurd (false≢true (sym e))

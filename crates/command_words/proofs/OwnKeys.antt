-- The arguments have no other keys than those of the command.
use Rattle.std.proofs.Common.{◌≡◌, ◌+◌, ℕ, List, [], ◌∷◌, refl, sym, ◌∙◌, ap, subst, T, inl, inr, true, false, ◌==◌, Bool, cond, if◌then◌else◌, find, Some}
use Rattle.std.proofs.Common.{None, Ok, option_map, bytes_eq}
use Rattle.std.specs.List.{list_any}
use Rattle.std.proofs.lemmas.Bool.{false≢true}
use Rattle.std.proofs.Math.Facts.{eqb_yes}
use Rattle.command_words.specs.declared.tables.Task.{Task}
use Rattle.command_words.specs.declared.tables.Task.TheVariants.{Encode, Mux, Read, Info, Pick, BareEncode, BareDecode, Make, Trial}
use Rattle.command_words.specs.declared.tables.Key.{Key}
use Rattle.command_words.specs.declared.tables.Key.TheVariants.{Total}
use Rattle.command_words.specs.declared.entries.Entry.{Entry}
use Rattle.command_words.specs.Listed.{commands}
use Rattle.command_words.specs.Tables.{Finds, contains_key, key_place, command_in, command_named}
use Rattle.command_words.specs.Entries.{nothing, with_entry, EntriesSay}
use Rattle.command_words.specs.Commands.{LacksTotal}

-- a key that isn't among the command's isn't that of an entry
other_key : (keys : List Key) (key : Key) (finds : Finds) (entry : Entry) → contains_key keys key ≡ false → contains_key keys entry.key ≡ true →
    finds key ≡ None → with_entry finds entry key ≡ None
other_key keys key finds entry lacks known none = by (key_place entry.key == key_place key) refl
  where
    by : (b : Bool) → (key_place entry.key == key_place key) ≡ b → (if b then Some entry.value else finds key) ≡ None
    by true e = absurd (false≢true (sym lacks ∙ ap (λ n. list_any (λ own. key_place own == n) keys) (sym (eqb_yes (subst T (sym e) tt))) ∙ known))
    by false e = none

none_found : (keys : List Key) (key : Key) (words : List (List ℕ)) (finds found : Finds) (place : ℕ) → contains_key keys key ≡ false → finds key ≡ None →
    EntriesSay keys finds place words (Ok found) → found key ≡ None
none_found keys key [] finds found place lacks none says = let same : found ≡ finds = cc in ap (λ (f : Finds). f key) same ∙ none
none_found keys key (word ∷ words) finds found place lacks none (inl p) = absurd (let e = p.2 in cc)
none_found keys key (word ∷ words) finds found place lacks none (inr p) =
    none_found keys key words (with_entry finds p.0) found (place + 1) lacks (other_key keys key finds p.0 lacks p.1.known none) p.2

-- `bare-encode` has no key for a total
HasNoTotal : Task → List Key → Type 0
HasNoTotal BareEncode keys = contains_key keys Total ≡ false
HasNoTotal task keys = Unit {0}

RowsHaveNone : List (List ℕ × Task × List Key) → Type 0
RowsHaveNone [] = Unit {0}
RowsHaveNone (row ∷ rows) = HasNoTotal row.1 row.2 × RowsHaveNone rows

found_none : (text : List ℕ) (rows : List (List ℕ × Task × List Key)) (task : Task) (keys : List Key) → RowsHaveNone rows →
    command_in rows text ≡ Some (task, keys) → HasNoTotal task keys
unfolding RowsHaveNone
found_none text [] task keys all e = absurd (cc)
found_none text (row ∷ rows) task keys all e = by (bytes_eq row.0 text) (found_none text rows task keys all.1) e
  where
    by : (b : Bool) → (command_in rows text ≡ Some (task, keys) → HasNoTotal task keys) → option_map {U = Task × List Key} (λ row. (row.1, row.2))
        (cond b (Some row) (find (λ row. bytes_eq row.0 text) rows)) ≡ Some (task, keys) → HasNoTotal task keys
    by true later e = let same : (row.1, row.2) ≡ (task, keys) = cc in subst (λ (named : Task × List Key). HasNoTotal named.0 named.1) same all.0
    by false later e = later e

named_none : (text : List ℕ) (task : Task) (keys : List Key) → command_named text ≡ Some (task, keys) → HasNoTotal task keys
unfolding RowsHaveNone HasNoTotal
named_none text task keys e = found_none text commands task keys (tt, (tt, (tt, (tt, (tt, (tt, (tt, (tt, (tt, (refl, (tt, (tt, (tt, tt))))))))))))) e

-- the arguments of `bare-encode` have no total
pub lacks_total : (text : List ℕ) (task : Task) (keys : List Key) (words : List (List ℕ)) (found : Finds) → command_named text ≡ Some (task, keys) →
    EntriesSay keys nothing 1 words (Ok found) →
    LacksTotal task found
unfolding HasNoTotal
lacks_total text task keys words found named says = by task (named_none text task keys named)
  where
    by : (task : Task) → HasNoTotal task keys → LacksTotal task found
    by BareEncode lacks = none_found keys Total words nothing found 1 lacks refl says
    by Encode lacks = tt
    by Mux lacks = tt
    by (Read reading) lacks = tt
    by Info lacks = tt
    by Pick lacks = tt
    by BareDecode lacks = tt
    by Make lacks = tt
    by Trial lacks = tt

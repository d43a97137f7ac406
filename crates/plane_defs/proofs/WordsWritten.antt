-- The items of words, types and signs follow their scripts.
use Rattle.std.proofs.Common.{◌≡◌, ℕ, ◌<◌, ◌≤◌, ◌^◌, ◌==◌, ◌||◌, Bool, true, false, if◌then◌else◌, List, [], ◌∷◌, ◌++◌, refl, ap, sym, ◌∙◌, subst, arith}
use Rattle.std.proofs.Common.{Option, Some, None}
use Rattle.std.specs.List.{list_any}
use Rattle.std.proofs.lemmas.Bool.Decides.{nat_tests}
use Rattle.std.proofs.lemmas.List.Folds.{list_any-append}
use Rattle.item_defs.specs.Items.{Item, plain, code, refused_where, false_flag}
use Rattle.base_122.specs.declared.book.Book.{Book}
use Rattle.plane_defs.specs.declared.entries.Entry.{Entry}
use Rattle.plane_defs.specs.declared.entries.Entry.TheVariants.{Word}
use Rattle.plane_defs.specs.Codes.{codes_of, identifier_number, uncoded, symbol, word_item, option_item}
use Rattle.plane_defs.specs.Spelled.{is_word_of, opening, option_of as chosen_of}
use Rattle.plane_defs.specs.Reading.{word_of, word_said, checked_word, entry_reading}
use Rattle.plane_defs.specs.Steps.{Check, refuses}
use Rattle.plane_defs.proofs.Tables.{list_all-span-zero}
use Rattle.plane_defs.proofs.Equations.{word_reading}
use Rattle.plane_defs.proofs.StepItems.{word_of-symbol, word_shape}
use Rattle.item_defs.specs.Scripts.{done, ask, then_ask}
use Rattle.item_defs.specs.Writing.{Writes}
use Rattle.item_defs.proofs.Writing.{writes_none, writes_ask, writes_then}
use Rattle.plane_defs.specs.Written.{Knows, AreChosen}
use Rattle.plane_defs.specs.States.{State, with_options}
use Rattle.plane_defs.specs.WordScripts.{option_form, option_named, with_option, option_script, option_of, raw_form, word_form, coded_script, word_script}

is_back : (count option : ℕ) → Bool
is_back count option = option_named count (identifier_number count option) == option

named_back : (count option : ℕ) → count ≤ 4 → option < count → option_named count (identifier_number count option) ≡ option
unfolding is_back
named_back count option high lt = grind (arith, nat_tests, list_all-span-zero)

some_word : (e : Entry) (n : ℕ) (before : List Entry) → list_any (is_word_of n) (before ++ e ∷ []) ≡ (list_any (is_word_of n) before || is_word_of n e)
some_word e n before = grind (arith, nat_tests, list_any-append)

-- an entry that is no longer word
pub knows_same : (o : List ℕ) (before : List Entry) (e : Entry) (options : ℕ → Option ℕ) → ((n : ℕ) → 2 ≤ n → is_word_of n e ≡ false) → Knows o before options →
    Knows o (before ++ e ∷ []) options
knows_same o before e options none knows n low high =
    knows n low high ∙ ap (λ (b : Bool). if b then Some (chosen_of o n) else None) (sym (some_word e n before ∙
    ap (λ b. list_any (is_word_of n) before || b) (none n low) ∙ or_none (list_any (is_word_of n) before)))
  where
    or_none : (b : Bool) → (b || false) ≡ b
    or_none b = grind (arith, nat_tests)

-- what the word of an entry leaves
pub record Wrote (o : List ℕ) (before : List Entry) (e : Entry) (s : State) (value : ℕ) (r : State × ℕ) : Type 0 where
  pub knows : Knows o (before ++ e ∷ []) r.0.options
  pub same : r.0 ≡ with_options s r.0.options
  pub is : r.1 ≡ value

module _ (book : Book) (o : List ℕ) (chosen : AreChosen o) (before : List Entry) (check : Check) (value count : ℕ) (s : State)
    (knows : Knows o before s.options) where
  abbrev entry : Entry
  entry = Word (record { value = value; count = count })

  module _ (low : 2 ≤ count) (high : count ≤ 4) (fits : value < 2 ^ count) where
    -- the option is known
    record Opened (t : State) : Type 0 where
      after : Knows o (before ++ entry ∷ []) t.options
      same : t ≡ with_options s t.options
      here : t.options count ≡ Some (chosen_of o count)

    opened : (options : ℕ → Option ℕ) → options count ≡ Some (chosen_of o count) → ((n : ℕ) → (n ≡ count → ⊥) → options n ≡ s.options n) →
        Opened (with_options s options)
    opened options here others = record { after = λ n lo hi. by n lo hi (count == n) refl; same = refl; here = here }
      where
        or_true : (b : Bool) → (b || true) ≡ true
        or_true b = grind (arith, nat_tests)

        or_none : (b : Bool) → (b || false) ≡ b
        or_none b = grind (arith, nat_tests)

        by : (n : ℕ) → 2 ≤ n → n ≤ 4 → (t : Bool) → (count == n) ≡ t →
            options n ≡ (if list_any (is_word_of n) (before ++ entry ∷ []) then Some (chosen_of o n) else None)
        by n lo hi true e =
            let is : count ≡ n = grind (arith, nat_tests) in
            ap options (sym is) ∙ here ∙ ap (λ m. Some (chosen_of o m)) is ∙
            ap (λ (b : Bool). if b then Some (chosen_of o n) else None) (sym (some_word entry n before ∙ ap (λ b. list_any (is_word_of n) before || b) e ∙
            or_true (list_any (is_word_of n) before)))
        by n lo hi false e =
            let ne : n ≡ count → ⊥ = grind (arith, nat_tests) in
            others n ne ∙ knows n lo hi ∙
            ap (λ (b : Bool). if b then Some (chosen_of o n) else None) (sym (some_word entry n before ∙ ap (λ b. list_any (is_word_of n) before || b) e ∙
            or_none (list_any (is_word_of n) before)))

    option_written : Writes (option_script count s (s.options count)) (opening o before count) Opened
    option_written = by (list_any (is_word_of count) before) (knows count low high)
      where
        here : (option : ℕ) → with_option s.options count option count ≡ Some option
        here option = let t : (count == count) ≡ true = grind (arith, nat_tests) in rw t refl

        others : (option n : ℕ) → (n ≡ count → ⊥) → with_option s.options count option n ≡ s.options n
        others option n ne = let t : (n == count) ≡ false = grind (arith, nat_tests) in rw t refl

        by : (b : Bool) → s.options count ≡ (if b then Some (chosen_of o count) else None) →
            Writes (option_script count s (s.options count)) (if b then [] else option_item count (chosen_of o count) ∷ []) Opened
        by true e = subst (λ x. Writes (option_script count s x) [] Opened) (sym e) (writes_none Opened s (opened s.options e (λ n ne. refl)))
        by false e =
            let back = named_back count (chosen_of o count) high (chosen count low high) in
            subst (λ x. Writes (option_script count s x) (option_item count (chosen_of o count) ∷ []) Opened) (sym e)
            (writes_ask Opened s (option_form count) (λ number. done (with_options s (with_option s.options count (option_named count number))))
            (option_item count (chosen_of o count)) [] refl
            (writes_none Opened (with_options s (with_option s.options count (option_named count (identifier_number count (chosen_of o count)))))
            (opened (with_option s.options count (option_named count (identifier_number count (chosen_of o count)))) (here _ ∙
            ap Some back) (λ n ne. others _ n ne))))

    coded_written : (t : State) → Opened t →
        Writes (coded_script book count check t) (checked_word book count (chosen_of o count) value check ∷ []) (Wrote o before entry s value)
    coded_written t p =
        let option : option_of (t.options count) ≡ chosen_of o count = ap option_of p.here in
        subst (λ x. Writes (ask t (word_form book count x check) (λ said. done (t, word_said count x said)))
        (checked_word book count (chosen_of o count) value check ∷ []) (Wrote o before entry s value)) (sym option)
        (writes_ask (Wrote o before entry s value) t (word_form book count (chosen_of o count) check)
        (λ said. done (t, word_said count (chosen_of o count) said)) (checked_word book count (chosen_of o count) value check) []
        (λ i. record {
          shape = word_shape book count (chosen_of o count) 0 value i;
          refusal =
              refused_where (λ said. refuses check (word_said count (chosen_of o count) said)) false_flag;
        })
        (writes_none (Wrote o before entry s value) (
          t,
          word_said count (chosen_of o count) (word_item book count (chosen_of o count) value).said,
        ) (record {
          knows = p.after;
          same = p.same;
          is =
              back (chosen_of o count == uncoded count);
        })))
      where
        item_by : Bool → Item
        item_by u = if u then plain count value else code (codes_of book count (chosen_of o count)) (symbol count value)

        back : (u : Bool) → (if u then (item_by u).said else word_of count (item_by u).said) ≡ value
        back true = refl
        back false = word_of-symbol count value low high fits

    longer_written : Writes (then_ask (option_script count s (s.options count)) (coded_script book count check))
        (opening o before count ++ checked_word book count (chosen_of o count) value check ∷ []) (Wrote o before entry s value)
    longer_written = writes_then Opened (Wrote o before entry s value) (option_script count s (s.options count)) (coded_script book count check)
        (opening o before count) (checked_word book count (chosen_of o count) value check ∷ []) option_written coded_written

  pub word_written : count ≤ 4 → value < 2 ^ count →
      Writes (word_script book count check s) (entry_reading book o before check entry) (Wrote o before entry s value)
  word_written high fits = subst (λ l. Writes (word_script book count check s) l (Wrote o before entry s value))
      (sym (word_reading book o before check (record { value = value; count = count }))) (by (count == 0) refl (count == 1) refl)
    where
      none : (n : ℕ) → count < 2 → 2 ≤ n → (count == n) ≡ false
      none n few low = grind (arith, nat_tests)

      kept : count < 2 → (x : ℕ) → x ≡ value → Wrote o before entry s value (s, x)
      kept few x e = record { knows = knows_same o before entry s.options (λ n low. none n few low) knows; same = refl; is = e }

      by : (a : Bool) → (count == 0) ≡ a → (b : Bool) → (count == 1) ≡ b →
          Writes (if a then done (s, 0) else if b then ask s (raw_form check) (λ value. done (s, value)) else
          then_ask (option_script count s (s.options count)) (coded_script book count check))
          (if a then [] else if b then record { form = raw_form check; said = value } ∷ [] else
          opening o before count ++ checked_word book count (chosen_of o count) value check ∷ []) (Wrote o before entry s value)
      by true e b f =
          let z : count ≡ 0 = grind (arith, nat_tests) in
          let v : value < 1 = subst (λ n. value < 2 ^ n) z fits in
          writes_none (Wrote o before entry s value) (s, 0) (kept (omega (arith, z)) 0 (omega (arith, v)))
      by false e true f =
          let one : count ≡ 1 = grind (arith, nat_tests) in
          writes_ask (Wrote o before entry s value) s (raw_form check) (λ x. done (s, x)) (record { form = raw_form check; said = value }) [] refl
          (writes_none (Wrote o before entry s value) (s, value) (kept (omega (arith, one)) value refl))
      by false e false f =
          let z : count ≡ 0 → ⊥ = grind (arith, nat_tests) in
          let one : count ≡ 1 → ⊥ = grind (arith, nat_tests) in
          longer_written (omega (arith, z, one)) high fits

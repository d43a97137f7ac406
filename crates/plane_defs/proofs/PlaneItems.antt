-- No item of a plane of values that can be coded is refused.
use Rattle.std.proofs.Common.{◌≡◌, ℕ, ◌+◌, ◌*◌, ◌^◌, ◌<◌, ◌≤◌, ◌==◌, if◌then◌else◌, Bool, true, false, cond, List, [], ◌∷◌, ◌++◌, refl, arith, get_or, None}
use Rattle.std.proofs.Common.{Some}
use Rattle.std.specs.List.{flat_map, AllByRecursion}
use Rattle.std.proofs.lemmas.Bool.Decides.{nat_tests}
use Rattle.item_defs.specs.Bits.{digit}
use Rattle.item_defs.specs.Items.{Item, plain, code, false_flag}
use Rattle.item_defs.specs.Readings.{IsItem, IsSound, AreItems}
use Rattle.item_defs.proofs.ReadingLaws.{are_append}
use Rattle.base_122.specs.declared.book.Book.{Book}
use Rattle.plane_defs.specs.declared.entries.Entry.{Entry}
use Rattle.plane_defs.specs.Spans.{span}
use Rattle.plane_defs.specs.Entries.{IsEntry, stage_number}
use Rattle.plane_defs.specs.Codes.{is_book_sound, option_item, codes_of, uncoded, symbol, word_item}
use Rattle.plane_defs.specs.Steps.{Check, refuses, Step}
use Rattle.plane_defs.specs.StepLaws.{IsAllowed, value_of_entry}
use Rattle.plane_defs.specs.Laws.{IsMultiple}
use Rattle.plane_defs.specs.Planes.{Plane, gaggles, gaggle_size, before_stage}
use Rattle.plane_defs.specs.Reading.{checked_word, entry_reading, read_after, steps_of_block, steps_of_gaggle, gaggle_reading, stage_reading, plane_reading}
use Rattle.plane_defs.proofs.SymbolTables.{symbol-below}
use Rattle.plane_defs.proofs.SpanLists.{length-map-span}
use Rattle.plane_defs.proofs.Above.{all_append}
use Rattle.plane_defs.proofs.Allowed.{block_is_allowed}
use Rattle.plane_defs.proofs.StepItems.{AreOptionsOf, Fits, word_of-symbol}
use Rattle.plane_defs.proofs.PlaneSteps.{block_fits, flat_fits}
use Rattle.plane_defs.proofs.ReadOnce.{words}
use Rattle.plane_defs.proofs.Equations.{span-none, span-more, bit_reading, word_reading}

-- ---- options and symbols

option_is_item : (n o : ℕ) → 2 ≤ n → n ≤ 4 → o < n → IsItem (option_item n o)
option_is_item n o low high lt = grind (arith, nat_tests, span-none, span-more)

-- ---- lists of parts

pub flat_items : {X : Type 0} (f : X → List Item) → ((x : X) → AreItems (f x)) → (xs : List X) → AreItems (flat_map f xs)
flat_items f all [] = tt
flat_items f all (x ∷ xs) = are_append (f x) (flat_map f xs) (all x) (flat_items f all xs)

pub flat_allowed : {X : Type 0} (f : X → List Step) → ((x : X) → AllByRecursion IsAllowed (f x)) → (xs : List X) → AllByRecursion IsAllowed (flat_map f xs)
flat_allowed f all [] = tt
flat_allowed f all (x ∷ xs) = all_append IsAllowed (f x) (flat_map f xs) (all x) (flat_allowed f all xs)

-- ---- words

allowed : (b : Bool) → b ≡ false → cond b (Some false_flag) None ≡ None
allowed b e = rw e refl

module _ (book : Book) (sound : is_book_sound book ≡ true) where
  -- no code of a word is a prefix of another
  word_sound : (n option value : ℕ) → 2 ≤ n → n ≤ 4 → option < n → IsSound (word_item book n option value).form.shape
  word_sound n option value low high known = by (option == uncoded n) refl
    where
      by : (t : Bool) → (option == uncoded n) ≡ t → IsSound (if t then plain n value else code (codes_of book n option) (symbol n value)).form.shape
      by true e = tt
      by false e = words book n option sound low high (let lt : option + 1 < n = grind (arith, nat_tests) in lt)

  word_is_item : (n option value : ℕ) (check : Check) → 2 ≤ n → n ≤ 4 → option < n → value < 2 ^ n → refuses check value ≡ false →
      IsItem (checked_word book n option value check)
  word_is_item n option value check low high known lt passes = grind (arith, nat_tests, word_sound, symbol-below, length-map-span, allowed, word_of-symbol)

  digit_below : (b : Bool) → digit b < 2 ^ 1
  digit_below b = grind (arith, nat_tests)

  entry_are_items : (options : List ℕ) → AreOptionsOf options → (before : List Entry) (check : Check) (e : Entry) → IsEntry e →
      refuses check (value_of_entry e) ≡ false → AreItems (entry_reading book options before check e)
  entry_are_items options known before check e fit passes =
      grind (arith, nat_tests, bit_reading, digit_below, word_reading, option_is_item, allowed, are_append, word_is_item)

  steps_are_items : (options : List ℕ) → AreOptionsOf options → (before : List Entry) (steps : List Step) → Fits steps → AllByRecursion IsAllowed steps →
      AreItems (read_after book options before steps)
  steps_are_items options known before [] fit all = tt
  steps_are_items options known before (s ∷ steps) fit all =
      grind (arith, nat_tests, are_append, entry_are_items, steps_are_items options known (before ++ s.entry ∷ []) steps fit.1 all.1)

  -- ---- a plane

  pub plane_are_items : (options : ℕ → List ℕ) → ((g : ℕ) → AreOptionsOf (options g)) → (p : Plane) →
      ((r : ℕ) → IsMultiple (get_or p.blocks r []) p.weights) → (stages : ℕ) →
      AreItems (plane_reading book options p stages)
  plane_are_items options known p whole stages =
      flat_items (stage_reading book options p) (λ k.
      flat_items (gaggle_reading book options p k) (λ g.
      steps_are_items (options g) (known g) (before_stage p k g) (steps_of_gaggle p (stage_number k) g)
      (flat_fits (steps_of_block p (stage_number k)) (λ r. block_fits (stage_number k) (get_or p.blocks r []) (get_or p.depths r 0) p.weights p.number p.q)
      (span (16 * g) (gaggle_size p g)))
      (flat_allowed (steps_of_block p (stage_number k)) (λ r. block_is_allowed (stage_number k) (get_or p.blocks r []) (get_or p.depths r 0) p.weights
      p.number p.q (whole r)) (span (16 * g) (gaggle_size p g))))
      (span 0 (gaggles p))) (span 0 stages)

-- The types of some positions and their signs, as scripts read them.
use Rattle.std.proofs.Common.{◌≡◌, ℕ, zero, suc, ◌+◌, ◌-◌, ◌<◌, ◌≤◌, ◌==◌, ◌&&◌, ◌||◌, inl, inr, List, [], ◌∷◌, ◌++◌, length, Bool, true, false, cond, refl}
use Rattle.std.proofs.Common.{sym, ap, ◌∙◌, subst, arith, Some, None, Ok, Err, Option, Result, filter, count_ones, get_or}
use Rattle.std.proofs.lemmas.Bool.{cases_eq}
use Rattle.std.proofs.lemmas.Bool.Decides.{nat_tests}
use Rattle.std.proofs.lemmas.Nat.{zero_from_ones}
use Rattle.item_defs.specs.Bits.{bit}
use Rattle.base_122.specs.declared.book.Book.{Book}
use Rattle.plane_defs.specs.Spans.{span}
use Rattle.plane_defs.specs.Steps.{refuses as is_refused, some_one_where}
use Rattle.plane_defs.proofs.SpanLists.{filter-span-suc, filter-span-none}
use Rattle.block_masks.specs.declared.gaggle.Gaggle.{Gaggle}
use Rattle.block_masks.specs.Gaggles.{AreOptions}
use Rattle.block_masks.specs.Masks.{Shows}
use Rattle.block_masks.specs.Places.{inside}
use Rattle.block_masks.proofs.LaneMasks.{shows_same}
use Rattle.bit_pipe.specs.declared.fault.TextFault.{TextFault}
use Rattle.bit_pipe.specs.declared.fault.TextFault.TheVariants.{FalseFlag}
use Rattle.bit_pipe.specs.Sources.{SourceOf}
use Rattle.bit_pipe.specs.SourceState.{SourceState}
use Rattle.bit_pipe.specs.ScriptSources.{ReadsAs, by_done}
use Rattle.bit_pipe.proofs.ScriptReading.{read_then, read_cut, read_fault}
use Rattle.plane_defs.specs.States.{State, with_options, with_bits, with_minus}
use Rattle.plane_defs.specs.WordScripts.{due_script, signs_script, types_script}
use Rattle.plane_reader.specs.declared.found.Found.{Found}
use Rattle.plane_reader.specs.Takes.{AreIn, IsState, Marks, AreOnes, TakesPlaces, TakesSigns, TakesState, positions, unless_bad}
use Rattle.plane_reader.proofs.PlaceReads.{due_count}
use Rattle.plane_reader.proofs.WindowParts.{no_ones}

pub option_fits : (n : ℕ) (options : List ℕ) → AreOptions options → 2 ≤ n → n ≤ 4 → get_or options (n - 2) 0 < n
option_fits n options known low high = elim (cases_eq n 2) [
  | inl e ↦ subst (λ m. get_or options (m - 2) 0 < m) (sym e) known.two
  | inr not_two ↦ elim (cases_eq n 3) [
    | inl e ↦ subst (λ m. get_or options (m - 2) 0 < m) (sym e) known.three
    | inr not_three ↦ let e : n ≡ 4 = omega (arith, low, high, not_two, not_three) in subst (λ m. get_or options (m - 2) 0 < m) (sym e) known.four
  ]
]

-- positions that pass two tests that agree there
pub same_filter : (f g : ℕ → Bool) (start count : ℕ) → ((k : ℕ) → k < count → f (start + k) ≡ g (start + k)) →
    filter f (span start count) ≡ filter g (span start count)
same_filter f g start zero same = filter-span-none f start ∙ sym (filter-span-none g start)
same_filter f g start (suc n) same =
    let more : suc n ≡ n + 1 = omega arith in
    let before = same_filter f g start n (λ k lt. same k (omega (arith, lt))) in
    ap (λ c. filter f (span start c)) more ∙ filter-span-suc f start n ∙ ap (λ l. l ++ cond (f (start + n)) ((start + n) ∷ []) []) before ∙
    ap (λ t. filter g (span start n) ++ cond t ((start + n) ∷ []) []) (same n (omega arith)) ∙ sym (ap (λ c. filter g (span start c)) more ∙
    filter-span-suc g start n)

pub mask_positions : {mask start count : ℕ} {f : ℕ → Bool} → Shows mask f start count → positions mask start count ≡ filter f (span start count)
mask_positions {mask} {start} {count} {f} shown =
    same_filter (λ p. bit mask (p - start)) f start count (λ k lt. let e : start + k - start ≡ k = omega arith in ap (bit mask) e ∙ shown.at k lt)

-- ---- a word of which one must be 1

-- the word of zeros has no place
pub refused_is : (wanted : Bool) {mask word start count places : ℕ} {f : ℕ → Bool} → AreOnes mask word f start count places →
    is_refused (some_one_where wanted) word ≡ (wanted && (places == 0))
refused_is false are = refl
refused_is true {word = word} {places = places} are = same (λ e. zero_from_ones word (sym ones ∙ no_ones places e)) (λ e. zero_from_ones places (ones ∙
    no_ones word e))
  where
    ones : count_ones places ≡ count_ones word
    ones = are.spread.ones are.fits

    same : (places ≡ 0 → word ≡ 0) → (word ≡ 0 → places ≡ 0) → (word == 0) ≡ (places == 0)
    same p q = grind (arith, nat_tests)

-- an empty word is refused by no check, if one is due where one must be 1
pub free_if_empty : (wanted : Bool) (g : ℕ → Bool) (start count due : ℕ) → count ≤ 4 → Shows due g start count → (wanted ≡ true → 0 < due) →
    length (filter g (span start count)) ≡ 0 → is_refused (some_one_where wanted) 0 ≡ false
free_if_empty false g start count due few shown some e = refl
free_if_empty true g start count due few shown some e =
    let none : due ≡ 0 = zero_from_ones due (due_count g start count due few shown ∙ e) in
    absurd (omega (arith, some refl, none))

-- ---- by calls

-- the same masks with other options
pub on : {h h' : Gaggle} {m : Found} {s : State} {options : ℕ → Option ℕ} → IsState h m s → AreIn h' options → IsState h' m (with_options s options)
on is known = record { options = known; bits = is.bits; minus = is.minus; raw = is.raw }

module _ {I : Type 0} {k : SourceOf I} (book : Book) (wanted : Bool) (g : ℕ → Bool) (start count due : ℕ) (few : count ≤ 4) (shown : Shows due g start count)
    (some : wanted ≡ true → 0 < due) (s : State) {h : Gaggle} {m : Found} (is : IsState h m s) where
  pub types_fault : (fault : TextFault) {h' : Gaggle} {a b : SourceState I} → TakesPlaces k book due g start count s (Err fault) h' a b → TakesState {X =
      Unit {0}} k (types_script book g wanted (span start count) s) (Err fault) h' m a b
  types_fault fault p = record {
    now = with_options s p.options;
    is = on is p.known;
    read = read_fault _ _ (with_options s p.options) fault (p.read (some_one_where wanted) (free_if_empty wanted g start count due few shown some));
  }

  pub types_missing : {h' : Gaggle} {a b : SourceState I} → TakesPlaces k book due g start count s (Ok None) h' a b → TakesState {X =
      Unit {0}} k (types_script book g wanted (span start count) s) (Ok None) h' m a b
  types_missing p = record {
    now = with_options s p.options;
    is = on is p.known;
    read = read_cut _ _ (with_options s p.options) (p.read
        (some_one_where wanted) (free_if_empty wanted g start count due few shown some));
  }

  module _ {places : ℕ} {h' : Gaggle} {a b : SourceState I} (p : TakesPlaces k book due g start count s (Ok (Some places)) h' a b) where
    abbrev after : State
    after = with_options s p.options

    places_read : (bad : Bool) → (wanted && (places == 0)) ≡ bad → ReadsAs k (due_script book g (some_one_where wanted) (span start count) s)
        (unless_bad bad after (after, p.ones)) a b
    places_read bad e =
        let o : State × (ℕ → Bool) = (after, p.ones) in
        subst (λ t. ReadsAs k (due_script book g (some_one_where wanted) (span start count) s) (unless_bad t after o) a b) (refused_is wanted p.are ∙
        e) (p.read (some_one_where wanted) (free_if_empty wanted g start count due few shown some))

    pub types_false : (wanted && (places == 0)) ≡ true → TakesState {X = Unit {0}} k (types_script book g wanted (span start count) s) (Err FalseFlag) h' m a b
    types_false e = record { now = after; is = on is p.known; read = read_fault _ _ after FalseFlag (places_read true e) }

    pub types_read : (o : Found) {q : Found} {c : SourceState I} {result : Result (Option (Unit {0})) TextFault} → (wanted && (places == 0)) ≡ false →
        ((f g' : ℕ → Bool) (n : ℕ) → start + n ≤ 64 → Shows m.bits f 0 64 → Shows places g' start n → Shows o.bits (λ p. f p ||
        (inside start n p && g' p)) 0 64) → start + count ≤ 64 → o.minus ≡ m.minus → q.raw ≡ m.raw →
        TakesSigns k (positions places start count) (with_bits after p.ones) result q.minus b c → q.bits ≡ o.bits →
        TakesState k (types_script book g wanted (span start count) s) result h' q a c
    types_read o {q} {c} {result} e bits room no_minus no_raw signs no_bits =
        let here = mask_positions p.are.shown in
        record {
          now = with_minus (with_bits after p.ones) signs.minus;
          is = record {
            options = p.known;
            bits = subst (λ z. Shows z (λ x. s.bits x || p.ones x) 0 64) (sym no_bits) (shows_same (λ x. ap (λ t. s.bits x || t) (p.are.within
                x)) (bits s.bits p.ones count room is.bits p.are.shown));
            minus = signs.shown;
            raw = subst (λ z. Shows z s.raw 0 64) (sym no_raw) is.raw;
          };
          read =
              let r : State × (ℕ → Bool) = (after, p.ones) in
              read_then _ _ r _ (places_read false e) (subst (λ l. ReadsAs k (signs_script l (with_bits after p.ones)) (by_done result (with_minus
              (with_bits after p.ones) signs.minus) (with_minus (with_bits after p.ones) signs.minus)) b c) here signs.read);
        }

-- a part of a mask that is marked
pub part_marks : {part start count : ℕ} (mask : ℕ) (g : ℕ → Bool) → Marks mask g start count → Shows part (bit mask) start count → Shows part g start count
part_marks mask g marks shown = record { at = λ k lt. shown.at k lt ∙ marks k lt; small = shown.small }

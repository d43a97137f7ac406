-- The tables of what is picked and of what is spread, entry by entry.
use Rattle.std.proofs.lemmas.Bool.{cases_lt, eqb-true, eqb-false, ltb-true, lt-ltb, false≢true}
use Rattle.std.proofs.lemmas.Nat.Bits.{bit_at_above}
use Rattle.std.proofs.Common.{◌≡◌, inl, inr, ◌≤◌, ◌-◌, ℕ, zero, suc, ◌+◌, ◌*◌, ◌/◌, ◌%◌, ◌^◌, ◌<◌, Bool, true, false, not, ◌&&◌, cond, List, [], ◌∷◌, ◌++◌}
use Rattle.std.proofs.Common.{length, map, filter, nat_lt, slice_index_or, refl, ap, sym, ◌∙◌, subst, arith, length-append, pow_mono, ◌==◌, ◌||◌}
use Rattle.std.proofs.Common.{count_ones}
use Rattle.std.specs.List.{list_all}
use Rattle.std.proofs.lemmas.Bool.Decides.{nat_tests}
use Rattle.item_defs.specs.Bits.{bit, digit, value_of}
use Rattle.item_defs.proofs.NumberBits.{digit_small}
use Rattle.plane_defs.specs.Spans.{span}
use Rattle.plane_defs.proofs.SpanLists.{map-filter-span-suc, map-filter-span-passed, map-filter-span-none}
use Rattle.plane_defs.proofs.Tables.{list_all-span-zero, and-left, and-right}
use Rattle.block_masks.specs.Masks.{Shows}
use Rattle.block_masks.specs.Picks.{packed, AreSpread}
use Rattle.block_masks.specs.declared.picks.TheConstants.{PICKS, SPREADS, FIRST_SPREADS}

abbrev entry : ℕ → ℕ → ℕ
entry due bits = slice_index_or PICKS (16 * due + bits) 0

small_entries : list_all (λ i. list_all (λ j. nat_lt (entry i j) 80) (span 0 16)) (span 0 16) ≡ true
unfolding span
small_entries = refl

pub small_entry : (i j : ℕ) → i < 16 → j < 16 → entry i j < 80
small_entry i j hi hj =
    let row = list_all-span-zero (λ i. list_all (λ j. nat_lt (entry i j) 80) (span 0 16)) 16 i small_entries hi in
    let test = list_all-span-zero (λ j. nat_lt (entry i j) 80) 16 j row hj in
    grind (arith, test)

fitting_entries : list_all (λ i. list_all (λ j. nat_lt (entry i j % 16) (2 ^ (entry i j / 16))) (span 0 16)) (span 0 16) ≡ true
unfolding span
fitting_entries = refl

pub fitting_entry : (i j : ℕ) → i < 16 → j < 16 → entry i j % 16 < 2 ^ (entry i j / 16)
fitting_entry i j hi hj =
    let row = list_all-span-zero (λ i. list_all (λ j. nat_lt (entry i j % 16) (2 ^ (entry i j / 16))) (span 0 16)) 16 i fitting_entries hi in
    ltb-true _ _ (list_all-span-zero (λ j. nat_lt (entry i j % 16) (2 ^ (entry i j / 16))) 16 j row hj)

-- ---- a mask of four by its bits

abbrev four : Bool → Bool → Bool → Bool → ℕ
four a b c d = digit a + 2 * digit b + 4 * digit c + 8 * digit d

pub digit_of : (n : ℕ) (b : Bool) → n < 2 → (n == 1) ≡ b → n ≡ digit b
digit_of n b small e = grind (arith, nat_tests)

pub four_is : (m start : ℕ) (f : ℕ → Bool) → Shows m f start 4 → m ≡ four (f (start + 0)) (f (start + 1)) (f (start + 2)) (f (start + 3))
four_is m start f p = grind (arith, nat_tests, digit_of)

-- ---- what is picked of four

abbrev due_there : Bool → Bool → List Bool
due_there due b = cond due (b ∷ []) []

abbrev chosen : Bool → Bool → Bool → Bool → Bool → Bool → Bool → Bool → List Bool
chosen p q r s a b c d = (((([] ++ due_there p a) ++ due_there q b) ++ due_there r c) ++ due_there s d)

chosen_is : (f g : ℕ → Bool) (start : ℕ) → map f (filter g (span start 4)) ≡
    chosen (g (start + 0)) (g (start + 1)) (g (start + 2)) (g (start + 3)) (f (start + 0)) (f (start + 1)) (f (start + 2)) (f (start + 3))
chosen_is f g start =
    map-filter-span-suc f g start 3 ∙
    ap (λ l. l ++ due_there (g (start + 3)) (f (start + 3))) (
    map-filter-span-suc f g start 2 ∙
    ap (λ l. l ++ due_there (g (start + 2)) (f (start + 2))) (
    map-filter-span-suc f g start 1 ∙
    ap (λ l. l ++ due_there (g (start + 1)) (f (start + 1))) (
    map-filter-span-suc f g start 0 ∙
    ap (λ l. l ++ due_there (g (start + 0)) (f (start + 0))) (map-filter-span-none f g start))))

abbrev each : (Bool → Bool) → Bool
each p = p true && p false

pub of_each : (p : Bool → Bool) → each p ≡ true → (b : Bool) → p b ≡ true
of_each p all b = grind (arith, nat_tests, and-left, and-right)

abbrev agrees : Bool → Bool → Bool → Bool → Bool → Bool → Bool → Bool → Bool
agrees p q r s a b c d = entry (four p q r s) (four a b c d) == packed (chosen p q r s a b c d)

all_agree : each (λ p. each (λ q. each (λ r. each (λ s. each (λ a. each (λ b. each (λ c. each (λ d. agrees p q r s a b c d)))))))) ≡ true
unfolding packed value_of
all_agree = refl

one_agrees : (p q r s a b c d : Bool) → agrees p q r s a b c d ≡ true
one_agrees p q r s a b c d =
    of_each (λ d. agrees p q r s a b c d) (
    of_each (λ c. each (λ d. agrees p q r s a b c d)) (
    of_each (λ b. each (λ c. each (λ d. agrees p q r s a b c d))) (
    of_each (λ a. each (λ b. each (λ c. each (λ d. agrees p q r s a b c d)))) (
    of_each (λ s. each (λ a. each (λ b. each (λ c. each (λ d. agrees p q r s a b c d))))) (
    of_each (λ r. each (λ s. each (λ a. each (λ b. each (λ c. each (λ d. agrees p q r s a b c d)))))) (
    of_each (λ q. each (λ r. each (λ s. each (λ a. each (λ b. each (λ c. each (λ d. agrees p q r s a b c d))))))) (
    of_each (λ p. each (λ q. each (λ r. each (λ s. each (λ a. each (λ b. each (λ c. each (λ d. agrees p q r s a b c d)))))))) all_agree p) q) r) s) a) b) c) d

picked : (due bits start : ℕ) (f g : ℕ → Bool) → Shows due g start 4 → Shows bits f start 4 → entry due bits ≡ packed (map f (filter g (span start 4)))
picked due bits start f g p q =
    ap (λ n. entry n bits) (four_is due start g p) ∙
    ap (entry (four (g (start + 0)) (g (start + 1)) (g (start + 2)) (g (start + 3)))) (four_is bits start f q) ∙
    eqb-true _ _ (one_agrees (g (start + 0)) (g (start + 1)) (g (start + 2)) (g (start + 3)) (f (start + 0)) (f (start + 1)) (f (start + 2)) (f (start + 3))) ∙
    sym (ap packed (chosen_is f g start))

-- ---- fewer positions: the others add nothing

-- what a mask says of its own positions, and nothing past them
abbrev within : (start count : ℕ) → (ℕ → Bool) → ℕ → Bool
within start count f p = nat_lt p (start + count) && f p

there : (start count k : ℕ) (f : ℕ → Bool) → k < count → within start count f (start + k) ≡ f (start + k)
there start count k f below = let h : nat_lt (start + k) (start + count) ≡ true = grind arith in ap (λ b. b && f (start + k)) h

past : (start count k : ℕ) (f : ℕ → Bool) → count ≤ k → within start count f (start + k) ≡ false
past start count k f beyond = let h : nat_lt (start + k) (start + count) ≡ false = grind arith in ap (λ b. b && f (start + k)) h

wider : (mask start count : ℕ) (f : ℕ → Bool) → count ≤ 4 → Shows mask f start count → Shows mask (within start count f) start 4
wider mask start count f few p = record {
  at = λ k below. elim (cases_lt k count) [
    | inl lt ↦ p.at k lt ∙ sym (there start count k f lt)
    | inr ge ↦ ap (λ n. n == 1) (bit_at_above mask count k p.small ge) ∙ sym (past start count k f ge)
  ];
  small = let most : 2 ^ count ≤ 2 ^ 4 = pow_mono few in omega (arith, p.small, most);
}

same_choice : (f g a b : ℕ → Bool) (start count : ℕ) → ((k : ℕ) → k < count → f (start + k) ≡ a (start + k)) →
    ((k : ℕ) → k < count → g (start + k) ≡ b (start + k)) →
    map f (filter g (span start count)) ≡ map a (filter b (span start count))
same_choice f g a b start zero p q = map-filter-span-none f g start ∙ sym (map-filter-span-none a b start)
same_choice f g a b start (suc count) p q =
    let fewer = same_choice f g a b start count (λ k h. p k (omega arith)) (λ k h. q k (omega arith)) in
    let last : cond (g (start + count)) (f (start + count) ∷ []) [] ≡ cond (b (start + count)) (a (start + count) ∷ []) [] =
    ap (λ x. cond x (f (start + count) ∷ []) []) (q count (omega arith)) ∙ ap (λ y. cond (b (start + count)) (y ∷ []) []) (p count (omega arith)) in
    let one : count + 1 ≡ suc count = omega arith in
    ap (λ n. map f (filter g (span start n))) (sym one) ∙ map-filter-span-suc f g start count ∙
    ap (λ l. l ++ cond (g (start + count)) (f (start + count) ∷ []) []) fewer ∙ ap (λ l. map a (filter b (span start count)) ++ l) last ∙
    sym (map-filter-span-suc a b start count) ∙ ap (λ n. map a (filter b (span start n))) one

-- positions that are not due add nothing
shorter : (f g : ℕ → Bool) (start count more : ℕ) → ((k : ℕ) → count ≤ k → g (start + k) ≡ false) → map f (filter g (span start (count + more)))
    ≡ map f (filter g (span start count))
shorter f g start count zero none = let e : count + 0 ≡ count = omega arith in ap (λ n. map f (filter g (span start n))) e
shorter f g start count (suc more) none =
    let e : count + suc more ≡ (count + more) + 1 = omega arith in
    ap (λ n. map f (filter g (span start n))) e ∙ map-filter-span-passed f g start (count + more) (none (count + more) (omega arith))
    ∙ shorter f g start count more none

pub picked_of : (due bits start count : ℕ) (f g : ℕ → Bool) → count ≤ 4 → Shows due g start count → Shows bits f start count →
    entry due bits ≡ packed (map f (filter g (span start count)))
picked_of due bits start count f g few p q =
    let a = within start count f in
    let b = within start count g in
    let whole : count + (4 - count) ≡ 4 = omega arith in
    picked due bits start a b (wider due start count g few p) (wider bits start count f few q) ∙
    ap (λ n. packed (map a (filter b (span start n)))) (sym whole) ∙
    ap packed (shorter a b start count (4 - count) (λ k beyond. past start count k g beyond) ∙
    same_choice a b f g start count (λ k h. there start count k f h) (λ k h. there start count k g h))

-- ---- a word spread over the due positions

abbrev pub spread_entry : ℕ → ℕ → ℕ
spread_entry due word = slice_index_or (slice_index_or SPREADS due []) word 0

small_spreads : list_all (λ i. list_all (λ j. nat_lt (spread_entry i j) 16) (span 0 16)) (span 0 16) ≡ true
unfolding span
small_spreads = refl

pub small_spread : (i j : ℕ) → i < 16 → j < 16 → spread_entry i j < 16
small_spread i j hi hj =
    let row = list_all-span-zero (λ i. list_all (λ j. nat_lt (spread_entry i j) 16) (span 0 16)) 16 i small_spreads hi in
    let test = list_all-span-zero (λ j. nat_lt (spread_entry i j) 16) 16 j row hj in
    grind (arith, test)

abbrev spreads : Bool → Bool → Bool → Bool → Bool → Bool → Bool → Bool → Bool
spreads p q r s a b c d = spread_entry (four p q r s) (value_of (chosen p q r s a b c d)) == four (p && a) (q && b) (r && c) (s && d)

all_spread : each (λ p. each (λ q. each (λ r. each (λ s. each (λ a. each (λ b. each (λ c. each (λ d. spreads p q r s a b c d)))))))) ≡ true
unfolding value_of
all_spread = refl

one_spreads : (p q r s a b c d : Bool) → spreads p q r s a b c d ≡ true
one_spreads p q r s a b c d =
    of_each (λ d. spreads p q r s a b c d) (
    of_each (λ c. each (λ d. spreads p q r s a b c d)) (
    of_each (λ b. each (λ c. each (λ d. spreads p q r s a b c d))) (
    of_each (λ a. each (λ b. each (λ c. each (λ d. spreads p q r s a b c d)))) (
    of_each (λ s. each (λ a. each (λ b. each (λ c. each (λ d. spreads p q r s a b c d))))) (
    of_each (λ r. each (λ s. each (λ a. each (λ b. each (λ c. each (λ d. spreads p q r s a b c d)))))) (
    of_each (λ q. each (λ r. each (λ s. each (λ a. each (λ b. each (λ c. each (λ d. spreads p q r s a b c d))))))) (
    of_each (λ p. each (λ q. each (λ r. each (λ s. each (λ a. each (λ b. each (λ c. each (λ d. spreads p q r s a b c d)))))))) all_spread p) q) r) s) a) b) c) d

abbrev same_as : Bool → Bool → Bool
same_as true b = b
same_as false b = not b

from_same : (a b : Bool) → same_as a b ≡ true → a ≡ b
from_same a b e = grind (arith, nat_tests)

abbrev each_four : (Bool → Bool → Bool → Bool → Bool) → Bool
each_four p = each (λ a. each (λ b. each (λ c. each (λ d. p a b c d))))

of_each_four : (p : Bool → Bool → Bool → Bool → Bool) → each_four p ≡ true → (a b c d : Bool) → p a b c d ≡ true
of_each_four p all a b c d = grind (arith, nat_tests, of_each)

bit_zero : (a b c d : Bool) → bit (four a b c d) 0 ≡ a
bit_zero a b c d = from_same (bit (four a b c d) 0) a (of_each_four (λ a b c d. same_as (bit (four a b c d) 0) a) refl a b c d)

bit_one : (a b c d : Bool) → bit (four a b c d) 1 ≡ b
bit_one a b c d = from_same (bit (four a b c d) 1) b (of_each_four (λ a b c d. same_as (bit (four a b c d) 1) b) refl a b c d)

bit_two : (a b c d : Bool) → bit (four a b c d) 2 ≡ c
bit_two a b c d = from_same (bit (four a b c d) 2) c (of_each_four (λ a b c d. same_as (bit (four a b c d) 2) c) refl a b c d)

bit_three : (a b c d : Bool) → bit (four a b c d) 3 ≡ d
bit_three a b c d = from_same (bit (four a b c d) 3) d (of_each_four (λ a b c d. same_as (bit (four a b c d) 3) d) refl a b c d)

four_shows : (f : ℕ → Bool) (start : ℕ) → Shows (four (f (start + 0)) (f (start + 1)) (f (start + 2)) (f (start + 3))) f start 4
four_shows f start = shown (f (start + 0)) (f (start + 1)) (f (start + 2)) (f (start + 3)) refl refl refl refl
  where
    small : (a b c d : Bool) → four a b c d < 16
    small a b c d =
        let p = digit_small a in let q = digit_small b in let r = digit_small c in let s = digit_small d in omega arith

    shown : (a b c d : Bool) → f (start + 0) ≡ a → f (start + 1) ≡ b → f (start + 2) ≡ c → f (start + 3) ≡ d → Shows (four a b c d) f start 4
    shown a b c d ea eb ec ed = record { at = λ k below. each_bit k below; small = small a b c d }
      where
        each_bit : (k : ℕ) → k < 4 → bit (four a b c d) k ≡ f (start + k)
        each_bit zero below = bit_zero a b c d ∙ sym ea
        each_bit (suc zero) below = bit_one a b c d ∙ sym eb
        each_bit (suc (suc zero)) below = bit_two a b c d ∙ sym ec
        each_bit (suc (suc (suc zero))) below = bit_three a b c d ∙ sym ed
        each_bit (suc (suc (suc (suc k)))) below = absurd (omega arith)

spread_of_four : (due word start : ℕ) (f g : ℕ → Bool) → Shows due g start 4 → value_of (map f (filter g (span start 4))) ≡ word →
    Shows (spread_entry due word) (λ p. g p && f p) start 4
spread_of_four due word start f g p e =
    let same : spread_entry due word ≡ four (g (start + 0) && f (start + 0)) (g (start + 1) && f (start + 1)) (g (start + 2) && f (start + 2))
    (g (start + 3) && f (start + 3)) =
    ap (λ n. spread_entry n word) (four_is due start g p) ∙
    ap (spread_entry (four (g (start + 0)) (g (start + 1)) (g (start + 2)) (g (start + 3)))) (sym e ∙ ap value_of (chosen_is f g start)) ∙
    eqb-true _ _ (one_spreads (g (start + 0)) (g (start + 1)) (g (start + 2)) (g (start + 3)) (f (start + 0)) (f (start + 1)) (f (start + 2))
    (f (start + 3))) in
    subst (λ n. Shows n (λ p. g p && f p) start 4) (sym same) (four_shows (λ p. g p && f p) start)

small_below : (mask count : ℕ) → ((k : ℕ) → count ≤ k → k < 4 → bit mask k ≡ false) → mask < 16 → count ≤ 4 → mask < 2 ^ count
small_below mask zero none lt le =
    let a = none 0 (omega arith) (omega arith) in let b = none 1 (omega arith) (omega arith) in let c = none 2 (omega arith) (omega arith) in let d =
    none 3 (omega arith) (omega arith) in
    let a' = eqb-false (mask / 1 % 2) 1 a in let b' = eqb-false (mask / 2 % 2) 1 b in let c' = eqb-false (mask / 4 % 2) 1 c in let d' =
    eqb-false (mask / 8 % 2) 1 d in
    omega arith
small_below mask (suc zero) none lt le =
    let b = none 1 (omega arith) (omega arith) in let c = none 2 (omega arith) (omega arith) in let d = none 3 (omega arith) (omega arith) in
    let b' = eqb-false (mask / 2 % 2) 1 b in let c' = eqb-false (mask / 4 % 2) 1 c in let d' = eqb-false (mask / 8 % 2) 1 d in
    omega arith
small_below mask (suc (suc zero)) none lt le =
    let c = none 2 (omega arith) (omega arith) in let d = none 3 (omega arith) (omega arith) in
    let c' = eqb-false (mask / 4 % 2) 1 c in let d' = eqb-false (mask / 8 % 2) 1 d in
    omega arith
small_below mask (suc (suc (suc zero))) none lt le = let d = none 3 (omega arith) (omega arith) in let d' = eqb-false (mask / 8 % 2) 1 d in omega arith
small_below mask (suc (suc (suc (suc zero)))) none lt le = lt
small_below mask (suc (suc (suc (suc (suc n))))) none lt le = absurd (omega (arith, le))

narrower : (mask start count : ℕ) (f h : ℕ → Bool) → count ≤ 4 → Shows mask f start 4 → ((k : ℕ) → k < count → f (start + k) ≡ h (start + k)) →
    ((k : ℕ) → count ≤ k → k < 4 → f (start + k) ≡ false) → Shows mask h start count
narrower mask start count f h few p same none = record {
  at = λ k below. p.at k (omega (arith, below, few)) ∙ same k below;
  small =
      small_below mask count (λ k ge lt. p.at k lt ∙ none k ge lt) p.small few;
}

pub spread_of : (due word start count : ℕ) (f g : ℕ → Bool) → count ≤ 4 → Shows due g start count → value_of (map f (filter g (span start count))) ≡ word →
    Shows (spread_entry due word) (λ p. g p && f p) start count
spread_of due word start count f g few p e =
    let a = within start count f in
    let b = within start count g in
    let whole : count + (4 - count) ≡ 4 = omega arith in
    let word_same : value_of (map a (filter b (span start 4))) ≡ word =
    ap (λ n. value_of (map a (filter b (span start n)))) (sym whole) ∙
    ap value_of (shorter a b start count (4 - count) (λ k beyond. past start count k g beyond) ∙
    same_choice a b f g start count (λ k h. there start count k f h) (λ k h. there start count k g h)) ∙ e in
    narrower (spread_entry due word) start count (λ p. b p && a p) (λ p. g p && f p) few
    (spread_of_four due word start a b (wider due start count g few p) word_same)
    (λ k below. both (there start count k g below) (there start count k f below)) (λ k beyond below. ap (λ x. x && a (start + k)) (past start count k g beyond))
  where
    both : {a b c d : Bool} → a ≡ b → c ≡ d → (a && c) ≡ (b && d)
    both {a} {b} {c} {d} e f = ap (λ x. x && c) e ∙ ap (λ y. b && y) f

-- ---- the word of what was spread

abbrev spread_back : Bool → Bool → Bool → Bool → ℕ → Bool
spread_back p q r s w =
    let m = spread_entry (four p q r s) w in
    not (nat_lt w (2 ^ count_ones (four p q r s))) || (value_of (chosen p q r s (bit m 0) (bit m 1) (bit m 2) (bit m 3)) == w)

all_back : each_four (λ p q r s. list_all (λ w. spread_back p q r s w) (span 0 16)) ≡ true
unfolding span value_of lib.Count.ones
all_back = refl

abbrev ones_there : Bool → Bool → Bool → Bool → Bool
ones_there p q r s = count_ones (four p q r s) == length (chosen p q r s false false false false)

all_ones : each_four (λ p q r s. ones_there p q r s) ≡ true
unfolding lib.Count.ones
all_ones = refl

pub or_from : (a b : Bool) → (not a || b) ≡ true → a ≡ true → b ≡ true
or_from a b e h = grind (arith, nat_tests, false≢true)

-- the bits that are at the due places
abbrev pub placed : ℕ → ℕ → ℕ → Bool
placed mask start p = bit mask (p - start)

placed_at : (mask start k : ℕ) → placed mask start (start + k) ≡ bit mask k
placed_at mask start k = let e : (start + k) - start ≡ k = omega arith in ap (bit mask) e

back_of_four : (due word start : ℕ) (g : ℕ → Bool) → Shows due g start 4 → word < 16 → word < 2 ^ count_ones due →
    value_of (map (placed (spread_entry due word) start) (filter g (span start 4))) ≡ word
back_of_four due word start g p small fits =
    let a = g (start + 0) in let b = g (start + 1) in let c = g (start + 2) in let d = g (start + 3) in
    let m = spread_entry due word in
    let same : due ≡ four a b c d = four_is due start g p in
    let test = list_all-span-zero (λ w. spread_back a b c d w) 16 word (of_each_four (λ p q r s. list_all (λ w. spread_back p q r s w) (span 0 16)) all_back
    a b c d) small in
    let n = spread_entry (four a b c d) word in
    let found : value_of (chosen a b c d (bit n 0) (bit n 1) (bit n 2) (bit n 3)) ≡ word =
    eqb-true _ _ (or_from _ _ test (lt-ltb word (2 ^ count_ones (four a b c d)) (subst (λ x. word < 2 ^ count_ones x) same fits))) in
    let h = placed m start in
    ap value_of (chosen_is h g start) ∙
    ap (λ x. value_of (chosen a b c d x (h (start + 1)) (h (start + 2)) (h (start + 3)))) (placed_at m start 0) ∙
    ap (λ x. value_of (chosen a b c d (bit m 0) x (h (start + 2)) (h (start + 3)))) (placed_at m start 1) ∙
    ap (λ x. value_of (chosen a b c d (bit m 0) (bit m 1) x (h (start + 3)))) (placed_at m start 2) ∙
    ap (λ x. value_of (chosen a b c d (bit m 0) (bit m 1) (bit m 2) x)) (placed_at m start 3) ∙
    ap (λ x. value_of (chosen a b c d (bit x 0) (bit x 1) (bit x 2) (bit x 3))) (ap (λ z. spread_entry z word) same) ∙ found

wider_choice : (f g : ℕ → Bool) (start count : ℕ) → count ≤ 4 → map f (filter (within start count g) (span start 4)) ≡ map f (filter g (span start count))
wider_choice f g start count few =
    let b = within start count g in
    let whole : count + (4 - count) ≡ 4 = omega arith in
    ap (λ n. map f (filter b (span start n))) (sym whole) ∙ shorter f b start count (4 - count) (λ k beyond. past start count k g beyond) ∙
    same_choice f b f g start count (λ k lt. refl) (λ k lt. there start count k g lt)

pub back_of : (due word start count : ℕ) (g : ℕ → Bool) → count ≤ 4 → Shows due g start count → word < 16 → word < 2 ^ count_ones due →
    value_of (map (placed (spread_entry due word) start) (filter g (span start count))) ≡ word
back_of due word start count g few p small fits =
    sym (ap value_of (wider_choice (placed (spread_entry due word) start) g start count few)) ∙ back_of_four due word start (within start count g)
    (wider due start count g few p) small fits

-- the number of positions is the number of ones of the word
abbrev ones_kept : ℕ → ℕ → Bool
ones_kept due word = not (nat_lt word (2 ^ count_ones due)) || (count_ones (spread_entry due word) == count_ones word)

all_ones_kept : list_all (λ i. list_all (λ j. ones_kept i j) (span 0 16)) (span 0 16) ≡ true
unfolding span lib.Count.ones
all_ones_kept = refl

pub ones_spread : (due word : ℕ) → due < 16 → word < 16 → word < 2 ^ count_ones due → count_ones (spread_entry due word) ≡ count_ones word
ones_spread due word four low fits =
    let row = list_all-span-zero (λ i. list_all (λ j. ones_kept i j) (span 0 16)) 16 due all_ones_kept four in
    eqb-true _ _ (or_from _ _ (list_all-span-zero (λ j. ones_kept due j) 16 word row low) (lt-ltb word (2 ^ count_ones due) fits))

-- what the table has for a word
pub are_spread : (due word : ℕ) → due < 16 → word < 16 → AreSpread due word (spread_entry due word)
are_spread due word four low = record {
  small = small_spread due word four low;
  if_known = λ f g start count few p is. spread_of due word start count f g few p is;
  back = λ g start count few p fits. back_of due word start count g few p low fits;
  ones = λ fits. ones_spread due word four low fits;
}

chosen_length : (p q r s a b c d : Bool) → length (chosen p q r s a b c d) ≡ length (chosen p q r s false false false false)
chosen_length p q r s a b c d = grind (arith, nat_tests, length-append)

-- the ones of a mask are its due positions
pub ones_of : (due start count : ℕ) (f g : ℕ → Bool) → count ≤ 4 → Shows due g start count → count_ones due ≡ length (map f (filter g (span start count)))
ones_of due start count f g few p =
    let b = within start count g in
    let w = b (start + 0) in let x = b (start + 1) in let y = b (start + 2) in let z = b (start + 3) in
    ap count_ones (four_is due start b (wider due start count g few p)) ∙ eqb-true _ _ (of_each_four (λ p q r s. ones_there p q r s) all_ones w x y z) ∙
    sym (chosen_length w x y z (f (start + 0)) (f (start + 1)) (f (start + 2)) (f (start + 3))) ∙ sym (ap length (chosen_is f b start))
    ∙ ap length (wider_choice f g start count few)

-- ---- a word that is first in four bits

abbrev pub first_entry : ℕ → ℕ → ℕ
first_entry due bits = slice_index_or (slice_index_or FIRST_SPREADS due []) bits 0

abbrev is_first : ℕ → ℕ → Bool
is_first due bits = (spread_entry due (bits / 2 ^ (4 - count_ones due)) == first_entry due bits) && nat_lt (bits / 2 ^ (4 - count_ones due)) 16

all_first : list_all (λ i. list_all (λ j. is_first i j) (span 0 16)) (span 0 16) ≡ true
unfolding span lib.Count.ones
all_first = refl

pub first_spread : (due bits : ℕ) → due < 16 → bits < 16 → AreSpread due (bits / 2 ^ (4 - count_ones due)) (first_entry due bits)
first_spread due bits four low =
    let row = list_all-span-zero (λ i. list_all (λ j. is_first i j) (span 0 16)) 16 due all_first four in
    let test = list_all-span-zero (λ j. is_first due j) 16 bits row low in
    subst (AreSpread due (bits / 2 ^ (4 - count_ones due))) (eqb-true _ _ (and-left _ _ test))
    (are_spread due (bits / 2 ^ (4 - count_ones due)) four (ltb-true _ _ (and-right _ _ test)))

-- an octet has what is due as its high digits, and the bits as its low ones
pub octet_entry : (octet : ℕ) → slice_index_or PICKS octet 0 ≡ entry (octet / 16) (octet % 16)
octet_entry octet = let whole : octet ≡ 16 * (octet / 16) + octet % 16 = omega arith in ap (λ n. slice_index_or PICKS n 0) whole

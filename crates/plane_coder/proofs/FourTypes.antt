-- What the masks of types have, four positions at a time.
use Rattle.std.proofs.Common.{◌≡◌, ℕ, zero, suc, ◌+◌, ◌-◌, ◌*◌, ◌/◌, ◌%◌, ◌^◌, ◌<◌, ◌≤◌, ℤ, pos, Bool, true, false, not, ◌&&◌, ◌||◌, cond, List, [], ◌∷◌}
use Rattle.std.proofs.Common.{◌++◌, map, filter, get_or, nat_lt, slice_index_or, refl, ap, sym, ◌∙◌, subst, arith, ◌==◌}
use Rattle.std.specs.List.{list_all, list_any}
use Rattle.std.proofs.lemmas.Bool.{eqb-true, ltb-true, lt-ltb, false≢true}
use Rattle.std.proofs.lemmas.Bool.Decides.{nat_tests}
use Rattle.item_defs.specs.Bits.{bit, digit, value_of}
use Rattle.plane_defs.specs.declared.entries.Entry.{Entry}
use Rattle.plane_defs.specs.Spans.{span}
use Rattle.plane_defs.specs.declared.sets.Set.TheVariants.{Family, Quad}
use Rattle.plane_defs.specs.Sets.{significant, set_significant, type_due, newly_significant}
use Rattle.plane_defs.specs.Entries.{negative, typed}
use Rattle.plane_defs.proofs.Tables.{list_all-span-zero, and-left, and-right}
use Rattle.plane_defs.proofs.SpanLists.{map-filter-span-suc, map-filter-span-none}
use Rattle.plane_defs.proofs.SpanLists.{list_any-span-suc, list_any-span-none}
use Rattle.block_masks.specs.Masks.{Shows}
use Rattle.block_masks.specs.Picks.{packed}
use Rattle.block_masks.proofs.Picking.{four_is, of_each, or_from}
use Rattle.plane_coder.specs.declared.fours.TheConstants.{TYPED, FILLED, SOME}
use Rattle.plane_coder.specs.declared.plane_masks.Typed.{Typed}
use Rattle.plane_coder.specs.Picked.{word_in, signs_in, entries_of, IsPacked, ArePacked}
use Rattle.plane_coder.specs.Fours.{ArePicked}
use Rattle.plane_coder.proofs.GroupsPushed.{typed_is, is_packed}
use Rattle.plane_defs.proofs.Equations.{span-none, span-more}
use Rattle.block_masks.proofs.Equations.{packed-is}
use Rattle.item_defs.proofs.Equations.{value_of-is}

-- ---- the tables

abbrev pub entry : List ℕ → ℕ → ℕ → ℕ
entry table row column = slice_index_or table (16 * row + column) 0

abbrev is_packed_number : ℕ → Bool
is_packed_number n = nat_lt n 80 && nat_lt (n % 16) (2 ^ (n / 16))

abbrev are_packed_at : ℕ → ℕ → Bool
are_packed_at i j = is_packed_number (entry TYPED i j % 256) && is_packed_number (entry TYPED i j / 256)

all_packed : list_all (λ i. list_all (are_packed_at i) (span 0 16)) (span 0 16) ≡ true
all_packed = grind (arith, nat_tests, span-none, span-more)

packed_number : (n : ℕ) → is_packed_number n ≡ true → IsPacked n
packed_number n test = is_packed n (ltb-true _ _ (and-left _ _ test)) (ltb-true _ _ (and-right _ _ test))

pub are_packed : (i j : ℕ) (t : Typed) → i < 16 → j < 16 → t.pair ≡ entry TYPED i j → ArePacked t
are_packed i j t hi hj is =
    let row = list_all-span-zero (λ i. list_all (are_packed_at i) (span 0 16)) 16 i all_packed hi in
    let test : are_packed_at i j ≡ true = list_all-span-zero (are_packed_at i) 16 j row hj in
    record {
      word = subst (λ n. IsPacked (n % 256)) (sym is) (packed_number (entry TYPED i j % 256) (and-left _ _ test));
      signs = subst (λ n. IsPacked (n / 256)) (sym is) (packed_number (entry TYPED i j / 256) (and-right _ _ test));
    }

-- ---- masks of four by their bits

abbrev four : Bool → Bool → Bool → Bool → ℕ
four a b c d = digit a + 2 * digit b + 4 * digit c + 8 * digit d

abbrev due_there : Bool → Bool → List Bool
due_there due b = cond due (b ∷ []) []

abbrev chosen : List Bool → List Bool → List Bool → List Bool → List Bool
chosen a b c d = ((([] ++ a) ++ b) ++ c) ++ d

chosen_is : (f g : ℕ → Bool) (start : ℕ) → map f (filter g (span start 4)) ≡
    chosen (due_there (g (start + 0)) (f (start + 0))) (due_there (g (start + 1)) (f (start + 1))) (due_there (g (start + 2)) (f (start + 2)))
    (due_there (g (start + 3)) (f (start + 3)))
chosen_is f g start =
    map-filter-span-suc f g start 3 ∙
    ap (λ l. l ++ due_there (g (start + 3)) (f (start + 3))) (
    map-filter-span-suc f g start 2 ∙
    ap (λ l. l ++ due_there (g (start + 2)) (f (start + 2))) (
    map-filter-span-suc f g start 1 ∙
    ap (λ l. l ++ due_there (g (start + 1)) (f (start + 1))) (
    map-filter-span-suc f g start 0 ∙
    ap (λ l. l ++ due_there (g (start + 0)) (f (start + 0))) (map-filter-span-none f g start))))

chosen_same : (a b c d e f g h : List Bool) → a ≡ e → b ≡ f → c ≡ g → d ≡ h → chosen a b c d ≡ chosen e f g h
chosen_same a b c d e f g h p q r s = cc

abbrev each : (Bool → Bool) → Bool
each p = p true && p false

abbrev each_eight : (Bool → Bool → Bool → Bool → Bool → Bool → Bool → Bool → Bool) → Bool
each_eight t = each (λ p. each (λ q. each (λ r. each (λ s. each (λ a. each (λ b. each (λ c. each (λ d. t p q r s a b c d))))))))

of_each_eight : (t : Bool → Bool → Bool → Bool → Bool → Bool → Bool → Bool → Bool) → each_eight t ≡ true → (p q r s a b c d : Bool) → t p q r s a b c d ≡ true
of_each_eight t all p q r s a b c d =
    of_each (λ d. t p q r s a b c d) (
    of_each (λ c. each (λ d. t p q r s a b c d)) (
    of_each (λ b. each (λ c. each (λ d. t p q r s a b c d))) (
    of_each (λ a. each (λ b. each (λ c. each (λ d. t p q r s a b c d)))) (
    of_each (λ s. each (λ a. each (λ b. each (λ c. each (λ d. t p q r s a b c d))))) (
    of_each (λ r. each (λ s. each (λ a. each (λ b. each (λ c. each (λ d. t p q r s a b c d)))))) (
    of_each (λ q. each (λ r. each (λ s. each (λ a. each (λ b. each (λ c. each (λ d. t p q r s a b c d))))))) (
    of_each (λ p. each (λ q. each (λ r. each (λ s. each (λ a. each (λ b. each (λ c. each (λ d. t p q r s a b c d)))))))) all p) q) r) s) a) b) c) d

-- the word has the positions of both masks, and the bits of the second
abbrev is_word : Bool → Bool → Bool → Bool → Bool → Bool → Bool → Bool → Bool
is_word p q r s a b c d = entry TYPED (four p q r s) (four a b c d) % 256 == packed
    (chosen (due_there (p || a) a) (due_there (q || b) b) (due_there (r || c) c) (due_there (s || d) d))

all_words : each_eight is_word ≡ true
all_words = grind (arith, nat_tests, packed-is, value_of-is)

-- the signs are of the second mask's positions, and 1 if the first has none
abbrev are_signs : Bool → Bool → Bool → Bool → Bool → Bool → Bool → Bool → Bool
are_signs p q r s a b c d = entry TYPED (four p q r s) (four a b c d) / 256 == packed
    (chosen (due_there a (not p)) (due_there b (not q)) (due_there c (not r)) (due_there d (not s)))

all_signs : each_eight are_signs ≡ true
all_signs = grind (arith, nat_tests, packed-is, value_of-is)

-- ---- what is picked

abbrev plain_of : Bool → Bool → Bool → Bool
plain_of d f n = not ((d && f) && n) && d

one_due : (d f n : Bool) → due_there (plain_of d f n || (d && f)) (d && f) ≡ due_there d f
one_due d f n = grind (arith, nat_tests)

one_sign : (d f n : Bool) → due_there (d && f) (not (plain_of d f n)) ≡ due_there (d && f) n
one_sign d f n = grind (arith, nat_tests)

pub picked : (d f n : ℕ → Bool) (start i j : ℕ) (t : Typed) → t.pair ≡ entry TYPED i j →
    Shows i (λ p. not ((d p && f p) && n p) && d p) start 4 → Shows j (λ p. d p && f p) start 4 → ArePicked d f n start t
picked d f n start i j t is plain ones =
    let P = λ (k : ℕ). plain_of (d (start + k)) (f (start + k)) (n (start + k)) in
    let Q = λ (k : ℕ). d (start + k) && f (start + k) in
    let rows : i ≡ four (P 0) (P 1) (P 2) (P 3) = four_is i start (λ p. not ((d p && f p) && n p) && d p) plain in
    let columns : j ≡ four (Q 0) (Q 1) (Q 2) (Q 3) = four_is j start (λ p. d p && f p) ones in
    let there = is ∙ ap (λ r. entry TYPED r j) rows ∙ ap (entry TYPED (four (P 0) (P 1) (P 2) (P 3))) columns in
    let due = λ (k : ℕ). one_due (d (start + k)) (f (start + k)) (n (start + k)) in
    let sign = λ (k : ℕ). one_sign (d (start + k)) (f (start + k)) (n (start + k)) in
    record {
      word =
          ap (λ n. n % 256) there ∙
          eqb-true _ _ (of_each_eight is_word all_words (P 0) (P 1) (P 2) (P 3) (Q 0) (Q 1) (Q 2) (Q 3)) ∙
          ap packed (chosen_same _ _ _ _ _ _ _ _ (due 0) (due 1) (due 2) (due 3) ∙ sym (chosen_is f d start));
      signs =
          ap (λ n. n / 256) there ∙
          eqb-true _ _ (of_each_eight are_signs all_signs (P 0) (P 1) (P 2) (P 3) (Q 0) (Q 1) (Q 2) (Q 3)) ∙
          ap packed (chosen_same _ _ _ _ _ _ _ _ (sign 0) (sign 1) (sign 2) (sign 3) ∙ sym (chosen_is n (λ p. d p && f p) start));
    }

-- ---- positions of sets

abbrev pub filling : ℕ → ℕ
filling m = slice_index_or FILLED m 0

fills : list_all (λ m. list_all (λ k. (bit (filling m) k && bit m (k / 4)) || (not (bit (filling m) k) && not (bit m (k / 4)))) (span 0 16)) (span 0 16) ≡ true
fills = grind (arith, nat_tests, span-none, span-more)

fills_small : list_all (λ m. list_all (λ n. not (nat_lt m (2 ^ n)) || nat_lt (filling m) (2 ^ (4 * n))) (span 0 5)) (span 0 16) ≡ true
fills_small = grind (arith, nat_tests, span-none, span-more)

same_bit : (a b : Bool) → ((a && b) || (not a && not b)) ≡ true → a ≡ b
same_bit a b h = grind (arith, nat_tests, false≢true)

pub shows_filled : (m count start : ℕ) (f : ℕ → Bool) → m < 16 → count ≤ 4 → Shows m f 0 count → Shows (filling m) (λ p. f ((p - start) / 4)) start (4 * count)
shows_filled m count start f low few p = record {
  at = λ k below.
      let row = list_all-span-zero (λ m. list_all (λ k. (bit (filling m) k && bit m (k / 4)) || (not (bit (filling m) k) && not (bit m (k / 4))))
      (span 0 16)) 16 m fills low in
      let test = list_all-span-zero (λ k. (bit (filling m) k && bit m (k / 4)) || (not (bit (filling m) k) && not (bit m (k / 4)))) 16 k row (omega arith) in
      let there : 0 + k / 4 ≡ ((start + k) - start) / 4 = omega arith in
      same_bit (bit (filling m) k) (bit m (k / 4)) test ∙ p.at (k / 4) (omega arith) ∙ ap f there;
  small =
      let row = list_all-span-zero (λ m. list_all (λ n. not (nat_lt m (2 ^ n)) || nat_lt (filling m) (2 ^ (4 * n))) (span 0 5)) 16 m fills_small low in
      let test = list_all-span-zero (λ n. not (nat_lt m (2 ^ n)) || nat_lt (filling m) (2 ^ (4 * n))) 5 count row (omega arith) in
      ltb-true _ _ (or_from _ _ test (lt-ltb m (2 ^ count) p.small));
}

-- ---- sets of four positions that have some

abbrev pub somes : ℕ → ℕ
somes o = slice_index_or SOME o 0

abbrev some_of : (o from : ℕ) → Bool
some_of o from = (((false || bit o (from + 0)) || bit o (from + 1)) || bit o (from + 2)) || bit o (from + 3)

abbrev same : Bool → Bool → Bool
same a b = (a && b) || (not a && not b)

abbrev are_somes : ℕ → Bool
are_somes o = same (bit (somes o) 0) (some_of o 0) && (same (bit (somes o) 1) (some_of o 4) && nat_lt (somes o) 4)

all_somes : list_all are_somes (span 0 256) ≡ true
unfolding span
all_somes = refl

any_of_four : (f : ℕ → Bool) (s : ℕ) → list_any f (span s 4) ≡ ((((false || f (s + 0)) || f (s + 1)) || f (s + 2)) || f (s + 3))
any_of_four f s =
    list_any-span-suc f s 3 ∙ ap (λ b. b || f (s + 3)) (
    list_any-span-suc f s 2 ∙ ap (λ b. b || f (s + 2)) (
    list_any-span-suc f s 1 ∙ ap (λ b. b || f (s + 1)) (
    list_any-span-suc f s 0 ∙ ap (λ b. b || f (s + 0)) (list_any-span-none f s))))

some_test : (o : ℕ) → o < 256 → are_somes o ≡ true
some_test o low = list_all-span-zero are_somes 256 o all_somes low

pub somes_small : (o : ℕ) → o < 256 → somes o < 4
somes_small o low = ltb-true _ _ (and-right _ _ (and-right _ _ (some_test o low)))

module _ (o at : ℕ) (f : ℕ → Bool) (low : o < 256) (p : Shows o f at 8) where
  -- the set from a position of the octet on
  some_there : (from s : ℕ) → from ≤ 4 → s ≡ at + from → some_of o from ≡ list_any f (span s 4)
  some_there from s few is = grind (arith, nat_tests, any_of_four)

  pub shows_some : Shows (somes o) (λ j. list_any f (span (at + 4 * j) 4)) 0 2
  shows_some = record { at = each_set; small = somes_small o low }
    where
      each_set : (j : ℕ) → j < 2 → bit (somes o) j ≡ list_any f (span (at + 4 * (0 + j)) 4)
      each_set zero lt = same_bit (bit (somes o) 0) (some_of o 0) (and-left _ _ (some_test o low)) ∙ some_there 0 (at + 4 * (0 + zero)) (omega arith)
          (omega arith)
      each_set (suc zero) lt = same_bit (bit (somes o) 1) (some_of o 4) (and-left _ _ (and-right _ _ (some_test o low)))
          ∙ some_there 4 (at + 4 * (0 + suc zero)) (omega arith) (omega arith)
      each_set (suc (suc j)) lt = absurd (omega arith)

-- the sets after the first two
pub shows_later : (m at : ℕ) (f : ℕ → Bool) → Shows m (λ j. list_any f (span ((at + 8) + 4 * j) 4)) 0 2 →
    Shows m (λ j. list_any f (span (at + 4 * j) 4)) (0 + 2) 2
shows_later m at f p = record {
  at = λ k lt. let there : (at + 8) + 4 * (0 + k) ≡ at + 4 * ((0 + 2) + k) = omega arith in p.at k lt ∙ ap (λ s. list_any f (span s 4)) there;
  small = p.small;
}

-- ---- entries that are sent if a test holds

pub record IsTyped (b : Bool) (t : Typed) (entries : List Entry) : Type 0 where
  pub said : b ≡ true → entries_of t ≡ entries
  pub no_word : b ≡ false → word_in t ≡ 0
  pub no_signs : b ≡ false → signs_in t ≡ 0

same_choice : (f d e : ℕ → Bool) (start count : ℕ) → ((k : ℕ) → k < count → d (start + k) ≡ e (start + k)) → map f (filter d (span start count))
    ≡ map f (filter e (span start count))
same_choice f d e start zero same = map-filter-span-none f d start ∙ sym (map-filter-span-none f e start)
same_choice f d e start (suc count) same =
    let fewer = same_choice f d e start count (λ k h. same k (omega arith)) in
    let last : cond (d (start + count)) (f (start + count) ∷ []) [] ≡ cond (e (start + count)) (f (start + count) ∷ []) [] =
    ap (λ x. cond x (f (start + count) ∷ []) []) (same count (omega arith)) in
    let one : count + 1 ≡ suc count = omega arith in
    ap (λ n. map f (filter d (span start n))) (sym one) ∙ map-filter-span-suc f d start count ∙
    ap (λ l. l ++ cond (d (start + count)) (f (start + count) ∷ []) []) fewer ∙ ap (λ l. map f (filter e (span start count)) ++ l) last ∙
    sym (map-filter-span-suc f e start count) ∙ ap (λ n. map f (filter e (span start n))) one

nothing : (f : ℕ → Bool) (xs : List ℕ) → map f (filter (λ p. false) xs) ≡ []
nothing f [] = refl
nothing f (x ∷ xs) = nothing f xs

and_true : (a b : Bool) → b ≡ true → (a && b) ≡ a
and_true a b h = grind arith

and_false : (a b : Bool) → b ≡ false → (a && b) ≡ false
and_false a b h = grind arith

module _ (block : List ℤ) (weights : List ℕ) (plane : ℕ) (b : Bool) (due : ℕ → Bool) (start : ℕ) (t : Typed)
    (same : (k : ℕ) → k < 4 → due (start + k) ≡ (type_due block weights plane (start + k) && b))
    (p : ArePicked due (significant block plane) (λ q. negative (get_or block q (pos 0))) start t) where
  minus : ℕ → Bool
  minus q = negative (get_or block q (pos 0))

  pub is_typed : IsTyped b t (typed block weights plane (span start 4))
  unfolding newly_significant minus packed value_of
  is_typed = record {
    said = λ h.
        let here = λ (k : ℕ) (lt : k < 4). same k lt ∙ and_true (type_due block weights plane (start + k)) b h in
        typed_is block weights plane t start 4 (omega arith)
        (p.word ∙ ap packed (same_choice (significant block plane) due (type_due block weights plane) start 4 here))
        (p.signs ∙ ap packed (same_choice minus (λ q. due q && significant block plane q) (λ q. type_due block weights plane q && significant block plane q)
        start 4 (λ k lt. ap (λ x. x && significant block plane (start + k)) (here k lt))));
    no_word = λ h.
        let none = λ (k : ℕ) (lt : k < 4). same k lt ∙ and_false (type_due block weights plane (start + k)) b h in
        p.word ∙ ap packed (same_choice (significant block plane) due (λ q. false) start 4 none ∙ nothing (significant block plane) (span start 4)) ∙ empty;
    no_signs = λ h.
        let none = λ (k : ℕ) (lt : k < 4). same k lt ∙ and_false (type_due block weights plane (start + k)) b h in
        p.signs ∙ ap packed (same_choice minus (λ q. due q && significant block plane q) (λ q. false) start 4
        (λ k lt. ap (λ x. x && significant block plane (start + k)) (none k lt)) ∙ nothing minus (span start 4)) ∙ empty;
  }
    where
      empty : packed [] ≡ 0
      empty = refl

-- ---- the sets of a block

of_family : (i k : ℕ) → k < 4 → (((4 + 4 * i) + k) - 4) / 4 ≡ 0 + i
of_family i k low = omega arith

of_quad : (i j k : ℕ) → k < 4 → ((((16 + 16 * i) + 4 * j) + k) - (16 + 16 * i)) / 4 ≡ 0 + j
of_quad i j k low = omega arith

module _ (block : List ℤ) (weights : List ℕ) (plane : ℕ) where
  -- the children of family i
  pub children_typed : (i : ℕ) (t : Typed) →
      ArePicked (λ p. type_due block weights plane p && set_significant block plane (Family ((p - 4) / 4))) (significant block plane)
      (λ q. negative (get_or block q (pos 0))) (4 + 4 * i) t →
      IsTyped (set_significant block plane (Family (0 + i))) t (typed block weights plane (span (4 + 4 * i) 4))
  children_typed i t p =
      is_typed block weights plane (set_significant block plane (Family (0 + i))) _ (4 + 4 * i) t
      (λ k low. ap (λ n. type_due block weights plane ((4 + 4 * i) + k) && set_significant block plane (Family n)) (of_family i k low)) p

  -- the four grandchildren below child j of family i
  pub quads_typed : (i j : ℕ) (t : Typed) →
      ArePicked (λ p. type_due block weights plane p && set_significant block plane (Quad i ((p - (16 + 16 * i)) / 4))) (significant block plane)
      (λ q. negative (get_or block q (pos 0))) ((16 + 16 * i) + 4 * j) t →
      IsTyped (set_significant block plane (Quad i (0 + j))) t (typed block weights plane (span (16 + 16 * i + 4 * j) 4))
  quads_typed i j t p =
      is_typed block weights plane (set_significant block plane (Quad i (0 + j))) _ ((16 + 16 * i) + 4 * j) t
      (λ k low. ap (λ n. type_due block weights plane (((16 + 16 * i) + 4 * j) + k) && set_significant block plane (Quad i n)) (of_quad i j k low)) p

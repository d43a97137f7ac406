-- The bits that words take under each option.
use Rattle.std.proofs.Common.{◌≡◌, ◌≢◌, ℕ, zero, suc, ◌+◌, ◌*◌, ◌/◌, ◌%◌, ◌^◌, ◌<◌, ◌≤◌, ◌⊎◌, inl, inr, Bool, true, false, cond, List, [], ◌∷◌, ◌++◌}
use Rattle.std.proofs.Common.{length, map, refl, sym, ap, ◌∙◌, subst, arith, get_or, count_by, ◌==◌, ◌&&◌, if◌then◌else◌, zero-add, pow_mono}
use Rattle.std.specs.List.{flat_map, sum_by}
use Rattle.std.proofs.lemmas.List.Sums.{sum_by-append, sum_by-cons}
use Rattle.std.proofs.lemmas.Bool.Decides.{nat_tests}
use Rattle.item_defs.specs.Bits.{bits_of}
use Rattle.item_defs.specs.Items.{item_bits, plain, code}
use Rattle.item_defs.proofs.NumberBits.{length-bits_of}
use Rattle.base_122.specs.declared.book.Book.{Book}
use Rattle.base_122.specs.declared.book.Code.{Code}
use Rattle.plane_defs.specs.declared.entries.Entry.{Entry}
use Rattle.plane_defs.specs.declared.entries.Entry.TheVariants.{Bit}
use Rattle.plane_defs.specs.Codes.{symbol, uncoded, code_at, codes_of, word_item}
use Rattle.plane_defs.specs.Spans.{span}
use Rattle.plane_defs.specs.Choice.{has_symbol, code_length, cost, symbol_counts}
use Rattle.plane_defs.proofs.SpanLists.{flat_map-span-suc, flat_map-span-none, get_or-map-span}
use Rattle.plane_defs.proofs.Counting.{sum_none, sum_suc, sum_same}
use Rattle.plane_defs.proofs.ReadOnce.{code_there, below_or_at}
use Rattle.plane_defs.proofs.SymbolTables.{symbol-below}
use Rattle.plane_coder.specs.declared.costs.Costs.{Costs}
use Rattle.plane_coder.proofs.Appending.{no_less}
use Rattle.plane_coder.specs.Coding.{IsCodeOf, IsWordOf, AreCodes, code_in, row_of}
use Rattle.plane_coder.specs.Costs.{bits_under, short_bits, long_bits, TakeAtMost, Adds, IsRoomy, AreCosts, AreWordCosts}
use Rattle.plane_coder.specs.Picked.{word_of, IsPacked}

pub count_by-append : (p : Entry → Bool) (xs ys : List Entry) → count_by p (xs ++ ys) ≡ count_by p xs + count_by p ys
count_by-append p xs ys = sum_by-append (λ x. cond (p x) 1 0) xs ys

-- ---- sums over spans

sum_added : (f g : ℕ → ℕ) (n : ℕ) → sum_by (λ s. f s + g s) (span 0 n) ≡ sum_by f (span 0 n) + sum_by g (span 0 n)
sum_added f g zero = omega (arith, sum_none (λ s. f s + g s), sum_none f, sum_none g)
sum_added f g (suc n) = omega (arith, sum_suc (λ s. f s + g s) n, sum_suc f n, sum_suc g n, sum_added f g n)

sum_nothing : (f : ℕ → ℕ) (n : ℕ) → ((k : ℕ) → k < n → f k ≡ 0) → sum_by f (span 0 n) ≡ 0
sum_nothing f zero none = sum_none f
sum_nothing f (suc n) none =
    let rest = sum_nothing f n (λ k lt. none k (omega (arith, lt))) in
    let here = none n (omega arith) in
    omega (arith, sum_suc f n, rest, here)

-- all places but one have nothing
sum_at : (f : ℕ → ℕ) (n k : ℕ) → k < n → ((j : ℕ) → j < n → j ≢ k → f j ≡ 0) → sum_by f (span 0 n) ≡ f k
sum_at f zero k lt others = absurd (omega arith)
sum_at f (suc n) k lt others = elim (below_or_at k n lt) [
  | inl below ↦
      let rest = sum_at f n k below (λ j l ne. others j (omega (arith, l)) ne) in
      let here : f n ≡ 0 = others n (omega arith) (λ e. omega (arith, e, below)) in
      omega (arith, sum_suc f n, rest, here)
  | inr e ↦
      let rest = sum_nothing f n (λ j l. others j (omega (arith, l)) (λ same. omega (arith, same, e, l))) in
      sum_suc f n ∙ ap (λ m. m + f n) rest ∙ zero-add (f n) ∙ ap f (sym e)
]

-- ---- the bits of words as a sum over symbols

module _ (book : Book) (n option : ℕ) (low : 2 ≤ n) (high : n ≤ 4) where
  abbrev bits_for : List Entry → ℕ → ℕ
  bits_for xs s = count_by (has_symbol n s) xs * code_length book n option s

  in_table : (k : ℕ) → k < 2 ^ n → k < 16
  in_table k lt = grind (arith, nat_tests, pow_mono)

  under_is : (xs : List Entry) → bits_under book n option xs ≡ sum_by (bits_for xs) (span 0 (2 ^ n))
  unfolding cost
  under_is xs = sum_same (λ s. get_or (symbol_counts n xs) s 0 * code_length book n option s) (bits_for xs) (2 ^ n)
      (λ k lt. ap (λ c. c * code_length book n option k) (get_or-map-span (λ s. count_by (has_symbol n s) xs) 16 k 0 (in_table k lt)))

  times_both : (a b c m : ℕ) → a ≡ b + c → a * m ≡ b * m + c * m
  times_both a b c m e = grind arith

  pub under_append : (xs ys : List Entry) → bits_under book n option (xs ++ ys) ≡ bits_under book n option xs + bits_under book n option ys
  under_append xs ys =
      let each = sum_same (bits_for (xs ++ ys)) (λ s. bits_for xs s + bits_for ys s) (2 ^ n)
      (λ k lt. times_both _ _ _ (code_length book n option k) (count_by-append (has_symbol n k) xs ys)) in
      omega (arith, under_is (xs ++ ys), under_is xs, under_is ys, each, sum_added (bits_for xs) (bits_for ys) (2 ^ n))

  pub under_none : bits_under book n option [] ≡ 0
  under_none = under_is [] ∙ sum_nothing (bits_for []) (2 ^ n) (λ k lt. omega arith)

  zero_times : (m : ℕ) → 0 * m ≡ 0
  zero_times m = omega arith

  no_times : (a m : ℕ) → a ≡ 0 → a * m ≡ 0
  no_times a m e = ap (λ c. c * m) e ∙ zero_times m

  -- raw bits are no words
  raws_count : (s : ℕ) (bits : List Bool) → count_by (has_symbol n s) (map Bit bits) ≡ 0
  raws_count s [] = refl
  raws_count s (b ∷ bits) = raws_count s bits

  pub under_raws : (bits : List Bool) → bits_under book n option (map Bit bits) ≡ 0
  under_raws bits =
      under_is (map Bit bits) ∙ sum_nothing (bits_for (map Bit bits)) (2 ^ n) (λ k lt. no_times _ (code_length book n option k) (raws_count k bits))

  count_one : (s : ℕ) (x : Entry) → count_by (has_symbol n s) (x ∷ []) ≡ cond (has_symbol n s x) 1 0
  count_one s x = omega (arith, sum_by-cons (λ y. cond (has_symbol n s y) 1 0) x [])

  not_here : (s word : ℕ) → (word / 16 == n && symbol n (word % 16) == s) ≡ false → bits_for (word_of word ∷ []) s ≡ 0
  not_here s word other = no_times _ (code_length book n option s) (count_one s (word_of word) ∙ ap (λ b. cond b 1 0) other)

  once : (m : ℕ) → 1 * m ≡ m
  once m = omega arith

  is_here : (s word : ℕ) → (word / 16 == n && symbol n (word % 16) == s) ≡ true → bits_for (word_of word ∷ []) s ≡ code_length book n option s
  is_here s word so = ap (λ c. c * code_length book n option s) (count_one s (word_of word) ∙ ap (λ b. cond b 1 0) so) ∙ once (code_length book n option s)

  -- a word of another length takes none
  pub under_other : (word : ℕ) → word / 16 ≢ n → bits_under book n option (word_of word ∷ []) ≡ 0
  under_other word other = under_is (word_of word ∷ []) ∙ sum_nothing (bits_for (word_of word ∷ [])) (2 ^ n) (λ k lt. not_here k word (no k))
    where
      no : (k : ℕ) → (word / 16 == n && symbol n (word % 16) == k) ≡ false
      no k = grind (arith, nat_tests, other)

  -- a word of this length takes the bits of its symbol's code
  under_word : (word : ℕ) → word / 16 ≡ n → word % 16 < 2 ^ n → bits_under book n option (word_of word ∷ []) ≡ code_length book n option (symbol n (word % 16))
  under_word word long fits =
      let s = symbol n (word % 16) in
      under_is (word_of word ∷ []) ∙ sum_at (bits_for (word_of word ∷ [])) (2 ^ n) s (symbol-below n (word % 16) low high fits)
      (λ j lt ne. not_here j word (no j ne))
      ∙ is_here s word yes
    where
      no : (j : ℕ) → j ≢ symbol n (word % 16) → (word / 16 == n && symbol n (word % 16) == j) ≡ false
      no j ne = grind (arith, nat_tests, ne)

      yes : (word / 16 == n && symbol n (word % 16) == symbol n (word % 16)) ≡ true
      yes = grind (arith, nat_tests, long)

  item_length : (v : ℕ) → v < 2 ^ n → length (item_bits (word_item book n option v)) ≡ code_length book n option (symbol n v)
  item_length v fits = one (option == uncoded n)
    where
      one : (b : Bool) → length (item_bits (if b then plain n v else code (codes_of book n option) (symbol n v))) ≡
          (if b then n else (code_at book n option (symbol n v)).len)
      one true = length-bits_of n v
      one false =
          let c = code_at book n option (symbol n v) in
          ap length (code_there book n option (symbol n v) (symbol-below n v low high fits)) ∙ length-bits_of c.len c.bits

  code_is_long : (v : ℕ) (c : Code) → v < 2 ^ n → IsCodeOf book n option v c → c.len ≡ code_length book n option (symbol n v)
  code_is_long v c fits is = sym (length-bits_of c.len c.bits) ∙ ap length is.bits
      ∙ ap (λ b. length (if b then bits_of n v else item_bits (word_item book n option v))) (no_less n low) ∙ item_length v fits

  -- the bits of a word, from the rows
  pub under_row : (rows : List (List Code)) (word : ℕ) → AreCodes book rows → IsPacked word → option < n → word / 16 ≡ n →
      bits_under book n option (word_of word ∷ []) ≡ (code_in rows (row_of n option) (word % 16)).len
  under_row rows word codes packed known long =
      let fits : word % 16 < 2 ^ n = subst (λ m. word % 16 < 2 ^ m) long packed.value in
      under_word word long fits ∙ sym (code_is_long (word % 16) (code_in rows (row_of n option) (word % 16)) fits
      (codes n option (word % 16) (is_word (word % 16) fits)))
    where
      is_word : (v : ℕ) → v < 2 ^ n → IsWordOf n option v
      is_word v fits = record { long = high; known = λ is. known; short = λ short. absurd (omega (arith, short, low)); fits = fits }

  pub few_under : (rows : List (List Code)) (word : ℕ) → AreCodes book rows → IsPacked word → option < n → bits_under book n option (word_of word ∷ []) ≤ 8
  few_under rows word codes packed known = elim (same_or_not (word / 16) n) [
    | inl long ↦ at_most (under_row rows word codes packed known long)
        (codes n option (word % 16) (is_word (subst (λ m. word % 16 < 2 ^ m) long packed.value))).few
    | inr other ↦ omega (arith, under_other word other)
  ]
    where
      same_or_not : (i j : ℕ) → (i ≡ j) ⊎ (i ≢ j)
      same_or_not i j = grind arith

      at_most : {a b : ℕ} → a ≡ b → b ≤ 8 → a ≤ 8
      at_most e le = omega (arith, e, le)

      is_word : word % 16 < 2 ^ n → IsWordOf n option (word % 16)
      is_word fits = record { long = high; known = λ is. known; short = λ short. absurd (omega (arith, short, low)); fits = fits }

-- ---- both sums

module _ (book : Book) where
  two : 2 ≤ 2
  two = omega arith

  two_four : 2 ≤ 4
  two_four = omega arith

  three : 2 ≤ 3
  three = omega arith

  three_four : 3 ≤ 4
  three_four = omega arith

  four : 4 ≤ 4
  four = omega arith

  pub short_append : (xs ys : List Entry) → short_bits book (xs ++ ys) ≡ short_bits book xs + short_bits book ys
  short_append xs ys = omega (
    arith,
    under_append book 2 0 two two_four xs ys,
    under_append book 2 1 two two_four xs ys,
    under_append book 3 0 three three_four xs ys,
    under_append book 3 1 three three_four xs ys,
    under_append book 3 2 three three_four xs ys,
  )

  pub long_append : (xs ys : List Entry) → long_bits book (xs ++ ys) ≡ long_bits book xs + long_bits book ys
  long_append xs ys = omega (
    arith,
    under_append book 4 0 two_four four xs ys,
    under_append book 4 1 two_four four xs ys,
    under_append book 4 2 two_four four xs ys,
    under_append book 4 3 two_four four xs ys,
  )

  pub adds_none : (c : Costs) → Adds book c c [] 0
  adds_none c = record {
    short = omega (
      arith,
      under_none book 2 0 two two_four,
      under_none book 2 1 two two_four,
      under_none book 3 0 three three_four,
      under_none book 3 1 three three_four,
      under_none book 3 2 three three_four,
    );
    long = omega (
      arith,
      under_none book 4 0 two_four four,
      under_none book 4 1 two_four four,
      under_none book 4 2 two_four four,
      under_none book 4 3 two_four four,
    );
    few = record { each = λ k option low high known. omega (arith, under_none book k option low high) };
  }

  pub adds_both : {a b c : Costs} {xs ys : List Entry} (m n : ℕ) → Adds book a b xs m → Adds book b c ys n → Adds book a c (xs ++ ys) (m + n)
  adds_both {xs = xs} {ys = ys} m n p q = record {
    short = omega (arith, p.short, q.short, short_append xs ys);
    long = omega (arith, p.long, q.long, long_append xs ys);
    few = record {
      each = λ k option low high known.
          omega (arith, under_append book k option low high xs ys, p.few.each k option low high known, q.few.each k option low high known);
    };
  }

  pub adds_start : (c : Costs) (f : ℕ → List Entry) (start : ℕ) → Adds book c c (flat_map f (span start 0)) 0
  adds_start c f start = subst (λ l. Adds book c c l 0) (sym (flat_map-span-none f start)) (adds_none c)

  pub adds_more : {a b c : Costs} (f : ℕ → List Entry) (start n : ℕ) → Adds book a b (flat_map f (span start n)) n → Adds book b c (f (start + n)) 1 →
      Adds book a c (flat_map f (span start (n + 1))) (n + 1)
  adds_more {a} {b} {c} f start n p q = subst (λ l. Adds book a c l (n + 1)) (sym (flat_map-span-suc f start n)) (adds_both n 1 p q)

  -- raw bits add nothing
  pub adds_raws : {a b : Costs} {xs : List Entry} {words : ℕ} (bits : List Bool) → Adds book a b xs words → Adds book a b (xs ++ map Bit bits) words
  adds_raws {xs = xs} bits p = record {
    short = omega (
      arith,
      p.short,
      short_append xs (map Bit bits),
      under_raws book 2 0 two two_four bits,
      under_raws book 2 1 two two_four bits,
      under_raws book 3 0 three three_four bits,
      under_raws book 3 1 three three_four bits,
      under_raws book 3 2 three three_four bits,
    );
    long = omega (
      arith,
      p.long,
      long_append xs (map Bit bits),
      under_raws book 4 0 two_four four bits,
      under_raws book 4 1 two_four four bits,
      under_raws book 4 2 two_four four bits,
      under_raws book 4 3 two_four four bits,
    );
    few = record {
      each = λ k option low high known.
          omega (arith, under_append book k option low high xs (map Bit bits), under_raws book k option low high bits, p.few.each k option low high known);
    };
  }

  -- a word, by the tables
  pub adds_word : (rows : List (List Code)) (short long : List ℕ) (a b : Costs) (word : ℕ) → AreCodes book rows → AreWordCosts book short long →
      IsPacked word → b.short ≡ a.short + get_or short word 0 → b.long ≡ a.long + get_or long word 0 → Adds book a b (word_of word ∷ []) 1
  adds_word rows short long a b word codes costs packed put_short put_long =
      record {
        short = omega (arith, costs.short word packed, put_short);
        long = omega (arith, costs.long word packed, put_long);
        few = record { each = λ k option low high known. few_under book k option low high rows word codes packed known };
      }

  short_limit : (xs : List Entry) (most : ℕ) → TakeAtMost book xs most → short_bits book xs ≤ 562949953421312 * most
  short_limit xs most few = omega (
    arith,
    few.each 2 0 two two_four (omega arith),
    few.each 2 1 two two_four (omega arith),
    few.each 3 0 three three_four (omega arith),
    few.each 3 1 three three_four (omega arith),
    few.each 3 2 three three_four (omega arith),
  )

  long_limit : (xs : List Entry) (most : ℕ) → TakeAtMost book xs most → long_bits book xs ≤ 562949953421312 * most
  long_limit xs most few = omega (
    arith,
    few.each 4 0 two_four four (omega arith),
    few.each 4 1 two_four four (omega arith),
    few.each 4 2 two_four four (omega arith),
    few.each 4 3 two_four four (omega arith),
  )

  -- a sum with the bits of some words more
  pub roomy_later : {a b : Costs} {xs : List Entry} (words m n : ℕ) → Adds book a b xs words → IsRoomy a m → m + 4503599627370496 * words ≤ n → IsRoomy b n
  roomy_later {xs = xs} words m n p room le = record {
    short = omega (arith, p.short, room.short, short_limit xs (8 * words) p.few, le);
    long = omega (arith, p.long, room.long, long_limit xs (8 * words) p.few, le);
  }

  -- the bits of one word
  pub word_room : (rows : List (List Code)) (short long : List ℕ) (word : ℕ) → AreCodes book rows → AreWordCosts book short long → IsPacked word →
      (get_or short word 0 ≤ 4503599627370496) × (get_or long word 0 ≤ 4503599627370496)
  word_room rows short long word codes costs packed =
      let few : TakeAtMost book (word_of word ∷ []) 8 = record {
        each = λ k option low high known. few_under book k option low high rows word codes packed
            known;
      } in (
        omega (arith, costs.short word packed, short_limit (word_of word ∷ []) 8 few),
        omega (arith, costs.long word packed, long_limit (word_of word ∷ []) 8 few),
      )

  pub costs_of_all : {a b : Costs} {xs : List Entry} (words : ℕ) → a.short ≡ 0 → a.long ≡ 0 → words ≤ 352 → Adds book a b xs words → AreCosts book b xs
  costs_of_all {xs = xs} words s l few p = record {
    short = p.short ∙ ap (λ n. n + short_bits book xs) s ∙ zero-add (short_bits book xs);
    long = p.long ∙ ap (λ n. n + long_bits book xs) l ∙ zero-add (long_bits book xs);
    few = record { each = λ k option low high known. omega (arith, p.few.each k option low high known, few) };
  }

-- ---- the tables

module _ (book : Book) (rows : List (List Code)) (word : ℕ) (codes : AreCodes book rows) (packed : IsPacked word) where
  abbrev pub len : (n option : ℕ) → ℕ
  len n option = (code_in rows (row_of n option) (word % 16)).len

  at : (n option : ℕ) → 2 ≤ n → n ≤ 4 → option < n → word / 16 ≡ n → bits_under book n option (word_of word ∷ []) ≡ len n option
  at n option low high known long = under_row book n option low high rows word codes packed known long

  none : (n option : ℕ) → 2 ≤ n → n ≤ 4 → word / 16 ≢ n → bits_under book n option (word_of word ∷ []) ≡ 0
  none n option low high other = under_other book n option low high word other

  pub short_of_two : word / 16 ≡ 2 → len 2 0 + 4096 * len 2 1 ≡ short_bits book (word_of word ∷ [])
  short_of_two is =
      let other : word / 16 ≢ 3 = λ e. omega (arith, e, is) in
      omega (
        arith,
        at 2 0 (omega arith) (omega arith) (omega arith) is,
        at 2 1 (omega arith) (omega arith) (omega arith) is,
        none 3 0 (omega arith) (omega arith) other,
        none 3 1 (omega arith) (omega arith) other,
        none 3 2 (omega arith) (omega arith) other,
      )

  pub short_of_three : word / 16 ≡ 3 → 16777216 * len 3 0 + 68719476736 * len 3 1 + 281474976710656 * len 3 2 ≡ short_bits book (word_of word ∷ [])
  short_of_three is =
      let other : word / 16 ≢ 2 = λ e. omega (arith, e, is) in
      omega (
        arith,
        none 2 0 (omega arith) (omega arith) other,
        none 2 1 (omega arith) (omega arith) other,
        at 3 0 (omega arith) (omega arith) (omega arith) is,
        at 3 1 (omega arith) (omega arith) (omega arith) is,
        at 3 2 (omega arith) (omega arith) (omega arith) is,
      )

  pub short_of_others : word / 16 ≢ 2 → word / 16 ≢ 3 → 0 ≡ short_bits book (word_of word ∷ [])
  short_of_others two three = omega (
    arith,
    none 2 0 (omega arith) (omega arith) two,
    none 2 1 (omega arith) (omega arith) two,
    none 3 0 (omega arith) (omega arith) three,
    none 3 1 (omega arith) (omega arith) three,
    none 3 2 (omega arith) (omega arith) three,
  )

  pub long_of_four : word / 16 ≡ 4 → len 4 0 + 4096 * len 4 1 + 16777216 * len 4 2 + 68719476736 * len 4 3 ≡ long_bits book (word_of word ∷ [])
  long_of_four is = omega (
    arith,
    at 4 0 (omega arith) (omega arith) (omega arith) is,
    at 4 1 (omega arith) (omega arith) (omega arith) is,
    at 4 2 (omega arith) (omega arith) (omega arith) is,
    at 4 3 (omega arith) (omega arith) (omega arith) is,
  )

  pub long_of_others : word / 16 ≢ 4 → 0 ≡ long_bits book (word_of word ∷ [])
  long_of_others other = omega (
    arith,
    none 4 0 (omega arith) (omega arith) other,
    none 4 1 (omega arith) (omega arith) other,
    none 4 2 (omega arith) (omega arith) other,
    none 4 3 (omega arith) (omega arith) other,
  )

-- How many bits the planes of a segment have at most.
use Rattle.std.proofs.Common.{◌≡◌, ℕ, zero, suc, ◌+◌, ◌-◌, ◌*◌, ◌/◌, ◌^◌, ◌<◌, ◌≤◌, ◌==◌, ◌&&◌, ◌||◌, not, nat_lt, Bool, true, false, if◌then◌else◌, List}
use Rattle.std.proofs.Common.{[], ◌∷◌, ◌++◌, length, map, filter, refl, sym, ap, ◌∙◌, subst, arith, ℤ, inl, inr, Option, Some, None, append_assoc}
use Rattle.std.proofs.Common.{length-append, length-take-le, take-append-drop, pow_mono}
use Rattle.std.specs.Prelude.{take, drop}
use Rattle.std.proofs.lemmas.Bool.{cases_lt}
use Rattle.std.proofs.lemmas.Bool.Decides.{nat_tests}
use lib.ListN.{get_or}
use Rattle.item_defs.specs.Bits.{bits_of, value_of}
use Rattle.item_defs.specs.Items.{coded, plain, code, bad_option, spelling}
use Rattle.item_defs.specs.Readings.{Lacks}
use Rattle.item_defs.proofs.NumberBits.{length-bits_of, value_below, bits_of-value_of}
use Rattle.base_122.specs.declared.book.Book.{Book}
use Rattle.plane_defs.specs.declared.sets.Set.TheVariants.{Descendants, Family, Grandchildren, Quad}
use Rattle.plane_defs.specs.Spans.{span}
use Rattle.plane_defs.specs.Codes.{is_book_sound, is_prefix, code_bits, table, table_place, code_at, codes_of, symbol, uncoded, identifier_width, names_option}
use Rattle.plane_defs.specs.Sets.{coded as can_have, live, type_due, refined, quad_of}
use Rattle.plane_defs.specs.Steps.{Check, some_one_where, ones_at}
use Rattle.plane_defs.proofs.ReadOnce.{begins, words}
use Rattle.plane_defs.proofs.SpanLists.{length-map-span, get_or-map-span}
use Rattle.plane_defs.proofs.Tables.{sound_table, code_len}
use Rattle.item_defs.specs.Scripts.{done, in_turn, around}
use Rattle.item_defs.proofs.FirstNumbers.{Begins, first_lacks, first_spelt}
use Rattle.plane_defs.specs.States.{State, with_bits, with_minus, with_families, and_one}
use Rattle.plane_defs.specs.WordScripts.{option_named, option_script, option_of, coded_script, word_script, ones, due_script, signs_script, types_script}
use Rattle.plane_defs.specs.WordScripts.{group_script}
use Rattle.plane_defs.specs.StageScripts.{Terms, above, is_due, bit_script, dc_bit_script, parents_script, flag_script, descendants_script, children_script}
use Rattle.plane_defs.specs.StageScripts.{is_childless, quads_script, grandchildren_script, refinement_script, stage_script}
use Rattle.plane_defs.specs.PlaneScript.{PlaneState, nothing_yet, of_block, with_block, blocks_script, plane_script, blocks_with, planes_script}
use Rattle.plane_defs.proofs.WordGoes.{HasOptions, Options, named_below, due_few, four_long}
use Rattle.segment_code.proofs.BoundedScripts.{IsShort, short_fixed, Within, within_more, within_then, within_in_turn, within_around}
use Rattle.segment_code.proofs.BoundedNumbers.{Any}

-- ---- codes

past_prefix : (xs bits : List Bool) → is_prefix xs bits ≡ true → (more : List Bool) × (bits ≡ xs ++ more)
past_prefix [] bits e = (bits, refl)
past_prefix (x ∷ xs) [] e = absurd cc
past_prefix (true ∷ xs) (true ∷ bits) e = let r = past_prefix xs bits e in (r.0, ap (λ l. true ∷ l) r.1)
past_prefix (true ∷ xs) (false ∷ bits) e = absurd cc
past_prefix (false ∷ xs) (true ∷ bits) e = absurd cc
past_prefix (false ∷ xs) (false ∷ bits) e = let r = past_prefix xs bits e in (r.0, ap (λ l. false ∷ l) r.1)

module _ (book : Book) (sound : is_book_sound book ≡ true) (n option : ℕ) (low : 2 ≤ n) (high : n ≤ 4) (known : option + 1 < n) where
  code_there : (s : ℕ) → s < 2 ^ n → get_or (codes_of book n option) s [] ≡ code_bits (code_at book n option s)
  code_there s lt = get_or-map-span (λ s. code_bits (code_at book n option s)) (2 ^ n) s [] lt

  -- any eight bits begin with some code
  few_lacking : (bits : List Bool) → Lacks (coded (codes_of book n option)) bits → length bits < 8
  few_lacking bits lacks = elim (cases_lt (length bits) 8) [
    | inl lt ↦ lt
    | inr enough ↦
        let first : List Bool = take 8 bits in
        let long : length first ≡ 8 = length-take-le 8 bits enough in
        let small : value_of first < 2 ^ 8 = subst (λ n. value_of first < 2 ^ n) long (value_below first) in
        let same : bits_of 8 (value_of first) ≡ first = ap (λ n. bits_of n (value_of first)) (sym long) ∙ bits_of-value_of first in
        let c = begins (table book (table_place n option)) (2 ^ n) (value_of first) (sound_table book n option sound low high known) (omega (arith, small)) in
        let split = past_prefix (code_bits (code_at book n option c.0)) first (ap (is_prefix (code_bits (code_at book n option c.0))) (sym same) ∙ c.2) in
        let whole : bits ≡ code_bits (code_at book n option c.0) ++ (split.0 ++ drop 8 bits) =
        sym (take-append-drop 8 bits) ∙ ap (λ l. l ++ drop 8 bits) split.1 ∙ append_assoc (code_bits (code_at book n option c.0)) split.0 (drop 8 bits) in
        absurd (lacks c.0 (split.0 ++ drop 8 bits) (omega (arith, c.1, length-map-span (λ s. code_bits (code_at book n option s)) (2 ^ n)))
        (whole ∙ ap (λ l. l ++ (split.0 ++ drop 8 bits)) (sym (code_there c.0 c.1))))
  ]

  short_coded : IsShort (coded (codes_of book n option)) 8
  short_coded = record {
    none = λ bits e. few_lacking bits (first_lacks (coded (codes_of book n option)) bits (words book n option sound low high known) e);
    some = λ bits p e. few bits p (first_spelt (coded (codes_of book n option)) bits p.1 p.0 e);
  }
    where
      few : (bits : List Bool) (p : ℕ × List Bool) → Begins (coded (codes_of book n option)) bits p.0 p.1 → length bits ≤ length p.1 + 8
      few bits p b =
          let lt : p.0 < 2 ^ n = omega (arith, b.0, length-map-span (λ s. code_bits (code_at book n option s)) (2 ^ n)) in
          let long : length (spelling (coded (codes_of book n option)) p.0) ≡ (code_at book n option p.0).len =
          ap length (code_there p.0 lt) ∙ length-bits_of (code_at book n option p.0).len (code_at book n option p.0).bits in
          let most = code_len book n option p.0 sound low high known lt in
          omega (arith, ap length b.1, length-append (spelling (coded (codes_of book n option)) p.0) p.1, long, most)

-- ---- words

named_fits : (t : Bool) → (if not t then Some bad_option else None) ≡ None → t ≡ true
named_fits true e = refl
named_fits false e = absurd cc

-- the option of a length is known
record Known (count : ℕ) (t : State) : Type 0 where
  has : HasOptions t.options
  option : ℕ
  is : t.options count ≡ Some option

module _ (count : ℕ) (low : 2 ≤ count) (high : count ≤ 4) where
  few_identifier : identifier_width count ≤ 2
  few_identifier = by (nat_lt count 3)
    where
      by : (t : Bool) → (if t then 1 else 2) ≤ 2
      by true = omega arith
      by false = omega arith

  option_within : (s : State) → HasOptions s.options → (o : Option ℕ) → s.options count ≡ o → Within (option_script count s o) (Known count) 2
  option_within s h (Some option) e = record { has = h; option = option; is = e }
  option_within s h None e = (
    identifier_width count,
    few_identifier,
    short_fixed (identifier_width count) (identifier_width count) (omega arith),
    λ number said good.
        let names : names_option count number ≡ true = named_fits (names_option count number) good in
        let below : number < 4 = (let q : 2 ^ identifier_width count ≤ 2 ^ 2 = pow_mono few_identifier in omega (arith, said, q)) in
        let lt : option_named count number < count = less (named_below count low high number below names) in
        record {
          has = λ n option is. by number n option (n == count) refl is lt;
          option = option_named count number;
          is = ap (λ (x : Bool). if x then Some (option_named count number) else s.options count) self;
        },
  )
    where
      less : {a b : ℕ} → nat_lt a b ≡ true → a < b
      less e = grind (arith, nat_tests)

      self : (count == count) ≡ true
      self = grind (arith, nat_tests)

      some_is : {a b : ℕ} → Some a ≡ Some b → a ≡ b
      some_is e = cc

      by : (number n option : ℕ) (t : Bool) → (n == count) ≡ t → (if t then Some (option_named count number) else s.options n) ≡ Some option →
          option_named count number < count → option < n
      by number n option true e is lt =
          let same : n ≡ count = grind (arith, nat_tests) in
          let o : option_named count number ≡ option = some_is is in
          omega (arith, same, o, lt)
      by number n option false e is lt = h n option is

  coded_within : (book : Book) → is_book_sound book ≡ true → (check : Check) (t : State) → Known count t →
      Within (coded_script book count check t) (λ (r : State × ℕ). HasOptions r.0.options) 8
  coded_within book is_sound check t k = (8, omega arith, short (option_of (t.options count) == uncoded count) refl, λ n said good. k.has)
    where
      short : (u : Bool) → (option_of (t.options count) == uncoded count) ≡ u →
          IsShort (if u then plain count 0 else code (codes_of book count (option_of (t.options count))) (symbol count 0)).form.shape 8
      short true e = short_fixed count 8 (omega (arith, high))
      short false e =
          let same : option_of (t.options count) ≡ k.option = ap option_of k.is in
          let fits : k.option < count = k.has count k.option k.is in
          let ne : option_of (t.options count) ≡ uncoded count → ⊥ = grind (arith, nat_tests) in
          short_coded book is_sound count (option_of (t.options count)) low high (omega (arith, same, fits, ne))

abbrev WordEnd : State × ℕ → Type 0
WordEnd r = HasOptions r.0.options

word_within : (book : Book) → is_book_sound book ≡ true → (count : ℕ) (check : Check) → count ≤ 4 → (s : State) → HasOptions s.options →
    Within (word_script book count check s) WordEnd 10
word_within book is_sound count check high s h = elim (cases_lt 1 count) [
  | inl more ↦
      let z : (count == 0) ≡ false = grind (arith, nat_tests) in
      let o : (count == 1) ≡ false = grind (arith, nat_tests) in
      rw (z, o) (within_then (Known count) WordEnd (option_script count s (s.options count)) (coded_script book count check) 2 8
      (option_within count more high s h (s.options count) refl) (λ t k. coded_within count more high book is_sound check t k))
  | inr less ↦ elim (cases_lt 0 count) [
    | inl some ↦
        let e : count ≡ 1 = omega (arith, less, some) in
        subst (λ n. Within (word_script book n check s) WordEnd 10) (sym e) (1, omega arith, short_fixed 1 1 (omega arith), λ n said good. h)
    | inr most ↦ let e : count ≡ 0 = omega (arith, most) in subst (λ n. Within (word_script book n check s) WordEnd 10) (sym e) h
  ]
]

abbrev DueEnd : State × (ℕ → Bool) → Type 0
DueEnd r = HasOptions r.0.options

module _ (book : Book) (is_sound : is_book_sound book ≡ true) where
  due_within : (due : ℕ → Bool) (check : Check) (places : List ℕ) → length places ≤ 4 → (s : State) → Options s →
      Within (due_script book due check places s) DueEnd 10
  due_within due check places few s h =
      let count = length (filter due places) in
      within_then WordEnd DueEnd (word_script book count check s) (λ w. done (w.0, ones (filter due places) (bits_of count w.1))) 10 0
      (word_within book is_sound count check (let le = due_few due places in omega (arith, le, few)) s h) (λ r p. p)

  signs_within : (ps : List ℕ) (s : State) → Options s → Within (signs_script ps s) Options (length ps)
  signs_within [] s h = h
  signs_within (p ∷ ps) s h = (
    1,
    omega arith,
    short_fixed 1 1 (omega arith),
    λ n said good. within_more Options (signs_script ps (with_minus s (and_one s.minus p (n == 1))))
        (length ps) (suc (length ps) - 1) (omega arith) (signs_within ps (with_minus s (and_one s.minus p (n == 1))) h),
  )

  types_within : (due : ℕ → Bool) (wanted : Bool) (positions : List ℕ) → length positions ≤ 4 → (s : State) → Options s →
      Within (types_script book due wanted positions s) Options 14
  types_within due wanted positions few s h =
      within_then DueEnd Options (due_script book due (some_one_where wanted) positions s) (λ r. signs_script (filter r.1 positions) (with_bits r.0 r.1)) 10 4
      (due_within due (some_one_where wanted) positions few s h)
      (λ r p. within_more Options (signs_script (filter r.1 positions) (with_bits r.0 r.1)) (length (filter r.1 positions)) 4
      (let le = due_few r.1 positions in omega (arith, le, few))
      (signs_within (filter r.1 positions) (with_bits r.0 r.1) p))

  group_within : (due : ℕ → Bool) (first : ℕ) (sent wanted : ℕ → Bool) (j : ℕ) (s : State) → Options s →
      Within (group_script book due first sent wanted j s) Options 14
  group_within due first sent wanted j s h = by (sent j)
    where
      by : (t : Bool) → Within (if t then types_script book due (wanted j) (span (first + 4 * j) 4) s else done s) Options 14
      by true = types_within due (wanted j) (span (first + 4 * j) 4) (four_long (first + 4 * j)) s h
      by false = h

  groups_within : (due : ℕ → Bool) (first : ℕ) (sent wanted : ℕ → Bool) (n : ℕ) (s : State) → Options s →
      Within (in_turn (group_script book due first sent wanted) 0 n s) Options (n * 14)
  groups_within due first sent wanted n s h = within_in_turn Options (group_script book due first sent wanted) 14
      (λ i u p. group_within due first sent wanted i u p) 0 n s h

-- ---- stages

three_long : (a : ℕ) → length (span a 3) ≤ 4
unfolding span
three_long a = omega arith

module _ (t : Terms) (is_sound : is_book_sound t.book ≡ true) (block : List ℤ) where
  abbrev due : ℕ → Bool
  due = type_due block t.weights t.plane

  bit_within : (p : ℕ) (s : State) → Options s → Within (bit_script p s) Options 1
  bit_within p s h = (1, omega arith, short_fixed 1 1 (omega arith), λ n said good. h)

  dc_bit_within : (s : State) → Options s → Within (dc_bit_script t s) Options 208
  dc_bit_within s h = by (can_have t.weights t.plane 0 && nat_lt t.plane t.q)
    where
      by : (b : Bool) → Within (if b then bit_script 0 s else done s) Options 208
      by true = within_more Options (bit_script 0 s) 1 208 (omega arith) (bit_within 0 s h)
      by false = h

  flag_within : (is_live was : Bool) (s : State) → Within (flag_script is_live was s) Any 1
  flag_within true true s = tt
  flag_within true false s = (1, omega arith, short_fixed 1 1 (omega arith), λ n said good. tt)
  flag_within false true s = tt
  flag_within false false s = tt

  children_within : (s : State) → Options s → Within (children_script t block s) Options 53
  children_within s h =
      within_then Any Options (descendants_script t block s) _ 1 52 (flag_within (live t.weights t.plane Descendants) (above t block Descendants) s)
      (λ all p.
      within_then DueEnd Options (due_script t.book (λ i. is_due t block (Family i) all) (some_one_where (all && not (above t block Descendants)))
      (span 0 3) s) _ 10 42
      (due_within t.book is_sound (λ i. is_due t block (Family i) all) (some_one_where (all && not (above t block Descendants))) (span 0 3) (three_long 0) s h)
      (λ r q.
      within_then Options Options
      (in_turn (group_script t.book due 4 (λ i. above t block (Family i) || r.1 i) (λ i. r.1 i && not (live t.weights t.plane (Grandchildren i)))) 0 3 r.0)
      (λ u. done (with_families u (λ i. above t block (Family i) || r.1 i))) 42 0
      (groups_within t.book is_sound due 4 (λ i. above t block (Family i) || r.1 i) (λ i. r.1 i && not (live t.weights t.plane (Grandchildren i))) 3 r.0 q)
      (λ u v. v)))

  quads_within : (i : ℕ) (is_new : Bool) (s : State) → Options s → Within (quads_script t block i is_new s) Options 66
  quads_within i is_new s h =
      within_then DueEnd Options (due_script t.book (λ j. is_due t block (Quad i j) true) (some_one_where is_new) (span 0 4) s) _ 10 56
      (due_within t.book is_sound (λ j. is_due t block (Quad i j) true) (some_one_where is_new) (span 0 4) (four_long 0) s h)
      (λ r p. groups_within t.book is_sound due (quad_of i 0) (λ j. above t block (Quad i j) || r.1 j) r.1 4 r.0 p)

  grandchildren_within : (s : State) → Options s → Within (grandchildren_script t block s) Options 208
  grandchildren_within s h =
      let sets : ℕ → Bool = λ i. is_due t block (Grandchildren i) (s.families i) in
      within_then DueEnd Options (due_script t.book sets (ones_at (map (is_childless t block s) (filter sets (span 0 3)))) (span 0 3) s) _ 10 198
      (due_within t.book is_sound sets (ones_at (map (is_childless t block s) (filter sets (span 0 3)))) (span 0 3) (three_long 0) s h)
      (λ r p. within_in_turn Options (λ i u. if above t block (Grandchildren i) || r.1 i then quads_script t block i (r.1 i) u else done u) 66
      (λ i u q. by i (r.1 i) u q (above t block (Grandchildren i) || r.1 i)) 0 3 r.0 p)
    where
      by : (i : ℕ) (is_new : Bool) (u : State) → Options u → (b : Bool) → Within (if b then quads_script t block i is_new u else done u) Options 66
      by i is_new u q true = quads_within i is_new u q
      by i is_new u q false = q

  refinement_within : (s : State) → Options s → Within (refinement_script t block s) Options 63
  refinement_within s h =
      within_in_turn Options (λ p u. if refined block t.weights t.plane p then bit_script p u else done u) 1
      (λ p u q. by p u q (refined block t.weights t.plane p)) 1 63 s h
    where
      by : (p : ℕ) (u : State) → Options u → (b : Bool) → Within (if b then bit_script p u else done u) Options 1
      by p u q true = bit_within p u q
      by p u q false = q

  stage_within : (stage depth : ℕ) (s : State) → Options s → Within (stage_script t stage depth block s) Options 208
  stage_within stage depth s h = by (stage == 0) (not (nat_lt t.plane depth)) (stage == 1) (stage == 2) (stage == 3)
    where
      by : (a b c d e : Bool) → Within (if a then dc_bit_script t s else if b then done s else if c then parents_script t block s else
          if d then children_script t block s else if e then grandchildren_script t block s else refinement_script t block s) Options 208
      by true b c d e = dc_bit_within s h
      by false true c d e = h
      by false false true d e = within_more Options (parents_script t block s) 14 208 (omega arith)
          (types_within t.book is_sound due false (span 1 3) (three_long 1) s h)
      by false false false true e = within_more Options (children_script t block s) 53 208 (omega arith) (children_within s h)
      by false false false false true = grandchildren_within s h
      by false false false false false = within_more Options (refinement_script t block s) 63 208 (omega arith) (refinement_within s h)

-- ---- planes

abbrev AllOptions : PlaneState → Type 0
AllOptions s = (g : ℕ) → HasOptions (s.options g)

block_put : (s : PlaneState) (r : ℕ) (b : State) → AllOptions s → Options b → AllOptions (with_block s r b)
block_put s r b p q g = by (g == r / 16)
  where
    by : (t : Bool) → HasOptions (if t then b.options else s.options g)
    by true = q
    by false = p g

module _ (t : Terms) (is_sound : is_book_sound t.book ≡ true) (depths : List ℕ) (blocks : List (List ℤ)) where
  blocks_within : (stage : ℕ) (s : PlaneState) → AllOptions s → Within (blocks_script t depths blocks stage s) AllOptions (length depths * 208)
  blocks_within stage s h =
      within_in_turn AllOptions (λ r u. around (with_block u r) (stage_script t stage (get_or depths r 0) (get_or blocks r []) (of_block u r))) 208
      (λ r u p. within_around Options AllOptions (with_block u r) (λ b q. block_put u r b p q)
      (stage_script t stage (get_or depths r 0) (get_or blocks r []) (of_block u r)) 208
      (stage_within t is_sound (get_or blocks r []) stage (get_or depths r 0) (of_block u r) (p (r / 16)))) 0 (length depths) s h

  plane_within : (stages : ℕ) → Within (plane_script t depths blocks stages) AllOptions (stages * (length depths * 208))
  plane_within stages = within_in_turn AllOptions (blocks_script t depths blocks) (length depths * 208) (λ i u p. blocks_within i u p) 0 stages nothing_yet
      (λ g count option e. absurd cc)

five_most : (stages n : ℕ) → stages ≤ 5 → stages * (n * 208) ≤ 1040 * n
five_most stages n le = grind arith

one_more : (w plane : ℕ) → w + plane * w ≡ suc plane * w
one_more w plane = grind arith

pub planes_within : (book : Book) → is_book_sound book ≡ true → (weights : List ℕ) (q : ℕ) (depths : List ℕ) (stages : ℕ → ℕ) → ((b : ℕ) → stages b ≤ 5) →
    (below : ℕ) (blocks : List (List ℤ)) → Within (planes_script book weights q depths stages below blocks) Any (below * (1040 * length depths))
planes_within book is_sound weights q depths stages few zero blocks = tt
planes_within book is_sound weights q depths stages few (suc plane) blocks =
    let t : Terms = record { book = book; weights = weights; plane = plane; q = q } in
    let w : ℕ = 1040 * length depths in
    within_more Any (planes_script book weights q depths stages (suc plane) blocks) (w + plane * w) (suc plane * w) (omega (arith, one_more w plane))
    (within_then Any Any (around (blocks_with plane blocks) (plane_script t depths blocks (stages plane)))
    (planes_script book weights q depths stages plane) w (plane * w)
    (within_more Any (around (blocks_with plane blocks) (plane_script t depths blocks (stages plane))) (stages plane * (length depths * 208)) w
    (five_most (stages plane) (length depths) (few plane))
    (within_around AllOptions Any (blocks_with plane blocks) (λ s p. tt) (plane_script t depths blocks (stages plane)) (stages plane * (length depths * 208))
    (plane_within t is_sound depths blocks (stages plane))))
    (λ v p. planes_within book is_sound weights q depths stages few plane v))

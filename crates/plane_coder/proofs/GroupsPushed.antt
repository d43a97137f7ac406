-- What is picked, as entries.
use Rattle.std.proofs.Common.{◌≡◌, ℕ, ◌/◌, ◌%◌, ◌<◌, ◌≤◌, ◌^◌, ℤ, pos, Bool, true, false, cond, List, [], ◌∷◌, length, map, filter, get_or, refl, ap, ◌∙◌}
use Rattle.std.proofs.Common.{arith, pow_mono}
use Rattle.item_defs.specs.Bits.{bit, value_of}
use Rattle.item_defs.proofs.NumberBits.{value_below, bits_of-value_of}
use Rattle.plane_defs.specs.declared.sets.Set.{Set}
use Rattle.plane_defs.specs.declared.entries.Entry.TheVariants.{Bit}
use Rattle.plane_defs.specs.Spans.{span}
use Rattle.plane_defs.specs.Sets.{magnitude, newly_significant, significant, set_significant, type_due, flag_due, refined}
use Rattle.plane_defs.specs.Entries.{word, types, signs, typed, flags, negative}
use Rattle.plane_defs.proofs.SpanLists.{length-chosen}
use Rattle.std.proofs.lemmas.Simd.{map-map}
use Rattle.std.proofs.lemmas.Bool.Decides.{nat_tests}
use Rattle.block_masks.specs.Picks.{packed}
use Rattle.plane_coder.specs.declared.plane_masks.Typed.{Typed}
use Rattle.plane_coder.specs.Picked.{word_in, signs_in, word_of, raws_of, entries_of, IsPacked}
use Rattle.plane_coder.specs.Refining.{refining}
use Rattle.block_masks.proofs.Equations.{packed-is}

unpacked : (bits : List Bool) → length bits ≤ 4 → (packed bits / 16 ≡ length bits) × (packed bits % 16 ≡ value_of bits)
unpacked bits few =
    rw packed-is (
    let small : 2 ^ length bits ≤ 2 ^ 4 = pow_mono few in
    let below = value_below bits in
    (omega (arith, small, below), omega (arith, small, below))
    )

pub word_is : (n : ℕ) (bits : List Bool) → length bits ≤ 4 → n ≡ packed bits → word_of n ≡ word bits
word_is n bits few is = grind (arith, nat_tests, unpacked)

pub raws_are : (n : ℕ) (bits : List Bool) → length bits ≤ 4 → n ≡ packed bits → raws_of n ≡ map Bit bits
raws_are n bits few is = grind (arith, nat_tests, unpacked, bits_of-value_of)

pub is_packed : (n : ℕ) → n < 80 → n % 16 < 2 ^ (n / 16) → IsPacked n
is_packed n most fits = record { length = omega arith; value = fits }

-- the types and signs of some positions
module _ (block : List ℤ) (weights : List ℕ) (plane : ℕ) where
  pub typed_is : (s : Typed) (start count : ℕ) → count ≤ 4 → word_in s ≡ packed (types block weights plane (span start count)) →
      signs_in s ≡ packed (map (λ q. negative (get_or block q (pos 0))) (filter (newly_significant block weights plane) (span start count))) →
      entries_of s ≡ typed block weights plane (span start count)
  typed_is s start count few w v =
      let bits = types block weights plane (span start count) in
      let sign = λ (q : ℕ). negative (get_or block q (pos 0)) in
      let ends = map sign (filter (newly_significant block weights plane) (span start count)) in
      let some = length-chosen (significant block plane) (type_due block weights plane) start count in
      let more = length-chosen sign (newly_significant block weights plane) start count in
      let first : word_of (word_in s) ≡ word bits = word_is (word_in s) bits (omega (arith, some)) w in
      let rest : raws_of (signs_in s) ≡ signs block weights plane (span start count) =
      raws_are (signs_in s) ends (omega (arith, more)) v ∙
      map-map Bit sign (filter (newly_significant block weights plane) (span start count)) in
      ap (λ e. e ∷ raws_of (signs_in s)) first ∙ ap (λ l. word bits ∷ l) rest

  pub refining_is : (n start count : ℕ) → count ≤ 4 →
      n ≡ packed (map (λ p. bit (magnitude block p) plane) (filter (refined block weights plane) (span start count))) →
      raws_of n ≡ refining block weights plane start count
  refining_is n start count few is =
      let f = λ (p : ℕ). bit (magnitude block p) plane in
      let some = length-chosen f (refined block weights plane) start count in
      raws_are n (map f (filter (refined block weights plane) (span start count))) (omega (arith, some)) is
      ∙ map-map Bit f (filter (refined block weights plane) (span start count))

  -- ---- flags of sets that are given by their numbers

  abbrev flags_by : (ℕ → Set) → ℕ → List Bool
  flags_by S count = map (λ i. set_significant block plane (S i)) (filter (λ i. flag_due block weights plane (S i)) (span 0 count))

  by_number : (F D : Set → Bool) (S : ℕ → Set) (xs : List ℕ) → map F (filter D (map S xs)) ≡ map (λ i. F (S i)) (filter (λ i. D (S i)) xs)
  by_number F D S [] = refl
  by_number F D S (x ∷ xs) = one (D (S x)) (by_number F D S xs)
    where
      one : (b : Bool) → map F (filter D (map S xs)) ≡ map (λ i. F (S i)) (filter (λ i. D (S i)) xs) →
          map F (cond b (S x ∷ filter D (map S xs)) (filter D (map S xs)))
          ≡ map (λ i. F (S i)) (cond b (x ∷ filter (λ i. D (S i)) xs) (filter (λ i. D (S i)) xs))
      one true rest = ap (λ l. F (S x) ∷ l) rest
      one false rest = rest

  pub flags_word : (S : ℕ → Set) (n count : ℕ) → count ≤ 4 → n ≡ packed (flags_by S count) → word_of n ≡ word (flags block weights plane (map S (span 0 count)))
  flags_word S n count few is = grind (arith, nat_tests, length-chosen, word_is, by_number)

  pub flags_raw : (S : ℕ → Set) (n count : ℕ) → count ≤ 4 → n ≡ packed (flags_by S count) →
      raws_of n ≡ map Bit (flags block weights plane (map S (span 0 count)))
  flags_raw S n count few is = grind (arith, nat_tests, length-chosen, raws_are, by_number)

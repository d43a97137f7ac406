-- Entries that are added to a list, except empty words.
use Rattle.std.proofs.Common.{◌≡◌, ◌≢◌, ◌⊎◌, ◌%◌, ◌/◌, inl, inr, ℕ, ◌+◌, ◌*◌, ◌<◌, ◌≤◌, Bool, true, false, not, cond, List, [], ◌∷◌, ◌++◌, length, map}
use Rattle.std.proofs.Common.{filter, get_or, set, refl, ap, sym, ◌∙◌, subst, arith, append_assoc, append-nil, get_or-set_same, get_or-set_other, ◌==◌}
use Rattle.std.proofs.Common.{flat_map}
use mir.Val.{bool_byte}
use Rattle.std.proofs.lemmas.List.Elements.{filter-append}
use Rattle.std.proofs.lemmas.Bool.{cases_eq}
use Rattle.item_defs.proofs.NumberBits.{bits_none}
use Rattle.plane_defs.specs.declared.entries.Entry.{Entry}
use Rattle.plane_defs.specs.declared.entries.Entry.TheVariants.{Bit}
use Rattle.plane_defs.specs.Spans.{span}
use Rattle.plane_defs.proofs.SpanLists.{flat_map-span-suc, flat_map-span-none}
use Rattle.plane_coder.specs.declared.plane_masks.Typed.{Typed}
use Rattle.plane_coder.specs.declared.words.Words.{Words}
use Rattle.plane_coder.specs.Picked.{word_in, signs_in, word_of, raws_of, entries_of, no_word, IsPacked}
use Rattle.plane_coder.specs.Listed.{has_bits, AreAlike, entries_at, listed, Lists}
use Rattle.plane_coder.proofs.FourTypes.{IsTyped}
use Rattle.plane_coder.proofs.Sending.{flat_map-span-below}

module _ {most : ℕ} where
  pub lists_none : (a : Words most) → Lists a a [] 0
  lists_none a = record { said = sym (append-nil (filter has_bits (listed a))); more = omega arith }

  pub lists_less : {a b : Words most} {xs : List Entry} (m n : ℕ) → m ≤ n → Lists a b xs m → Lists a b xs n
  lists_less m n le p = record { said = p.said; more = omega (arith, p.more) }

  pub lists_both : {a b c : Words most} {xs ys : List Entry} (m n : ℕ) → Lists a b xs m → Lists b c ys n → Lists a c (xs ++ ys) (m + n)
  lists_both {a} {b} {c} {xs} {ys} m n p q = record {
    said = q.said ∙ ap (λ l. l ++ filter has_bits ys) p.said ∙ append_assoc (filter has_bits (listed a)) (filter has_bits xs) (filter has_bits ys) ∙
        ap (λ l. filter has_bits (listed a) ++ l) (sym (filter-append has_bits xs ys));
    more = omega (arith, p.more, q.more);
  }

  pub lists_more : {a b c : Words most} (f : ℕ → List Entry) (start n rise : ℕ) → Lists a b (flat_map f (span start n)) (rise * n) →
      Lists b c (f (start + n)) rise →
      Lists a c (flat_map f (span start (n + 1))) (rise * (n + 1))
  lists_more {a} {b} {c} f start n rise p q =
      let whole : rise * n + rise ≡ rise * (n + 1) = grind arith in
      subst (λ m. Lists a c (flat_map f (span start (n + 1))) m) whole (subst (λ l. Lists a c l (rise * n + rise)) (sym (flat_map-span-suc f start n))
      (lists_both (rise * n) rise p q))

  pub lists_start : (a : Words most) (f : ℕ → List Entry) (start rise : ℕ) → Lists a a (flat_map f (span start 0)) (rise * 0)
  lists_start a f start rise =
      let none : 0 ≡ rise * 0 = omega arith in
      subst (Lists a a (flat_map f (span start 0))) none (subst (λ l. Lists a a l 0) (sym (flat_map-span-none f start)) (lists_none a))

  -- entries that are added if a test holds
  pub lists_if_not : {b : Bool} (a : Words most) (xs : List Entry) (rise : ℕ) → b ≡ false → Lists a a (cond b xs []) rise
  lists_if_not a xs rise not_so = subst (λ b. Lists a a (cond b xs []) rise) (sym not_so) (lists_less 0 rise (omega arith) (lists_none a))

  pub lists_if : {a c : Words most} {b : Bool} {xs ys : List Entry} {rise : ℕ} → b ≡ true → xs ≡ ys → Lists a c xs rise → Lists a c (cond b ys []) rise
  lists_if {a} {c} {b} {xs} {ys} {rise} so same p = subst (λ b. Lists a c (cond b ys []) rise) (sym so) (subst (λ l. Lists a c l rise) same p)

  -- a word and the bits after it, by their numbers
  lists_pair : {a b : Words most} {rise : ℕ} (t : Typed) (word signs : ℕ) → word_in t ≡ word → signs_in t ≡ signs → Lists a b (entries_of t) rise →
      Lists a b (word_of word ∷ raws_of signs) rise
  lists_pair {a} {b} {rise} t word signs w s p = subst (λ l. Lists a b l rise)
      (ap (λ n. word_of n ∷ raws_of (signs_in t)) w ∙ ap (λ n. word_of word ∷ raws_of n) s) p

  -- raw bits after an empty word
  pub lists_raws : {a b : Words most} {rise : ℕ} (t : Typed) (raws : ℕ) → word_in t ≡ 0 → signs_in t ≡ raws → Lists a b (entries_of t) rise →
      Lists a b (raws_of raws) rise
  lists_raws t raws w s p = let q = lists_pair t 0 raws w s p in record { said = q.said; more = q.more }

  -- a word with no bits after it
  pub lists_word : {a b : Words most} {rise : ℕ} (t : Typed) (word : ℕ) → word_in t ≡ word → signs_in t ≡ 0 → Lists a b (entries_of t) rise →
      Lists a b (word_of word ∷ []) rise
  lists_word {a} {b} {rise} t word w s p = subst (λ l. Lists a b (word_of word ∷ map Bit l) rise) (bits_none 0) (lists_pair t word 0 w s p)

  pub lists_typed : {a c : Words most} {b : Bool} {t : Typed} {entries : List Entry} → IsTyped b t entries → Lists a c (entries_of t) 1 →
      Lists a c (cond b entries []) 1
  lists_typed {a} {c} {b = true} is p = subst (λ l. Lists a c l 1) (is.said refl) p
  lists_typed {a} {c} {b = false} {t} is p =
      let none : filter has_bits (entries_of t) ≡ [] =
      ap (λ w. filter has_bits (word_of w ∷ raws_of (signs_in t))) (is.no_word refl) ∙ ap (λ v. filter has_bits (word_of 0 ∷ raws_of v)) (is.no_signs refl)
      ∙ ap (λ l. filter has_bits (map Bit l)) (bits_none 0) in
      record { said = p.said ∙ ap (λ l. filter has_bits (listed a) ++ l) none; more = p.more }

  -- the same entries, if one block has them and another follows
  pub alike_start : (a : Words most) (f : ℕ → List Entry) (start : ℕ) → a.count ≡ 0 → AreAlike (listed a) (flat_map f (span start 0))
  alike_start a f start none =
      let empty : listed a ≡ [] = ap (λ n. flat_map (entries_at a.list) (span 0 n)) none ∙ flat_map-span-none (entries_at a.list) 0 in
      ap (filter has_bits) (empty ∙ sym (flat_map-span-none f start))

  pub alike_more : {a b : Words most} (f : ℕ → List Entry) (start n rise : ℕ) → AreAlike (listed a) (flat_map f (span start n)) →
      Lists a b (f (start + n)) rise →
      AreAlike (listed b) (flat_map f (span start (n + 1)))
  alike_more f start n rise p q =
      q.said ∙ ap (λ l. l ++ filter has_bits (f (start + n))) p ∙ sym (filter-append has_bits (flat_map f (span start n)) (f (start + n)))
      ∙ ap (filter has_bits) (sym (flat_map-span-suc f start n))

  -- entries that are wanted
  pub lists_wanted : {a c : Words most} {b d : Bool} {xs ys : List Entry} {rise : ℕ} → b ≡ d → xs ≡ ys → Lists a c (cond b xs []) rise →
      Lists a c (cond d ys []) rise
  lists_wanted {a} {c} {b} {d} {xs} {ys} {rise} so same p = subst (λ l. Lists a c l rise) (ap (λ x. cond x xs []) so ∙ ap (λ l. cond d l []) same) p

  pub lists_nothing : (a : Words most) (b : Bool) {xs : List Entry} (rise : ℕ) → [] ≡ xs → Lists a a (cond b xs []) rise
  lists_nothing a true rise none = subst (λ l. Lists a a l rise) none (lists_less 0 rise (omega arith) (lists_none a))
  lists_nothing a false rise none = lists_less 0 rise (omega arith) (lists_none a)

pub none_packed : IsPacked 0
none_packed = record { length = omega arith; value = omega arith }

-- ---- one more place

module _ (list : List Typed) (n : ℕ) (t : Typed) where
  set_below : flat_map (entries_at (set list n t)) (span 0 n) ≡ flat_map (entries_at list) (span 0 n)
  set_below = flat_map-span-below (entries_at (set list n t)) (entries_at list) 0 n
      (λ k lt. let other : 0 + k ≢ n = omega arith in ap entries_of (get_or-set_other list n (0 + k) t no_word other))

  set_there : n < length list → flat_map (entries_at (set list n t)) (span 0 (n + 1)) ≡ flat_map (entries_at list) (span 0 n) ++ entries_of t
  set_there within =
      let place : 0 + n ≡ n = omega arith in
      flat_map-span-suc (entries_at (set list n t)) 0 n ∙ ap (λ l. l ++ entries_at (set list n t) (0 + n)) set_below ∙
      ap (λ s. flat_map (entries_at list) (span 0 n) ++ entries_of s) (ap (λ i. get_or (set list n t) i no_word) place ∙ get_or-set_same list n t no_word
      within)

-- a place is used if a word has bits, or bits follow it
pub one_or_none : (n count : ℕ) (t : Typed) → n ≡ bool_byte (not (t.pair == 0)) →
    (count + n ≡ count + 1) ⊎ ((count + n ≡ count) × (word_in t ≡ 0) × (signs_in t ≡ 0))
one_or_none n count t is = elim (cases_eq t.pair 0) [
  | inl e ↦
      let none : n ≡ 0 = is ∙ ap (λ m. bool_byte (not (m == 0))) e in
      inr (omega (arith, none), ap (λ m. m % 256) e, ap (λ m. m / 256) e)
  | inr ne ↦
      let test : (t.pair == 0) ≡ false = grind (arith, ne) in
      let one : n ≡ 1 = is ∙ ap (λ b. bool_byte (not b)) test in
      inl (omega (arith, one))
]

pub lists_pushed : {most : ℕ} (a b : Words most) (t : Typed) → a.count < length a.list → b.list ≡ set a.list a.count t →
    (b.count ≡ a.count + 1) ⊎ ((b.count ≡ a.count) × (word_in t ≡ 0) × (signs_in t ≡ 0)) → Lists a b (entries_of t) 1
lists_pushed a b t within put (inl one) = record {
  said =
      ap (λ l. filter has_bits (flat_map (entries_at l) (span 0 b.count))) put
      ∙ ap (λ n. filter has_bits (flat_map (entries_at (set a.list a.count t)) (span 0 n))) one ∙
      ap (filter has_bits) (set_there a.list a.count t within) ∙ filter-append has_bits (listed a) (entries_of t);
  more = omega (arith, one);
}
lists_pushed a b t within put (inr none) = record {
  said =
      let nothing : filter has_bits (entries_of t) ≡ [] =
      ap (λ w. filter has_bits (word_of w ∷ raws_of (signs_in t))) none.1 ∙ ap (λ v. filter has_bits (word_of 0 ∷ raws_of v)) none.2
      ∙ ap (λ l. filter has_bits (map Bit l)) (bits_none 0) in
      ap (λ l. filter has_bits (flat_map (entries_at l) (span 0 b.count))) put
      ∙ ap (λ n. filter has_bits (flat_map (entries_at (set a.list a.count t)) (span 0 n))) none.0 ∙
      ap (filter has_bits) (set_below a.list a.count t) ∙ sym (append-nil (filter has_bits (listed a))) ∙ ap (λ l. filter has_bits (listed a) ++ l)
      (sym nothing);
  more = omega (arith, none.0);
}

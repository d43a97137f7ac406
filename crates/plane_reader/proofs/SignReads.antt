-- Signs that are read one after another, or at once.
use Rattle.std.proofs.Common.{◌≡◌, ℕ, zero, suc, ◌+◌, ◌-◌, ◌<◌, ◌≤◌, ◌^◌, List, [], ◌∷◌, ◌++◌, Bool, true, false, ◌&&◌, ◌||◌, ◌==◌, refl, sym, ap, ◌∙◌}
use Rattle.std.proofs.Common.{subst, arith, length, map, filter, inl, inr, Ok, Some, None, Option, count_ones, ◌/◌, nat_le, if◌then◌else◌}
use Rattle.std.proofs.lemmas.Bool.{cases_lt}
use Rattle.std.proofs.lemmas.Bool.Decides.{nat_tests}
use Rattle.std.proofs.lemmas.List.Elements.{filter-append}
use Rattle.std.proofs.lemmas.Nat.Bits.{bit_at_above}
use Rattle.item_defs.specs.Bits.{bit}
use Rattle.block_masks.specs.Masks.{Shows}
use Rattle.block_masks.specs.Places.{inside}
use Rattle.block_masks.proofs.LaneMasks.{shows_same}
use Rattle.plane_defs.specs.Spans.{span}
use Rattle.plane_defs.proofs.Equations.{span-none, span-more}
use Rattle.std.proofs.Math.Bool.{and-false, or-false, and-true}
use Rattle.std.proofs.lemmas.List.{length-map}
use Rattle.item_defs.specs.Bits.{bits_of, value_of}
use Rattle.item_defs.proofs.NumberBits.{length-bits_of, bits_of-value_of, value_below}
use Rattle.block_masks.specs.Picks.{AreSpread}
use Rattle.block_masks.proofs.Picking.{ones_of}
use Rattle.bit_pipe.specs.Windows.{first_of}
use Rattle.bit_pipe.specs.declared.fault.TextFault.{TextFault}
use Rattle.bit_pipe.specs.Sources.{SourceOf}
use Rattle.bit_pipe.specs.SourceState.{SourceState, IsIn, Takes, EndsBit}
use Rattle.item_defs.specs.Outcomes.{cut}
use Rattle.item_defs.specs.Scripts.{Script, done, ask, ask_bit, bit_form, then_ask, answered, run}
use Rattle.bit_pipe.specs.ScriptSources.{got, ends, ReadsAs, Gets, by_fault}
use Rattle.bit_pipe.proofs.ScriptReading.{read_done, read_then, read_cut, read_fault, Leaves}
use Rattle.plane_defs.specs.States.{State, with_bits, with_raw, with_minus, and_one}
use Rattle.plane_defs.specs.WordScripts.{signs_script}
use Rattle.plane_reader.specs.Takes.{positions, TakesFlag, TakesSigns}

-- ---- the positions of a mask

tail : (mask start n : ℕ) → List ℕ
tail mask start n = filter (λ p. bit mask (p - start)) ((start + n) ∷ [])

more : (mask start n : ℕ) → positions mask start (suc n) ≡ positions mask start n ++ tail mask start n
unfolding tail
more mask start n = ap (filter (λ p. bit mask (p - start))) (span-more start n) ∙ filter-append (λ p. bit mask (p - start)) (span start n) ((start + n) ∷ [])

tail_at : (mask start n : ℕ) (t : Bool) → bit mask n ≡ t → tail mask start n ≡ filter (λ p. t) ((start + n) ∷ [])
unfolding tail
tail_at mask start n t e = let f : start + n - start ≡ n = omega arith in rw (f, e) refl

pub no_positions : (mask start count : ℕ) → ((j : ℕ) → j < count → bit mask j ≡ false) → positions mask start count ≡ []
no_positions mask start zero none = ap (filter (λ p. bit mask (p - start))) (span-none start)
no_positions mask start (suc n) none = more mask start n ∙ ap (λ l. l ++ tail mask start n) (no_positions mask start n (λ j lt. none j (omega (arith, lt)))) ∙
    tail_at mask start n false (none n (omega arith))

-- some position
pub some_position : (mask start k count : ℕ) → bit mask k ≡ true → k < count → (p : ℕ) × (ps : List ℕ) × (positions mask start count ≡ p ∷ ps)
some_position mask start k zero here lt = absurd (omega (arith, lt))
some_position mask start k (suc n) here lt = elim (cases_lt k n) [
  | inl less ↦ let r = some_position mask start k n here less in (r.0, r.1 ++ tail mask start n, more mask start n ∙ ap (λ l. l ++ tail mask start n) r.2)
  | inr ge ↦ let e : k ≡ n = omega (arith, lt, ge) in last (positions mask start n) (start + n) (more mask start n ∙
      ap (λ l. positions mask start n ++ l) (tail_at mask start n true (ap (bit mask) (sym e) ∙ here)))
]
  where
    last : (xs : List ℕ) (x : ℕ) → positions mask start (suc n) ≡ xs ++ x ∷ [] → (p : ℕ) × (ps : List ℕ) × (positions mask start (suc n) ≡ p ∷ ps)
    last [] x e = (x, [], e)
    last (y ∷ ys) x e = (y, ys ++ x ∷ [], e)

never : true ≡ false → ⊥
never e = cc

no_bit : (n count k : ℕ) → n < 2 ^ count → count ≤ k → bit n k ≡ false
no_bit n count k small le = ap (λ x. x == 1) (bit_at_above n count k small le)

-- a position of a mask of `count` bits
pub bit_inside : (n count k : ℕ) → n < 2 ^ count → bit n k ≡ true → k < count
bit_inside n count k small here = grind (arith, nat_tests, never, no_bit)

pub none_left : (mask start count : ℕ) → mask ≡ 0 → positions mask start count ≡ []
none_left mask start count e = no_positions mask start count (λ j lt. ap (λ m. bit m j) e ∙ no_bit 0 0 j (omega arith) (omega arith))

-- one sign more in a mask
pub sign_shown : (mask : ℕ) (minus : ℕ → Bool) (p : ℕ) (b : Bool) → Shows mask (λ q. minus q || (inside p 1 q && b)) 0 64 → Shows mask (and_one minus p b) 0 64
sign_shown mask minus p b shown = shows_same (λ q. ap (λ t. minus q || (t && b)) (at q)) shown
  where
    at : (q : ℕ) → inside p 1 q ≡ (q == p)
    at q = grind (arith, nat_tests)

-- one raw bit more in a mask
pub raw_shown : (mask : ℕ) (raw : ℕ → Bool) (p : ℕ) → Shows mask (λ q. raw q || (inside p 1 q && true)) 0 64 → Shows mask (λ q. raw q || (q == p)) 0 64
raw_shown mask raw p shown = shows_same (λ q. ap (λ b. raw q || b) (and-true (q == p))) (sign_shown mask raw p true shown)

pub one_shown : (p : ℕ) → Shows 1 (λ q. true) p 1
one_shown p = record { at = λ k lt. (let e : k ≡ 0 = omega (arith, lt) in ap (bit 1) e); small = omega arith }

-- the first position, and the others
module _ (left rest start k : ℕ) (here : bit left k ≡ true) (before : (j : ℕ) → j < k → bit left j ≡ false) (gone : bit rest k ≡ false) (others : (j : ℕ) →
    j < 64 → (j ≡ k → ⊥) → bit rest j ≡ bit left j) where
  pub first_position : (count : ℕ) → k < count → count ≤ 64 → positions left start count ≡ (start + k) ∷ positions rest start count
  first_position zero lt within = absurd (omega (arith, lt))
  first_position (suc n) lt within = elim (cases_lt k n) [
    | inl less ↦
        let same : bit rest n ≡ bit left n = others n (omega (arith, within)) (λ e. omega (arith, e, less)) in
        more left start n ∙ ap (λ l. l ++ tail left start n) (first_position n less (omega (arith, within))) ∙
        ap (λ l. (start + k) ∷ (positions rest start n ++ l)) (tail_at left start n (bit left n) refl ∙ sym (tail_at rest start n (bit left n) same)) ∙
        ap (λ l. (start + k) ∷ l) (sym (more rest start n))
    | inr ge ↦
        let e : n ≡ k = omega (arith, lt, ge) in
        let none = no_positions rest start n (λ j low. others j (omega (arith, low, within)) (λ f. omega (arith, f, low, e)) ∙ before j (omega (
          arith,
          low,
          e,
        ))) in
        more left start n ∙ ap (λ l. l ++ tail left start n) (no_positions left start n (λ j low. before j (omega (arith, low, e)))) ∙
        tail_at left start n true (ap (bit left) e ∙ here) ∙
        ap (λ m. (start + m) ∷ []) e ∙ ap (λ l. (start + k) ∷ l) (sym (more rest start n ∙ ap (λ l. l ++ tail rest start n) none ∙
        tail_at rest start n false (ap (bit rest) e ∙ gone)))
  ]

-- ---- a raw bit

some_bits : (bits : List Bool) → nat_le 1 (suc (length bits)) ≡ true
some_bits bits = grind (arith, nat_tests)

module _ {G A : Type 0} (g : G) (next : ℕ → Script G A) where
  abbrev raw_bit : Script G A
  raw_bit = ask g bit_form next

  pub bit_read : (b : Bool) (more : List Bool) → run raw_bit (b ∷ more) ≡ run (next (if b then 1 else 0)) more
  unfolding value_of
  bit_read true more = ap (λ t. answered g bit_form (λ n. run (next n)) (if t then Some (1, more) else None)) (some_bits more)
  bit_read false more = ap (λ t. answered g bit_form (λ n. run (next n)) (if t then Some (0, more) else None)) (some_bits more)

  pub bit_cut : run raw_bit [] ≡ cut g
  bit_cut = refl

-- a state with the raw bit b of position p
abbrev pub with_bit : ℕ → State → Bool → State
with_bit p s b = with_raw (with_bits s (and_one (λ q. false) p b)) p

module _ (s : State) where
  abbrev flag : Script State Bool
  flag = ask_bit s (λ b. done b)

  pub flag_gets : (b : Bool) → Gets flag (b ∷ []) b
  flag_gets true more = bit_read s (λ n. done (n == 1)) true more
  flag_gets false more = bit_read s (λ n. done (n == 1)) false more

pub takes_flag : {I : Type 0} {k : SourceOf I} {a b : SourceState I} (o : Option Bool) → EndsBit k (Ok o) a b → TakesFlag k (Ok o) a b
takes_flag (Some v) t = record { read = λ s. record { bits = v ∷ []; taken = t; says = flag_gets s v; stops = tt } }
takes_flag None t = record { read = λ s. record { bits = []; taken = t.0; says = bit_cut s (λ n. done (n == 1)); stops = t.1 } }

-- ---- one after another

abbrev after_sign : State → ℕ → List ℕ → Bool → Script State State
after_sign s p ps b = signs_script ps (with_minus s (and_one s.minus p b))

signs_are : (s : State) (p : ℕ) (ps : List ℕ) → signs_script (p ∷ ps) s ≡ then_ask (ask_bit s (λ b. done b)) (after_sign s p ps)
signs_are s p ps = refl

module _ {I : Type 0} {k : SourceOf I} (all : Script State State) (places : List ℕ) (s : State) {old now : SourceState I} (l : Leaves k all
    (signs_script places s) old now) where
  pub signs_all : places ≡ [] → IsIn now → ReadsAs k all (got s) old now
  signs_all none h = l.then (got s) now (rw none (read_done s now h))

  module _ (p : ℕ) (ps : List ℕ) (e : places ≡ p ∷ ps) {last : SourceState I} where
    pub signs_fault : (fault : TextFault) → ReadsAs k (ask_bit s (λ b. done b)) (by_fault fault s) now last → ReadsAs k all (by_fault fault s) old last
    signs_fault fault q = l.then (by_fault fault s) last (rw (e, signs_are s p ps) (read_fault (ask_bit s (λ b. done b)) (after_sign s p ps) s fault q))

    pub signs_cut : ReadsAs k (ask_bit s (λ b. done b)) (ends s) now last → ReadsAs k all (ends s) old last
    signs_cut q = l.then (ends s) last (rw (e, signs_are s p ps) (read_cut (ask_bit s (λ b. done b)) (after_sign s p ps) s q))

    pub signs_more : (b : Bool) → ReadsAs k (ask_bit s (λ b. done b)) (got b) now last → Leaves k all (signs_script ps (with_minus s
        (and_one s.minus p b))) old last
    signs_more b q = record {
      then = λ found end r. l.then found end (rw (e, signs_are s p ps) (read_then (ask_bit s (λ b. done b))
          (after_sign s p ps) b found q r));
    }

-- ---- at once

pub signs_of : List ℕ → List Bool → (ℕ → Bool) → ℕ → Bool
signs_of [] bits minus = minus
signs_of (p ∷ ps) [] minus = minus
signs_of (p ∷ ps) (b ∷ bits) minus = signs_of ps bits (and_one minus p b)

pub signs_get : (ps : List ℕ) (bits : List Bool) (s : State) → length ps ≡ length bits → Gets (signs_script ps s) bits (with_minus s (signs_of ps bits s.minus))
unfolding signs_of
signs_get [] [] s e rest = refl
signs_get [] (b ∷ bits) s e rest = absurd (omega (arith, e))
signs_get (p ∷ ps) [] s e rest = absurd (omega (arith, e))
signs_get (p ∷ ps) (true ∷ bits) s e rest = bit_read s (λ n. signs_script ps (with_minus s (and_one s.minus p (n == 1)))) true (bits ++ rest) ∙
    signs_get ps bits (with_minus s (and_one s.minus p true)) (omega (arith, e)) rest
signs_get (p ∷ ps) (false ∷ bits) s e rest = bit_read s (λ n. signs_script ps (with_minus s (and_one s.minus p (n == 1)))) false (bits ++ rest) ∙
    signs_get ps bits (with_minus s (and_one s.minus p false)) (omega (arith, e)) rest

-- a position is in a list
abbrev pub has : List ℕ → ℕ → Bool
has [] q = false
has (p ∷ ps) q = (q == p) || has ps q

pub signs_as : (is : ℕ → Bool) (ps : List ℕ) (minus : ℕ → Bool) (q : ℕ) → signs_of ps (map is ps) minus q ≡ (minus q || (has ps q && is q))
unfolding signs_of
signs_as is [] minus q = sym (or-false (minus q))
signs_as is (p ∷ ps) minus q = signs_as is ps (and_one minus p (is p)) q ∙ here (q == p) refl
  where
    here : (t : Bool) → (q == p) ≡ t → ((minus q || ((q == p) && is p)) || (has ps q && is q)) ≡ (minus q || (((q == p) || has ps q) && is q))
    here true e = let same : q ≡ p = (grind (arith, nat_tests)) in rw (e, ← same) (both (minus q) (is q) (has ps q))
      where
        both : (m x h : Bool) → ((m || x) || (h && x)) ≡ (m || x)
        both true x h = refl
        both false true h = refl
        both false false h = and-false h
    here false e = rw (e, or-false (minus q)) refl

pub has_append : (xs ys : List ℕ) (q : ℕ) → has (xs ++ ys) q ≡ (has xs q || has ys q)
has_append [] ys q = refl
has_append (x ∷ xs) ys q = ap (λ t. (q == x) || t) (has_append xs ys q) ∙ grouped (q == x) (has xs q) (has ys q)
  where
    grouped : (a b c : Bool) → (a || (b || c)) ≡ ((a || b) || c)
    grouped true b c = refl
    grouped false b c = refl

has_tail : (mask start n q : ℕ) (t : Bool) → bit mask n ≡ t → has (tail mask start n) q ≡ ((q == start + n) && t)
has_tail mask start n q true e = ap (λ l. has l q) (tail_at mask start n true e) ∙ or-false (q == start + n) ∙ sym (and-true (q == start + n))
has_tail mask start n q false e = ap (λ l. has l q) (tail_at mask start n false e) ∙ sym (and-false (q == start + n))

positions_have : (mask start q count : ℕ) → has (positions mask start count) q ≡ (inside start count q && bit mask (q - start))
positions_have mask start q zero = ap (λ l. has l q) (no_positions mask start zero (λ j lt. absurd (omega (arith, lt)))) ∙
    ap (λ t. t && bit mask (q - start)) none
  where
    none : false ≡ inside start zero q
    none = grind (arith, nat_tests)
positions_have mask start q (suc n) =
    ap (λ l. has l q) (more mask start n) ∙ has_append (positions mask start n) (tail mask start n) q ∙
    (λ i. positions_have mask start q n i || has_tail mask start n q (bit mask n) refl i) ∙ here (q == start + n) refl
  where
    here : (t : Bool) → (q == start + n) ≡ t → ((inside start n q && bit mask (q - start)) || ((q == start + n) && bit mask n)) ≡ (inside start
        (suc n) q && bit mask (q - start))
    here true e =
        let same : q ≡ start + n = (grind (arith, nat_tests)) in
        let off : inside start n q ≡ false = grind (arith, nat_tests) in
        let on : inside start (suc n) q ≡ true = grind (arith, nat_tests) in
        let at : q - start ≡ n = omega (arith, same) in
        rw (e, off, on, at) refl
    here false e =
        let ne : q ≡ start + n → ⊥ = (grind (arith, nat_tests)) in
        let alike : inside start n q ≡ inside start (suc n) q = grind (arith, nat_tests) in
        rw (e, alike) (or-false _)

own_shown : (mask start count : ℕ) → mask < 2 ^ count → Shows mask (λ p. bit mask (p - start)) start count
own_shown mask start count small = record { at = λ k lt. (let e : start + k - start ≡ k = omega arith in rw e refl); small = small }

pub same_bits : (xs ys : List Bool) → length xs ≡ length ys → value_of xs ≡ value_of ys → xs ≡ ys
same_bits xs ys e v = sym (bits_of-value_of xs) ∙ (λ i. bits_of (e i) (v i)) ∙ bits_of-value_of ys

-- the bits of a window that are spread over the positions
module _ (new start count window word due places : ℕ) (few : new < 2 ^ count) (four : count ≤ 4) (value : value_of (first_of due window) ≡ word)
    (ones : due ≡ count_ones new) (spread : AreSpread new word places) where
  abbrev is_minus : ℕ → Bool
  is_minus p = bit places (p - start)

  fits : word < 2 ^ count_ones new
  fits = subst (λ n. word < 2 ^ n) (length-bits_of due (window / 2 ^ (64 - due)) ∙ ones) (subst (λ v. v < 2 ^ length (first_of due window)) value (value_below
      (first_of due window)))

  back : value_of (map is_minus (positions new start count)) ≡ word
  back = spread.back (λ p. bit new (p - start)) start count four (own_shown new start count few) fits

  long : length (positions new start count) ≡ due
  long = sym (length-map (positions new start count) is_minus) ∙ sym (ones_of new start count is_minus (λ p. bit new (p - start)) four
      (own_shown new start count few)) ∙ sym ones

  bits_are : map is_minus (positions new start count) ≡ first_of due window
  bits_are = same_bits _ _ (length-map (positions new start count) is_minus ∙ long ∙ sym (length-bits_of due (window / 2 ^ (64 - due)))) (back ∙ sym value)

  places_shown : Shows places (λ q. bit new (q - start) && is_minus q) start count
  places_shown = spread.if_known is_minus (λ p. bit new (p - start)) start count four (own_shown new start count few) back

  pub signs_at_once : {I : Type 0} {k : SourceOf I} (s : State) (mask : ℕ) {a b : SourceState I} → ((f g : ℕ → Bool) → Shows places g start count →
      Shows mask (λ p. s.minus p || (inside start count p && g p)) 0 64) → Takes k a b (first_of due window) →
      TakesSigns k (positions new start count) s (Ok (Some tt)) mask a b
  signs_at_once {k = k} s mask {a} {b} added taken = record {
    minus = signs_of (positions new start count) (map is_minus (positions new start count)) s.minus;
    shown = shows_same (λ q. grouped (s.minus q) (inside start count q) (bit new (q - start)) (is_minus q) ∙
        ap (λ t. s.minus q || (t && is_minus q)) (sym (positions_have new start q count)) ∙ sym (signs_as is_minus (positions new start count) s.minus q))
        (added s.minus (λ q. bit new (q - start) && is_minus q) places_shown);
    read = record {
      bits = map is_minus (positions new start count);
      taken = rw bits_are taken;
      says = signs_get (positions new start count) (map is_minus (positions new start count)) s (sym (length-map (positions new start count) is_minus));
      stops = tt;
    };
  }
    where
      grouped : (m i n x : Bool) → (m || (i && (n && x))) ≡ (m || ((i && n) && x))
      grouped true i n x = refl
      grouped false true n x = refl
      grouped false false n x = refl

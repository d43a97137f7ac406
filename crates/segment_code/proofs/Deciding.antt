-- What octets decide, by what their bits are read as.
use Rattle.std.proofs.Common.{◌≡◌, ◌≢◌, ℕ, ◌+◌, ◌-◌, ◌*◌, ◌==◌, ◌<◌, ◌≤◌, if◌then◌else◌, nat_lt, Bool, true, false, List, ◌++◌, length, take, refl, ap, ◌∙◌}
use Rattle.std.proofs.Common.{arith, ℤ, Some, None, length-append, take_all}
use Rattle.std.specs.Int.{div_ceil}
use Rattle.std.proofs.lemmas.Bool.Decides.{nat_tests}
use Rattle.item_defs.specs.Bits.{bits_of_octets}
use Rattle.item_defs.specs.Items.{Refusal}
use Rattle.bit_pipe.specs.declared.fault.Part.TheVariants.{Whole, Ended}
use Rattle.segment_defs.specs.declared.head.SegmentHead.{SegmentHead}
use Rattle.segment_defs.specs.TextWish.{TextWish, segment_read}
use Rattle.item_defs.specs.Outcomes.{Outcome, whole, cut, refused}
use Rattle.item_defs.specs.Scripts.{Script, run}
use Rattle.segment_code.specs.TextAnswers.{TextAnswer, gives, refuses, if_enough, bits_within, whole_octets, decided, answer_in}

abbrev pub Blocks : Type 0
Blocks = List (List ℤ)

-- ---- enough octets

pub there_is : (there octets : ℕ) (a : TextAnswer) → octets ≤ there → if_enough there octets a ≡ Some (record { answer = a; octets = octets })
there_is there octets a le = let e : nat_lt there octets ≡ false = grind (arith, nat_tests) in rw e refl

pub not_there : (there octets : ℕ) (a : TextAnswer) → there < octets → if_enough there octets a ≡ None
not_there there octets a lt = let e : nat_lt there octets ≡ true = grind (arith, nat_tests) in rw e refl

-- ---- the bits of octets within the limit

pub no_limit : (head : SegmentHead) → head.limit ≡ 0 → (head.limit == 0) ≡ true
no_limit head e = grind (arith, nat_tests)

pub some_limit : (head : SegmentHead) → head.limit ≢ 0 → (head.limit == 0) ≡ false
some_limit head e = grind (arith, nat_tests)

module _ (head : SegmentHead) (size : ℕ) where
  pub all_within : (octets : List ℕ) → (head.limit ≢ 0 → size + length octets ≤ head.limit) → bits_within head size octets ≡ bits_of_octets octets
  all_within octets within = by (head.limit == 0) refl
    where
      by : (b : Bool) → (head.limit == 0) ≡ b → bits_of_octets (if b then octets else take (head.limit - size) octets) ≡ bits_of_octets octets
      by true e = refl
      by false e =
          let some : head.limit ≢ 0 = grind (arith, nat_tests) in
          let w = within some in
          ap bits_of_octets (take_all (head.limit - size) octets (omega (arith, w)))

-- ---- answers by outcomes

module _ (wish : TextWish) (head : SegmentHead) (size : ℕ) (octets : List ℕ) where
  abbrev pub S : Script Blocks Blocks
  S = segment_read wish head

  pub by_outcome : (o : Outcome Blocks Blocks) → run (segment_read wish head) (bits_within head size octets) ≡ o →
      answer_in wish head size octets ≡ decided head size (length octets) (bits_within head size octets) o
  by_outcome o e = ap (decided head size (length octets) (bits_within head size octets)) e

  used_is : (xs left : List Bool) → bits_within head size octets ≡ xs ++ left → length (bits_within head size octets) - length left ≡ length xs
  used_is xs left e = omega (arith, ap length e, length-append xs left)

  pub whole_answer : (xs left : List Bool) (w : Blocks) → bits_within head size octets ≡ xs ++ left →
      run (segment_read wish head) (xs ++ left) ≡ whole w left →
      answer_in wish head size octets ≡ if_enough (length octets) (whole_octets head (8 * size + length xs) - size) (gives Whole w)
  whole_answer xs left w e p =
      by_outcome (whole w left) (ap (run (segment_read wish head)) e ∙ p) ∙
      ap (λ n. if_enough (length octets) (whole_octets head (8 * size + n) - size) (gives Whole w)) (used_is xs left e)

  pub refused_answer : (xs left : List Bool) (g : Blocks) (name : Refusal) → bits_within head size octets ≡ xs ++ left →
      run (segment_read wish head) (xs ++ left) ≡ refused g name left →
      answer_in wish head size octets ≡ Some (record { answer = refuses name; octets = div_ceil (length xs) 8 })
  refused_answer xs left g name e p =
      by_outcome (refused g name left) (ap (run (segment_read wish head)) e ∙ p) ∙
      ap (λ n. Some (record { answer = refuses name; octets = div_ceil n 8 })) (used_is xs left e)

  pub cut_answer : (g : Blocks) → run (segment_read wish head) (bits_within head size octets) ≡ cut g →
      answer_in wish head size octets ≡ (if head.limit == 0 then None else if_enough (length octets) (head.limit - size) (gives Ended g))
  cut_answer g e = by_outcome (cut g) e

  -- an item that is cut at the limit, and below it
  pub cut_at_limit : (g : Blocks) → run (segment_read wish head) (bits_within head size octets) ≡ cut g → head.limit ≢ 0 → head.limit - size ≤ length octets →
      answer_in wish head size octets ≡ Some (record { answer = gives Ended g; octets = head.limit - size })
  cut_at_limit g e some le =
      cut_answer g e ∙
      ap (λ b. if b then None else if_enough (length octets) (head.limit - size) (gives Ended g)) (some_limit head some) ∙
      there_is (length octets) (head.limit - size) (gives Ended g) le

  pub cut_below : (g : Blocks) → run (segment_read wish head) (bits_within head size octets) ≡ cut g → (head.limit ≢ 0 → length octets < head.limit - size) →
      answer_in wish head size octets ≡ None
  cut_below g e below = cut_answer g e ∙ by (head.limit == 0) refl
    where
      by : (b : Bool) → (head.limit == 0) ≡ b → (if b then None else if_enough (length octets) (head.limit - size) (gives Ended g)) ≡ None
      by true f = refl
      by false f = let some : head.limit ≢ 0 = grind (arith, nat_tests) in not_there (length octets) (head.limit - size) (gives Ended g) (below some)

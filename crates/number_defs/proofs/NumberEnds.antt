-- Numbers that are not refused are not too great.
use Rattle.std.proofs.Common.{zero, ◌≡◌, ℕ, suc, ◌+◌, ◌-◌, ◌*◌, ◌<◌, ◌^◌, ◌==◌, ◌||◌, min, Bool, true, false, if◌then◌else◌, List, [], ◌∷◌, ◌++◌, length}
use Rattle.std.proofs.Common.{get_or, refl, ap, ◌∙◌, arith, Option, Some, None}
use Rattle.item_defs.specs.Items.{Refusal, bad_delta, bad_depth}
use Rattle.number_defs.specs.Mapping.{unmapped}
use Rattle.number_defs.specs.Gaggles.{Kind, uncoded, first_place, gaggle_count, uncoded_form, unary_form, rest_form}
use Rattle.item_defs.specs.Scripts.{then_ask, in_turn}
use Rattle.item_defs.specs.Completing.{Ends}
use Rattle.item_defs.proofs.Completing.{ends_then, ends_in_turn}
use Rattle.number_defs.specs.NumberScript.{zeros_script, last_of, number_script, differences_script, lead_script, gaggle_script, numbers_script}

not_named : (t : Bool) (name : Refusal) → (if t then Some name else None) ≡ None → t ≡ false
not_named true name e = absurd cc
not_named false name e = refl

not_delta : (t : Bool) (r : Option Refusal) → (if t then Some bad_delta else r) ≡ None → r ≡ None
not_delta true r e = absurd cc
not_delta false r e = e

module _ (kind : Kind) where
  abbrev pub Low : List ℕ → Type 0
  Low xs = (i : ℕ) → i < length xs → kind.too_great (get_or xs i 0) ≡ false

  low_more : (xs : List ℕ) (h : ℕ) → Low xs → kind.too_great h ≡ false → Low (xs ++ h ∷ [])
  low_more [] h low e zero lt = e
  low_more [] h low e (suc i) lt = absurd (omega (arith, lt))
  low_more (x ∷ xs) h low e zero lt = low 0 (omega arith)
  low_more (x ∷ xs) h low e (suc i) lt = low_more xs h (λ j less. low (suc j) (omega (arith, less))) e i (omega (arith, lt))

  number_low : (option zeros : ℕ) (heights : List ℕ) → ((option == 0) || (option == uncoded kind.bits) ≡ true → zeros ≡ 0) → Low heights →
      Ends (number_script kind option zeros heights) Low
  number_low option zeros heights whole low n said none = low_more heights _ low (by (option == uncoded kind.bits) (option == 0) whole none)
    where
      before : ℕ
      before = last_of heights

      plain : zeros ≡ 0 → kind.too_great (unmapped kind.bits before n) ≡ false → kind.too_great (unmapped kind.bits before (zeros * 2 ^ option + n)) ≡ false
      plain z e = let v : zeros * 2 ^ option + n ≡ n = rw z (omega arith) in ap (λ x. kind.too_great (unmapped kind.bits before x)) v ∙ e

      by : (t u : Bool) → (u || t ≡ true → zeros ≡ 0) →
          (if t then uncoded_form kind before else if u then unary_form kind 0 before else rest_form kind option before zeros).refusal n ≡ None →
          kind.too_great (unmapped kind.bits before (zeros * 2 ^ option + n)) ≡ false
      by true true w e = plain (w refl) (not_named _ bad_depth e)
      by true false w e = plain (w refl) (not_named _ bad_depth e)
      by false true w e = plain (w refl) (not_named _ bad_depth (not_delta _ _ e))
      by false false w e = not_named _ bad_depth e

  turns_low : (option : ℕ) (zeros : ℕ → ℕ) (n : ℕ) (heights : List ℕ) → ((option == 0) || (option == uncoded kind.bits) ≡ true → (i : ℕ) → zeros i ≡ 0) →
      Low heights → Ends (in_turn (λ i. number_script kind option (zeros i)) 0 n heights) Low
  turns_low option zeros n heights whole low =
      ends_in_turn (λ i. Low) (λ i. number_script kind option (zeros i)) 0 n (λ i s a b p. number_low option (zeros i) s (λ e. whole e i) p) heights low

  zeros_end : (given : List ℕ) (k n : ℕ) (zs : List ℕ) → Ends (zeros_script given kind.bits k n zs) (λ a. Unit {0})
  zeros_end given k zero zs = tt
  zeros_end given k (suc n) zs = λ z said none. zeros_end given k n (zs ++ z ∷ [])

  differences_low : (option n : ℕ) (heights : List ℕ) → Low heights → Ends (differences_script kind option n heights) Low
  differences_low option n heights low = by ((option == 0) || (option == uncoded kind.bits)) refl
    where
      clash : (b : Bool) → b ≡ false → b ≡ true → ⊥
      clash true p q = cc
      clash false p q = cc

      by : (t : Bool) → ((option == 0) || (option == uncoded kind.bits)) ≡ t →
          Ends (if t then in_turn (λ i. number_script kind option 0) 0 n heights else
          then_ask (zeros_script heights kind.bits option n []) (λ zeros. in_turn (λ i. number_script kind option (get_or zeros i 0)) 0 n heights)) Low
      by true e = turns_low option (λ i. 0) n heights (λ p i. refl) low
      by false e =
          ends_then (λ a. Unit {0}) Low (zeros_script heights kind.bits option n [])
          (λ zeros. in_turn (λ i. number_script kind option (get_or zeros i 0)) 0 n heights) (zeros_end heights option n [])
          (λ zs u. turns_low option (λ i. get_or zs i 0) n heights (λ p i. absurd (clash _ e p)) low)

  lead_low : (g : ℕ) (heights : List ℕ) → Low heights → Ends (lead_script kind g heights) Low
  lead_low zero heights low = λ n said none. low_more [] _ (λ i lt. absurd (omega (arith, lt))) (not_named _ bad_depth none)
  lead_low (suc g) heights low = low

  pub numbers_low : (count : ℕ) → Ends (numbers_script kind count) Low
  numbers_low count =
      ends_in_turn (λ g. Low) (gaggle_script kind count) 0 (gaggle_count count)
      (λ g s a b low option said none. ends_then Low Low (lead_script kind g s) (differences_script kind option (min count (16 * g + 16) - first_place g))
      (lead_low g s low) (λ hs p. differences_low option (min count (16 * g + 16) - first_place g) hs p))
      [] (λ i lt. absurd (omega (arith, lt)))

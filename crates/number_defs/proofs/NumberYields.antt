-- The heights that numbers by differences give, to the end or to a cut, have N bits.
use Rattle.std.proofs.Common.{zero, ◌≡◌, ℕ, suc, ◌+◌, ◌-◌, ◌*◌, ◌<◌, ◌^◌, ◌==◌, ◌||◌, min, Bool, true, false, if◌then◌else◌, List, [], ◌∷◌, ◌++◌, get_or}
use Rattle.std.proofs.Common.{refl, sym, subst, arith, pow_pos, mod-lt, Option, None}
use Rattle.std.proofs.lemmas.Bool.Decides.{nat_tests}
use Rattle.item_defs.specs.Items.{Refusal}
use Rattle.item_defs.specs.Completing.{IsPossible}
use Rattle.item_defs.specs.Scripts.{then_ask, in_turn}
use Rattle.item_defs.proofs.ScriptYields.{Yields, yields_then, yields_turn}
use Rattle.number_defs.specs.Ranges.{negatives}
use Rattle.number_defs.specs.Gaggles.{Kind, uncoded, is_option, first_place, gaggle_count}
use Rattle.number_defs.specs.NumberScript.{zeros_script, number_script, differences_script, lead_script, gaggle_script, numbers_script}
use Rattle.number_defs.proofs.NumberGoes.{Few, few_none, few_one, few_both, few_grew, ZerosIf, AreZeros, not_delta, not_option, number_goes}

good_possible : (r : Option Refusal) → r ≡ None → IsPossible r
good_possible r e = subst IsPossible (sym e) tt

module _ (kind : Kind) where
  abbrev bound : ℕ
  bound = 2 ^ kind.bits

  abbrev pub Bounded : List ℕ → Type 0
  Bounded = Few (2 ^ kind.bits)

  turns_yield : (option : ℕ) → is_option kind.bits option ≡ true → (zeros : ℕ → ℕ) → ((i : ℕ) → AreZeros kind.bits option (zeros i)) →
      (n : ℕ) (heights : List ℕ) → Bounded heights →
      Yields Bounded Bounded (in_turn (λ i. number_script kind option (zeros i)) 0 n heights)
  turns_yield option known zeros are n heights few =
      yields_turn Bounded (λ i. Bounded) (λ i. number_script kind option (zeros i)) 0 n
      (λ i s low high p. (
        p,
        λ said is good. few_grew bound 1 s _ p
            ((number_goes kind option known (zeros i) s p (are i)).2 said is (good_possible _ good)),
      )) heights few

  zeros_yield : (given : List ℕ) → Bounded given → (N k n : ℕ) (zs : List ℕ) → Few (2 ^ (N - k)) zs →
      Yields Bounded (Few (2 ^ (N - k))) (zeros_script given N k n zs)
  zeros_yield given p N k zero zs few = few
  zeros_yield given p N k (suc n) zs few = (
    p,
    λ z said good.
        let less : (z == 2 ^ (N - k)) ≡ false = not_delta (z == 2 ^ (N - k)) None (good_possible _ good) in
        let lt : z < 2 ^ (N - k) = grind (arith, nat_tests) in
        zeros_yield given p N k n (zs ++ z ∷ []) (few_both (2 ^ (N - k)) zs (z ∷ []) few (few_one (2 ^ (N - k)) z lt)),
  )

  differences_yield : (option count : ℕ) (heights : List ℕ) → is_option kind.bits option ≡ true → Bounded heights →
      Yields Bounded Bounded (differences_script kind option count heights)
  differences_yield option count heights known few = by ((option == 0) || (option == uncoded kind.bits)) refl
    where
      zeros_at : (t : Bool) → ((option == 0) || (option == uncoded kind.bits)) ≡ t → (z : ℕ) → ZerosIf t (2 ^ (kind.bits - option)) z →
          AreZeros kind.bits option z
      zeros_at t e z p = subst (λ x. ZerosIf x (2 ^ (kind.bits - option)) z) (sym e) p

      by : (t : Bool) → ((option == 0) || (option == uncoded kind.bits)) ≡ t →
          Yields Bounded Bounded (if t then in_turn (λ i. number_script kind option 0) 0 count heights else
          then_ask (zeros_script heights kind.bits option count [])
          (λ zeros. in_turn (λ i. number_script kind option (get_or zeros i 0)) 0 count heights))
      by true e = turns_yield option known (λ i. 0) (λ i. zeros_at true e 0 refl) count heights few
      by false e =
          yields_then Bounded (Few (2 ^ (kind.bits - option))) Bounded (zeros_script heights kind.bits option count [])
          (λ zeros. in_turn (λ i. number_script kind option (get_or zeros i 0)) 0 count heights)
          (zeros_yield heights few kind.bits option count [] (few_none (2 ^ (kind.bits - option)) (pow_pos (kind.bits - option))))
          (λ zs p. turns_yield option known (λ i. get_or zs i 0) (λ i. zeros_at false e (get_or zs i 0) (p i)) count heights few)

  lead_yields : (g : ℕ) (heights : List ℕ) → Bounded heights → Yields Bounded Bounded (lead_script kind g heights)
  lead_yields zero heights few = (few, λ n said good. few_one bound _ (mod-lt (n + negatives kind.signed kind.bits) (pow_pos kind.bits)))
  lead_yields (suc g) heights few = few

  gaggle_yields : (count g : ℕ) (heights : List ℕ) → Bounded heights → Yields Bounded Bounded (gaggle_script kind count g heights)
  gaggle_yields count g heights few = (
    few,
    λ option said good.
        yields_then Bounded Bounded Bounded (lead_script kind g heights) (differences_script kind option (min count (16 * g + 16) - first_place g))
        (lead_yields g heights few)
        (λ a p. differences_yield option (min count (16 * g + 16) - first_place g) a (not_option (is_option kind.bits option) (good_possible _ good)) p),
  )

  pub numbers_yield : (count : ℕ) → Yields Bounded Bounded (numbers_script kind count)
  numbers_yield count =
      yields_turn Bounded (λ i. Bounded) (gaggle_script kind count) 0 (gaggle_count count) (λ g s low high p. gaggle_yields count g s p) []
      (few_none bound (pow_pos kind.bits))

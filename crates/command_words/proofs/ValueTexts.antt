-- The texts of values.
use Rattle.std.proofs.Common.{◌≡◌, ◌≢◌, ◌<◌, ◌≤◌, ◌+◌, ◌^◌, ◌-◌, ◌/◌, ◌%◌, ℕ, zero, suc, List, [], ◌∷◌, ◌++◌, length, get_or, map, decimal, arith}
use Rattle.std.proofs.Common.{append_assoc, sym, ◌∙◌, subst, codes, All}
use Rattle.std.proofs.lemmas.Grind.{common_steps}
use Rattle.std.proofs.lemmas.Fmt.{decimal_by_steps}
use Rattle.std.proofs.lemmas.List.{length-map, get_or-map, ext_get_or}
use Rattle.std.proofs.lemmas.List.Elements.{All-map, All-weaker, All-get_or, All-from_get_or}
use Rattle.std.proofs.lemmas.Bool.Decides.{nat_tests}
use Rattle.base_122.specs.Weights.{IsShift}
use Rattle.command_words.specs.declared.tables.Form.TheVariants.{Stop, Weights}
use Rattle.command_words.specs.declared.values.Value.{Value}
use Rattle.command_words.specs.declared.values.Value.TheVariants.{Number as NumberValue, Cap as CapValue, Flag as FlagValue, StopDc, StopAt}
use Rattle.command_words.specs.declared.values.Value.TheVariants.{Weights as WeightsValue, Select as SelectValue}
use Rattle.command_words.specs.Values.{IsWeightDigit, IsValueText}

-- each octet of a number's text is a digit
IsDigits : ℕ → List ℕ → Type 0
IsDigits n ds = (i : ℕ) → i < length ds → (48 ≤ get_or ds i 0) × (get_or ds i 0 ≤ 57)

one_digit : (n : ℕ) → n < 10 → IsDigits n ((48 + n) ∷ [])
unfolding IsDigits
one_digit n small zero below = (omega arith, omega arith)
one_digit n small (suc i) below = absurd (omega arith)

more_digits : (n : ℕ) (ds : List ℕ) → 10 ≤ n → IsDigits (n / 10) ds → IsDigits n (ds ++ ((48 + n % 10) ∷ []))
unfolding IsDigits
more_digits n ds big each i below = grind (arith, common_steps, each i)

pub digit : (n : ℕ) → n < 2 ^ 32 → (i : ℕ) → i < length (decimal n) → (48 ≤ get_or (decimal n) i 0) × (get_or (decimal n) i 0 ≤ 57)
unfolding IsDigits
digit n small = decimal_by_steps IsDigits one_digit more_digits n (omega arith)

pub no_dot : (n : ℕ) → n < 2 ^ 32 → (i : ℕ) → i < length (decimal n) → get_or (decimal n) i 0 ≢ 46
no_dot n small i below e = let both = digit n small i below in omega (arith, both.0)

-- a text that is neither `dc` nor two numbers with a dot between is no stop
pub not_stop : (text : List ℕ) → text ≢ codes "dc" → ((p s : ℕ) → p < 2 ^ 32 → s < 2 ^ 32 → text ≢ decimal p ++ (46 ∷ decimal s)) →
    (value : Value) → IsValueText Stop text value → ⊥
not_stop text dc dot StopDc is = dc is.1
not_stop text dc dot (StopAt p s) is = dot p s is.0.0 is.0.1 (is.1 ∙ append_assoc (decimal p) (codes ".") (decimal s))
not_stop text dc dot (NumberValue n) is = is.0
not_stop text dc dot (CapValue n) is = is.0
not_stop text dc dot (FlagValue b) is = is.0
not_stop text dc dot (WeightsValue w) is = is.0
not_stop text dc dot (SelectValue s) is = is.0

digit_of_shift : (n : ℕ) → IsShift n → IsWeightDigit (48 + n)
digit_of_shift n small = (omega arith, omega arith)

pub All-weights : (text : List ℕ) (value : Value) → IsValueText Weights text value → All IsWeightDigit text
All-weights text (WeightsValue w) is =
    subst (All IsWeightDigit) (sym is.1) (All-map IsWeightDigit (λ shift. 48 + shift) w.shifts
    (All-weaker IsShift (λ shift. IsWeightDigit (48 + shift)) digit_of_shift w.shifts is.0.1))
All-weights text (NumberValue n) is = absurd is.0
All-weights text (CapValue n) is = absurd is.0
All-weights text (FlagValue b) is = absurd is.0
All-weights text StopDc is = absurd is.0
All-weights text (StopAt p s) is = absurd is.0
All-weights text (SelectValue s) is = absurd is.0

-- ten such digits less 48 are ten exponents
pub weights_from_digits : (text shifts : List ℕ) → length text ≡ 10 → length shifts ≡ 10 → All IsWeightDigit text →
    ((k : ℕ) → k < 10 → get_or shifts k 0 ≡ get_or text k 0 - 48) → All IsShift shifts × (text ≡ map (λ shift. 48 + shift) shifts)
weights_from_digits text shifts ten as_many digits each = (
  All-from_get_or IsShift shifts 0 small,
  ext_get_or 0 text (map (λ shift. 48 + shift) shifts)
      (ten ∙ sym as_many ∙ sym (length-map shifts (λ shift. 48 + shift))) same,
)
  where
    in_digits : (k : ℕ) → k < 10 → IsWeightDigit (get_or text k 0)
    in_digits k below = All-get_or IsWeightDigit text k 0 (omega arith) digits

    small : (k : ℕ) → k < length shifts → IsShift (get_or shifts k 0)
    small k below = let k_below : k < 10 = omega arith in let d = in_digits k k_below in let e = each k k_below in omega (arith, d.0, d.1, e)

    same : (k : ℕ) → k < length text → get_or text k 0 ≡ get_or (map (λ shift. 48 + shift) shifts) k 0
    same k below = grind (arith, nat_tests, in_digits, get_or-map)

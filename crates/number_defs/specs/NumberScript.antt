-- Numbers by differences as a script, in the order of the text. (CCSDS 122.0-B-2, section 4.3.2; docs/formats.md, "Numbers by
-- differences"; what is refused is this project's own.)
use Rattle.std.specs.Prelude.{ℕ, zero, suc, ◌+◌, ◌-◌, ◌*◌, ◌%◌, ◌^◌, ◌==◌, ◌||◌, min, if◌then◌else◌, not, List, [], ◌∷◌, ◌++◌, length, slice_index}
use Rattle.item_defs.specs.Items.{Form, fixed, zeros_to, refused_where, bad_option, bad_delta}
use Rattle.number_defs.specs.Ranges.{negatives}
use Rattle.number_defs.specs.Mapping.{unmapped}
use Rattle.number_defs.specs.Gaggles.{Kind, identifier_bits, uncoded, is_option, first_place, uncoded_form, unary_form, rest_form, reference_form, gaggle_count}
use Rattle.item_defs.specs.Scripts.{Script, done, ask, then_ask, in_turn}

-- ---- options

abbrev pub option_form : ℕ → Form
option_form N = record { shape = fixed (identifier_bits N); refusal = refused_where (λ n. not (is_option N n)) bad_option }

abbrev pub option_script : {G : Type 0} → G → ℕ → Script G ℕ
option_script given N = ask given (option_form N) (λ option. done option)

-- ---- unary parts whose rests follow after all of them

abbrev pub zeros_form : (N k : ℕ) → Form
zeros_form N k = record { shape = zeros_to (2 ^ (N - k)); refusal = refused_where (λ zeros. zeros == 2 ^ (N - k)) bad_delta }

-- the zeros of `count` unary parts, after those of some
abbrev pub zeros_script : {G : Type 0} → G → (N k count : ℕ) → List ℕ → Script G (List ℕ)
zeros_script given N k zero zeros = done zeros
zeros_script given N k (suc n) zeros = ask given (zeros_form N k) (λ z. zeros_script given N k n (zeros ++ z ∷ []))

-- ---- the item that makes a number whole, after the zeros of its unary part if that was read before

abbrev pub value_form : Kind → (option before zeros : ℕ) → Form
value_form kind option before zeros =
    if option == uncoded kind.bits then uncoded_form kind before else
    if option == 0 then unary_form kind 0 before else rest_form kind option before zeros

abbrev pub last_of : List ℕ → ℕ
last_of heights = slice_index heights (length heights - 1)

-- the number after these, by its mapped value
abbrev pub number_script : Kind → (option zeros : ℕ) → List ℕ → Script (List ℕ) (List ℕ)
number_script kind option zeros heights =
    ask heights (value_form kind option (last_of heights) zeros)
    (λ said. done (heights ++ unmapped kind.bits (last_of heights) (zeros * 2 ^ option + said) ∷ []))

-- `count` numbers after these: each by one item, or all unary parts and then all rests
abbrev pub differences_script : Kind → (option count : ℕ) → List ℕ → Script (List ℕ) (List ℕ)
differences_script kind option count heights =
    if (option == 0) || (option == uncoded kind.bits)
    then in_turn (λ i. number_script kind option 0) 0 count heights
    else then_ask (zeros_script heights kind.bits option count []) (λ zeros. in_turn (λ i. number_script kind option (slice_index zeros i)) 0 count heights)

-- ---- gaggles

-- the first gaggle has the reference
abbrev pub lead_script : Kind → (g : ℕ) → List ℕ → Script (List ℕ) (List ℕ)
lead_script kind zero heights = ask heights (reference_form kind) (λ c. done ((c + negatives kind.signed kind.bits) % 2 ^ kind.bits ∷ []))
lead_script kind (suc g) heights = done heights

-- gaggle g of `count` numbers
abbrev pub gaggle_script : Kind → (count g : ℕ) → List ℕ → Script (List ℕ) (List ℕ)
gaggle_script kind count g heights =
    then_ask (option_script heights kind.bits) (λ option.
    then_ask (lead_script kind g heights) (differences_script kind option (min count (16 * g + 16) - first_place g)))

-- `count` numbers, by their heights; if they are cut or refused, those before
abbrev pub numbers_script : Kind → (count : ℕ) → Script (List ℕ) (List ℕ)
numbers_script kind count = in_turn (gaggle_script kind count) 0 (gaggle_count count) []

-- Words, types and signs as they are read. (docs/formats.md, "Bit planes" and "Words and codes"; CCSDS 122.0-B-2, section 4.5.3;
-- identifiers, codes and what is refused are this project's own.)
use Rattle.std.specs.Prelude.{ℕ, ◌+◌, ◌*◌, ◌==◌, ◌&&◌, ◌||◌, Bool, false, if◌then◌else◌, List, [], ◌∷◌, length, filter, Option, Some, None}
use Rattle.item_defs.specs.Bits.{bits_of}
use Rattle.item_defs.specs.Items.{Form, fixed, refused_where, false_flag}
use Rattle.base_122.specs.declared.book.Book.{Book}
use Rattle.plane_defs.specs.Spans.{span}
use Rattle.plane_defs.specs.Codes.{option_item, word_item}
use Rattle.plane_defs.specs.Reading.{word_said}
use Rattle.plane_defs.specs.Steps.{Check, refuses, some_one_where}
use Rattle.item_defs.specs.Scripts.{Script, done, ask, then_ask, ask_bit}
use Rattle.plane_defs.specs.States.{State, with_options, with_bits, with_minus, and_one}

-- ---- options: the identifier of a length's option is written once in a gaggle and plane, before the first word of that length

abbrev pub option_form : (count : ℕ) → Form
option_form count = (option_item count 0).form

-- the option that an identifier names: only that of uncoded words of three bits has another number
abbrev pub option_named : (count number : ℕ) → ℕ
option_named count number = if (count == 3) && (number == 3) then 2 else number

abbrev pub with_option : (ℕ → Option ℕ) → (count option : ℕ) → ℕ → Option ℕ
with_option options count option n = if n == count then Some option else options n

abbrev pub option_script : (count : ℕ) → State → Option ℕ → Script State State
option_script count s (Some option) = done s
option_script count s None = ask s (option_form count) (λ number. done (with_options s (with_option s.options count (option_named count number))))

abbrev pub option_of : Option ℕ → ℕ
option_of (Some option) = option
option_of None = 0

-- ---- words: an empty word sends nothing, a word of one bit is raw, and a longer one is coded by the option of its length

abbrev pub raw_form : Check → Form
raw_form check = record { shape = fixed 1; refusal = refused_where (refuses check) false_flag }

abbrev pub word_form : Book → (count option : ℕ) → Check → Form
word_form book count option check =
    record { shape = (word_item book count option 0).form.shape; refusal = refused_where (λ said. refuses check (word_said count option said)) false_flag }

abbrev pub coded_script : Book → (count : ℕ) → Check → State → Script State (State × ℕ)
coded_script book count check s =
    let option = option_of (s.options count) in
    ask s (word_form book count option check) (λ said. done (s, word_said count option said))

-- a word of `count` bits; the words that the check refuses are false flags
abbrev pub word_script : Book → (count : ℕ) → Check → State → Script State (State × ℕ)
word_script book count check s =
    if count == 0 then done (s, 0) else
    if count == 1 then ask s (raw_form check) (λ value. done (s, value)) else
    then_ask (option_script count s (s.options count)) (coded_script book count check)

-- ---- the word of the due places among some, and the places whose bit in it is 1

abbrev pub ones : List ℕ → List Bool → ℕ → Bool
ones [] bits q = false
ones (p ∷ ps) [] q = false
ones (p ∷ ps) (b ∷ bits) q = ((q == p) && b) || ones ps bits q

abbrev pub due_script : Book → (due : ℕ → Bool) → Check → List ℕ → State → Script State (State × (ℕ → Bool))
due_script book due check places s =
    let count = length (filter due places) in
    then_ask (word_script book count check s) (λ w. done (w.0, ones (filter due places) (bits_of count w.1)))

-- ---- types and signs

-- the signs of the numbers at these positions, 1 for negative
abbrev pub signs_script : List ℕ → State → Script State State
signs_script [] s = done s
signs_script (p ∷ ps) s = ask_bit s (λ b. signs_script ps (with_minus s (and_one s.minus p b)))

-- the word of the due types at these positions, and then the sign of each number whose type is 1; if one of them must be 1, the
-- word of zeros is a false flag
abbrev pub types_script : Book → (due : ℕ → Bool) → (wanted : Bool) → List ℕ → State → Script State State
types_script book due wanted positions s =
    then_ask (due_script book due (some_one_where wanted) positions s) (λ r. signs_script (filter r.1 positions) (with_bits r.0 r.1))

-- the types of the j-th group of four positions after some, if it is sent
abbrev pub group_script : Book → (due : ℕ → Bool) → (first : ℕ) → (sent wanted : ℕ → Bool) → ℕ → State → Script State State
group_script book due first sent wanted j s = if sent j then types_script book due (wanted j) (span (first + 4 * j) 4) s else done s

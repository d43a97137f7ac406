-- How values are written. This project's own.
use Rattle.std.specs.Prelude.{◌≡◌, ◌<◌, ◌≤◌, ◌+◌, ◌^◌, ℕ, List, ◌++◌, length, map, decimal, codes, All, Bool, true, false}
use Rattle.base_122.specs.Weights.{IsShift, usual_shifts}
use Rattle.base_122.specs.declared.setting.Stop.{Stop as StopPlace}
use Rattle.base_122.specs.declared.setting.Select.{Select as Selection}
use Rattle.base_122.specs.declared.weights.Weights.{Weights as TenWeights}
use Rattle.base_122.specs.declared.setting.Select.TheVariants.{Heuristic, Optimal}
use Rattle.command_words.specs.declared.tables.Form.{Form}
use Rattle.command_words.specs.declared.tables.Form.TheVariants.{Number, Cap, Flag, Stop, Weights, Select}
use Rattle.command_words.specs.declared.values.Value.{Value}
use Rattle.command_words.specs.declared.values.Value.TheVariants.{Number as NumberValue, Cap as CapValue, Flag as FlagValue, StopDc, StopAt}
use Rattle.command_words.specs.declared.values.Value.TheVariants.{Weights as WeightsValue, Select as SelectValue}

-- a value as it is written
abbrev pub value_text : Value → List ℕ
value_text (NumberValue n) = decimal n
value_text (CapValue n) = decimal n
value_text (FlagValue false) = codes "0"
value_text (FlagValue true) = codes "1"
value_text StopDc = codes "dc"
value_text (StopAt plane stage) = decimal plane ++ codes "." ++ decimal stage
value_text (WeightsValue weights) = map (λ shift. 48 + shift) weights.shifts
value_text (SelectValue Heuristic) = codes "heuristic"
value_text (SelectValue Optimal) = codes "optimal"

-- a digit 0 to 3
abbrev pub IsWeightDigit : ℕ → Type 0
IsWeightDigit c = (48 ≤ c) × (c ≤ 51)

-- a value of this form
abbrev pub HasForm : Form → Value → Type 0
HasForm Number (NumberValue n) = n < 2 ^ 32
HasForm Cap (CapValue n) = n ≤ 2 ^ 40
HasForm Flag (FlagValue b) = Unit {0}
HasForm Stop StopDc = Unit {0}
HasForm Stop (StopAt plane stage) = (plane < 2 ^ 32) × (stage < 2 ^ 32)
HasForm Weights (WeightsValue weights) = (length weights.shifts ≡ 10) × All IsShift weights.shifts
HasForm Select (SelectValue select) = Unit {0}
HasForm form value = ⊥

-- the text is that of a value of this form
abbrev pub IsValueText : Form → List ℕ → Value → Type 0
IsValueText form text value = HasForm form value × (text ≡ value_text value)

-- the form of a value
abbrev pub form_of : Value → Form
form_of (NumberValue n) = Number
form_of (CapValue n) = Cap
form_of (FlagValue b) = Flag
form_of StopDc = Stop
form_of (StopAt plane stage) = Stop
form_of (WeightsValue weights) = Weights
form_of (SelectValue select) = Select

-- ---- what a value of each form is

abbrev pub number_of : Value → ℕ
number_of (NumberValue n) = n
number_of value = 0

abbrev pub cap_of : Value → ℕ
cap_of (CapValue n) = n
cap_of value = 0

abbrev pub flag_of : Value → Bool
flag_of (FlagValue flag) = flag
flag_of value = false

-- a stop at DC is at plane 0 and stage 3
abbrev pub stop_of : Value → StopPlace
stop_of (StopAt plane stage) = record { dc = false; plane = plane; stage = stage }
stop_of StopDc = record { dc = true; plane = 0; stage = 3 }
stop_of value = record { dc = false; plane = 0; stage = 3 }

abbrev pub weights_of : Value → TenWeights
weights_of (WeightsValue weights) = weights
weights_of value = record { shifts = usual_shifts }

abbrev pub select_of : Value → Selection
select_of (SelectValue select) = select
select_of value = Optimal

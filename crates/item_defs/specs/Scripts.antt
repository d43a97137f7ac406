-- A text as a script of questions: each item has one form, and its number determines what follows. (docs/formats.md, "Reading
-- a segment"; this project's own.)
use Rattle.std.specs.Prelude.{ℕ, zero, suc, ◌==◌, Bool, List, Option, Some, None}
use Rattle.item_defs.specs.Items.{Form, Refusal, fixed, any_number}
use Rattle.item_defs.specs.Outcomes.{Outcome, whole, cut, refused, first_number}

-- nothing follows, and this is given; or an item of this form follows, and then what its number determines: if the item is
-- cut or refused, the first is given
pub data Script (G A : Type 0) : Type 0 where
  done : A → Script G A
  ask : G → Form → (ℕ → Script G A) → Script G A

-- one script after another
abbrev pub then_ask : {G A B : Type 0} → Script G A → (A → Script G B) → Script G B
then_ask (done a) next = next a
then_ask (ask given form more) next = ask given form (λ n. then_ask (more n) next)

-- the `n` things from the j-th on, in order
abbrev pub in_turn : {S : Type 0} → (ℕ → S → Script S S) → (j n : ℕ) → S → Script S S
in_turn item j zero s = done s
in_turn item j (suc n) s = then_ask (item j s) (in_turn item (suc j) n)

-- a part is read, and put back
abbrev pub around : {S T : Type 0} → (S → T) → Script S S → Script T T
around put (done s) = done (put s)
around put (ask given form more) = ask (put given) form (λ n. around put (more n))

-- a part is read, and until all of it is there this is given
abbrev pub beside : {G H A : Type 0} → H → Script G A → Script H A
beside given (done a) = done a
beside given (ask other form more) = ask given form (λ n. beside given (more n))

-- a raw bit
abbrev pub bit_form : Form
bit_form = record { shape = fixed 1; refusal = any_number }

abbrev pub ask_bit : {G A : Type 0} → G → (Bool → Script G A) → Script G A
ask_bit given next = ask given bit_form (λ n. next (n == 1))

-- ---- a script as a function of bits

abbrev pub proceed : {G A B : Type 0} → (A → List Bool → Outcome G B) → Outcome G A → Outcome G B
proceed next (whole a left) = next a left
proceed next (cut g) = cut g
proceed next (refused g name left) = refused g name left

-- what a name, if there is one, makes of an item that these bits follow
abbrev pub unless_named : {G A : Type 0} → G → Option Refusal → (left : List Bool) → Outcome G A → Outcome G A
unless_named given (Some name) left other = refused given name left
unless_named given None left other = other

-- the outcome of an item, and of what follows it
abbrev pub answered : {G A : Type 0} → G → Form → (ℕ → List Bool → Outcome G A) → Option (ℕ × List Bool) → Outcome G A
answered given form next (Some p) = unless_named given (form.refusal p.0) p.1 (next p.0 p.1)
answered given form next None = cut given

abbrev pub run : {G A : Type 0} → Script G A → List Bool → Outcome G A
run (done a) bits = whole a bits
run (ask given form more) bits = answered given form (λ n. run (more n)) (first_number form.shape bits)

-- Identifiers of options, and identifiers that have no option.
use Rattle.std.proofs.Common.{◌≡◌, ◌<◌, ◌^◌, ℕ, refl, sym, subst, Bool, false, cond, Some, None, not}
use Rattle.item_defs.specs.Bits.{bits_of}
use Rattle.item_defs.specs.Items.{bad_option}
use Rattle.bit_pipe.specs.Sources.{SourceOf}
use Rattle.bit_pipe.specs.SourceState.{SourceState, Takes}
use Rattle.bit_pipe.specs.Reading.{stopped}
use Rattle.item_defs.specs.Readings.{whole, refused}
use Rattle.bit_pipe.specs.Answers.{IsBelow, TakesOne}
use Rattle.bit_pipe.specs.declared.fault.TextFault.TheVariants.{BadOption}
use Rattle.std.proofs.Common.{Ok, Err}
use Rattle.bit_pipe.proofs.OneItem.{one_whole, one_refused}
use Rattle.plane_defs.specs.Codes.{identifier_width, identifier_number, names_option, option_item}

if_none : (b : Bool) → b ≡ false → cond (not b) (Some bad_option) None ≡ Some bad_option
if_none b e = rw e refl

-- the identifier of an option was read
pub names_one : {I : Type 0} {k : SourceOf I} (length number option : ℕ) {a b : SourceState I} → option < length → identifier_number length option ≡ number →
    Takes k a b (bits_of (identifier_width length) number) → TakesOne k (IsBelow length) (option_item length) (Ok (Some option)) a b
names_one {I} {k} length number option {a} {b} known e p = record {
  value = option;
  known = known;
  ending = stopped whole;
  read = one_whole (option_item length option) (subst (λ n. Takes k a b (bits_of (identifier_width length) n)) (sym e) p);
  answer = refl;
}

-- a number that has no option was read; one of the options would have been next
pub names_none : {I : Type 0} {k : SourceOf I} (length number : ℕ) {a b : SourceState I} → 0 < length → number < 2 ^ identifier_width length →
    names_option length number ≡ false →
    Takes k a b (bits_of (identifier_width length) number) → TakesOne k (IsBelow length) (option_item length) (Err BadOption) a b
names_none length number some fits none p = record {
  value = 0;
  known = some;
  ending = stopped (refused 0 number bad_option);
  read = one_refused (option_item length 0) number bad_option fits (if_none (names_option length number) none) p;
  answer = refl;
}

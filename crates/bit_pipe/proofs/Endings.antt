-- What an ending says of the items read, and of the answer.
use Rattle.std.proofs.Common.{◌≡◌, ℕ, ◌+◌, ◌<◌, List, length, Ok, Err, refl, subst, Result}
use Rattle.item_defs.specs.Items.{Item}
use Rattle.item_defs.specs.Readings.{whole, ended, refused}
use Rattle.bit_pipe.specs.declared.fault.Part.{Part}
use Rattle.bit_pipe.specs.declared.fault.Part.TheVariants.{Whole, Ended}
use Rattle.bit_pipe.specs.declared.fault.TextFault.{TextFault}
use Rattle.bit_pipe.specs.Sources.{SourceOf}
use Rattle.bit_pipe.specs.SourceState.{SourceState, IsIn}
use Rattle.bit_pipe.specs.Reading.{Ending, stopped, failed, Reads, later_by, IsCut}
use Rattle.bit_pipe.specs.Answers.{part_answer, items_read}
use Rattle.bit_pipe.proofs.Taking.{in_later}

-- ---- from an answer

pub cut_read : (m n : ℕ) (e : Ending) → IsCut e → items_read m e ≡ items_read n e
cut_read m n (stopped whole) cut = absurd cut
cut_read m n (stopped (ended i)) cut = refl
cut_read m n (stopped (refused i s name)) cut = refl
cut_read m n (failed i e) cut = refl

pub in_whole : {I : Type 0} {k : SourceOf I} {items : List Item} {e : Ending} {a b : SourceState I} → IsIn a → e ≡ stopped whole → Reads k items e a b → IsIn b
in_whole {I} {k} {items} {e} {a} {b} h w p = in_later h (subst (λ x. Reads k items x a b) w p).ends

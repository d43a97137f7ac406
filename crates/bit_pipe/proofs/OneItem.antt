-- One item read.
use Rattle.std.proofs.Common.{◌≡◌, ℕ, [], ◌∷◌, arith, subst, sym, None, Some, Ok, Err}
use Rattle.item_defs.specs.Items.{Item, Refusal, item_bits, spelling, IsSaid}
use Rattle.item_defs.specs.Readings.{whole, ended, refused}
use Rattle.item_defs.proofs.Texts.{text-one}
use Rattle.bit_pipe.specs.Sources.{SourceOf}
use Rattle.bit_pipe.specs.SourceState.{SourceState, Takes, EndsItem}
use Rattle.bit_pipe.specs.Reading.{stopped, failed, Reads}
use Rattle.bit_pipe.specs.declared.fault.InFault.{InFault}

pub one_whole : {I : Type 0} {k : SourceOf I} (i : Item) {a b : SourceState I} → Takes k a b (item_bits i) → Reads k (i ∷ []) (stopped whole) a b
one_whole {I} {k} i {a} {b} p = record { ends = subst (Takes k a b) (sym (text-one i)) p }

pub one_ended : {I : Type 0} {k : SourceOf I} (i : Item) {a b : SourceState I} → EndsItem k i.form.shape (Ok None) a b →
    Reads k (i ∷ []) (stopped (ended 0)) a b
one_ended i p = record { ends = (record { within = omega arith; some = p.0.some; taken = p.0.taken; lacks = p.0.lacks }, p.1) }

pub one_failed : {I : Type 0} {k : SourceOf I} (i : Item) (e : InFault) {a b : SourceState I} → EndsItem k i.form.shape (Err e) a b →
    Reads k (i ∷ []) (failed 0 e) a b
one_failed i e p = record { ends = (record { within = omega arith; some = p.0.some; taken = p.0.taken; lacks = p.0.lacks }, p.1) }

pub one_refused : {I : Type 0} {k : SourceOf I} (i : Item) (n : ℕ) (name : Refusal) {a b : SourceState I} → IsSaid i.form.shape n →
    i.form.refusal n ≡ Some name →
    Takes k a b (spelling i.form.shape n) → Reads k (i ∷ []) (stopped (refused 0 n name)) a b
one_refused i n name said bad p = record { ends = record { within = omega arith; says = said; refuses = bad; taken = p } }

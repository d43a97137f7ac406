use Rattle.std.proofs.Common.{◌≡◌, Some, None, IfSome, refl, sym, ◌∙◌, subst}
use Rattle.code_book.proofs.Checks.{book_sound, sound_book, book_usable}
use Rattle.code_book.specs.Tests.{IsOfCodes}
use Rattle.code_book.proofs.CodeFaults.{fault_kind}
use Rattle.code_book.proofs.check.check_book.Goals as goal

pub returns-in-Some-clause-sound : goal.returns-in-Some-clause-sound
returns-in-Some-clause-sound c = (
  (λ e. absurd cc),
  (λ sound. absurd (let no : Some c.in-Some.fault ≡ None = sym c.in-Some.is ∙ c.first_fault.ensures ∙ sound_book c.args.book.now sound in cc)),
)

pub returns-in-None-clause-sound : goal.returns-in-None-clause-sound
returns-in-None-clause-sound c = ((λ e. book_sound c.args.book.now (sym c.first_fault.ensures ∙ c.in-None.is)), (λ sound. refl))

pub returns-in-None-clause-usable : goal.returns-in-None-clause-usable
returns-in-None-clause-usable c = λ e. book_usable c.args.book.now (sym c.first_fault.ensures ∙ c.in-None.is)

pub returns-in-Some-clause-kind : goal.returns-in-Some-clause-kind
returns-in-Some-clause-kind c = subst (λ o. IfSome o IsOfCodes) (sym c.first_fault.ensures ∙ c.in-Some.is) (fault_kind c.args.book.now 0 6)

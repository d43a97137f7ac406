use Rattle.std.proofs.Common.{sym, ap, refl, arith, subst, ◌∙◌, ◌≡◌, ◌<◌, ◌+◌, ◌-◌, ◌++◌, [], ◌∷◌, not, true, is_ok, if◌then◌else◌}
use Rattle.quick_look.specs.declared.gap.Gap.{Gap}
use Rattle.quick_look.specs.Gaps.{AreGaps}
use Rattle.quick_look.proofs.Keeping.{ends_none, ends_one}
use Rattle.quick_look.proofs.gaps.end_gap.Goals as goal

pub returns-in_default-clause-ended : goal.returns-in_default-clause-ended
returns-in_default-clause-ended c lost kept here refused = ends_none lost c.args.gaps.now.ended.items c.args.gaps.now.open_from c.args.gaps.now.passed
    c.in_default.is here (kept refused)

pub returns-else-is_err-clause-ended : goal.returns-else-is_err-clause-ended
returns-else-is_err-clause-ended c lost kept here refused =
    let s = c.args.gaps.now in
    let gap : Gap = record { first = c.in-Some.first; last = s.passed - 1 } in
    let ok : is_ok c.push.result ≡ true = c.is_err.ensures.negation ∙ ap not c.if-is_err.false in
    let below : c.in-Some.first < s.passed = c.requires c.if-gaps.false c.in-Some.first c.in-Some.is in
    let whole : s.passed - 1 + 1 ≡ s.passed = omega (arith, below) in
    let items = c.push.ensures.items ∙ ap (λ b. if b then s.ended.items ++ gap ∷ [] else s.ended.items) ok in
    subst (λ gaps. AreGaps lost 0 gaps (s.passed + 1)) (sym items)
    (ends_one lost s.ended.items s.open_from s.passed c.in-Some.first gap c.in-Some.is refl whole here (kept c.if-gaps.false))

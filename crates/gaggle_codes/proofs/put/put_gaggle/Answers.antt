use Rattle.std.proofs.Common.{◌≡◌, ◌∙◌, ap, arith, length-take}
use Rattle.std.proofs.lemmas.Result.{err_from_is_err_and}
use Rattle.number_defs.specs.Gaggles.{gaggle_values}
use Rattle.number_defs.specs.Choice.{choices}
use Rattle.number_defs.proofs.CellPlaces.{made_length, count_within}
use Rattle.gaggle_codes.specs.Options.{choice_of, name_of}
use Rattle.gaggle_codes.specs.Written.{heights_of}
use Rattle.gaggle_codes.proofs.Names.{name_small}
use Rattle.gaggle_codes.proofs.Chosen.{choice_is}
use Rattle.gaggle_codes.proofs.Places.{gaggle_slice}
use Rattle.gaggle_codes.proofs.GaggleParts.{identifier_cut, lead_cut, gaggle_then}
use Rattle.gaggle_codes.proofs.put.put_gaggle.Goals as goal
use Rattle.std.proofs.lemmas.Grind.{common_steps}

pub overflow_mul-gaggle : goal.overflow_mul-gaggle
overflow_mul-gaggle g c = grind (arith, common_steps, made_length, count_within)

pub overflow_add-gaggle : goal.overflow_add-gaggle
overflow_add-gaggle g c = grind (arith, common_steps, made_length, count_within)

pub put_mapped-requires-clause-option : goal.put_mapped-requires-clause-option
put_mapped-requires-clause-option g c = grind (arith, common_steps, choice_is, name_small)

pub returns-in_err-put_identifier : goal.returns-in_err-put_identifier
returns-in_err-put_identifier g c =
    let s = c.args.numbers.now in
    let N = s.range.bits in
    let hs = heights_of s in
    let values : c.map_values.new.into ≡ gaggle_values N hs c.args.gaggle = c.map_values.ensures.values ∙ gaggle_slice N hs c.args.gaggle _ _ (omega arith)
    (rw length-take (omega arith)) in
    let name : c.choose-option.result ≡ name_of N (choices (choice_of c.args.select) N hs c.args.gaggle) =
    c.choose-option.ensures ∙ ap (λ v. name_of N (choice_of c.args.select N v)) values in
    let p = err_from_is_err_and c.from_residual.result c.from_residual.ensures.1 in
    rw (p.1, p.2, ← name) (identifier_cut s.range.signed N hs c.choose-option.result c.args.gaggle c.in_err-put_identifier.ensures)

pub returns-in_err-put_lead : goal.returns-in_err-put_lead
returns-in_err-put_lead g c =
    let s = c.args.numbers.now in
    let N = s.range.bits in
    let hs = heights_of s in
    let values : c.map_values.new.into ≡ gaggle_values N hs c.args.gaggle = c.map_values.ensures.values ∙ gaggle_slice N hs c.args.gaggle _ _ (omega arith)
    (rw length-take (omega arith)) in
    let name : c.choose-option.result ≡ name_of N (choices (choice_of c.args.select) N hs c.args.gaggle) =
    c.choose-option.ensures ∙ ap (λ v. name_of N (choice_of c.args.select N v)) values in
    let p = err_from_is_err_and c.from_residual-in_err-put_lead.result c.from_residual-in_err-put_lead.ensures.1 in
    rw (p.1, p.2, ← name) (lead_cut s.range.signed N hs c.choose-option.result c.args.gaggle c.in_ok-put_identifier.ensures.ends c.in_err-put_lead.ensures)

pub returns : goal.returns
returns g c = grind (arith, common_steps, gaggle_slice, length-take, gaggle_then)

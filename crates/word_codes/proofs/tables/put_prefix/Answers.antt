use Rattle.std.proofs.Common.{◌≢◌, ◌<◌, ◌-◌, ◌*◌, ◌^◌, inl, inr, length, arith, refl, ◌∙◌, get_or-set_other, get_or-set_same, length-set}
use Rattle.std.proofs.lemmas.Bool.{cases_lt, cases_eq}
use Rattle.word_codes.proofs.WordPrefixes.{wide_is, first_is, whole_room, within_is, is_within}
use Rattle.word_codes.proofs.tables.put_prefix.Goals as goal

pub bounds-prefixes-octet : goal.bounds-prefixes-octet
bounds-prefixes-octet c =
    let wide = wide_is c.args.code.len in
    let room = whole_room c.args.code.bits c.args.code.len c.requires.few c.requires.fits in
    let first = first_is c.args.code.bits c.args.code.len c.from.result c.from.ensures in
    omega (arith, c.loop-octet-test.true, wide, room, first)

pub loop-octet-preserved : goal.loop-octet-preserved
loop-octet-preserved c =
    let i = c.loop-octet.invariant in
    let room = whole_room c.args.code.bits c.args.code.len c.requires.few c.requires.fits in
    let first = first_is c.args.code.bits c.args.code.len c.from.result c.from.ensures in
    let wide = wide_is c.args.code.len in
    let inside : c.loop-octet.octet < length c.loop-octet.prefixes = omega (arith, i.whole, c.loop-octet-test.true, wide, room, first) in
    record {
      whole = length-set c.loop-octet.prefixes _ _ ∙ i.whole;
      begun = λ octet from lt. elim (cases_eq octet c.loop-octet.octet) [
        | inl e ↦ rw (e, get_or-set_same) refl
        | inr ne ↦ rw get_or-set_other (i.begun octet from (omega arith))
      ];
      before = λ octet lt. let ne : octet ≢ c.loop-octet.octet = omega arith in rw get_or-set_other (i.before octet lt);
      after = λ octet le. let ne : octet ≢ c.loop-octet.octet = omega arith in rw get_or-set_other (i.after octet (omega arith));
    }

pub returns-clause-begun : goal.returns-clause-begun
returns-clause-begun c = λ octet small e.
    let i = c.loop-octet.invariant in
    let first = first_is c.args.code.bits c.args.code.len c.from.result c.from.ensures in
    let wide = wide_is c.args.code.len in
    let w = within_is octet c.args.code.bits (8 - c.args.code.len) e in
    i.begun octet (omega (arith, first, w.0)) (omega (arith, first, wide, w.1, c.loop-octet-test.false))

pub returns-clause-others : goal.returns-clause-others
returns-clause-others c = λ octet none.
    let i = c.loop-octet.invariant in
    let first = first_is c.args.code.bits c.args.code.len c.from.result c.from.ensures in
    let wide = wide_is c.args.code.len in
    elim (cases_lt octet (c.args.code.bits * 2 ^ (8 - c.args.code.len))) [
      | inl lt ↦ i.before octet (omega (arith, first, lt))
      | inr le ↦ elim (cases_lt octet c.loop-octet.octet) [
        | inl lt ↦ absurd (none (is_within octet c.args.code.bits (8 - c.args.code.len) le (omega (arith, first, wide, lt, c.loop-octet.auto.octet-end))))
        | inr ge ↦ i.after octet ge
      ]
    ]

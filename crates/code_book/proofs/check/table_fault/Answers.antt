use Rattle.std.proofs.Common.{◌≡◌, false, true, sym, ◌∙◌, arith, ◌==◌}
use Rattle.std.proofs.lemmas.Bool.Decides.{nat_tests}
use Rattle.code_book.specs.Tests.{room_of}
use Rattle.code_book.proofs.Checks.{codes_from, lengths_from, fault_length, fault_bits, fault_clash, fault_room, fault_none}
use Rattle.code_book.proofs.check.table_fault.Goals as goal

pub returns-in-Some : goal.returns-in-Some
returns-in-Some c = sym (fault_length c.args.table c.args.codes.now c.args.count c.in-Some.symbol (sym c.bad_length.ensures ∙ c.in-Some.is))

pub bad_bits-requires-clause-lengths : goal.bad_bits-requires-clause-lengths
bad_bits-requires-clause-lengths c = λ s lt. lengths_from c.args.table c.args.codes.now c.args.count (sym c.bad_length.ensures ∙ c.in_default.is) s lt

pub returns-in-Some-bad_bits : goal.returns-in-Some-bad_bits
returns-in-Some-bad_bits c =
    sym (fault_bits c.args.table c.args.codes.now c.args.count c.in-Some-bad_bits.symbol (sym c.bad_length.ensures ∙ c.in_default.is)
    (sym c.bad_bits.ensures ∙ c.in-Some-bad_bits.is))

pub first_clash-requires-clause-codes : goal.first_clash-requires-clause-codes
first_clash-requires-clause-codes c =
    codes_from c.args.table c.args.codes.now c.args.count (sym c.bad_length.ensures ∙ c.in_default.is) (sym c.bad_bits.ensures ∙ c.in_default-bad_bits.is)

pub returns-in-Some-first_clash : goal.returns-in-Some-first_clash
returns-in-Some-first_clash c =
    sym (fault_clash c.args.table c.args.codes.now c.args.count c.in-Some-first_clash.fault (sym c.bad_length.ensures ∙ c.in_default.is)
    (sym c.bad_bits.ensures ∙ c.in_default-bad_bits.is)
    (sym c.first_clash.ensures ∙ c.in-Some-first_clash.is))

pub room_of-requires-clause-codes : goal.room_of-requires-clause-codes
room_of-requires-clause-codes c =
    codes_from c.args.table c.args.codes.now c.args.count (sym c.bad_length.ensures ∙ c.in_default.is) (sym c.bad_bits.ensures ∙ c.in_default-bad_bits.is)

pub returns-then-room_of-ne256 : goal.returns-then-room_of-ne256
returns-then-room_of-ne256 c =
    let e : (room_of c.args.codes.now c.args.count == 256) ≡ false =
    (let value = c.room_of.ensures.value in let other = c.if-room_of-ne256.true in grind (arith, nat_tests)) in
    sym (fault_room c.args.table c.args.codes.now c.args.count (sym c.bad_length.ensures ∙ c.in_default.is) (sym c.bad_bits.ensures ∙ c.in_default-bad_bits.is)
    (sym c.first_clash.ensures ∙ c.in_default-first_clash.is) e)

pub returns : goal.returns
returns c =
    let e : (room_of c.args.codes.now c.args.count == 256) ≡ true =
    (let value = c.room_of.ensures.value in let other = c.if-room_of-ne256.false in grind (arith, nat_tests)) in
    sym (fault_none c.args.table c.args.codes.now c.args.count (sym c.bad_length.ensures ∙ c.in_default.is) (sym c.bad_bits.ensures ∙ c.in_default-bad_bits.is)
    (sym c.first_clash.ensures ∙ c.in_default-first_clash.is) e)

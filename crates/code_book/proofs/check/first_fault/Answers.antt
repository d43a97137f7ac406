use Rattle.std.proofs.Common.{refl, sym, ap, ◌∙◌, arith}
use Rattle.plane_defs.specs.Codes.{table}
use Rattle.code_book.specs.Tests.{table_fault, fault_from}
use Rattle.code_book.proofs.Checks.{symbols_at, fault_found, fault_past, fault_nowhere}
use Rattle.code_book.proofs.check.first_fault.Goals as goal

pub loop-table-init : goal.loop-table-init
loop-table-init c = refl

pub returns-then-is_some : goal.returns-then-is_some
returns-then-is_some c =
    let book = c.args.book.now in
    let i = c.loop-table.table in
    fault_found book (fault_from book 0 6) c.table_fault-fault.result i c.loop-table.invariant c.loop-table-test.true
    (c.table_fault-fault.ensures ∙ ap (table_fault i (table book i)) (symbols_at i c.loop-table-test.true)) (sym c.is_some.ensures ∙ c.if-is_some.true)

pub loop-table-preserved : goal.loop-table-preserved
loop-table-preserved c =
    let book = c.args.book.now in
    let i = c.loop-table.table in
    fault_past book (fault_from book 0 6) c.table_fault-fault.result i c.loop-table.invariant c.loop-table-test.true
    (c.table_fault-fault.ensures ∙ ap (table_fault i (table book i)) (symbols_at i c.loop-table-test.true)) (sym c.is_some.ensures ∙ c.if-is_some.false)

pub returns : goal.returns
returns c =
    let book = c.args.book.now in
    sym (fault_nowhere book (fault_from book 0 6) c.loop-table.table c.loop-table.invariant (omega (arith, c.loop-table-test.false)))

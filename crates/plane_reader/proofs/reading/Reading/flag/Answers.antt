use Rattle.std.proofs.Common.{arith}
use Rattle.plane_reader.proofs.HeldReads.{moves_passed, holds_passed}
use Rattle.plane_reader.proofs.HeldWords.{flag_later, flag_passed}
use Rattle.plane_reader.proofs.reading.Reading.flag.Goals as goal

pub returns-then-not-need-clause-flag : goal.returns-then-not-need-clause-flag
returns-then-not-need-clause-flag g c = flag_later _ c.need.ensures.stays c.flag_singly-read.ensures.flag

pub returns-clause-flag : goal.returns-clause-flag
returns-clause-flag g c =
    let cursor = c.need.new.self in
    let left = c.need.ensures.has.0 c.if-not-need.false in
    flag_passed cursor.rest (omega arith) c.need.ensures.stays
    (moves_passed {c = cursor} {d = c.pass.new.self} c.need.ensures.holds 1 left c.pass.ensures.used c.pass.ensures.window c.pass.ensures.rest
    c.need.ensures.is_in)

pub returns-clause-reading : goal.returns-clause-reading
returns-clause-reading g c =
    let left = c.need.ensures.has.0 c.if-not-need.false in
    record {
      is_in = c.need.ensures.is_in;
      holds = holds_passed {c = c.need.new.self} {d = c.pass.new.self} c.need.ensures.holds 1 left c.pass.ensures.used c.pass.ensures.window
          c.pass.ensures.rest;
      options = c.requires.reading.options;
      rows = c.requires.reading.rows;
    }

pub returns-clause-holds : goal.returns-clause-holds
returns-clause-holds g c =
    let left = c.need.ensures.has.0 c.if-not-need.false in
    holds_passed {c = c.need.new.self} {d = c.pass.new.self} c.need.ensures.holds 1 left c.pass.ensures.used c.pass.ensures.window c.pass.ensures.rest

use Rattle.std.proofs.Common.{inl, inr, arith, refl}
use Rattle.plane_reader.proofs.HeldReads.{read_nothing, stays_empty, some_read}
use Rattle.plane_reader.specs.declared.cursor.Cursor.{Cursor}
use Rattle.plane_reader.proofs.cursor.Cursor.close.Goals as goal
use Rattle.plane_reader.proofs.cursor.Cursor.close.Goals.{else-self-gt0-via-then-self-gt0+else-self-le-HELD, else-self-gt0-via-else-self-gt0}

pub returns-else-self-gt0-clause-stays : goal.returns-else-self-gt0-clause-stays
returns-else-self-gt0-clause-stays g c =
    let closed : Cursor = record { window = 0; rest = 0; used = 128 } in
    elim c.else-self-gt0.branch [
      | else-self-gt0-via-then-self-gt0+else-self-le-HELD w ↦ stays_empty c.args.self.now closed c.requires.is_in
          (read_nothing c.args.self.now (inr (omega arith))) refl
      | else-self-gt0-via-else-self-gt0 w ↦ stays_empty c.args.self.now closed c.requires.is_in (read_nothing c.args.self.now (inl (omega arith))) refl
    ]

pub returns-then-self-le-HELD-clause-kept : goal.returns-then-self-le-HELD-clause-kept
returns-then-self-le-HELD-clause-kept g c = λ none. absurd (some_read c.args.self.now c.if-self-gt0.true c.if-self-le-HELD.true none)

-- The outside of a port that reports nothing and never fails. This project's own.
use Rattle.std.specs.Prelude.{None}
use Rattle.port_122.specs.Outside.{Outside}

abbrev pub unknown : Outside
unknown = record {
  rest = None;
  taken = None;
  given = None;
  noted = None;
  asked = None;
  read_faults = 0;
  write_faults = 0;
  note_faults = 0;
}

-- A port over readers and writers. This project's own.
use Rattle.std.specs.Prelude.{None}
use Rattle.port_122.specs.Outside.{Outside}
use Rattle.port_122.specs.declared.standard.StdPort.{StdPort}

-- it reports no octets, and has its counts of faults
abbrev pub outside_of : {I O N : Type 0} → StdPort I O N → Outside
outside_of port = record {
  rest = None;
  taken = None;
  given = None;
  noted = None;
  asked = None;
  read_faults = port.read_faults;
  write_faults = port.write_faults;
  note_faults = port.note_faults;
}

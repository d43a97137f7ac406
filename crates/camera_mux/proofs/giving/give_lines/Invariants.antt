use Rattle.std.proofs.Common.{[], take}
use Rattle.port_122.specs.Outside.{Exchange, NoRead}
use Rattle.camera_mux.specs.ImageLines.{lines_of}
use Rattle.camera_mux.proofs.giving.give_lines.Given as goal

abbrev pub invariant-loop-entry : goal.invariant-loop-entry
invariant-loop-entry g l = Exchange (g.X.Port.outside l.initial.port) (g.X.Port.outside l.port) [] (lines_of (take l.entry-index l.entries)) [] NoRead

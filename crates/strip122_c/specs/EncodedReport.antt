-- A report of nothing, and the numbers of fields. This project's own.
use Rattle.std.specs.Prelude.{ℕ, pos}
use Rattle.base_122.specs.declared.field.Field.{Field}
use Rattle.base_122.specs.declared.field.Field.TheVariants.{Width, Rows, Depth, Segment, Limit, Fill, Word, Stop, Weights, Apid, Image, Packet, Pixels}
use Rattle.base_122.specs.declared.field.Field.TheVariants.{Octets, Total, Cameras}
use Rattle.strip122_c.specs.declared.encoded.Strip122Encoded.{Strip122Encoded}

-- the fields from 1 on, in the order of `Field`; a setting as C has it has none of `Pixels`, `Octets` and `Cameras`
abbrev pub field_number : Field → ℕ
field_number Width = 1
field_number Rows = 2
field_number Depth = 3
field_number Segment = 4
field_number Limit = 5
field_number Fill = 6
field_number Word = 7
field_number Stop = 8
field_number Weights = 9
field_number Apid = 10
field_number Image = 11
field_number Packet = 12
field_number Pixels = 13
field_number Octets = 14
field_number Total = 15
field_number Cameras = 16

-- the size of a report
abbrev pub encoded_size : ℕ
encoded_size = 48

abbrev pub nothing : Strip122Encoded
nothing = record { size = encoded_size; field = 0; octets = 0; all = 0; packets = 0; segments = 0; rows = 0; column = 0; value = pos 0 }

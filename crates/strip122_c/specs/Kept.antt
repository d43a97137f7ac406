-- The memory that C lends from call to call. This project's own.
use base.Fraction.{full_share}
use base.Fml.{Fml, ftrue, fsep, fex}
use denote.RawPtr.{Ptr, lies_at}
use Rattle.strip122_c.specs.declared.encoder.Strip122Encoder.{Strip122Encoder}
use Rattle.strip122_c.specs.contracts.encoder.Strip122Encoder.{the_row}

-- at p is a place of an encoder of which P is valid
abbrev pub kept : Ptr → (Strip122Encoder → Type 0) → Fml
kept p P = fex Strip122Encoder (λ x. fsep (fex (P x) (λ _. ftrue)) (lies_at the_row full_share p x))

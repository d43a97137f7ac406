-- The bound of a text.
use Rattle.std.specs.Prelude.{ℕ, ◌^◌, ◌==◌, if◌then◌else◌}

-- the bound in octets: a limit of 0 is 2 ^ 32
abbrev pub bound_of : ℕ → ℕ
bound_of limit = if limit == 0 then 2 ^ 32 else limit

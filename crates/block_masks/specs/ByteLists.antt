-- Eight bits of sixteen magnitudes. (This project's own.)
use Rattle.std.specs.Prelude.{ℕ, ◌+◌, ◌*◌, ◌/◌, ◌%◌, ◌^◌, ℤ, List, map}
use Rattle.std.specs.List.{range_with_len}
use Rattle.plane_defs.specs.Sets.{magnitude}

-- those from weight 2^from on, doubled this number of times
abbrev pub bytes_in : List ℤ → (start from doublings : ℕ) → List ℕ
bytes_in block start from doublings = map (λ k. magnitude block (start + k) / 2 ^ from * 2 ^ doublings % 256) (range_with_len 0 16)

-- A block of which the planes are read: its DC, and no AC numbers.
use Rattle.std.proofs.Common.{◌≡◌, ℕ, zero, suc, ◌+◌, ◌*◌, ◌/◌, ◌%◌, ◌^◌, ◌<◌, ◌≤◌, min, ℤ, pos, List, [], ◌∷◌, length, ap, ◌∙◌, refl, arith, get_or}
use Rattle.std.proofs.Common.{replicate, unsigned_abs, pow_pos}
use Rattle.std.proofs.lemmas.List.FromFn.{length-map-range_with_len, get_or-map-range_with_len}
use Rattle.wave_defs.specs.Held.{block_at, blocks_in}
use Rattle.wave_defs.proofs.Equations.{blocks_in-is}
use Rattle.plane_defs.specs.StepLaws.{IsAc}
use Rattle.plane_reader.specs.Above.{AwaitDcs, HasNoAcs, HasNoneBelow}

-- a DC and zeros
abbrev pub with_dc : ℤ → List ℤ
with_dc dc = dc ∷ replicate 63 (pos 0)

zeros : (n i : ℕ) → get_or (replicate n (pos 0)) i (pos 0) ≡ pos 0
zeros zero i = refl
zeros (suc n) zero = refl
zeros (suc n) (suc i) = zeros n i

pub has_no_acs : (dc : ℤ) → HasNoAcs (with_dc dc)
has_no_acs dc r p known ac =
    let first : r ≡ 0 = omega (arith, known) in
    rw first (none p ac)
  where
    none : (p : ℕ) → IsAc p → get_or (with_dc dc) p (pos 0) ≡ pos 0
    none zero ac = absurd (let first = ac.0 in omega (arith, first))
    none (suc i) ac = zeros 63 i

-- a DC that is a multiple has no bit below
multiple_has_none : (plane : ℕ) (dc : ℤ) → unsigned_abs dc % 2 ^ plane ≡ 0 → HasNoneBelow plane dc
multiple_has_none plane dc even = record {
  part = unsigned_abs dc / 2 ^ plane;
  whole = (let some = pow_pos plane in grind arith);
}

pub dc_awaits : (below q : ℕ) (dc : ℤ) → unsigned_abs dc % 2 ^ min below q ≡ 0 → AwaitDcs below q (blocks_in (with_dc dc))
dc_awaits below q dc even r lt =
    let one : length (blocks_in (with_dc dc)) ≡ 1 = ap length (blocks_in-is (with_dc dc)) in
    let first : r ≡ 0 = omega (arith, lt, one) in
    rw first (rw (blocks_in-is (with_dc dc)) (multiple_has_none (min below q) dc even))

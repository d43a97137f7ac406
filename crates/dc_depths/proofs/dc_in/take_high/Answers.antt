use Rattle.std.proofs.Common.{◌≡◌, ◌≤◌, ◌^◌, ◌∙◌, ℕ, ℤ, sym, ap, arith, w32, to_z, of_z, pos, ◌-ℤ◌, neg_ℤ, pow_mono, unsigned_abs}
use Rattle.std.proofs.lemmas.Int.{ints, to_z-of_z, fits_signed_from_abs}
use Rattle.std.proofs.lemmas.Result.{err_from_is_err_and}
use Rattle.number_defs.specs.DcPart.{dc_q, dc_bits}
use Rattle.number_defs.proofs.DcBits.{q_small}
use Rattle.number_defs.specs.DcLows.{no_dcs}
use Rattle.dc_depths.specs.Dcs.{block_count}
use Rattle.dc_depths.proofs.Lows.{no_lows}
use Rattle.dc_depths.proofs.DcReads.{raw_high, zero_room, raw_room, coded_high, coded_room}
use Rattle.dc_depths.proofs.dc_in.take_high.Goals as goal

-- the weight of the number's bit
weight : (q m : ℕ) (z : ℤ) → q ≤ 27 → z ≡ pos (2 ^ m) → m ≡ q → to_z w32 (of_z w32 (pos 0 -ℤ to_z w32 (of_z w32 z))) ≡ neg_ℤ (pos (2 ^ q))
weight q m z small e f =
    let most : 2 ^ q ≤ 2 ^ 27 = pow_mono small in
    let is : z ≡ pos (2 ^ q) = e ∙ ap (λ n. pos (2 ^ n)) f in
    let power = to_z-of_z w32 z (fits_signed_from_abs w32 z (rw is (omega (arith, ints, most)))) ∙ is in
    let below : pos 0 -ℤ pos (2 ^ q) ≡ neg_ℤ (pos (2 ^ q)) = omega (arith, ints) in
    rw (power, below) (to_z-of_z w32 (neg_ℤ (pos (2 ^ q))) (fits_signed_from_abs w32 (neg_ℤ (pos (2 ^ q))) (omega (arith, ints, most))))

size_of : (n : ℕ) → unsigned_abs (neg_ℤ (pos n)) ≡ n
size_of n = omega (arith, ints)

pub take_bits-requires-clause-room : goal.take_bits-requires-clause-room
take_bits-requires-clause-room g c =
    let plan = c.args.plan.now in
    let q = dc_q plan.depth_dc plan.depth_ac plan.shift in
    let small = q_small plan.depth_dc plan.depth_ac plan.shift c.requires.dc c.requires.shift in
    let most : 2 ^ q ≤ 2 ^ 27 = pow_mono small in
    rw (weight q c.q-q.result c.power.result small c.power.ensures c.q-q.ensures, size_of (2 ^ q)) (zero_room (2 ^ q) (omega (arith, most)) c.clear.ensures)

pub returns-then-bits-eq1-clause-takes : goal.returns-then-bits-eq1-clause-takes
returns-then-bits-eq1-clause-takes g c =
    let plan = c.args.plan.now in
    let N = dc_bits plan.depth_dc plan.depth_ac plan.shift in
    let q = dc_q plan.depth_dc plan.depth_ac plan.shift in
    let one : N ≡ 1 = sym c.bits-bits.ensures.is ∙ c.if-bits-eq1.true in
    let small = q_small plan.depth_dc plan.depth_ac plan.shift c.requires.dc c.requires.shift in
    raw_high N q one (rw (weight q c.q-q.result c.power.result small c.power.ensures c.q-q.ensures, c.q-q.ensures) at
    (c.take_bits.ensures.takes q no_dcs c.args.blocks.now c.clear.ensures (rw c.q-q.ensures (no_lows q (block_count c.args.blocks.now)))))

pub returns-then-bits-eq1-clause-room : goal.returns-then-bits-eq1-clause-room
returns-then-bits-eq1-clause-room g c =
    let plan = c.args.plan.now in
    let q = dc_q plan.depth_dc plan.depth_ac plan.shift in
    let small = q_small plan.depth_dc plan.depth_ac plan.shift c.requires.dc c.requires.shift in
    let t = c.take_bits.ensures.takes q no_dcs c.args.blocks.now c.clear.ensures (rw c.q-q.ensures (no_lows q (block_count c.args.blocks.now))) in
    raw_room (2 ^ q) (pow_mono small) c.clear.ensures t.cells.size
    (rw (weight q c.q-q.result c.power.result small c.power.ensures c.q-q.ensures, size_of (2 ^ q)) at c.take_bits.ensures.grows)

pub returns-in_err-part-clause-takes : goal.returns-in_err-part-clause-takes
returns-in_err-part-clause-takes g c =
    let plan = c.args.plan.now in
    let N = dc_bits plan.depth_dc plan.depth_ac plan.shift in
    let p = err_from_is_err_and c.from_residual.result c.from_residual.ensures.1 in
    let t = rw (c.bits-bits.ensures.is, c.q-q.ensures) at c.in_err-part.ensures in
    rw (p.1, p.2) (coded_high N (dc_q plan.depth_dc plan.depth_ac plan.shift) _ (omega (arith, c.bits-bits.ensures)) t)

pub returns-in_err-part-clause-room : goal.returns-in_err-part-clause-room
returns-in_err-part-clause-room g c =
    let plan = c.args.plan.now in
    let N = dc_bits plan.depth_dc plan.depth_ac plan.shift in
    let small = q_small plan.depth_dc plan.depth_ac plan.shift c.requires.dc c.requires.shift in
    let t = rw (c.bits-bits.ensures.is, c.q-q.ensures) at c.in_err-part.ensures in
    coded_room N (dc_q plan.depth_dc plan.depth_ac plan.shift) _ (omega (arith, c.bits-bits.ensures)) t (omega (arith, small, c.requires.dc))

pub returns-clause-takes : goal.returns-clause-takes
returns-clause-takes g c =
    let plan = c.args.plan.now in
    let N = dc_bits plan.depth_dc plan.depth_ac plan.shift in
    let t = rw (c.bits-bits.ensures.is, c.q-q.ensures) at c.in_ok-part.ensures in
    rw c.q-q.ensures (coded_high N (dc_q plan.depth_dc plan.depth_ac plan.shift) _ (omega (arith, c.bits-bits.ensures)) t)

pub returns-clause-room : goal.returns-clause-room
returns-clause-room g c =
    let plan = c.args.plan.now in
    let N = dc_bits plan.depth_dc plan.depth_ac plan.shift in
    let small = q_small plan.depth_dc plan.depth_ac plan.shift c.requires.dc c.requires.shift in
    let t = rw (c.bits-bits.ensures.is, c.q-q.ensures) at c.in_ok-part.ensures in
    coded_room N (dc_q plan.depth_dc plan.depth_ac plan.shift) _ (omega (arith, c.bits-bits.ensures)) t (omega (arith, small, c.requires.dc))

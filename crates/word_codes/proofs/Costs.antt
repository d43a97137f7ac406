-- A sum over a span, one position more.
use Rattle.std.proofs.Common.{◌≡◌, ℕ, ◌+◌, ◌*◌, ◌<◌, ◌≤◌, List, arith, take, get_or, length, ap, zero-add, sum, sum_by}
use Rattle.std.proofs.lemmas.Grind.{common_steps}
use Rattle.plane_defs.specs.Spans.{span}
use Rattle.plane_defs.proofs.SpanLists.{sum_by-span-suc, sum_by-span-none}

pub ruleset costs = (sum_by-span-none)

pub cost_step : (f : ℕ → ℕ) (total s x : ℕ) → total ≡ sum_by f (span 0 s) → x ≡ f s → total + x ≡ sum_by f (span 0 (s + 1))
cost_step f total s x so_far here =
    let more = sum_by-span-suc f 0 s in
    let place : f (0 + s) ≡ f s = ap f (zero-add s) in omega arith

pub bound_step : (counts : List ℕ) (total s len : ℕ) → s < length counts → len ≤ 255 → total ≤ 255 * sum (take s counts) →
    total + get_or counts s 0 * len ≤ 255 * sum (take (s + 1) counts)
bound_step counts total s len within small so_far =
    let more : sum (take (s + 1) counts) ≡ sum (take s counts) + get_or counts s 0 = grind (arith, common_steps) in
    let part : get_or counts s 0 * len ≤ get_or counts s 0 * 255 = grind arith in omega arith

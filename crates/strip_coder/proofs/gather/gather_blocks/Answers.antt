use Rattle.std.proofs.Common.{rules, ◌≡◌, ◌<◌, ◌≤◌, ◌+◌, ◌-◌, ◌*◌, ℕ, ℤ, List, length, take, drop, arith, ap, subst, ◌∙◌, length-append, length-take}
use Rattle.wave_defs.specs.Held.{block_at}
use Rattle.block_families.specs.Places.{gathered}
use Rattle.wave_strip.specs.Strip.{number_in}
use Rattle.strip_coder.specs.Steps.{PutsBlocks}
use Rattle.strip_coder.proofs.BlockPuts.{weighted_small, gathered_bounded, length-gathered, next_put, puts_block}
use Rattle.strip_coder.proofs.gather.gather_blocks.Goals as goal

-- the numbers of a block, as a slice of them
sliced : (xs : List ℤ) (k : ℕ) (made : List ℤ) → block_at xs k ≡ made → take (64 * k + 64 - 64 * k) (drop (64 * k) xs) ≡ made
sliced xs k made is = (let size : 64 * k + 64 - 64 * k ≡ 64 = omega arith in ap (λ n. take n (drop (64 * k) xs)) size ∙ is)

pub gather_run-requires-clause-fits : goal.gather_run-requires-clause-fits
gather_run-requires-clause-fits c k i few low =
    let inside : k < c.args.count = omega (arith, few, length-take {A = ℤ}) in
    let small = weighted_small c.args.strip.now c.args.weights.now.shifts (c.args.column + k) i c.requires.weights
    (omega (arith, c.requires.columns, inside)) low in
    omega (arith, small)

pub push-requires-clause-bounded : goal.push-requires-clause-bounded
push-requires-clause-bounded c =
    let k = c.loop-k.k in
    let new = c.gather_run.new.into in
    let size : 64 * c.args.count ≤ length new = search rules in
    let made = sliced new k (gathered (number_in c.args.strip.now) c.args.weights.now.shifts (c.args.column + k))
    (c.gather_run.ensures k (omega (arith, size, c.gather_run.auto.into, c.loop-k-test.true))) in
    gathered_bounded c.args.strip.now c.args.weights.now.shifts (c.args.column + k) _ c.requires.weights
    (omega (arith, c.requires.columns, c.loop-k-test.true)) made

pub loop-k-preserved : goal.loop-k-preserved
loop-k-preserved c =
    let k = c.loop-k.k in
    let new = c.gather_run.new.into in
    let so_far = c.loop-k.invariant in
    let numbers : ℕ → List ℤ = λ j. gathered (number_in c.args.strip.now) c.args.weights.now.shifts (c.args.column + j) in
    let size : 64 * c.args.count ≤ length new = search rules in
    let made = sliced new k (numbers k) (c.gather_run.ensures k (omega (arith, size, c.gather_run.auto.into, c.loop-k-test.true))) in
    let long : length (numbers k) ≡ 64 = length-gathered (number_in c.args.strip.now) c.args.weights.now.shifts (c.args.column + k) in
    record {
      most = c.push.ensures.most ∙ so_far.most;
      long = ap length c.push.ensures.numbers ∙ length-append c.loop-k.blocks.numbers (take (64 * k + 64 - 64 * k) (drop (64 * k) new))
          ∙ (let here = ap length made in let before = so_far.long in omega (arith, here, before, long));
      puts = λ place held.
          let before = so_far.puts place held in
          next_put {numbers = numbers} place k c.args.blocks.now.numbers c.loop-k.blocks.numbers c.push.new.self.numbers before
          (puts_block c.args.strip.now c.args.weights.now.shifts (c.args.column + k) (place + k) c.loop-k.blocks.numbers c.push.new.self.numbers _ made
          c.push.ensures.numbers before.long);
    }

pub returns-clause-puts : goal.returns-clause-puts
returns-clause-puts c place held =
    let numbers : ℕ → List ℤ = λ j. gathered (number_in c.args.strip.now) c.args.weights.now.shifts (c.args.column + j) in
    let all : c.loop-k.k ≡ c.args.count = omega (arith, c.loop-k-test.false, c.loop-k.auto.k-end) in
    subst (λ n. PutsBlocks place n c.args.blocks.now.numbers c.loop-k.blocks.numbers numbers) all (c.loop-k.invariant.puts place held)

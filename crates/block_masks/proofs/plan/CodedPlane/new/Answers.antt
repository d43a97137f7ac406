use Rattle.std.proofs.Common.{ℕ, Bool, zero, suc, ◌<◌, [], ◌∷◌, arith, get_or}
use Rattle.plane_defs.specs.Sets.{coded}
use Rattle.block_masks.specs.SetMasks.{AreQuads}
use Rattle.block_masks.proofs.plan.CodedPlane.new.Goals as goal

three_quads : (f : ℕ → Bool) (a b c : ℕ) → AreQuads f 0 a → AreQuads f 1 b → AreQuads f 2 c → (i : ℕ) → i < 3 → AreQuads f i (get_or (a ∷ b ∷ c ∷ []) i 0)
three_quads f a b c p q r zero below = p
three_quads f a b c p q r (suc zero) below = q
three_quads f a b c p q r (suc (suc zero)) below = r
three_quads f a b c p q r (suc (suc (suc i))) below = absurd (omega arith)

pub invariant_of-result : goal.invariant_of-result
invariant_of-result c =
    let f = coded c.args.plan.now.weights.shifts c.args.plan.now.plane in
    let shown = c.coded_positions-coded.ensures in
    record {
      low = c.requires;
      shown = shown;
      live_shown = c.of.ensures f shown;
      quads_shown = three_quads f _ _ _ (c.quads_of.ensures f shown) (c.quads_of-2.ensures f shown) (c.quads_of-3.ensures f shown);
    }

use Rattle.std.proofs.Common.{ℕ, ◌≡◌, Bool, ap, sym, ◌∙◌, arith}
use Rattle.std.specs.List.{list_any}
use Rattle.plane_defs.specs.declared.sets.Set.TheVariants.{Quad}
use Rattle.plane_defs.specs.Spans.{span}
use Rattle.plane_defs.specs.Sets.{members}
use Rattle.block_masks.proofs.sets.quads_of.Goals as goal

at : (f : ℕ → Bool) {b : Bool} (s t : ℕ) → s ≡ t → b ≡ list_any f (span s 4) → list_any f (span t 4) ≡ b
at f s t e is = sym (is ∙ ap (λ n. list_any f (span n 4)) e)

pub returns : goal.returns
returns c f shown = record {
  shown = c.four.ensures.if_known (λ (j : ℕ). list_any f (members (Quad c.args.i j)))
      (at f _ _ (omega arith) (c.is_any_of.ensures f shown)) (at f _ _ (omega arith) (c.is_any_of-2.ensures f shown))
      (at f _ _ (omega arith) (c.is_any_of-3.ensures f shown)) (at f _ _ (omega arith) (c.is_any_of-4.ensures f shown));
}

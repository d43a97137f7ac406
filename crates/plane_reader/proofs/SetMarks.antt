-- The sets of a block by masks, as the scripts of stages name them.
use Rattle.std.proofs.Common.{◌≡◌, ℕ, ◌+◌, ◌<◌, Bool, true, false, not, ◌&&◌, ◌||◌, ℤ, List, refl, ap, sym, ◌∙◌}
use Rattle.std.specs.List.{list_any}
use Rattle.item_defs.specs.Bits.{bit}
use Rattle.plane_defs.specs.declared.sets.Set.{Set}
use Rattle.plane_defs.specs.Sets.{significant, coded, members, live, IsKnown}
use Rattle.plane_defs.proofs.Above.{members_acs, any_alike}
use Rattle.plane_defs.proofs.Equations.{live-is, set_significant-is}
use Rattle.block_masks.specs.Masks.{Shows}
use Rattle.plane_defs.specs.StageScripts.{Terms, above, is_due}
use Rattle.plane_reader.specs.Blocks.{IsAbove}

-- the same at these positions
pub shows_range : {m start count : ℕ} {f g : ℕ → Bool} → ((k : ℕ) → k < count → f (start + k) ≡ g (start + k)) → Shows m f start count → Shows m g start count
shows_range same s = record { at = λ k lt. s.at k lt ∙ same k lt; small = s.small }

-- what is not significant above, is live, and is enclosed
due_turned : (a b c : Bool) → ((not a && b) && c) ≡ (c && (not a && b))
due_turned true true true = refl
due_turned true true false = refl
due_turned true false true = refl
due_turned true false false = refl
due_turned false true true = refl
due_turned false true false = refl
due_turned false false true = refl
due_turned false false false = refl

module _ (t : Terms) (block : List ℤ) (mask : ℕ) (marked : IsAbove mask block t.plane) where
  -- a mask of the AC numbers that are significant above gives the same for sets
  pub was_set : (s : Set) → IsKnown s → list_any (bit mask) (members s) ≡ above t block s
  was_set s known = any_alike (bit mask) (significant block (t.plane + 1)) (members s) (members_acs s known) marked ∙
      sym (set_significant-is block (t.plane + 1) s)

  pub live_set : (s : Set) → list_any (coded t.weights t.plane) (members s) ≡ live t.weights t.plane s
  live_set s = sym (live-is t.weights t.plane s)

  -- whether the flag of a set is due
  pub due_set : (s : Set) → IsKnown s → (enclosing : Bool) → ((not (list_any (bit mask) (members s)) && list_any (coded t.weights t.plane)
      (members s)) && enclosing) ≡ is_due t block s enclosing
  due_set s known enclosing =
      (λ i. (not (was_set s known i) && live_set s i) && enclosing) ∙ due_turned (above t block s) (live t.weights t.plane s) enclosing

  pub is_set : (s : Set) → IsKnown s → (new : Bool) → (list_any (bit mask) (members s) || new) ≡ (above t block s || new)
  is_set s known new = ap (λ b. b || new) (was_set s known)

pub turned : (a b : Bool) → (a && b) ≡ (b && a)
turned true true = refl
turned true false = refl
turned false true = refl
turned false false = refl

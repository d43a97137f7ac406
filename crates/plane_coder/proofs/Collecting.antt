-- The words of a gaggle, block by block.
use Rattle.std.proofs.Common.{◌≡◌, ℕ, ◌+◌, ◌*◌, cond, List, [], refl, subst, arith, flat_map}
use Rattle.plane_defs.specs.declared.entries.Entry.{Entry}
use Rattle.plane_defs.specs.declared.stages.Stage.{Stage}
use Rattle.plane_defs.specs.declared.stages.Stage.TheVariants.{Parents, Children, Grandchildren}
use Rattle.plane_defs.specs.Spans.{span}
use Rattle.plane_defs.specs.Planes.{Plane, of_block, gaggle_size, of_gaggle}
use Rattle.plane_coder.specs.declared.collect.GaggleWords.{GaggleWords}
use Rattle.plane_coder.specs.Listed.{AreAlike, listed}
use Rattle.plane_coder.specs.Collected.{Collects, HasWords, AreFew, wants}
use Rattle.plane_coder.proofs.Listing.{lists_wanted, alike_start, alike_more}

pub collects_same : {wanted : ℕ} {a b : GaggleWords} {f g : Stage → List Entry} → ((s : Stage) → f s ≡ g s) → Collects wanted a b f → Collects wanted a b g
collects_same same p = record {
  parents = lists_wanted refl (same Parents) p.parents;
  children = lists_wanted refl (same Children) p.children;
  grandchildren = lists_wanted refl (same Grandchildren) p.grandchildren;
}

-- what this number of blocks sends in a stage, if it is wanted
abbrev pub asked : Plane → (wanted number : ℕ) → Stage → (start n : ℕ) → List Entry
asked p wanted number stage start n = flat_map (λ r. cond (wants wanted number) (of_block p stage r) []) (span start n)

-- the words of this number of blocks were found
pub record SoFar (p : Plane) (wanted start n : ℕ) (words : GaggleWords) : Type 0 where
  pub parents : AreAlike (listed words.parents) (asked p wanted 1 Parents start n)
  pub children : AreAlike (listed words.children) (asked p wanted 2 Children start n)
  pub grandchildren : AreAlike (listed words.grandchildren) (asked p wanted 3 Grandchildren start n)
  pub few : AreFew words n

module _ (p : Plane) (wanted start : ℕ) where
  pub none_found : (words : GaggleWords) → words.parents.count ≡ 0 → words.children.count ≡ 0 → words.grandchildren.count ≡ 0 → SoFar p wanted start 0 words
  none_found words x y z = record {
    parents = alike_start words.parents _ start x;
    children = alike_start words.children _ start y;
    grandchildren = alike_start words.grandchildren _ start z;
    few = record { parents = omega (arith, x); children = omega (arith, y); grandchildren = omega (arith, z) };
  }

  pub more_found : {a b : GaggleWords} (n : ℕ) → SoFar p wanted start n a → Collects wanted a b (λ stage. of_block p stage (start + n)) →
      SoFar p wanted start (n + 1) b
  more_found n so p = record {
    parents = alike_more _ start n 1 so.parents p.parents;
    children = alike_more _ start n 5 so.children p.children;
    grandchildren = alike_more _ start n 16 so.grandchildren p.grandchildren;
    few = record {
      parents = omega (arith, so.few.parents, p.parents.more);
      children = omega (arith, so.few.children, p.children.more);
      grandchildren = omega (arith, so.few.grandchildren, p.grandchildren.more);
    };
  }

pub all_found : (p : Plane) (wanted g n : ℕ) (words : GaggleWords) → n ≡ gaggle_size p g → SoFar p wanted (16 * g) n words →
    HasWords wanted (λ stage. of_gaggle p stage g) words
all_found p wanted g n words all so =
    record {
      parents = λ is. subst (λ m. AreAlike (listed words.parents) (flat_map (of_block p Parents) (span (16 * g) m))) all
          (subst (λ b. AreAlike (listed words.parents) (flat_map (λ r. cond b (of_block p Parents r) []) (span (16 * g) n))) is so.parents);
      children = λ is. subst (λ m. AreAlike (listed words.children) (flat_map (of_block p Children) (span (16 * g) m))) all
          (subst (λ b. AreAlike (listed words.children) (flat_map (λ r. cond b (of_block p Children r) []) (span (16 * g) n))) is so.children);
      grandchildren = λ is. subst (λ m. AreAlike (listed words.grandchildren) (flat_map (of_block p Grandchildren) (span (16 * g) m))) all
          (subst (λ b. AreAlike (listed words.grandchildren) (flat_map (λ r. cond b (of_block p Grandchildren r) []) (span (16 * g) n))) is so.grandchildren);
    }

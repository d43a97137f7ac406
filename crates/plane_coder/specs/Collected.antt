-- The words of a gaggle, stage by stage: of all three stages, or of only one.
use Rattle.std.specs.Prelude.{◌≡◌, ◌≤◌, ℕ, ◌*◌, ◌==◌, ◌||◌, ◌⊎◌, Bool, true, List, [], cond}
use Rattle.plane_defs.specs.declared.entries.Entry.{Entry}
use Rattle.plane_defs.specs.declared.stages.Stage.{Stage}
use Rattle.plane_defs.specs.declared.stages.Stage.TheVariants.{Parents, Children, Grandchildren}
use Rattle.plane_coder.specs.declared.collect.GaggleWords.{GaggleWords}
use Rattle.plane_coder.specs.Listed.{AreAlike, Lists, listed}

-- a stage in which only raw bits are sent: the first or the last
abbrev pub HasNoWords : ℕ → Type 0
HasNoWords number = (number ≡ 0) ⊎ (number ≡ 4)

-- all stages are wanted, or the one of this number
abbrev pub wants : (wanted number : ℕ) → Bool
wants wanted number = wanted == 0 || wanted == number

-- the words of a block in the wanted stages were added
pub record Collects (wanted : ℕ) (old new : GaggleWords) (sent : Stage → List Entry) : Type 0 where
  pub parents : Lists old.parents new.parents (cond (wants wanted 1) (sent Parents) []) 1
  pub children : Lists old.children new.children (cond (wants wanted 2) (sent Children) []) 5
  pub grandchildren : Lists old.grandchildren new.grandchildren (cond (wants wanted 3) (sent Grandchildren) []) 16

-- these are the words of the wanted stages
pub record HasWords (wanted : ℕ) (sent : Stage → List Entry) (words : GaggleWords) : Type 0 where
  pub parents : wants wanted 1 ≡ true → AreAlike (listed words.parents) (sent Parents)
  pub children : wants wanted 2 ≡ true → AreAlike (listed words.children) (sent Children)
  pub grandchildren : wants wanted 3 ≡ true → AreAlike (listed words.grandchildren) (sent Grandchildren)

-- there are at most the words of this number of blocks
pub record AreFew (words : GaggleWords) (blocks : ℕ) : Type 0 where
  pub parents : words.parents.count ≤ blocks
  pub children : words.children.count ≤ 5 * blocks
  pub grandchildren : words.grandchildren.count ≤ 16 * blocks

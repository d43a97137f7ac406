-- The options of the gaggles are chosen, and no word was sent.
use Rattle.std.specs.Prelude.{◌≡◌, ◌<◌, ℕ, ◌*◌, ℤ, false, List, [], ◌∷◌, length}
use Rattle.base_122.specs.declared.book.Book.{Book}
use Rattle.plane_defs.specs.Planes.{Plane, chosen}
use Rattle.plane_defs.specs.Marks.{depths_of}
use Rattle.block_masks.specs.Gaggles.{AreOptions, options_at, sent_at}

pub record HasOptions (book : Book) (p : Plane) (marks : List ℤ) (g : ℕ) : Type 0 where
  pub options : options_at marks g ≡ chosen book p g
  pub known : AreOptions (options_at marks g)
  pub fresh : sent_at marks g ≡ false ∷ false ∷ false ∷ []

-- the options of the first `count` gaggles are chosen
pub record ChoosesFirst (book : Book) (p : Plane) (old new : List ℤ) (count : ℕ) : Type 0 where
  pub depths : depths_of new ≡ depths_of old
  pub whole : length new ≡ length old
  pub each : (g : ℕ) → g < count → HasOptions book p new g

-- those of all gaggles
pub record AreChosen (book : Book) (p : Plane) (marks : List ℤ) : Type 0 where
  pub each : (g : ℕ) → 16 * g < length marks → HasOptions book p marks g

pub record Chooses (book : Book) (p : Plane) (old new : List ℤ) : Type 0 where
  pub depths : depths_of new ≡ depths_of old
  pub whole : length new ≡ length old
  pub are : AreChosen book p new

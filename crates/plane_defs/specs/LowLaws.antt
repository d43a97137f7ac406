-- The laws of what planes give.
use Rattle.std.specs.Prelude.{◌≡◌, ◌<◌, ℕ, List, [], length, pos}
use lib.ListN.{get_or}
use Rattle.base_122.specs.declared.book.Book.{Book}
use Rattle.item_defs.specs.Scripts.{around}
use Rattle.plane_defs.specs.PlaneScript.{planes_script}
use Rattle.plane_defs.specs.Lows.{Given, planes_given}
use Rattle.plane_defs.specs.Restored.{restored_at, restored}

-- the script with what is given of each number gives the numbers of the script without
abbrev pub NumbersAreGiven : Type 0
NumbersAreGiven = (book : Book) (weights : List ℕ) (q : ℕ) (depths : List ℕ) (stages : ℕ → ℕ) (below : ℕ) (g : Given) →
    around (λ h. h.numbers) (planes_given book weights q depths stages below g) ≡ planes_script book weights q depths stages below g.numbers

-- restored numbers by block and position
pub record RestoredByPosition : Type 0 where
  pub count : (weights : List ℕ) (g : Given) → length (restored weights g) ≡ length g.numbers
  pub long : (weights : List ℕ) (g : Given) (r : ℕ) → r < length g.numbers → length (get_or (restored weights g) r []) ≡ 64
  pub at : (weights : List ℕ) (g : Given) (r p : ℕ) → r < length g.numbers → p < 64 →
      get_or (get_or (restored weights g) r []) p (pos 0) ≡ restored_at weights p (g.lows r p) (get_or (get_or g.numbers r []) p (pos 0))

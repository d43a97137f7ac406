-- The laws of bit planes, as they are read.
use Rattle.std.specs.Prelude.{◌≡◌, ℕ, List, length, true, ℤ}
use Rattle.base_122.specs.declared.book.Book.{Book}
use Rattle.plane_defs.specs.Codes.{is_book_sound}
use Rattle.item_defs.specs.Completing.{Goes}
use Rattle.plane_defs.specs.PlaneScript.{planes_script}

-- each question of the planes is sound and has a possible answer, and there are as many blocks after them as before
abbrev pub PlanesGo : Type 0
PlanesGo = (book : Book) → is_book_sound book ≡ true → (weights : List ℕ) (q : ℕ) (depths : List ℕ) (stages : ℕ → ℕ) (below : ℕ) (blocks : List (List ℤ)) →
    Goes (planes_script book weights q depths stages below blocks) (λ w. length w ≡ length blocks)

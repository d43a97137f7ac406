-- The stages of a plane one after another.
use Rattle.std.specs.Prelude.{ℕ, ◌+◌, List}
use Rattle.item_defs.specs.Items.{Item}
use Rattle.base_122.specs.declared.book.Book.{Book}
use Rattle.plane_defs.specs.Planes.{Plane, plane_items, chosen}

-- the items of a plane up to a last stage, with the options that take the fewest bits
abbrev pub chosen_items : Book → Plane → (last : ℕ) → List Item
chosen_items book p last = plane_items book (chosen book p) p (last + 1)

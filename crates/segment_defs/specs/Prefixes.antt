-- Prefixes of a text: the first items of a list that are in some bits, none of them refused, and what is next. A prefix says
-- nothing of the items after it, so a reading that was cut is also a prefix. (this project's own)
use Rattle.std.specs.Prelude.{◌≡◌, ◌≤◌, ◌<◌, ℕ, List, ◌++◌, length, take, Bool, Some}
use Rattle.item_defs.specs.Items.{Item, Refusal, text, spelling, IsSaid}
use Rattle.item_defs.specs.Readings.{AreItems, Lacks, item_at}

-- none of the first m items is refused, and these bits are theirs and then `more`
pub record Prefix (items : List Item) (m : ℕ) (bits more : List Bool) : Type 0 where
  pub within : m ≤ length items
  pub taken : AreItems (take m items)
  pub read : bits ≡ text (take m items) ++ more

-- no code of the next item's form is next
pub record NothingFollows (items : List Item) (m : ℕ) (more : List Bool) : Type 0 where
  pub within : m < length items
  pub lacks : Lacks (item_at items m).form.shape more

-- a code of the next item's form is next, which that form refuses by this name
pub record RefusalFollows (items : List Item) (m : ℕ) (more : List Bool) (name : Refusal) : Type 0 where
  pub within : m < length items
  pub spelt : ℕ
  pub says : IsSaid (item_at items m).form.shape spelt
  pub refuses : (item_at items m).form.refusal spelt ≡ Some name
  pub after : List Bool
  pub read : more ≡ spelling (item_at items m).form.shape spelt ++ after

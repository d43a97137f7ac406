-- Readings of a text: items that follow one another in it, up to a stop. The form of the next item is determined
-- by the items before it, so two readings of one text stop at one place, in one way. (this project's own)
use Rattle.std.specs.Prelude.{◌≡◌, ◌⊎◌, ◌+◌, ℕ, List, [], ◌∷◌, ◌++◌, slice_index_or, Bool, None, Some}
use Rattle.std.specs.List.{AllByRecursion}
use Rattle.item_defs.specs.Items.{Shape, fixed, zeros_to, coded, Refusal, Item, IsSaid, spelling, item_bits, raw}

-- no code of this shape is a prefix of these bits
abbrev pub Lacks : Shape → List Bool → Type 0
Lacks s bits = (n : ℕ) (more : List Bool) → IsSaid s n → bits ≡ spelling s n ++ more → ⊥

-- no code is a prefix of another
abbrev pub IsSound : Shape → Type 0
IsSound (fixed w) = Unit {0}
IsSound (zeros_to limit) = Unit {0}
IsSound (coded codes) = (m n : ℕ) (xs ys : List Bool) → IsSaid (coded codes) m → IsSaid (coded codes) n →
    spelling (coded codes) m ++ xs ≡ spelling (coded codes) n ++ ys → (m ≡ n) × (xs ≡ ys)

-- an item has a number that its shape can have, and its form does not refuse it
abbrev pub IsItem : Item → Type 0
IsItem item = IsSound item.form.shape × IsSaid item.form.shape item.said × (item.form.refusal item.said ≡ None)

abbrev pub AreItems : List Item → Type 0
AreItems items = AllByRecursion IsItem items

abbrev pub item_at : List Item → ℕ → Item
item_at items m = slice_index_or items m (raw 0)

-- for as long as the items say the same, the next ones have one form, or both lists end
abbrev pub StepsAlike : List Item → List Item → Type 0
StepsAlike [] [] = Unit {0}
StepsAlike [] (j ∷ js) = ⊥
StepsAlike (i ∷ is) [] = ⊥
StepsAlike (i ∷ is) (j ∷ js) = (i.form ≡ j.form) × (i.said ≡ j.said → StepsAlike is js)

-- the stop of a reading: with all items; within the item after a number of items; at a code after a number of items
-- that is refused by this name
pub data Stop : Type 0 where
  whole : Stop
  ended : ℕ → Stop
  refused : (after spelt : ℕ) → Refusal → Stop

-- the same stop, counted from a number of items before
abbrev pub later : ℕ → Stop → Stop
later n whole = whole
later n (ended m) = ended (n + m)
later n (refused m spelt name) = refused (n + m) spelt name

-- the first item is a prefix of these bits, and the others are in the rest up to a stop
pub record Continues (item : Item) (bits : List Bool) (others : List Bool → Stop → Type 0) (stop : Stop) : Type 0 where
  pub more : List Bool
  pub then : Stop
  pub read : bits ≡ item_bits item ++ more
  pub stops : stop ≡ later 1 then
  pub rest : others more then

-- a code of the item's shape is a prefix of these bits, and its form refuses it
pub record IsRefused (item : Item) (bits : List Bool) (stop : Stop) : Type 0 where
  pub spelt : ℕ
  pub name : Refusal
  pub more : List Bool
  pub stops : stop ≡ refused 0 spelt name
  pub says : IsSaid item.form.shape spelt
  pub refuses : item.form.refusal spelt ≡ Some name
  pub read : bits ≡ spelling item.form.shape spelt ++ more

-- a reading of these bits as these items stops in this way
abbrev pub Stops : List Item → List Bool → Stop → Type 0
Stops [] bits stop = stop ≡ whole
Stops (i ∷ is) bits stop = Continues i bits (Stops is) stop ⊎ (((stop ≡ ended 0) × Lacks i.form.shape bits) ⊎ IsRefused i bits stop)

-- Items that are written follow a script.
use Rattle.std.specs.Prelude.{List}
use Rattle.item_defs.specs.Items.{Item}
use Rattle.item_defs.specs.Scripts.{Script}
use Rattle.item_defs.specs.Following.{Follows}

-- these items lead to an end of this kind
pub record Writes {G A : Type 0} (s : Script G A) (items : List Item) (P : A → Type 0) : Type 0 where
  pub end : A
  pub is : P end
  pub follows : Follows s items end

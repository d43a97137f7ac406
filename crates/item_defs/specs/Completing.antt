-- Scripts that can always be completed, and their ends. (docs/formats.md, "Reading a segment"; this project's own.)
use Rattle.std.specs.Prelude.{◌≡◌, ◌++◌, ℕ, List, Option, Some, None}
use Rattle.std.specs.List.{AllByRecursion}
use Rattle.item_defs.specs.Items.{Refusal, bad_option, bad_delta, bad_depth, false_flag, Item, IsSaid}
use Rattle.item_defs.specs.Readings.{IsSound}
use Rattle.item_defs.specs.Scripts.{Script, done, ask}
use Rattle.item_defs.specs.Following.{Follows}

-- Some values have such an item: it is not refused, or only for a block depth above BitDepthAC, which values may have as long as it is
-- not read.
abbrev pub IsPossible : Option Refusal → Type 0
IsPossible None = Unit {0}
IsPossible (Some bad_option) = ⊥
IsPossible (Some bad_delta) = ⊥
IsPossible (Some bad_depth) = Unit {0}
IsPossible (Some false_flag) = ⊥

abbrev pub IsPossibleItem : Item → Type 0
IsPossibleItem i = IsSaid i.form.shape i.said × IsPossible (i.form.refusal i.said)

abbrev pub ArePossible : List Item → Type 0
ArePossible items = AllByRecursion IsPossibleItem items

-- each question has a possible answer, no code of it is a prefix of another, and possible answers lead to ends of this kind
abbrev pub Goes : {G A : Type 0} → Script G A → (A → Type 0) → Type 0
Goes (done a) P = P a
Goes (ask given form more) P =
    IsSound form.shape × ((n : ℕ) × IsSaid form.shape n × IsPossible (form.refusal n)) ×
    ((n : ℕ) → IsSaid form.shape n → IsPossible (form.refusal n) → Goes (more n) P)

-- answers that are not refused lead to ends of this kind
abbrev pub Ends : {G A : Type 0} → Script G A → (A → Type 0) → Type 0
Ends (done a) P = P a
Ends (ask given form more) P = (n : ℕ) → IsSaid form.shape n → form.refusal n ≡ None → Ends (more n) P

-- items that go on from others to the end
pub record Completed {G A : Type 0} (s : Script G A) (P : A → Type 0) (items : List Item) : Type 0 where
  pub more : List Item
  pub end : A
  pub is : P end
  pub are : ArePossible more
  pub follows : Follows s (items ++ more) end

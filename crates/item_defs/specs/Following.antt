-- What a script says of items, both ways. (docs/formats.md, "Reading a segment"; this project's own.)
use Rattle.std.specs.Prelude.{◌≡◌, ◌++◌, ℕ, Bool, List, [], ◌∷◌, Some, None}
use Rattle.item_defs.specs.Items.{Refusal, Form, Item, IsSaid, spelling, text}
use Rattle.item_defs.specs.Readings.{Lacks, IsSound, AreItems}
use Rattle.item_defs.specs.Outcomes.{whole, cut, refused}
use Rattle.item_defs.specs.Scripts.{Script, done, ask, run}

-- the items follow a script to its end, which is this
abbrev pub Follows : {G A : Type 0} → Script G A → List Item → A → Type 0
Follows (done b) [] a = b ≡ a
Follows (done b) (i ∷ is) a = ⊥
Follows (ask given form more) [] a = ⊥
Follows (ask given form more) (i ∷ is) a = (form ≡ i.form) × Follows (more i.said) is a

-- the items lead to a question of this form
abbrev pub Asks : {G A : Type 0} → Script G A → List Item → Form → Type 0
Asks (done a) items f = ⊥
Asks (ask given form more) [] f = form ≡ f
Asks (ask given form more) (i ∷ is) f = (form ≡ i.form) × Asks (more i.said) is f

-- no code of a question is a prefix of another
abbrev pub AreSound : {G A : Type 0} → Script G A → Type 0
AreSound (done a) = Unit {0}
AreSound (ask given form more) = IsSound form.shape × ((n : ℕ) → IsSaid form.shape n → form.refusal n ≡ None → AreSound (more n))

-- items that lead to the end, and then these bits
pub record ReadWhole {G A : Type 0} (s : Script G A) (bits : List Bool) (a : A) (left : List Bool) : Type 0 where
  pub items : List Item
  pub are : AreItems items
  pub read : bits ≡ text items ++ left
  pub follows : Follows s items a

-- items that lead to a question, of which no code is next
pub record ReadCut {G A : Type 0} (s : Script G A) (bits : List Bool) : Type 0 where
  pub items : List Item
  pub are : AreItems items
  pub some : List Bool
  pub read : bits ≡ text items ++ some
  pub form : Form
  pub asks : Asks s items form
  pub lacks : Lacks form.shape some

-- items that lead to a question, which refuses by this name what is next, and then these bits
pub record ReadRefused {G A : Type 0} (s : Script G A) (bits : List Bool) (name : Refusal) (left : List Bool) : Type 0 where
  pub items : List Item
  pub are : AreItems items
  pub form : Form
  pub said : ℕ
  pub read : bits ≡ text items ++ (spelling form.shape said ++ left)
  pub asks : Asks s items form
  pub says : IsSaid form.shape said
  pub refuses : form.refusal said ≡ Some name

-- a script gives values exactly if items lead to the end, is cut exactly if none of the next codes is there, and refuses exactly
-- if a question does
pub record SaysWhat {G A : Type 0} (s : Script G A) : Type 0 where
  pub whole_is : (bits left : List Bool) (a : A) → run s bits ≡ whole a left → ReadWhole s bits a left
  pub is_whole : (bits left : List Bool) (a : A) → ReadWhole s bits a left → run s bits ≡ whole a left
  pub cut_is : (bits : List Bool) (g : G) → run s bits ≡ cut g → ReadCut s bits
  pub is_cut : (bits : List Bool) → ReadCut s bits → (g : G) × (run s bits ≡ cut g)
  pub refused_is : (bits left : List Bool) (g : G) (name : Refusal) → run s bits ≡ refused g name left → ReadRefused s bits name left
  pub is_refused : (bits left : List Bool) (name : Refusal) → ReadRefused s bits name left → (g : G) × (run s bits ≡ refused g name left)

-- Two readings of one text agree.
use Rattle.std.proofs.Common.{◌≡◌, List, [], ◌∷◌, ◌++◌, refl, Option, None, Some}
use Rattle.item_defs.specs.Items.{Item, Refusal}
use Rattle.item_defs.specs.Readings.{AreItems, StepsAlike}
use Rattle.item_defs.specs.Laws.{said_of}

-- ---- lists of items that step alike

said_cons : (i j : Item) (is js : List Item) → i.said ≡ j.said → said_of is ≡ said_of js → said_of (i ∷ is) ≡ said_of (j ∷ js)
said_cons i j is js p q = cc

pub steps_append : (is js is' js' : List Item) → StepsAlike is js → (said_of is ≡ said_of js → StepsAlike is' js') → StepsAlike (is ++ is') (js ++ js')
steps_append [] [] is' js' p k = k refl
steps_append [] (j ∷ js) is' js' p k = absurd p
steps_append (i ∷ is) [] is' js' p k = absurd p
steps_append (i ∷ is) (j ∷ js) is' js' p k = (p.0, λ e. steps_append is js is' js' (p.1 e) (λ s. k (said_cons i j is js e s)))

-- ---- one stop

pub are_append : (is js : List Item) → AreItems is → AreItems js → AreItems (is ++ js)
are_append [] js p q = q
are_append (i ∷ is) js p q = (p.0, are_append is js p.1 q)

-- a value that is not refused has no refused code
pub not_refused : {name : Refusal} (o : Option Refusal) → o ≡ None → o ≡ Some name → ⊥
not_refused o p q = absurd cc

pub some_of : (o : Option Refusal) (a b : Refusal) → o ≡ Some a → o ≡ Some b → a ≡ b
some_of o a b p q = cc

-- lists that step alike, and say the same together with what follows
pub said_split : (is js is' js' : List Item) → StepsAlike is js → said_of (is ++ is') ≡ said_of (js ++ js') →
    (said_of is ≡ said_of js) × (said_of is' ≡ said_of js')
said_split [] [] is' js' p e = (refl, e)
said_split [] (j ∷ js) is' js' p e = absurd p
said_split (i ∷ is) [] is' js' p e = absurd p
said_split (i ∷ is) (j ∷ js) is' js' p e =
    let first : i.said ≡ j.said = cc in
    let others : said_of (is ++ is') ≡ said_of (js ++ js') = cc in
    let r = said_split is js is' js' (p.1 first) others in
    (let t : said_of (i ∷ is) ≡ said_of (j ∷ js) = cc (first, r.0) in t, r.1)

-- Texts of consecutive items.
use Rattle.std.proofs.Common.{◌≡◌, ℕ, zero, suc, ◌+◌, ◌<◌, ◌≤◌, List, [], ◌∷◌, ◌++◌, length, get_or, take, drop, map, Bool, refl, sym, ap, ◌∙◌}
use Rattle.std.proofs.Common.{append_assoc, arith, set}
use Rattle.std.proofs.lemmas.List.{append-nil, take_more, take_all, take_more_set, take-append-drop, map-append, get_or-append-add, get_or_append_left}
use Rattle.std.proofs.lemmas.List.Concat.{flat_map-append, flat_map-cons}
use Rattle.item_defs.specs.Items.{Item, item_bits, text}
use Rattle.item_defs.specs.Readings.{item_at}
use Rattle.item_defs.proofs.BitLists.{take_past}

pub text-append : (xs ys : List Item) → text (xs ++ ys) ≡ text xs ++ text ys
text-append xs ys = flat_map-append item_bits xs ys

pub text-cons : (x : Item) (xs : List Item) → text (x ∷ xs) ≡ item_bits x ++ text xs
text-cons x xs = flat_map-cons item_bits x xs

pub text-one : (x : Item) → text (x ∷ []) ≡ item_bits x
text-one x = text-cons x [] ∙ append-nil (item_bits x)

-- the text of an item and those after it, and what follows
pub text_prefix : (i : Item) (is : List Item) (more : List Bool) → text (i ∷ is) ++ more ≡ item_bits i ++ (text is ++ more)
text_prefix i is more = ap (λ r. r ++ more) (text-cons i is) ∙ append_assoc (item_bits i) (text is) more

-- a prefix of a text that continues after these items
pub text_past : (is js : List Item) (m : ℕ) (some : List Bool) → text is ++ (text (take m js) ++ some) ≡ text (take (length is + m) (is ++ js)) ++ some
text_past is js m some = sym (append_assoc (text is) (text (take m js)) some)
    ∙ ap (λ r. r ++ some) (sym (ap text (take_past is js m) ∙ text-append is (take m js)))

pub item_at_past : (is js : List Item) (n : ℕ) → item_at (is ++ js) (length is + n) ≡ item_at js n
item_at_past is js n = get_or-append-add is js n _

pub item_at_before : (is js : List Item) (n : ℕ) → n < length is → item_at (is ++ js) n ≡ item_at is n
item_at_before is js n lt = get_or_append_left is js _ n lt

-- ---- items made of the elements of a list

module _ {X : Type 0} (f : X → Item) (xs : List X) where
  -- the bits of the items of the first i elements
  pub text_more : (i : ℕ) (d : X) → i < length xs → text (map f (take i xs)) ++ item_bits (f (get_or xs i d)) ≡ text (map f (take (i + 1) xs))
  text_more i d lt =
      let x = get_or xs i d in
      let e : map f (take (i + 1) xs) ≡ map f (take i xs) ++ f x ∷ [] = ap (map f) (take_more xs i d lt) ∙ map-append f (take i xs) (x ∷ []) in
      sym (ap text e ∙ text-append (map f (take i xs)) (f x ∷ []) ∙ ap (λ r. text (map f (take i xs)) ++ r) (text-one (f x)))

  pub text_parts : (i : ℕ) → text (map f (take i xs)) ++ text (map f (drop i xs)) ≡ text (map f xs)
  text_parts i = sym (text-append (map f (take i xs)) (map f (drop i xs)))
      ∙ ap text (sym (map-append f (take i xs) (drop i xs)) ∙ ap (map f) (take-append-drop i xs))

  pub text_goes_on : (i : ℕ) (d : X) → i < length xs → text (map f (take i xs)) ++ (item_bits (f (get_or xs i d)) ++ text (map f (drop (i + 1) xs)))
      ≡ text (map f xs)
  text_goes_on i d lt = sym (append_assoc (text (map f (take i xs))) (item_bits (f (get_or xs i d))) (text (map f (drop (i + 1) xs))))
      ∙ ap (λ r. r ++ text (map f (drop (i + 1) xs))) (text_more i d lt) ∙ text_parts (i + 1)

  pub text_all : (i : ℕ) → length xs ≤ i → text (map f (take i xs)) ≡ text (map f xs)
  text_all i le = ap (λ r. text (map f r)) (take_all i xs le)

  -- the bits of the items of the first i + 1 elements, after the element at i is set
  pub text_more_set : (i : ℕ) (y : X) → i < length xs → text (map f (take (i + 1) (set xs i y))) ≡ text (map f (take i xs)) ++ item_bits (f y)
  text_more_set i y lt = ap (λ r. text (map f r)) (take_more_set xs i y lt) ∙ ap text (map-append f (take i xs) (y ∷ [])) ∙ text-append (map f (take i xs))
      (f y ∷ []) ∙ ap (λ r. text (map f (take i xs)) ++ r) (text-one (f y))

  pub item_at_map : (i : ℕ) (d : X) → i < length xs → item_at (map f xs) i ≡ f (get_or xs i d)
  item_at_map i d lt = at_map f xs i d lt
    where
      at_map : {X : Type 0} (f : X → Item) (xs : List X) (i : ℕ) (d : X) → i < length xs → item_at (map f xs) i ≡ f (get_or xs i d)
      at_map f [] i d lt = absurd (omega arith)
      at_map f (x ∷ xs) zero d lt = refl
      at_map f (x ∷ xs) (suc i) d lt = at_map f xs i d (omega arith)

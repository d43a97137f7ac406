-- Items that are written follow scripts, to an end of which something is known.
use Rattle.std.proofs.Common.{◌≡◌, ℕ, zero, suc, ◌+◌, ◌≤◌, ◌<◌, List, [], ◌∷◌, ◌++◌, refl, subst, arith}
use Rattle.std.specs.List.{flat_map, range_with_len}
use Rattle.item_defs.specs.Items.{Form, Item}
use Rattle.item_defs.specs.Scripts.{Script, done, ask, then_ask, in_turn, around}
use Rattle.item_defs.specs.Writing.{Writes}
use Rattle.item_defs.proofs.FollowLaws.{follows_then, follows_around}

pub writes_none : {G A : Type 0} (P : A → Type 0) (a : A) → P a → Writes {G = G} (done a) [] P
writes_none P a p = record { end = a; is = p; follows = refl }

pub writes_ask : {G A : Type 0} (P : A → Type 0) (g : G) (form : Form) (next : ℕ → Script G A) (i : Item) (items : List Item) → form ≡ i.form →
    Writes (next i.said) items P → Writes (ask g form next) (i ∷ items) P
writes_ask P g form next i items e w = record { end = w.end; is = w.is; follows = (e, w.follows) }

pub writes_weaker : {G A : Type 0} (P Q : A → Type 0) (s : Script G A) (items : List Item) → ((a : A) → P a → Q a) → Writes s items P → Writes s items Q
writes_weaker P Q s items keeps w = record { end = w.end; is = keeps w.end w.is; follows = w.follows }

pub writes_then : {G A B : Type 0} (P : A → Type 0) (Q : B → Type 0) (s : Script G A) (next : A → Script G B) (xs ys : List Item) → Writes s xs P →
    ((a : A) → P a → Writes (next a) ys Q) → Writes (then_ask s next) (xs ++ ys) Q
writes_then P Q s next xs ys w more = let v =
    more w.end w.is in record { end = v.end; is = v.is; follows = follows_then next s xs ys w.end v.end w.follows v.follows }

pub writes_in_turn : {S : Type 0} (P : ℕ → S → Type 0) (item : ℕ → S → Script S S) (items : ℕ → List Item) (j n : ℕ) →
    ((i : ℕ) (s : S) → j ≤ i → i < j + n → P i s → Writes (item i s) (items i) (P (suc i))) → (s : S) → P j s →
    Writes (in_turn item j n s) (flat_map items (range_with_len j n)) (P (j + n))
writes_in_turn P item items j zero each s p = let e : j ≡ j + zero = omega arith in writes_none (P (j + zero)) s (subst (λ i. P i s) e p)
writes_in_turn P item items j (suc n) each s p =
    let e : suc j + n ≡ j + suc n = omega arith in
    let f : suc j ≡ j + 1 = omega arith in
    writes_then (P (suc j)) (P (j + suc n)) (item j s) (in_turn item (suc j) n) (items j) (flat_map items (range_with_len (j + 1) n))
    (each j s (omega arith) (omega arith) p)
    (λ t q. subst (λ k. Writes (in_turn item (suc j) n t) (flat_map items (range_with_len k n)) (P (j + suc n))) f
    (subst (λ k. Writes (in_turn item (suc j) n t) (flat_map items (range_with_len (suc j) n)) (P k)) e
    (writes_in_turn P item items (suc j) n (λ i u low high. each i u (omega (arith, low)) (omega (arith, high))) t q)))

pub writes_around : {S T : Type 0} (P : S → Type 0) (Q : T → Type 0) (put : S → T) → ((s : S) → P s → Q (put s)) → (s : Script S S) (items : List Item) →
    Writes s items P → Writes (around put s) items Q
writes_around P Q put keeps s items w = record { end = put w.end; is = keeps w.end w.is; follows = follows_around put s items w.end w.follows }

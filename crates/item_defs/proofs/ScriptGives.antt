-- What is given at the questions of a script, along some items.
use Rattle.std.proofs.Common.{◌≡◌, ℕ, List, [], ◌∷◌, ◌++◌, Bool, refl, ap, sym, ◌∙◌, subst}
use Rattle.item_defs.specs.Items.{Form, Item, text}
use Rattle.item_defs.specs.Readings.{AreItems, Lacks}
use Rattle.item_defs.specs.Outcomes.{cut}
use Rattle.item_defs.specs.Scripts.{Script, done, ask, then_ask, around, beside, run}
use Rattle.item_defs.specs.Following.{Follows, Asks}
use Rattle.item_defs.proofs.FirstNumbers.{none_first}
use Rattle.item_defs.proofs.ScriptLaws.{Next, first_read}

-- what is given at each question along the items, and at the next one, is of this kind
abbrev pub Gives : {G A : Type 0} → Script G A → List Item → (G → Type 0) → Type 0
Gives (done a) items Q = Unit {0}
Gives (ask given form more) [] Q = Q given
Gives (ask given form more) (i ∷ is) Q = Q given × Gives (more i.said) is Q

-- whatever the answers are
abbrev pub Always : {G A : Type 0} → Script G A → (G → Type 0) → Type 0
Always (done a) Q = Unit {0}
Always (ask given form more) Q = Q given × ((n : ℕ) → Always (more n) Q)

pub gives_always : {G A : Type 0} (Q : G → Type 0) (s : Script G A) → Always s Q → (items : List Item) → Gives s items Q
gives_always Q (done a) p items = tt
gives_always Q (ask g form more) p [] = p.0
gives_always Q (ask g form more) p (i ∷ is) = (p.0, gives_always Q (more i.said) (p.1 i.said) is)

pub always_weaker : {G A : Type 0} (Q R : G → Type 0) → ((g : G) → Q g → R g) → (s : Script G A) → Always s Q → Always s R
always_weaker Q R keeps (done a) p = tt
always_weaker Q R keeps (ask g form more) p = (keeps g p.0, λ n. always_weaker Q R keeps (more n) (p.1 n))

pub gives_weaker : {G A : Type 0} (Q R : G → Type 0) → ((g : G) → Q g → R g) → (s : Script G A) (items : List Item) → Gives s items Q → Gives s items R
gives_weaker Q R keeps (done a) items p = tt
gives_weaker Q R keeps (ask g form more) [] p = keeps g p
gives_weaker Q R keeps (ask g form more) (i ∷ is) p = (keeps g p.0, gives_weaker Q R keeps (more i.said) is p.1)

pub gives_then : {G A B : Type 0} (Q : G → Type 0) (s : Script G A) (next : A → Script G B) (xs ys : List Item) (a : A) → Follows s xs a → Gives s xs Q →
    Gives (next a) ys Q → Gives (then_ask s next) (xs ++ ys) Q
gives_then Q (done c) next [] ys a f p q = subst (λ x. Gives (next x) ys Q) (sym f) q
gives_then Q (done c) next (x ∷ xs) ys a f p q = absurd f
gives_then Q (ask g form more) next [] ys a f p q = absurd f
gives_then Q (ask g form more) next (x ∷ xs) ys a f p q = (p.0, gives_then Q (more x.said) next xs ys a f.1 p.1 q)

pub gives_around : {S T : Type 0} (Q : S → Type 0) (R : T → Type 0) (put : S → T) → ((g : S) → Q g → R (put g)) → (s : Script S S) (items : List Item) →
    Gives s items Q → Gives (around put s) items R
gives_around Q R put keeps (done a) items p = tt
gives_around Q R put keeps (ask g form more) [] p = keeps g p
gives_around Q R put keeps (ask g form more) (i ∷ is) p = (keeps g p.0, gives_around Q R put keeps (more i.said) is p.1)

-- what follows the items of the first script
pub follows_rest : {G A B : Type 0} (s : Script G A) (next : A → Script G B) (xs ys : List Item) (a : A) (b : B) → Follows s xs a →
    Follows (then_ask s next) (xs ++ ys) b → Follows (next a) ys b
follows_rest (done c) next [] ys a b f h = subst (λ x. Follows (next x) ys b) f h
follows_rest (done c) next (x ∷ xs) ys a b f h = absurd f
follows_rest (ask g form more) next [] ys a b f h = absurd f
follows_rest (ask g form more) next (x ∷ xs) ys a b f h = follows_rest (more x.said) next xs ys a b f.1 h.1

-- ---- what is given after the items that were read before a question

abbrev pub GivesAfter : {G A : Type 0} → Script G A → List Item → (List Item → G → Type 0) → Type 0
GivesAfter (done a) items Q = Unit {0}
GivesAfter (ask given form more) [] Q = Q [] given
GivesAfter (ask given form more) (i ∷ is) Q = Q [] given × GivesAfter (more i.said) is (λ l. Q (i ∷ l))

pub after_weaker : {G A : Type 0} (Q R : List Item → G → Type 0) → ((l : List Item) (g : G) → Q l g → R l g) → (s : Script G A) (items : List Item) →
    GivesAfter s items Q → GivesAfter s items R
after_weaker Q R keeps (done a) items p = tt
after_weaker Q R keeps (ask g form more) [] p = keeps [] g p
after_weaker Q R keeps (ask g form more) (i ∷ is) p =
    (keeps [] g p.0, after_weaker (λ l. Q (i ∷ l)) (λ l. R (i ∷ l)) (λ l h z. keeps (i ∷ l) h z) (more i.said) is p.1)

pub after_then : {G A B : Type 0} (Q : List Item → G → Type 0) (s : Script G A) (next : A → Script G B) (xs ys : List Item) (a : A) → Follows s xs a →
    GivesAfter s xs Q → GivesAfter (next a) ys (λ l. Q (xs ++ l)) → GivesAfter (then_ask s next) (xs ++ ys) Q
after_then Q (done c) next [] ys a f p q = subst (λ x. GivesAfter (next x) ys Q) (sym f) q
after_then Q (done c) next (x ∷ xs) ys a f p q = absurd f
after_then Q (ask g form more) next [] ys a f p q = absurd f
after_then Q (ask g form more) next (x ∷ xs) ys a f p q = (p.0, after_then (λ l. Q (x ∷ l)) (more x.said) next xs ys a f.1 p.1 q)

pub after_around : {S T : Type 0} (Q : List Item → S → Type 0) (R : List Item → T → Type 0) (put : S → T) →
    ((l : List Item) (g : S) → Q l g → R l (put g)) → (s : Script S S) (items : List Item) → GivesAfter s items Q → GivesAfter (around put s) items R
after_around Q R put keeps (done a) items p = tt
after_around Q R put keeps (ask g form more) [] p = keeps [] g p
after_around Q R put keeps (ask g form more) (i ∷ is) p =
    (keeps [] g p.0, after_around (λ l. Q (i ∷ l)) (λ l. R (i ∷ l)) put (λ l h z. keeps (i ∷ l) h z) (more i.said) is p.1)

-- the first of these items
abbrev pub IsFirst : List Item → List Item → Type 0
IsFirst l items = (more : List Item) × (items ≡ l ++ more)

pub after_of : {G A : Type 0} (Q : G → Type 0) (s : Script G A) (items : List Item) → Gives s items Q → GivesAfter s items (λ l g. IsFirst l items × Q g)
after_of Q (done a) items p = tt
after_of Q (ask g form more) [] p = (([], refl), p)
after_of Q (ask g form more) (i ∷ is) p = (
  ((i ∷ is, refl), p.0),
  after_weaker (λ l h. IsFirst l is × Q h) (λ l h. IsFirst (i ∷ l) (i ∷ is) × Q h) (λ l h z. ((z.0.0, ap (λ k. i ∷ k) z.0.1), z.1)) (more i.said) is
      (after_of Q (more i.said) is p.1),
)

pub after_beside : {G H A : Type 0} (Q : H → Type 0) (given : H) → Q given → (s : Script G A) (items : List Item) →
    GivesAfter (beside given s) items (λ l. Q)
after_beside Q given p (done a) items = tt
after_beside Q given p (ask g form more) [] = p
after_beside Q given p (ask g form more) (i ∷ is) = (p, after_beside Q given p (more i.said) is)

-- bits that are cut after these items give this
pub cut_after : {G A : Type 0} (Q : List Item → G → Type 0) (s : Script G A) (items : List Item) (form : Form) (some : List Bool) → AreItems items →
    Asks s items form → Lacks form.shape some → GivesAfter s items Q → (g : G) × (run s (text items ++ some) ≡ cut g) × Q items g
cut_after Q (done b) items form some are f lacks p = absurd f
cut_after Q (ask g fo next) [] form some are f lacks p =
    (g, ap (Next g fo next) (none_first fo.shape some (subst (λ x. Lacks x.shape some) (sym f) lacks)), p)
cut_after Q (ask g fo next) (i ∷ is) form some are f lacks p =
    let r = cut_after (λ l. Q (i ∷ l)) (next i.said) is form some are.1 f.1 lacks p.1 in
    (r.0, first_read g fo next i is some f.0 are.0.0 are.0.1 are.0.2 ∙ r.1, r.2)

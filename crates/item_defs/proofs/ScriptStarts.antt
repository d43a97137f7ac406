-- A script that is the start of another: it asks what the other asks, for as long as it asks.
use Rattle.std.proofs.Common.{◌≡◌, ℕ, List, [], ◌∷◌, ◌∙◌, refl, sym, subst}
use Rattle.item_defs.specs.Items.{Form, Item, IsSaid}
use Rattle.item_defs.specs.Scripts.{Script, done, ask, then_ask, around}
use Rattle.item_defs.specs.Following.{Follows, Asks}
use Rattle.item_defs.specs.Completing.{IsPossible, ArePossible, Goes, Completed}
use Rattle.item_defs.proofs.Completing.{on_way}

abbrev pub Starts : {G H A B : Type 0} → Script G A → Script H B → Type 0
Starts (done a) t = Unit {0}
Starts (ask g form more) (done b) = ⊥
Starts (ask g form more) (ask h other next) = (form ≡ other) × ((n : ℕ) → Starts (more n) (next n))

pub starts_asks : {G H A B : Type 0} (s : Script G A) (t : Script H B) → Starts s t → (items : List Item) (form : Form) → Asks s items form → Asks t items form
starts_asks (done a) t p items form f = absurd f
starts_asks (ask g fo more) (done b) p items form f = absurd p
starts_asks (ask g fo more) (ask h other next) p [] form f = sym p.0 ∙ f
starts_asks (ask g fo more) (ask h other next) p (i ∷ is) form f = (sym p.0 ∙ f.0, starts_asks (more i.said) (next i.said) (p.1 i.said) is form f.1)

-- possible items that follow the start go on in the other
pub starts_on : {G H A B : Type 0} (P : B → Type 0) (s : Script G A) (t : Script H B) → Starts s t → Goes t P → (items : List Item) (a : A) →
    ArePossible items → Follows s items a → Completed t P items
starts_on P (done c) t p goes [] a are f = on_way P t goes
starts_on P (done c) t p goes (i ∷ is) a are f = absurd f
starts_on P (ask g fo more) (done b) p goes items a are f = absurd p
starts_on P (ask g fo more) (ask h other next) p goes [] a are f = absurd f
starts_on P (ask g fo more) (ask h other next) p goes (i ∷ is) a are f =
    let e : other ≡ i.form = sym p.0 ∙ f.0 in
    let said : IsSaid other.shape i.said = subst (λ x. IsSaid x.shape i.said) (sym e) are.0.0 in
    let good : IsPossible (other.refusal i.said) = subst (λ x. IsPossible (x.refusal i.said)) (sym e) are.0.1 in
    let w = starts_on P (more i.said) (next i.said) (p.1 i.said) (goes.2 i.said said good) is a are.1 f.1 in
    record { more = w.more; end = w.end; is = w.is; are = w.are; follows = (e, w.follows) }

pub starts_then : {G A B C : Type 0} (next : A → Script G B) (later : A → Script G C) → ((a : A) → Starts (next a) (later a)) → (s : Script G A) →
    Starts (then_ask s next) (then_ask s later)
starts_then next later each (done a) = each a
starts_then next later each (ask g form more) = (refl, λ n. starts_then next later each (more n))

-- a part that is cut short, after which nothing is asked
pub starts_short : {S T B C : Type 0} (put : S → T) (more : S → Script S S) (next : T → Script T B) (later : T → Script T C) →
    ((a : T) (t : Script T C) → Starts (next a) t) → (s : Script S S) → Starts (then_ask (around put s) next) (then_ask (around put (then_ask s more)) later)
starts_short put more next later none (done a) = none (put a) (then_ask (around put (more a)) later)
starts_short put more next later none (ask g form now) = (refl, λ n. starts_short put more next later none (now n))

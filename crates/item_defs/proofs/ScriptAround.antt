-- Scripts around which each value that they give is put: in order, in turn, twice, and their outcomes.
use Rattle.std.proofs.Common.{◌≡◌, ℕ, zero, suc, Bool, List, refl, ap, ◌∙◌, Option, Some, None}
use Rattle.item_defs.specs.Items.{Form, Refusal}
use Rattle.item_defs.specs.Outcomes.{Outcome, whole, cut, refused, first_number}
use Rattle.item_defs.specs.Scripts.{Script, done, ask, then_ask, in_turn, around, beside, unless_named, answered, run}

module _ {S T : Type 0} (put : S → T) where
  pub around_then : (next : S → Script S S) (later : T → Script T T) → ((a : S) → around put (next a) ≡ later (put a)) → (s : Script S S) →
      around put (then_ask s next) ≡ then_ask (around put s) later
  around_then next later each (done a) = each a
  around_then next later each (ask given form more) = λ i. ask (put given) form (λ n. around_then next later each (more n) i)

  pub around_turn : (item : ℕ → S → Script S S) (other : ℕ → T → Script T T) → ((i : ℕ) (s : S) → around put (item i s) ≡ other i (put s)) →
      (j n : ℕ) (s : S) → around put (in_turn item j n s) ≡ in_turn other j n (put s)
  around_turn item other each j zero s = refl
  around_turn item other each j (suc n) s =
      around_then (in_turn item (suc j) n) (in_turn other (suc j) n) (around_turn item other each (suc j) n) (item j s) ∙
      ap (λ r. then_ask r (in_turn other (suc j) n)) (each j s)

  pub around_twice : {R : Type 0} (get : R → S) (s : Script R R) → around put (around get s) ≡ around (λ a. put (get a)) s
  around_twice get (done a) = refl
  around_twice get (ask given form more) = λ i. ask (put (get given)) form (λ n. around_twice get (more n) i)

  -- a script of other values, beside one of these, and then a script of these
  pub around_beside : {G A : Type 0} (given : S) (next : A → Script S S) (later : A → Script T T) → ((a : A) → around put (next a) ≡ later a) →
      (s : Script G A) → around put (then_ask (beside given s) next) ≡ then_ask (beside (put given) s) later
  around_beside given next later each (done a) = each a
  around_beside given next later each (ask other form more) = λ i. ask (put given) form (λ n. around_beside given next later each (more n) i)

  -- ---- outcomes

  abbrev pub put_outcome : Outcome S S → Outcome T T
  put_outcome (whole a left) = whole (put a) left
  put_outcome (cut g) = cut (put g)
  put_outcome (refused g name left) = refused (put g) name left

  unless_put : (g : S) (name : Option Refusal) (left : List Bool) (o : Outcome S S) →
      unless_named (put g) name left (put_outcome o) ≡ put_outcome (unless_named g name left o)
  unless_put g (Some name) left o = refl
  unless_put g None left o = refl

  answered_put : (g : S) (form : Form) (f : ℕ → List Bool → Outcome S S) (o : Option (ℕ × List Bool)) →
      answered (put g) form (λ n left. put_outcome (f n left)) o ≡ put_outcome (answered g form f o)
  answered_put g form f (Some p) = unless_put g (form.refusal p.0) p.1 (f p.0 p.1)
  answered_put g form f None = refl

  pub run_around : (s : Script S S) (bits : List Bool) → run (around put s) bits ≡ put_outcome (run s bits)
  run_around (done a) bits = refl
  run_around (ask given form more) bits =
      (λ i. answered (put given) form (λ n left. run_around (more n) left i) (first_number form.shape bits)) ∙
      answered_put given form (λ n. run (more n)) (first_number form.shape bits)

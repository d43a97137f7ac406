-- What the states of a script keep, whatever its answers are.
use Rattle.std.proofs.Common.{◌≡◌, ℕ, zero, suc, ◌≤◌, ◌++◌, Bool, List, [], subst, arith, Option, Some, None, Result, Ok, Err}
use Rattle.item_defs.specs.Items.{Form, Refusal}
use Rattle.bit_pipe.specs.declared.fault.Part.{Part}
use Rattle.bit_pipe.specs.declared.fault.Part.TheVariants.{Whole, Ended}
use Rattle.bit_pipe.specs.declared.fault.TextFault.{TextFault}
use Rattle.bit_pipe.specs.declared.fault.TextFault.TheVariants as texts
use Rattle.item_defs.specs.Outcomes.{Outcome, whole, cut, refused, first_number}
use Rattle.item_defs.specs.Scripts.{Script, done, ask, then_ask, in_turn, around, unless_named, answered, run}
use Rattle.bit_pipe.specs.ScriptSources.{Says, by_part}

-- all that is given is of one kind, and all ends of another
abbrev pub Keeps : {G A : Type 0} → (G → Type 0) → (A → Type 0) → Script G A → Type 0
Keeps P Q (done a) = Q a
Keeps P Q (ask given form more) = P given × ((n : ℕ) → Keeps P Q (more n))

abbrev pub Kept : {G A : Type 0} → (G → Type 0) → (A → Type 0) → Outcome G A → Type 0
Kept P Q (whole a left) = Q a
Kept P Q (cut g) = P g
Kept P Q (refused g name left) = P g

module _ {G : Type 0} (P : G → Type 0) where
  pub keeps_then : {A B : Type 0} (Q : A → Type 0) (R : B → Type 0) (r : Script G A) (next : A → Script G B) → Keeps P Q r → ((a : A) → Q a →
      Keeps P R (next a)) →
      Keeps P R (then_ask r next)
  keeps_then Q R (done a) next k h = h a k
  keeps_then Q R (ask given form more) next k h = (k.0, λ n. keeps_then Q R (more n) next (k.1 n) h)

  pub keeps_turn : (item : ℕ → G → Script G G) (least : ℕ) → ((i : ℕ) (s : G) → least ≤ i → P s → Keeps P P (item i s)) → (n j : ℕ) (s : G) → least ≤ j → P s →
      Keeps P P (in_turn item j n s)
  keeps_turn item least each zero j s le k = k
  keeps_turn item least each (suc n) j s le k =
      keeps_then P P (item j s) (in_turn item (suc j) n) (each j s le k) (λ u h. keeps_turn item least each n (suc j) u (omega (arith, le)) h)

  unless_kept : {A : Type 0} (Q : A → Type 0) (g : G) (name : Option Refusal) (left : List Bool) (o : Outcome G A) → P g → Kept P Q o →
      Kept P Q (unless_named g name left o)
  unless_kept Q g (Some name) left o p h = p
  unless_kept Q g None left o p h = h

  answered_kept : {A : Type 0} (Q : A → Type 0) (g : G) (form : Form) (next : ℕ → List Bool → Outcome G A) (o : Option (ℕ × List Bool)) → P g →
      ((n : ℕ) (left : List Bool) → Kept P Q (next n left)) → Kept P Q (answered g form next o)
  answered_kept Q g form next (Some a) p h = unless_kept Q g (form.refusal a.0) a.1 (next a.0 a.1) p (h a.0 a.1)
  answered_kept Q g form next None p h = p

  pub run_kept : {A : Type 0} (Q : A → Type 0) (s : Script G A) → Keeps P Q s → (bits : List Bool) → Kept P Q (run s bits)
  run_kept Q (done a) k bits = k
  run_kept Q (ask given form more) k bits =
      answered_kept Q given form (λ n. run (more n)) (first_number form.shape bits) k.0 (λ n left. run_kept Q (more n) (k.1 n) left)

  -- what was read is of the kind that all states are
  module _ (s : Script G G) (k : Keeps P P s) (bits : List Bool) (now : G) where
    got_kept : ((more : List Bool) → run s (bits ++ more) ≡ whole now more) → P now
    got_kept e = subst (Kept P P) (e []) (run_kept P s k (bits ++ []))

    cut_kept : run s bits ≡ cut now → P now
    cut_kept e = subst (Kept P P) e (run_kept P s k bits)

    refused_kept : (name : Refusal) → ((more : List Bool) → run s (bits ++ more) ≡ refused now name more) → P now
    refused_kept name e = subst (Kept P P) (e []) (run_kept P s k (bits ++ []))

    pub said_kept : (result : Result Part TextFault) → Says s bits (by_part result now now) → P now
    said_kept (Ok Whole) e = got_kept e
    said_kept (Ok Ended) e = cut_kept e
    said_kept (Err texts.BadOption) e = refused_kept _ e
    said_kept (Err texts.BadDelta) e = refused_kept _ e
    said_kept (Err texts.BadDepth) e = refused_kept _ e
    said_kept (Err texts.FalseFlag) e = refused_kept _ e
    said_kept (Err texts.ReadFault) e = cut_kept e
    said_kept (Err texts.LongInput) e = cut_kept e
    said_kept (Err texts.Broken) e = cut_kept e

pub keeps_around : {S T : Type 0} (P : S → Type 0) (Q : T → Type 0) (put : S → T) → ((s : S) → P s → Q (put s)) → (r : Script S S) → Keeps P P r →
    Keeps Q Q (around put r)
keeps_around P Q put h (done s) k = h s k
keeps_around P Q put h (ask given form more) k = (h given k.0, λ n. keeps_around P Q put h (more n) (k.1 n))

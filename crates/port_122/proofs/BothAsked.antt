-- Two properties of the same read calls.
use Rattle.std.proofs.Common.{◌≡◌, ℕ, List, [], ◌∷◌, sym, ◌∙◌, subst, arith, Option, None, Some}
use Rattle.std.specs.List.{AllByRecursion}
use Rattle.std.proofs.lemmas.List.{append_cancel_left}
use Rattle.port_122.specs.Outside.{Outside, Exchange, CountedFrom, AsksOnly}

counted_both : (t g : Option (List ℕ)) (Q R S : ℕ → ℕ → Type 0) → ((i j : ℕ) → Q i j → R i j → S i j) → (entry : ℕ × ℕ) → CountedFrom t g Q entry →
    CountedFrom t g R entry → CountedFrom t g S entry
counted_both None g Q R S f entry q r = absurd q
counted_both (Some t) None Q R S f entry q r = absurd q
counted_both (Some t) (Some g) Q R S f entry q r =
    let i : r.0 ≡ q.0 = omega (arith, q.2, r.2) in
    let j : r.1 ≡ q.1 = omega (arith, q.3, r.3) in
    (q.0, q.1, q.2, q.3, f q.0 q.1 q.4 (subst (λ i. R i q.1) i (subst (R r.0) j r.4)))

each_both : {X : Type 0} (P Q S : X → Type 0) → ((x : X) → P x → Q x → S x) → (xs : List X) → AllByRecursion P xs → AllByRecursion Q xs → AllByRecursion S xs
each_both P Q S f [] p q = tt
each_both P Q S f (x ∷ xs) p q = (f x p.0 q.0, each_both P Q S f xs p.1 q.1)

asks_both : (a b : Option (List (ℕ × ℕ))) (t g : Option (List ℕ)) (Q R S : ℕ → ℕ → Type 0) → ((i j : ℕ) → Q i j → R i j → S i j) → AsksOnly a b t g Q →
    AsksOnly a b t g R → AsksOnly a b t g S
asks_both a None t g Q R S f x y = tt
asks_both None (Some b) t g Q R S f x y = absurd x
asks_both (Some a) (Some b) t g Q R S f x y =
    let same : y.0 ≡ x.0 = append_cancel_left a y.0 x.0 (sym y.1 ∙ x.1) in (
      x.0,
      x.1,
      each_both (CountedFrom t g Q) (CountedFrom t g R) (CountedFrom t g S) (counted_both t g Q R S f) x.0 x.2
          (subst (AllByRecursion (CountedFrom t g R)) same y.2),
    )

-- one stretch of calls, of which two things are known at each read call
pub since_both : {a b : Outside} {t g w : List ℕ} {Q R : ℕ → ℕ → Type 0} → Exchange a b t g w Q → Exchange a b t g w R →
    Exchange a b t g w (λ i j. Q i j × R i j)
since_both {a = a} {b = b} p q = record {
  rest = p.rest;
  taken = p.taken;
  given = p.given;
  noted = p.noted;
  asked = asks_both a.asked b.asked a.taken a.given _ _ _ (λ i j x y. (x.0, x.1, (x.2, y.2))) p.asked q.asked;
  faults = p.faults;
}

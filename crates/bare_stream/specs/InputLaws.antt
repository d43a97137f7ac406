-- Octets that are taken from a port can be continued. These laws are here since the meaning of a source needs them.
use Rattle.std.proofs.Common.{ℕ, ◌≡◌, ◌⊎◌, ◌≤◌, ◌+◌, true, inl, inr, List, [], ◌∷◌, ◌++◌, length, refl, sym, ap, ◌∙◌, arith, append_assoc}
use Rattle.std.proofs.Common.{length-append, Bool, Option, None, Some}
use Rattle.std.proofs.lemmas.List.{append-nil}
use Rattle.port_122.specs.Outside.{Outside, Loses, Rose}
use Rattle.port_122.proofs.Stretches.{since_start, since_then, since_weaker, rose_since}
use Rattle.bare_stream.specs.declared.input.PortIn.{PortIn}
use Rattle.bare_stream.specs.Input.{Went, IsLast, AsksWithin, waiting}

pub went_none : {X : Type 0} (outside : X → Outside) (s : PortIn X) → Went outside s s
went_none outside s = record {
  port = refl;
  took = [];
  gave = [];
  flow = append-nil (waiting s);
  left = omega arith;
  since = since_start (outside s.port.now) (AsksWithin outside s s [] []);
  stops = λ e. (refl, e);
  rises = λ e. inl e;
}

-- what waited is given first
joined : (a xs ys p b q c : List ℕ) → a ++ xs ≡ p ++ b → b ++ ys ≡ q ++ c → a ++ (xs ++ ys) ≡ (p ++ q) ++ c
joined a xs ys p b q c e f =
    sym (append_assoc a xs ys) ∙ ap (λ l. l ++ ys) e ∙ append_assoc p b ys ∙ ap (λ l. p ++ l) f ∙ sym (append_assoc p q c)

-- nothing is taken where nothing is left
none_left : (b c : Option (List ℕ)) (took : List ℕ) → Loses b c took → b ≡ Some [] → (took ≡ []) × (c ≡ Some [])
none_left None c took loses e = absurd cc
none_left (Some before) None took loses e = absurd loses
none_left (Some before) (Some now) took loses e = by took now (sym loses ∙ of_some before e)
  where
    of_some : (xs : List ℕ) → Some xs ≡ Some [] → xs ≡ []
    of_some xs e = cc

    by : (a b : List ℕ) → a ++ b ≡ [] → (a ≡ []) × (Some b ≡ Some [])
    by [] b e = (refl, ap (λ l. Some l) e)
    by (x ∷ a) b e = absurd cc

pub still_known : (a b : Option (List ℕ)) (took all : List ℕ) → Loses a b took → a ≡ Some all → (rest : List ℕ) × (b ≡ Some rest)
still_known None b took all loses if_known = absurd cc
still_known (Some before) None took all loses if_known = absurd loses
still_known (Some before) (Some now) took all loses if_known = (now, refl)

-- the last call stays the last one
pub still_last : (took more : List ℕ) (before now : Bool) (old new : Option (List ℕ)) (i : ℕ) → (before ≡ true → (more ≡ []) × (now ≡ true)) →
    Loses old new more → IsLast took before old i →
    (more ≡ []) × IsLast (took ++ more) now new i
still_last took more before now old new i stops loses last = elim last.over [
  | inl failed ↦ let after = stops failed in (after.0, record { all = same after.0; over = inl after.1 })
  | inr none ↦ let after = none_left old new more loses none in (after.0, record { all = same after.0; over = inr after.1 })
]
  where
    same : more ≡ [] → i ≡ length (took ++ more)
    same none = last.all ∙ ap length (sym (ap (λ l. took ++ l) none ∙ append-nil took))

module _ {X : Type 0} (outside : X → Outside) (s t u : PortIn X) (first : Went outside s t) (next : Went outside t u) where
  abbrev took : List ℕ
  took = first.took ++ next.took

  abbrev gave : List ℕ
  gave = first.gave ++ next.gave

  sizes : length (waiting s) + length first.took ≡ length first.gave + length (waiting t)
  sizes = sym (length-append (waiting s) first.took) ∙ ap length first.flow ∙ length-append first.gave (waiting t)

  asks_first : (i j : ℕ) → i ≤ length first.took → AsksWithin outside s t first.took first.gave i j → AsksWithin outside s u took gave i j
  asks_first i j le asks = (
    asks.0,
    asks.1,
    elim asks.2 [
      | inl lt ↦ inl (omega (arith, lt, length-append first.gave next.gave))
      | inr last ↦ inr (λ input if_known. (still_last first.took next.took t.failed u.failed (outside t.port.now).rest (outside u.port.now).rest i next.stops
          next.since.rest (last input if_known)).1)
    ],
  )

  asks_next : (i j : ℕ) → i ≤ length next.took → AsksWithin outside t u next.took next.gave i j → AsksWithin outside s u took gave (length first.took + i)
      (0 + j)
  asks_next i j le asks = (
    (let e = asks.0 in omega (arith, e)),
    (let room = asks.1 in let left = first.left in omega (arith, room, left)),
    elim asks.2 [
      | inl lt ↦ inl (omega (arith, lt, sizes, length-append first.gave next.gave))
      | inr last ↦ inr (λ input if_known.
          let here = still_known (outside s.port.now).rest (outside t.port.now).rest first.took input first.since.rest if_known in
          let l = last here.0 here.1 in
          record { all = ap (λ n. length first.took + n) l.all ∙ sym (length-append first.took next.took); over = l.over })
    ],
  )

  both_rise : u.failed ≡ true → (s.failed ≡ true) ⊎ Rose (outside s.port.now).read_faults (outside u.port.now).read_faults
  both_rise failed = elim (next.rises failed) [
    | inl before ↦ elim (first.rises before) [
      | inl old ↦ inl old
      | inr rose ↦ inr (let less = next.since.faults.reads in omega (arith, rose, less))
    ]
    | inr rose ↦ inr (rose_since first.since.faults.reads rose)
  ]

  pub went_both : Went outside s u
  went_both = record {
    port = next.port ∙ first.port;
    took = took;
    gave = gave;
    flow = joined (waiting s) first.took next.took first.gave (waiting t) next.gave (waiting u) first.flow next.flow;
    left = (let a = first.left in let b = next.left in omega (arith, a, b, length-append first.took next.took));
    since = since_then (since_weaker first.since asks_first) next.since asks_next;
    stops = λ failed.
        let a = first.stops failed in
        let b = next.stops a.1 in
        (ap (λ l. l ++ next.took) a.0 ∙ b.0, b.1);
    rises = both_rise;
  }

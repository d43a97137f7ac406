-- Steps that are sent one after another follow scripts.
use Rattle.std.proofs.lemmas.Bool.Decides.{nat_tests}
use Rattle.std.proofs.Common.{◌≡◌, ℕ, zero, suc, ◌+◌, ◌≤◌, ◌<◌, Bool, if◌then◌else◌, List, [], ◌∷◌, ◌++◌, filter, refl, ap, sym, ◌∙◌, subst}
use Rattle.std.proofs.Common.{arith, append_assoc, append-nil}
use Rattle.std.specs.List.{flat_map, range_with_len}
use Rattle.std.proofs.lemmas.List.{map-append}
use Rattle.base_122.specs.declared.book.Book.{Book}
use Rattle.plane_defs.specs.declared.entries.Entry.{Entry}
use Rattle.plane_defs.specs.Spans.{span}
use Rattle.plane_defs.specs.Steps.{Step}
use Rattle.plane_defs.specs.StepLaws.{entry_of, entries_of}
use Rattle.plane_defs.specs.Reading.{step_reading, read_after}
use Rattle.plane_defs.proofs.Equations.{span-none}
use Rattle.item_defs.specs.Scripts.{Script, done, then_ask, in_turn}
use Rattle.item_defs.specs.Writing.{Writes}
use Rattle.item_defs.proofs.Writing.{writes_none, writes_then}

-- ---- spans from their first number on

pub span-first : (j n : ℕ) → j ∷ span (suc j) n ≡ span j (suc n)
unfolding span
span-first j zero = let e : j ≡ j + 0 = omega arith in ap (λ k. k ∷ []) e
span-first j (suc n) =
    let e : suc j + n ≡ j + suc n = omega arith in
    ap (λ l. l ++ (suc j + n) ∷ []) (span-first j n) ∙ ap (λ k. span j (suc n) ++ k ∷ []) e

pub range_span : (j n : ℕ) → range_with_len j n ≡ span j n
range_span j zero = sym (span-none j)
range_span j (suc n) =
    let e : j + 1 ≡ suc j = omega arith in
    ap (λ k. j ∷ range_with_len k n) e ∙ ap (λ l. j ∷ l) (range_span (suc j) n) ∙ span-first j n

pub flat_map_filter : {X A : Type 0} (f : X → List A) (p : X → Bool) (xs : List X) →
    flat_map f (filter p xs) ≡ flat_map (λ x. if p x then f x else []) xs
flat_map_filter f p [] = refl
flat_map_filter {X} {A} f p (x ∷ xs) = by (p x) (flat_map_filter f p xs)
  where
    by : (b : Bool) → flat_map f (filter p xs) ≡ flat_map (λ x. if p x then f x else []) xs →
        flat_map f (if b then x ∷ filter p xs else filter p xs) ≡ ((if b then f x else []) ++ flat_map (λ x. if p x then f x else []) xs)
    by b h1 = grind (arith, nat_tests)

-- ---- steps

pub read_append : (book : Book) (o : List ℕ) (before : List Entry) (xs ys : List Step) →
    read_after book o before (xs ++ ys) ≡ read_after book o before xs ++ read_after book o (before ++ entries_of xs) ys
read_append book o before [] ys = ap (λ b. read_after book o b ys) (sym (append-nil before))
read_append book o before (x ∷ xs) ys =
    let now = before ++ x.entry ∷ [] in
    ap (λ l. step_reading book o before x ++ l)
    (read_append book o now xs ys ∙ ap (λ b. read_after book o now xs ++ read_after book o b ys) (append_assoc before (x.entry ∷ []) (entries_of xs))) ∙
    sym (append_assoc (step_reading book o before x) (read_after book o now xs) (read_after book o (before ++ entries_of (x ∷ xs)) ys))

-- these steps, after these entries, lead to an end of this kind
abbrev pub Sends : {G A : Type 0} → Book → List ℕ → Script G A → (before : List Entry) → List Step → (List Entry → A → Type 0) → Type 0
Sends book o s before steps P = Writes s (read_after book o before steps) (P (before ++ entries_of steps))

module _ (book : Book) (o : List ℕ) where
  pub sends_none : {G A : Type 0} (P : List Entry → A → Type 0) (a : A) (before : List Entry) → P before a →
      Sends {G = G} book o (done a) before [] P
  sends_none P a before p = writes_none (P (before ++ [])) a (subst (λ b. P b a) (sym (append-nil before)) p)

  pub sends_then : {G A B : Type 0} (P : List Entry → A → Type 0) (Q : List Entry → B → Type 0) (s : Script G A) (next : A → Script G B) (before : List Entry)
      (xs ys : List Step) → Sends book o s before xs P →
      ((a : A) → P (before ++ entries_of xs) a → Sends book o (next a) (before ++ entries_of xs) ys Q) → Sends book o (then_ask s next) before (xs ++ ys) Q
  sends_then P Q s next before xs ys w more =
      let now = before ++ entries_of xs in
      let e : now ++ entries_of ys ≡ before ++ entries_of (xs ++ ys) =
      append_assoc before (entries_of xs) (entries_of ys) ∙ ap (λ l. before ++ l) (sym (map-append entry_of xs ys)) in
      subst (λ l. Writes (then_ask s next) l (Q (before ++ entries_of (xs ++ ys)))) (sym (read_append book o before xs ys))
      (subst (λ b. Writes (then_ask s next) (read_after book o before xs ++ read_after book o now ys) (Q b)) e
      (writes_then (P now) (Q (now ++ entries_of ys)) s next (read_after book o before xs) (read_after book o now ys) w more))

  pub sends_in_turn : {S : Type 0} (P : ℕ → List Entry → S → Type 0) (item : ℕ → S → Script S S) (steps : ℕ → List Step) (j n : ℕ) →
      ((i : ℕ) (b : List Entry) (s : S) → j ≤ i → i < j + n → P i b s → Sends book o (item i s) b (steps i) (P (suc i))) →
      (b : List Entry) (s : S) → P j b s → Sends book o (in_turn item j n s) b (flat_map steps (span j n)) (P (j + n))
  sends_in_turn P item steps j zero each b s p =
      let e : j ≡ j + zero = omega arith in
      subst (λ l. Sends book o (in_turn item j zero s) b (flat_map steps l) (P (j + zero))) (sym (span-none j))
      (sends_none (P (j + zero)) s b (subst (λ i. P i b s) e p))
  sends_in_turn P item steps j (suc n) each b s p =
      let e : suc j + n ≡ j + suc n = omega arith in
      subst (λ l. Sends book o (in_turn item j (suc n) s) b (flat_map steps l) (P (j + suc n))) (span-first j n)
      (sends_then (P (suc j)) (P (j + suc n)) (item j s) (in_turn item (suc j) n) b (steps j) (flat_map steps (span (suc j) n))
      (each j b s (omega arith) (omega arith) p)
      (λ t q. subst (λ i. Sends book o (in_turn item (suc j) n t) (b ++ entries_of (steps j)) (flat_map steps (span (suc j) n)) (P i)) e
      (sends_in_turn P item steps (suc j) n (λ i c u low high. each i c u (omega (arith, low)) (omega (arith, high))) (b ++ entries_of (steps j)) t q)))

  -- the end is made of what was read
  pub sends_last : {G A B : Type 0} (P : List Entry → A → Type 0) (Q : List Entry → B → Type 0) (s : Script G A) (make : A → B) (before : List Entry)
      (xs : List Step) → Sends book o s before xs P → ((now : List Entry) (a : A) → P now a → Q now (make a)) →
      Sends book o (then_ask s (λ a. done (make a))) before xs Q
  sends_last P Q s make before xs w keeps =
      subst (λ l. Sends book o (then_ask s (λ a. done (make a))) before l Q) (append-nil xs)
      (sends_then P Q s (λ a. done (make a)) before xs [] w (λ a p. sends_none Q (make a) (before ++ entries_of xs) (keeps (before ++ entries_of xs) a p)))

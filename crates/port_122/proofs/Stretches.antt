-- Stretches of calls, one after another.
use Rattle.std.proofs.Common.{◌≡◌, ◌≤◌, ◌+◌, ℕ, List, [], ◌∷◌, ◌++◌, length, refl, sym, ap, subst, arith, append_assoc, length-append, ◌-◌, take, drop}
use Rattle.std.proofs.Common.{Option, None, Some, Result, Ok, Err, IsErr, take-add}
use Rattle.std.specs.List.{AllByRecursion}
use Rattle.std.proofs.lemmas.List.{append-nil, take_rest}
use Rattle.std.proofs.lemmas.Bool.{false≢true}
use Rattle.port_122.specs.Outside.{Outside, IsUsedUp, AtEnd, Grows, Loses, AsksOnly, CountedFrom, Exchange, NoRead, Written, WriteFailed, Noted, NoteFailed}
use Rattle.port_122.specs.Outside.{WritesAll, NotesAll, Rose}

-- a reported list grows by nothing
pub grows_start : {A : Type 0} (o : Option (List A)) → Grows o o []
grows_start None = tt
grows_start (Some xs) = sym (append-nil xs)

-- a reported list grows by one list and then by another
pub grows_then : {A : Type 0} (a b c : Option (List A)) (xs ys : List A) → Grows a b xs → Grows b c ys → Grows a c (xs ++ ys)
grows_then a b None xs ys p q = tt
grows_then a None (Some c) xs ys p q = absurd q
grows_then None (Some b) (Some c) xs ys p q = absurd p
grows_then (Some a) (Some b) (Some c) xs ys p q = rw (q, p) (append_assoc a xs ys)

-- a reported list loses nothing
pub loses_start : (o : Option (List ℕ)) → Loses o o []
loses_start None = tt
loses_start (Some xs) = refl

-- a reported list loses one list and then another
pub loses_then : (a b c : Option (List ℕ)) (xs ys : List ℕ) → Loses a b xs → Loses b c ys → Loses a c (xs ++ ys)
loses_then None None None xs ys p q = tt
loses_then None None (Some c) xs ys p q = absurd q
loses_then None (Some b) c xs ys p q = absurd p
loses_then (Some a) None c xs ys p q = absurd p
loses_then (Some a) (Some b) None xs ys p q = absurd q
loses_then (Some a) (Some b) (Some c) xs ys p q = rw (p, q) (sym (append_assoc xs ys c))

-- nothing is left after nothing more was taken
pub used_up_later : (b c : Option (List ℕ)) → Loses b c [] → IsUsedUp b → IsUsedUp c
used_up_later b None p e = tt
used_up_later None (Some c) p e = absurd p
used_up_later (Some b) (Some c) p e = rw (← p) e

-- a property of each element of two lists is one of each element of both
pub each_of_both : {X : Type 0} (P : X → Type 0) (xs ys : List X) → AllByRecursion P xs → AllByRecursion P ys → AllByRecursion P (xs ++ ys)
each_of_both P [] ys p q = q
each_of_both P (x ∷ xs) ys p q = (p.0, each_of_both P xs ys p.1 q)

-- a weaker property of each element
pub each_weaker : {X : Type 0} (P Q : X → Type 0) (xs : List X) → ((x : X) → P x → Q x) → AllByRecursion P xs → AllByRecursion Q xs
each_weaker P Q [] f p = tt
each_weaker P Q (x ∷ xs) f p = (f x p.0, each_weaker P Q xs f p.1)

-- counts past those of a later start, as counts past those of an earlier one
pub counted_then : (at ag bt bg : Option (List ℕ)) (t g : List ℕ) (Q R : ℕ → ℕ → Type 0) →
    Grows at bt t → Grows ag bg g → ((i j : ℕ) → R i j → Q (length t + i) (length g + j)) →
    (entry : ℕ × ℕ) → CountedFrom bt bg R entry → CountedFrom at ag Q entry
counted_then at ag None bg t g Q R p q f entry r = absurd r
counted_then at ag (Some bt) None t g Q R p q f entry r = absurd r
counted_then None ag (Some bt) (Some bg) t g Q R p q f entry r = absurd p
counted_then (Some at) None (Some bt) (Some bg) t g Q R p q f entry r = absurd q
counted_then (Some at) (Some ag) (Some bt) (Some bg) t g Q R p q f entry r =
    let i = r.0 in
    let j = r.1 in
    let first : entry.0 ≡ length at + (length t + i) = omega (arith, r.2, ap length p, length-append at t) in
    let second : entry.1 ≡ length ag + (length g + j) = omega (arith, r.3, ap length q, length-append ag g) in
    (length t + i, length g + j, first, second, f i j r.4)

-- the read calls of two stretches
pub asks_then : (a b c : Option (List (ℕ × ℕ))) (at ag bt bg : Option (List ℕ)) (t g : List ℕ) (Q R : ℕ → ℕ → Type 0) →
    Grows at bt t → Grows ag bg g → ((i j : ℕ) → R i j → Q (length t + i) (length g + j)) →
    AsksOnly a b at ag Q → AsksOnly b c bt bg R → AsksOnly a c at ag Q
asks_then a b None at ag bt bg t g Q R p q f x y = tt
asks_then a None (Some c) at ag bt bg t g Q R p q f x y = absurd y
asks_then None (Some b) (Some c) at ag bt bg t g Q R p q f x y = absurd x
asks_then (Some a) (Some b) (Some c) at ag bt bg t g Q R p q f x y = (
  x.0 ++ y.0,
  rw (y.1, x.1) (append_assoc a x.0 y.0),
  each_of_both (CountedFrom at ag Q) x.0 y.0 x.2
      (each_weaker (CountedFrom bt bg R) (CountedFrom at ag Q) y.0 (counted_then at ag bt bg t g Q R p q f) y.2),
)

-- a weaker property of counts past those of a start
pub counted_weaker : (t g : Option (List ℕ)) (Q R : ℕ → ℕ → Type 0) → ((i j : ℕ) → Q i j → R i j) → (entry : ℕ × ℕ) → CountedFrom t g Q entry →
    CountedFrom t g R entry
counted_weaker None g Q R f entry q = absurd q
counted_weaker (Some t) None Q R f entry q = absurd q
counted_weaker (Some t) (Some g) Q R f entry q = (q.0, q.1, q.2, q.3, f q.0 q.1 q.4)

-- a weaker property at each read call
pub asks_weaker : (a b : Option (List (ℕ × ℕ))) (t g : Option (List ℕ)) (Q R : ℕ → ℕ → Type 0) → ((i j : ℕ) → Q i j → R i j) → AsksOnly a b t g Q →
    AsksOnly a b t g R
asks_weaker a None t g Q R f x = tt
asks_weaker None (Some b) t g Q R f x = absurd x
asks_weaker (Some a) (Some b) t g Q R f x = (x.0, x.1, each_weaker (CountedFrom t g Q) (CountedFrom t g R) x.0 (counted_weaker t g Q R f) x.2)

-- no read call was entered
pub asks_nothing : (a : Option (List (ℕ × ℕ))) (t g : Option (List ℕ)) (Q : ℕ → ℕ → Type 0) → AsksOnly a a t g Q
asks_nothing None t g Q = tt
asks_nothing (Some xs) t g Q = ([], sym (append-nil xs), tt)

-- nothing has been done since a moment at that moment
pub since_start : (p : Outside) (Q : ℕ → ℕ → Type 0) → Exchange p p [] [] [] Q
since_start p Q = record {
  rest = loses_start p.rest;
  taken = grows_start p.taken;
  given = grows_start p.given;
  noted = grows_start p.noted;
  asked = asks_nothing p.asked p.taken p.given _;
  faults = record { reads = omega arith; writes = omega arith; notes = omega arith };
}

-- two stretches, one after the other
pub since_then : {a b c : Outside} {t g w t' g' w' : List ℕ} {Q R : ℕ → ℕ → Type 0} →
    Exchange a b t g w Q → Exchange b c t' g' w' R → ((i j : ℕ) → i ≤ length t' → R i j → Q (length t + i) (length g + j)) →
    Exchange a c (t ++ t') (g ++ g') (w ++ w') Q
since_then {a = a} {b = b} {c = c} {t = t} {g = g} {w = w} {t' = t'} {g' = g'} {w' = w'} {Q = Q} {R = R} p q f =
    let S : ℕ → ℕ → Type 0 = λ i j. (i ≤ length (t ++ t')) × (j ≤ length (g ++ g')) × Q i j in
    let first : AsksOnly a.asked b.asked a.taken a.given S =
    asks_weaker a.asked b.asked a.taken a.given _ S (λ i j r. (omega (arith, r.0, length-append t t'), omega (arith, r.1, length-append g g'), r.2)) p.asked in
    record {
      rest = loses_then a.rest b.rest c.rest t t' p.rest q.rest;
      taken = grows_then a.taken b.taken c.taken t t' p.taken q.taken;
      given = grows_then a.given b.given c.given g g' p.given q.given;
      noted = grows_then a.noted b.noted c.noted w w' p.noted q.noted;
      asked = asks_then a.asked b.asked c.asked a.taken a.given b.taken b.given t g S _ p.taken p.given
          (λ i j r. (omega (arith, r.0, length-append t t'), omega (arith, r.1, length-append g g'), f i j r.0 r.2)) first q.asked;
      faults = record {
        reads = omega (arith, p.faults.reads, q.faults.reads);
        writes = omega (arith, p.faults.writes, q.faults.writes);
        notes = omega (arith, p.faults.notes, q.faults.notes);
      };
    }

-- two stretches, of which the second has no read call
pub since_out : {a b c : Outside} {t g w g' w' : List ℕ} {Q : ℕ → ℕ → Type 0} →
    Exchange a b t g w Q → Exchange b c [] g' w' NoRead → Exchange a c t (g ++ g') (w ++ w') Q
since_out {a = a} {b = b} {c = c} {t = t} {g = g} {w = w} {g' = g'} {w' = w'} {Q = Q} p q =
    let both : Exchange a c (t ++ []) (g ++ g') (w ++ w') Q = since_then p q (λ i j _ no. absurd no) in
    subst (λ t. Exchange a c t (g ++ g') (w ++ w') Q) (append-nil t) both

-- a part of the octets is written, and then the rest
pub since_written : {a b c : Outside} (octets : List ℕ) (done count : ℕ) →
    Exchange a b [] (take done octets) [] NoRead → Written b c (take (length octets - done) (drop done octets)) count →
    Exchange a c [] (take (done + count) octets) [] NoRead
since_written {b = b} {c = c} octets done count p q =
    let next : Written b c (drop done octets) count = subst (λ piece. Written b c piece count) (take_rest octets done) q in
    rw (take-add done count octets) (since_out p next.since)

-- a part of the octets is noted, and then the rest
pub since_noted : {a b c : Outside} (octets : List ℕ) (done count : ℕ) →
    Exchange a b [] [] (take done octets) NoRead → Noted b c (take (length octets - done) (drop done octets)) count →
    Exchange a c [] [] (take (done + count) octets) NoRead
since_noted {b = b} {c = c} octets done count p q =
    let next : Noted b c (drop done octets) count = subst (λ piece. Noted b c piece count) (take_rest octets done) q in
    rw (take-add done count octets) (since_out p next.since)

-- nothing more
pub since_same : {a b c : Outside} {t g w : List ℕ} {Q : ℕ → ℕ → Type 0} →
    Exchange a b t g w Q → Exchange b c [] [] [] NoRead → Exchange a c t g w Q
since_same {a = a} {c = c} {t = t} {g = g} {w = w} {Q = Q} p q =
    let both : Exchange a c t (g ++ []) (w ++ []) Q = since_out p q in
    subst (λ g. Exchange a c t g w Q) (append-nil g) (subst (λ w. Exchange a c t (g ++ []) w Q) (append-nil w) both)

-- a part of the octets is written, and the next write fails
pub failed_write : {T E : Type 0} {a b c : Outside} (octets : List ℕ) (done : ℕ) (r : Result T E) →
    done ≤ length octets → Exchange a b [] (take done octets) [] NoRead → WriteFailed b c → IsErr r → WritesAll r a c octets
failed_write octets done (Ok x) le p q is = absurd (false≢true is)
failed_write octets done (Err e) le p q is = (omega (arith, p.faults.writes, q.rose), (done, le, since_same p q.since))

-- a part of the octets is noted, and the next note fails
pub failed_note : {T E : Type 0} {a b c : Outside} (octets : List ℕ) (done : ℕ) (r : Result T E) →
    done ≤ length octets → Exchange a b [] [] (take done octets) NoRead → NoteFailed b c → IsErr r → NotesAll r a c octets
failed_note octets done (Ok x) le p q is = absurd (false≢true is)
failed_note octets done (Err e) le p q is = (omega (arith, p.faults.notes, q.rose), (done, le, since_same p q.since))

-- a weaker property at each read call
pub since_weaker : {a b : Outside} {t g w : List ℕ} {Q R : ℕ → ℕ → Type 0} →
    Exchange a b t g w R → ((i j : ℕ) → i ≤ length t → R i j → Q i j) → Exchange a b t g w Q
since_weaker {a = a} {b = b} p f = record {
  rest = p.rest;
  taken = p.taken;
  given = p.given;
  noted = p.noted;
  asked = asks_weaker a.asked b.asked a.taken a.given _ _ (λ i j r. (r.0, r.1, f i j r.0 r.2)) p.asked;
  faults = p.faults;
}

-- a count that rose in a part of a stretch rose in all of it
pub rose_since : {a b c : ℕ} → a ≤ b → Rose b c → Rose a c
rose_since p q = omega (arith, p, q)

-- the end is still reached
pub at_end_later : {b c : Outside} {g w : List ℕ} {Q : ℕ → ℕ → Type 0} → Exchange b c [] g w Q → AtEnd b → AtEnd c
at_end_later {b = b} {c = c} p e = used_up_later b.rest c.rest p.rest e

-- a stretch with no notes, and then notes
pub since_note : {a b c : Outside} {t g w : List ℕ} {Q : ℕ → ℕ → Type 0} →
    Exchange a b t g [] Q → Exchange b c [] [] w NoRead → Exchange a c t g w Q
since_note {a = a} {c = c} {t = t} {g = g} {w = w} {Q = Q} p q =
    subst (λ gave. Exchange a c t gave w Q) (append-nil g) (since_out p q)

-- The octets of the elements of a list, given one after another.
use Rattle.std.proofs.Common.{◌≡◌, ◌≤◌, ◌<◌, ◌+◌, ℕ, List, [], ◌∷◌, ◌++◌, length, map, take, drop, get_or, refl, sym, ap, subst, ◌∙◌, arith, append_assoc}
use Rattle.std.proofs.Common.{length-append, Bool, true, false, cond, filter, Result, Ok, Err, IsErr, flat_map}
use Rattle.std.proofs.lemmas.Bool.{false≢true}
use Rattle.std.proofs.lemmas.Grind.{flat_map-append}
use Rattle.std.proofs.lemmas.List.{append-nil, take-append-drop, take-append-le, take_more, take_all}
use Rattle.std.proofs.Math.Seq.{take-append-add}
use Rattle.port_122.specs.Outside.{Outside, Exchange, NoRead, Rose, WritesAll}
use Rattle.port_122.proofs.Stretches.{since_start, since_out, rose_since}
use Rattle.quick_look.specs.declared.rect.Rect.{Rect}
use Rattle.quick_look.specs.RectLines.{rect_line, rect_lines}

module _ {X : Type 0} (f : X → List ℕ) (xs : List X) where
  pub given_none : (a : Outside) → Exchange a a [] (flat_map f (take 0 xs)) [] NoRead
  given_none a = since_start a NoRead

  more : (i : ℕ) (d : X) → i < length xs → flat_map f (take (i + 1) xs) ≡ flat_map f (take i xs) ++ f (get_or xs i d)
  more i d lt =
      ap (flat_map f) (take_more xs i d lt) ∙ flat_map-append f (take i xs) (get_or xs i d ∷ []) ∙ ap (λ zs. flat_map f (take i xs) ++ zs)
      (append-nil (f (get_or xs i d)))

  parts : (i : ℕ) (d : X) → i < length xs → flat_map f xs ≡ flat_map f (take i xs) ++ (f (get_or xs i d) ++ flat_map f (drop (i + 1) xs))
  parts i d lt =
      ap (flat_map f) (sym (take-append-drop (i + 1) xs))
      ∙ flat_map-append f (take (i + 1) xs) (drop (i + 1) xs)
      ∙ ap (λ zs. zs ++ flat_map f (drop (i + 1) xs)) (more i d lt)
      ∙ append_assoc (flat_map f (take i xs)) (f (get_or xs i d)) (flat_map f (drop (i + 1) xs))

  -- the next one was given
  pub given_more : (a b c : Outside) (i : ℕ) (x : X) → i < length xs → x ≡ get_or xs i x → Exchange a b [] (flat_map f (take i xs)) [] NoRead →
      Exchange b c [] (f x) [] NoRead → Exchange a c [] (flat_map f (take (i + 1) xs)) [] NoRead
  given_more a b c i x lt is before out =
      subst (λ zs. Exchange a c [] zs [] NoRead) (ap (λ y. flat_map f (take i xs) ++ f y) is ∙ sym (more i x lt)) (since_out before out)

  -- or a part of it
  pub given_part : {T E : Type 0} (r : Result T E) (a b c : Outside) (i : ℕ) (x : X) → IsErr r → i < length xs → x ≡ get_or xs i x →
      Exchange a b [] (flat_map f (take i xs)) [] NoRead →
      Rose b.write_faults c.write_faults × ((n : ℕ) × (n ≤ length (f x)) × Exchange b c [] (take n (f x)) [] NoRead) → WritesAll r a c (flat_map f xs)
  given_part (Ok y) a b c i x fails lt is before failed = absurd (false≢true fails)
  given_part (Err e) a b c i x fails lt is before failed =
      let n = failed.1.0 in
      let le = failed.1.1 in
      let first = flat_map f (take i xs) in
      let one = f x in
      let later = flat_map f (drop (i + 1) xs) in
      let all : flat_map f xs ≡ first ++ (one ++ later) = parts i x lt ∙ ap (λ y. first ++ (f y ++ later)) (sym is) in
      let prefix : take (length first + n) (flat_map f xs) ≡ first ++ take n one =
      ap (take (length first + n)) all ∙ take-append-add first (one ++ later) n ∙ ap (λ zs. first ++ zs) (take-append-le n one later le) in (
        rose_since before.faults.writes failed.0,
        (
          length first + n,
          omega (arith, le, ap length all, length-append first (one ++ later), length-append one later),
          subst (λ zs. Exchange a c [] zs [] NoRead) (sym prefix) (since_out before failed.1.2),
        ),
      )

  -- all were given
  pub given_all : (a b : Outside) (i : ℕ) → length xs ≤ i → Exchange a b [] (flat_map f (take i xs)) [] NoRead → Exchange a b [] (flat_map f xs) [] NoRead
  given_all a b i le out = subst (λ ys. Exchange a b [] (flat_map f ys) [] NoRead) (take_all i xs le) out

-- ---- the lines of rectangles

-- of those that are chosen, one after another
pub lines_each : {X : Type 0} (p : Rect → Bool) (made : X → Rect) (xs : List X) → flat_map (λ x. rect_lines (filter p (made x ∷ []))) xs
    ≡ rect_lines (filter p (map made xs))
lines_each p made [] = refl
lines_each p made (x ∷ xs) = ap (λ zs. rect_lines (filter p (made x ∷ [])) ++ zs) (lines_each p made xs) ∙ by (p (made x))
  where
    by : (b : Bool) → rect_lines (cond b (made x ∷ []) []) ++ rect_lines (filter p (map made xs))
        ≡ rect_lines (cond b (made x ∷ filter p (map made xs)) (filter p (map made xs)))
    by true = ap (λ zs. zs ++ rect_lines (filter p (map made xs))) (append-nil (rect_line (made x)))
    by false = refl

-- of lists of them
pub lines_all : {X : Type 0} (made : X → List Rect) (xs : List X) → flat_map (λ x. rect_lines (made x)) xs ≡ rect_lines (flat_map made xs)
lines_all made [] = refl
lines_all made (x ∷ xs) = ap (λ zs. rect_lines (made x) ++ zs) (lines_all made xs) ∙ sym (flat_map-append rect_line (made x) (flat_map made xs))

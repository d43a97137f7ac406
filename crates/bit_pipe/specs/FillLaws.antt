-- Stretches of calls that fill a slice are together one stretch.
use Rattle.std.specs.Prelude.{◌≡◌, ℕ, ◌+◌, ◌-◌, ◌^◌, min, List, [], ◌++◌, length, take, drop, refl}
use Rattle.std.proofs.Common.{sym, ap, ◌∙◌, append_assoc, add-zero, add_assoc, length-append}
use Rattle.std.proofs.lemmas.List.{append-nil, drop-drop}
use Rattle.bit_pipe.specs.Fills.{Filling, Fills, Overfills}

pub fills_none : (s : Filling) → Fills s s []
fills_none s = record { name = refl; len = sym (add-zero s.len); prefix = sym (append-nil (take s.len s.slice)); rest = refl; size = refl; faults = refl }

pub fills_both : (s t u : Filling) (xs ys : List ℕ) → Fills s t xs → Fills t u ys → Fills s u (xs ++ ys)
fills_both s t u xs ys p q =
    let past : t.len + length ys ≡ u.len = sym q.len in
    let rest : drop u.len t.slice ≡ drop u.len s.slice =
    ap (λ n. drop n t.slice) (sym past) ∙ sym (drop-drop (length ys) t.len t.slice) ∙ ap (drop (length ys)) p.rest ∙ drop-drop (length ys) t.len s.slice
    ∙ ap (λ n. drop n s.slice) past in
    record {
      name = q.name ∙ p.name;
      len = q.len ∙ ap (λ n. n + length ys) p.len ∙ add_assoc s.len (length xs) (length ys) ∙ ap (λ n. s.len + n) (sym (length-append xs ys));
      prefix = q.prefix ∙ ap (λ r. r ++ ys) p.prefix ∙ append_assoc (take s.len s.slice) xs ys;
      rest = q.rest ∙ rest;
      size = q.size ∙ p.size;
      faults = q.faults ∙ p.faults;
    }

pub overfills_after : (s t u : Filling) (xs ys : List ℕ) → Fills s t xs → Overfills t u ys → Overfills s u (xs ++ ys)
overfills_after s t u xs ys p q = record {
  name = q.name ∙ p.name;
  fitting = xs ++ q.fitting;
  over = q.over;
  parts = ap (λ r. xs ++ r) q.parts ∙ sym (append_assoc xs q.fitting q.over);
  some = q.some;
  full = q.full;
  prefix = q.prefix ∙ ap (λ r. r ++ q.fitting) p.prefix ∙ append_assoc (take s.len s.slice) xs q.fitting;
  size = q.size ∙ p.size;
  faults = q.faults ∙ ap (λ n. min (n + length q.over) (2 ^ 64 - 1)) p.faults;
}

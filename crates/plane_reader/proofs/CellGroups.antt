-- Masks of a segment, group by group: the masks of a group are the masks of the part that is the group.
use Rattle.std.proofs.Common.{◌≡◌, inl, inr, ℕ, ◌+◌, ◌-◌, ◌*◌, ◌/◌, ◌%◌, ◌<◌, ◌≤◌, List, ◌++◌, length, get_or, take, drop, refl, ap, sym, ◌∙◌, arith, ℤ}
use Rattle.std.proofs.Common.{pos, length-append}
use borrow.Rule.Slice.PartMut.{put_mid}
use Rattle.std.proofs.lemmas.Bool.{cases_lt}
use Rattle.std.proofs.lemmas.List.{length-take-le, length-drop, drop-drop, ext_get_or, get_or_append_left, get_or-append-add}
use Rattle.block_masks.specs.Slices.{width, place, mask_from, mask_in, number_in, numbers_in}
use Rattle.block_masks.proofs.SliceNumbers.{length-numbers_in, number_at, same_number}

-- a mask is within its segment
place_within : (count r slot : ℕ) → r < count → slot < 32 → place count r slot + 1 < 64 * count
place_within count r slot within few =
    let most : width count r * slot ≤ width count r * 31 = grind arith in
    omega (arith, most)

module _ (a b : List ℤ) (groups : length a % 4096 ≡ 0) where
  from_left : (i : ℕ) → i + 1 < length a → mask_from (a ++ b) i ≡ mask_from a i
  from_left i lt = rw (get_or_append_left a b (pos 0) i (omega (arith, lt)), get_or_append_left a b (pos 0) (i + 1) lt) refl

  from_right : (i : ℕ) → mask_from (a ++ b) (length a + i) ≡ mask_from b i
  from_right i =
      let next : length a + i + 1 ≡ length a + (i + 1) = omega arith in
      rw (next, get_or-append-add a b i (pos 0), get_or-append-add a b (i + 1) (pos 0)) refl

  place_left : (r s : ℕ) → 64 * r < length a → place (length (a ++ b) / 64) r s ≡ place (length a / 64) r s
  place_left r s known =
      let w : width (length (a ++ b) / 64) r ≡ width (length a / 64) r = omega (arith, groups, known, length-append a b) in
      ap (λ n. 4096 * (r / 64) + 2 * (n * s + r % 64)) w

  place_right : (r s : ℕ) → place (length (a ++ b) / 64) (length a / 64 + r) s ≡ length a + place (length b / 64) r s
  place_right r s =
      let g : (length a / 64 + r) / 64 ≡ length a / 4096 + r / 64 = omega (arith, groups) in
      let m : (length a / 64 + r) % 64 ≡ r % 64 = omega (arith, groups) in
      let w : width (length (a ++ b) / 64) (length a / 64 + r) ≡ width (length b / 64) r = omega (arith, groups, length-append a b, g) in
      rw (w, g, m) (omega (arith, groups))

  pub mask_left : (r s : ℕ) → 64 * r < length a → s < 32 → mask_in (a ++ b) r s ≡ mask_in a r s
  unfolding mask_in
  mask_left r s known few =
      ap (mask_from (a ++ b)) (place_left r s known) ∙ from_left (place (length a / 64) r s) (omega (
        arith,
        groups,
        place_within
            (length a / 64) r s (omega (arith, known, groups)) few,
      ))

  pub mask_right : (r s : ℕ) → mask_in (a ++ b) (length a / 64 + r) s ≡ mask_in b r s
  unfolding mask_in
  mask_right r s = ap (mask_from (a ++ b)) (place_right r s) ∙ from_right (place (length b / 64) r s)

  -- the numbers of groups are those of each group, one after the other
  pub numbers_append : numbers_in (a ++ b) ≡ numbers_in a ++ numbers_in b
  numbers_append = ext_get_or (pos 0) (numbers_in (a ++ b)) (numbers_in a ++ numbers_in b) long each
    where
      long : length (numbers_in (a ++ b)) ≡ length (numbers_in a ++ numbers_in b)
      long = length-numbers_in (a ++ b) ∙ omega (
        arith,
        length-append a b,
        length-append (numbers_in a) (numbers_in b),
        length-numbers_in a,
        length-numbers_in
            b,
      )

      each : (i : ℕ) → i < length (numbers_in (a ++ b)) → get_or (numbers_in (a ++ b)) i (pos 0) ≡ get_or (numbers_in a ++ numbers_in b) i (pos 0)
      each i lt = elim (cases_lt i (length a)) [
        | inl low ↦
            number_at (a ++ b) i (omega (arith, low, length-append a b)) ∙ same_number (a ++ b) a (i / 64) (i / 64) (i % 64) (λ s few other. mask_left
            (i / 64) s (omega (arith, low)) few) ∙ sym (number_at a i low) ∙
            sym (get_or_append_left (numbers_in a) (numbers_in b) (pos 0) i (omega (arith, low, length-numbers_in a)))
        | inr high ↦
            let j : ℕ = i - length a in
            let there : i ≡ length a + j = omega (arith, high) in
            let within : j < length b = omega (arith, high, lt, length-numbers_in (a ++ b), length-append a b) in
            let d : i / 64 ≡ length a / 64 + j / 64 = omega (arith, groups, high) in
            let m : i % 64 ≡ j % 64 = omega (arith, groups, high) in
            let at : i ≡ length (numbers_in a) + j = omega (arith, high, length-numbers_in a) in
            number_at (a ++ b) i (omega (arith, lt, length-numbers_in (a ++ b))) ∙ ap (λ n. number_in (a ++ b) n (i % 64)) d ∙ ap (number_in
            (a ++ b) (length a / 64 + j / 64)) m ∙
            same_number (a ++ b) b (length a / 64 + j / 64) (j / 64) (j % 64) (λ s few other. mask_right (j / 64) s) ∙ sym (number_at b j within) ∙
            sym (ap (λ n. get_or (numbers_in a ++ numbers_in b) n (pos 0)) at ∙ get_or-append-add (numbers_in a) (numbers_in b) j (pos 0))
      ]

-- ---- a group that is put back

pub put_long : (g n e : ℕ) (now part : List ℤ) → e ≡ 4096 * g + n → e ≤ length now → length part ≡ n → length (put_mid (4096 * g) n now part) ≡ length now
put_long g n e now part ends within size =
    omega (
      arith,
      ends,
      within,
      size,
      length-append (take (4096 * g) now) (part ++ drop n (drop (4096 * g) now)),
      length-append part (drop n (drop (4096 * g) now)),
      length-take-le (4096 * g) now (omega (arith, ends, within)),
      length-drop n (drop (4096 * g) now),
      length-drop (4096 * g) now,
    )

pub drop_then : (g n e : ℕ) (old now : List ℤ) → e ≡ 4096 * g + n → drop (4096 * g) now ≡ drop (4096 * g) old → drop e now ≡ drop e old
drop_then g n e old now ends rest = ap (λ k. drop k now) ends ∙ sym (drop-drop n (4096 * g) now) ∙ ap (drop n) rest ∙ drop-drop n (4096 * g) old ∙
    ap (λ k. drop k old) (sym ends)

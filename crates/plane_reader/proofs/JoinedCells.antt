-- Masks that are turned into numbers.
use Rattle.std.proofs.Common.{rules, ◌≡◌, inl, inr, ℕ, ◌+◌, ◌-◌, ◌*◌, ◌/◌, ◌%◌, ◌<◌, ◌≤◌, min, List, ◌++◌, length, get_or, take, drop, refl, ap, sym, ◌∙◌}
use Rattle.std.proofs.Common.{subst, arith, ℤ, pos}
use borrow.Rule.Slice.PartMut.{put_mid}
use lib.Seq.{take-add}
use Rattle.std.proofs.lemmas.Bool.{cases_eq, cases_lt}
use Rattle.std.proofs.lemmas.Bool.Decides.{nat_tests}
use Rattle.std.proofs.lemmas.List.{take_all, take-append-drop, ext_get_or, length-take-le, length-drop, get_or-take, get_or-drop}
use Rattle.std.proofs.lemmas.Slice.{between_is, between-put_mid, take-put_mid_below, take-put_mid, drop-put_mid, overwrites}
use Rattle.wave_defs.specs.Held.{block_at}
use Rattle.block_masks.specs.Slices.{mask_in, numbers_in}
use Rattle.plane_reader.specs.Joined.{AreBelow}
use Rattle.block_masks.proofs.SliceNumbers.{length-numbers_in, length-block}
use Rattle.plane_reader.proofs.CellGroups.{mask_left, mask_right, numbers_append, put_long, drop_then}

-- ---- block after block

block_between : (cells : List ℤ) (i : ℕ) → block_at cells i ≡ drop (64 * i) (take (64 * i + 64) cells)
block_between cells i =
    let size : 64 ≡ 64 * i + 64 - 64 * i = omega arith in
    ap (λ n. take n (drop (64 * i) cells)) size ∙ between_is cells (64 * i) (64 * i + 64)

pub record FillsTo (r : ℕ) (cells now : List ℤ) : Type 0 where
  pub long : length now ≡ length cells
  pub blocks : (q : ℕ) → q < r → block_at now q ≡ block_at (numbers_in cells) q

module _ (cells : List ℤ) (r n : ℕ) (b : List ℤ) (within : 64 * r + 64 ≤ length cells) (size : n ≡ 64) (whole : length b ≡ 64) where
  block_put : block_at (put_mid (64 * r) n cells b) r ≡ b
  block_put =
      let width : 64 ≡ 64 * r + 64 - 64 * r = omega arith in
      ap (λ k. take k (drop (64 * r) (put_mid (64 * r) n cells b))) width ∙ between-put_mid (64 * r) n cells b (64 * r + 64) (omega arith) (omega arith)

  blocks_stay : (i : ℕ) → (i ≡ r → ⊥) → block_at (put_mid (64 * r) n cells b) i ≡ block_at cells i
  blocks_stay i apart = grind (arith, nat_tests, block_between, take-put_mid_below, drop-put_mid)

  block_long : length (put_mid (64 * r) n cells b) ≡ length cells
  block_long = search (rules, overwrites)

pub fills_more : {r n : ℕ} {cells now block : List ℤ} → 64 * r + 64 ≤ length cells → length cells % 64 ≡ 0 → n ≡ 64 → FillsTo r cells now →
    block ≡ block_at (numbers_in cells) r → FillsTo (r + 1) cells (put_mid (64 * r) n now block)
fills_more {r} {n} {cells} {now} {block} within whole size f is =
    let room : 64 * r + 64 ≤ length now = omega (arith, within, f.long) in
    let long : length block ≡ 64 = ap length is ∙ length-block cells r whole (omega (arith, within)) in
    record {
      long = block_long now r n block room size long ∙ f.long;
      blocks = λ q lt. elim (cases_eq q r) [
        | inl e ↦ subst (λ k. block_at (put_mid (64 * r) n now block) k ≡ block_at (numbers_in cells) k) (sym e) (block_put now r n block room size long ∙ is)
        | inr apart ↦ blocks_stay now r n block room size long q apart ∙ f.blocks q (omega (arith, lt, apart))
      ];
    }

number_there : (blocks : List ℤ) (r p : ℕ) → p < 64 → get_or (block_at blocks r) p (pos 0) ≡ get_or blocks (64 * r + p) (pos 0)
number_there blocks r p lt = get_or-take 64 (drop (64 * r) blocks) p (pos 0) lt ∙ get_or-drop (64 * r) blocks p (pos 0)

pub all_filled : {r : ℕ} {cells now : List ℤ} → length cells ≤ 64 * r → FillsTo r cells now → now ≡ numbers_in cells
all_filled {r} {cells} {now} all f = ext_get_or (pos 0) now (numbers_in cells) (f.long ∙ sym (length-numbers_in cells)) (λ i lt.
    let there : i ≡ 64 * (i / 64) + i % 64 = omega arith in
    ap (λ k. get_or now k (pos 0)) there ∙ sym (number_there now (i / 64) (i % 64) (omega arith)) ∙ ap (λ b. get_or b (i % 64) (pos 0)) (f.blocks (i / 64)
    (omega (arith, lt, all, f.long))) ∙
    number_there (numbers_in cells) (i / 64) (i % 64) (omega arith) ∙ ap (λ k. get_or (numbers_in cells) k (pos 0)) (sym there))

-- ---- group after group

pub record JoinedTo (e : ℕ) (old now : List ℤ) : Type 0 where
  pub long : length now ≡ length old
  pub prefix : take e now ≡ numbers_in (take e old)
  pub rest : drop e now ≡ drop e old

pub joined_more : (g n e : ℕ) {old now part : List ℤ} → e ≡ 4096 * g + n → e ≤ length old → length part ≡ n → JoinedTo (4096 * g) old now →
    part ≡ numbers_in (take n (drop (4096 * g) now)) → JoinedTo e old (put_mid (4096 * g) n now part)
joined_more g n e {old} {now} {part} ends within size s if_known =
    let inside : 4096 * g ≤ length now = omega (arith, ends, within, s.long) in
    let groups : length (take (4096 * g) old) % 4096 ≡ 0 = omega (arith, length-take-le (4096 * g) old (omega (arith, ends, within))) in
    record {
      long = put_long g n e now part ends (omega (arith, within, s.long)) size ∙ s.long;
      prefix = take-put_mid (4096 * g) n now part e (omega (arith, ends, size)) inside ∙ ap (λ l. l ++ part) s.prefix ∙ ap (λ l. numbers_in
          (take (4096 * g) old) ++ l) (if_known ∙ ap (λ l. numbers_in (take n l)) s.rest) ∙
          sym (numbers_append (take (4096 * g) old) (take n (drop (4096 * g) old)) groups) ∙ ap numbers_in (sym (take-add (4096 * g) n old) ∙
          ap (λ k. take k old) (sym ends));
      rest = drop-put_mid (4096 * g) n now part e (omega (arith, ends)) inside size ∙ drop_then g n e old now ends s.rest;
    }

pub joined_none : (cells : List ℤ) (e : ℕ) → e ≡ 0 → JoinedTo e cells cells
unfolding numbers_in
joined_none cells e none = subst (λ k. JoinedTo k cells cells) (sym none) (record { long = refl; prefix = refl; rest = refl })

pub joined_all : {e : ℕ} {old now : List ℤ} → length old ≤ e → JoinedTo e old now → now ≡ numbers_in old
joined_all {e} {old} {now} all s = sym (take_all e now (omega (arith, all, s.long))) ∙ s.prefix ∙ ap numbers_in (take_all e old all)

-- the masks of a group are those of the segment
pub part_below : (planes g n : ℕ) (old now : List ℤ) → 4096 * g + n ≤ length old → n ≡ min 4096 (length old - 4096 * g) →
    drop (4096 * g) now ≡ drop (4096 * g) old → AreBelow planes old → AreBelow planes (take n (drop (4096 * g) now))
part_below planes g n old now within width same below r slot lt le few =
    let d = 4096 * g in
    let rest = drop d old in
    let prefix : length (take d old) ≡ d = length-take-le d old (omega (arith, within)) in
    let groups : length (take d old) % 4096 ≡ 0 = omega (arith, prefix) in
    let size : length (take n rest) ≡ n = length-take-le n rest (omega (arith, within, length-drop d old)) in
    let here : 64 * r < n = subst (λ l. 64 * r < l) (ap (λ l. length (take n l)) same ∙ size) lt in
    let long : length rest ≡ length old - d = length-drop d old in
    let first : mask_in (take n rest) r slot ≡ mask_in rest r slot = part_mask n rest r slot width long here (omega (arith, few)) in
    let second : mask_in rest r slot ≡ mask_in old (length (take d old) / 64 + r) slot = sym (mask_right (take d old) rest groups r slot) ∙ ap (λ l. mask_in
    l (length (take d old) / 64 + r) slot) (take-append-drop d old) in
    ap (λ l. mask_in (take n l) r slot) same ∙ first ∙ second ∙ below (length (take d old) / 64 + r) slot (omega (arith, prefix, here, within)) le few
  where
    part_mask : (n : ℕ) (rest : List ℤ) (r slot : ℕ) → n ≡ min 4096 (length old - 4096 * g) → length rest ≡ length old - 4096 * g → 64 * r < n →
        slot < 32 → mask_in (take n rest) r slot ≡ mask_in rest r slot
    part_mask n rest r slot width long here few = elim (cases_lt n (length rest)) [
      | inl some ↦
          let size : length (take n rest) ≡ n = length-take-le n rest (omega (arith, some)) in
          let whole : length (take n rest) % 4096 ≡ 0 = omega (arith, size, width, long, some) in
          sym (mask_left (take n rest) (drop n rest) whole r slot (omega (arith, size, here)) few) ∙ ap (λ l. mask_in l r slot) (take-append-drop n rest)
      | inr all ↦ ap (λ l. mask_in l r slot) (take_all n rest all)
    ]

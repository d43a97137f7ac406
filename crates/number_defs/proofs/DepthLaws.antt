-- The laws of block depths.
use Rattle.std.proofs.Common.{zero, suc, ◌≡◌, ℕ, ◌+◌, ◌≤◌, ◌<◌, ◌^◌, ◌==◌, nat_lt, true, false, List, [], ◌∷◌, ◌++◌, length, map, refl, subst, sym, ap, ◌∙◌}
use Rattle.std.proofs.Common.{arith, get_or, append_assoc, append-nil, inl, inr, pow_pos}
use Rattle.std.specs.Prelude.{replicate}
use Rattle.std.proofs.lemmas.Bool.{cases_lt}
use Rattle.std.proofs.lemmas.Bool.Decides.{nat_tests}
use Rattle.item_defs.specs.Items.{Item, raw}
use Rattle.number_defs.specs.Gaggles.{is_option, gaggle_count}
use Rattle.number_defs.specs.Depths.{depth_bits, depth_kind, depth_items}
use Rattle.number_defs.proofs.Equations.{depths_none, depths_raw, depths_coded}
use Rattle.number_defs.proofs.DepthBits.{depth_bits_are}
use Rattle.item_defs.specs.Scripts.{Script, done, ask, in_turn, bit_form}
use Rattle.item_defs.specs.Following.{Follows}
use Rattle.item_defs.specs.Completing.{ArePossible, Goes, Ends}
use Rattle.item_defs.proofs.Completing.{goes_weaker, ends_of_goes, ends_both, ends_weaker}
use Rattle.number_defs.specs.NumberScript.{numbers_script}
use Rattle.number_defs.specs.DepthScript.{depths_script, raw_depths_script}
use Rattle.number_defs.specs.ScriptLaws.{AreCounted, DepthLaws}
use Rattle.number_defs.proofs.NumberGoes.{Grew, grew_none, grew_both, few_one}
use Rattle.number_defs.proofs.NumberLaws.{counted, numbers_counted, written_counted, back_counted}
use Rattle.number_defs.proofs.NumberEnds.{numbers_low}

-- ---- the bits of depths

abbrev Ranges : (w depth_ac : ℕ) → Type 0
Ranges w depth_ac = (1 ≤ w) × (w ≤ 5) × (depth_ac < 2 ^ w) × (w ≡ depth_bits depth_ac)

bits_are : (depth_ac : ℕ) → 2 ≤ depth_ac → depth_ac ≤ 27 → (w : ℕ) × Ranges w depth_ac
bits_are depth_ac low high = elim (cases_lt depth_ac 4) [
  | inl a ↦ (
    2,
    (
      omega arith,
      omega arith,
      omega (arith, a),
      depth_bits_are depth_ac 2 (omega (arith, low)) (omega (arith, a)) (omega (arith, low)) (omega arith),
    ),
  )
  | inr b ↦ elim (cases_lt depth_ac 8) [
    | inl a ↦ (
      3,
      (
        omega arith,
        omega arith,
        omega (arith, a),
        depth_bits_are depth_ac 3 (omega (arith, b)) (omega (arith, a)) (omega (arith, b)) (omega arith),
      ),
    )
    | inr c ↦ elim (cases_lt depth_ac 16) [
      | inl a ↦ (
        4,
        (
          omega arith,
          omega arith,
          omega (arith, a),
          depth_bits_are depth_ac 4 (omega (arith, c)) (omega (arith, a)) (omega (arith, c)) (omega arith),
        ),
      )
      | inr d ↦ (
        5,
        (
          omega arith,
          omega arith,
          omega (arith, high),
          depth_bits_are depth_ac 5 (omega (arith, d)) (omega (arith, high)) (omega (arith, d)) (omega arith),
        ),
      )
    ]
  ]
]

one_bit : depth_bits 1 ≡ 1
one_bit = refl

-- ---- raw bits

raw_goes : (count : ℕ) → Goes (raw_depths_script count) (Grew 2 [] count)
raw_goes count = let e : 0 + count ≡ count =
    omega arith in subst (λ m. Goes (raw_depths_script count) (Grew 2 [] m)) e (by 0 count [] (grew_none 2 [] (omega arith)))
  where
    by : (j n : ℕ) (s : List ℕ) → Grew 2 [] j s → Goes (in_turn (λ r depths. ask depths bit_form (λ b. done (depths ++ b ∷ []))) j n s) (Grew 2 [] (j + n))
    by j zero s p = let e : j ≡ j + zero = omega arith in subst (λ m. Grew 2 [] m s) e p
    by j (suc n) s p = (
      tt,
      (0, omega arith, tt),
      λ b said good.
          let e : suc j + n ≡ j + suc n = omega arith in
          let f : j + 1 ≡ suc j = omega arith in
          let one : Grew 2 s 1 (s ++ b ∷ []) = record { new = b ∷ []; is = refl; long = refl; few = few_one 2 b said } in
          subst (λ m. Goes (in_turn (λ r depths. ask depths bit_form (λ b. done (depths ++ b ∷ []))) (suc j) n (s ++ b ∷ [])) (Grew 2 [] m)) e
          (by (suc j) n (s ++ b ∷ []) (subst (λ m. Grew 2 [] m (s ++ b ∷ [])) f (grew_both 2 j 1 [] s (s ++ b ∷ []) p one))),
    )

raw_written : (j : ℕ) (s xs : List ℕ) →
    Follows (in_turn (λ r depths. ask depths bit_form (λ b. done (depths ++ b ∷ []))) j (length xs) s) (map raw xs) (s ++ xs)
raw_written j s [] = sym (append-nil s)
raw_written j s (x ∷ xs) = (
  refl,
  subst (Follows (in_turn (λ r depths. ask depths bit_form (λ b. done (depths ++ b ∷ []))) (suc j) (length xs) (s ++ x ∷ [])) (map raw xs))
      (append_assoc s (x ∷ []) xs) (raw_written (suc j) (s ++ x ∷ []) xs),
)

raw_back : (j n : ℕ) (s now : List ℕ) (items : List Item) → Follows (in_turn (λ r depths. ask depths bit_form (λ b. done (depths ++ b ∷ []))) j n s) items now →
    (xs : List ℕ) × (now ≡ s ++ xs) × (items ≡ map raw xs)
raw_back j zero s now [] f = ([], sym f ∙ sym (append-nil s), refl)
raw_back j zero s now (i ∷ is) f = absurd f
raw_back j (suc n) s now [] f = absurd f
raw_back j (suc n) s now (i ∷ is) f =
    let w = raw_back (suc j) n (s ++ i.said ∷ []) now is f.1 in
    (i.said ∷ w.0, w.1 ∙ append_assoc s (i.said ∷ []) w.0, λ t. record { form = sym f.0 t; said = i.said } ∷ w.2 t)

-- ---- all three cases

module _ (depth_ac count : ℕ) where
  none : depth_ac ≡ 0 → depths_script depth_ac count ≡ done (replicate count 0)
  none e = ap (λ d. depths_script d count) e

  one : depth_ac ≡ 1 → depths_script depth_ac count ≡ raw_depths_script count
  one e = ap (λ d. depths_script d count) e

  more : 2 ≤ depth_ac → depths_script depth_ac count ≡ numbers_script (depth_kind depth_ac) count
  more low =
      let z : (depth_ac == 0) ≡ false = grind (arith, nat_tests) in
      let o : (depth_ac == 1) ≡ false = grind (arith, nat_tests) in
      rw (z, o) refl

  -- what holds of each case holds of the script
  by_case : (P : Script (List ℕ) (List ℕ) → Type 0) → (depth_ac ≡ 0 → P (done (replicate count 0))) → (depth_ac ≡ 1 → P (raw_depths_script count)) →
      (2 ≤ depth_ac → P (numbers_script (depth_kind depth_ac) count)) → P (depths_script depth_ac count)
  by_case P a b c = elim (cases_lt depth_ac 1) [
    | inl lt ↦ let e : depth_ac ≡ 0 = omega (arith, lt) in subst P (sym (none e)) (a e)
    | inr ge ↦ elim (cases_lt depth_ac 2) [
      | inl lt ↦ let e : depth_ac ≡ 1 = omega (arith, lt, ge) in subst P (sym (one e)) (b e)
      | inr low ↦ subst P (sym (more low)) (c low)
    ]
  ]

zeros_are : (n i : ℕ) → get_or {A = ℕ} (replicate n 0) i 0 ≡ 0
zeros_are zero i = refl
zeros_are (suc n) zero = refl
zeros_are (suc n) (suc i) = zeros_are n i

zeros_long : (n : ℕ) → length {A = ℕ} (replicate n 0) ≡ n
zeros_long zero = refl
zeros_long (suc n) = ap suc (zeros_long n)

all_zeros : (xs : List ℕ) → ((i : ℕ) → get_or xs i 0 < 1) → xs ≡ replicate (length xs) 0
all_zeros [] few = refl
all_zeros (x ∷ xs) few = let e : x ≡ 0 = (let z = few 0 in omega (arith, z)) in λ t. e t ∷ all_zeros xs (λ i. few (suc i)) t

no_bits : depth_bits 0 ≡ 0
no_bits = refl

goes : (depth_ac count : ℕ) → Goes (depths_script depth_ac count) (AreCounted (2 ^ depth_bits depth_ac) count)
goes depth_ac count =
    by_case depth_ac count (λ s. Goes s (AreCounted (2 ^ depth_bits depth_ac) count))
    (λ e. record { long = zeros_long count; few = λ i. subst (λ z. z < 2 ^ depth_bits depth_ac) (sym (zeros_are count i)) (pow_pos (depth_bits depth_ac)) })
    (λ e. (let w : 2 ≡ 2 ^ depth_bits depth_ac =
    ap (λ d. 2 ^ depth_bits d) (sym e) in
    subst (λ b. Goes (raw_depths_script count) (AreCounted b count)) w
    (goes_weaker (Grew 2 [] count) (AreCounted 2 count) (counted 2 count) (raw_depths_script count) (raw_goes count))))
    (λ low. numbers_counted (depth_kind depth_ac) count)

written : (depth_ac count : ℕ) (depths : List ℕ) (o : ℕ → ℕ) → AreCounted (2 ^ depth_bits depth_ac) count depths →
    Follows (depths_script depth_ac count) (depth_items depth_ac depths o) depths
written depth_ac count depths o are =
    by_case depth_ac count (λ s. Follows s (depth_items depth_ac depths o) depths)
    (λ e.
    let few : (i : ℕ) → get_or depths i 0 < 1 = λ i. subst (λ b. get_or depths i 0 < b) (ap (λ d. 2 ^ depth_bits d) e) (are.few i) in
    subst (λ l. Follows {G = List ℕ} (done (replicate count 0)) l depths) (sym (depths_none depth_ac depths o e)) (ap (λ n. replicate n 0) (sym are.long) ∙
    sym (all_zeros depths few)))
    (λ e. subst (λ l. Follows (raw_depths_script count) l depths) (sym (depths_raw depth_ac depths o e))
    (subst (λ n. Follows (raw_depths_script n) (map raw depths) depths) are.long (raw_written 0 [] depths)))
    (λ low. subst (λ l. Follows (numbers_script (depth_kind depth_ac) count) l depths) (sym (depths_coded depth_ac depths o low))
    (written_counted (depth_kind depth_ac) count depths o are))

back : (depth_ac count : ℕ) (items : List Item) (depths : List ℕ) → depth_ac ≤ 27 → ArePossible items → Follows (depths_script depth_ac count) items depths →
    (o : ℕ → ℕ) × (2 ≤ depth_ac → (g : ℕ) → g < gaggle_count count → is_option (depth_bits depth_ac) (o g) ≡ true) × (items ≡ depth_items depth_ac depths o)
back depth_ac count items depths high are =
    by_case depth_ac count (λ s. Follows s items depths →
    (o : ℕ → ℕ) × (2 ≤ depth_ac → (g : ℕ) → g < gaggle_count count → is_option (depth_bits depth_ac) (o g) ≡ true) ×
    (items ≡ depth_items depth_ac depths o))
    (λ e f. (λ g. 0, λ low. absurd (omega (arith, low, e)), nothing items f ∙ sym (depths_none depth_ac depths (λ g. 0) e)))
    (λ e f. (let w = raw_back 0 count [] depths items f in (
      λ g. 0,
      λ low. absurd (omega (arith, low, e)),
      w.2 ∙ ap (map raw) (sym w.1) ∙
          sym (depths_raw depth_ac depths (λ g. 0) e),
    )))
    (λ low f.
    let b = bits_are depth_ac low high in
    let r : (1 ≤ depth_bits depth_ac) × (depth_bits depth_ac ≤ 10) = few_bits b.0 depth_ac b.1 in
    let w = back_counted (depth_kind depth_ac) count items depths r.0 r.1 are f in
    (w.0, λ q. w.1, w.2 ∙ sym (depths_coded depth_ac depths w.0 low)))
  where
    nothing : (l : List Item) → Follows {G = List ℕ} (done (replicate count 0)) l depths → l ≡ []
    nothing [] f = refl
    nothing (i ∷ is) f = absurd f

    few_bits : (w d : ℕ) → Ranges w d → (1 ≤ depth_bits d) × (depth_bits d ≤ 10)
    few_bits w d r = (omega (arith, r.0, r.3), omega (arith, r.1, r.3))

ends : (depth_ac count : ℕ) → Ends (depths_script depth_ac count) (λ depths. (length depths ≡ count) × ((i : ℕ) → i < count → get_or depths i 0 ≤ depth_ac))
ends depth_ac count =
    by_case depth_ac count (λ s. Ends s (λ depths. (length depths ≡ count) × ((i : ℕ) → i < count → get_or depths i 0 ≤ depth_ac)))
    (λ e. (zeros_long count, λ i lt. (let z = zeros_are count i in omega (arith, z))))
    (λ e. ends_weaker (AreCounted 2 count) (λ depths. (length depths ≡ count) ×
    ((i : ℕ) → i < count → get_or depths i 0 ≤ depth_ac)) (λ a p. (p.long, λ i lt. (let f = p.few i in omega (arith, f, e))))
    (raw_depths_script count)
    (ends_of_goes (AreCounted 2 count) (raw_depths_script count)
    (goes_weaker (Grew 2 [] count) (AreCounted 2 count) (counted 2 count) (raw_depths_script count) (raw_goes count))))
    (λ low.
    let kind = depth_kind depth_ac in
    ends_weaker (λ hs. AreCounted (2 ^ kind.bits) count hs ×
    ((i : ℕ) → i < length hs → kind.too_great (get_or hs i 0) ≡ false)) (λ depths. (length depths ≡ count) ×
    ((i : ℕ) → i < count → get_or depths i 0 ≤ depth_ac))
    (λ a p. (p.0.long, λ i lt. not_above depth_ac (get_or a i 0) (p.1 i (omega (arith, lt, p.0.long)))))
    (numbers_script kind count)
    (ends_both (AreCounted (2 ^ kind.bits) count) _ (numbers_script kind count)
    (ends_of_goes (AreCounted (2 ^ kind.bits) count) (numbers_script kind count) (numbers_counted kind count)) (numbers_low kind count)))
  where
    not_above : (a b : ℕ) → nat_lt a b ≡ false → b ≤ a
    not_above a b e = grind (arith, nat_tests)

pub depth_laws : DepthLaws
depth_laws = record { goes = goes; written = written; back = back; ends = ends }

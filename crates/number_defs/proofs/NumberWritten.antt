-- What is written of numbers by differences follows their script.
use Rattle.std.proofs.Common.{zero, ℤ, mod-lt, ◌≡◌, ℕ, suc, ◌+◌, ◌-◌, ◌*◌, ◌/◌, ◌%◌, ◌<◌, ◌≤◌, ◌^◌, ◌==◌, ◌||◌, min, Bool, true, false, if◌then◌else◌, List}
use Rattle.std.proofs.Common.{[], ◌∷◌, ◌++◌, length, take, get_or, map, refl, ap, sym, ◌∙◌, subst, arith, append-nil, append_assoc, pow_pos, Some, None}
use Rattle.std.specs.List.{range_with_len}
use Rattle.std.proofs.Math.Seq.{take-suc}
use Rattle.std.proofs.lemmas.Bool.Decides.{nat_tests}
use Rattle.std.proofs.lemmas.Nat.{div-add-mod'}
use Rattle.std.proofs.lemmas.List.{get_or-take, length-take-le, take_more}
use Rattle.std.proofs.lemmas.List.FromFn.{get_or-map-range_with_len}
use Rattle.item_defs.specs.Items.{Item, bad_delta, bad_depth, zeros_to}
use Rattle.number_defs.specs.Ranges.{number_at}
use Rattle.item_defs.specs.TwosComplement.{complement}
use Rattle.number_defs.specs.Mapping.{unmapped}
use Rattle.number_defs.specs.Gaggles.{Kind, identifier_bits, uncoded, is_option, first_place, places, gaggle_count, number_before, value_at, unary_form}
use Rattle.number_defs.specs.Gaggles.{uncoded_form, rest_form, depth_refusal, uncoded_value, unary_part, rest_part, value_items, lead_items, gaggle_items}
use Rattle.number_defs.specs.Gaggles.{items_before, number_items}
use Rattle.number_defs.proofs.CodedBits.{high_small}
use Rattle.number_defs.proofs.Equations.{value_items-is, gaggle_items-is, items_before-none, items_before-more}
use Rattle.number_defs.proofs.MappingLaws.{mapped_below, mapped_back}
use Rattle.number_defs.proofs.Heights.{complement_back}
use Rattle.item_defs.specs.Scripts.{then_ask, in_turn}
use Rattle.item_defs.specs.Following.{Follows}
use Rattle.item_defs.specs.Completing.{IsPossible, IsPossibleItem, ArePossible}
use Rattle.item_defs.proofs.Completing.{both_possible}
use Rattle.item_defs.proofs.ScriptLaws.{turns_split}
use Rattle.item_defs.proofs.FollowLaws.{follows_then}
use Rattle.number_defs.specs.NumberScript.{zeros_form, zeros_script, value_form, last_of, number_script, differences_script, lead_script, gaggle_script}
use Rattle.number_defs.specs.NumberScript.{numbers_script}
use Rattle.number_defs.proofs.NumberGoes.{Few, depth_possible, below_limit, none_option, k_below}

-- with a rest, the number before does not matter to the form of a unary part
unary_is : (kind : Kind) (k before : ℕ) → (k == 0) ≡ false → zeros_form kind.bits k ≡ unary_form kind k before
unary_is kind k before e = λ i. record {
  shape = zeros_to (2 ^ (kind.bits - k));
  refusal = λ zeros. if zeros == 2 ^ (kind.bits - k) then Some bad_delta else (if sym e i then depth_refusal kind before zeros else None);
}

complement_small : (w : ℕ) (z : ℤ) → complement w z < 2 ^ w
complement_small w z = grind (arith, nat_tests, mod-lt, pow_pos)

identifier_small : (N option : ℕ) → N ≤ 10 → is_option N option ≡ true → option < 2 ^ identifier_bits N
identifier_small N option few e = grind (arith, nat_tests)

module _ (kind : Kind) (xs : List ℕ) (few : Few (2 ^ kind.bits) xs) where
  abbrev N : ℕ
  N = kind.bits

  long_take : (m : ℕ) → m ≤ length xs → length (take m xs) ≡ m
  long_take m le = length-take-le m xs le

  last_take : (m : ℕ) → 1 ≤ m → m ≤ length xs → last_of (take m xs) ≡ number_before xs m
  last_take m some le = ap (λ n. get_or (take m xs) (n - 1) 0) (long_take m le) ∙ get_or-take m xs (m - 1) 0 (omega (arith, some))

  value_back : (m : ℕ) → unmapped N (number_before xs m) (value_at N xs m) ≡ get_or xs m 0
  value_back m = mapped_back N (get_or xs (m - 1) 0) (get_or xs m 0) (few (m - 1)) (few m)

  -- the item of the number at a place
  number_written : (option z m : ℕ) (item : Item) → 1 ≤ m → m < length xs → value_form kind option (number_before xs m) z ≡ item.form →
      z * 2 ^ option + item.said ≡ value_at N xs m →
      Follows (number_script kind option z (take m xs)) (item ∷ []) (take (m + 1) xs)
  number_written option z m item some lt form said =
      let before = last_take m some (omega (arith, lt)) in (
        ap (λ p. value_form kind option p z) before ∙ form,
        ap (λ h. take m xs ++ h ∷ []) (ap (λ p. unmapped N p (z * 2 ^ option + item.said)) before ∙ ap (unmapped N (number_before xs m)) said ∙ value_back m) ∙
            sym (take_more xs m 0 lt),
      )

  turns_written : (option : ℕ) (zs : ℕ → ℕ) (item : ℕ → Item) (n j m : ℕ) → 1 ≤ m → m + n ≤ length xs →
      ((i : ℕ) → i < n → (value_form kind option (number_before xs (m + i)) (zs (j + i)) ≡ (item (m + i)).form) ×
      (zs (j + i) * 2 ^ option + (item (m + i)).said ≡ value_at N xs (m + i))) →
      Follows (in_turn (λ i. number_script kind option (zs i)) j n (take m xs)) (map item (range_with_len m n)) (take (m + n) xs)
  turns_written option zs item zero j m some le each = let e : m ≡ m + zero = omega arith in ap (λ n. take n xs) e
  turns_written option zs item (suc n) j m some le each =
      let e : (m + 1) + n ≡ m + suc n = omega arith in
      let z : j + 0 ≡ j = omega arith in
      let y : m + 0 ≡ m = omega arith in
      let first = each 0 (omega arith) in
      subst (λ k. Follows (then_ask (number_script kind option (zs j) (take m xs)) (in_turn (λ i. number_script kind option (zs i)) (suc j) n))
      (item m ∷ map item (range_with_len (m + 1) n)) (take k xs)) e
      (follows_then (in_turn (λ i. number_script kind option (zs i)) (suc j) n) (number_script kind option (zs j) (take m xs)) (item m ∷ [])
      (map item (range_with_len (m + 1) n)) (take (m + 1) xs) (take ((m + 1) + n) xs)
      (number_written option (zs j) m (item m) some (omega (arith, le)) (rw (z, y) at first.0) (rw (z, y) at first.1))
      (turns_written option zs item n (suc j) (m + 1) (omega arith) (omega (arith, le))
      (λ i lt. (let a : suc j + i ≡ j + suc i = omega arith in let b : (m + 1) + i ≡ m + suc i = omega arith in rw (a, b) (each (suc i) (omega (arith, lt)))))))

  zeros_written : {G : Type 0} (given : G) (k n m : ℕ) (zs : List ℕ) → (k == 0) ≡ false →
      Follows (zeros_script given N k n zs) (map (unary_part kind xs k) (range_with_len m n)) (zs ++ map (λ i. value_at N xs i / 2 ^ k) (range_with_len m n))
  zeros_written given k zero m zs some = sym (append-nil zs)
  zeros_written given k (suc n) m zs some = (
    unary_is kind k (number_before xs m) some,
    subst (Follows (zeros_script given N k n (zs ++ value_at N xs m / 2 ^ k ∷ [])) (map (unary_part kind xs k) (range_with_len (m + 1) n)))
        (append_assoc zs (value_at N xs m / 2 ^ k ∷ []) (map (λ i. value_at N xs i / 2 ^ k) (range_with_len (m + 1) n)))
        (zeros_written given k n (m + 1) (zs ++ value_at N xs m / 2 ^ k ∷ []) some),
  )

  pub differences_written : (option n m : ℕ) → 1 ≤ m → m + n ≤ length xs →
      Follows (differences_script kind option n (take m xs)) (value_items kind xs option (range_with_len m n)) (take (m + n) xs)
  differences_written option n m some le = rw value_items-is (by (option == uncoded N) refl (option == 0) refl)
    where
      at : List ℕ
      at = range_with_len m n

      zs : List ℕ
      zs = map (λ i. value_at N xs i / 2 ^ option) (range_with_len m n)

      form_at : (t u : Bool) → (option == uncoded N) ≡ t → (option == 0) ≡ u → (before z : ℕ) →
          (if t then uncoded_form kind before else if u then unary_form kind 0 before else rest_form kind option before z) ≡ value_form kind option before z
      form_at t u e f before z =
          ap (λ (x : Bool). if x then uncoded_form kind before else if u then unary_form kind 0 before else rest_form kind option before z) (sym e) ∙
          ap (λ (x : Bool). if option == uncoded N then uncoded_form kind before else if x then unary_form kind 0 before else rest_form kind option before z)
          (sym f)

      by : (t : Bool) → (option == uncoded N) ≡ t → (u : Bool) → (option == 0) ≡ u →
          Follows (if u || t then in_turn (λ i. number_script kind option 0) 0 n (take m xs) else
          then_ask (zeros_script (take m xs) N option n []) (λ zeros. in_turn (λ i. number_script kind option (get_or zeros i 0)) 0 n (take m xs)))
          (if t then map (uncoded_value kind xs) (range_with_len m n) else
          map (unary_part kind xs option) (range_with_len m n) ++ (if u then [] else map (rest_part kind xs option) (range_with_len m n))) (take (m + n) xs)
      by true e true f = turns_written option (λ i. 0) (uncoded_value kind xs) n 0 m some le
          (λ i lt. (sym (form_at true true e f (number_before xs (m + i)) 0), omega arith))
      by true e false f = turns_written option (λ i. 0) (uncoded_value kind xs) n 0 m some le
          (λ i lt. (sym (form_at true false e f (number_before xs (m + i)) 0), omega arith))
      by false e true f =
          let none : option ≡ 0 = grind (arith, nat_tests) in
          rw (append-nil (map (unary_part kind xs option) (range_with_len m n)))
          (turns_written option (λ i. 0) (unary_part kind xs option) n 0 m some le
          (λ i lt. (
            sym (form_at false true e f (number_before xs (m + i)) 0) ∙ ap (λ k. unary_form kind k (number_before xs (m + i))) (sym none),
            whole none (value_at N xs (m + i)),
          )))
        where
          whole : option ≡ 0 → (v : ℕ) → 0 * 2 ^ option + v / 2 ^ option ≡ v
          whole z v = rw z (grind arith)
      by false e false f =
          follows_then (λ zeros. in_turn (λ i. number_script kind option (get_or zeros i 0)) 0 n (take m xs)) (zeros_script (take m xs) N option n [])
          (map (unary_part kind xs option) (range_with_len m n)) (map (rest_part kind xs option) (range_with_len m n))
          (map (λ i. value_at N xs i / 2 ^ option) (range_with_len m n)) (take (m + n) xs)
          (zeros_written (take m xs) option n m [] f)
          (turns_written option (λ i. get_or (map (λ i. value_at N xs i / 2 ^ option) (range_with_len m n)) i 0) (rest_part kind xs option) n 0 m some le
          (λ i lt.
          let at : get_or (map (λ i. value_at N xs i / 2 ^ option) (range_with_len m n)) (0 + i) 0 ≡ value_at N xs (m + i) / 2 ^ option =
          get_or-map-range_with_len (λ i. value_at N xs i / 2 ^ option) m n (0 + i) (m + i) 0 (omega (arith, lt)) (omega arith) in (
            sym (form_at false false e f (number_before xs (m + i)) _) ∙ ap (rest_form kind option (number_before xs (m + i))) at,
            ap (λ z. z * 2 ^ option + value_at N xs (m + i) % 2 ^ option) at ∙ div-add-mod' (value_at N xs (m + i)) (2 ^ option),
          )))

  lead_written : (g : ℕ) → 0 < length xs →
      Follows (lead_script kind g (take (min (length xs) (16 * g)) xs)) (lead_items kind xs g) (take (min (length xs) (first_place g)) xs)
  lead_written zero some = (
    refl,
    ap (λ h. h ∷ []) (complement_back kind.signed N (get_or xs 0 0) (few 0)) ∙ sym (take-suc xs 0 0 some) ∙ ap (λ n. take n xs) one,
  )
    where
      one : 1 ≡ min (length xs) (first_place 0)
      one = omega (arith, some)
  lead_written (suc g) some = let e : min (length xs) (16 * suc g) ≡ min (length xs) (first_place (suc g)) = omega arith in ap (λ n. take n xs) e

  pub gaggle_written : (option g : ℕ) → g < gaggle_count (length xs) →
      Follows (gaggle_script kind (length xs) g (take (min (length xs) (16 * g)) xs)) (gaggle_items kind xs option g) (take (min (length xs) (16 * suc g)) xs)
  gaggle_written option g lt =
      let some : 0 < length xs = omega (arith, lt) in
      let start : min (length xs) (first_place g) ≡ first_place g = omega (arith, lt) in
      let n = min (length xs) (16 * g + 16) - first_place g in
      let end : first_place g + n ≡ min (length xs) (16 * suc g) = omega (arith, lt) in
      rw gaggle_items-is (
        refl,
        follows_then (differences_script kind option n) (lead_script kind g (take (min (length xs) (16 * g)) xs)) (lead_items kind xs g)
            (value_items kind xs option (places (length xs) g)) (take (first_place g) xs) (take (min (length xs) (16 * suc g)) xs)
            (subst (λ m. Follows (lead_script kind g (take (min (length xs) (16 * g)) xs)) (lead_items kind xs g) (take m xs)) start (lead_written g some))
            (subst (λ m. Follows (differences_script kind option n (take (first_place g) xs)) (value_items kind xs option (places (length xs) g))
            (take m xs)) end (differences_written option n (first_place g) (omega arith) (omega (arith, lt)))),
      )

  -- ---- these items are possible

  range_possible : (item : ℕ → Item) (a n : ℕ) → ((i : ℕ) → IsPossibleItem (item i)) → ArePossible (map item (range_with_len a n))
  range_possible item a zero each = tt
  range_possible item a (suc n) each = (each a, range_possible item (a + 1) n each)

  value_small : (i : ℕ) → value_at N xs i < 2 ^ N
  value_small i = mapped_below N (get_or xs (i - 1) 0) (get_or xs i 0) (few (i - 1)) (few i)

  unary_possible : (k : ℕ) → k ≤ N → (i : ℕ) → IsPossibleItem (unary_part kind xs k i)
  unary_possible k le i =
      let v = value_at N xs i in
      let small : v / 2 ^ k < 2 ^ (N - k) = high_small N k v le (value_small i) in
      let differs : (v / 2 ^ k == 2 ^ (N - k)) ≡ false = grind (arith, nat_tests) in
      (omega (arith, small), below_limit (v / 2 ^ k == 2 ^ (N - k)) _ differs (whole (k == 0) (kind.too_great (unmapped N (number_before xs i) (v / 2 ^ k)))))
    where
      whole : (t u : Bool) → IsPossible (if t then (if u then Some bad_depth else None) else None)
      whole true u = depth_possible u
      whole false u = tt

  values_possible : (option a n : ℕ) → is_option N option ≡ true → ArePossible (value_items kind xs option (range_with_len a n))
  values_possible option a n known = rw value_items-is (by (option == uncoded N) refl (option == 0))
    where
      by : (t : Bool) → (option == uncoded N) ≡ t → (u : Bool) →
          ArePossible (if t then map (uncoded_value kind xs) (range_with_len a n) else
          map (unary_part kind xs option) (range_with_len a n) ++ (if u then [] else map (rest_part kind xs option) (range_with_len a n)))
      by true e u = range_possible (uncoded_value kind xs) a n
          (λ i. (value_small i, depth_possible (kind.too_great (unmapped N (number_before xs i) (value_at N xs i)))))
      by false e u = both_possible (map (unary_part kind xs option) (range_with_len a n)) _
          (range_possible (unary_part kind xs option) a n (unary_possible option (k_below N option known e))) (rests u)
        where
          rests : (u : Bool) → ArePossible (if u then [] else map (rest_part kind xs option) (range_with_len a n))
          rests true = tt
          rests false = range_possible (rest_part kind xs option) a n
              (λ i. (
                mod-lt (value_at N xs i) (pow_pos option),
                depth_possible (kind.too_great (unmapped N (number_before xs i) (value_at N xs i / 2 ^ option * 2 ^ option + value_at N xs i % 2 ^ option))),
              ))

  lead_possible : (g : ℕ) → ArePossible (lead_items kind xs g)
  lead_possible zero = ((complement_small N (number_at kind.signed N (get_or xs 0 0)), depth_possible _), tt)
  lead_possible (suc g) = tt

  pub gaggle_possible : (option g : ℕ) → N ≤ 10 → is_option N option ≡ true → ArePossible (gaggle_items kind xs option g)
  gaggle_possible option g high known = rw gaggle_items-is (
    (identifier_small N option high known, none_option (is_option N option) known),
    both_possible (lead_items kind xs g) (value_items kind xs option (places (length xs) g)) (lead_possible g)
        (values_possible option (first_place g) (min (length xs) (16 * g + 16) - first_place g) known),
  )

  -- all items of the first gaggles
  before_written : (o : ℕ → ℕ) (g : ℕ) → g ≤ gaggle_count (length xs) →
      Follows (in_turn (gaggle_script kind (length xs)) 0 g []) (items_before kind xs o g) (take (min (length xs) (16 * g)) xs)
  before_written o zero le = let e : 0 ≡ min (length xs) (16 * 0) = omega arith in rw items_before-none (ap (λ n. take n xs) e)
  before_written o (suc g) le =
      let e : suc g ≡ g + 1 = omega arith in
      let z : 0 + g ≡ g = omega arith in
      rw items_before-more
      (subst (λ s. Follows s (items_before kind xs o g ++ gaggle_items kind xs (o g) g) (take (min (length xs) (16 * suc g)) xs))
      (sym (ap (λ n. in_turn (gaggle_script kind (length xs)) 0 n []) e ∙ turns_split (List ℕ) (gaggle_script kind (length xs)) 0 g 1 []))
      (follows_then (in_turn (gaggle_script kind (length xs)) (0 + g) 1) (in_turn (gaggle_script kind (length xs)) 0 g []) (items_before kind xs o g)
      (gaggle_items kind xs (o g) g) (take (min (length xs) (16 * g)) xs) (take (min (length xs) (16 * suc g)) xs)
      (before_written o g (omega (arith, le)))
      (rw (z, ← append-nil (gaggle_items kind xs (o g) g))
      (follows_then (in_turn (gaggle_script kind (length xs)) (suc g) 0) (gaggle_script kind (length xs) g (take (min (length xs) (16 * g)) xs))
      (gaggle_items kind xs (o g) g) [] (take (min (length xs) (16 * suc g)) xs) (take (min (length xs) (16 * suc g)) xs)
      (gaggle_written (o g) g (omega (arith, le))) refl))))

  pub numbers_written : (o : ℕ → ℕ) → Follows (numbers_script kind (length xs)) (number_items kind xs o) xs
  numbers_written o =
      let e : min (length xs) (16 * gaggle_count (length xs)) ≡ length xs = omega arith in
      subst (Follows (numbers_script kind (length xs)) (number_items kind xs o)) (ap (λ n. take n xs) e ∙
      take_all xs) (before_written o (gaggle_count (length xs)) (omega arith))
    where
      take_all : (l : List ℕ) → take (length l) l ≡ l
      take_all [] = refl
      take_all (x ∷ l) = ap (λ r. x ∷ r) (take_all l)

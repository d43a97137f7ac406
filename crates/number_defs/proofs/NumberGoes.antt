-- Each question of numbers by differences has a possible answer, and what possible answers give.
use Rattle.std.proofs.Common.{zero, ◌≡◌, ℕ, suc, ◌+◌, ◌-◌, ◌*◌, ◌%◌, ◌<◌, ◌≤◌, ◌^◌, ◌==◌, ◌||◌, not, min, Bool, true, false, if◌then◌else◌, List, [], ◌∷◌}
use Rattle.std.proofs.Common.{◌++◌, length, get_or, refl, ap, sym, ◌∙◌, subst, arith, append_assoc, append-nil, length-append, pow_pos, mod-lt, Option}
use Rattle.std.proofs.Common.{Some, None}
use Rattle.std.proofs.lemmas.Bool.Decides.{nat_tests}
use Rattle.std.proofs.lemmas.Nat.{pow-add, mul-add-lt}
use Rattle.item_defs.specs.Items.{Form, Refusal, bad_option, bad_delta, bad_depth, IsSaid}
use Rattle.item_defs.specs.Readings.{IsSound}
use Rattle.number_defs.specs.Ranges.{negatives}
use Rattle.number_defs.specs.Mapping.{unmapped}
use Rattle.number_defs.specs.Gaggles.{Kind, identifier_bits, uncoded, is_option, first_place, gaggle_count, uncoded_form, unary_form, rest_form}
use Rattle.number_defs.proofs.MappingLaws.{unmapped_below}
use Rattle.item_defs.specs.Scripts.{then_ask, in_turn}
use Rattle.item_defs.specs.Completing.{IsPossible, Goes}
use Rattle.item_defs.proofs.Completing.{goes_then, goes_in_turn, goes_weaker}
use Rattle.number_defs.specs.NumberScript.{zeros_script, value_form, last_of, number_script, differences_script, lead_script, gaggle_script, numbers_script}

-- ---- lists of numbers of N bits

abbrev pub Few : ℕ → List ℕ → Type 0
Few bound xs = (i : ℕ) → get_or xs i 0 < bound

pub few_none : (bound : ℕ) → 0 < bound → Few bound []
few_none bound lt i = lt

pub few_one : (bound h : ℕ) → h < bound → Few bound (h ∷ [])
few_one bound h lt zero = lt
few_one bound h lt (suc i) = omega (arith, lt)

pub few_both : (bound : ℕ) (xs ys : List ℕ) → Few bound xs → Few bound ys → Few bound (xs ++ ys)
few_both bound [] ys p q i = q i
few_both bound (x ∷ xs) ys p q zero = p 0
few_both bound (x ∷ xs) ys p q (suc i) = few_both bound xs ys (λ j. p (suc j)) q i

-- n numbers below a bound follow
pub record Grew (bound : ℕ) (heights : List ℕ) (n : ℕ) (now : List ℕ) : Type 0 where
  pub new : List ℕ
  pub is : now ≡ heights ++ new
  pub long : length new ≡ n
  pub few : Few bound new

pub grew_none : (bound : ℕ) (heights : List ℕ) → 0 < bound → Grew bound heights 0 heights
grew_none bound heights lt = record { new = []; is = sym (append-nil heights); long = refl; few = few_none bound lt }

pub grew_both : (bound m n : ℕ) (a b c : List ℕ) → Grew bound a m b → Grew bound b n c → Grew bound a (m + n) c
grew_both bound m n a b c p q = record {
  new = p.new ++ q.new;
  is = q.is ∙ ap (λ l. l ++ q.new) p.is ∙ append_assoc a p.new q.new;
  long = omega (arith, length-append p.new q.new, p.long, q.long);
  few = few_both bound p.new q.new p.few q.few;
}

pub few_grew : (bound n : ℕ) (a b : List ℕ) → Few bound a → Grew bound a n b → Few bound b
few_grew bound n a b few p = subst (Few bound) (sym p.is) (few_both bound a p.new few p.few)

pub long_grew : (bound n : ℕ) (a b : List ℕ) → Grew bound a n b → length b ≡ length a + n
long_grew bound n a b p = omega (arith, ap length p.is, length-append a p.new, p.long)

-- ---- answers

abbrev Answer : Form → Type 0
Answer form = (n : ℕ) × IsSaid form.shape n × IsPossible (form.refusal n)

pub depth_possible : (t : Bool) → IsPossible (if t then Some bad_depth else None)
depth_possible true = tt
depth_possible false = tt

pub not_delta : (t : Bool) (r : Option Refusal) → IsPossible (if t then Some bad_delta else r) → t ≡ false
not_delta true r p = absurd p
not_delta false r p = refl

pub not_option : (t : Bool) → IsPossible (if not t then Some bad_option else None) → t ≡ true
not_option true p = refl
not_option false p = absurd p

pub none_option : (t : Bool) → t ≡ true → IsPossible (if not t then Some bad_option else None)
none_option true e = tt
none_option false e = absurd cc

pub below_limit : (t : Bool) (r : Option Refusal) → t ≡ false → IsPossible r → IsPossible (if t then Some bad_delta else r)
below_limit true r e p = absurd cc
below_limit false r e p = p

-- zeros and a rest make a value of N bits
pub parts_below : (N k z rest : ℕ) → k ≤ N → z < 2 ^ (N - k) → rest < 2 ^ k → z * 2 ^ k + rest < 2 ^ N
parts_below N k z rest le p q = grind (arith, nat_tests, pow-add, mul-add-lt)

pub k_below : (N option : ℕ) → is_option N option ≡ true → (option == uncoded N) ≡ false → option ≤ N
k_below N option known e = grind (arith, nat_tests)

-- the zeros that a value has beside the item that makes it whole
abbrev pub ZerosIf : Bool → (limit zeros : ℕ) → Type 0
ZerosIf true limit zeros = zeros ≡ 0
ZerosIf false limit zeros = zeros < limit

abbrev pub AreZeros : (N option zeros : ℕ) → Type 0
AreZeros N option zeros = ZerosIf ((option == 0) || (option == uncoded N)) (2 ^ (N - option)) zeros

module _ (kind : Kind) (option : ℕ) (known : is_option kind.bits option ≡ true) where
  abbrev N : ℕ
  N = kind.bits

  -- a value of N bits, and what a possible answer makes of it
  pub value_said : (before zeros n : ℕ) → AreZeros N option zeros → IsSaid (value_form kind option before zeros).shape n →
      IsPossible ((value_form kind option before zeros).refusal n) → zeros * 2 ^ option + n < 2 ^ N
  value_said before zeros n = by (option == uncoded N) refl (option == 0) refl
    where
      by : (t : Bool) → (option == uncoded N) ≡ t → (u : Bool) → (option == 0) ≡ u → ZerosIf (u || t) (2 ^ (N - option)) zeros →
          IsSaid (if t then uncoded_form kind before else if u then unary_form kind 0 before else rest_form kind option before zeros).shape n →
          IsPossible ((if t then uncoded_form kind before else if u then unary_form kind 0 before else rest_form kind option before zeros).refusal n) →
          zeros * 2 ^ option + n < 2 ^ N
      by true e true f z said good = rw z (omega (arith, said))
      by true e false f z said good = rw z (omega (arith, said))
      by false e true f z said good =
          let none : N - 0 ≡ N = omega arith in
          let less : (n == 2 ^ (N - 0)) ≡ false = not_delta (n == 2 ^ (N - 0)) _ good in
          let ne : n ≡ 2 ^ (N - 0) → ⊥ = grind (arith, nat_tests) in
          rw z (omega (arith, said, ne, ap (λ m. 2 ^ m) none))
      by false e false f z said good = parts_below N option zeros n (k_below N option known e) z said

  pub number_goes : (zeros : ℕ) (heights : List ℕ) → Few (2 ^ N) heights → AreZeros N option zeros →
      Goes (number_script kind option zeros heights) (Grew (2 ^ N) heights 1)
  number_goes zeros heights few z = (
    sound (option == uncoded N) (option == 0),
    some (option == uncoded N) (option == 0),
    λ n said good. record {
      new = unmapped N (last_of heights) (zeros * 2 ^ option + n) ∷ [];
      is = refl;
      long = refl;
      few = few_one (2 ^ N) _ (unmapped_below N (last_of heights) (zeros * 2 ^ option + n) (few (length heights - 1))
          (value_said (last_of heights) zeros n z said good));
    },
  )
    where
      sound : (t u : Bool) → IsSound (if t then uncoded_form kind (last_of heights) else if u then unary_form kind 0 (last_of heights) else
          rest_form kind option (last_of heights) zeros).shape
      sound true u = tt
      sound false true = tt
      sound false false = tt

      some : (t u : Bool) → Answer (if t then uncoded_form kind (last_of heights) else if u then unary_form kind 0 (last_of heights) else
          rest_form kind option (last_of heights) zeros)
      some true u = (0, pow_pos N, depth_possible _)
      some false true = (0, omega arith, below_limit (0 == 2 ^ (N - 0)) _ (let some = pow_pos (N - 0) in grind (arith, nat_tests)) (depth_possible _))
      some false false = (0, pow_pos option, depth_possible _)

  -- n numbers, each after its zeros
  pub turns_go : (zeros : ℕ → ℕ) → ((i : ℕ) → AreZeros N option (zeros i)) → (n j : ℕ) (heights : List ℕ) → Few (2 ^ N) heights →
      Goes (in_turn (λ i. number_script kind option (zeros i)) j n heights) (Grew (2 ^ N) heights n)
  turns_go zeros are n j heights few =
      let e : j + n - j ≡ n = omega arith in
      let none : 0 ≡ j - j = omega arith in
      subst (λ m. Goes (in_turn (λ i. number_script kind option (zeros i)) j n heights) (Grew (2 ^ N) heights m)) e
      (goes_in_turn (λ i. Grew (2 ^ N) heights (i - j)) (λ i. number_script kind option (zeros i)) j n
      (λ i s low high p. goes_weaker (Grew (2 ^ N) s 1) (Grew (2 ^ N) heights (suc i - j)) (λ a q. (let f : i - j + 1 ≡ suc i - j =
      omega (arith, low) in subst (λ m. Grew (2 ^ N) heights m a) f (grew_both (2 ^ N) (i - j) 1 heights s a p q)))
      (number_script kind option (zeros i) s) (number_goes (zeros i) s (few_grew (2 ^ N) (i - j) heights s few p) (are i)))
      heights (subst (λ m. Grew (2 ^ N) heights m heights) none (grew_none (2 ^ N) heights (pow_pos N))))

-- the zeros of n unary parts
pub zeros_go : {G : Type 0} (given : G) (N k n : ℕ) (zs : List ℕ) → Goes (zeros_script given N k n zs) (Grew (2 ^ (N - k)) zs n)
zeros_go given N k zero zs = grew_none (2 ^ (N - k)) zs (pow_pos (N - k))
zeros_go given N k (suc n) zs = (
  tt,
  (0, omega arith, below_limit (0 == 2 ^ (N - k)) None (let some = pow_pos (N - k) in grind (arith, nat_tests)) tt),
  λ z said good.
      let less : (z == 2 ^ (N - k)) ≡ false = not_delta (z == 2 ^ (N - k)) None good in
      let lt : z < 2 ^ (N - k) = grind (arith, nat_tests) in
      let one : Grew (2 ^ (N - k)) zs 1 (zs ++ z ∷ []) = record { new = z ∷ []; is = refl; long = refl; few = few_one (2 ^ (N - k)) z lt } in
      goes_weaker (Grew (2 ^ (N - k)) (zs ++ z ∷ []) n) (Grew (2 ^ (N - k)) zs (suc n)) (λ a q. (let f : 1 + n ≡ suc n =
      omega arith in subst (λ m. Grew (2 ^ (N - k)) zs m a) f (grew_both (2 ^ (N - k)) 1 n zs (zs ++ z ∷ []) a one q)))
      (zeros_script given N k n (zs ++ z ∷ [])) (zeros_go given N k n (zs ++ z ∷ [])),
)

module _ (kind : Kind) where
  abbrev bound : ℕ
  bound = 2 ^ kind.bits

  pub differences_go : (option count : ℕ) (heights : List ℕ) → is_option kind.bits option ≡ true → Few bound heights →
      Goes (differences_script kind option count heights) (Grew bound heights count)
  differences_go option count heights known few = by ((option == 0) || (option == uncoded kind.bits)) refl
    where
      zeros_at : (t : Bool) → ((option == 0) || (option == uncoded kind.bits)) ≡ t → (z : ℕ) → ZerosIf t (2 ^ (kind.bits - option)) z →
          AreZeros kind.bits option z
      zeros_at t e z p = subst (λ x. ZerosIf x (2 ^ (kind.bits - option)) z) (sym e) p

      by : (t : Bool) → ((option == 0) || (option == uncoded kind.bits)) ≡ t →
          Goes (if t then in_turn (λ i. number_script kind option 0) 0 count heights else
          then_ask (zeros_script heights kind.bits option count [])
          (λ zeros. in_turn (λ i. number_script kind option (get_or zeros i 0)) 0 count heights)) (Grew bound heights count)
      by true e = turns_go kind option known (λ i. 0) (λ i. zeros_at true e 0 refl) count 0 heights few
      by false e =
          goes_then (Grew (2 ^ (kind.bits - option)) [] count) (Grew bound heights count) (zeros_script heights kind.bits option count [])
          (λ zeros. in_turn (λ i. number_script kind option (get_or zeros i 0)) 0 count heights)
          (zeros_go heights kind.bits option count [])
          (λ zs p. turns_go kind option known (λ i. get_or zs i 0)
          (λ i. zeros_at false e (get_or zs i 0)
          (few_grew (2 ^ (kind.bits - option)) count [] zs (few_none (2 ^ (kind.bits - option)) (pow_pos (kind.bits - option))) p i)) count 0 heights few)

  -- the first gaggle begins with one number
  abbrev pub leads : ℕ → ℕ
  leads g = if g == 0 then 1 else 0

  pub lead_goes : (g : ℕ) (heights : List ℕ) → (g ≡ 0 → heights ≡ []) → Goes (lead_script kind g heights) (Grew bound heights (leads g))
  lead_goes zero heights none = (
    tt,
    (0, pow_pos kind.bits, depth_possible _),
    λ n said good. record {
      new = (n + negatives kind.signed kind.bits) % bound ∷ [];
      is = ap (λ l. l ++ (n + negatives kind.signed kind.bits) % bound ∷ []) (sym (none refl));
      long = refl;
      few = few_one bound _ (mod-lt (n + negatives kind.signed kind.bits) (pow_pos kind.bits));
    },
  )
  lead_goes (suc g) heights none = let e : leads (suc g) ≡ 0 =
      (let t : (suc g == 0) ≡ false = grind (arith, nat_tests) in rw t refl) in
      subst (λ m. Grew bound heights m heights) (sym e) (grew_none bound heights (pow_pos kind.bits))

  -- the numbers of gaggle g
  abbrev pub size : (count g : ℕ) → ℕ
  size count g = min count (16 * g + 16) - min count (16 * g)

  pub after_option_goes : (count g option : ℕ) (heights : List ℕ) → g < gaggle_count count → length heights ≡ min count (16 * g) → Few bound heights →
      is_option kind.bits option ≡ true →
      Goes (then_ask (lead_script kind g heights) (differences_script kind option (min count (16 * g + 16) - first_place g)))
      (Grew bound heights (size count g))
  after_option_goes count g option heights lt long few known =
      goes_then (Grew bound heights (leads g)) (Grew bound heights (size count g)) (lead_script kind g heights)
      (differences_script kind option (min count (16 * g + 16) - first_place g))
      (lead_goes g heights (λ e. no_length heights (omega (arith, long, e))))
      (λ a p. goes_weaker (Grew bound a (min count (16 * g + 16) - first_place g)) (Grew bound heights (size count g))
      (λ b q. subst (λ m. Grew bound heights m b) (parts (g == 0) refl)
      (grew_both bound (leads g) (min count (16 * g + 16) - first_place g) heights a b p q))
      (differences_script kind option (min count (16 * g + 16) - first_place g) a)
      (differences_go option (min count (16 * g + 16) - first_place g) a known (few_grew bound (leads g) heights a few p)))
    where
      no_length : (xs : List ℕ) → length xs ≡ 0 → xs ≡ []
      no_length [] e = refl
      no_length (x ∷ xs) e = absurd (omega (arith, e))

      parts : (t : Bool) → (g == 0) ≡ t → (if t then 1 else 0) + (min count (16 * g + 16) - first_place g) ≡ size count g
      parts true e = let z : g ≡ 0 = grind (arith, nat_tests) in omega (arith, z, lt)
      parts false e = let z : g ≡ 0 → ⊥ = grind (arith, nat_tests) in omega (arith, z, lt)

  pub gaggle_goes : (count g : ℕ) (heights : List ℕ) → g < gaggle_count count → length heights ≡ min count (16 * g) → Few bound heights →
      Goes (gaggle_script kind count g heights) (Grew bound heights (size count g))
  gaggle_goes count g heights lt long few = (
    tt,
    (0, pow_pos (identifier_bits kind.bits), none_option (is_option kind.bits 0) (grind (arith, nat_tests))),
    λ option said good. after_option_goes count g option heights lt long few (not_option (is_option kind.bits option) good),
  )

  -- what n gaggles from g on give
  pub gaggles_part : (count g n : ℕ) (heights : List ℕ) → g + n ≤ gaggle_count count → length heights ≡ min count (16 * g) → Few bound heights →
      Goes (in_turn (gaggle_script kind count) g n heights) (Grew bound heights (min count (16 * (g + n)) - length heights))
  gaggles_part count g n heights all long few =
      goes_in_turn (λ i. Grew bound heights (min count (16 * i) - length heights)) (gaggle_script kind count) g n
      (λ i s low high p.
      let here : length s ≡ min count (16 * i) = omega (arith, long_grew bound (min count (16 * i) - length heights) heights s p, long, low) in
      goes_weaker (Grew bound s (size count i)) (Grew bound heights (min count (16 * suc i) - length heights))
      (λ a q. (let e : min count (16 * i) - length heights + size count i ≡ min count (16 * suc i) - length heights =
      omega (arith, long, low) in subst (λ m. Grew bound heights m a) e (grew_both bound (min count (16 * i) - length heights) (size count i) heights s a p q)))
      (gaggle_script kind count i s)
      (gaggle_goes count i s (omega (arith, high, all)) here (few_grew bound (min count (16 * i) - length heights) heights s few p)))
      heights (let e : 0 ≡ min count (16 * g) - length heights =
      omega (arith, long) in subst (λ m. Grew bound heights m heights) e (grew_none bound heights (pow_pos kind.bits)))

  -- `count` numbers of N bits
  pub numbers_go : (count : ℕ) → Goes (numbers_script kind count) (Grew bound [] count)
  numbers_go count =
      let all : min count (16 * (0 + gaggle_count count)) - 0 ≡ count = omega arith in
      subst (λ m. Goes (numbers_script kind count) (Grew bound [] m)) all
      (gaggles_part count 0 (gaggle_count count) [] (omega arith) (omega arith) (few_none bound (pow_pos kind.bits)))

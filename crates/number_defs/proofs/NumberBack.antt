-- What is read of numbers by differences is what they write.
use Rattle.std.proofs.Common.{zero, drop, ◌≡◌, ℕ, suc, ◌+◌, ◌-◌, ◌*◌, ◌/◌, ◌%◌, ◌<◌, ◌≤◌, ◌^◌, ◌==◌, ◌||◌, min, Bool, true, false, if◌then◌else◌, List, []}
use Rattle.std.proofs.Common.{◌∷◌, ◌++◌, length, take, get_or, refl, ap, sym, ◌∙◌, subst, arith, length-append, pow_pos}
use Rattle.std.proofs.Math.Seq.{take-append_seam}
use Rattle.std.proofs.lemmas.Bool.Decides.{nat_tests}
use Rattle.std.proofs.lemmas.List.{length-take-le}
use Rattle.std.proofs.lemmas.Nat.{div-mul-add}
use Rattle.std.proofs.lemmas.Grind.{same_number_lists}
use Rattle.item_defs.specs.Items.{Form, Item, IsSaid}
use Rattle.number_defs.specs.Ranges.{negatives}
use Rattle.number_defs.specs.Mapping.{unmapped, mapped}
use Rattle.number_defs.specs.Gaggles.{Kind, uncoded_form, unary_form, rest_form, reference_form, uncoded, is_option, first_place, gaggle_count}
use Rattle.number_defs.specs.Gaggles.{gaggle_items, items_before, number_items}
use Rattle.number_defs.proofs.Equations.{gaggle_items-is, items_before-none, items_before-more}
use Rattle.number_defs.proofs.MappingLaws.{unmapped_back}
use Rattle.number_defs.proofs.Heights.{complement_is, complement_back}
use Rattle.item_defs.specs.Scripts.{Script, done, then_ask, in_turn}
use Rattle.item_defs.specs.Following.{Follows}
use Rattle.item_defs.specs.Completing.{ArePossible, Goes}
use Rattle.item_defs.proofs.ScriptLaws.{turns_split, then_done}
use Rattle.item_defs.proofs.FollowLaws.{asked, asked_first, follows_split}
use Rattle.item_defs.proofs.Completing.{goes_end, possible_parts}
use Rattle.number_defs.specs.NumberScript.{option_form, zeros_form, zeros_script, value_form, last_of, number_script, differences_script, lead_script}
use Rattle.number_defs.specs.NumberScript.{gaggle_script, numbers_script}
use Rattle.number_defs.proofs.NumberGoes.{differences_go, Few, Grew, AreZeros, ZerosIf, value_said, number_goes, turns_go, zeros_go, lead_goes, leads}
use Rattle.number_defs.proofs.NumberGoes.{gaggles_part, size, gaggle_goes, not_option, few_grew, few_none, long_grew}
use Rattle.number_defs.proofs.NumberWritten.{gaggle_written, gaggle_possible}

-- a list of this length begins in one way
pub one_start : {X : Type 0} (a b xs ys : List X) → a ++ xs ≡ b ++ ys → length a ≡ length b → a ≡ b
one_start a b xs ys e long = sym (take-append_seam a xs) ∙ ap (take (length a)) e ∙ ap (λ n. take n (b ++ ys)) long ∙ take-append_seam b ys

-- lists that have grown by the same number of numbers to one list are one
pub one_grown : (bound m n : ℕ) (heights a b now : List ℕ) → Grew bound heights m a → Grew bound heights m b → Grew bound a n now → Grew bound b n now → a ≡ b
one_grown bound m n heights a b now p q r s =
    one_start a b r.new s.new (sym r.is ∙ s.is) (omega (arith, long_grew bound m heights a p, long_grew bound m heights b q))

take_all : (l : List ℕ) → take (length l) l ≡ l
take_all [] = refl
take_all (x ∷ l) = ap (λ r. x ∷ r) (take_all l)

-- the first m of the first n, and the others of these
take_parts : (m n : ℕ) (l : List ℕ) → m ≤ n → take m l ++ drop m (take n l) ≡ take n l
take_parts zero n l le = refl
take_parts (suc m) zero l le = absurd (omega (arith, le))
take_parts (suc m) (suc n) [] le = refl
take_parts (suc m) (suc n) (x ∷ l) le = ap (λ r. x ∷ r) (take_parts m n l (omega (arith, le)))

last_same : (h : List ℕ) (x y : ℕ) → h ++ x ∷ [] ≡ h ++ y ∷ [] → x ≡ y
last_same [] x y e = cc
last_same (z ∷ h) x y e = last_same h x y cc

-- the form of the item that makes a value whole, by two tests
abbrev value_if : Kind → (before zeros : ℕ) → (option : ℕ) → (t u : Bool) → Form
value_if kind before zeros option t u = if t then uncoded_form kind before else if u then unary_form kind 0 before else rest_form kind option before zeros

split : (K y z m n : ℕ) → m < K → n < K → y * K + m ≡ z * K + n → (y ≡ z) × (m ≡ n)
split K y z m n p q e =
    let same : y ≡ z = sym (div-mul-add y K m p) ∙ ap (λ a. a / K) e ∙ div-mul-add z K n q in
    (same, omega (arith, e, ap (λ a. a * K) same))

whole : (K y z m n : ℕ) → y ≡ 0 → z ≡ 0 → y * K + m ≡ z * K + n → (y ≡ z) × (m ≡ n)
whole K y z m n p q e =
    let a : y * K ≡ 0 = rw p (omega arith) in
    let b : z * K ≡ 0 = rw q (omega arith) in
    (p ∙ sym q, omega (arith, e, a, b))

module _ (kind : Kind) (option : ℕ) (known : is_option kind.bits option ≡ true) where
  abbrev N : ℕ
  N = kind.bits

  -- the parts of a value are those of another with the same sum
  parts_same : (before y z m n : ℕ) → AreZeros N option y → AreZeros N option z → IsSaid (value_form kind option before y).shape m →
      IsSaid (value_form kind option before z).shape n →
      y * 2 ^ option + m ≡ z * 2 ^ option + n → (y ≡ z) × (m ≡ n)
  parts_same before y z m n = by (option == uncoded N) (option == 0)
    where
      by : (t u : Bool) → ZerosIf (u || t) (2 ^ (N - option)) y → ZerosIf (u || t) (2 ^ (N - option)) z →
          IsSaid (value_if kind before y option t u).shape m → IsSaid (value_if kind before z option t u).shape n → y * 2 ^ option + m ≡ z * 2 ^ option + n →
          (y ≡ z) × (m ≡ n)
      by true true p q a b e = whole (2 ^ option) y z m n p q e
      by true false p q a b e = whole (2 ^ option) y z m n p q e
      by false true p q a b e = whole (2 ^ option) y z m n p q e
      by false false p q a b e = split (2 ^ option) y z m n a b e

  -- the number determines its item, and the zeros before it
  number_same : (y z : ℕ) (heights now : List ℕ) → Few (2 ^ N) heights → AreZeros N option y → AreZeros N option z → (is js : List Item) → ArePossible is →
      ArePossible js →
      Follows (number_script kind option y heights) is now → Follows (number_script kind option z heights) js now → (y ≡ z) × (is ≡ js)
  number_same y z heights now few p q is js ai aj f h =
      let before = last_of heights in
      let small : before < 2 ^ N = few (length heights - 1) in
      let a = asked heights (value_form kind option before y) (λ said. heights ++ unmapped N before (y * 2 ^ option + said) ∷ []) is now ai f in
      let b = asked heights (value_form kind option before z) (λ said. heights ++ unmapped N before (z * 2 ^ option + said) ∷ []) js now aj h in
      let same : unmapped N before (y * 2 ^ option + a.said) ≡ unmapped N before (z * 2 ^ option + b.said) = last_same heights _ _ (a.gives ∙ sym b.gives) in
      let u = value_said kind option known before y a.said p a.says a.may in
      let v = value_said kind option known before z b.said q b.says b.may in
      let parts = parts_same before y z a.said b.said p q a.says b.says (sym (unmapped_back N before _ small u) ∙ ap (mapped N before) same ∙
      unmapped_back N before _ small v) in
      (parts.0, a.is ∙ (λ i. record { form = value_form kind option before (parts.0 i); said = parts.1 i } ∷ []) ∙ sym b.is)

  -- so do the numbers of a gaggle
  turns_same : (ys zs : ℕ → ℕ) → ((i : ℕ) → AreZeros N option (ys i)) → ((i : ℕ) → AreZeros N option (zs i)) → (n j : ℕ) (heights now : List ℕ) →
      Few (2 ^ N) heights → (is js : List Item) → ArePossible is → ArePossible js →
      Follows (in_turn (λ i. number_script kind option (ys i)) j n heights) is now →
      Follows (in_turn (λ i. number_script kind option (zs i)) j n heights) js now → ((i : ℕ) → i < n → ys (j + i) ≡ zs (j + i)) × (is ≡ js)
  turns_same ys zs py pz zero j heights now few [] [] ai aj f h = (λ i lt. absurd (omega (arith, lt)), refl)
  turns_same ys zs py pz zero j heights now few [] (k ∷ ks) ai aj f h = absurd h
  turns_same ys zs py pz zero j heights now few (i ∷ is) js ai aj f h = absurd f
  turns_same ys zs py pz (suc n) j heights now few is js ai aj f h =
      let a = follows_split (in_turn (λ i. number_script kind option (ys i)) (suc j) n) (number_script kind option (ys j) heights) is now f in
      let b = follows_split (in_turn (λ i. number_script kind option (zs i)) (suc j) n) (number_script kind option (zs j) heights) js now h in
      let aa = possible_parts a.first a.rest (subst ArePossible a.both ai) in
      let bb = possible_parts b.first b.rest (subst ArePossible b.both aj) in
      let ga = goes_end (Grew (2 ^ N) heights 1) (number_script kind option (ys j) heights)
      (number_goes kind option known (ys j) heights few (py j)) a.first a.value aa.0 a.follows in
      let gb = goes_end (Grew (2 ^ N) heights 1) (number_script kind option (zs j) heights)
      (number_goes kind option known (zs j) heights few (pz j)) b.first b.value bb.0 b.follows in
      let fa = few_grew (2 ^ N) 1 heights a.value few ga in
      let fb = few_grew (2 ^ N) 1 heights b.value few gb in
      let ra = goes_end (Grew (2 ^ N) a.value n) _ (turns_go kind option known ys py n (suc j) a.value fa) a.rest now aa.1 a.then in
      let rb = goes_end (Grew (2 ^ N) b.value n) _ (turns_go kind option known zs pz n (suc j) b.value fb) b.rest now bb.1 b.then in
      let same : b.value ≡ a.value = one_grown (2 ^ N) 1 n heights b.value a.value now gb ga rb ra in
      let one = number_same (ys j) (zs j) heights a.value few (py j) (pz j) a.first b.first aa.0 bb.0 a.follows
      (subst (Follows (number_script kind option (zs j) heights) b.first) same b.follows) in
      let rest = turns_same ys zs py pz n (suc j) a.value now fa a.rest b.rest aa.1 bb.1 a.then
      (subst (λ v. Follows (in_turn (λ i. number_script kind option (zs i)) (suc j) n v) b.rest now) same b.then) in
      (λ i lt. at i lt one.0 rest.0, a.both ∙ (λ t. one.1 t ++ rest.1 t) ∙ sym b.both)
    where
      at : (i : ℕ) → i < suc n → ys j ≡ zs j → ((i : ℕ) → i < n → ys (suc j + i) ≡ zs (suc j + i)) → ys (j + i) ≡ zs (j + i)
      at zero lt one rest = let e : j + zero ≡ j = omega arith in rw e one
      at (suc i) lt one rest = let e : j + suc i ≡ suc j + i = omega arith in rw e (rest i (omega (arith, lt)))

-- the zeros of unary parts determine their items
zeros_same : {G : Type 0} (given : G) (N k n : ℕ) (start now : List ℕ) (is js : List Item) → ArePossible is → ArePossible js →
    Follows (zeros_script given N k n start) is now → Follows (zeros_script given N k n start) js now → is ≡ js
zeros_same given N k zero start now [] [] ai aj f h = refl
zeros_same given N k zero start now [] (j ∷ js) ai aj f h = absurd h
zeros_same given N k zero start now (i ∷ is) js ai aj f h = absurd f
zeros_same given N k (suc n) start now is js ai aj f h =
    let a = asked_first given (zeros_form N k) (λ z. zeros_script given N k n (start ++ z ∷ [])) is now ai f in
    let b = asked_first given (zeros_form N k) (λ z. zeros_script given N k n (start ++ z ∷ [])) js now aj h in
    let ra = goes_end (Grew (2 ^ (N - k)) (start ++ a.said ∷ []) n) (zeros_script given N k n (start ++ a.said ∷ []))
    (zeros_go given N k n (start ++ a.said ∷ [])) a.more now a.are a.follows in
    let rb = goes_end (Grew (2 ^ (N - k)) (start ++ b.said ∷ []) n) (zeros_script given N k n (start ++ b.said ∷ []))
    (zeros_go given N k n (start ++ b.said ∷ [])) b.more now b.are b.follows in
    let long : length (start ++ b.said ∷ []) ≡ length (start ++ a.said ∷ []) =
    omega (arith, length-append start (a.said ∷ []), length-append start (b.said ∷ [])) in
    let same : b.said ≡ a.said =
    last_same start b.said a.said (one_start (start ++ b.said ∷ []) (start ++ a.said ∷ []) rb.new ra.new (sym rb.is ∙ ra.is) long) in
    let rest = zeros_same given N k n (start ++ a.said ∷ []) now a.more b.more a.are b.are a.follows
    (subst (λ z. Follows (zeros_script given N k n (start ++ z ∷ [])) b.more now) same b.follows) in
    a.is ∙ (λ t. record { form = zeros_form N k; said = sym same t } ∷ rest t) ∙ sym b.is

module _ (kind : Kind) where
  abbrev bound : ℕ
  bound = 2 ^ kind.bits

  differences_same : (option n : ℕ) (heights now : List ℕ) → is_option kind.bits option ≡ true → Few bound heights → (is js : List Item) → ArePossible is →
      ArePossible js →
      Follows (differences_script kind option n heights) is now → Follows (differences_script kind option n heights) js now → is ≡ js
  differences_same option n heights now known few is js ai aj = by ((option == 0) || (option == uncoded kind.bits)) refl
    where
      zeros_at : (t : Bool) → ((option == 0) || (option == uncoded kind.bits)) ≡ t → (z : ℕ) → ZerosIf t (2 ^ (kind.bits - option)) z →
          AreZeros kind.bits option z
      zeros_at t e z p = subst (λ x. ZerosIf x (2 ^ (kind.bits - option)) z) (sym e) p

      whole_turns : Script (List ℕ) (List ℕ)
      whole_turns = in_turn (λ i. number_script kind option 0) 0 n heights

      rests : List ℕ → Script (List ℕ) (List ℕ)
      rests zeros = in_turn (λ i. number_script kind option (get_or zeros i 0)) 0 n heights

      by : (t : Bool) → ((option == 0) || (option == uncoded kind.bits)) ≡ t →
          Follows (if t then whole_turns else then_ask (zeros_script heights kind.bits option n []) rests) is now →
          Follows (if t then whole_turns else then_ask (zeros_script heights kind.bits option n []) rests) js now → is ≡ js
      by true e f h = (turns_same kind option known (λ i. 0) (λ i. 0) (λ i. zeros_at true e 0 refl)
          (λ i. zeros_at true e 0 refl) n 0 heights now few is js ai aj f h).1
      by false e f h =
          let zs = zeros_script heights kind.bits option n [] in
          let a = follows_split rests zs is now f in
          let b = follows_split rests zs js now h in
          let aa = possible_parts a.first a.rest (subst ArePossible a.both ai) in
          let bb = possible_parts b.first b.rest (subst ArePossible b.both aj) in
          let ga = goes_end (Grew (2 ^ (kind.bits - option)) [] n) zs (zeros_go heights kind.bits option n []) a.first a.value aa.0 a.follows in
          let gb = goes_end (Grew (2 ^ (kind.bits - option)) [] n) zs (zeros_go heights kind.bits option n []) b.first b.value bb.0 b.follows in
          let none = few_none (2 ^ (kind.bits - option)) (pow_pos (kind.bits - option)) in
          let w = turns_same kind option known (λ i. get_or a.value i 0) (λ i. get_or b.value i 0)
          (λ i. zeros_at false e (get_or a.value i 0) (few_grew (2 ^ (kind.bits - option)) n [] a.value none ga i))
          (λ i. zeros_at false e (get_or b.value i 0)
          (few_grew (2 ^ (kind.bits - option)) n [] b.value none gb i)) n 0 heights now few a.rest b.rest aa.1 bb.1 a.then b.then in
          let la : length a.value ≡ n = omega (arith, long_grew (2 ^ (kind.bits - option)) n [] a.value ga) in
          let lb : length b.value ≡ n = omega (arith, long_grew (2 ^ (kind.bits - option)) n [] b.value gb) in
          let same : b.value ≡ a.value =
          same_number_lists b.value a.value (lb ∙
          sym la) (λ k lt. (let z : 0 + k ≡ k = omega arith in let q = w.0 k (omega (arith, lt, lb)) in sym (rw z at q))) in
          let first = zeros_same heights kind.bits option n [] a.value a.first b.first aa.0 bb.0 a.follows (subst (Follows zs b.first) same b.follows) in
          a.both ∙ (λ t. first t ++ w.1 t) ∙ sym b.both

  lead_same : (g : ℕ) (heights now : List ℕ) → 1 ≤ kind.bits → (is js : List Item) → ArePossible is → ArePossible js →
      Follows (lead_script kind g heights) is now → Follows (lead_script kind g heights) js now → is ≡ js
  lead_same zero heights now some is js ai aj f h =
      let give : ℕ → List ℕ = λ c. (c + negatives kind.signed kind.bits) % bound ∷ [] in
      let a = asked heights (reference_form kind) give is now ai f in
      let b = asked heights (reference_form kind) give js now aj h in
      let e : (a.said + negatives kind.signed kind.bits) % bound ≡ (b.said + negatives kind.signed kind.bits) % bound = head_same _ _ (a.gives ∙ sym b.gives) in
      a.is ∙ (λ t. record {
        form = reference_form kind;
        said =
            (back a.said a.says ∙ ap (λ c. (c + negatives kind.signed kind.bits) % bound) e ∙ sym (back b.said b.says)) t;
      } ∷ []) ∙ sym b.is
    where
      head_same : (x y : ℕ) → x ∷ [] ≡ y ∷ [] → x ≡ y
      head_same x y e = cc

      back : (c : ℕ) → c < bound → c ≡ ((c + negatives kind.signed kind.bits) % bound + negatives kind.signed kind.bits) % bound
      back c lt = sym (complement_back kind.signed kind.bits c lt) ∙
          ap (λ x. (x + negatives kind.signed kind.bits) % bound) (sym (complement_is kind.signed kind.bits c some lt))
  lead_same (suc g) heights now some [] [] ai aj f h = refl
  lead_same (suc g) heights now some [] (j ∷ js) ai aj f h = absurd h
  lead_same (suc g) heights now some (i ∷ is) js ai aj f h = absurd f

  module _ (count : ℕ) (some : 1 ≤ kind.bits) where
    after_option_same : (g option : ℕ) (heights now : List ℕ) → g < gaggle_count count → length heights ≡ min count (16 * g) → Few bound heights →
        is_option kind.bits option ≡ true → (is js : List Item) → ArePossible is → ArePossible js →
        Follows (then_ask (lead_script kind g heights) (differences_script kind option (min count (16 * g + 16) - first_place g))) is now →
        Follows (then_ask (lead_script kind g heights) (differences_script kind option (min count (16 * g + 16) - first_place g))) js now → is ≡ js
    after_option_same g option heights now lt long few known is js ai aj f h =
        let n = min count (16 * g + 16) - first_place g in
        let a = follows_split (differences_script kind option n) (lead_script kind g heights) is now f in
        let b = follows_split (differences_script kind option n) (lead_script kind g heights) js now h in
        let aa = possible_parts a.first a.rest (subst ArePossible a.both ai) in
        let bb = possible_parts b.first b.rest (subst ArePossible b.both aj) in
        let empty : g ≡ 0 → heights ≡ [] = λ e. no_length heights (omega (arith, long, e)) in
        let ga = goes_end (Grew bound heights (leads kind g)) (lead_script kind g heights) (lead_goes kind g heights empty) a.first a.value aa.0 a.follows in
        let gb = goes_end (Grew bound heights (leads kind g)) (lead_script kind g heights) (lead_goes kind g heights empty) b.first b.value bb.0 b.follows in
        let fa = few_grew bound (leads kind g) heights a.value few ga in
        let fb = few_grew bound (leads kind g) heights b.value few gb in
        let ra = goes_end (Grew bound a.value n) (differences_script kind option n a.value)
        (differences_go kind option n a.value known fa) a.rest now aa.1 a.then in
        let rb = goes_end (Grew bound b.value n) (differences_script kind option n b.value)
        (differences_go kind option n b.value known fb) b.rest now bb.1 b.then in
        let same : b.value ≡ a.value = one_grown bound (leads kind g) n heights b.value a.value now gb ga rb ra in
        let first = lead_same g heights a.value some a.first b.first aa.0 bb.0 a.follows
        (subst (Follows (lead_script kind g heights) b.first) same b.follows) in
        let rest = differences_same option n a.value now known fa a.rest b.rest aa.1 bb.1 a.then
        (subst (λ v. Follows (differences_script kind option n v) b.rest now) same b.then) in
        a.both ∙ (λ t. first t ++ rest t) ∙ sym b.both
      where
        no_length : (xs : List ℕ) → length xs ≡ 0 → xs ≡ []
        no_length [] e = refl
        no_length (x ∷ xs) e = absurd (omega (arith, e))

-- ---- what is read is what its numbers write

module _ (kind : Kind) (some : 1 ≤ kind.bits) (high : kind.bits ≤ 10) (hs : List ℕ) (few : Few (2 ^ kind.bits) hs) where
  few_take : (n : ℕ) → Few (2 ^ kind.bits) (take n hs)
  few_take n = few_start n hs few
    where
      few_start : (n : ℕ) (l : List ℕ) → Few (2 ^ kind.bits) l → Few (2 ^ kind.bits) (take n l)
      few_start zero l p i = pow_pos kind.bits
      few_start (suc n) [] p i = pow_pos kind.bits
      few_start (suc n) (x ∷ l) p zero = p 0
      few_start (suc n) (x ∷ l) p (suc i) = few_start n l (λ j. p (suc j)) i

  -- a gaggle has the items of its numbers, with its option
  gaggle_back : (g : ℕ) → g < gaggle_count (length hs) → (items : List Item) → ArePossible items →
      Follows (gaggle_script kind (length hs) g (take (min (length hs) (16 * g)) hs)) items (take (min (length hs) (16 * suc g)) hs) →
      (option : ℕ) × (is_option kind.bits option ≡ true) × (items ≡ gaggle_items kind hs option g)
  gaggle_back g lt items are f =
      let given = take (min (length hs) (16 * g)) hs in
      let now = take (min (length hs) (16 * suc g)) hs in
      let after : ℕ → Script (List ℕ) (List ℕ) =
      λ option. then_ask (lead_script kind g given) (differences_script kind option (min (length hs) (16 * g + 16) - first_place g)) in
      let a = asked_first given (option_form kind.bits) after items now are f in
      let known : is_option kind.bits a.said ≡ true = not_option (is_option kind.bits a.said) a.may in
      let follows = gaggle_written kind hs few a.said g lt in
      let possible = gaggle_possible kind hs few a.said g high known in
      let w = rw gaggle_items-is at follows in
      let p = rw gaggle_items-is at possible in
      let long : length given ≡ min (length hs) (16 * g) = length-take-le (min (length hs) (16 * g)) hs (omega arith) in (
        a.said,
        known,
        rw gaggle_items-is (a.is ∙
            ap (λ l. record { form = option_form kind.bits; said = a.said } ∷ l)
            (after_option_same kind (length hs) some g a.said given now lt long
            (few_take (min (length hs) (16 * g))) known a.more _ a.are p.1 a.follows w.1)),
      )

  -- with the same options of the first gaggles, they have the same items
  same_before : (o u : ℕ → ℕ) (g : ℕ) → ((j : ℕ) → j < g → o j ≡ u j) → items_before kind hs o g ≡ items_before kind hs u g
  same_before o u zero same = rw (items_before-none, items_before-none) refl
  same_before o u (suc g) same =
      rw (items_before-more, items_before-more)
      (λ t. same_before o u g (λ j lt. same j (omega (arith, lt))) t ++ gaggle_items kind hs (same g (omega arith) t) g)

  abbrev Options : ℕ → List Item → Type 0
  Options g items = (o : ℕ → ℕ) × ((j : ℕ) → j < g → is_option kind.bits (o j) ≡ true) × (items ≡ items_before kind hs o g)

  -- one gaggle more
  join : (g : ℕ) (items first rest : List Item) (x : ℕ) (o : ℕ → ℕ) → items ≡ first ++ rest → is_option kind.bits x ≡ true →
      ((j : ℕ) → j < g → is_option kind.bits (o j) ≡ true) → first ≡ items_before kind hs o g →
      rest ≡ gaggle_items kind hs x g → Options (suc g) items
  join g items first rest x o both valid before is last = (
    options,
    λ j lt. known j lt,
    both ∙ (λ t. (is ∙ same_before o options g (λ j lt. sym (others j lt))) t ++ (last ∙ ap (λ y. gaggle_items kind hs y g) (sym here)) t) ∙
        sym (items_before-more kind hs options g),
  )
    where
      options : ℕ → ℕ
      options j = if j == g then x else o j

      here : options g ≡ x
      here = let t : (g == g) ≡ true = grind (arith, nat_tests) in rw t refl

      others : (j : ℕ) → j < g → options j ≡ o j
      others j lt = let t : (j == g) ≡ false = grind (arith, nat_tests) in rw t refl

      known : (j : ℕ) → j < suc g → is_option kind.bits (options j) ≡ true
      known j lt = by (j == g) refl
        where
          by : (t : Bool) → (j == g) ≡ t → is_option kind.bits (if t then x else o j) ≡ true
          by true e = valid
          by false e = let ne : j ≡ g → ⊥ = grind (arith, nat_tests) in before j (omega (arith, lt, ne))

  before_back : (g : ℕ) → g ≤ gaggle_count (length hs) → (items : List Item) → ArePossible items →
      Follows (in_turn (gaggle_script kind (length hs)) 0 g []) items (take (min (length hs) (16 * g)) hs) → Options g items
  before_back zero le [] are f = (λ j. 0, λ j lt. absurd (omega (arith, lt)), sym (items_before-none kind hs (λ j. 0)))
  before_back zero le (i ∷ is) are f = absurd f
  before_back (suc g) le items are f =
      let gaggle = gaggle_script kind (length hs) in
      let now = take (min (length hs) (16 * suc g)) hs in
      let e : suc g ≡ g + 1 = omega arith in
      let z : 0 + g ≡ g = omega arith in
      let h : Follows (then_ask (in_turn gaggle 0 g []) (in_turn gaggle (0 + g) 1)) items now =
      subst (λ s. Follows s items now) (ap (λ n. in_turn gaggle 0 n []) e ∙ turns_split (List ℕ) gaggle 0 g 1 []) f in
      let a = follows_split (in_turn gaggle (0 + g) 1) (in_turn gaggle 0 g []) items now h in
      let aa = possible_parts a.first a.rest (subst ArePossible a.both are) in
      let ga = goes_end (Grew (2 ^ kind.bits) [] (min (length hs) (16 * g))) (in_turn gaggle 0 g [])
      (first_go g (omega (arith, le))) a.first a.value aa.0 a.follows in
      let fa = few_grew (2 ^ kind.bits) (min (length hs) (16 * g)) [] a.value (few_none (2 ^ kind.bits) (pow_pos kind.bits)) ga in
      let la : length a.value ≡ min (length hs) (16 * g) = omega (arith, long_grew (2 ^ kind.bits) (min (length hs) (16 * g)) [] a.value ga) in
      let last : Follows (gaggle g a.value) a.rest now =
      one_turn (gaggle g) a.value a.rest now (subst (λ j. Follows (in_turn gaggle j 1 a.value) a.rest now) z a.then) in
      let gr = goes_end (Grew (2 ^ kind.bits) a.value (size kind (length hs) g)) (gaggle g a.value)
      (gaggle_goes kind (length hs) g a.value (omega (arith, le)) la fa) a.rest now aa.1 last in
      let start : a.value ≡ take (min (length hs) (16 * g)) hs =
      one_start a.value (take (min (length hs) (16 * g)) hs) gr.new (drop (min (length hs) (16 * g)) (take (min (length hs) (16 * suc g)) hs)) (sym gr.is ∙
      sym (take_parts (min (length hs) (16 * g)) (min (length hs) (16 * suc g)) hs (omega arith)))
      (omega (arith, la, length-take-le (min (length hs) (16 * g)) hs (omega arith))) in
      let before = before_back g (omega (arith, le)) a.first aa.0 (subst (Follows (in_turn gaggle 0 g []) a.first) start a.follows) in
      let one = gaggle_back g (omega (arith, le)) a.rest aa.1 (subst (λ v. Follows (gaggle g v) a.rest now) start last) in
      join g items a.first a.rest one.0 before.0 a.both one.1 before.1 before.2 one.2
    where
      first_go : (g : ℕ) → g ≤ gaggle_count (length hs) →
          Goes (in_turn (gaggle_script kind (length hs)) 0 g []) (Grew (2 ^ kind.bits) [] (min (length hs) (16 * g)))
      first_go g le =
          let e : min (length hs) (16 * (0 + g)) - 0 ≡ min (length hs) (16 * g) = omega arith in
          subst (λ m. Goes (in_turn (gaggle_script kind (length hs)) 0 g []) (Grew (2 ^ kind.bits) [] m)) e
          (gaggles_part kind (length hs) 0 g [] (omega (arith, le)) (omega arith) (few_none (2 ^ kind.bits) (pow_pos kind.bits)))

      one_turn : (item : List ℕ → Script (List ℕ) (List ℕ)) (s : List ℕ) (is : List Item) (a : List ℕ) → Follows (then_ask (item s) (λ t. done t)) is a →
          Follows (item s) is a
      one_turn item s is a f = subst (λ x. Follows x is a) (then_done (item s)) f

  -- numbers that are read are those that their items write
  pub numbers_back : (items : List Item) → ArePossible items → Follows (numbers_script kind (length hs)) items hs →
      (o : ℕ → ℕ) × ((g : ℕ) → g < gaggle_count (length hs) → is_option kind.bits (o g) ≡ true) × (items ≡ number_items kind hs o)
  numbers_back items are f =
      let e : length hs ≡ min (length hs) (16 * gaggle_count (length hs)) = omega arith in
      before_back (gaggle_count (length hs)) (omega arith) items are (subst (Follows (numbers_script kind (length hs)) items) (sym (take_all hs) ∙
      ap (λ n. take n hs) e) f)

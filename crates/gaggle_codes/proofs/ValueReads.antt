-- Mapped values and the numbers that they make, as they are read.
use Rattle.std.specs.Prelude.{◌==◌, ◌||◌, if◌then◌else◌}
use Rattle.std.proofs.Common.{zero, nat_lt, ◌≡◌, ◌⊎◌, ℕ, suc, ◌+◌, ◌-◌, ◌*◌, ◌%◌, ◌<◌, ◌≤◌, ◌^◌, List, [], ◌∷◌, ◌++◌, Bool, true, false, refl, ap, sym}
use Rattle.std.proofs.Common.{subst, ◌∙◌, arith, get_or, set, eqb, length, pow_mono, length-append, Some, None, Ok, Err}
use Rattle.std.proofs.lemmas.Nat.{pow-add, mul-add-lt, pow_pos}
use Rattle.std.proofs.lemmas.List.{get_or-set_same, get_or-set_other}
use Rattle.std.proofs.Math.Seq.{get_or-append_seam}
use Rattle.std.proofs.lemmas.Bool.Decides.{nat_tests}
use Rattle.item_defs.specs.Items.{Form, fixed, zeros_to, bad_depth, bad_delta}
use Rattle.item_defs.specs.Readings.{IsSound}
use Rattle.bit_pipe.specs.declared.fault.InFault.{InFault}
use Rattle.bit_pipe.specs.declared.fault.InFault.TheVariants as inputs
use Rattle.bit_pipe.specs.declared.fault.TextFault.{TextFault}
use Rattle.bit_pipe.specs.declared.fault.TextFault.TheVariants.{BadDepth}
use Rattle.bit_pipe.specs.Sources.{SourceOf}
use Rattle.bit_pipe.specs.SourceState.{SourceState, IsIn, EndsItem}
use Rattle.bit_pipe.specs.Faults.{of_input}
use Rattle.number_defs.specs.Mapping.{unmapped}
use Rattle.number_defs.specs.Gaggles.{Kind, uncoded, is_option, depth_refusal, uncoded_form, unary_form, rest_form}
use Rattle.item_defs.specs.Scripts.{Script, in_turn}
use Rattle.bit_pipe.specs.ScriptSources.{Found, got, ends, refuses, fails, ReadsAs, by_fault}
use Rattle.bit_pipe.proofs.ScriptReading.{read_done, Leaves}
use Rattle.number_defs.specs.NumberScript.{zeros_form, zeros_script, value_form, number_script, last_of}
use Rattle.gaggle_codes.specs.Given.{AreWithin, IsBound}
use Rattle.gaggle_codes.specs.Items.{EndsForm, free_kind}
use Rattle.gaggle_codes.proofs.FormReads.{Refuses, form_cut, form_fault, form_refused, form_got}

-- ---- forms

module _ (kind : Kind) (option before p zeros : ℕ) where
  abbrev asked : Bool → Bool → Form
  asked t u = if t then uncoded_form kind before else if u then unary_form kind 0 before else rest_form kind option before zeros

  abbrev taken : Bool → Bool → Form
  taken t u = if t then uncoded_form (free_kind kind.bits) p else if u then unary_form (free_kind kind.bits) 0 p else rest_form (free_kind kind.bits) option
      p zeros

  shapes : (t u : Bool) → (taken t u).shape ≡ (asked t u).shape
  shapes true u = refl
  shapes false true = refl
  shapes false false = refl

  sounds : (t u : Bool) → IsSound (asked t u).shape
  sounds true u = tt
  sounds false true = tt
  sounds false false = tt

  refuse : (t u : Bool) → Refuses (taken t u) (asked t u)
  refuse true u n name e = cc
  refuse false true n name e = at (n == 2 ^ (kind.bits - 0)) e
    where
      at : (b : Bool) → (if b then Some bad_delta else None) ≡ Some name → (if b then Some bad_delta else depth_refusal kind before n) ≡ Some name
      at true q = q
      at false q = cc
  refuse false false n name e = cc

  passes : (t u : Bool) → ((u || t) ≡ true → zeros ≡ 0) → (n : ℕ) → (taken t u).refusal n ≡ None →
      (asked t u).refusal n ≡ depth_refusal kind before (zeros * 2 ^ option + n)
  passes true u none n e = let z : zeros * 2 ^ option + n ≡ n = alone (none (or_true u)) n in ap (depth_refusal kind before) (sym z)
    where
      or_true : (b : Bool) → (b || true) ≡ true
      or_true true = refl
      or_true false = refl

      alone : zeros ≡ 0 → (m : ℕ) → zeros * 2 ^ option + m ≡ m
      alone e m = rw e (omega arith)
  passes false true none n e = at (n == 2 ^ (kind.bits - 0)) e
    where
      alone : zeros ≡ 0 → (m : ℕ) → zeros * 2 ^ option + m ≡ m
      alone f m = rw f (omega arith)

      at : (b : Bool) → (if b then Some bad_delta else None) ≡ None → (if b then Some bad_delta else depth_refusal kind before n)
          ≡ depth_refusal kind before (zeros * 2 ^ option + n)
      at true q = cc
      at false q = ap (depth_refusal kind before) (sym (alone (none refl) n))
  passes false false none n e = refl

  pub value_shape : (value_form (free_kind kind.bits) option p zeros).shape ≡ (value_form kind option before zeros).shape
  value_shape = shapes (option == uncoded kind.bits) (option == 0)

  pub value_sound : IsSound (value_form kind option before zeros).shape
  value_sound = sounds (option == uncoded kind.bits) (option == 0)

  pub value_refuses : Refuses (value_form (free_kind kind.bits) option p zeros) (value_form kind option before zeros)
  value_refuses = refuse (option == uncoded kind.bits) (option == 0)

  pub value_passes : (((option == 0) || (option == uncoded kind.bits)) ≡ true → zeros ≡ 0) → (n : ℕ) →
      (value_form (free_kind kind.bits) option p zeros).refusal n ≡ None →
      (value_form kind option before zeros).refusal n ≡ depth_refusal kind before (zeros * 2 ^ option + n)
  value_passes = passes (option == uncoded kind.bits) (option == 0)

  pub value_low : (v : ℕ) → kind.too_great (unmapped kind.bits before v) ≡ false → depth_refusal kind before v ≡ None
  value_low v e = rw e refl

  pub value_high : (v : ℕ) → kind.too_great (unmapped kind.bits before v) ≡ true → depth_refusal kind before v ≡ Some bad_depth
  value_high v e = rw e refl

-- ---- values

module _ (N option : ℕ) where
  pub k_below : is_option N option ≡ true → (option ≡ uncoded N → ⊥) → option ≤ N
  k_below known not_all = grind (arith, nat_tests)

  -- zeros and a rest make a value of N bits
  pub parts_below : (z rest : ℕ) → option ≤ N → z < 2 ^ (N - option) → rest < 2 ^ option → z * 2 ^ option + rest < 2 ^ N
  parts_below z rest le p q = grind (arith, nat_tests, pow-add, mul-add-lt)

  -- what the code computes from them
  pub parts_code : (zeros : ℕ) → N ≤ 10 → option ≤ N → zeros < 2 ^ (N - option) → zeros * 2 ^ option % 65536 ≡ zeros * 2 ^ option
  parts_code zeros high le p = omega (arith, parts_below zeros 0 le p (pow_pos option), pow_mono high)

-- ---- a unary part

module _ {I : Type 0} {k : SourceOf I} (N option limit : ℕ) (is : limit ≡ 2 ^ (N - option)) {a b : SourceState I} where
  pub unary_failed : (e : InFault) → EndsItem k (zeros_to limit) (Err e) a b → EndsForm k (zeros_form N option) (λ n. n) (by_fault (of_input e) tt) a b
  unary_failed inputs.ReadFault p = rw is at p
  unary_failed inputs.LongInput p = rw is at p
  unary_failed inputs.Broken p = rw is at p

  pub unary_ended : EndsItem k (zeros_to limit) (Ok None) a b → EndsForm k (zeros_form N option) (λ n. n) (ends tt) a b
  unary_ended p = rw is at p

  pub unary_long : (n : ℕ) → n ≡ limit → EndsItem k (zeros_to limit) (Ok (Some n)) a b → EndsForm k (zeros_form N option) (λ n. n) (refuses tt bad_delta) a b
  unary_long n e p = let t : (n == 2 ^ (N - option)) ≡ true = grind (arith, nat_tests) in (n, ap (λ t. if t then Some bad_delta else None) t, rw is at p)

  pub unary_got : (n : ℕ) → (n ≡ limit → ⊥) → EndsItem k (zeros_to limit) (Ok (Some n)) a b → EndsForm k (zeros_form N option) (λ n. n) (got n) a b
  unary_got n ne p = let t : (n == 2 ^ (N - option)) ≡ false = grind (arith, nat_tests) in (n, refl, ap (λ t. if t then Some bad_delta else None) t, rw is at p)

-- ---- a value, as it is, by a unary part alone, or by a rest

all_test : (N option : ℕ) → option ≡ uncoded N → (option == uncoded N) ≡ true
all_test N option e = grind (arith, nat_tests)

not_all_test : (N option : ℕ) → (option ≡ uncoded N → ⊥) → (option == uncoded N) ≡ false
not_all_test N option e = grind (arith, nat_tests)

k_test : (option : ℕ) → (option ≡ 0 → ⊥) → (option == 0) ≡ false
k_test option e = grind (arith, nat_tests)

abbrev pub free_form : (N option zeros : ℕ) → Form
free_form N option zeros = value_form (free_kind N) option 0 zeros

abbrev pub whole_value : (option zeros : ℕ) → ℕ → ℕ
whole_value option zeros n = zeros * 2 ^ option + n

module _ {I : Type 0} {k : SourceOf I} (N option zeros : ℕ) {a b : SourceState I} where
  module _ (all : option ≡ uncoded N) where
    pub plain_failed : (e : InFault) → EndsItem k (fixed N) (Err e) a b → EndsForm k (free_form N option zeros) (whole_value option zeros)
        (by_fault (of_input e) tt) a b
    plain_failed inputs.ReadFault p = rw (all_test N option all) p
    plain_failed inputs.LongInput p = rw (all_test N option all) p
    plain_failed inputs.Broken p = rw (all_test N option all) p

    pub plain_ended : EndsItem k (fixed N) (Ok None) a b → EndsForm k (free_form N option zeros) (whole_value option zeros) (ends tt) a b
    plain_ended p = rw (all_test N option all) p

    pub plain_got : (n : ℕ) → zeros ≡ 0 → EndsItem k (fixed N) (Ok (Some n)) a b → EndsForm k (free_form N option zeros) (whole_value option zeros) (got n) a b
    plain_got n none p = let e : zeros * 2 ^ option + n ≡ n = rw none (omega arith) in rw (all_test N option all) (n, e, refl, p)

  module _ (some : option ≡ uncoded N → ⊥) (some_k : option ≡ 0 → ⊥) where
    pub rest_failed : (e : InFault) → EndsItem k (fixed option) (Err e) a b → EndsForm k (free_form N option zeros) (whole_value option zeros)
        (by_fault (of_input e) tt) a b
    rest_failed inputs.ReadFault p = rw (not_all_test N option some, k_test option some_k) p
    rest_failed inputs.LongInput p = rw (not_all_test N option some, k_test option some_k) p
    rest_failed inputs.Broken p = rw (not_all_test N option some, k_test option some_k) p

    pub rest_ended : EndsItem k (fixed option) (Ok None) a b → EndsForm k (free_form N option zeros) (whole_value option zeros) (ends tt) a b
    rest_ended p = rw (not_all_test N option some, k_test option some_k) p

    pub rest_got : (v n : ℕ) → zeros * 2 ^ option + n ≡ v → EndsItem k (fixed option) (Ok (Some n)) a b →
        EndsForm k (free_form N option zeros) (whole_value option zeros) (got v) a b
    rest_got v n e p = rw (not_all_test N option some, k_test option some_k) (n, e, refl, p)

module _ {I : Type 0} (k : SourceOf I) (N zeros : ℕ) (a b : SourceState I) where
  alone_at : (0 ≡ uncoded N → ⊥) → zeros ≡ 0 → (f : Found (Unit {0}) ℕ) → EndsForm k (zeros_form N 0) (λ n. n) f a b →
      EndsForm k (value_form (free_kind N) 0 0 zeros) (λ n. zeros * 2 ^ 0 + n) f a b
  alone_at some none f p = rw (not_all_test N 0 some) (at f p)
    where
      whole : (n : ℕ) → zeros * 2 ^ 0 + n ≡ n
      whole n = rw none (omega arith)

      at : (f : Found (Unit {0}) ℕ) → EndsForm k (zeros_form N 0) (λ n. n) f a b → EndsForm k (unary_form (free_kind N) 0 0) (λ n. zeros * 2 ^ 0 + n) f a b
      at (got v) p = (p.0, whole p.0 ∙ p.1, p.2, p.3)
      at (ends g) p = p
      at (refuses g name) p = p
      at (fails g e) p = p

  pub alone : (option : ℕ) → option ≡ 0 → (option ≡ uncoded N → ⊥) → zeros ≡ 0 → (f : Found (Unit {0}) ℕ) → EndsForm k (zeros_form N option) (λ n. n) f a b →
      EndsForm k (value_form (free_kind N) option 0 zeros) (λ n. zeros * 2 ^ option + n) f a b
  alone option e some none f p =
      subst (λ o. EndsForm k (zeros_form N o) (λ n. n) f a b → EndsForm k (value_form (free_kind N) o 0 zeros) (λ n. zeros * 2 ^ o + n) f a b) (sym e)
      (alone_at (λ q. some (e ∙ q)) none f) p

-- ---- numbers after one another

pub last_more : (heights : List ℕ) (h : ℕ) → last_of (heights ++ h ∷ []) ≡ h
last_more heights h = let e : length (heights ++ h ∷ []) - 1 ≡ length heights =
    omega (arith, length-append heights (h ∷ [])) in rw e (get_or-append_seam heights h [] 0)

-- the number at a place, after the zeros there
abbrev pub each : Kind → ℕ → List ℕ → ℕ → List ℕ → Script (List ℕ) (List ℕ)
each kind option zs j = number_script kind option (get_or zs j 0)

module _ (kind : Kind) (option : ℕ) (zs : List ℕ) (i : ℕ) where
  abbrev pub form : Form
  form = value_form (free_kind kind.bits) option 0 (get_or zs i 0)

  abbrev pub value : ℕ → ℕ
  value s = get_or zs i 0 * 2 ^ option + s

  module _ (given : List ℕ) where
    abbrev asks : Form
    asks = value_form kind option (last_of given) (get_or zs i 0)

    abbrev next : ℕ → ℕ → Script (List ℕ) (List ℕ)
    next m s = in_turn (each kind option zs) (suc i) m (given ++ unmapped kind.bits (last_of given) (value s) ∷ [])

    shape : form.shape ≡ asks.shape
    shape = value_shape kind option (last_of given) 0 (get_or zs i 0)

    sound : IsSound asks.shape
    sound = value_sound kind option (last_of given) 0 (get_or zs i 0)

    module _ (before : ℕ) (last_is : last_of given ≡ before) (plain : ((option == 0) || (option == uncoded kind.bits)) ≡ true → get_or zs i 0 ≡ 0) (v s : ℕ)
        (good : form.refusal s ≡ None) (is : value s ≡ v) where
      asked_as : asks.refusal s ≡ depth_refusal kind (last_of given) v
      asked_as = value_passes kind option (last_of given) 0 (get_or zs i 0) plain s good ∙ ap (depth_refusal kind (last_of given)) is

      accepted : kind.too_great (unmapped kind.bits before v) ≡ false → asks.refusal s ≡ None
      accepted low = asked_as ∙ value_low kind option (last_of given) 0 0 v (rw last_is low)

      refused : kind.too_great (unmapped kind.bits before v) ≡ true → asks.refusal s ≡ Some bad_depth
      refused great = asked_as ∙ value_high kind option (last_of given) 0 0 v (rw last_is great)

module _ {I : Type 0} {k : SourceOf I} (kind : Kind) (option before : ℕ) (zs : List ℕ) (i n : ℕ) (given : List ℕ) (all : Script (List ℕ) (List ℕ))
    {old now : SourceState I} (l : Leaves k all (in_turn (each kind option zs) i n given) old now) where
  pub whole_all : n ≡ 0 → IsIn now → ReadsAs k all (got given) old now
  whole_all none h = l.then (got given) now (rw none (read_done given now h))

  module _ (m : ℕ) (e : n ≡ suc m) {last : SourceState I} where
    pub whole_fault : (fault : TextFault) → EndsForm k (form kind option zs i) (value kind option zs i) (by_fault fault tt) now last →
        ReadsAs k all (by_fault fault given) old last
    whole_fault fault p =
        l.then (by_fault fault given) last (rw e (form_fault (form kind option zs i) (value kind option zs i) given (asks kind option zs i given)
        (next kind option zs i given m) (shape kind option zs i given) fault
        (sound kind option zs i given) (value_refuses kind option (last_of given) 0 (get_or zs i 0)) p))

    pub whole_ended : EndsForm k (form kind option zs i) (value kind option zs i) (ends tt) now last → ReadsAs k all (ends given) old last
    whole_ended p = l.then (ends given) last (rw e (form_cut (form kind option zs i) (value kind option zs i) given (asks kind option zs i given)
        (next kind option zs i given m) (shape kind option zs i given) p))

    module _ (last_is : last_of given ≡ before) (plain : ((option == 0) || (option == uncoded kind.bits)) ≡ true → get_or zs i 0 ≡ 0) (v : ℕ) where
      pub whole_deep : kind.too_great (unmapped kind.bits before v) ≡ true → EndsForm k (form kind option zs i) (value kind option zs i) (got v) now last →
          ReadsAs k all (by_fault BadDepth given) old last
      whole_deep great p =
          l.then (by_fault BadDepth given) last (rw e (form_refused (form kind option zs i) (value kind option zs i) given (asks kind option zs i given)
          (next kind option zs i given m) (shape kind option zs i given) v bad_depth
          (sound kind option zs i given) (λ s good is. refused kind option zs i given before last_is plain v s good is great) p))

      pub whole_more : (j height : ℕ) (more : List ℕ) → j ≡ suc i → height ≡ unmapped kind.bits before v → kind.too_great height ≡ false →
          more ≡ given ++ height ∷ [] →
          EndsForm k (form kind option zs i) (value kind option zs i) (got v) now last → Leaves k all (in_turn (each kind option zs) j m more) old last
      whole_more j height more h f low g p = rw h (record {
        then = λ found end q. l.then found end (rw e
            (form_got (form kind option zs i) (value kind option zs i) given (asks kind option zs i given) (next kind option zs i given m)
            (shape kind option zs i given) v found
            (sound kind option zs i given) (λ s good is. accepted kind option zs i given before last_is plain v s good is (rw (← f) low)) p
            (λ s is. rw (is, last_is, ← f, ← g) q)));
      })

-- ---- bounds

module _ {most N height : ℕ} {too_great : ℕ → Bool} (b : IsBound most N too_great) (few : height < 2 ^ N) where
  pub bound_low : height ≤ most → too_great height ≡ false
  bound_low le = let t : nat_lt most height ≡ false = grind (arith, nat_tests) in b.at height few ∙ t

  pub bound_high : most < height → too_great height ≡ true
  bound_high lt = let t : nat_lt most height ≡ true = grind (arith, nat_tests) in b.at height few ∙ t

pub few_more : (xs : List ℕ) (h bound : ℕ) → h < bound → ((i : ℕ) → get_or xs i 0 < bound) → (i : ℕ) → get_or (xs ++ h ∷ []) i 0 < bound
few_more [] h bound lt few zero = lt
few_more [] h bound lt few (suc i) = omega (arith, lt)
few_more (x ∷ xs) h bound lt few zero = few 0
few_more (x ∷ xs) h bound lt few (suc i) = few_more xs h bound lt (λ j. few (suc j)) i

pub within_none : (N most : ℕ) → AreWithin N most []
within_none N most = record { few = λ i. pow_pos N; low = λ i. omega arith }

pub within_more : {N most : ℕ} (xs : List ℕ) (h : ℕ) → h < 2 ^ N → h ≤ most → AreWithin N most xs → AreWithin N most (xs ++ h ∷ [])
within_more {N} {most} xs h few low w = record {
  few = few_more xs h (2 ^ N) few w.few;
  low = λ i. (let p = few_more xs h (most + 1) (omega (arith, low)) (λ j. omega (arith, w.low j)) i in omega (arith, p));
}

bound_both : (xs ys : List ℕ) (bound : ℕ) → ((i : ℕ) → get_or xs i 0 < bound) → ((i : ℕ) → get_or ys i 0 < bound) → (i : ℕ) → get_or (xs ++ ys) i 0 < bound
bound_both [] ys bound p q i = q i
bound_both (x ∷ xs) ys bound p q zero = p 0
bound_both (x ∷ xs) ys bound p q (suc i) = bound_both xs ys bound (λ j. p (suc j)) q i

pub within_both : {N most : ℕ} (xs ys : List ℕ) → AreWithin N most xs → AreWithin N most ys → AreWithin N most (xs ++ ys)
within_both {N} {most} xs ys p q = record {
  few = bound_both xs ys (2 ^ N) p.few q.few;
  low = λ i. (let r = bound_both xs ys (most + 1) (λ j. omega (arith, p.low j)) (λ j. omega (arith, q.low j)) i in omega (arith, r));
}

-- ---- the zeros of several unary parts

module _ {I : Type 0} {k : SourceOf I} (given : List ℕ) (N option : ℕ) (all : Script (List ℕ) (List ℕ)) (m : ℕ) (zs : List ℕ) {old now : SourceState I}
    (l : Leaves k all (zeros_script given N option m zs) old now) where
  pub zeros_all : m ≡ 0 → IsIn now → ReadsAs k all (got zs) old now
  zeros_all none h = l.then (got zs) now (rw none (read_done zs now h))

  module _ (n : ℕ) (e : m ≡ suc n) {last : SourceState I} where
    pub zeros_fault : (fault : TextFault) → EndsForm k (zeros_form N option) (λ z. z) (by_fault fault tt) now last →
        ReadsAs k all (by_fault fault given) old last
    zeros_fault fault p = l.then (by_fault fault given) last
        (rw e (form_fault (zeros_form N option) (λ z. z) given (zeros_form N option) (λ z. zeros_script given N option n (zs ++ z ∷ [])) refl fault tt
        (λ z name r. r) p))

    pub zeros_ended : EndsForm k (zeros_form N option) (λ z. z) (ends tt) now last → ReadsAs k all (ends given) old last
    zeros_ended p = l.then (ends given) last (rw e (form_cut (zeros_form N option) (λ z. z) given (zeros_form N option)
        (λ z. zeros_script given N option n (zs ++ z ∷ [])) refl p))

    pub zeros_more : (z : ℕ) (ys : List ℕ) → ys ≡ zs ++ z ∷ [] → EndsForm k (zeros_form N option) (λ x. x) (got z) now last →
        Leaves k all (zeros_script given N option n ys) old last
    zeros_more z ys f p = record {
      then = λ found end q. l.then found end
          (rw e (form_got (zeros_form N option) (λ x. x) given (zeros_form N option) (λ x. zeros_script given N option n (zs ++ x ∷ [])) refl z found tt
          (λ x good is. good) p (λ x is. rw (is, ← f) q)));
    }

-- one element of a list is set
pub few_set : (zs : List ℕ) (i z bound : ℕ) → i < length zs → z < bound → ((j : ℕ) → get_or zs j 0 < bound) → (j : ℕ) → get_or (set zs i z) j 0 < bound
few_set zs i z bound lt below few j = at (eqb j i) refl
  where
    here : get_or (set zs i z) i 0 ≡ z
    here = get_or-set_same zs i z 0 lt

    other : (j ≡ i → ⊥) → get_or (set zs i z) j 0 ≡ get_or zs j 0
    other ne = get_or-set_other zs i j z 0 ne

    at : (t : Bool) → eqb j i ≡ t → get_or (set zs i z) j 0 < bound
    at t e = grind (arith, nat_tests, here, other, few)

-- ---- options of which each number is one item

pub is_plain : (N option : ℕ) → (option ≡ 0) ⊎ (option ≡ uncoded N) → ((option == 0) || (option == uncoded N)) ≡ true
is_plain N option p = grind (arith, nat_tests)

pub is_split : (N option : ℕ) → (option ≡ 0 → ⊥) → (option ≡ uncoded N → ⊥) → ((option == 0) || (option == uncoded N)) ≡ false
is_split N option p q = grind (arith, nat_tests)

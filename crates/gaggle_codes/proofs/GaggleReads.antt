-- The parts of a gaggle, as they are read.
use Rattle.std.specs.Prelude.{◌==◌, ◌||◌, not, replicate, max, if◌then◌else◌}
use Rattle.std.proofs.Common.{take, ◌≡◌, ℕ, suc, ◌+◌, ◌-◌, ◌*◌, ◌%◌, ◌≤◌, ◌^◌, min, List, [], ◌∷◌, true, false, ap, sym, ◌∙◌, subst, arith, length, get_or}
use Rattle.std.proofs.Common.{Some, None, Ok, Err}
use Rattle.std.proofs.lemmas.List.{take-replicate, length-take-le, length-replicate, get_or-replicate, get_or_past}
use Rattle.std.proofs.lemmas.Bool.Decides.{nat_tests}
use Rattle.item_defs.specs.Items.{fixed, bad_option, bad_depth}
use Rattle.bit_pipe.specs.declared.fault.InFault.{InFault}
use Rattle.bit_pipe.specs.declared.fault.TextFault.{TextFault}
use Rattle.bit_pipe.specs.Sources.{SourceOf}
use Rattle.bit_pipe.specs.SourceState.{SourceState, IsIn, EndsItem}
use Rattle.bit_pipe.specs.Faults.{of_input}
use Rattle.bit_pipe.proofs.Taking.{in_later}
use Rattle.number_defs.specs.Ranges.{negatives}
use Rattle.number_defs.specs.Gaggles.{Kind, identifier_bits, uncoded, is_option, reference_form}
use Rattle.item_defs.specs.Scripts.{done, in_turn}
use Rattle.bit_pipe.specs.ScriptSources.{Found, got, ends, refuses, ReadsAs, by_fault}
use Rattle.bit_pipe.proofs.ScriptReading.{read_done, read_then, read_cut, read_fault, ask_got, ask_refused, ask_ended, ask_failed}
use Rattle.number_defs.specs.NumberScript.{option_form, option_script, zeros_script, number_script, differences_script, lead_script, gaggle_script}
use Rattle.gaggle_codes.proofs.ValueReads.{each}

-- ---- the option

module _ {I : Type 0} {k : SourceOf I} (given : List ℕ) (N : ℕ) {a b : SourceState I} (w : ℕ) (is : w ≡ identifier_bits N) where
  pub option_failed : (e : InFault) → EndsItem k (fixed w) (Err e) a b → ReadsAs k (option_script given N) (by_fault (of_input e) given) a b
  option_failed e p = ask_failed given (option_form N) (λ option. done option) e (rw is at p)

  pub option_ended : EndsItem k (fixed w) (Ok None) a b → ReadsAs k (option_script given N) (ends given) a b
  option_ended p = ask_ended given (option_form N) (λ option. done option) (rw is at p)

  pub option_none : (n : ℕ) → is_option N n ≡ false → EndsItem k (fixed w) (Ok (Some n)) a b → ReadsAs k (option_script given N) (refuses given bad_option) a b
  option_none n e p = ask_refused given (option_form N) (λ option. done option) n bad_option tt (rw is at p)
      (ap (λ t. if not t then Some bad_option else None) e)

  pub option_got : (n : ℕ) → IsIn a → is_option N n ≡ true → EndsItem k (fixed w) (Ok (Some n)) a b → ReadsAs k (option_script given N) (got n) a b
  option_got n h e p = ask_got given (option_form N) (λ option. done option) n (got n) tt (rw is at p) (ap (λ t. if not t then Some bad_option else None) e)
      (read_done n b (in_later h p.1))

-- ---- the first number

module _ {I : Type 0} {k : SourceOf I} (kind : Kind) {a b : SourceState I} where
  pub reference_failed : (e : InFault) → EndsItem k (fixed kind.bits) (Err e) a b → ReadsAs k (lead_script kind 0 []) (by_fault (of_input e) []) a b
  reference_failed e p = ask_failed [] (reference_form kind) (λ c. done ((c + negatives kind.signed kind.bits) % 2 ^ kind.bits ∷ [])) e p

  pub reference_ended : EndsItem k (fixed kind.bits) (Ok None) a b → ReadsAs k (lead_script kind 0 []) (ends []) a b
  reference_ended p = ask_ended [] (reference_form kind) (λ c. done ((c + negatives kind.signed kind.bits) % 2 ^ kind.bits ∷ [])) p

  module _ (n height : ℕ) (is : height ≡ (n + negatives kind.signed kind.bits) % 2 ^ kind.bits) (p : EndsItem k (fixed kind.bits) (Ok (Some n)) a b) where
    pub reference_great : kind.too_great height ≡ true → ReadsAs k (lead_script kind 0 []) (refuses [] bad_depth) a b
    reference_great great = ask_refused [] (reference_form kind) (λ c. done ((c + negatives kind.signed kind.bits) % 2 ^ kind.bits ∷ [])) n bad_depth tt p
        (ap (λ t. if t then Some bad_depth else None) (ap kind.too_great (sym is) ∙ great))

    pub reference_got : (now : List ℕ) → IsIn a → kind.too_great height ≡ false → now ≡ height ∷ [] → ReadsAs k (lead_script kind 0 []) (got now) a b
    reference_got now h low e = rw (e, is) (ask_got [] (reference_form kind) (λ c. done ((c + negatives kind.signed kind.bits) % 2 ^ kind.bits ∷ [])) n
        (got ((n + negatives kind.signed kind.bits) % 2 ^ kind.bits ∷ [])) tt p
        (ap (λ t. if t then Some bad_depth else None) (ap kind.too_great (sym is) ∙ low)) (read_done _ b (in_later h p.1)))

-- ---- the numbers after it

pub zero_at : (n j : ℕ) → get_or (replicate {A = ℕ} n 0) j 0 ≡ 0
zero_at n j = grind (arith, nat_tests, get_or-replicate, get_or_past, replicate, length-replicate)

module _ {I : Type 0} {k : SourceOf I} (kind : Kind) (option count : ℕ) (given : List ℕ) {a b : SourceState I} where
  pub differences_plain : (zs : List ℕ) (found : Found (List ℕ) (List ℕ)) → ((option == 0) || (option == uncoded kind.bits)) ≡ true → zs ≡ replicate count 0 →
      ReadsAs k (in_turn (each kind option zs) 0 (length zs) given) found a b → ReadsAs k (differences_script kind option count given) found a b
  differences_plain zs found t e p = rw t (subst (λ s. ReadsAs k s found a b) same p)
    where
      at : (j : ℕ) → get_or zs j 0 ≡ 0
      at j = ap (λ l. get_or l j 0) e ∙ zero_at count j

      long : length zs ≡ count
      long = ap length e ∙ length-replicate count 0

      same : in_turn (each kind option zs) 0 (length zs) given ≡ in_turn (λ i. number_script kind option 0) 0 count given
      same = (λ x. in_turn (λ j. number_script kind option (at j x)) 0 (length zs) given) ∙ ap (λ n. in_turn (λ i. number_script kind option 0) 0 n given) long

  module _ (t : ((option == 0) || (option == uncoded kind.bits)) ≡ false) where
    pub differences_cut : ReadsAs k (zeros_script given kind.bits option count []) (ends given) a b →
        ReadsAs k (differences_script kind option count given) (ends given) a b
    differences_cut p = rw t (read_cut _ _ given p)

    pub differences_fault : (fault : TextFault) → ReadsAs k (zeros_script given kind.bits option count []) (by_fault fault given) a b →
        ReadsAs k (differences_script kind option count given) (by_fault fault given) a b
    differences_fault fault p = rw t (read_fault _ _ given fault p)

    pub differences_split : (zs : List ℕ) (found : Found (List ℕ) (List ℕ)) {c : SourceState I} → length zs ≡ count →
        ReadsAs k (zeros_script given kind.bits option count []) (got zs) a b →
        ReadsAs k (in_turn (each kind option zs) 0 (length zs) given) found b c → ReadsAs k (differences_script kind option count given) found a c
    differences_split zs found long p q = rw t (read_then _ _ zs found p (rw long at q))

pub take_zeros : (n : ℕ) → n ≤ 16 → take {A = ℕ} n (replicate 16 0) ≡ replicate n 0
take_zeros n le = take-replicate n 16 0 le

pub long_zeros : (n : ℕ) → n ≤ 16 → length (take {A = ℕ} n (replicate 16 0)) ≡ n
long_zeros n le = length-take-le n (replicate {A = ℕ} 16 0) (omega arith)

pub none_set : (n j : ℕ) → n ≤ 16 → get_or (take {A = ℕ} n (replicate 16 0)) j 0 ≡ 0
none_set n j le = ap (λ l. get_or l j 0) (take_zeros n le) ∙ zero_at n j

-- ---- a gaggle

module _ {I : Type 0} {k : SourceOf I} (kind : Kind) (all g : ℕ) (given : List ℕ) {a b : SourceState I} where
  pub gaggle_fault : (fault : TextFault) → ReadsAs k (option_script given kind.bits) (by_fault fault given) a b →
      ReadsAs k (gaggle_script kind all g given) (by_fault fault given) a b
  gaggle_fault fault p = read_fault _ _ given fault p

  pub gaggle_cut : ReadsAs k (option_script given kind.bits) (ends given) a b → ReadsAs k (gaggle_script kind all g given) (ends given) a b
  gaggle_cut p = read_cut _ _ given p

module _ {I : Type 0} {k : SourceOf I} (kind : Kind) (all size : ℕ) {a b : SourceState I} where
  -- a further gaggle
  pub gaggle_next : (g : ℕ) (given : List ℕ) (option : ℕ) (found : Found (List ℕ) (List ℕ)) {c : SourceState I} → min all (16 * suc g + 16) - 16 * suc g
      ≡ size →
      ReadsAs k (option_script given kind.bits) (got option) a b → ReadsAs k (differences_script kind option size given) found b c →
      ReadsAs k (gaggle_script kind all (suc g) given) found a c
  gaggle_next g given option found {c} is p q =
      let e : min all (16 * suc g + 16) - max (16 * suc g) 1 ≡ size = omega (arith, is) in
      read_then _ _ option found p (rw e q)

  -- the first gaggle
  module _ (option : ℕ) (p : ReadsAs k (option_script {G = List ℕ} [] kind.bits) (got option) a b) {c : SourceState I} where
    pub first_fault : (fault : TextFault) → ReadsAs k (lead_script kind 0 []) (by_fault fault []) b c →
        ReadsAs k (gaggle_script kind all 0 []) (by_fault fault []) a c
    first_fault fault q = read_then _ _ option (by_fault fault []) p (read_fault (lead_script kind 0 []) (differences_script kind option (min all 16 - 1))
        [] fault q)

    pub first_cut : ReadsAs k (lead_script kind 0 []) (ends []) b c → ReadsAs k (gaggle_script kind all 0 []) (ends []) a c
    first_cut q = read_then _ _ option (ends []) p (read_cut (lead_script kind 0 []) (differences_script kind option (min all 16 - 1)) [] q)

    pub first_read : (now : List ℕ) (found : Found (List ℕ) (List ℕ)) {d : SourceState I} → min all 16 ≡ size →
        ReadsAs k (lead_script kind 0 []) (got now) b c →
        ReadsAs k (differences_script kind option (size - 1) now) found c d →
        ReadsAs k (gaggle_script kind all 0 []) found a d
    first_read now found is q r = read_then _ _ option found p (read_then (lead_script kind 0 []) (differences_script kind option (min all 16 - 1)) now
        found q (rw is r))

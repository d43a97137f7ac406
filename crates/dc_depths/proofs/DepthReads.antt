-- The block depths, as they are read.
use Rattle.std.specs.Prelude.{◌==◌, replicate}
use Rattle.std.proofs.Common.{◌≡◌, ℕ, suc, ◌-◌, ◌*◌, ◌<◌, ◌≤◌, ◌++◌, ◌∷◌, [], ℤ, pos, List, length, Bool, true, false, refl, sym, ap, ◌∙◌, arith, inl, inr}
use Rattle.std.proofs.Common.{Some, None, Ok, Err, set, Result, nat_lt, get_or, length-append, length-set}
use Rattle.std.proofs.lemmas.Int.{ints}
use Rattle.std.proofs.lemmas.Bool.{cases_lt}
use Rattle.std.proofs.lemmas.Bool.Decides.{nat_tests}
use Rattle.std.proofs.lemmas.List.{get_or-set_same, get_or-set_other, get_or_append_left, get_or_past}
use Rattle.std.proofs.Math.Seq.{get_or-append_seam}
use Rattle.std.specs.Int.{div_ceil}
use Rattle.item_defs.specs.Items.{fixed}
use Rattle.bit_pipe.specs.declared.fault.InFault.{InFault}
use Rattle.bit_pipe.specs.declared.fault.Part.{Part}
use Rattle.bit_pipe.specs.declared.fault.Part.TheVariants.{Whole, Ended}
use Rattle.bit_pipe.specs.declared.fault.TextFault.{TextFault}
use Rattle.bit_pipe.specs.Faults.{of_input}
use Rattle.bit_pipe.specs.Sources.{SourceOf}
use Rattle.bit_pipe.specs.SourceState.{SourceState, IsIn, EndsItem}
use Rattle.number_defs.specs.Depths.{depth_kind}
use Rattle.item_defs.specs.Scripts.{Script, done, ask, in_turn, bit_form}
use Rattle.bit_pipe.specs.ScriptSources.{got, ends, by_fault}
use Rattle.bit_pipe.proofs.ScriptReading.{read_done, ask_got, ask_ended, ask_failed, Leaves, leaves_all}
use Rattle.number_defs.specs.DepthScript.{raw_depths_script}
use Rattle.gaggle_codes.specs.Cells.{TakesNumbers, given_number}
use Rattle.dc_depths.specs.Depths.{TakesDepths}
use Rattle.dc_depths.proofs.DcReads.{part_of, numbers_part}
use Rattle.gaggle_codes.proofs.GaggleReads.{zero_at}

-- nothing is sent
pub no_depths : {I : Type 0} {k : SourceOf I} (depth_ac : ℕ) (a : SourceState I) (now : List ℤ) → depth_ac ≡ 0 → IsIn a →
    ((i : ℕ) → get_or now i (pos 0) ≡ pos 0) → TakesDepths k depth_ac (Ok Whole) a a now
no_depths depth_ac a now e h none = rw e (record {
  given = replicate (length now) 0;
  read = read_done (replicate (length now) 0) a h;
  low = λ i. rw (zero_at (length now) i) (omega arith);
  marks = λ i lt. none i ∙ ap pos (sym (zero_at (length now) i));
})

-- ---- a bit for each

abbrev pub raw_of : ℕ → List ℕ → Script (List ℕ) (List ℕ)
raw_of r depths = ask depths bit_form (λ b. done (depths ++ b ∷ []))

pub record RawSoFar {I : Type 0} (k : SourceOf I) (i : ℕ) (old new : SourceState I) (now : List ℤ) : Type 0 where
  pub given : List ℕ
  pub long : length given ≡ i
  pub low : (j : ℕ) → get_or given j 0 ≤ 1
  pub marks : (j : ℕ) → get_or now j (pos 0) ≡ pos (get_or given j 0)
  pub left : Leaves k (raw_depths_script (length now)) (in_turn raw_of i (length now - i) given) old new

-- one element more
one_more : (xs : List ℕ) (h : ℕ) → get_or (xs ++ h ∷ []) (length xs) 0 ≡ h
one_more xs h = get_or-append_seam xs h [] 0

elsewhere : (xs : List ℕ) (h j : ℕ) → (j ≡ length xs → ⊥) → get_or (xs ++ h ∷ []) j 0 ≡ get_or xs j 0
elsewhere xs h j ne = elim (cases_lt j (length xs)) [
  | inl lt ↦ get_or_append_left xs (h ∷ []) 0 j lt
  | inr ge ↦ get_or_past (xs ++ h ∷ []) j 0 (omega (arith, ge, ne, length-append xs (h ∷ []))) ∙ sym (get_or_past xs j 0 ge)
]

module _ {I : Type 0} {k : SourceOf I} where
  pub raw_start : (a : SourceState I) (now : List ℤ) → ((i : ℕ) → get_or now i (pos 0) ≡ pos 0) → RawSoFar k 0 a a now
  raw_start a now none = let e : length now - 0 ≡ length now = omega arith in record {
    given = [];
    long = refl;
    low = λ j. omega arith;
    marks = none;
    left =
        rw e (leaves_all (raw_depths_script (length now)) a);
  }

  module _ (i : ℕ) {a b : SourceState I} {now : List ℤ} (s : RawSoFar k i a b now) where
    pub raw_all : IsIn b → length now ≤ i → TakesDepths k 1 (Ok Whole) a b now
    raw_all h le = let none : length now - i ≡ 0 = omega arith in record {
      given = s.given;
      read =
          s.left.then (got s.given) b (rw none (read_done s.given b h));
      low = s.low;
      marks = λ j lt. s.marks j;
    }

    module _ (lt : i < length now) where
      left_is : length now - i ≡ suc (length now - suc i)
      left_is = omega arith

      abbrev next : ℕ → Script (List ℕ) (List ℕ)
      next n = in_turn raw_of (suc i) (length now - suc i) (s.given ++ n ∷ [])

      module _ {c : SourceState I} where
        pub raw_ended : EndsItem k (fixed 1) (Ok None) b c → TakesDepths k 1 (Ok Ended) a c now
        raw_ended p = record {
          given = s.given;
          read = s.left.then (ends s.given) c (rw left_is (ask_ended s.given bit_form next p));
          low = s.low;
          marks =
              λ j lt. s.marks j;
        }

        pub raw_failed : (e : InFault) → EndsItem k (fixed 1) (Err e) b c → TakesDepths k 1 (Err (of_input e)) a c now
        raw_failed e p = record {
          given = s.given;
          read = s.left.then (by_fault (of_input e) s.given) c (rw left_is (ask_failed s.given bit_form next e p));
          low = s.low;
          marks = λ j lt. s.marks j;
        }

        pub raw_more : (j n : ℕ) → j ≡ suc i → n < 2 → EndsItem k (fixed 1) (Ok (Some n)) b c → RawSoFar k j a c (set now i (pos n))
        raw_more j n h small p = record {
          given = s.given ++ n ∷ [];
          long = omega (arith, h, s.long, length-append s.given (n ∷ []));
          low = λ m. either m (m == i) refl;
          marks = λ m. mark m (m == i) refl;
          left = rw (h, length-set now i (pos n)) (record {
            then =
                λ f last q. s.left.then f last (rw left_is (ask_got s.given bit_form next n f tt p refl q));
          });
        }
          where
            new : get_or (s.given ++ n ∷ []) i 0 ≡ n
            new = ap (λ m. get_or (s.given ++ n ∷ []) m 0) (sym s.long) ∙ one_more s.given n

            either : (m : ℕ) (t : Bool) → (m == i) ≡ t → get_or (s.given ++ n ∷ []) m 0 ≤ 1
            either m true e = let same : m ≡ i = grind (arith, nat_tests) in rw (same, new) (omega (arith, small))
            either m false e = let other : m ≡ length s.given → ⊥ =
                (λ q. let r : m ≡ i → ⊥ = grind (arith, nat_tests) in r (q ∙ s.long)) in rw (elsewhere s.given n m other) (s.low m)

            mark : (m : ℕ) (t : Bool) → (m == i) ≡ t → get_or (set now i (pos n)) m (pos 0) ≡ pos (get_or (s.given ++ n ∷ []) m 0)
            mark m true e = let same : m ≡ i = grind (arith, nat_tests) in rw (same, new) (get_or-set_same now i (pos n) (pos 0) lt)
            mark m false e =
                let apart : m ≡ i → ⊥ = grind (arith, nat_tests) in
                get_or-set_other now i m (pos n) (pos 0) apart ∙ s.marks m ∙ ap pos (sym (elsewhere s.given n m (λ q. apart (q ∙ s.long))))

-- ---- numbers by differences

module _ {I : Type 0} {k : SourceOf I} {r : Result (Part × ℕ) TextFault} {a b : SourceState I} {before now : List ℤ} (depth_ac N : ℕ) (low : 2 ≤ depth_ac)
    (size : length now ≡ length before)
    (t : TakesNumbers k (depth_kind depth_ac) (record { signed = false; bits = N }) depth_ac 0 1 r a b before now) where
  mark_is : (hs : List ℕ) (i : ℕ) → given_number (record { signed = false; bits = N }) 0 hs i ≡ pos (get_or hs i 0)
  mark_is hs i = elim (cases_lt i (length hs)) [
    | inl lt ↦ let t : nat_lt i (length hs) ≡ true = grind (arith, nat_tests) in rw t (omega (arith, ints))
    | inr ge ↦ let t : nat_lt i (length hs) ≡ false = grind (arith, nat_tests) in rw t (ap pos (sym (get_or_past hs i 0 ge)))
  ]

  pub coded_depths : TakesDepths k depth_ac (part_of r) a b now
  coded_depths =
      let z : (depth_ac == 0) ≡ false = grind (arith, nat_tests) in
      let o : (depth_ac == 1) ≡ false = grind (arith, nat_tests) in
      let count : div_ceil (length before) 1 ≡ length now = omega (arith, size) in
      record {
        given = t.given;
        read = rw (z, o) (rw (numbers_part r t.given, count) at t.read);
        low = t.within.low;
        marks = λ i lt.
            let place : i * 1 ≡ i = omega arith in
            ap (λ j. get_or now j (pos 0)) (sym place) ∙ t.cells.numbers i (omega (arith, lt, size)) ∙ mark_is t.given i;
      }

-- The DC part, as it is read.
use Rattle.std.specs.Prelude.{◌==◌}
use Rattle.std.proofs.Common.{◌≡◌, ℕ, zero, suc, ◌+◌, ◌-◌, ◌*◌, ◌^◌, ◌<◌, ◌≤◌, ℤ, pos, ◌+ℤ◌, ◌*ℤ◌, neg_ℤ, List, [], ◌++◌, length, Bool, true, false, refl, sym}
use Rattle.std.proofs.Common.{ap, ◌∙◌, arith, inl, inr, length-set, unsigned_abs, Some, None, Ok, Err, set, Result, nat_lt, get_or, mul-le-mul_right}
use Rattle.std.proofs.Common.{cond, pow-add, pow_mono}
use Rattle.std.proofs.lemmas.Int.{ints, unsigned_abs-mul}
use Rattle.std.proofs.lemmas.Bool.{cases_eq}
use Rattle.std.proofs.lemmas.Bool.Decides.{nat_tests}
use Rattle.std.proofs.lemmas.List.{get_or-set_same, get_or-set_other}
use Rattle.item_defs.specs.Items.{fixed, bad_option, bad_delta, bad_depth, false_flag}
use Rattle.bit_pipe.specs.declared.fault.InFault.{InFault}
use Rattle.bit_pipe.specs.declared.fault.InFault.TheVariants as inputs
use Rattle.bit_pipe.specs.declared.fault.Part.{Part}
use Rattle.bit_pipe.specs.declared.fault.Part.TheVariants.{Whole, Ended}
use Rattle.bit_pipe.specs.declared.fault.TextFault.{TextFault}
use Rattle.bit_pipe.specs.declared.fault.TextFault.TheVariants as texts
use Rattle.bit_pipe.specs.Faults.{of_input}
use Rattle.bit_pipe.specs.Sources.{SourceOf}
use Rattle.bit_pipe.specs.SourceState.{SourceState, IsIn, EndsItem}
use Rattle.number_defs.specs.Ranges.{number_at}
use Rattle.number_defs.specs.Cells.{cell_at}
use Rattle.number_defs.specs.DcPart.{dc_q, dc_bits, dc_planes, dc_kind}
use Rattle.number_defs.proofs.Heights.{negatives_fit}
use Rattle.item_defs.specs.Scripts.{Script, done, ask, in_turn, around, bit_form}
use Rattle.item_defs.proofs.ScriptYields.{yields_any, whole_read}
use Rattle.bit_pipe.specs.ScriptSources.{got, ends, refuses, fails, Says, ReadsAs, by_fault, by_part}
use Rattle.bit_pipe.proofs.ScriptReading.{read_done, read_then, read_cut, read_fault, ask_got, ask_ended, ask_failed, Leaves, leaves_all, read_in}
use Rattle.number_defs.specs.NumberScript.{numbers_script}
use Rattle.number_defs.specs.DcScript.{with_dc, dc_script}
use Rattle.number_defs.specs.DcLows.{DcGiven, no_dcs, with_dc_given, dc_bits_given, dcs_given, high_given, dc_planes_given, dc_given}
use Rattle.number_defs.specs.ScriptLaws.{AreCounted, AreLow}
use Rattle.number_defs.proofs.NumberLaws.{number_laws}
use Rattle.number_defs.proofs.DcsGiven.{dcs_are_given}
use Rattle.gaggle_codes.specs.Cells.{TakesNumbers, by_numbers, IsCounted}
use Rattle.dc_depths.specs.Dcs.{block_count, SetsDcs, TakesDcs, HasRoom, GrowsBy}
use Rattle.dc_depths.specs.declared.reach.DcReach.{DcReach}
use Rattle.dc_depths.specs.Reach.{AreGivenTo, all_to, by_reach, IsAllTo, IsReached, ReachesDcs}
use Rattle.dc_depths.proofs.DcCells.{dcs_set}
use Rattle.dc_depths.proofs.Lows.{reach_at, one_low, high_lows, next_plane}

-- ---- a bit of each

-- the bit of a block
abbrev pub bit_of : ℤ → (plane : ℕ) → ℕ → DcGiven → Script DcGiven DcGiven
bit_of weight plane r g = ask g bit_form (λ b. done (with_dc_given g r (g.dcs r +ℤ (pos b *ℤ weight)) plane))

-- the bits of the first blocks were read
pub record BitsSoFar {I : Type 0} (k : SourceOf I) (weight : ℤ) (q plane count i : ℕ) (before : DcGiven) (old new : SourceState I) (first now : List ℤ) :
    Type 0 where
  pub given : DcGiven
  pub left : Leaves k (dc_bits_given weight plane count before) (in_turn (bit_of weight plane) i (count - i) given) old new
  pub cells : SetsDcs given.dcs first now
  pub lows : AreGivenTo q count (reach_at plane i) given.lows

here_there : (dcs : ℕ → ℤ) (i : ℕ) (z : ℤ) → with_dc dcs i z i ≡ z
here_there dcs i z = let t : (i == i) ≡ true = grind (arith, nat_tests) in rw t refl

not_there : (dcs : ℕ → ℤ) (i : ℕ) (z : ℤ) (r : ℕ) → (r ≡ i → ⊥) → with_dc dcs i z r ≡ dcs r
not_there dcs i z r ne = let t : (r == i) ≡ false = grind (arith, nat_tests) in rw t refl

module _ {I : Type 0} {k : SourceOf I} (weight : ℤ) (q plane : ℕ) (before : DcGiven) {first : List ℤ} where
  pub bits_start : (a : SourceState I) (now : List ℤ) → SetsDcs before.dcs first now → AreGivenTo q (block_count first) (all_to plane 0) before.lows →
      BitsSoFar k weight q plane (block_count first) 0 before a a first now
  bits_start a now s lows =
      let e : block_count first - 0 ≡ block_count first = omega arith in
      record { given = before; left = rw e (leaves_all (dc_bits_given weight plane (block_count first) before) a); cells = s; lows = lows }

  module _ (i : ℕ) (lt : i < block_count first) {a b : SourceState I} {now : List ℤ}
      (s : BitsSoFar k weight q plane (block_count first) i before a b first now) where
    left_is : block_count first - i ≡ suc (block_count first - suc i)
    left_is = omega (arith, lt)

    abbrev dc_with : ℕ → ℤ
    dc_with n = s.given.dcs i +ℤ (pos n *ℤ weight)

    abbrev next : ℕ → Script DcGiven DcGiven
    next n = in_turn (bit_of weight plane) (suc i) (block_count first - suc i) (with_dc_given s.given i (dc_with n) plane)

    pub bits_ended : {c : SourceState I} (n : ℕ) → n ≡ i → EndsItem k (fixed 1) (Ok None) b c →
        ReachesDcs k (dc_bits_given weight plane (block_count first) before) q plane (Ok (Ended, reach_at plane n)) a c first now
    bits_ended {c} n is p = record {
      given = s.given;
      read = s.left.then (ends s.given) c (rw left_is (ask_ended s.given bit_form next p));
      cells = s.cells;
      reached = (rw is s.lows, tt);
    }

    pub bits_failed : {c : SourceState I} (e : InFault) → EndsItem k (fixed 1) (Err e) b c →
        ReachesDcs k (dc_bits_given weight plane (block_count first) before) q plane (Err (of_input e)) a c first now
    bits_failed {c} e p = record {
      given = s.given;
      read = s.left.then (by_fault (of_input e) s.given) c (rw left_is (ask_failed s.given bit_form next e p));
      cells = s.cells;
      reached = tt;
    }

    pub bits_more : {c : SourceState I} (j n : ℕ) (z : ℤ) → j ≡ suc i → i * 64 < length first → z ≡ pos n *ℤ weight → EndsItem k (fixed 1) (Ok (Some n)) b c →
        BitsSoFar k weight q plane (block_count first) j before a c first (set now (i * 64) (cell_at 64 now i +ℤ z))
    bits_more {c} j n z h within e p = rw h (record {
      given = with_dc_given s.given i (dc_with n) plane;
      left = record { then = λ f last r. s.left.then f last (rw left_is (ask_got s.given bit_form next n f tt p refl r)) };
      cells = dcs_set s.given.dcs (with_dc s.given.dcs i (dc_with n)) i (cell_at 64 now i +ℤ z) within
          (here_there s.given.dcs i (dc_with n) ∙ ap (λ x. x +ℤ (pos n *ℤ weight)) (sym (s.cells.dcs i within)) ∙ ap (λ x. cell_at 64 now i +ℤ x) (sym e))
          (λ r ne. not_there s.given.dcs i (dc_with n) r ne) s.cells;
      lows = one_low q plane (block_count first) i s.given (dc_with n) s.lows;
    })

  pub bits_all : (i n : ℕ) {a b : SourceState I} {now : List ℤ} → i ≡ block_count first → n ≡ i → IsIn b →
      BitsSoFar k weight q plane (block_count first) i before a b first now →
      ReachesDcs k (dc_bits_given weight plane (block_count first) before) q plane (Ok (Whole, reach_at plane n)) a b first now
  bits_all i n {b = b} e is h s =
      let none : block_count first - i ≡ 0 = omega (arith, e) in
      record {
        given = s.given;
        read = s.left.then (got s.given) b (rw none (read_done s.given b h));
        cells = s.cells;
        reached = (rw is s.lows, ap (reach_at plane) (is ∙ e));
      }

-- the bits of a plane
abbrev pub plane_of : (q count i : ℕ) → DcGiven → Script DcGiven DcGiven
plane_of q count i = dc_bits_given (pos (2 ^ (q - suc i))) (q - suc i) count

-- ---- how much DCs grow

abs_sum : (x y : ℤ) → unsigned_abs (x +ℤ y) ≤ unsigned_abs x + unsigned_abs y
abs_sum x y = omega (arith, ints)

bit_abs : (n : ℕ) (w : ℤ) → n < 2 → unsigned_abs (pos n *ℤ w) ≤ unsigned_abs w
bit_abs zero w lt = omega (arith, ints)
bit_abs (suc zero) w lt = omega (arith, ints)
bit_abs (suc (suc n)) w lt = absurd (omega arith)

-- the first DCs may have grown, and the others are as they were
pub record GrewTo (weight i : ℕ) (old new : List ℤ) : Type 0 where
  pub size : length new ≡ length old
  pub grown : GrowsBy weight old new
  pub same : (r : ℕ) → i ≤ r → cell_at 64 new r ≡ cell_at 64 old r

pub grew_start : (weight : ℕ) (now : List ℤ) → GrewTo weight 0 now now
grew_start weight now = record { size = refl; grown = record { at = λ r lt. omega arith }; same = λ r le. refl }

module _ (w : ℤ) (i n : ℕ) (z : ℤ) {old now : List ℤ} (within : i * 64 < length old) (small : n < 2) (e : z ≡ pos n *ℤ w)
    (s : GrewTo (unsigned_abs w) i old now) where
  sum_here : unsigned_abs (cell_at 64 now i +ℤ z) ≤ unsigned_abs (cell_at 64 old i) + unsigned_abs w
  sum_here = omega (arith, abs_sum (cell_at 64 now i) z, ap unsigned_abs e, bit_abs n w small, ap unsigned_abs (s.same i (omega arith)))

  pub grew_fits : HasRoom (unsigned_abs w) old → unsigned_abs (cell_at 64 now i +ℤ z) < 2147483648
  grew_fits room = omega (arith, sum_here, room.at i within)

  pub grew_more : GrewTo (unsigned_abs w) (i + 1) old (set now (i * 64) (cell_at 64 now i +ℤ z))
  grew_more = record {
    size = grind (arith, s.size, length-set);
    grown = record {
      at = λ r lt. elim (cases_eq r i) [
        | inl here ↦ rw (here, get_or-set_same now (i * 64) (cell_at 64 now i +ℤ z) (pos 0) (omega (arith, within, s.size))) sum_here
        | inr ne ↦ rw (get_or-set_other now (i * 64) (r * 64) (cell_at 64 now i +ℤ z) (pos 0) (λ q. ne (omega (arith, q)))) (s.grown.at r lt)
      ];
    };
    same = λ r le. get_or-set_other now (i * 64) (r * 64) (cell_at 64 now i +ℤ z) (pos 0) (λ q. omega (arith, q, le)) ∙ s.same r (omega (arith, le));
  }

-- ---- the numbers

module _ {I : Type 0} {k : SourceOf I} (N q : ℕ) {a b : SourceState I} {before now : List ℤ} where
  pub raw_high : {result : Result (Part × DcReach) TextFault} → N ≡ 1 →
      ReachesDcs k (dc_bits_given (neg_ℤ (pos (2 ^ q))) q (block_count before) no_dcs) q q result a b before now →
      ReachesDcs k (high_given N q (block_count before)) q q result a b before now
  raw_high {result} one t = let e : (N == 1) ≡ true = grind (arith, nat_tests) in rw e t

abbrev pub part_of : Result (Part × ℕ) TextFault → Result Part TextFault
part_of (Ok p) = Ok p.0
part_of (Err fault) = Err fault

pub numbers_part : (r : Result (Part × ℕ) TextFault) (given : List ℕ) → by_numbers r given ≡ by_part (part_of r) given given
numbers_part (Ok p) given = refl
numbers_part (Err fault) given = refl

abbrev pub without_reach : Result (Part × DcReach) TextFault → Result Part TextFault
without_reach (Ok p) = Ok p.0
without_reach (Err fault) = Err fault

pub reach_part : (r : Result (Part × DcReach) TextFault) (given : DcGiven) → by_reach r given ≡ by_part (without_reach r) given given
reach_part (Ok p) given = refl
reach_part (Err fault) given = refl

module _ {I S T : Type 0} {k : SourceOf I} (put : S → T) (s : Script S S) (given : S) {a b : SourceState I} where
  pub around_part : (result : Result Part TextFault) → ReadsAs k s (by_part result given given) a b →
      ReadsAs k (around put s) (by_part result (put given) (put given)) a b
  around_part (Ok Whole) p = read_in put s (got given) p
  around_part (Ok Ended) p = read_in put s (ends given) p
  around_part (Err texts.BadOption) p = read_in put s (refuses given bad_option) p
  around_part (Err texts.BadDelta) p = read_in put s (refuses given bad_delta) p
  around_part (Err texts.BadDepth) p = read_in put s (refuses given bad_depth) p
  around_part (Err texts.FalseFlag) p = read_in put s (refuses given false_flag) p
  around_part (Err texts.ReadFault) p = read_in put s (fails given inputs.ReadFault) p
  around_part (Err texts.LongInput) p = read_in put s (fails given inputs.LongInput) p
  around_part (Err texts.Broken) p = read_in put s (fails given inputs.Broken) p

-- how far numbers are given that were taken
abbrev pub at_q : (q : ℕ) → Result (Part × ℕ) TextFault → Result (Part × DcReach) TextFault
at_q q (Ok p) = Ok (p.0, reach_at q p.1)
at_q q (Err fault) = Err fault

reach_same : (q : ℕ) (r : Result (Part × ℕ) TextFault) (given : DcGiven) → by_reach (at_q q r) given ≡ by_part (part_of r) given given
reach_same q (Ok p) given = refl
reach_same q (Err fault) given = refl

-- all of them are there if they are read whole
whole_count : (N count : ℕ) (bits : List Bool) (heights : List ℕ) → Says (numbers_script (dc_kind N) count) bits (got heights) → length heights ≡ count
whole_count N count bits heights says =
    let s = numbers_script (dc_kind N) count in
    let Q = λ (hs : List ℕ). AreCounted (2 ^ N) count hs × AreLow (dc_kind N) hs in
    (whole_read (λ g. Unit {0}) Q s (yields_any Q s (number_laws.ends (dc_kind N) count)) (bits ++ []) [] heights (says [])).0.long

module _ {I : Type 0} {k : SourceOf I} (N q most : ℕ) (two : 2 ≤ N) {r : Result (Part × ℕ) TextFault} {a b : SourceState I} {before now : List ℤ}
    (t : TakesNumbers k (dc_kind N) (record { signed = true; bits = N }) most q 64 r a b before now) where
  reached_high : (r : Result (Part × ℕ) TextFault) → IsCounted r (length t.given) →
      ReadsAs k (numbers_script (dc_kind N) (block_count before)) (by_numbers r t.given) a b →
      IsReached q q (block_count before) (at_q q r) (dcs_given N q t.given)
  reached_high (Ok p) counted read = (
    rw counted (high_lows N q (block_count before) t.given),
    all p.0 read,
  )
    where
      all : (part : Part) → ReadsAs k (numbers_script (dc_kind N) (block_count before)) (by_part (Ok part) t.given t.given) a b →
          IsAllTo q (block_count before) part (reach_at q p.1)
      all Whole read = ap (reach_at q) (counted ∙ whole_count N (block_count before) read.bits t.given read.says)
      all Ended read = tt
  reached_high (Err fault) counted read = tt

  pub coded_high : ReachesDcs k (high_given N q (block_count before)) q q (at_q q r) a b before now
  coded_high =
      let e : (N == 1) ≡ false = grind (arith, nat_tests) in
      record {
        given = dcs_given N q t.given;
        read = rw (e, reach_same q r (dcs_given N q t.given)) (around_part (dcs_given N q) (numbers_script (dc_kind N) (block_count before)) t.given (part_of r)
            (rw (numbers_part r t.given) at t.read));
        cells = record { size = t.cells.size; dcs = t.cells.numbers; others = t.cells.others };
        reached = reached_high r t.counted t.read;
      }

  number_abs : (h : ℕ) → h < 2 ^ N → unsigned_abs (number_at true N h) ≤ 2 ^ N
  number_abs h lt = let n = negatives_fit true N in omega (arith, ints, n, lt)

  pub coded_room : N + q ≤ 28 → HasRoom 1073741824 now
  coded_room both = record { at = λ m within. rw (t.cells.numbers m (omega (arith, within, t.cells.size))) (small m (nat_lt m (length t.given))) }
    where
      small : (m : ℕ) (given : Bool) → unsigned_abs (cond given (number_at true N (get_or t.given m 0) *ℤ pos (2 ^ q)) (pos 0)) + 1073741824 < 2147483648
      small m false = omega (arith, ints)
      small m true =
          let x = number_at true N (get_or t.given m 0) in
          let parts : unsigned_abs (x *ℤ pos (2 ^ q)) ≡ unsigned_abs x * 2 ^ q = unsigned_abs-mul x (pos (2 ^ q)) in
          let size = number_abs (get_or t.given m 0) (t.within.few m) in
          let scaled : unsigned_abs x * 2 ^ q ≤ 2 ^ N * 2 ^ q = mul-le-mul_right (2 ^ q) size in
          let whole : 2 ^ (N + q) ≡ 2 ^ N * 2 ^ q = pow-add 2 N q in
          let bound : 2 ^ (N + q) ≤ 2 ^ 28 = pow_mono both in
          omega (arith, parts, scaled, whole, bound)

pub zero_room : {before mid : List ℤ} (w : ℕ) → w < 2147483648 → SetsDcs (λ r. pos 0) before mid → HasRoom w mid
zero_room {before} w lt s = record { at = λ r within. rw (s.dcs r (omega (arith, within, s.size))) (omega (arith, ints, lt)) }

pub raw_room : {before mid now : List ℤ} (w : ℕ) → w ≤ 2 ^ 27 → SetsDcs (λ r. pos 0) before mid → length now ≡ length before → GrowsBy w mid now →
    HasRoom 1073741824 now
raw_room {mid = mid} w le s long grows = record {
  at = λ r within.
      let place : r * 64 < length mid = omega (arith, within, long, s.size) in
      let zero_there = ap unsigned_abs (s.dcs r (omega (arith, within, long))) in
      omega (arith, ints, grows.at r place, zero_there, le);
}

-- ---- the planes

-- the planes from q - 1 down to this one were read
pub record PlanesSoFar {I : Type 0} (k : SourceOf I) (q n count plane : ℕ) (before : DcGiven) (old new : SourceState I) (first now : List ℤ) : Type 0 where
  pub given : DcGiven
  pub left : Leaves k (dc_planes_given q count n before) (in_turn (plane_of q count) (q - plane) (n - (q - plane)) given) old new
  pub cells : SetsDcs given.dcs first now
  pub lows : AreGivenTo q count (all_to plane count) given.lows

module _ {I : Type 0} {k : SourceOf I} (q n plane : ℕ) (before : DcGiven) {first : List ℤ} where
  pub planes_start : (a : SourceState I) (now : List ℤ) → plane ≡ q → SetsDcs before.dcs first now →
      AreGivenTo q (block_count first) (all_to q (block_count first)) before.lows → PlanesSoFar k q n (block_count first) plane before a a first now
  planes_start a now e s lows =
      let none : q - plane ≡ 0 = omega (arith, e) in
      let all : n - 0 ≡ n = omega arith in
      record { given = before; left = rw (none, all) (leaves_all (dc_planes_given q (block_count first) n before) a); cells = s; lows = rw e lows }

  module _ {a b : SourceState I} {now : List ℤ} (s : PlanesSoFar k q n (block_count first) plane before a b first now) where
    pub planes_all : (count : ℕ) → count ≡ block_count first → IsIn b → plane ≤ q → n ≡ q - plane →
        ReachesDcs k (dc_planes_given q (block_count first) n before) q (q - n) (Ok (Whole, reach_at plane count)) a b first now
    planes_all count is h within all =
        let none : n - (q - plane) ≡ 0 = omega (arith, all) in
        let last : q - n ≡ plane = omega (arith, all, within) in
        record {
          given = s.given;
          read = s.left.then (got s.given) b (rw none (read_done s.given b h));
          cells = s.cells;
          reached = rw (is, last) (s.lows, refl);
        }

    module _ (p : ℕ) (is : plane ≡ p + 1) (within : plane ≤ q) (more : q - plane < n) where
      abbrev after : DcGiven → Script DcGiven DcGiven
      after = in_turn (plane_of q (block_count first)) (suc (q - plane)) (n - suc (q - plane))

      planes_left : n - (q - plane) ≡ suc (n - suc (q - plane))
      planes_left = omega (arith, more)

      weight_is : q - suc (q - plane) ≡ p
      weight_is = omega (arith, is, within)

      pub before_plane : AreGivenTo q (block_count first) (all_to p 0) s.given.lows
      before_plane = next_plane q plane p (block_count first) s.given.lows is within s.lows

      module _ {c : SourceState I} {later : List ℤ} where
        pub planes_fault : (fault : TextFault) → ReachesDcs k (dc_bits_given (pos (2 ^ p)) p (block_count first) s.given) q p (Err fault) b c first later →
            ReachesDcs k (dc_planes_given q (block_count first) n before) q (q - n) (Err fault) a c first later
        planes_fault fault t = record {
          given = t.given;
          read = s.left.then (by_fault fault t.given) c (rw planes_left (read_fault _ after t.given fault (rw weight_is t.read)));
          cells = t.cells;
          reached = tt;
        }

        pub planes_cut : (reach : DcReach) → ReachesDcs k (dc_bits_given (pos (2 ^ p)) p (block_count first) s.given) q p (Ok (Ended, reach)) b c first later →
            ReachesDcs k (dc_planes_given q (block_count first) n before) q (q - n) (Ok (Ended, reach)) a c first later
        planes_cut reach t = record {
          given = t.given;
          read = s.left.then (ends t.given) c (rw planes_left (read_cut _ after t.given (rw weight_is t.read)));
          cells = t.cells;
          reached = (t.reached.0, tt);
        }

        pub planes_more : (reach : DcReach) → ReachesDcs k (dc_bits_given (pos (2 ^ p)) p (block_count first) s.given) q p (Ok (Whole, reach)) b c first later →
            PlanesSoFar k q n (block_count first) p before a c first later
        planes_more reach t =
            let next : q - p ≡ suc (q - plane) = omega (arith, is, within) in
            record {
              given = t.given;
              left = rw next (record {
                then =
                    λ f last r. s.left.then f last (rw planes_left (read_then _ after t.given f (rw weight_is t.read) r));
              });
              cells = t.cells;
              lows = rw t.reached.1 at t.reached.0;
            }

-- ---- how much DCs grow over planes

pub record PlanesGrew (q plane : ℕ) (old new : List ℤ) : Type 0 where
  pub size : length new ≡ length old
  pub at : (r : ℕ) → r * 64 < length old → unsigned_abs (cell_at 64 new r) + 2 ^ plane ≤ unsigned_abs (cell_at 64 old r) + 2 ^ q

pub planes_grew_start : (q plane : ℕ) (now : List ℤ) → plane ≡ q → PlanesGrew q plane now now
planes_grew_start q plane now e = record { size = refl; at = λ r lt. rw e (omega arith) }

module _ (q plane p : ℕ) (is : plane ≡ p + 1) {old now : List ℤ} (s : PlanesGrew q plane old now) where
  double : 2 ^ plane ≡ 2 * 2 ^ p
  double = rw is (omega (arith, pow-add 2 p 1))

  pub planes_room : q ≤ 27 → HasRoom 1073741824 old → HasRoom (2 ^ p) now
  planes_room few room = record {
    at = λ r within.
        let place : r * 64 < length old = omega (arith, within, s.size) in
        let most : 2 ^ q ≤ 2 ^ 27 = pow_mono few in
        omega (arith, s.at r place, room.at r place, most, double);
  }

  pub planes_grew : {later : List ℤ} → length later ≡ length now → GrowsBy (2 ^ p) now later → PlanesGrew q p old later
  planes_grew long grows = record { size = long ∙ s.size; at = λ r lt. omega (arith, s.at r lt, grows.at r (omega (arith, lt, s.size)), double) }

-- after any planes there is room for more
pub planes_roomy : (q plane : ℕ) {old now : List ℤ} → PlanesGrew q plane old now → q ≤ 27 → HasRoom 1073741824 old → HasRoom 536870912 now
planes_roomy q plane {old} s few room = record {
  at = λ r within.
      let place : r * 64 < length old = omega (arith, within, s.size) in
      let most : 2 ^ q ≤ 2 ^ 27 = pow_mono few in
      omega (arith, s.at r place, room.at r place, most);
}

pub less_room : {blocks : List ℤ} → HasRoom 1073741824 blocks → HasRoom 536870912 blocks
less_room room = record { at = λ r within. omega (arith, room.at r within) }

-- ---- the whole DC part

module _ (depth_dc depth_ac shift : ℕ) where
  abbrev q_of : ℕ
  q_of = dc_q depth_dc depth_ac shift

  abbrev last_of : ℕ
  last_of = q_of - dc_planes depth_dc depth_ac shift

  abbrev high : (before : List ℤ) → Script DcGiven DcGiven
  high before = high_given (dc_bits depth_dc depth_ac shift) q_of (block_count before)

  abbrev planes : (before : List ℤ) → DcGiven → Script DcGiven DcGiven
  planes before = dc_planes_given q_of (block_count before) (dc_planes depth_dc depth_ac shift)

  abbrev whole : (before : List ℤ) → Script DcGiven DcGiven
  whole before = dc_given depth_dc depth_ac shift (block_count before)

  module _ {I : Type 0} {k : SourceOf I} {a b : SourceState I} {before mid : List ℤ} where
    pub dc_fault : (fault : TextFault) → ReachesDcs k (high before) q_of q_of (Err fault) a b before mid →
        ReachesDcs k (whole before) q_of last_of (Err fault) a b before mid
    dc_fault fault t = record { given = t.given; read = read_fault _ (planes before) t.given fault t.read; cells = t.cells; reached = tt }

    pub dc_cut : (reach : DcReach) → ReachesDcs k (high before) q_of q_of (Ok (Ended, reach)) a b before mid →
        ReachesDcs k (whole before) q_of last_of (Ok (Ended, reach)) a b before mid
    dc_cut reach t = record { given = t.given; read = read_cut _ (planes before) t.given t.read; cells = t.cells; reached = (t.reached.0, tt) }

    module _ (reach : DcReach) (t : ReachesDcs k (high before) q_of q_of (Ok (Whole, reach)) a b before mid) where
      -- all numbers are given, and no bit of a plane
      pub dc_high : AreGivenTo q_of (block_count before) (all_to q_of (block_count before)) t.given.lows
      dc_high = rw t.reached.1 at t.reached.0

      pub dc_then : {result : Result (Part × DcReach) TextFault} {c : SourceState I} {now : List ℤ} →
          ReachesDcs k (planes before t.given) q_of last_of result b c before now → ReachesDcs k (whole before) q_of last_of result a c before now
      dc_then {result} u = record {
        given = u.given;
        read = read_then _ (planes before) t.given (by_reach result u.given) t.read u.read;
        cells = u.cells;
        reached = u.reached;
      }

    -- without what is given of each number
    pub dc_alone : (result : Result (Part × DcReach) TextFault) → ReachesDcs k (whole before) q_of last_of result a b before mid →
        TakesDcs k (dc_script depth_dc depth_ac shift (block_count before)) (without_reach result) a b before mid
    dc_alone result t = record {
      given = t.given.dcs;
      read =
          let read : ReadsAs k (around (λ g. g.dcs) (whole before)) (by_part (without_reach result) t.given.dcs t.given.dcs) a b =
          around_part (λ g. g.dcs) (whole before) t.given (without_reach result) (rw (reach_part result t.given) at t.read) in
          rw (dcs_are_given depth_dc depth_ac shift (block_count before)) at read;
      cells = t.cells;
    }

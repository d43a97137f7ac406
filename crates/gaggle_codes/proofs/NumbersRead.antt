-- Numbers, read gaggle by gaggle.
use Rattle.std.proofs.Common.{◌≡◌, ℕ, suc, ◌+◌, ◌-◌, ◌*◌, ◌<◌, min, ℤ, List, [], ◌++◌, length, get_or, Result, arith, sym, ap, ◌∙◌, length-append}
use Rattle.std.proofs.lemmas.List.{get_or-append-add}
use Rattle.std.specs.Int.{div_ceil}
use Rattle.bit_pipe.specs.declared.fault.Part.{Part}
use Rattle.bit_pipe.specs.declared.fault.TextFault.{TextFault}
use Rattle.bit_pipe.specs.Sources.{SourceOf}
use Rattle.bit_pipe.specs.SourceState.{SourceState, IsIn}
use Rattle.number_defs.specs.Gaggles.{Kind, gaggle_count}
use Rattle.item_defs.specs.Scripts.{in_turn}
use Rattle.bit_pipe.specs.ScriptSources.{got, ends, ReadsAs, by_fault}
use Rattle.bit_pipe.proofs.ScriptReading.{read_done, read_then, read_cut, read_fault, Leaves, leaves_all}
use Rattle.number_defs.specs.NumberScript.{gaggle_script, numbers_script, last_of}
use Rattle.gaggle_codes.specs.declared.range.NumberRange.{NumberRange}
use Rattle.gaggle_codes.specs.Given.{AreWithin}
use Rattle.gaggle_codes.specs.Cells.{SetsCells, by_numbers, IsCounted, TakesNumbers}
use Rattle.gaggle_codes.proofs.ValueReads.{within_none, within_both}

-- the first gaggles were read, and their numbers are in the cells
pub record SoFar {I : Type 0} (k : SourceOf I) (kind : Kind) (range : NumberRange) (most shift stride count g before : ℕ) (old now : SourceState I)
    (first cells : List ℤ) : Type 0 where
  pub given : List ℕ
  pub long : length given ≡ min count (16 * g)
  pub last : 0 < g → last_of given ≡ before
  pub within : AreWithin range.bits most given
  pub left : Leaves k (numbers_script kind count) (in_turn (gaggle_script kind count) g (gaggle_count count - g) given) old now
  pub held : SetsCells range shift stride given first cells

module _ {I : Type 0} {k : SourceOf I} (kind : Kind) (range : NumberRange) (most shift stride count : ℕ) where
  pub so_start : (a : SourceState I) (first cells : List ℤ) → SetsCells range shift stride [] first cells →
      SoFar k kind range most shift stride count 0 0 a a first cells
  so_start a first cells s =
      let e : gaggle_count count - 0 ≡ gaggle_count count = omega arith in
      record {
        given = [];
        long = omega arith;
        last = λ lt. absurd (omega (arith, lt));
        within = within_none range.bits most;
        left = rw e (leaves_all _ a);
        held = s;
      }

  module _ (g before size : ℕ) (lt : g < gaggle_count count) (is : size ≡ min (count - 16 * g) 16) {a b : SourceState I} {first cells : List ℤ}
      (s : SoFar k kind range most shift stride count g before a b first cells) where
    left_is : gaggle_count count - g ≡ suc (gaggle_count count - (g + 1))
    left_is = omega (arith, lt)

    -- the places of the gaggle
    pub so_long : length s.given ≡ 16 * g
    so_long = omega (arith, lt, s.long)

    pub so_size : min count (16 * g + 16) - 16 * g ≡ size
    so_size = omega (arith, is)

    pub so_fault : {c : SourceState I} (all : List ℕ) (fault : TextFault) → ReadsAs k (gaggle_script kind count g s.given) (by_fault fault all) b c →
        ReadsAs k (numbers_script kind count) (by_fault fault all) a c
    so_fault {c} all fault p = s.left.then (by_fault fault all) c (rw left_is (read_fault _ _ all fault p))

    pub so_cut : {c : SourceState I} (all : List ℕ) → ReadsAs k (gaggle_script kind count g s.given) (ends all) b c →
        ReadsAs k (numbers_script kind count) (ends all) a c
    so_cut {c} all p = s.left.then (ends all) c (rw left_is (read_cut _ _ all p))

    pub so_more : {c : SourceState I} (now heights : List ℕ) (last : ℕ) (more : List ℤ) → now ≡ s.given ++ heights → length heights ≡ size →
        AreWithin range.bits most heights → last ≡ get_or heights (length heights - 1) 0 → SetsCells range shift stride now first more →
        ReadsAs k (gaggle_script kind count g s.given) (got now) b c → SoFar k kind range most shift stride count (g + 1) last a c first more
    so_more {c} now heights last more e long few at held p = record {
      given = now;
      long = omega (arith, ap length e, length-append s.given heights, long, is, so_long, lt);
      last = λ some. sym (at ∙ end);
      within = rw e (within_both s.given heights s.within few);
      left = record { then = λ found end q. s.left.then found end (rw left_more (read_then _ _ now found p (rw next at q))) };
      held = held;
    }
      where
        left_more : gaggle_count count - g ≡ suc (gaggle_count count - suc g)
        left_more = omega (arith, lt)

        next : g + 1 ≡ suc g
        next = omega arith

        end : get_or heights (length heights - 1) 0 ≡ get_or now (length now - 1) 0
        end =
            let some : 0 < length heights = omega (arith, long, is, lt) in
            let place : length now - 1 ≡ length s.given + (length heights - 1) = omega (arith, ap length e, length-append s.given heights, some) in
            rw (place, e) (sym (get_or-append-add s.given heights (length heights - 1) 0))

  pub so_all : (g before : ℕ) {a b : SourceState I} {first cells : List ℤ} → IsIn b → g ≡ gaggle_count count →
      (s : SoFar k kind range most shift stride count g before a b first cells) → ReadsAs k (numbers_script kind count) (got s.given) a b
  so_all g before {a} {b} h e s = let none : gaggle_count count - g ≡ 0 = omega (arith, e) in s.left.then (got s.given) b (rw none (read_done s.given b h))

  pub takes_numbers : (result : Result (Part × ℕ) TextFault) (given : List ℕ) {a b : SourceState I} {before now : List ℤ} →
      count ≡ div_ceil (length before) stride → IsCounted result (length given) → AreWithin range.bits most given →
      ReadsAs k (numbers_script kind count) (by_numbers result given) a b → SetsCells range shift stride given before now →
      TakesNumbers k kind range most shift stride result a b before now
  takes_numbers result given is counted within read cells = record { given = given; read = rw is at read; counted = counted; within = within; cells = cells }

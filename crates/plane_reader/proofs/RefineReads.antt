-- The bits of the positions of a mask, as they are read from a window that is held.
use Rattle.std.proofs.Common.{◌≡◌, ℕ, zero, suc, ◌+◌, ◌-◌, ◌<◌, ◌≤◌, ◌==◌, ◌&&◌, ◌||◌, if◌then◌else◌, Bool, true, false, List, []}
use Rattle.std.proofs.Common.{ℤ, refl, ap, sym, ◌∙◌, subst, arith, Option, Some, None, Result, Ok, Err}
use Rattle.item_defs.specs.Bits.{bit}
use Rattle.plane_defs.specs.Sets.{coded, refined}
use Rattle.plane_defs.proofs.Equations.{refined-is}
use Rattle.block_masks.specs.declared.gaggle.Gaggle.{Gaggle}
use Rattle.block_masks.specs.Masks.{Shows}
use Rattle.bit_pipe.specs.declared.fault.TextFault.{TextFault}
use Rattle.bit_pipe.specs.Sources.{SourceOf}
use Rattle.bit_pipe.specs.SourceState.{IsIn}
use Rattle.item_defs.specs.Scripts.{Script, done, ask_bit, then_ask, in_turn, run}
use Rattle.bit_pipe.specs.ScriptSources.{got, by_done, Gets}
use Rattle.item_defs.proofs.ScriptLaws.{turns_split}
use Rattle.plane_defs.specs.States.{State, and_one}
use Rattle.plane_defs.specs.StageScripts.{Terms, bit_script, refinement_script}
use Rattle.plane_reader.specs.declared.found.Found.{Found}
use Rattle.plane_reader.specs.Takes.{IsState}
use Rattle.plane_reader.specs.Held.{Point, ReadsFrom}
use Rattle.plane_reader.specs.HeldTakes.{HeldState, HeldFlag, marked_script}
use Rattle.plane_reader.specs.Blocks.{IsAbove}
use Rattle.plane_reader.proofs.HeldGroups.{zero_bit}
use Rattle.plane_reader.proofs.SignReads.{with_bit}
use Rattle.plane_reader.proofs.HeldReads.{leads_start, reads_then, reads_done, reads_cut, reads_fault}

-- a position that is not in the mask
pub unmarked : (g : ℕ → Bool) {h : Gaggle} {f : Found} (p : ℕ) → g p ≡ false → (s : State) → IsState h f s →
    (t : State) × IsState h f t × Gets (marked_script g p s) [] t
unmarked g p off s is = (s, is, λ more. ap (λ b. run (if b then bit_script p s else done s) more) off)

-- what follows the bit of a position
abbrev after_bit : ℕ → State → Bool → Script State State
after_bit p s b = done (with_bit p s b)

bit_given : {h : Gaggle} {f f' : Found} (p : ℕ) (s : State) (b : Bool) → IsState h f s → Shows f'.bits (and_one s.bits p b) 0 64 → f'.minus ≡ f.minus →
    Shows f'.raw (λ q. s.raw q || (q == p)) 0 64 → IsState h f' (with_bit p s b)
bit_given p s b is shown same raw = record { options = is.options; bits = shown; minus = subst (λ m. Shows m s.minus 0 64) (sym same) is.minus; raw = raw }

-- a position that is in it
module _ {I : Type 0} {k : SourceOf I} (g : ℕ → Bool) (p : ℕ) (on : g p ≡ true) (s : State) {h : Gaggle} {f : Found} (is : IsState h f s) {x y : Point I} where
  held : {X : Type 0} (result : Result (Option X) TextFault) {h' : Gaggle} {f' : Found} → HeldState k (bit_script p s) result h' f' x y →
      HeldState k (marked_script g p s) result h' f' x y
  held result {h'} {f'} q = subst (λ b. HeldState k (if b then bit_script p s else done s) result h' f' x y) (sym on) q

  pub bit_fault : (fault : TextFault) → HeldFlag k (Err fault) x y → HeldState {X = Unit {0}} k (marked_script g p s) (Err fault) h f x y
  bit_fault fault q = held (Err fault) (record { now = s; is = is; read = reads_fault (ask_bit s (λ b. done b)) (after_bit p s) s fault (q.read s) })

  pub bit_cut : HeldFlag k (Ok None) x y → HeldState {X = Unit {0}} k (marked_script g p s) (Ok None) h f x y
  bit_cut q = held (Ok None) (record { now = s; is = is; read = reads_cut (ask_bit s (λ b. done b)) (after_bit p s) s (q.read s) })

  pub bit_read : {f' : Found} (b : Bool) → IsIn y.input → Shows f'.bits (and_one s.bits p b) 0 64 → f'.minus ≡ f.minus →
      Shows f'.raw (λ q. s.raw q || (q == p)) 0 64 → HeldFlag k (Ok (Some b)) x y → HeldState {X = Unit {0}} k (marked_script g p s) (Ok (Some tt)) h f' x y
  bit_read {f'} b i shown same raw q =
      let end = with_bit p s b in
      held (Ok (Some tt)) (record {
        now = end;
        is = bit_given p s b is shown same raw;
        read = reads_then (ask_bit s (λ b. done b)) (after_bit p s) b (got end)
            (q.read s) (reads_done (after_bit p s b) end (leads_start (after_bit p s b) i));
      })

-- things that are alike at each of some places
turns_alike : {S : Type 0} (f g : ℕ → S → Script S S) (n j : ℕ) → ((p : ℕ) → j ≤ p → p < j + n → (s : S) → f p s ≡ g p s) → (s : S) →
    in_turn f j n s ≡ in_turn g j n s
turns_alike f g zero j same s = refl
turns_alike f g (suc n) j same s =
    ap (λ x. then_ask x (in_turn f (suc j) n)) (same j (omega arith) (omega arith) s) ∙
    (λ i. then_ask (g j s) (λ u. turns_alike f g n (suc j) (λ p low high. same p (omega (arith, low)) (omega (arith, high))) u i))

-- the things from a start on, counted from 0
turns_from : {S : Type 0} (item : ℕ → S → Script S S) (start n j : ℕ) (s : S) → in_turn (λ p. item (start + p)) j n s ≡ in_turn item (start + j) n s
turns_from item start zero j s = refl
turns_from item start (suc n) j s =
    let next : start + suc j ≡ suc (start + j) = omega arith in
    (λ i. then_ask (item (start + j) s) (λ u. (turns_from item start n (suc j) u ∙ ap (λ a. in_turn item a n u) next) i))

pub turns_here : {S : Type 0} (item : ℕ → S → Script S S) (start n : ℕ) (s : S) → in_turn (λ p. item (start + p)) 0 n s ≡ in_turn item start n s
turns_here item start n s = let z : start + 0 ≡ start = omega arith in turns_from item start n 0 s ∙ ap (λ a. in_turn item a n s) z

-- no position is marked
none_marked : (g : ℕ → Bool) (n j : ℕ) → ((p : ℕ) → j ≤ p → p < j + n → g p ≡ false) → (s : State) → in_turn (marked_script g) j n s ≡ done s
none_marked g zero j none s = refl
none_marked g (suc n) j none s =
    ap (λ b. then_ask (if b then bit_script j s else done s) (in_turn (marked_script g) (suc j) n)) (none j (omega arith) (omega arith)) ∙
    none_marked g n (suc j) (λ p low high. none p (omega (arith, low)) (omega (arith, high))) s

pub half_none : {I : Type 0} {k : SourceOf I} (g : ℕ → Bool) (start : ℕ) (s : State) {h : Gaggle} {f : Found} → IsState h f s → {mask : ℕ} → mask ≡ 0 →
    Shows mask g start 32 → {x : Point I} → IsIn x.input →
    HeldState {X = Unit {0}} k (in_turn (marked_script g) start 32 s) (Ok (Some tt)) h f x x
half_none {k = k} g start s is {mask} none shown {x} i =
    let last : Script State State = done s in
    let all = none_marked g 32 start (λ p low high. let z : start + (p - start) ≡ p = omega (arith, low) in ap g (sym z) ∙
    sym (shown.at (p - start) (omega (arith, low, high))) ∙ ap (λ m. bit m (p - start)) none ∙ zero_bit (p - start)) s in
    record { now = s; is = is; read = subst (λ r. ReadsFrom k r (got s) x x) (sym all) (reads_done last s (leads_start last i)) }

-- ---- the script of refinement

module _ (t : Terms) (block : List ℤ) (g : ℕ → Bool) (first : g 0 ≡ false) (rest : (p : ℕ) → p < 64 → (p ≡ 0 → ⊥) →
    g p ≡ refined block t.weights t.plane p) where
  pub refinement_is : (s : State) → then_ask (in_turn (marked_script g) 0 32 s) (in_turn (marked_script g) 32 32) ≡ refinement_script t block s
  refinement_is s =
      sym (turns_split State (marked_script g) 0 32 32 s) ∙ ap (λ b. then_ask (if b then bit_script 0 s else done s) (in_turn (marked_script g) 1 63)) first ∙
      turns_alike (marked_script g) (λ p u. if refined block t.weights t.plane p then bit_script p u else done u) 63 1
      (λ p low high u. ap (λ b. if b then bit_script p u else done u) (rest p (omega (arith, high)) (λ e. omega (arith, e, low)))) s

-- which positions are refined
pub refined_marks : (mask above : ℕ) {both : ℕ} (plane : ℕ) (weights : List ℕ) (block : List ℤ) → Shows both
    (λ p. bit above p && coded weights plane p) 0 64 → IsAbove above block plane →
    ((p : ℕ) → p < 64 → (p ≡ 0 → ⊥) → bit mask p ≡ bit both p) → (p : ℕ) → p < 64 → (p ≡ 0 → ⊥) → bit mask p ≡ refined block weights plane p
refined_marks mask above plane weights block shown marked same p lt some =
    let z : 0 + p ≡ p = omega arith in
    same p lt some ∙ shown.at p lt ∙ ap (λ q. bit above q && coded weights plane q) z ∙ ap (λ b. b && coded weights plane p) (marked p (
      omega (arith, some),
      lt,
    )) ∙ sym (refined-is block weights plane p)

-- ---- one half after the other

module _ {I : Type 0} {k : SourceOf I} (r : Script State State) (next : State → Script State State) {h : Gaggle} {f : Found} {x y : Point I} where
  pub half_fault : (fault : TextFault) → HeldState {X = Unit {0}} k r (Err fault) h f x y → HeldState {X = Unit {0}} k (then_ask r next) (Err fault) h f x y
  half_fault fault q = record { now = q.now; is = q.is; read = reads_fault r next q.now fault q.read }

  pub half_cut : HeldState {X = Unit {0}} k r (Ok None) h f x y → HeldState {X = Unit {0}} k (then_ask r next) (Ok None) h f x y
  half_cut q = record { now = q.now; is = q.is; read = reads_cut r next q.now q.read }

  pub half_then : (q : HeldState {X = Unit {0}} k r (Ok (Some tt)) h f x y) (result : Result (Option
      (Unit {0})) TextFault) {h' : Gaggle} {f' : Found} {z : Point I} → HeldState k (next q.now) result h' f' y z →
      HeldState k (then_ask r next) result h' f' x z
  half_then q result w = record { now = w.now; is = w.is; read = reads_then r next q.now (by_done result w.now w.now) q.read w.read }

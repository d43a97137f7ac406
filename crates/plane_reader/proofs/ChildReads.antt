-- What a block sends of its children, as it is read from a window that is held.
use Rattle.std.proofs.Common.{◌≡◌, ℕ, ◌+◌, Bool, true, false, not, ◌&&◌, ◌||◌, ℤ, List, ap, sym, ◌∙◌, subst, arith, if◌then◌else◌, Ok, Err, Some, None}
use Rattle.std.proofs.Common.{Result, Option}
use Rattle.std.specs.List.{list_any}
use Rattle.item_defs.specs.Bits.{bit}
use Rattle.plane_defs.specs.declared.sets.Set.TheVariants.{Descendants, Family, Grandchildren}
use Rattle.plane_defs.specs.Spans.{span}
use Rattle.plane_defs.specs.Steps.{some_one_where}
use Rattle.plane_defs.specs.Sets.{coded, members, live, type_due}
use Rattle.block_masks.specs.declared.gaggle.Gaggle.{Gaggle}
use Rattle.block_masks.specs.Masks.{Shows}
use Rattle.bit_pipe.specs.declared.fault.TextFault.{TextFault}
use Rattle.bit_pipe.specs.Sources.{SourceOf}
use Rattle.bit_pipe.specs.SourceState.{IsIn}
use Rattle.item_defs.specs.Scripts.{Script, done, ask_bit, then_ask, in_turn}
use Rattle.bit_pipe.specs.ScriptSources.{got, ends, by_fault, by_item}
use Rattle.plane_defs.specs.States.{State, with_options, with_families}
use Rattle.plane_defs.specs.WordScripts.{due_script, group_script}
use Rattle.plane_defs.specs.StageScripts.{Terms, above, is_due, flag_script, descendants_script, children_script}
use Rattle.plane_reader.specs.declared.found.Found.{Found}
use Rattle.plane_reader.specs.Takes.{IsState}
use Rattle.plane_reader.specs.Held.{Point, ReadsFrom}
use Rattle.plane_reader.specs.HeldTakes.{HeldState, HeldOnes, HeldFamilies}
use Rattle.plane_reader.specs.Blocks.{IsAbove}
use Rattle.plane_reader.proofs.HeldReads.{leads_start, reads_then, reads_done, reads_cut, reads_fault}
use Rattle.plane_reader.proofs.TypeReads.{on}
use Rattle.plane_reader.proofs.SetMarks.{shows_range, live_set, due_set, is_set, turned}

-- ---- the flag of all descendants

module _ {I : Type 0} {k : SourceOf I} (s : State) (is_live was : Bool) where
  pub flag_known : {x : Point I} → (not was && is_live) ≡ false → IsIn x.input → ReadsFrom k (flag_script is_live was s) (got was) x x
  flag_known {x} e i =
      let none : Script State Bool = done was in
      subst (λ b. ReadsFrom k (if b then ask_bit s (λ b. done b) else none) (got was) x x) (sym e) (reads_done none was (leads_start none i))

  pub flag_read : (result : Result (Option Bool) TextFault) {x y : Point I} → (not was && is_live) ≡ true →
      ReadsFrom k (ask_bit s (λ b. done b)) (by_item result s) x y → ReadsFrom k (flag_script is_live was s) (by_item result s) x y
  flag_read result {x} {y} e q =
      let none : Script State Bool = done was in
      subst (λ b. ReadsFrom k (if b then ask_bit s (λ b. done b) else none) (by_item result s) x y) (sym e) q

-- ---- sets by masks

module _ (t : Terms) (block : List ℤ) (mask : ℕ) (marked : IsAbove mask block t.plane) where
  pub due_shown : (all : Bool) {due : ℕ} → Shows due (λ i. (not (list_any (bit mask) (members (Family i))) && list_any (coded t.weights t.plane) (members
      (Family i))) && all) 0 3 → Shows due (λ i. is_due t block (Family i) all) 0 3
  due_shown all shown = shows_range (λ k lt. due_set t block mask marked (Family (0 + k)) (omega (arith, lt)) all) shown

  pub families_shown : (new : ℕ → Bool) {families : ℕ} → Shows families (λ i. list_any (bit mask) (members (Family i)) || new i) 0 3 →
      Shows families (λ i. above t block (Family i) || new i) 0 3
  families_shown new shown = shows_range (λ k lt. is_set t block mask marked (Family (0 + k)) (omega (arith, lt)) (new (0 + k))) shown

  pub wanted_shown : (new : ℕ → Bool) {wanted : ℕ} → Shows wanted (λ i. not (list_any (coded t.weights t.plane) (members (Grandchildren i))) && new i) 0 3 →
      Shows wanted (λ i. new i && not (live t.weights t.plane (Grandchildren i))) 0 3
  wanted_shown new shown = shows_range (λ k lt. ap (λ x. not x && new (0 + k)) (live_set t block mask marked (Grandchildren (0 + k))) ∙
      turned (not (live t.weights t.plane (Grandchildren (0 + k)))) (new (0 + k))) shown

-- ---- the calls, one after another

module _ (t : Terms) (block : List ℤ) (s : State) where
  abbrev pub family_part : Bool → Script State (State × (ℕ → Bool))
  family_part all = due_script t.book (λ i. is_due t block (Family i) all) (some_one_where (all && not (above t block Descendants))) (span 0 3) s

  abbrev pub families_now : (ℕ → Bool) → ℕ → Bool
  families_now new i = above t block (Family i) || new i

  abbrev pub types_part : (ℕ → Bool) → State → Script State State
  types_part new = in_turn (group_script t.book (type_due block t.weights t.plane) 4 (families_now new) (λ i. new i && not (live t.weights t.plane
      (Grandchildren i)))) 0 3

  abbrev pub last_part : (ℕ → Bool) → State → Script State State
  last_part new u = done (with_families u (families_now new))

  abbrev pub after_families : State × (ℕ → Bool) → Script State State
  after_families r = then_ask (types_part r.1 r.0) (last_part r.1)

  abbrev pub after_flag : Bool → Script State State
  after_flag all = then_ask (family_part all) after_families

  module _ {I : Type 0} {k : SourceOf I} {h : Gaggle} {f : Found} (is : IsState h f s) {x y : Point I} where
    pub no_flag : (fault : TextFault) → ReadsFrom k (descendants_script t block s) (by_fault fault s) x y →
        HeldFamilies k (children_script t block s) (Err fault) h f x y
    no_flag fault q = record { now = s; is = is; families = tt; read = reads_fault (descendants_script t block s) after_flag s fault q }

    pub flag_cut : ReadsFrom k (descendants_script t block s) (ends s) x y → HeldFamilies k (children_script t block s) (Ok None) h f x y
    flag_cut q = record { now = s; is = is; families = tt; read = reads_cut (descendants_script t block s) after_flag s q }

    module _ (all : Bool) (flag : ReadsFrom k (descendants_script t block s) (got all) x y) {h' : Gaggle} {z : Point I} where
      pub no_families : (fault : TextFault) → HeldOnes k (family_part all) 0 3 s (Err fault) h' y z → HeldFamilies k (children_script t block s)
          (Err fault) h' f x z
      no_families fault p = record {
        now = with_options s p.options;
        is = on is p.known;
        families = tt;
        read = reads_then (descendants_script t block s) after_flag all (by_fault fault (with_options s p.options)) flag (reads_fault
            (family_part all) after_families (with_options s p.options) fault p.read);
      }

      pub families_cut : HeldOnes k (family_part all) 0 3 s (Ok None) h' y z → HeldFamilies k (children_script t block s) (Ok None) h' f x z
      families_cut p = record {
        now = with_options s p.options;
        is = on is p.known;
        families = tt;
        read = reads_then (descendants_script t block s) after_flag all (ends (with_options s p.options)) flag (reads_cut (family_part all) after_families
            (with_options s p.options) p.read);
      }

      module _ {places : ℕ} (p : HeldOnes k (family_part all) 0 3 s (Ok (Some places)) h' y z) where
        abbrev pub then_state : State
        then_state = with_options s p.options

        abbrev given : State × (ℕ → Bool)
        given = (then_state, p.ones)

        module _ {h'' : Gaggle} {f'' : Found} {w : Point I} where
          pub no_types : (fault : TextFault) → HeldState {X = Unit {0}} k (types_part p.ones then_state) (Err fault) h'' f'' z w →
              HeldFamilies k (children_script t block s) (Err fault) h'' f'' x w
          no_types fault q = record {
            now = q.now;
            is = q.is;
            families = tt;
            read = reads_then (descendants_script t block s) after_flag all (by_fault fault q.now) flag
                (reads_then (family_part all) after_families given (by_fault fault q.now) p.read (reads_fault (types_part p.ones then_state)
                (last_part p.ones) q.now fault q.read));
          }

          pub types_cut : HeldState {X = Unit {0}} k (types_part p.ones then_state) (Ok None) h'' f'' z w → HeldFamilies k (children_script t block s)
              (Ok None) h'' f'' x w
          types_cut q = record {
            now = q.now;
            is = q.is;
            families = tt;
            read = reads_then (descendants_script t block s) after_flag all (ends q.now) flag
                (reads_then (family_part all) after_families given (ends q.now) p.read (reads_cut (types_part p.ones then_state)
                (last_part p.ones) q.now q.read));
          }

          pub all_read : {families : ℕ} → IsIn w.input → Shows families (families_now p.ones) 0 3 → HeldState {X =
              Unit {0}} k (types_part p.ones then_state) (Ok (Some tt)) h'' f'' z w → HeldFamilies k (children_script t block s) (Ok
              (Some families)) h'' f'' x w
          all_read i shown q =
              let end = with_families q.now (families_now p.ones) in
              let last : Script State State = done end in
              record {
                now = end;
                is = record { options = q.is.options; bits = q.is.bits; minus = q.is.minus; raw = q.is.raw };
                families = shown;
                read = reads_then (descendants_script t block s) after_flag all (got end) flag
                    (reads_then (family_part all) after_families given (got end) p.read (reads_then (types_part p.ones then_state) (last_part p.ones) q.now
                    (got end) q.read (reads_done last end (leads_start last i))));
              }

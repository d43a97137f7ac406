-- The bits of the DC numbers, as stage 0 reads them.
use mir.Val.{bool_byte}
use Rattle.std.proofs.Common.{◌≡◌, ℕ, zero, suc, ◌+◌, ◌*◌, ◌%◌, ◌^◌, ◌<◌, ◌≤◌, ◌==◌, ◌&&◌, ◌||◌, min, nat_lt, Bool, true, false, if◌then◌else◌, List, []}
use Rattle.std.proofs.Common.{length, refl, ap, sym, ◌∙◌, subst, arith, ℤ, pos, ◌+ℤ◌, Option, Some, None, Result, Ok, Err, get_or, of_z, w32}
use Rattle.std.specs.Int.{cast_signed}
use mir.Val.{SFits}
use Rattle.std.proofs.Math.Bool.{or-false}
use Rattle.std.proofs.lemmas.Bool.Decides.{nat_tests}
use Rattle.std.proofs.lemmas.Int.{ints, of_z-to_z}
use Rattle.std.proofs.lemmas.Nat.Bits.{bit_at_above}
use Rattle.item_defs.specs.Bits.{bit}
use Rattle.plane_defs.specs.Sets.{coded}
use Rattle.block_masks.specs.Slices.{mask_in, minus_slot, dc_slot, PutsMask}
use Rattle.bit_pipe.specs.declared.fault.Part.{Part}
use Rattle.bit_pipe.specs.declared.fault.Part.TheVariants.{Whole, Ended}
use Rattle.bit_pipe.specs.declared.fault.TextFault.{TextFault}
use Rattle.bit_pipe.specs.Sources.{SourceOf}
use Rattle.bit_pipe.specs.SourceState.{SourceState, IsIn}
use Rattle.item_defs.specs.Scripts.{Script, done, ask_bit, then_ask, in_turn}
use Rattle.bit_pipe.specs.ScriptSources.{got, ends, by_fault, ReadsAs}
use Rattle.bit_pipe.proofs.ScriptReading.{read_done}
use Rattle.plane_defs.specs.States.{State}
use Rattle.plane_defs.specs.StageScripts.{Terms, bit_script}
use Rattle.plane_defs.specs.PlaneScript.{PlaneState, nothing_yet, of_block, with_block, bit_of_plane, blocks_script}
use Rattle.plane_reader.specs.Above.{HasNoneBelow, AwaitDcs}
use Rattle.plane_reader.specs.Held.{Point, Stays, ReadsFrom, LeadsTo}
use Rattle.plane_reader.specs.HeldTakes.{HeldFlag}
use Rattle.plane_reader.specs.Blocks.{raw_slot, HasRead}
use Rattle.plane_reader.specs.Gaggles.{dc_in, HaveRead, TakesStage}
use Rattle.plane_reader.specs.Planes.{AddsDc, GivesDc, KeepOthers, dc_item, HeldDcs}
use Rattle.plane_reader.proofs.HeldReads.{leads_start, leads_then, leads_got, reads_then, reads_later, reads_done, reads_cut, reads_fault, reads_closed}
use Rattle.plane_reader.proofs.SignReads.{with_bit}
use Rattle.plane_reader.proofs.BlockReads.{reads_around}
use Rattle.plane_reader.proofs.DcSums.{dc_added}
use Rattle.plane_reader.proofs.PlaneStates.{has_put, dcs_put, families_put, options_put, read_same}

-- ---- a DC that is given a bit

fits_cast : (n : ℕ) → n < 2 ^ 32 → SFits w32 (cast_signed w32 n)
fits_cast n small = omega (arith, ints)

plus_none : (z : ℤ) → z +ℤ pos 0 ≡ z
plus_none z = omega (arith, ints)

pub dc_adds : {plane r mask : ℕ} {old new : List ℤ} (is_one : Bool) → plane < 27 → PutsMask r dc_slot mask old new → mask ≡ (mask_in
    old r dc_slot % 2 ^ 32 + bool_byte is_one * 2 ^ plane % 4294967296) % 4294967296 → AddsDc plane r is_one old new
dc_adds {plane} {r} {mask} {old} {new} is_one low put is = record {
  long = put.long;
  dc = λ cleared. ap (λ m. cast_signed w32 (m % 2 ^ 32)) put.here ∙ by_bit is_one is cleared;
  slots = put.other_slots;
  others = put.other_blocks;
}
  where
    by_bit : (b : Bool) → mask ≡ (mask_in old r dc_slot % 2 ^ 32 + bool_byte b * 2 ^ plane % 4294967296) % 4294967296 → HasNoneBelow (plane + 1)
        (cast_signed w32 (mask_in old r dc_slot % 2 ^ 32)) →
        cast_signed w32 (mask % 2 ^ 32) ≡ cast_signed w32 (mask_in old r dc_slot % 2 ^ 32) +ℤ pos (if b then 2 ^ plane else 0)
    by_bit true is cleared =
        let dc = mask_in old r dc_slot % 2 ^ 32 in
        let small : dc < 2 ^ 32 = omega arith in
        let back : of_z w32 (cast_signed w32 dc) ≡ dc = of_z-to_z w32 dc small in
        let once : mask % 2 ^ 32 ≡ (of_z w32 (cast_signed w32 dc) + 1 * 2 ^ plane % 4294967296) % 4294967296 = omega (arith, is, back) in
        ap (cast_signed w32) once ∙ dc_added (cast_signed w32 dc) plane (fits_cast dc small) low cleared
    by_bit false is cleared =
        let same : mask % 2 ^ 32 ≡ mask_in old r dc_slot % 2 ^ 32 = omega (arith, is, no_bit (2 ^ plane)) in
        ap (cast_signed w32) same ∙ sym (plus_none (cast_signed w32 (mask_in old r dc_slot % 2 ^ 32)))
      where
        no_bit : (n : ℕ) → 0 * n % 4294967296 ≡ 0
        no_bit n = omega arith

pub others_kept : (cells : List ℤ) → KeepOthers cells cells
others_kept cells = record { long = refl; slots = λ r slot lt low apart no_raw. refl }

pub others_then : {old mid new : List ℤ} → KeepOthers old mid → KeepOthers mid new → KeepOthers old new
others_then p q = record {
  long = q.long ∙ p.long;
  slots = λ r slot lt low apart no_raw. q.slots r slot (subst (λ n. 64 * r < n) (sym p.long) lt) low apart no_raw ∙ p.slots r slot lt low apart no_raw;
}

-- only the DC's bit is in the mask
first_only : (p : ℕ) → bit 1 p ≡ (p == 0)
first_only zero = refl
first_only (suc p) =
    let apart : (suc p == 0) ≡ false = grind (arith, nat_tests) in
    ap (λ x. x == 1) (bit_at_above 1 1 (suc p) (omega arith) (omega arith)) ∙ sym apart

-- ---- one block more

abbrev pub read_bit : State → Bool → State
read_bit s b = with_bit 0 s b

pub has_others : {plane r : ℕ} {old new : List ℤ} {block : List ℤ} {s : State} → plane < 27 → KeepOthers old new → 64 * r < length old →
    mask_in new r raw_slot ≡ mask_in old r raw_slot → HasRead plane r old block s → HasRead plane r new block s
has_others {plane} {r} low keeps inside same has = record {
  bits = λ q ac. ap (λ m. bit m q) (keeps.slots r plane inside (omega (arith, low)) (λ e. omega (arith, e, low)) (λ e. omega (arith, e, low))) ∙ has.bits q ac;
  minus = λ q ac. ap (λ m. bit m q) (keeps.slots r minus_slot inside (omega arith) (λ e. omega (arith, e)) (λ e. omega (arith, e))) ∙ has.minus q ac;
  raw = λ q lt. ap (λ m. bit m q) same ∙ has.raw q lt;
}

has_bit : {plane r : ℕ} {old new block : List ℤ} {s : State} (b : Bool) → plane < 27 → KeepOthers old new → 64 * r < length old →
    mask_in new r raw_slot ≡ 1 → ((q : ℕ) → s.raw q ≡ false) → HasRead plane r old block s → HasRead plane r new block (read_bit s b)
has_bit {plane} {r} {s = s} b low keeps inside given none has = record {
  bits = λ q ac.
      let some : 1 ≤ q = ac.0 in
      let apart : (q == 0) ≡ false = grind (arith, nat_tests) in
      ap (λ m. bit m q) (keeps.slots r plane inside (omega (arith, low)) (λ e. omega (arith, e, low)) (λ e. omega (arith, e, low))) ∙ has.bits q ac ∙
      sym (ap (λ y. s.bits q || (false || (y && b))) apart ∙ or-false (s.bits q));
  minus = λ q ac. ap (λ m. bit m q) (keeps.slots r minus_slot inside (omega arith) (λ e. omega (arith, e)) (λ e. omega (arith, e))) ∙ has.minus q ac;
  raw = λ q lt. ap (λ m. bit m q) given ∙ first_only q ∙ sym (ap (λ y. y || (q == 0)) (none q));
}

-- the bits of the blocks before the j-th were read, and m more are left
pub record DcsLeft {I : Type 0} (k : SourceOf I) (plane j m : ℕ) (numbers : List (List ℤ)) (marks : List ℤ) (all : Script PlaneState PlaneState)
    (cells : List ℤ) (old now : Point I) : Type 0 where
  pub state : PlaneState
  pub later : (r : ℕ) → j ≤ r → (state.blocks r).bits 0 ≡ false
  pub none : (r q : ℕ) → j ≤ r → (state.blocks r).raw q ≡ false
  pub have : HaveRead plane cells marks numbers state
  pub left : LeadsTo k all (in_turn (dc_item true) j m state) old now

module _ {I : Type 0} {k : SourceOf I} {plane : ℕ} {numbers : List (List ℤ)} {marks : List ℤ} where
  pub dcs_start : {cells : List ℤ} {x : Point I} (count n : ℕ) → n ≡ count → IsIn x.input → HaveRead plane cells marks numbers nothing_yet →
      DcsLeft k plane 0 n numbers marks (in_turn (dc_item true) 0 count nothing_yet) cells x x
  dcs_start {x = x} count n e i have = record {
    state = nothing_yet;
    later = λ r le. refl;
    none = λ r q le. refl;
    have = have;
    left = subst (λ m. LeadsTo k (in_turn (dc_item true) 0 count nothing_yet) (in_turn (dc_item true) 0 m nothing_yet) x x) (sym e) (leads_start (in_turn
        (dc_item true) 0 count nothing_yet) i);
  }

  pub dcs_done : {j m : ℕ} {all : Script PlaneState PlaneState} {cells : List ℤ} {x y : Point I} → m ≡ 0 → DcsLeft k plane j m numbers marks all cells x y →
      HeldDcs k plane numbers all (Ok Whole) cells marks x y
  dcs_done {j} {all = all} {x = x} {y} none l = record {
    now = l.state;
    has = l.have.has;
    dcs = l.have.dcs;
    families = l.have.families;
    options = l.have.options;
    read = reads_done all l.state (subst (λ n. LeadsTo k all (in_turn (dc_item true) j n l.state) x y) none l.left);
  }

  module _ {j n m : ℕ} {all : Script PlaneState PlaneState} {cells : List ℤ} {x y : Point I} (more : n ≡ suc m) (inside : 64 * j < length cells)
      (l : DcsLeft k plane j n numbers marks all cells x y) where
    here : Script PlaneState PlaneState
    here = dc_item true j l.state

    rest : PlaneState → Script PlaneState PlaneState
    rest = in_turn (dc_item true) (suc j) m

    left_is : LeadsTo k all (then_ask here rest) x y
    unfolding here rest
    left_is = subst (λ c. LeadsTo k all (in_turn (dc_item true) j c l.state) x y) more l.left

    s : State
    s = of_block l.state j

    after_bit : Bool → Script State State
    after_bit b = done (read_bit (of_block l.state j) b)

    same : HaveRead plane cells marks numbers (with_block l.state j (of_block l.state j))
    same = read_same l.state j inside l.have

    pub dcs_cut : {z : Point I} → HeldFlag k (Ok None) y z → HeldDcs k plane numbers all (Ok Ended) cells marks x z
    unfolding here rest after_bit
    dcs_cut {z} flag =
        let u = of_block l.state j in
        let end = with_block l.state j u in
        let none : Result (Option (Unit {0})) TextFault = Ok None in
        let read : ReadsFrom k here (ends end) y z = reads_around (with_block l.state j) (bit_script 0 u) none u (reads_cut (ask_bit u
        (λ b. done b)) after_bit u (flag.read u)) in
        record {
          now = end;
          has = same.has;
          dcs = same.dcs;
          families = same.families;
          options = same.options;
          read =
              reads_later all (then_ask here rest) (ends end) left_is (reads_cut here rest end read);
        }

    pub dcs_fault : {z : Point I} (fault : TextFault) → HeldFlag k (Err fault) y z → HeldDcs k plane numbers all (Err fault) cells marks x z
    unfolding here rest after_bit
    dcs_fault {z} fault flag =
        let u = of_block l.state j in
        let end = with_block l.state j u in
        let failed : Result (Option (Unit {0})) TextFault = Err fault in
        let read : ReadsFrom k here (by_fault fault end) y z = reads_around (with_block l.state j) (bit_script 0 u) failed u (reads_fault (ask_bit u
        (λ b. done b)) after_bit u fault (flag.read u)) in
        record {
          now = end;
          has = same.has;
          dcs = same.dcs;
          families = same.families;
          options = same.options;
          read =
              reads_later all (then_ask here rest) (by_fault fault end) left_is (reads_fault here rest end fault read);
        }

    -- the bit is b, and the DC has it
    module _ (low : plane < 27) {cells' : List ℤ} (b : Bool) (gives : GivesDc plane j b cells cells') (free : HasNoneBelow (plane + 1) (dc_in cells j)) where
      end : PlaneState
      end = with_block l.state j (read_bit (of_block l.state j) b)

      there : (r : ℕ) → 64 * r < length cells' → 64 * r < length cells
      there r lt = subst (λ n. 64 * r < n) gives.keeps.long lt

      number : ℤ
      number = get_or (get_or numbers j []) 0 (pos 0)

      dc_now : dc_in cells' j ≡ number +ℤ pos (bit_of_plane plane (read_bit (of_block l.state j) b) 0)
      unfolding number
      dc_now =
          let none = l.later j (omega arith) in
          let before : dc_in cells j ≡ number = l.have.dcs j inside ∙ ap (λ y. number +ℤ pos (if y then 2 ^ plane else 0)) none ∙ plus_none number in
          gives.dc free ∙ ap (λ z. z +ℤ pos (if b then 2 ^ plane else 0)) before ∙ sym (ap (λ y. number +ℤ pos (if y || (false ||
          (true && b)) then 2 ^ plane else 0)) none)

      have_end : HaveRead plane cells' marks numbers end
      unfolding end number
      have_end = record {
        has = has_put l.state j (read_bit (of_block l.state j) b) numbers (has_bit b low gives.keeps inside gives.given (λ q. l.none j q (omega arith))
            (let was = l.have.has j inside in record { bits = was.bits; minus = was.minus; raw = was.raw })) (λ i apart lt. has_others low gives.keeps
            (there i lt) (gives.others i (there i lt) apart) (l.have.has i (there i lt)));
        dcs = dcs_put l.state j (read_bit (of_block l.state j) b) plane cells' numbers dc_now (λ i apart lt. gives.other_dcs i (there i lt) apart ∙
            l.have.dcs i (there i lt));
        families = families_put l.state j (read_bit (of_block l.state j) b) marks refl l.have.families;
        options = options_put l.state j (read_bit (of_block l.state j) b) marks refl l.have.options;
      }

      pub dcs_more : {z : Point I} → IsIn z.input → HeldFlag k (Ok (Some b)) y z → DcsLeft k plane (j + 1) m numbers marks all cells' x z
      unfolding here rest after_bit end
      dcs_more {z} i flag =
          let u = of_block l.state j in
          let read : ReadsFrom k (bit_script 0 u) (got (read_bit u b)) y z = reads_then (ask_bit u (λ b. done b)) after_bit b (got (read_bit u b))
          (flag.read u) (reads_done (after_bit b) (read_bit u b) (leads_start (after_bit b) i)) in
          let all_read : Result (Option (Unit {0})) TextFault = Ok (Some tt) in
          let put : ReadsFrom k here (got end) y z = reads_around (with_block l.state j) (bit_script 0 u) all_read (read_bit u b) read in
          let next : suc j ≡ j + 1 = omega arith in
          record {
            state = end;
            later = λ r le.
                let off : (r == j) ≡ false = grind (arith, nat_tests) in
                ap (λ t. (if t then read_bit u b else l.state.blocks r).bits 0) off ∙ l.later r (omega (arith, le));
            none = λ r q le.
                let off : (r == j) ≡ false = grind (arith, nat_tests) in
                ap (λ t. (if t then read_bit u b else l.state.blocks r).raw q) off ∙ l.none r q (omega (arith, le));
            have = have_end;
            left = subst (λ a. LeadsTo k all (in_turn (dc_item true) a m end) x z) next (leads_then all (then_ask here rest) (rest end) left_is
                (leads_got here rest end put));
          }

-- before its bit the DC is the number's
pub dc_before : {I : Type 0} {k : SourceOf I} {plane j m : ℕ} {numbers : List
    (List ℤ)} {marks cells : List ℤ} {all : Script PlaneState PlaneState} {x y : Point I} → 64 * j < length cells →
    DcsLeft k plane j m numbers marks all cells x y →
    HasNoneBelow (plane + 1) (get_or (get_or numbers j []) 0 (pos 0)) → HasNoneBelow (plane + 1) (dc_in cells j)
dc_before {plane = plane} {j} {numbers = numbers} {cells = cells} inside l h =
    let number = get_or (get_or numbers j []) 0 (pos 0) in
    let same : dc_in cells j ≡ number = l.have.dcs j inside ∙ ap (λ y. number +ℤ pos (if y then 2 ^ plane else 0)) (l.later j (omega arith)) ∙
    plus_none number in
    subst (HasNoneBelow (plane + 1)) (sym same) h

-- ---- the stage

quiet : {plane : ℕ} {cells marks : List ℤ} {numbers : List (List ℤ)} (n j : ℕ) → 64 * (j + n) ≤ length cells → (p : PlaneState) →
    HaveRead plane cells marks numbers p →
    (q : PlaneState) × (in_turn (dc_item false) j n p ≡ done q) × HaveRead plane cells marks numbers q
quiet zero j within p have = (p, refl, have)
quiet (suc n) j within p have = quiet n (suc j) (omega (arith, within)) (with_block p j (of_block p j)) (read_same p j (omega (arith, within)) have)

module _ (t : Terms) (depths : List ℕ) (numbers : List (List ℤ)) (same : length depths ≡ length numbers) where
  stage_is : (b : Bool) → (coded t.weights t.plane 0 && nat_lt t.plane t.q) ≡ b → blocks_script t depths numbers 0 nothing_yet ≡ in_turn (dc_item b) 0
      (length numbers) nothing_yet
  stage_is b e = ap (λ y. in_turn (dc_item y) 0 (length depths) nothing_yet) e ∙ ap (λ n. in_turn (dc_item b) 0 n nothing_yet) same

  pub quiet_stage : {I : Type 0} {k : SourceOf I} {plane : ℕ} {cells marks : List ℤ} {x : SourceState I} → IsIn x → length cells ≡ 64 * length numbers →
      (coded t.weights t.plane 0 && nat_lt t.plane t.q) ≡ false → HaveRead plane cells marks numbers nothing_yet →
      TakesStage k plane numbers (blocks_script t depths numbers 0 nothing_yet) (Ok Whole) cells marks x x
  quiet_stage {k = k} {x = x} i whole off have =
      let q = quiet (length numbers) 0 (omega (arith, whole)) nothing_yet have in
      record {
        now = q.0;
        has = q.2.has;
        dcs = q.2.dcs;
        families = q.2.families;
        options = q.2.options;
        read = subst (λ s. ReadsAs k s (got q.0) x x) (sym (stage_is false off ∙ q.1)) (read_done q.0 x i);
      }

  module _ {I : Type 0} {k : SourceOf I} {plane : ℕ} {cells marks : List ℤ} {x y z : Point I} (on : (coded t.weights t.plane 0 && nat_lt t.plane t.q) ≡ true)
      (none : x.read ≡ []) (stays : Stays k y z) (none_then : z.read ≡ []) (kept : y.read ≡ [] → z.input ≡ y.input) where
    dcs_whole : HeldDcs k plane numbers (in_turn (dc_item true) 0 (length numbers) nothing_yet) (Ok Whole) cells marks x y →
        TakesStage k plane numbers (blocks_script t depths numbers 0 nothing_yet) (Ok Whole) cells marks x.input z.input
    dcs_whole h = record {
      now = h.now;
      has = h.has;
      dcs = h.dcs;
      families = h.families;
      options = h.options;
      read = subst (λ s. ReadsAs k s (got h.now) x.input z.input) (sym (stage_is true on)) (reads_closed (in_turn (dc_item true) 0
          (length numbers) nothing_yet) (got h.now) none h.read stays none_then kept);
    }

    dcs_ended : HeldDcs k plane numbers (in_turn (dc_item true) 0 (length numbers) nothing_yet) (Ok Ended) cells marks x y →
        TakesStage k plane numbers (blocks_script t depths numbers 0 nothing_yet) (Ok Ended) cells marks x.input z.input
    dcs_ended h = record {
      now = h.now;
      has = h.has;
      dcs = h.dcs;
      families = tt;
      options = tt;
      read = subst (λ s. ReadsAs k s (ends h.now) x.input z.input) (sym (stage_is true on)) (reads_closed (in_turn (dc_item true) 0
          (length numbers) nothing_yet) (ends h.now) none h.read stays none_then kept);
    }

    dcs_failed : (fault : TextFault) → HeldDcs k plane numbers (in_turn (dc_item true) 0 (length numbers) nothing_yet) (Err fault) cells marks x y →
        TakesStage k plane numbers (blocks_script t depths numbers 0 nothing_yet) (Err fault) cells marks x.input z.input
    dcs_failed fault h = record {
      now = h.now;
      has = h.has;
      dcs = h.dcs;
      families = tt;
      options = tt;
      read = subst (λ s. ReadsAs k s (by_fault fault h.now) x.input z.input) (sym (stage_is true on)) (reads_closed (in_turn (dc_item true) 0
          (length numbers) nothing_yet) (by_fault fault h.now) none h.read stays none_then kept);
    }

    pub dcs_closed : (result : Result Part TextFault) → HeldDcs k plane numbers (in_turn (dc_item true) 0
        (length numbers) nothing_yet) result cells marks x y → TakesStage k plane numbers
        (blocks_script t depths numbers 0 nothing_yet) result cells marks x.input z.input
    dcs_closed (Ok Whole) h = dcs_whole h
    dcs_closed (Ok Ended) h = dcs_ended h
    dcs_closed (Err fault) h = dcs_failed fault h

pub due_low : (a : Bool) (plane q : ℕ) → (a && nat_lt plane q) ≡ true → plane < q
due_low true plane q e = grind (arith, nat_tests)
due_low false plane q e = cc

pub dcs_await : {plane q : ℕ} (numbers : List (List ℤ)) → plane < q → AwaitDcs (plane + 1) q numbers → (r : ℕ) → r < length numbers →
    HasNoneBelow (plane + 1) (get_or (get_or numbers r []) 0 (pos 0))
dcs_await {plane} {q} numbers low await r lt =
    let e : min (plane + 1) q ≡ plane + 1 = omega (arith, low) in
    subst (λ n. HasNoneBelow n (get_or (get_or numbers r []) 0 (pos 0))) e (await r lt)

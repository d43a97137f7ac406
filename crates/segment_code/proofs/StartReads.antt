-- The parts of a coded segment before its planes, read one after another.
use Rattle.std.proofs.Common.{if◌then◌else◌, ◌==◌, nat_lt, ◌≤◌, subst, unsigned_abs, ◌++◌, ◌≡◌, ℕ, ◌+◌, ◌*◌, ◌<◌, ◌^◌, ℤ, pos, ◌-◌, ◌*ℤ◌, List, [], length}
use Rattle.std.proofs.Common.{Bool, true, false, refl, sym, ap, ◌∙◌, arith, get_or, Option, Some, None, Result, Ok, Err}
use Rattle.item_defs.specs.Items.{Form, Refusal, bad_option, bad_delta, bad_depth, false_flag}
use Rattle.wave_defs.specs.Held.{block_at, blocks_in}
use Rattle.bit_pipe.specs.declared.fault.Part.{Part}
use Rattle.bit_pipe.specs.declared.fault.Part.TheVariants.{Whole, Ended}
use Rattle.bit_pipe.specs.declared.fault.TextFault.{TextFault}
use Rattle.bit_pipe.specs.declared.fault.TextFault.TheVariants as texts
use Rattle.bit_pipe.specs.Sources.{SourceOf}
use Rattle.bit_pipe.specs.SourceState.{SourceState, IsIn}
use Rattle.plane_defs.specs.Marks.{depths_of}
use Rattle.segment_defs.specs.declared.head.SegmentHead.{SegmentHead}
use Rattle.segment_defs.specs.TextWish.{TextWish, segment_read}
use Rattle.segment_defs.specs.Head.{IsHead}
use Rattle.segment_defs.specs.SegmentItems.{dc_shift, q_of}
use Rattle.item_defs.specs.Outcomes.{Outcome, whole, cut, refused, first_number}
use Rattle.item_defs.specs.Scripts.{Script, done, ask, then_ask, around, beside, unless_named, answered, run}
use Rattle.item_defs.proofs.ScriptAround.{around_beside, put_outcome, run_around}
use Rattle.bit_pipe.specs.ScriptSources.{Found, got, ends, refuses, ReadsAs, Gets, GoesOn, by_fault, by_part}
use Rattle.bit_pipe.proofs.ScriptReading.{gets_goes_on, read_on, read_done, in_read, read_then, read_cut, read_fault}
use Rattle.item_defs.proofs.Completing.{end_is, ends_of_goes}
use Rattle.std.proofs.lemmas.Int.{unsigned_abs-mul}
use Rattle.std.proofs.lemmas.Bool.Decides.{nat_tests}
use Rattle.number_defs.specs.Ranges.{IsInRange}
use Rattle.number_defs.specs.DcPart.{dc_bits, dc_planes}
use Rattle.number_defs.specs.DcScript.{dc_script}
use Rattle.number_defs.specs.DepthScript.{depths_script}
use Rattle.number_defs.specs.ScriptLaws.{AreGiven}
use Rattle.number_defs.proofs.DepthLaws.{depth_laws}
use Rattle.number_defs.proofs.DcLaws.{dc_laws}
use Rattle.number_defs.specs.DcLows.{dc_given}
use Rattle.dc_depths.specs.declared.reach.DcReach.{DcReach}
use Rattle.dc_depths.specs.Dcs.{block_count, TakesDcs}
use Rattle.dc_depths.specs.Reach.{ReachesDcs}
use Rattle.dc_depths.specs.Depths.{TakesDepths}
use Rattle.dc_depths.proofs.DcReads.{around_part, without_reach, reach_part, dc_alone}
use Rattle.plane_defs.specs.Lows.{Given}
use Rattle.plane_reader.specs.Restoring.{dc_low}
use Rattle.segment_defs.specs.Given.{dc_blocks_given, dc_part_given, planes_part_given, segment_given}
use Rattle.segment_defs.proofs.SegmentWritten.{low_same}
use Rattle.segment_code.specs.Starts.{AreClear, low_bits, HasDc, TakesText, AwaitsPlanes, EndsAtDcs, numbers_read}
use Rattle.segment_code.proofs.BlocksHeld.{block_long, dc_there, ac_there, blocks_are, marks_are}

-- ---- a part beside which other things are given

module _ {G H A : Type 0} (h : H) where
  abbrev outcome_beside : Outcome G A → Outcome H A
  outcome_beside (whole a left) = whole a left
  outcome_beside (cut g) = cut h
  outcome_beside (refused g name left) = refused h name left

  unless_beside : (g : G) (name : Option Refusal) (left : List Bool) (o : Outcome G A) →
      unless_named h name left (outcome_beside o) ≡ outcome_beside (unless_named g name left o)
  unless_beside g (Some name) left o = refl
  unless_beside g None left o = refl

  answered_beside : (g : G) (form : Form) (f : ℕ → List Bool → Outcome G A) (o : Option (ℕ × List Bool)) → answered h form
      (λ n left. outcome_beside (f n left)) o ≡ outcome_beside (answered g form f o)
  answered_beside g form f (Some p) = unless_beside g (form.refusal p.0) p.1 (f p.0 p.1)
  answered_beside g form f None = refl

  run_beside : (s : Script G A) (bits : List Bool) → run (beside h s) bits ≡ outcome_beside (run s bits)
  run_beside (done a) bits = refl
  run_beside (ask g form more) bits = (λ i. answered h form (λ n left. run_beside (more n) left i) (first_number form.shape bits)) ∙ answered_beside g form
      (λ n. run (more n)) (first_number form.shape bits)

  in_beside : (s : Script G A) (bits : List Bool) (o : Outcome G A) → run s bits ≡ o → run (beside h s) bits ≡ outcome_beside o
  in_beside s bits o e = run_beside s bits ∙ ap outcome_beside e

module _ {I H A : Type 0} {k : SourceOf I} (h : H) (s : Script A A) (given : A) {a b : SourceState I} where
  refused_beside : (name : Refusal) → ReadsAs k s (refuses given name) a b → ReadsAs k (beside h s) (refuses h name) a b
  refused_beside name p = record {
    bits = p.bits;
    taken = p.taken;
    says = λ more. in_beside h s (p.bits ++ more) (refused given name more)
        (p.says more);
    stops = tt;
  }

  pub beside_got : ReadsAs k s (got given) a b → ReadsAs k (beside h s) (got given) a b
  beside_got p = record { bits = p.bits; taken = p.taken; says = λ more. in_beside h s (p.bits ++ more) (whole given more) (p.says more); stops = tt }

  pub beside_cut : ReadsAs k s (ends given) a b → ReadsAs k (beside h s) (ends h) a b
  beside_cut p = record { bits = p.bits; taken = p.taken; says = in_beside h s p.bits (cut given) p.says; stops = p.stops }

  pub beside_fault : (fault : TextFault) → ReadsAs k s (by_fault fault given) a b → ReadsAs k (beside h s) (by_fault fault h) a b
  beside_fault texts.BadOption p = refused_beside bad_option p
  beside_fault texts.BadDelta p = refused_beside bad_delta p
  beside_fault texts.BadDepth p = refused_beside bad_depth p
  beside_fault texts.FalseFlag p = refused_beside false_flag p
  beside_fault texts.ReadFault p = record { bits = p.bits; taken = p.taken; says = in_beside h s p.bits (cut given) p.says; stops = p.stops }
  beside_fault texts.LongInput p = record { bits = p.bits; taken = p.taken; says = in_beside h s p.bits (cut given) p.says; stops = p.stops }
  beside_fault texts.Broken p = record { bits = p.bits; taken = p.taken; says = in_beside h s p.bits (cut given) p.says; stops = p.stops }

-- ---- a part, and then the next, around which what they give is put

module _ {S T : Type 0} (put : S → T) (r : Script S S) (next : S → Script S S) where
  goes_on_put : (xs : List Bool) (a : S) → Gets r xs a → GoesOn (around put (then_ask r next)) xs (around put (next a))
  goes_on_put xs a q more =
      run_around put (then_ask r next) (xs ++ more) ∙ ap (put_outcome put) (gets_goes_on r next xs a q more) ∙ sym (run_around put (next a) more)

  pub read_put : {I : Type 0} {k : SourceOf I} (a : S) (f : Found T T) {old mid new : SourceState I} → ReadsAs k r (got a) old mid →
      ReadsAs k (around put (next a)) f mid new → ReadsAs k (around put (then_ask r next)) f old new
  read_put a f p q = read_on (around put (then_ask r next)) (around put (next a)) p.bits f (goes_on_put p.bits a p.says) p.taken q

-- ---- a segment

module _ (wish : TextWish) (head : SegmentHead) where
  abbrev depths : Script (List ℕ) (List ℕ)
  depths = depths_script head.depth_ac head.blocks

  -- what follows the DC part, what follows that if the text goes on, and the planes as they are read
  abbrev after_dc : Given → Script Given Given
  after_dc g = if head.stop.dc then done g else then_ask (beside g (depths_script head.depth_ac head.blocks)) (planes_part_given wish.book head g)

  abbrev planes_read : Given → List ℕ → Script (List (List ℤ)) (List (List ℤ))
  planes_read g marks = around (numbers_read wish head) (planes_part_given wish.book head g marks)

  abbrev depths_on : Given → Script (List (List ℤ)) (List (List ℤ))
  depths_on g = then_ask (beside (numbers_read wish head g) (depths_script head.depth_ac head.blocks)) (planes_read g)

  after_is : (g : Given) → head.stop.dc ≡ false → around (numbers_read wish head) (after_dc g) ≡ depths_on g
  after_is g e = rw e (around_beside (numbers_read wish head) g (planes_part_given wish.book head g) (planes_read g) (λ ds. refl) depths)

  text_read : {I : Type 0} {k : SourceOf I} (result : Result Part TextFault) (g : Given) (blocks : List (List ℤ)) {a b : SourceState I} →
      blocks ≡ numbers_read wish head g → ReadsAs k (segment_given wish.book head) (by_part result g g) a b →
      ReadsAs k (segment_read wish head) (by_part result blocks blocks) a b
  unfolding segment_read
  text_read result g blocks e p = rw e (around_part (numbers_read wish head) (segment_given wish.book head) g result p)

module _ {I : Type 0} (k : SourceOf I) (head : SegmentHead) (result : Result (Part × DcReach) TextFault) (a b : SourceState I) (before now : List ℤ) where
  -- the DC part was read
  abbrev pub ReadsDcs : Type 0
  ReadsDcs = ReachesDcs k (dc_given head.depth_dc head.depth_ac (dc_shift head) (block_count before)) (q_of head)
      (q_of head - dc_planes head.depth_dc head.depth_ac (dc_shift head)) result a b before now

dc_count : (before : List ℤ) (n : ℕ) → length before ≡ 64 * n → block_count before ≡ n
dc_count before n long = omega (arith, long)

module _ {I : Type 0} {k : SourceOf I} (wish : TextWish) (head : SegmentHead) {a b : SourceState I} {before now : List ℤ}
    (long : length before ≡ 64 * head.blocks) (clear : AreClear before) where
  module _ {result : Result (Part × DcReach) TextFault} (t : ReadsDcs k head result a b before now) where
    abbrev given : Given
    given = dc_blocks_given head.blocks t.given

    part_read : ReadsAs k (dc_part_given head) (by_part (without_reach result) given given) a b
    part_read = around_part (dc_blocks_given head.blocks) (dc_given head.depth_dc head.depth_ac (dc_shift head) head.blocks) t.given (without_reach result)
        (rw (dc_count before head.blocks long, reach_part result t.given) at t.read)

  module _ (reach : DcReach) (part : Part) (t : ReadsDcs k head (Ok (part, reach)) a b before now) {later : List ℤ}
      (e : EndsAtDcs wish.restore head reach now later) where
    ended : blocks_in later ≡ numbers_read wish head (given t)
    ended = e.numbers t.given before long clear t.cells (rw (dc_count before head.blocks long) at t.reached.0)

  pub text_fault : (fault : TextFault) → ReadsDcs k head (Err fault) a b before now → TakesText k wish head (Err fault) a b now
  text_fault fault t = (
    numbers_read wish head (given t),
    text_read wish head (Err fault) (given t) _ refl (read_fault (dc_part_given head) (after_dc wish head) (given t) fault (part_read t)),
  )

  pub text_cut : (reach : DcReach) → ReadsDcs k head (Ok (Ended, reach)) a b before now → {later : List ℤ} →
      EndsAtDcs wish.restore head reach now later → TakesText k wish head (Ok Ended) a b later
  text_cut reach t e = text_read wish head (Ok Ended) (given t) _ (ended reach Ended t e)
      (read_cut (dc_part_given head) (after_dc wish head) (given t) (part_read t))

  module _ (reach : DcReach) (t : ReadsDcs k head (Ok (Whole, reach)) a b before now) where
    pub text_stops : IsIn a → head.stop.dc ≡ true → {later : List ℤ} → EndsAtDcs wish.restore head reach now later →
        TakesText k wish head (Ok Whole) a b later
    text_stops h stop e = text_read wish head (Ok Whole) (given t) _ (ended reach Whole t e)
        (read_then (dc_part_given head) (after_dc wish head) (given t) (got (given t)) (part_read t) (rw stop (read_done (given t) b (in_read h t.read))))

    module _ (on : head.stop.dc ≡ false) where
      after_depths : (f : Found (List (List ℤ)) (List (List ℤ))) {d : SourceState I} → ReadsAs k (depths_on wish head (given t)) f b d →
          ReadsAs k (segment_read wish head) f a d
      unfolding segment_read
      after_depths f {d} p = read_put (numbers_read wish head) (dc_part_given head) (after_dc wish head) (given t) f (part_read t)
          (subst (λ s. ReadsAs k s f b d) (sym (after_is wish head (given t) on)) p)

      module _ {c : SourceState I} {marks : List ℤ} (count : length marks ≡ head.blocks) where
        pub depths_fault : (fault : TextFault) → TakesDepths k head.depth_ac (Err fault) b c marks → TakesText k wish head (Err fault) a c now
        depths_fault fault u =
            let blocks = numbers_read wish head (given t) in (
              blocks,
              after_depths (by_fault fault blocks)
                  (read_fault _ _ blocks fault (beside_fault blocks (depths wish head) u.given fault (rw count at u.read))),
            )

        pub depths_cut : TakesDepths k head.depth_ac (Ok Ended) b c marks → {later : List ℤ} → EndsAtDcs wish.restore head reach now later →
            TakesText k wish head (Ok Ended) a c later
        depths_cut u {later} e =
            let blocks = numbers_read wish head (given t) in
            let read : ReadsAs k (segment_read wish head) (ends blocks) a c = after_depths (ends blocks) (read_cut _ _ blocks
            (beside_cut blocks (depths wish head) u.given (rw count at u.read))) in
            subst (λ w. ReadsAs k (segment_read wish head) (ends w) a c) (sym (ended reach Whole t e)) read

        module _ (fits : IsHead head) (h : IsIn a) (u : TakesDepths k head.depth_ac (Ok Whole) b c marks) where
          given_long : length u.given ≡ head.blocks
          given_long =
              let read = rw count at u.read in
              (end_is _ (depths wish head) (depth_laws.ends head.depth_ac head.blocks) (read.bits ++ []) [] u.given (read.says [])).0

          given_low : (r : ℕ) → get_or u.given r 0 < 32
          given_low r = omega (arith, u.low r, fits.depth_ac)

          same_depths : depths_of marks ≡ u.given
          same_depths = marks_are marks u.given (given_long ∙ sym count) given_low u.marks

          has_dc : (r : ℕ) → r < head.blocks → HasDc head (block_at now r)
          has_dc r lt =
              record {
                whole = block_long now head.blocks r (t.cells.size ∙ long) lt;
                acs = ac_there head.blocks alone.given long clear alone.cells r lt;
                part = unsigned_abs number.0;
                dc = ap unsigned_abs (dc_there head.blocks alone.given long clear alone.cells r lt) ∙ size;
              }
            where
              alone : TakesDcs k (dc_script head.depth_dc head.depth_ac (dc_shift head) (block_count before)) (Ok Whole) a b before now
              alone = dc_alone head.depth_dc head.depth_ac (dc_shift head) (Ok (Whole, reach)) t

              number : (z : ℤ) × IsInRange true (dc_bits head.depth_dc head.depth_ac (dc_shift head) + dc_planes head.depth_dc head.depth_ac
                  (dc_shift head)) z × (alone.given r ≡ z *ℤ pos (2 ^ (q_of head - dc_planes head.depth_dc head.depth_ac (dc_shift head))))
              number =
                  let script = dc_script head.depth_dc head.depth_ac (dc_shift head) (block_count before) in
                  let are : (ℕ → ℤ) → Type 0 = AreGiven (dc_bits head.depth_dc head.depth_ac (dc_shift head)) (q_of head)
                  (dc_planes head.depth_dc head.depth_ac (dc_shift head)) (block_count before) in
                  let laws = dc_laws head.depth_dc head.depth_ac (dc_shift head) (block_count before) in
                  end_is are script (ends_of_goes are script laws.goes) (alone.read.bits ++ []) [] alone.given (alone.read.says []) r
                  (omega (arith, lt, dc_count before head.blocks long))

              size : unsigned_abs (alone.given r) ≡ 2 ^ low_bits head * unsigned_abs number.0
              size =
                  let low : q_of head - dc_planes head.depth_dc head.depth_ac (dc_shift head) ≡ low_bits head = omega arith in
                  ap unsigned_abs number.2 ∙ unsigned_abs-mul number.0 _ ∙ rw low (omega arith)

          -- all DCs are given down to one plane
          dc_lows : (r : ℕ) → r < head.blocks → t.given.lows r ≡ Some (dc_low head.image.weights.shifts (q_of head) head.depth_ac)
          dc_lows r lt =
              let all = rw t.reached.1 at t.reached.0 in
              let inside : r < block_count before = omega (arith, lt, dc_count before head.blocks long) in
              let here : nat_lt r (block_count before) ≡ true = grind (arith, nat_tests) in
              let low : q_of head - dc_planes head.depth_dc head.depth_ac (dc_shift head) ≡ dc_low head.image.weights.shifts (q_of head) head.depth_ac =
              sym (low_same head) ∙ omega arith in
              all.at r inside ∙ rw here (ap Some low)

          pub awaits_planes : AwaitsPlanes k wish head a c now marks
          awaits_planes = record {
            given = given t;
            numbers = sym (blocks_are head.blocks t.given.dcs long clear t.cells);
            dc_lows = dc_lows;
            ac_lows = λ r p ac. let apart : (p == 0) ≡ false = (let some : 1 ≤ p = ac.0 in grind (arith, nat_tests)) in rw apart refl;
            left = λ f last q.
                let blocks = numbers_read wish head (given t) in
                after_depths f (read_then (beside blocks (depths wish head)) (planes_read wish head (given t)) u.given f
                (beside_got blocks (depths wish head) u.given (rw count at u.read)) (rw same_depths at q));
            is_in = in_read (in_read h t.read) u.read;
            dcs = has_dc;
            low = λ r. rw same_depths (u.low r);
          }

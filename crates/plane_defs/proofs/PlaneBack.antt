-- What is read of a plane is what its values write, if what it leaves is theirs.
use Rattle.std.proofs.Common.{◌≡◌, ℕ, suc, ◌+◌, ◌/◌, ◌≤◌, ◌<◌, ◌==◌, ◌&&◌, ◌||◌, nat_lt, Bool, true, false, if◌then◌else◌, List, [], length, refl, ap, sym}
use Rattle.std.proofs.Common.{◌∙◌, subst, arith, ℤ, pos, Option, Some, None}
use Rattle.std.specs.List.{list_any}
use Rattle.std.proofs.lemmas.Bool.Decides.{nat_tests}
use lib.ListN.{get_or}
use Rattle.item_defs.specs.Bits.{bit}
use Rattle.item_defs.specs.Items.{Item}
use Rattle.plane_defs.specs.declared.entries.Entry.{Entry}
use Rattle.plane_defs.specs.Sets.{magnitude, significant, newly_significant, refined}
use Rattle.plane_defs.specs.Codes.{is_book_sound}
use Rattle.plane_defs.specs.Entries.{negative}
use Rattle.plane_defs.specs.Planes.{Plane, before_stage}
use Rattle.plane_defs.specs.Reading.{plane_reading}
use Rattle.plane_defs.specs.Spelled.{is_word_of, option_of as chosen_of}
use Rattle.plane_defs.specs.StepLaws.{IsAc, SameAc}
use Rattle.plane_defs.specs.Laws.{IsMultiple}
use Rattle.item_defs.specs.Scripts.{Script, around}
use Rattle.item_defs.specs.Following.{Follows}
use Rattle.item_defs.specs.Completing.{ArePossible}
use Rattle.item_defs.proofs.Completing.{are_possible}
use Rattle.plane_defs.specs.Written.{Knows, AreChosen}
use Rattle.plane_defs.specs.States.{State}
use Rattle.plane_defs.specs.StageScripts.{Terms, stage_script}
use Rattle.plane_defs.specs.PlaneScript.{PlaneState, nothing_yet, of_block, with_block, blocks_script, plane_script}
use Rattle.plane_defs.proofs.PlaneItems.{plane_are_items}
use Rattle.plane_defs.proofs.PlaneSent as sent
use Rattle.plane_defs.proofs.Answers.{May, never, may_weaker, Decided, decided_more, decided_with, decided_around, decided_in_turn, one_path}
use Rattle.plane_defs.proofs.WordsBack.{Later}
use Rattle.plane_defs.proofs.StageAnswers.{Chain, Left, facts_may}
use Rattle.plane_defs.proofs.PlaneAnswers.{Turn, turn_none, item_may, turn_may}
use Rattle.plane_defs.proofs.StageBack as stage
use Rattle.plane_defs.proofs.BlockBack as back

-- the number of blocks' gaggles
in_gaggles : (r count : ℕ) → r < count → r / 16 < (count + 15) / 16
in_gaggles r count lt = omega (arith, lt)

knows_later : (o : List ℕ) (before : List Entry) (options : ℕ → Option ℕ) → Knows o before options → Later o options
knows_later o before options knows n x low high is = by (list_any (is_word_of n) before) (sym is ∙ knows n low high)
  where
    by : (b : Bool) → Some x ≡ (if b then Some (chosen_of o n) else None) → chosen_of o n ≡ x
    by b h1 = grind (arith, nat_tests)

module _ (o : ℕ → List ℕ) (chosen : (g : ℕ) → AreChosen (o g)) (t : Terms) (is_sound : is_book_sound t.book ≡ true) (depths : List ℕ)
    (blocks values : List (List ℤ)) (same : (r : ℕ) → SameAc (get_or blocks r []) (get_or values r []) (t.plane + 1))
    (whole : (r : ℕ) → IsMultiple (get_or values r []) t.weights)
    (none : (r : ℕ) → nat_lt t.plane (get_or depths r 0) ≡ false → (q : ℕ) → IsAc q → significant (get_or values r []) t.plane q ≡ false) where
  abbrev p : Plane
  p = sent.p o chosen t depths blocks values same whole none

  abbrev count : ℕ
  count = length depths

  abbrev Final : ℕ → State → Type 0
  Final r = back.Final (o (r / 16)) (chosen (r / 16)) t is_sound (get_or blocks r []) (get_or values r []) (same r) (whole r) (get_or depths r 0)

  abbrev Unread : (r k : ℕ) → State → Type 0
  Unread r k = back.Unread (o (r / 16)) (chosen (r / 16)) t is_sound (get_or blocks r []) (get_or values r []) (same r) (whole r) (get_or depths r 0) k

  abbrev item : (k i : ℕ) → PlaneState → Script PlaneState PlaneState
  item k i u = around (with_block u i) (stage_script t k (get_or depths i 0) (get_or blocks i []) (of_block u i))

  -- the stages from the k-th on leave what the values have
  abbrev Ends : (k r : ℕ) → State → Type 0
  Ends k r s = (n : ℕ) × (end : State) × (k + n ≡ 5) × Chain t (get_or blocks r []) (get_or depths r 0) k n s end × Final r end

  abbrev Options : PlaneState → Type 0
  Options u = (r : ℕ) → r < count → Later (o (r / 16)) (u.options (r / 16))

  -- before stage k
  abbrev Fresh : ℕ → PlaneState → Type 0
  Fresh k u = (r : ℕ) → r < count → Unread r k (u.blocks r)

  abbrev Leads : ℕ → PlaneState → Type 0
  Leads k u = Options u × ((r : ℕ) → r < count → Ends k r (u.blocks r))

  options_on : (u w : PlaneState) → ((g n x : ℕ) → u.options g n ≡ Some x → w.options g n ≡ Some x) → Options w → Options u
  options_on u w more later r lt n x low high is = later r lt n x low high (more (r / 16) n x is)

  -- within stage k, before block i
  abbrev Rest : (k i : ℕ) → PlaneState → Type 0
  Rest k i u = (r : ℕ) → i ≤ r → r < count → Unread r k (u.blocks r)

  abbrev Past : (k i : ℕ) → PlaneState → Type 0
  Past k i u = Options u × ((r : ℕ) → r < i → r < count → Ends (suc k) r (u.blocks r))

  item_decided : (k i : ℕ) → k < 5 → i < count → (u : PlaneState) → Rest k i u →
      May false (item k i u) (λ w. Rest k (suc i) w × (Past k (suc i) w → Past k i u)) × Decided (item k i u) (Past k (suc i))
  item_decided k i few lt u rest =
      let O = o (i / 16) in
      let C = chosen (i / 16) in
      let v = get_or values i [] in
      let block = get_or blocks i [] in
      let depth = get_or depths i 0 in
      let s = of_block u i in
      let script = stage_script t k depth block s in (
        may_weaker false (Turn false t is_sound depths blocks k i (suc i) u) (λ w. Rest k (suc i) w × (Past k (suc i) w → Past k i u)) (item k i u)
            (λ w z. (
              λ r low small. subst (Unread r k) (sym (z.late r low)) (rest r (omega (arith, low)) small),
              λ h. (
                options_on u w z.more h.0,
                λ r low small. subst (Ends (suc k) r) (z.early r low) (h.1 r (omega (arith, low)) small),
              ),
            )) (item_may false t is_sound depths blocks k i i u u (omega arith) (turn_none false t is_sound depths blocks k i u never)),
        decided_around (Past k (suc i)) (with_block u i) script
            (decided_with (Left false t is_sound block depth k s (u.options (i / 16))) (stage.Says O C t is_sound block v (same i) (whole i) depth k)
            (λ e. Past k (suc i) (with_block u i e)) script
            (λ e z h.
            let c = subst (Ends (suc k) i) (put e) (h.1 i (omega arith) lt) in
            let w = c.2 in
            back.says O C t is_sound block v (same i) (whole i) depth c.1 c.4 k c.0 (omega (arith, w)) s e (rest i (omega arith) lt) z.2
            (λ n x low high is. h.0 i lt n x low high (kept e n ∙ is)) c.3)
            (facts_may false t is_sound block depth k s (u.options (i / 16)) never)
            (stage.stage_decided O C t is_sound block v (same i) (whole i) depth k few s
            (back.start_of O C t is_sound block v (same i) (whole i) depth k few s (rest i (omega arith) lt)))),
      )
    where
      put : (b : State) → (with_block u i b).blocks i ≡ b
      put b = let e : (i == i) ≡ true = grind (arith, nat_tests) in ap (λ (x : Bool). if x then b else u.blocks i) e

      kept : (b : State) (n : ℕ) → (with_block u i b).options (i / 16) n ≡ b.options n
      kept b n = grind (arith, nat_tests)

  stage_decided : (k : ℕ) → k < 5 → (u : PlaneState) → Fresh k u →
      May false (blocks_script t depths blocks k u) (λ w. Fresh (suc k) w × (Leads (suc k) w → Leads k u)) ×
      Decided (blocks_script t depths blocks k u) (Leads (suc k))
  stage_decided k few u fresh = (
    may_weaker false (Turn false t is_sound depths blocks k 0 (0 + count) u) (λ w. Fresh (suc k) w × (Leads (suc k) w → Leads k u))
        (blocks_script t depths blocks k u) (λ w z. (
          λ r lt. back.unread_next (o (r / 16)) (chosen (r / 16)) t is_sound (get_or blocks r []) (get_or values r []) (same r) (whole r) (get_or depths r 0) k
              (u.blocks r) (w.blocks r) (fresh r lt) (z.done r (omega arith) (omega (arith, lt))),
          λ h. (
            options_on u w z.more h.0,
            λ r lt.
                let c = h.1 r lt in
                let size = c.2 in
                (suc c.0, c.1, omega (arith, size), (w.blocks r, z.done r (omega arith) (omega (arith, lt)), c.3), c.4),
          ),
        )) (turn_may false t is_sound depths blocks k 0 count u never),
    decided_more (Past k (0 + count)) (Leads (suc k)) (blocks_script t depths blocks k u) (λ w h. (h.0, λ r low lt. h.1 r lt))
        (decided_in_turn (Rest k) (Past k) (item k) 0 count (λ i w low lt rest. item_decided k i few (omega (arith, lt)) w rest) u
        (λ r low lt. fresh r lt)).1,
  )

  plane_decided : Decided (plane_script t depths blocks 5) (Leads 5)
  plane_decided = (decided_in_turn Fresh Leads (blocks_script t depths blocks) 0 5 (λ k u low lt fresh. stage_decided k (omega (arith, lt)) u fresh) nothing_yet
      (λ r lt q out. (refl, refl))).1

  -- what the values write ends so
  written_leads : (u : PlaneState) → sent.Bound o chosen t depths blocks values same whole none 5 0 u → Leads 5 u
  written_leads u bound = (
    λ r lt. knows_later (o (r / 16)) (before_stage p (if nat_lt (r / 16) 0 then 6 else 5) (r / 16)) (u.options (r / 16))
        (bound.known (r / 16) (in_gaggles r count lt)),
    λ r lt. (let w = bound.left r (omega arith) lt in (
      0,
      u.blocks r,
      refl,
      refl,
      record {
        bits = λ q ac. w.1.bits q ac ∙ inside q ac.1 (λ y. (y && newly_significant (get_or values r []) t.weights t.plane q) || (y &&
            (refined (get_or values r []) t.weights t.plane q && bit (magnitude (get_or values r []) q) t.plane)));
        minus = λ q ac. w.1.minus q ac ∙ inside q ac.1 (λ y. y && (newly_significant (get_or values r []) t.weights t.plane q && negative
            (get_or (get_or values r []) q (pos 0))));
        low = w.1.low;
      },
    )),
  )
    where
      inside : (q : ℕ) → q < 64 → (f : Bool → Bool) → f (nat_lt q 64) ≡ f true
      inside q lt f = let e : nat_lt q 64 ≡ true = grind (arith, nat_tests) in ap f e

  -- the items of a whole plane
  pub plane_back : (end : PlaneState) → ((g : ℕ) → Later (o g) (end.options g)) → ((r : ℕ) → r < count → Final r (end.blocks r)) → (l : List Item) →
      ArePossible l → Follows (plane_script t depths blocks 5) l end → l ≡ plane_reading t.book o p 5
  plane_back end later final l are f =
      let x = sent.plane_bound o chosen t depths blocks values same whole none 5 (omega arith) in
      one_path (Leads 5) (plane_script t depths blocks 5) plane_decided l (plane_reading t.book o p 5) end x.end are
      (are_possible (plane_reading t.book o p 5) (plane_are_items t.book is_sound o (λ g. record { at = chosen g }) p whole 5)) f x.follows
      (λ r lt. later (r / 16), λ r lt. (0, end.blocks r, refl, refl, final r lt)) (written_leads x.end x.is)

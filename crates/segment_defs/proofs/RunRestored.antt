-- What any bits are restored to, to the end or to a cut, are multiples of their weights.
use Rattle.std.proofs.Common.{◌≡◌, ◌≤◌, ◌<◌, ℕ, zero, suc, ◌+◌, ◌-◌, ◌==◌, min, Bool, true, false, if◌then◌else◌, List, [], length}
use Rattle.std.proofs.Common.{sym, ◌∙◌, subst, arith, None, pos}
use Rattle.std.proofs.lemmas.Bool.Decides.{nat_tests}
use lib.ListN.{get_or}
use Rattle.base_122.specs.declared.book.Book.{Book}
use Rattle.base_122.proofs.ShiftLaws.{shift_low}
use Rattle.item_defs.specs.Outcomes.{whole, cut}
use Rattle.item_defs.specs.Scripts.{done, then_ask, beside, run}
use Rattle.item_defs.proofs.ScriptYields.{Yields, yields_then, yields_around, yields_beside, yields_any, whole_read, cut_read}
use Rattle.item_defs.proofs.Room.{Room, room_less}
use Rattle.number_defs.specs.DcPart.{dc_bits, dc_planes}
use Rattle.number_defs.specs.DcLows.{DcGiven, dc_given}
use Rattle.number_defs.specs.DepthScript.{depths_script}
use Rattle.number_defs.proofs.DepthLaws.{depth_laws}
use Rattle.number_defs.proofs.DcRoom as dcs
use Rattle.plane_defs.specs.Sets.{magnitude, shift}
use Rattle.plane_defs.specs.Codes.{is_book_sound}
use Rattle.plane_defs.specs.Back.{dc_in}
use Rattle.plane_defs.specs.Lows.{Given}
use Rattle.base_122.specs.Restored.{restored_dc}
use Rattle.plane_defs.specs.Restored.{restored_ac, restored_at, restored}
use Rattle.plane_defs.proofs.NumbersGiven.{restored_by_position}
use Rattle.plane_defs.proofs.LowsRoom.{AcRoom, HaveRoom, have_less, planes_room}
use Rattle.segment_defs.specs.declared.head.SegmentHead.{SegmentHead}
use Rattle.segment_defs.specs.Head.{IsHead}
use Rattle.segment_defs.specs.SegmentItems.{dc_shift, q_of, stages_sent}
use Rattle.segment_defs.specs.Segments.{dc_blocks}
use Rattle.segment_defs.specs.Parts.{IsWeighted, AreWeighted}
use Rattle.segment_defs.specs.Given.{dc_blocks_given, dc_part_given, planes_part_given, segment_given}
use Rattle.segment_defs.proofs.SentStages.{sent_most}
use Rattle.segment_defs.proofs.TextNumbers.{high_few}
use Rattle.segment_defs.proofs.TextGiven.{numbers_run}
use Rattle.segment_defs.proofs.DcBlocks.{dcs_long, dcs_first, dcs_others}
use Rattle.segment_defs.proofs.RestoredNumbers.{ac_restored, dc_restored}
use Rattle.segment_defs.proofs.RunNumbers as plain

module _ (head : SegmentHead) (is_head : IsHead head) where
  abbrev W : List ℕ
  W = head.image.weights.shifts

  abbrev q : ℕ
  q = q_of head

  bits_few : dc_bits head.depth_dc head.depth_ac (dc_shift head) - 1 + q ≤ 27
  bits_few = high_few head.depth_dc head.depth_ac (dc_shift head) is_head.depth_dc.0 is_head.depth_dc.1 (shift_low W 9 is_head.image.weights)

  -- ---- the DC part

  in_blocks : (below k : ℕ) → min q below ≤ k → (d : DcGiven) → dcs.HaveRoom 27 k d → HaveRoom 27 head.depth_ac q below (dc_blocks_given head.blocks d)
  in_blocks below k le d h = record {
    dc = λ r lt. subst (Room 27 (min q below) (d.lows r)) (sym (dcs_first head.blocks d.dcs r (here r lt)))
        (room_less 27 k (min q below) (d.lows r) (d.dcs r) le (h r));
    acs = λ r p lt ac.
        let apart : (p == 0) ≡ false = (let some : 1 ≤ p = ac.0 in grind (arith, nat_tests)) in
        subst (λ (x : Bool). AcRoom head.depth_ac below (if x then d.lows r else None) (magnitude (get_or (dc_blocks head.blocks d.dcs) r []) p)) (sym apart)
        (dcs_others head.blocks d.dcs r p (here r lt) ac);
  }
    where
      here : (r : ℕ) → r < length (dc_blocks head.blocks d.dcs) → r < head.blocks
      here r lt = let e = dcs_long head.blocks d.dcs in omega (arith, lt, e)

  dcs_room : Yields (HaveRoom 27 head.depth_ac q 0) (HaveRoom 27 head.depth_ac q head.depth_ac) (dc_part_given head)
  dcs_room =
      let left = q - dc_planes head.depth_dc head.depth_ac (dc_shift head) in
      yields_around (dcs.HaveRoom 27 0) (dcs.HaveRoom 27 left) (HaveRoom 27 head.depth_ac q 0) (HaveRoom 27 head.depth_ac q head.depth_ac)
      (dc_blocks_given head.blocks) (in_blocks 0 0 (omega arith)) (in_blocks head.depth_ac left (omega arith))
      (dc_given head.depth_dc head.depth_ac (dc_shift head) head.blocks)
      (dcs.dc_room 27 head.depth_dc head.depth_ac (dc_shift head) head.blocks bits_few)

  -- ---- the segment

  segment_room : (book : Book) → Yields (HaveRoom 27 head.depth_ac q 0) (HaveRoom 27 head.depth_ac q 0) (segment_given book head)
  segment_room book =
      yields_then (HaveRoom 27 head.depth_ac q 0) (HaveRoom 27 head.depth_ac q head.depth_ac) (HaveRoom 27 head.depth_ac q 0) (dc_part_given head) _ dcs_room
      (λ g room. by g room head.stop.dc)
    where
      by : (g : Given) → HaveRoom 27 head.depth_ac q head.depth_ac g → (b : Bool) → Yields (HaveRoom 27 head.depth_ac q 0) (HaveRoom 27 head.depth_ac q 0)
          (if b then done g else then_ask (beside g (depths_script head.depth_ac head.blocks)) (planes_part_given book head g))
      by g room true = have_less 27 head.depth_ac q head.depth_ac 0 g (omega arith) room
      by g room false =
          yields_then (HaveRoom 27 head.depth_ac q 0) _ (HaveRoom 27 head.depth_ac q 0) (beside g (depths_script head.depth_ac head.blocks))
          (planes_part_given book head g)
          (yields_beside (HaveRoom 27 head.depth_ac q 0) (λ d. Unit {0}) _ g (have_less 27 head.depth_ac q head.depth_ac 0 g (omega arith) room)
          (depths_script head.depth_ac head.blocks) (yields_any _ (depths_script head.depth_ac head.blocks) (depth_laws.ends head.depth_ac head.blocks)))
          (λ depths k. planes_room 27 head.depth_ac q (let f = bits_few in omega (arith, f)) book W depths (stages_sent head)
          (λ b. sent_most head b is_head.stage) head.depth_ac (omega arith) g room)

  restored_weighted : (g : Given) → AreWeighted head g.numbers → HaveRoom 27 head.depth_ac q 0 g → AreWeighted head (restored W g)
  restored_weighted g w room = record {
    count = restored_by_position.count W g ∙ w.count;
    long = λ r lt. restored_by_position.long W g r (here r lt);
    each = λ r i lt few. subst (IsWeighted (shift W i)) (sym (restored_by_position.at W g r i (here r lt) few)) (by r i lt few);
  }
    where
      here : (r : ℕ) → r < head.blocks → r < length g.numbers
      here r lt = let e = w.count in omega (arith, lt, e)

      by : (r i : ℕ) → r < head.blocks → i < 64 → IsWeighted (shift W i) (restored_at W i (g.lows r i) (get_or (get_or g.numbers r []) i (pos 0)))
      by r zero lt few =
          dc_restored (shift W 0) (g.lows r 0) (dc_in g.numbers r) (w.each r 0 lt few)
          (room_less 27 (min q 0) 0 (g.lows r 0) (dc_in g.numbers r) (omega arith) (room.dc r (here r lt)))
      by r (suc i) lt few =
          let e : (suc i == 0) ≡ false = grind (arith, nat_tests) in
          let z = get_or (get_or g.numbers r []) (suc i) (pos 0) in
          subst (λ (x : Bool). IsWeighted (shift W (suc i)) (if x then restored_dc (shift W 0) (g.lows r (suc i)) z else
          restored_ac (shift W (suc i)) (g.lows r (suc i)) z)) (sym e)
          (ac_restored (shift W (suc i)) head.depth_ac (g.lows r (suc i)) z is_head.depth_ac (w.each r (suc i) lt few)
          (room.acs r (suc i) (here r lt) (omega arith, few)))

  module _ (book : Book) (sound : is_book_sound book ≡ true) (bits : List Bool) where
    pub whole_restored : (left : List Bool) (g : Given) → run (segment_given book head) bits ≡ whole g left → AreWeighted head (restored W g)
    whole_restored left g ran =
        restored_weighted g (plain.whole_weighted book sound head is_head bits left g.numbers (numbers_run book head bits (whole g left) ran))
        (whole_read (HaveRoom 27 head.depth_ac q 0) (HaveRoom 27 head.depth_ac q 0) (segment_given book head) (segment_room book) bits left g ran)

    pub cut_restored : (g : Given) → run (segment_given book head) bits ≡ cut g → AreWeighted head (restored W g)
    cut_restored g ran =
        restored_weighted g (plain.cut_weighted book sound head is_head bits g.numbers (numbers_run book head bits (cut g) ran))
        (cut_read (HaveRoom 27 head.depth_ac q 0) (HaveRoom 27 head.depth_ac q 0) (segment_given book head) (segment_room book) bits g ran)

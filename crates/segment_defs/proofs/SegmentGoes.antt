-- Each question of a segment has a possible answer.
use Rattle.std.proofs.Common.{◌≡◌, ◌^◌, Bool, true, false, if◌then◌else◌, List, ◌∷◌, length, ◌∙◌, ℤ, pos}
use Rattle.std.specs.Prelude.{replicate}
use Rattle.base_122.specs.declared.book.Book.{Book}
use Rattle.number_defs.specs.Depths.{depth_bits}
use Rattle.number_defs.specs.DcPart.{dc_q, dc_bits, dc_planes}
use Rattle.plane_defs.specs.Codes.{is_book_sound}
use Rattle.plane_defs.proofs.SpanLists.{length-map-span}
use Rattle.segment_defs.specs.declared.head.SegmentHead.{SegmentHead}
use Rattle.segment_defs.specs.SegmentItems.{dc_shift, q_of, stages_sent}
use Rattle.item_defs.specs.Scripts.{Script, done, then_ask, beside}
use Rattle.item_defs.specs.Completing.{Goes}
use Rattle.item_defs.proofs.Completing.{goes_then, goes_around, goes_beside, goes_weaker, sound_of_goes, completes, are_possible}
use Rattle.number_defs.specs.DcScript.{dc_script}
use Rattle.number_defs.specs.DepthScript.{depths_script}
use Rattle.number_defs.specs.ScriptLaws.{AreCounted, AreGiven}
use Rattle.number_defs.proofs.DcLaws.{dc_laws}
use Rattle.number_defs.proofs.DepthLaws.{depth_laws}
use Rattle.plane_defs.proofs.PlaneGoes.{planes_go}
use Rattle.item_defs.proofs.ScriptLaws.{scripts_say}
use Rattle.segment_defs.specs.TextLaws.{HasBlocks, SegmentLaws}
use Rattle.segment_defs.specs.Segments.{dc_blocks, dc_part_script, planes_part_script, segment_script}

module _ (book : Book) (is_sound : is_book_sound book ≡ true) (head : SegmentHead) where
  abbrev Long : List (List ℤ) → Type 0
  Long = HasBlocks head

  pub dc_goes : Goes (dc_part_script head) Long
  dc_goes =
      goes_around (AreGiven (dc_bits head.depth_dc head.depth_ac (dc_shift head)) (dc_q head.depth_dc head.depth_ac (dc_shift head))
      (dc_planes head.depth_dc head.depth_ac (dc_shift head)) head.blocks) Long
      (dc_blocks head.blocks) (λ dcs p. length-map-span (λ r. dcs r ∷ replicate 63 (pos 0)) head.blocks)
      (dc_script head.depth_dc head.depth_ac (dc_shift head) head.blocks)
      (dc_laws head.depth_dc head.depth_ac (dc_shift head) head.blocks).goes

  rest_goes : (blocks : List (List ℤ)) → Long blocks → (t : Bool) →
      Goes (if t then done blocks else then_ask (beside blocks (depths_script head.depth_ac head.blocks)) (planes_part_script book head blocks)) Long
  rest_goes blocks p true = p
  rest_goes blocks p false =
      goes_then (AreCounted (2 ^ depth_bits head.depth_ac) head.blocks) Long (beside blocks (depths_script head.depth_ac head.blocks))
      (planes_part_script book head blocks)
      (goes_beside (AreCounted (2 ^ depth_bits head.depth_ac) head.blocks) blocks (depths_script head.depth_ac head.blocks)
      (depth_laws.goes head.depth_ac head.blocks))
      (λ depths q. goes_weaker (λ w. length w ≡ length blocks) Long (λ w e. e ∙ p) (planes_part_script book head blocks depths)
      (planes_go book is_sound head.image.weights.shifts (q_of head) depths (stages_sent head) head.depth_ac blocks))

  segment_goes : Goes (segment_script book head) Long
  segment_goes = goes_then Long Long (dc_part_script head) _ dc_goes (λ blocks p. rest_goes blocks p head.stop.dc)

-- a script whose questions have possible answers
pub laws_of : (head : SegmentHead) (s : Script (List (List ℤ)) (List (List ℤ))) → Goes s (HasBlocks head) → SegmentLaws s head
laws_of head s goes = record {
  says = scripts_say (List (List ℤ)) (List (List ℤ)) s (sound_of_goes (HasBlocks head) s goes);
  goes = goes;
  completes = λ items form are asks. completes (HasBlocks head) s goes items form (are_possible items are) asks;
}

pub script_is_read : (book : Book) (head : SegmentHead) → is_book_sound book ≡ true → SegmentLaws (segment_script book head) head
script_is_read book head is_sound = laws_of head (segment_script book head) (segment_goes book is_sound head)

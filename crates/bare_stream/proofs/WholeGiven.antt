-- A whole segment, which isn't the last, is given to the picture.
use Rattle.std.proofs.Common.{◌≡◌, ◌≤◌, ◌<◌, ◌+◌, ◌*◌, ℕ, ℤ, List, [], ◌∷◌, ◌++◌, length, take, refl, sym, ap, ◌∙◌, arith, length-append, None}
use Rattle.port_122.specs.Outside.{Outside}
use Rattle.base_122.specs.Sizes.{first_block, total_blocks}
use Rattle.base_122.specs.declared.wish.DecodeWish.{DecodeWish}
use Rattle.segment_defs.specs.TextWish.{text_wish}
use Rattle.segment_defs.specs.declared.head.SegmentHead.{SegmentHead}
use Rattle.bare_text.specs.declared.parts.PartsInForce.{PartsInForce}
use Rattle.wave_defs.specs.Held.{blocks_in}
use Rattle.stream_defs.specs.Picture.{number_at}
use Rattle.picture_rows.specs.Pictures.{picture_state, passed_in}
use Rattle.bare_stream.specs.declared.input.PortIn.{PortIn}
use Rattle.bare_stream.specs.declared.walk.Walk.{Walk}
use Rattle.bare_stream.specs.Blocks.{HasPutBlocks}
use Rattle.bare_stream.specs.Input.{waiting}
use Rattle.bare_stream.specs.Pictures.{open_geometry, segments_in, shape_with}
use Rattle.bare_stream.specs.StreamRead.{text as next_is, next_in}
use Rattle.bare_stream.specs.Decoded.{IfKnown}
use Rattle.bare_stream.specs.Reads.{HasLaws, SegmentsRead, HasRead, InForceAfter, ShowsRead, AreNumbersOf, rows_read, segments_of}
use Rattle.bare_stream.proofs.SegmentMore.{with_more, segment_read, segment_read-gave}
use Rattle.bare_stream.proofs.SegmentShown.{shows_more, rows_now}
use Rattle.bare_stream.proofs.RowsShown.{rows_open}

module _ (wish : DecodeWish) (laws : HasLaws wish) {X : Type 0} (outside : X → Outside) (start : Outside) (r : SegmentsRead) (before : PartsInForce)
    (head : SegmentHead) (text : List ℕ) (w : List (List ℤ)) (cells : List ℤ) (t u : PortIn X)
    (read : HasRead outside wish start r text t) (reaches : InForceAfter wish start r before)
    (next : IfKnown start (λ input. next_in (text_wish wish) wish.pixels (segments_of r before) text ≡ next_is head (length text) w))
    (v z : Walk) (shows : ShowsRead (shape_with r.first 262144) r read.gave (picture_state v.picture)) (waits : waiting u ≡ waiting t)
    (left : u.left ≡ t.left) (failed : u.failed ≡ t.failed)
    (put : HasPutBlocks cells r.first.blocks (outside t.port.now) (outside u.port.now) (picture_state v.picture) (picture_state z.picture))
    (wide : 17 ≤ r.first.image.width) (some : 1 ≤ r.first.blocks)
    (long : 64 * r.first.blocks ≤ length cells) (is : w ≡ blocks_in (take (64 * r.first.blocks) cells))
    (room : first_block r.first.blocks (length r.blocks) + r.first.blocks < total_blocks r.first.image.width 262144) where
  abbrev pub more : SegmentsRead
  more = with_more r text w None

  one_more : first_block r.first.blocks (length (r.blocks ++ w ∷ [])) ≡ first_block r.first.blocks (length r.blocks) + r.first.blocks
  one_more =
      ap (λ k. k * r.first.blocks) (length-append r.blocks (w ∷ []))
      ∙ (let e : (length r.blocks + 1) * r.first.blocks ≡ length r.blocks * r.first.blocks + r.first.blocks = grind arith in e)

  own : AreNumbersOf more (number_at (open_geometry r.first) (segments_in (r.blocks ++ w ∷ [])))
  own = record { at = λ block i lt small. refl }

  rows : read.gave ++ put.goes.gave ≡ rows_read more
  rows =
      let at : passed_in (picture_state v.picture) + r.first.blocks ≡ first_block r.first.blocks (length (r.blocks ++ w ∷ [])) =
      ap (λ n. n + r.first.blocks) shows.passed ∙ sym one_more in
      rows_now (shape_with r.first 262144) r text w None read.gave cells r.first.blocks (picture_state v.picture) shows long some (omega arith) is
      (picture_state z.picture) put
      (number_at (open_geometry r.first) (segments_in (r.blocks ++ w ∷ []))) (first_block r.first.blocks (length (r.blocks ++ w ∷ []))) at own
      ∙ rows_open r.first (r.blocks ++ w ∷ []) wide (omega (arith, room, one_more))

  -- the segments with this one were read, and the picture shows them
  pub whole_read : HasRead outside wish start more [] u
  whole_read = segment_read wish laws outside start r before head text put.goes.gave w t u read reaches next waits left failed put.goes.out None rows

  pub whole_read-gave : whole_read.gave ≡ read.gave ++ put.goes.gave
  unfolding whole_read
  whole_read-gave = segment_read-gave wish laws outside start r before head text put.goes.gave w t u read reaches next waits left failed put.goes.out None rows

  pub whole_shown : ShowsRead (shape_with r.first 262144) more (read.gave ++ put.goes.gave) (picture_state z.picture)
  whole_shown = shows_more (shape_with r.first 262144) r text w None read.gave cells r.first.blocks (picture_state v.picture) shows long some (omega arith)
      is (picture_state z.picture) put refl

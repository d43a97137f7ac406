-- The last segment, of which the text was read, is given to the picture.
use Rattle.std.proofs.Common.{◌≡◌, ◌≤◌, ◌<◌, ◌+◌, ◌*◌, ◌^◌, ℕ, ℤ, List, [], ◌∷◌, ◌++◌, length, take, refl, sym, ap, ◌∙◌, subst, arith, length-append, ap₂}
use Rattle.std.proofs.Common.{if◌then◌else◌, None, Some, Err, true, false}
use Rattle.std.proofs.Math.Nat.{mul-le-mul_left, div-add-mod}
use Rattle.std.proofs.lemmas.Bool.Decides.{nat_tests}
use Rattle.port_122.specs.Outside.{Outside}
use Rattle.base_122.specs.Ranges.{IsWithin, rows_range}
use Rattle.base_122.specs.Sizes.{block_count, first_block, total_blocks}
use Rattle.base_122.specs.declared.geometry.Geometry.{Geometry}
use Rattle.base_122.specs.declared.wish.DecodeWish.{DecodeWish}
use Rattle.segment_defs.specs.TextWish.{text_wish}
use Rattle.raster_rows.specs.Pixels.{raster_octets}
use Rattle.wave_defs.specs.Held.{blocks_in}
use Rattle.segment_defs.specs.declared.head.SegmentHead.{SegmentHead}
use Rattle.segment_defs.specs.Head.{IsHead}
use Rattle.stream_defs.specs.Picture.{number_at, picture_of, whole_with}
use Rattle.stream_defs.specs.Settled.{rows_through, block_rows_before}
use Rattle.picture_rows.specs.Prefixes.{rows_of}
use Rattle.picture_rows.specs.Pictures.{PictureState, picture_state, passed_in, total_in}
use Rattle.picture_rows.specs.declared.picture.PictureAt.{PictureAt}
use Rattle.picture_rows.specs.Steps.{RowsStop, HasHeight as EndsAt}
use Rattle.bare_text.specs.Agreement.{blocks_before, height_at}
use Rattle.bare_text.specs.declared.parts.PartsInForce.{PartsInForce}
use Rattle.bare_text.specs.declared.read.BareHead.{BareHead}
use Rattle.bare_stream.specs.declared.fault.BareFault.TheVariants.{WriteFault}
use Rattle.bare_stream.specs.declared.input.PortIn.{PortIn}
use Rattle.bare_stream.specs.declared.walk.Walk.{Walk}
use Rattle.bare_stream.specs.Blocks.{AreParts, HasNextBlocks, HasPutBlocks}
use Rattle.bare_stream.specs.Input.{waiting}
use Rattle.bare_stream.specs.Pictures.{geometry_at, open_geometry, segments_in, shape_with, all_rows}
use Rattle.bare_stream.specs.StreamRead.{text as next_is, next_in}
use Rattle.bare_stream.specs.Decoded.{IfKnown, DecodesBare}
use Rattle.bare_stream.specs.Reads.{SegmentsRead, InForceAfter, ShowsRead, AreNumbersOf, segments_of}
use Rattle.bare_stream.specs.Walks.{IsSound, IsNext, IsAt, IsHeadOf, IsNextText, HasEnded}
use Rattle.bare_stream.proofs.Agrees.{Ends, ends, least_blocks, same_weights}
use Rattle.bare_stream.proofs.NextHeads.{first_is}
use Rattle.bare_stream.proofs.NextGiven.{broken_off, cells_long, total_is}
use Rattle.bare_stream.proofs.RowsShown.{rows_closed}
use Rattle.bare_stream.proofs.SegmentMore.{with_more, reaches_more, segment_read}
use Rattle.bare_stream.proofs.SegmentShown.{rows_now, rows_broken}

-- ---- the height

-- the blocks of an image of this height are all blocks up to the last one
pub last_total : (first : SegmentHead) (index : ℕ) (head : SegmentHead) → IsHead head → Ends first index head →
    total_blocks first.image.width (height_at first index head) ≡ blocks_before first index + head.blocks
last_total first index head ok e = grind (arith, nat_tests, div-add-mod)

-- all rows of a picture whose segments count from the first head
closed_octets : (first : SegmentHead) (index : ℕ) (head : SegmentHead) (w : List (List (List ℤ))) →
    raster_octets first.image.depth (height_at first index head) first.image.width
    (whole_with (shape_with first (height_at first index head)) (number_at (open_geometry first) (segments_in w)))
    ≡ all_rows (geometry_at first index head) w
unfolding picture_of number_at
closed_octets first index head w = refl

module _ (w : Walk) (read : BareHead) (sound : IsSound w) (next : IsNext w read) (last : read.head.last ≡ true) where
  abbrev pub height : ℕ
  height = height_at w.first w.index read.head

  end : Ends w.first w.index read.head
  end = ends w.first w.index read.head next.agrees last

  total : total_blocks w.first.image.width height ≡ w.index * w.first.blocks + read.head.blocks
  total = last_total w.first w.index read.head next.fits end

  pub last_range : IsWithin rows_range height
  last_range = (end.least, end.most)

  pub last_fewer : height ≤ w.picture.geometry.rows
  last_fewer = let rows = ap (λ (g : Geometry). g.rows) sound.geometry in let most = end.most in omega (arith, rows, most)

  pub last_more : passed_in (picture_state w.picture) < total_blocks w.picture.geometry.width height
  last_more = grind (arith, nat_tests, end, total)

  pub last_long : 64 * read.head.blocks ≤ length w.room.blocks.items
  last_long = cells_long w read sound next end.few

  pub last_index : (0 < w.index → w.first.last ≡ false) → w.index + 1 < 2 ^ 32
  last_index whole = grind (arith, nat_tests, least_blocks, mul-le-mul_left, total_is)

  -- the picture with this height
  module _ (e : PictureState) (ended : EndsAt height (picture_state w.picture) e) where
    pub passed_ended : passed_in e ≡ w.index * w.first.blocks
    passed_ended = ap₂ (λ (g : Geometry) (a : PictureAt). a.row * block_count g.width + a.column) ended.geometry ended.at ∙ sound.passed

    shape_ended : e.geometry ≡ shape_with w.first height
    shape_ended = ended.geometry ∙ ap (λ (g : Geometry). record g { rows = height }) sound.geometry

    pub last_room : passed_in e + read.head.blocks ≤ total_in e
    last_room = grind (arith, nat_tests, shape_ended, total, passed_ended)

    pub last_weights : (cells : List ℤ) → AreParts cells read.head.blocks read.head.image.weights.shifts →
        AreParts cells read.head.blocks e.geometry.weights.shifts
    last_weights cells parts = subst (AreParts cells read.head.blocks)
        (same_weights w.first w.index read.head next.agrees ∙ sym (ap (λ (g : Geometry). g.weights.shifts) shape_ended)) parts

    module _ {X : Type 0} (outside : X → Outside) (wish : DecodeWish) (start : Outside) (r : SegmentsRead) (prefix text : List ℕ) (before : PartsInForce)
        (t u : PortIn X) (at : IsAt outside wish start r text t w)
        (head : IfKnown start (λ input. IsHeadOf wish r before w.parts prefix read)) (is_next : IfKnown start (λ input. IsNextText wish r before w text read))
        (waits : waiting u ≡ waiting t) (left : u.left ≡ t.left) (failed : u.failed ≡ t.failed) where
      abbrev cells : List ℤ
      cells = w.room.blocks.items

      abbrev held : List (List ℤ)
      held = blocks_in (take (64 * read.head.blocks) cells)

      abbrev g : Geometry
      g = geometry_at w.first w.index read.head

      abbrev more : SegmentsRead
      more = with_more r text held (Some g)

      abbrev shape : Geometry
      shape = shape_with w.first height

      abbrev all : List (List (List ℤ))
      all = r.blocks ++ held ∷ []

      numbers : ℕ → ℕ → ℤ
      numbers = number_at (open_geometry r.first) (segments_in all)

      own : AreNumbersOf more (number_at (open_geometry r.first) (segments_in all))
      own = record { at = λ block i lt small. refl }

      shows : ShowsRead shape r at.read.gave e
      shows = record {
        current = ended.current;
        geometry = shape_ended;
        passed = passed_ended ∙ ap₂ (λ n (h : SegmentHead). first_block h.blocks n) (at.index ∙ at.read.same) (sym at.first);
        valid = λ numbers are. ended.follows numbers (at.shows.valid numbers are);
        given = λ numbers are. at.shows.given numbers are ∙ sym (ended.given numbers);
      }

      some : 1 ≤ r.first.blocks
      some = rw at.first sound.first.blocks.0

      few : read.head.blocks ≤ r.first.blocks
      few = rw at.first end.few

      wide : 17 ≤ w.first.image.width
      wide = sound.first.image.width.0

      reached : passed_in e + read.head.blocks ≡ total_blocks w.first.image.width height
      reached = omega (arith, passed_ended, total)

      closed : rows_of shape (number_at (open_geometry r.first) (segments_in all))
          (rows_through shape (block_rows_before shape (total_blocks w.first.image.width height))) ≡ all_rows g all
      closed =
          rows_closed shape wide (number_at (open_geometry r.first) (segments_in all))
          ∙ ap (λ h. raster_octets w.first.image.depth height w.first.image.width (whole_with shape (number_at (open_geometry h) (segments_in all)))) at.first
          ∙ closed_octets w.first w.index read.head all

      reaches : InForceAfter wish start r before
      reaches input if_known = (head input if_known).reaches

      next_known : IfKnown start (λ input. next_in (text_wish wish) wish.pixels (segments_of r before) text ≡ next_is read.head (length text) held)
      next_known input if_known = (is_next input if_known).next

      same_index : w.index ≡ length r.blocks
      same_index = at.index ∙ at.read.same

      later : InForceAfter wish start more w.parts
      later input if_known =
          let h = head input if_known in
          let n = is_next input if_known in
          reaches_more wish at.laws r before w.parts read.head text held (Some g) h.reaches n.next n.force (first_is r.first r.texts read.head h.starts)
          (ap (λ b. if b then Some (geometry_at r.first (length r.blocks) read.head) else None) last
          ∙ ap (λ h. Some (geometry_at h (length r.blocks) read.head)) at.first ∙ ap (λ k. Some (geometry_at w.first k read.head)) (sym same_index))

      blocks_all : w.index + 1 ≡ length all
      blocks_all = (let size = length-append r.blocks (held ∷ []) in let index = at.index in let same = at.read.same in omega (arith, size, index, same))

      pub has_ended : (z : Walk) → HasPutBlocks cells read.head.blocks (outside t.port.now) (outside u.port.now) e (picture_state z.picture) →
          z.first ≡ w.first → z.index ≡ w.index + 1 → HasEnded outside wish start u z
      has_ended z put first index =
          let rows = rows_now shape r text held (Some g) at.read.gave cells read.head.blocks e shows last_long some few refl (picture_state z.picture) put
          (number_at (open_geometry r.first) (segments_in all)) (total_blocks w.first.image.width height) reached own ∙ closed in
          record {
            laws = at.laws;
            r = more;
            g = g;
            before = w.parts;
            ended = refl;
            g_is = sym (ap₂ (λ h n. record (geometry_at h 0 h) { rows = n }) first (ap (λ (g : Geometry). g.rows) (put.geometry ∙ shape_ended)));
            index = index ∙ blocks_all;
            read = segment_read wish at.laws outside start r before read.head text put.goes.gave held t u at.read reaches next_known waits left failed
                put.goes.out (Some g) rows;
            reaches = later;
          }

      pub last_broken : RowsStop (HasNextBlocks cells read.head.blocks e) (block_rows_before e.geometry (passed_in e + read.head.blocks))
          (outside t.port.now) (outside u.port.now) e → DecodesBare wish start (outside u.port.now) (Err WriteFault)
      last_broken broken =
          let rows = rows_broken shape r text held (Some g) at.read.gave cells read.head.blocks e shows last_long some few refl
          (number_at (open_geometry r.first) (segments_in all)) (total_blocks w.first.image.width height) reached own broken in
          broken_off wish at.laws outside start r before w.parts read.head text broken.gave held t u at.read reaches next_known waits left failed broken.out
          broken.rose (Some g) later rows.0 (rows.1 ∙ ap (take rows.0) closed)

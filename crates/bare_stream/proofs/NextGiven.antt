-- The next segment, of which the text was read, is given to the picture.
use Rattle.std.proofs.Common.{◌≡◌, ◌≤◌, ◌<◌, ◌+◌, ◌*◌, ◌^◌, ℕ, ℤ, List, [], ◌∷◌, ◌++◌, length, take, refl, sym, ap, ◌∙◌, subst, arith, length-append}
use Rattle.std.proofs.Common.{if◌then◌else◌, Option, None, Some, Err, false, mul-le-mul_left}
use Rattle.std.specs.List.{concat}
use Rattle.std.proofs.lemmas.Bool.Decides.{nat_tests}
use Rattle.std.proofs.lemmas.List.{length_push, take_at}
use Rattle.port_122.specs.Outside.{Outside, Exchange, NoRead, Rose}
use Rattle.port_122.proofs.Stretches.{rose_since}
use Rattle.base_122.specs.Sizes.{block_count, first_block, total_blocks}
use Rattle.base_122.specs.declared.geometry.Geometry.{Geometry}
use Rattle.base_122.specs.declared.wish.DecodeWish.{DecodeWish}
use Rattle.segment_defs.specs.TextWish.{text_wish}
use Rattle.wave_defs.specs.Held.{blocks_in}
use Rattle.segment_defs.specs.declared.head.SegmentHead.{SegmentHead}
use Rattle.stream_defs.specs.Picture.{number_at}
use Rattle.picture_rows.specs.Pictures.{picture_state, passed_in, total_in}
use Rattle.picture_rows.specs.Steps.{RowsStop}
use Rattle.stream_defs.specs.Settled.{block_rows_before}
use Rattle.bare_text.specs.declared.parts.PartsInForce.{PartsInForce}
use Rattle.bare_text.specs.declared.read.BareHead.{BareHead}
use Rattle.segment_defs.specs.Head.{IsHead}
use Rattle.bare_stream.specs.declared.fault.BareFault.TheVariants.{WriteFault}
use Rattle.bare_stream.specs.declared.input.PortIn.{PortIn}
use Rattle.bare_stream.specs.declared.walk.Walk.{Walk}
use Rattle.bare_stream.specs.Blocks.{AreParts, HasNextBlocks, HasPutBlocks}
use Rattle.bare_stream.specs.Input.{waiting}
use Rattle.bare_stream.specs.Pictures.{geometry_at, open_geometry, segments_in, shape_with}
use Rattle.bare_stream.specs.StreamRead.{text as next_is, next_in}
use Rattle.bare_stream.specs.Decoded.{IfKnown, DecodesBare}
use Rattle.bare_stream.specs.Reads.{HasLaws, SegmentsRead, HasRead, InForceAfter, ShowsRead, AreNumbersOf, rows_read, segments_of, size_of}
use Rattle.bare_stream.specs.Walks.{IsSound, IsNext, IsAt, IsHeadOf, IsNextText, wish_in}
use Rattle.bare_stream.proofs.Agrees.{Continues, goes_on, same_weights}
use Rattle.bare_stream.proofs.NextHeads.{first_is}
use Rattle.bare_stream.proofs.RowsShown.{rows_open}
use Rattle.bare_stream.proofs.Settles.{open_none, asks_given}
use Rattle.bare_stream.proofs.SegmentMore.{with_more, reaches_more, text_opens, octets_all}
use Rattle.bare_stream.proofs.SegmentShown.{rows_broken}
use Rattle.bare_stream.proofs.WholeGiven.{whole_read, whole_read-gave, whole_shown}

-- ---- a write failed

module _ (wish : DecodeWish) (laws : HasLaws wish) {X : Type 0} (outside : X → Outside) (start : Outside) (r : SegmentsRead) (before after : PartsInForce)
    (head : SegmentHead) (text more : List ℕ) (w : List (List ℤ)) (t u : PortIn X)
    (read : HasRead outside wish start r text t) (reaches : InForceAfter wish start r before)
    (next : IfKnown start (λ input. next_in (text_wish wish) wish.pixels (segments_of r before) text ≡ next_is head (length text) w))
    (waits : waiting u ≡ waiting t) (left : u.left ≡ t.left) (failed : u.failed ≡ t.failed)
    (out : Exchange (outside t.port.now) (outside u.port.now) [] more [] NoRead)
    (rose : Rose (outside t.port.now).write_faults (outside u.port.now).write_faults) (ended : Option Geometry)
    (later : InForceAfter wish start (with_more r text w ended) after) where
  abbrev r' : SegmentsRead
  r' = with_more r text w ended

  -- what is given is a prefix of the rows of the segments with this one
  pub broken_off : (some : ℕ) → read.gave ++ more ≡ take some (rows_read r') → DecodesBare wish start (outside u.port.now) (Err WriteFault)
  broken_off some rows = record {
    took = read.took;
    gave = read.gave ++ more;
    since = asks_given wish laws outside start r before text t read reaches (text_opens wish laws outside start r before head text more w t u read reaches
        next waits left failed out) u more out;
    within = (let n = read.left in omega (arith, n));
    ends = rose_since read.since.faults.writes rose;
    answers = λ input if_known.
        let octets = octets_all wish laws outside start r before head text more w t u read reaches next waits left failed out ended in
        let at : take (size_of r') read.took ≡ concat r'.texts = ap (take (size_of r')) octets ∙ take_at (concat r'.texts) ([] ++ waiting u) (size_of r')
        refl in
        let same = length_push r.texts text ∙ ap (λ n. n + 1) read.same ∙ sym (length_push r.blocks w) in
        let opened = open_none wish laws r' after (λ none. absurd (not_none r.texts none)) same (later input if_known) (take (size_of r') read.took)
        (rows_read r') at refl in
        (size_of r', some, rows ∙ ap (take some) opened.rows);
  }
    where
      not_none : (texts : List (List ℕ)) → texts ++ text ∷ [] ≡ [] → ⊥
      not_none [] e = cc
      not_none (x ∷ texts) e = cc

-- ---- a segment that isn't the last

pub total_is : (width : ℕ) → total_blocks width 262144 ≡ 32768 * block_count width
total_is width = grind (arith, nat_tests)

module _ (w : Walk) (read : BareHead) (sound : IsSound w) (next : IsNext w read) where
  -- in the tallest image
  pub total_in-is : total_in (picture_state w.picture) ≡ 32768 * block_count w.first.image.width
  total_in-is = ap (λ (g : Geometry). total_blocks g.width g.rows) sound.geometry ∙ total_is w.first.image.width

  pub weights_are : (cells : List ℤ) → AreParts cells read.head.blocks read.head.image.weights.shifts →
      AreParts cells read.head.blocks w.picture.geometry.weights.shifts
  weights_are cells parts = subst (AreParts cells read.head.blocks)
      (same_weights w.first w.index read.head next.agrees ∙ sym (ap (λ (g : Geometry). g.weights.shifts) sound.geometry)) parts

  -- there is room for its blocks
  pub cells_long : read.head.blocks ≤ w.first.blocks → 64 * read.head.blocks ≤ length w.room.blocks.items
  cells_long few = let room = sound.room.blocks in omega (arith, few, room, w.room.blocks.ok.0)

  module _ (going : read.head.last ≡ false) where
    on : Continues w.first w.index read.head
    on = goes_on w.first w.index read.head next.agrees going

    pub next_size : read.head.blocks ≡ w.first.blocks
    next_size = on.blocks

    pub next_long : 64 * read.head.blocks ≤ length w.room.blocks.items
    next_long = cells_long (omega (arith, next_size))

    pub next_room : passed_in (picture_state w.picture) + read.head.blocks ≤ total_in (picture_state w.picture)
    next_room = let room = on.room in omega (arith, sound.passed, total_in-is, next_size, room)

    pub next_index : w.index + 1 < 2 ^ 32
    next_index =
        let room = on.room in
        let some = sound.first.blocks.0 in
        let least : w.index * 1 ≤ w.index * w.first.blocks = mul-le-mul_left w.index some in
        let wide = sound.first.image.width.1 in
        omega (arith, room, some, least, wide)

    pub next_sound : {a b : Outside} (cells : List ℤ) (z : Walk) → z.first ≡ w.first → z.index ≡ w.index + 1 → z.room ≡ w.room →
        HasPutBlocks cells read.head.blocks a b (picture_state w.picture) (picture_state z.picture) → IsSound z
    next_sound cells z first index room put =
        let more : (w.index + 1) * w.first.blocks ≡ w.index * w.first.blocks + w.first.blocks = grind arith in
        let total = total_is w.first.image.width in
        let below = on.room in
        let passed : passed_in (picture_state z.picture) ≡ first_block w.first.blocks (w.index + 1) =
        (let c = put.count in omega (arith, c, sound.passed, next_size, more)) in
        let left : first_block w.first.blocks (w.index + 1) < total_blocks w.first.image.width 262144 = omega (arith, more, total, below) in
        record {
          first = subst (λ h. IsHead h) (sym first) sound.first;
          ten = ap (λ (h : SegmentHead). length h.image.weights.shifts) first ∙ sound.ten;
          room = rw (first, room) sound.room;
          current = put.current;
          geometry = put.geometry ∙ sound.geometry ∙ sym (ap (λ h. shape_with h 262144) first);
          passed = rw (first, index) passed;
          left = rw (first, index) left;
        }

  module _ {X : Type 0} (outside : X → Outside) (wish : DecodeWish) (start : Outside) (r : SegmentsRead) (prefix text : List ℕ) (before : PartsInForce)
      (t u : PortIn X) (at : IsAt outside wish start r text t w)
      (head : IfKnown start (λ input. IsHeadOf wish r before w.parts prefix read)) (is_next : IfKnown start (λ input. IsNextText wish r before w text read))
      (going : read.head.last ≡ false)
      (waits : waiting u ≡ waiting t) (left : u.left ≡ t.left) (failed : u.failed ≡ t.failed) where
    abbrev pub cells : List ℤ
    cells = w.room.blocks.items

    abbrev pub held : List (List ℤ)
    held = blocks_in (take (64 * read.head.blocks) cells)

    abbrev pub more : SegmentsRead
    more = with_more r text held None

    size_is : read.head.blocks ≡ r.first.blocks
    size_is = next_size going ∙ sym (ap (λ (h : SegmentHead). h.blocks) at.first)

    reaches : InForceAfter wish start r before
    reaches input if_known = (head input if_known).reaches

    next_known : IfKnown start (λ input. next_in (text_wish wish) wish.pixels (segments_of r before) text ≡ next_is read.head (length text) held)
    next_known input if_known = (is_next input if_known).next

    pub force_next : InForceAfter wish start more w.parts
    force_next input if_known =
        let h = head input if_known in
        let n = is_next input if_known in
        reaches_more wish at.laws r before w.parts read.head text held None h.reaches n.next n.force (first_is r.first r.texts read.head h.starts)
        (ap (λ b. if b then Some (geometry_at r.first (length r.blocks) read.head) else None) going)

    room_is : first_block r.first.blocks (length r.blocks) + r.first.blocks < total_blocks r.first.image.width 262144
    room_is = grind (arith, nat_tests, on, goes_on, total_is)

    long : 64 * r.first.blocks ≤ length cells
    long = subst (λ n. 64 * n ≤ length cells) size_is (next_long going)

    wide : 17 ≤ r.first.image.width
    wide = rw at.first sound.first.image.width.0

    some : 1 ≤ r.first.blocks
    some = rw at.first sound.first.blocks.0

    pub next_at : (z : Walk) → HasPutBlocks cells read.head.blocks (outside t.port.now) (outside u.port.now) (picture_state w.picture)
        (picture_state z.picture) → z.first ≡ w.first → z.index ≡ w.index + 1 → z.pixels ≡ w.pixels → wish_in z ≡ wish_in w →
        IsAt outside wish start more [] u z
    next_at z put first index pixels wished =
        let put' = subst (λ n. HasPutBlocks cells n (outside t.port.now) (outside u.port.now) (picture_state w.picture) (picture_state z.picture)) size_is
        put in
        let is : held ≡ blocks_in (take (64 * r.first.blocks) cells) = ap (λ n. blocks_in (take (64 * n) cells)) size_is in
        record {
          laws = at.laws;
          read = whole_read wish at.laws outside start r before read.head text held cells t u at.read reaches next_known w z at.shows waits left failed put'
              wide some long is room_is;
          going = refl;
          first = at.first ∙ sym first;
          index = index ∙ ap (λ n. n + 1) at.index ∙ sym (length-append r.texts (text ∷ []));
          pixels = pixels ∙ at.pixels;
          wished = wished ∙ at.wished;
          shows = subst (λ l. ShowsRead (shape_with r.first 262144) more l (picture_state z.picture))
              (sym (whole_read-gave wish at.laws outside start r before read.head text held cells t u at.read reaches next_known w z at.shows waits left
              failed put' wide some long is room_is))
              (whole_shown wish at.laws outside start r before read.head text held cells t u at.read reaches next_known w z at.shows waits left failed put'
              wide some long is room_is);
        }

    pub next_broken : (broken : RowsStop (HasNextBlocks cells read.head.blocks (picture_state w.picture))
        (block_rows_before w.picture.geometry (passed_in (picture_state w.picture) + read.head.blocks)) (outside t.port.now) (outside u.port.now)
        (picture_state w.picture)) →
        DecodesBare wish start (outside u.port.now) (Err WriteFault)
    next_broken broken =
        let numbers = number_at (open_geometry r.first) (segments_in (r.blocks ++ held ∷ [])) in
        let own : AreNumbersOf more numbers = record { at = λ block i lt small. refl } in
        let count = length-append r.blocks (held ∷ []) in
        let all : (length r.blocks + 1) * r.first.blocks ≡ length r.blocks * r.first.blocks + r.first.blocks = grind arith in
        let n = first_block r.first.blocks (length (r.blocks ++ held ∷ [])) in
        let n_is : n ≡ length r.blocks * r.first.blocks + r.first.blocks = ap (λ k. k * r.first.blocks) count ∙ all in
        let passed : passed_in (picture_state w.picture) + read.head.blocks ≡ n = (let p = at.shows.passed in omega (arith, p, size_is, n_is)) in
        let rows = rows_broken (shape_with r.first 262144) r text held None at.read.gave cells read.head.blocks (picture_state w.picture) at.shows
        (next_long going) some (omega (arith, size_is)) refl numbers n passed own broken in
        let room : n < total_blocks r.first.image.width 262144 = (let b = room_is in omega (arith, b, n_is)) in
        broken_off wish at.laws outside start r before w.parts read.head text broken.gave held t u at.read reaches next_known waits left failed broken.out
        broken.rose None force_next rows.0
        (rows.1 ∙ ap (take rows.0) (rows_open r.first (r.blocks ++ held ∷ []) wide room))

-- The octets that are written for an image are a bare stream.
use Rattle.std.proofs.Common.{◌≡◌, ◌≤◌, ◌<◌, ◌+◌, ◌*◌, ◌%◌, ◌==◌, ◌⊎◌, ℕ, zero, suc, ℤ, List, [], ◌∷◌, ◌++◌, length, map, Bool}
use Rattle.std.proofs.Common.{true, false, if◌then◌else◌, refl}
use Rattle.std.proofs.Common.{sym, ap, subst, ◌∙◌, inl, inr, arith, append_assoc, length-append, Option, None, Some, Ok, unwrap_or}
use Rattle.std.specs.List.{range_with_len, flat_map}
use Rattle.std.proofs.lemmas.Bool.{cases_lt}
use Rattle.std.proofs.lemmas.Bool.Decides.{nat_tests}
use Rattle.std.proofs.lemmas.List.{drop_at}
use Rattle.std.proofs.lemmas.List.FromFn.{get_or-map-range_with_len, length-map-range_with_len, map-range_with_len_more}
use Rattle.base_122.specs.Ranges.{IsWithin, rows_range}
use Rattle.base_122.specs.declared.geometry.Geometry.{Geometry}
use Rattle.base_122.specs.declared.setting.Setting.{Setting}
use Rattle.base_122.proofs.SizeBounds.{total-le-segments, nine-le-total_blocks}
use Rattle.segment_defs.specs.declared.head.SegmentHead.{SegmentHead}
use Rattle.segment_defs.specs.Head.{IsHead}
use Rattle.segment_defs.specs.TextWish.{TextWish}
use Rattle.segment_code.specs.Laws.{TextsEndThere}
use Rattle.stream_defs.specs.Output.{head_for, image_blocks, segment_of, segments_of}
use Rattle.stream_defs.proofs.ShareLaws.{share_none}
use Rattle.strip_decoder.specs.Images.{SendsAll, texts_for as bare_wish}
use Rattle.strip_decoder.proofs.SpelledImages.{head_fits, spells, length-segment}
use Rattle.bare_text.specs.declared.parts.PartsInForce.{PartsInForce}
use Rattle.bare_text.specs.InForce.{none_in_force, parts_after}
use Rattle.bare_text.specs.Laws.{BareHeadsUndo, BareHeadsEndThere, BareTextsHold, HoldsText, in_force, bare_head}
use Rattle.bare_stream.specs.Bare.{bare, first_texts, head_before, segment_octets}
use Rattle.bare_stream.specs.BareStream.{BareStreamsEndThere}
use Rattle.bare_stream.specs.Heads.{AgreesWith}
use Rattle.bare_stream.specs.Images.{IsBareImage, SaysImage, ImagesAreBareStreams, IsSegmentText, bare_geometry}
use Rattle.bare_stream.specs.Pictures.{geometry_at, pixels_at}
use Rattle.bare_stream.specs.StreamRead.{needs_more, Segments, text as next_text_is, next_in, with_text, Read, read_on, none_read, stream_in}
use Rattle.bare_stream.proofs.Counts.{rows_in}
use Rattle.bare_stream.proofs.ImageHeads.{heads_agree, few_pixels, geometry_is}
use Rattle.bare_stream.proofs.NextOf.{next_text}
use Rattle.bare_stream.proofs.NextReads.{text_stays}
use Rattle.bare_stream.proofs.ReadLaws.{read_text, read_ends}
use Rattle.bare_stream.proofs.SegmentMore.{made}
use Rattle.bare_stream.proofs.TextLists.{first_texts-none, first_texts-more}

-- two lists over a range are equal if their functions are equal there
map_alike : {A : Type 0} (f g : ℕ → A) (a n : ℕ) → ((k : ℕ) → a ≤ k → k < a + n → f k ≡ g k) → map f (range_with_len a n) ≡ map g (range_with_len a n)
map_alike f g a zero same = refl
map_alike f g a (suc n) same =
    ap (λ z. z ∷ map f (range_with_len (a + 1) n)) (same a (omega arith) (omega arith))
    ∙ ap (λ zs. g a ∷ zs) (map_alike f g (a + 1) n (λ k low high. same k (omega (arith, low)) (omega (arith, high))))

-- the first head, after this number of segments
abbrev first_before : SegmentHead → ℕ → Option SegmentHead
first_before first zero = None
first_before first (suc index) = Some first

first_here : (head : ℕ → SegmentHead) (index : ℕ) → unwrap_or (first_before (head 0) index) (head index) ≡ head 0
first_here head zero = refl
first_here head (suc index) = refl

module _ (hold : BareTextsHold) (undo : BareHeadsUndo) (heads : BareHeadsEndThere) (texts : TextsEndThere) (s : Setting) (x : ℕ → ℕ → ℤ)
    (restore : Bool) (is : IsBareImage s x) where
  abbrev wish : TextWish
  wish = bare_wish s restore

  abbrev all : List (List ℤ)
  all = image_blocks s x

  abbrev n : ℕ
  n = segments_of s

  abbrev head : ℕ → SegmentHead
  head index = head_for s all index

  abbrev text : ℕ → List ℕ
  text index = segment_octets s all index

  abbrev force : ℕ → PartsInForce
  force index = in_force (head_before s all index)

  rows : IsWithin rows_range s.rows
  rows = rows_in s is.setting

  some_segments : 0 < n
  some_segments = grind (arith, nat_tests, total-le-segments, rows, nine-le-total_blocks)

  -- ---- one text

  fits : (index : ℕ) → index < n → IsHead (head index)
  fits index lt = head_fits s x is.setting.in_range rows is.pixels index lt

  held : (index : ℕ) → index < n → HoldsText wish (head_before s all index) (head index) (segment_of s all index)
  held index lt = hold wish is.sound (head_before s all index) (head index) (segment_of s all index) (fits index lt) is.weights
      (spells s x is.setting.in_range rows is.pixels index lt) refl

  count_small : (index : ℕ) → index % 256 < 256
  count_small index = omega arith

  -- the blocks that it holds; past the last segment none
  blocks_by : (index : ℕ) → (index < n) ⊎ (n ≤ index) → List (List ℤ)
  blocks_by index (inl lt) = (held index lt).w
  blocks_by index (inr ge) = []

  abbrev blocks : ℕ → List (List ℤ)
  blocks index = blocks_by index (cases_lt index n)

  text_by : (index : ℕ) (at : (index < n) ⊎ (n ≤ index)) → index < n → IsSegmentText s restore all index (blocks_by index at)
  unfolding blocks_by
  text_by index (inl lt) inside = record {
    part = (held index lt).part;
    rest = (held index lt).rest;
    octets = (held index lt).octets;
    decides = (held index lt).decides;
  }
  text_by index (inr ge) inside = absurd (omega (arith, ge, inside))

  text_is : (index : ℕ) → index < n → IsSegmentText s restore all index (blocks index)
  text_is index lt = text_by index (cases_lt index n) lt

  exact_by : SendsAll s → (index : ℕ) (at : (index < n) ⊎ (n ≤ index)) → index < n → blocks_by index at ≡ segment_of s all index
  unfolding blocks_by
  exact_by sends index at inside = grind (arith, nat_tests, held, share_none)

  -- ---- the segments one after another

  agree : (index : ℕ) → index < n → AgreesWith (head 0) index (head index)
  agree index lt = heads_agree s x is.setting.in_range rows (length-segment s x is.setting.in_range rows is.pixels) index lt

  abbrev g : Geometry
  g = bare_geometry s

  abbrev pixels : ℕ
  pixels = g.width * g.rows

  abbrev texts_of : (index count : ℕ) → List ℕ
  texts_of index count = flat_map text (range_with_len index count)

  abbrev blocks_of : (count : ℕ) → List (List (List ℤ))
  blocks_of count = map blocks (range_with_len 0 count)

  -- the first segments
  abbrev those : ℕ → Segments
  those index = made (first_before (head 0) index) (force index) (blocks_of index) None (length (first_texts s all index))

  abbrev all_of_them : Segments
  all_of_them = made (first_before (head 0) n) (force n) (blocks_of n) (Some g) (length (first_texts s all n))

  count_is : (index : ℕ) → length (blocks_of index) ≡ index
  count_is index = length-map-range_with_len blocks 0 index

  -- what holds of the first head and the index
  moved : (P : SegmentHead → ℕ → Type 0) (index : ℕ) → P (head 0) index → P (unwrap_or (first_before (head 0) index) (head index)) (length (blocks_of index))
  moved P index p = subst (λ k. P (unwrap_or (first_before (head 0) index) (head index)) k) (sym (count_is index))
      (subst (λ h. P h index) (sym (first_here head index)) p)

  next_is : (index : ℕ) (more : List ℕ) → index < n → next_in wish pixels (those index) (text index ++ more) ≡ next_text_is (head index)
      (length (text index)) (blocks index)
  next_is index more lt =
      let t = text_is index lt in
      let prefix = bare_head (head_before s all index) (head index) in
      let decides = undo.read (head_before s all index) (head index) (fits index lt) (count_small index) is.weights in
      let agrees = moved (λ h k. AgreesWith h k (head index)) index (agree index lt) in
      let few = moved (λ h k. pixels_at h k (head index) ≤ pixels) index
      (few_pixels s x is.setting.in_range rows (length-segment s x is.setting.in_range rows is.pixels) index lt) in
      let here : next_in wish pixels (those index) (text index) ≡ next_text_is (head index) (length (text index)) (blocks index) =
      ap (next_in wish pixels (those index)) t.octets
      ∙ next_text heads wish pixels (those index) refl prefix (head index) decides agrees few t.rest t.part (blocks index) t.decides
      ∙ ap (λ k. next_text_is (head index) k (blocks index)) (sym (length-append prefix t.rest) ∙ sym (ap length t.octets)) in
      text_stays heads texts wish is.sound pixels (those index) (text index) more (head index) (length (text index)) (blocks index) here

  -- one segment more
  parts_are : (index : ℕ) (more : List ℕ) → index < n → parts_after (force index) (text index ++ more) ≡ force (index + 1)
  parts_are index more lt =
      let t = text_is index lt in
      let prefix = bare_head (head_before s all index) (head index) in
      let decides = undo.read (head_before s all index) (head index) (fits index lt) (count_small index) is.weights in
      let there = heads (force index) prefix (record { result = Ok (head index); octets = length prefix }) decides in
      let next : suc index ≡ index + 1 = omega arith in
      ap (λ l. parts_after (force index) (l ++ more)) t.octets ∙ ap (parts_after (force index)) (append_assoc prefix t.rest more)
      ∙ there.force (head index) refl (t.rest ++ more)
      ∙ undo.force (head_before s all index) (head index) (fits index lt) (count_small index) is.weights
      ∙ ap force next

  with_one : (index : ℕ) (more : List ℕ) (ended : Option Geometry) → index < n →
      (if (head index).last then Some (geometry_at (head 0) index (head index)) else None) ≡ ended →
      with_text (those index) (head index) (length (text index)) (blocks index) (text index ++ more) ≡
      made (first_before (head 0) (index + 1)) (force (index + 1)) (blocks_of (index + 1)) ended (length (first_texts s all (index + 1)))
  with_one index more ended lt e =
      let first = unwrap_or (first_before (head 0) index) (head index) in
      let parts = parts_after (force index) (text index ++ more) in
      let list = blocks_of index ++ blocks index ∷ [] in
      let size = length (first_texts s all index) + length (text index) in
      let next : suc index ≡ index + 1 = omega arith in
      let end : (if (head index).last then Some (geometry_at first (length (blocks_of index)) (head index)) else None) ≡ ended =
      moved (λ h k. (if (head index).last then Some (geometry_at h k (head index)) else None) ≡ ended) index e in
      ap (λ o. made o parts list (if (head index).last then Some (geometry_at first (length (blocks_of index)) (head index)) else None) size)
      (ap (λ h. Some h) (first_here head index) ∙ ap (first_before (head 0)) next)
      ∙ ap (λ p. made (first_before (head 0) (index + 1)) p list (if (head index).last then Some (geometry_at first (length (blocks_of index)) (head index))
      else None) size) (parts_are index more lt)
      ∙ ap (λ l. made (first_before (head 0) (index + 1)) (force (index + 1)) l
      (if (head index).last then Some (geometry_at first (length (blocks_of index)) (head index)) else None) size)
      (sym (map-range_with_len_more blocks 0 index index (omega arith)))
      ∙ ap (λ o. made (first_before (head 0) (index + 1)) (force (index + 1)) (blocks_of (index + 1)) o size) end
      ∙ ap (made (first_before (head 0) (index + 1)) (force (index + 1)) (blocks_of (index + 1)) ended)
      (sym (ap length (first_texts-more s all index) ∙ length-append (first_texts s all index) (text index)))

  abbrev read_whole : Read
  read_whole = record { segments = all_of_them; ending = needs_more (Ok g) }

  -- from a segment on
  read_from : (index more : ℕ) → index + suc more ≡ n → read_on wish pixels (those index) (texts_of index (suc more)) ≡ read_whole
  read_from index zero e =
      let lt : index < n = omega (arith, e) in
      let last : index + 1 ≡ n = omega (arith, e) in
      let flag : (index + 1 == n) ≡ true = grind (arith, nat_tests) in
      let geometry = geometry_is s x is.setting.in_range rows (length-segment s x is.setting.in_range rows is.pixels) index last in
      let ended = ap (λ b. if b then Some (geometry_at (head 0) index (head index)) else None) flag ∙ ap (λ h. Some h) (sym geometry) in
      read_text heads texts wish is.sound pixels (those index) (text index ++ []) (head index) (length (text index)) (blocks index) (next_is index [] lt)
      ∙ ap (read_on wish pixels (with_text (those index) (head index) (length (text index)) (blocks index) (text index ++ [])))
      (drop_at (text index) [] (length (text index)) refl)
      ∙ ap (λ z. read_on wish pixels z []) (with_one index [] (Some g) lt ended ∙ ap (λ k. made (first_before (head 0) k) (force k) (blocks_of k) (Some g)
      (length (first_texts s all k))) last)
      ∙ read_ends heads texts wish is.sound pixels all_of_them [] (needs_more (Ok g)) refl
  read_from index (suc more) e =
      let lt : index < n = omega (arith, e) in
      let flag : (index + 1 == n) ≡ false = grind (arith, nat_tests, e) in
      let ended = ap (λ b. if b then Some (geometry_at (head 0) index (head index)) else None) flag in
      let rest = texts_of (index + 1) (suc more) in
      read_text heads texts wish is.sound pixels (those index) (text index ++ rest) (head index) (length (text index)) (blocks index) (next_is index rest lt)
      ∙ ap (read_on wish pixels (with_text (those index) (head index) (length (text index)) (blocks index) (text index ++ rest)))
      (drop_at (text index) rest (length (text index)) refl)
      ∙ ap (λ z. read_on wish pixels z rest) (with_one index rest None lt ended)
      ∙ read_from (index + 1) more (omega (arith, e))

  those_none : those 0 ≡ none_read
  those_none = ap (λ l. made None none_in_force [] None (length l)) (first_texts-none s all)

  stream_is : (m : ℕ) → n ≡ m → stream_in wish pixels (bare s x) ≡ read_whole
  unfolding first_texts
  stream_is zero e = let some = some_segments in absurd (omega (arith, e, some))
  stream_is (suc more) e =
      ap (λ k. read_on wish pixels none_read (texts_of 0 k)) e ∙ ap (λ z. read_on wish pixels z (texts_of 0 (suc more))) (sym those_none)
      ∙ read_from 0 more (let all_are : 0 + suc more ≡ n = omega (arith, e) in all_are)

  abbrev w : List (List (List ℤ))
  w = blocks_of n

  says_image : SaysImage s x restore w
  says_image = record {
    stream = (let all = stream_is n refl in record { whole = ap (λ z. z.ending) all; blocks = ap (λ z. z.segments.blocks) all });
    count = length-map-range_with_len blocks 0 n;
    texts = λ index lt. subst (IsSegmentText s restore all index) (sym (get_or-map-range_with_len blocks 0 n index index [] lt (omega arith)))
        (text_is index lt);
    exact = λ sends. map_alike blocks (segment_of s all) 0 n (λ index low lt. exact_by sends index (cases_lt index n) (omega (arith, lt)));
  }

  pub blocks_there : (v : List (List (List ℤ))) × SaysImage s x restore v
  blocks_there = (w, says_image)

-- ---- the stream reports nothing else

pub images_are_streams : BareTextsHold → BareHeadsUndo → BareHeadsEndThere → TextsEndThere → BareStreamsEndThere → ImagesAreBareStreams
images_are_streams hold undo heads texts ends = record {
  says = λ s x restore is. blocks_there hold undo heads texts s x restore is;
  only = λ s x restore g w is other.
      let mine = blocks_there hold undo heads texts s x restore is in (
        ends.geometry (bare_wish s restore) (bare s x) g (bare_geometry s) w mine.0 other mine.1.stream,
        subst (SaysImage s x restore) (sym (ends.blocks (bare_wish s restore) (bare s x) g (bare_geometry s) w mine.0 other mine.1.stream)) mine.1,
      );
}

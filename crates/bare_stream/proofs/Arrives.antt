-- The rows that a work took, and one more.
use Rattle.std.proofs.Common.{◌≡◌, ℕ, ◌+◌, ◌-◌, ◌*◌, ◌<◌, ◌≤◌, ℤ, List, [], ◌++◌, length, take, refl, sym, ap, ◌∙◌, subst, arith, inl, length-append}
use Rattle.std.proofs.Common.{Err, length-take-le, mul-le-mul_right}
use Rattle.std.proofs.lemmas.Nat.{div-mul-add}
use Rattle.std.proofs.lemmas.Bool.Decides.{nat_tests}
use Rattle.port_122.specs.Outside.{Outside, Exchange, GivenBy}
use Rattle.port_122.proofs.Stretches.{since_start, since_out, rose_since}
use Rattle.port_122.proofs.ReadCalls.{since_prompt}
use Rattle.base_122.specs.Setting.{sized}
use Rattle.base_122.specs.Sizes.{block_count, padded_size, total_blocks, first_block, segment_blocks}
use Rattle.base_122.specs.declared.setting.Setting.{Setting}
use Rattle.wave_defs.specs.Held.{Agrees, SameWithin, signal}
use Rattle.wave_defs.specs.Pyramid.{padded}
use Rattle.wave_strip.specs.Strip.{rows_of}
use Rattle.wave_strip.specs.Counts.{settled as block_rows_in}
use Rattle.raster_rows.specs.RowReads.{FirstInRange, InRow, RowRead}
use Rattle.raster_rows.specs.Padding.{IsPadded}
use Rattle.raster_rows.specs.declared.reading.RowFault.{RowFault}
use Rattle.raster_rows.specs.declared.reading.RowFault.TheVariants.{ReadFault, Short, BadPixel}
use Rattle.raster_rows.proofs.PixelPlaces.{pixel_at-append_right}
use Rattle.stream_defs.specs.Output.{image_blocks, segments_of}
use Rattle.stream_defs.specs.SettledImages.{settled_in}
use Rattle.strip_coder.specs.declared.work.Work.{Work}
use Rattle.strip_coder.specs.declared.work.ImageAt.{ImageAt}
use Rattle.strip_coder.specs.declared.encode.EncodeFault.TheVariants.{WriteFault}
use Rattle.strip_coder.specs.Rasters.{row_length, most_length, image_of, AreInRange}
use Rattle.strip_coder.specs.Answers.{AsksInRange, FirstBad}
use Rattle.strip_coder.specs.Works.{IsFresh, IsMadeFor}
use Rattle.strip_coder.specs.Steps.{NextRowIs, HasPushed, HasNotPushed}
use Rattle.strip_coder.specs.RowsIn.{fault_after}
use Rattle.strip_coder.proofs.PrefixesGiven.{through, take_prefix}
use Rattle.strip_coder.proofs.RowArrives.{HoldsRow, row_values}
use Rattle.strip_coder.proofs.RowTakes.{OnlyRow, padded_next, padded_small, row_follows}
use Rattle.strip_coder.proofs.RowsGiven.{same_rows, least_of}
use Rattle.strip_coder.proofs.RowsTakenLaws.{row_pixels, all_whole, in_range-more, all_in_range-more, first_bad-more}
use Rattle.strip_coder.proofs.RangeAsks.{row_asked}
use Rattle.strip_coder.proofs.SettledCounts.{index_settled}
use Rattle.strip_coder.proofs.WorkStarts.{starts_running, starts_follows}
use Rattle.bare_stream.specs.Bare.{bare, first_texts}
use Rattle.bare_stream.specs.Rasters.{IsBare, settled_texts, texts_for}
use Rattle.bare_stream.specs.Answers.{EncodesBare}
use Rattle.bare_stream.specs.Works.{job}
use Rattle.bare_stream.specs.RowsIn.{HasArrived, BeginsSo, texts_before}
use Rattle.bare_stream.proofs.Counts.{is_plan, tall}
use Rattle.bare_stream.proofs.SettledTexts.{settled_same}
use Rattle.bare_stream.proofs.TextLists.{first_texts-none, texts_go_on}

-- ---- no row yet

pub none_arrived : (s : Setting) (p : Outside) (w : Work) → IsBare s → IsMadeFor s w → IsFresh s w → HasArrived s 0 p p w
none_arrived s p w bare made start =
    let index : w.at.index ≡ 0 = ap (λ (a : ImageAt). a.index) start.at in
    let used : w.at.used ≡ 0 = ap (λ (a : ImageAt). a.used) start.at in
    let none : (y : ℕ → ℕ → ℤ) → first_texts s (image_blocks s y) w.at.index ≡ [] =
    λ y. ap (first_texts s (image_blocks s y)) index ∙ first_texts-none s (image_blocks s y) in
    record {
      running = starts_running (job s) w start (is_plan s bare) made (bare.no_total, omega (arith, used));
      rows = start.strip.rows;
      took = [];
      whole = omega arith;
      in_range = record { each = λ k lt. absurd (omega (arith, lt)) };
      follows = λ y begins. starts_follows (job s) w start y (used ∙ sym (ap length (none y)));
      small = λ some. absurd (omega (arith, some));
      last = λ some. absurd (omega (arith, some));
      since = subst (λ g. Exchange p p [] g [] (GivenBy (texts_for s) [])) (sym (none (image_of s []))) (since_start p (GivenBy (texts_for s) []));
      asks = subst (λ g. Exchange p p [] g [] (AsksInRange s [])) (sym (none (image_of s []))) (since_start p (AsksInRange s []));
    }

-- a prefix of the first texts, in each image that begins so
pub prefix_whole : (s : Setting) (x y : ℕ → ℕ → ℤ) (gave : List ℕ) (some n : ℕ) → gave ≡ take some (first_texts s (image_blocks s x) n) → n ≤ segments_of s →
    first_texts s (image_blocks s x) n ≡ first_texts s (image_blocks s y) n → (m : ℕ) × (gave ≡ take m (bare s y))
prefix_whole s x y gave some n is le same =
    let here = first_texts s (image_blocks s y) n in
    let rest = texts_go_on s (image_blocks s y) n (segments_of s) le in
    let prefix = take_prefix some here rest.0 in
    (prefix.0, is ∙ ap (take some) same ∙ prefix.1 ∙ sym (ap (take prefix.0) rest.1))

-- a segment whose blocks were gathered from k rows is one that these settle
early : (s : Setting) → IsBare s → (k index : ℕ) → index < segments_of s →
    first_block s.segment index + segment_blocks (total_blocks s.width s.rows) s.segment index ≤ block_count s.width * block_rows_in k →
    index + 1 ≤ settled_in s s.rows k
early s bare k index = subst (λ n. index < segments_of (sized s n) →
    first_block s.segment index + segment_blocks (total_blocks s.width n) s.segment index ≤ block_count s.width * block_rows_in k →
    index + 1 ≤ settled_in s n k)
    (tall s bare) (through s bare.in_range k index)

-- ---- after k rows

module _ (s : Setting) (is_bare : IsBare s) (k : ℕ) (p q : Outside) (old : Work) (less : k < s.rows) (arrived : HasArrived s k p q old) where
  le : k ≤ s.rows
  le = omega (arith, less)

  index_is : old.at.index ≡ settled_in s s.rows k
  index_is = index_settled (job s) (is_plan s is_bare) k old arrived.running arrived.rows le (inl less)

  abbrev gave : List ℕ
  gave = texts_before s arrived.took old

  same_so_far : (part : List ℕ) → SameWithin k s.width (image_of s arrived.took) (image_of s (arrived.took ++ part))
  same_so_far part = let same = same_rows s k arrived.took part arrived.whole in record { at = λ i j hi hj. sym (same.at i j hi hj) }

  texts_on : (part : List ℕ) → gave ≡ first_texts s (image_blocks s (image_of s (arrived.took ++ part))) old.at.index
  texts_on part = settled_same s is_bare k (image_of s arrived.took) (image_of s (arrived.took ++ part)) le (same_so_far part) old.at.index
      (let e = index_is in omega (arith, e))

  -- whatever octets follow, what is given is that of these rows
  texts_at : (part : List ℕ) → settled_texts s (arrived.took ++ part) k ≡ gave
  unfolding settled_texts
  texts_at part = ap (first_texts s (image_blocks s (image_of s (arrived.took ++ part)))) (sym index_is) ∙ sym (texts_on part)

  texts_within : (part : List ℕ) → length part < row_length s → texts_for s (arrived.took ++ part) ≡ gave
  unfolding texts_for
  texts_within part short = grind (arith, nat_tests, length-append, arrived, div-mul-add, tall, least_of, texts_at)

  -- octets of the next row were taken
  part_taken : {m : Outside} (got : List ℕ) → Exchange q m got [] [] (InRow s.depth s.signed s.width got) →
      Exchange p m (arrived.took ++ got) gave [] (GivenBy (texts_for s) (arrived.took ++ got))
  part_taken got read = since_prompt (texts_for s) arrived.since read
      (λ i j most r.
      let size = length-take-le i got most in
      let short : length (take i got) < row_length s = omega (arith, size, r.0) in
      let same = texts_within (take i got) short in
      omega (arith, r.1, ap length same))

  row_below : k * row_length s + row_length s ≤ most_length s
  row_below = grind (arith, nat_tests, tall, mul-le-mul_right)

  part_asks : {m : Outside} (got : List ℕ) → Exchange q m got [] [] (InRow s.depth s.signed s.width got) →
      Exchange p m (arrived.took ++ got) gave [] (AsksInRange s (arrived.took ++ got))
  part_asks got read = row_asked s k arrived.took got arrived.whole row_below arrived.in_range arrived.asks read

  -- the row wasn't read to its end
  pub row_lacks : {T : Type 0} {m : Outside} (a b : List ℤ) (fault : RowFault) → RowRead {T = T} s.depth s.signed s.width k q m a b (Err fault) →
      EncodesBare s p m (Err (fault_after (k * row_length s) fault))
  row_lacks a b ReadFault read =
      let size = length-append arrived.took read.took in
      let inside = read.answer.1.inside in
      record {
        took = arrived.took ++ read.took;
        gave = gave;
        since = part_taken read.took read.since;
        asks = part_asks read.took read.since;
        answer = (
          rose_since arrived.since.faults.reads read.answer.0,
          omega (arith, size, inside, arrived.whole, row_below),
          all_in_range-more s k arrived.took read.took arrived.whole arrived.in_range read.answer.1.in_range,
          sym (texts_within read.took inside),
        );
      }
  row_lacks a b (Short octets) read =
      let size = length-append arrived.took read.took in
      let inside = read.answer.2.inside in
      let count = read.answer.0 in
      record {
        took = arrived.took ++ read.took;
        gave = gave;
        since = part_taken read.took read.since;
        asks = part_asks read.took read.since;
        answer = (
          omega (arith, size, count, arrived.whole),
          record { fewer = omega (arith, size, inside, arrived.whole, row_below); left_open = λ none. absurd (is_bare.known none) },
          read.answer.1,
          all_in_range-more s k arrived.took read.took arrived.whole arrived.in_range read.answer.2.in_range,
          sym (texts_within read.took inside),
        );
      }
  row_lacks a b (BadPixel at column value) read =
      let size = length-append arrived.took read.took in
      let most = read.answer.1 in
      let bad = first_bad-more s k column value arrived.took read.took arrived.whole arrived.in_range most read.answer.2 in
      let here : k ≡ at = sym read.answer.0 in
      record {
        took = arrived.took ++ read.took;
        gave = gave;
        since = part_taken read.took read.since;
        asks = part_asks read.took read.since;
        answer = (
          omega (arith, size, most, arrived.whole, row_below),
          subst (λ r. FirstBad s (arrived.took ++ read.took) r column value) here bad,
          subst (λ r. gave ≡ settled_texts s (arrived.took ++ read.took) r) here (sym (texts_at read.took)),
        );
      }

  -- ---- the row was read, and pushed

  module _ (mid : Work) (m : Outside) (got : List ℕ) (row : List ℤ) (only : OnlyRow old mid)
      (read : Exchange q m got [] [] (InRow s.depth s.signed s.width got)) (size : length got ≡ row_length s)
      (in_range : FirstInRange s.depth s.signed got s.width) (holds : HoldsRow s got row) (pad : IsPadded s.width row mid.row.items)
      (long : length mid.row.items ≡ padded_size s.width) where
    abbrev took : List ℕ
    took = arrived.took ++ got

    -- it is the next row of each image that begins so
    row_is : (y : ℕ → ℕ → ℤ) → BeginsSo s (k + 1) took y → Agrees (padded_size s.width) (signal mid.row.items) (padded y s.rows s.width k)
    row_is y same = padded_next (job s) (is_plan s is_bare) row mid.row.items pad long y k less (record {
      at = λ j inside.
          holds.at j inside
          ∙ sym (pixel_at-append_right s.depth s.signed arrived.took got (k * s.width) j (row_pixels s k arrived.took arrived.whole))
          ∙ same.at k j (omega arith) inside;
    })

    before_is : (y : ℕ → ℕ → ℤ) → BeginsSo s (k + 1) took y → BeginsSo s k arrived.took y
    before_is y same =
        let first = same_so_far got in
        record { at = λ i j hi hj. first.at i j hi hj ∙ same.at i j (omega (arith, hi)) hj }

    next_is : (y : ℕ → ℕ → ℤ) → BeginsSo s (k + 1) took y → NextRowIs (job s) y mid
    next_is y same =
        let here : rows_of mid.strip ≡ k = ap rows_of only.strip ∙ arrived.rows in
        subst (λ r. Agrees (padded_size s.width) (signal mid.row.items) (padded y s.rows s.width r)) (sym here) (row_is y same)

    itself : BeginsSo s (k + 1) took (image_of s took)
    itself = record { at = λ i j hi hj. refl }

    whole : length took ≡ (k + 1) * row_length s
    whole = length-append arrived.took got ∙ ap (λ n. n + length got) arrived.whole ∙ ap (λ n. k * row_length s + n) size
        ∙ (let t : k * row_length s + row_length s ≡ (k + 1) * row_length s = grind arith in t)

    all_in_range : AreInRange s took ((k + 1) * s.width)
    all_in_range =
        let pixels : k * s.width + s.width ≡ (k + 1) * s.width = grind arith in
        subst (AreInRange s took) pixels (in_range-more s k s.width arrived.took got arrived.whole arrived.in_range in_range)

    same_index : mid.at.index ≡ old.at.index
    same_index = ap (λ (a : ImageAt). a.index) only.at

    -- what was given before, in the image of these rows
    before_now : first_texts s (image_blocks s (image_of s took)) mid.at.index ≡ gave
    before_now = ap (first_texts s (image_blocks s (image_of s took))) same_index ∙ sym (texts_on got)

    pub row_arrived : {r : Outside} (new : Work) → HasPushed (job s) m r mid new → HasArrived s (k + 1) p r new
    row_arrived {r = r} new pushed =
        let goes = pushed.goes (image_of s took) (row_follows (job s) (image_of s took) old mid only (arrived.follows (image_of s took)
        (before_is (image_of s took) itself))) (next_is (image_of s took) itself) in
        let now : gave ++ goes.gave ≡ texts_before s took new = ap (λ l. l ++ goes.gave) (sym before_now) ∙ goes.then_are in
        record {
          running = pushed.running;
          rows = pushed.strip_rows ∙ ap (λ t. rows_of t + 1) only.strip ∙ ap (λ n. n + 1) arrived.rows;
          took = took;
          whole = whole;
          in_range = all_in_range;
          follows = λ y same. pushed.follows y (row_follows (job s) y old mid only (arrived.follows y (before_is y same))) (next_is y same);
          small = λ some. rw pushed.row (padded_small (job s) (is_plan s is_bare) row mid.row.items pad long (row_values s got row in_range holds));
          last = λ some y same.
              let back : k ≡ (k + 1) - 1 = omega arith in
              subst (λ n. Agrees (padded_size s.width) (signal new.row.items) (padded y s.rows s.width n)) back (rw pushed.row (row_is y same));
          since = subst (λ g. Exchange p r took g [] (GivenBy (texts_for s) took)) now (since_out (part_taken got read) goes.out);
          asks = subst (λ g. Exchange p r took g [] (AsksInRange s took)) now (since_out (part_asks got read) goes.out);
        }

    pub row_broken : {r : Outside} (new : Work) → HasNotPushed (job s) m r mid new → EncodesBare s p r (Err WriteFault)
    row_broken {r = r} new broken =
        let x = image_of s took in
        let broke = broken.breaks x (row_follows (job s) x old mid only (arrived.follows x (before_is x itself))) (next_is x itself) in
        let here : rows_of mid.strip + 1 ≡ k + 1 = ap (λ t. rows_of t + 1) only.strip ∙ ap (λ n. n + 1) arrived.rows in
        let all : broke.index + 1 ≤ settled_in s s.rows (k + 1) =
        early s is_bare (k + 1) broke.index broke.inside
        (subst (λ n. first_block s.segment broke.index + segment_blocks (total_blocks s.width s.rows) s.segment broke.index
        ≤ block_count s.width * block_rows_in n) here broke.there) in
        record {
          took = took;
          gave = gave ++ broke.gave;
          since = since_out (part_taken got read) broke.out;
          asks = since_out (part_asks got read) broke.out;
          answer = (
            rose_since (part_taken got read).faults.writes broken.rose,
            (
              k + 1,
              record { whole = whole; most = (let t = tall s is_bare in omega (arith, t, less)); in_range = all_whole s (k + 1) took whole all_in_range },
              record {
                each = λ y same.
                    prefix_whole s x y (gave ++ broke.gave) broke.some (broke.index + 1) (ap (λ l. l ++ broke.gave) (sym before_now) ∙ broke.prefix)
                    (let i = broke.inside in omega (arith, i))
                    (settled_same s is_bare (k + 1) x y (omega (arith, less)) same (broke.index + 1) all);
              },
            ),
          );
        }

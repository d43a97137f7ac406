-- The end of a run: the texts that are left, and the end of the input.
use Rattle.std.proofs.Common.{◌≡◌, ℕ, ◌+◌, ◌*◌, ◌/◌, ◌<◌, ◌≤◌, ℤ, List, [], ◌∷◌, ◌++◌, length, take, refl, sym, ap, ◌∙◌, subst, arith, inr, true}
use Rattle.std.proofs.Common.{false, length-append, Ok, Err, mul-le-mul}
use Rattle.std.proofs.lemmas.List.{append-nil}
use Rattle.std.proofs.lemmas.Nat.{le-div}
use Rattle.std.proofs.Math.Seq.{take-append_seam}
use Rattle.port_122.specs.Outside.{Outside, Exchange, AtStart, GivenBy, ReadFailed}
use Rattle.port_122.proofs.Stretches.{since_out, rose_since}
use Rattle.port_122.proofs.ReadCalls.{since_prompt}
use Rattle.base_122.specs.declared.setting.Setting.{Setting}
use Rattle.raster_rows.specs.Ends.{SawEnd}
use Rattle.raster_rows.proofs.PixelPlaces.{size_some}
use Rattle.raster_rows.specs.Pixels.{pixel_size}
use Rattle.stream_defs.specs.Output.{image_blocks, segments_of}
use Rattle.stream_defs.specs.Settled.{settled}
use Rattle.stream_defs.proofs.ImageLaws.{blocks_whole, settled_whole}
use Rattle.strip_coder.specs.declared.work.Work.{Work}
use Rattle.strip_coder.specs.declared.encode.EncodeDone.{EncodeDone}
use Rattle.strip_coder.specs.declared.encode.EncodeFault.TheVariants.{ReadFault, WriteFault, Long}
use Rattle.strip_coder.specs.Plans.{tallest}
use Rattle.strip_coder.specs.Rasters.{row_length, most_length, image_of, whole_rows}
use Rattle.strip_coder.specs.Answers.{AllInRange, AsksInRange}
use Rattle.strip_coder.specs.Steps.{HasEnded, HasNotPushedOn}
use Rattle.strip_coder.proofs.PlanLaws.{known_first}
use Rattle.strip_coder.proofs.RangeAsks.{end_asked}
use Rattle.strip_coder.proofs.RowsGiven.{same_rows, most_of}
use Rattle.strip_coder.proofs.RowsTakenLaws.{all_whole}
use Rattle.bare_stream.specs.Bare.{bare, first_texts}
use Rattle.bare_stream.specs.Rasters.{IsBare, settled_texts, texts_for}
use Rattle.bare_stream.specs.Answers.{EncodesBare}
use Rattle.bare_stream.specs.Works.{job}
use Rattle.bare_stream.specs.RowsIn.{HasArrived, BeginsSo, AllTexts, texts_before}
use Rattle.bare_stream.proofs.Arrives.{prefix_whole}
use Rattle.bare_stream.proofs.Counts.{rows_in, tall}

-- ---- all rows were taken

module _ (s : Setting) (is_bare : IsBare s) (p q r : Outside) (w new : Work) (arrived : HasArrived s s.rows p q w) where
  abbrev image : ℕ → ℕ → ℤ
  image = image_of s arrived.took

  some : 0 < s.rows
  some = let rows = (rows_in s is_bare).0 in omega (arith, rows)

  itself : BeginsSo s s.rows arrived.took image
  itself = record { at = λ i j hi hj. refl }

  pub all_texts : HasEnded (job s) q r w new → AllTexts s p r new
  all_texts ended =
      let goes = ended.goes image (arrived.follows image itself) (arrived.last some image itself) in
      record {
        took = arrived.took;
        raster = record {
          height = (rows_in s is_bare, inr refl);
          whole = arrived.whole;
          in_range = all_whole s s.rows arrived.took arrived.whole arrived.in_range;
        };
        used = ended.given image (arrived.follows image itself) (arrived.last some image itself);
        since = subst (λ g. Exchange p r arrived.took g [] (GivenBy (texts_for s) arrived.took)) goes.then_are (since_out arrived.since goes.out);
        asks = subst (λ g. Exchange p r arrived.took g [] (AsksInRange s arrived.took)) goes.then_are (since_out arrived.asks goes.out);
      }

  pub rest_cut : HasNotPushedOn (job s) q r w new → EncodesBare s p r (Err WriteFault)
  rest_cut broken =
      let broke = broken.breaks image (arrived.follows image itself) (arrived.last some image itself) in
      record {
        took = arrived.took;
        gave = texts_before s arrived.took w ++ broke.gave;
        since = since_out arrived.since broke.out;
        asks = since_out arrived.asks broke.out;
        answer = (
          rose_since arrived.since.faults.writes broken.rose,
          (
            s.rows,
            record {
              whole = arrived.whole;
              most = (let t = tall s is_bare in omega (arith, t));
              in_range = all_whole s s.rows arrived.took arrived.whole arrived.in_range;
            },
            record {
              each = λ y same. prefix_whole s image y (texts_before s arrived.took w ++ broke.gave) broke.some (broke.index + 1) broke.prefix
                  (let i = broke.inside in omega (arith, i))
                  (ap (λ blocks. first_texts s blocks (broke.index + 1)) (blocks_whole s is_bare.in_range (rows_in s is_bare) image y same));
            },
          ),
        );
      }

-- ---- the end of the input is read

-- the octets of a whole raster, and any after them
module _ (s : Setting) (is_bare : IsBare s) (raster : List ℕ) (whole : length raster ≡ s.rows * row_length s) where
  longest : length raster ≡ most_length s
  longest = whole ∙ ap (λ n. n * row_length s) (sym (tall s is_bare))

  all_settled : (more : List ℕ) → settled_texts s (raster ++ more) s.rows ≡ bare s (image_of s raster)
  unfolding settled_texts
  all_settled more =
      let y = image_of s (raster ++ more) in
      ap (first_texts s (image_blocks s y)) (ap (λ b. settled b s s.rows) (known_first s is_bare.known) ∙ settled_whole s)
      ∙ ap (λ blocks. first_texts s blocks (segments_of s)) (blocks_whole s is_bare.in_range (rows_in s is_bare) y (image_of s raster)
      (same_rows s s.rows raster more whole))

  pub all_so : (more : List ℕ) → texts_for s (raster ++ more) ≡ bare s (image_of s raster)
  unfolding texts_for
  all_so more =
      let size = size_some s.depth in
      let width = is_bare.in_range.width.0 in
      let some : 1 * 1 ≤ s.width * pixel_size s.depth = mul-le-mul {n₁ = 1} {m₁ = 1} {n₂ = s.width} {m₂ = pixel_size s.depth} (omega (arith, width))
      (omega (arith, size)) in
      let long : tallest s * row_length s ≤ length (raster ++ more) =
      subst (λ n. n ≤ length (raster ++ more)) longest (let n = length-append raster more in omega (arith, n)) in
      let count : tallest s ≤ length (raster ++ more) / row_length s = le-div (tallest s) (length (raster ++ more)) (row_length s) (omega (arith, some)) long in
      let rows : whole_rows s (raster ++ more) ≡ s.rows = most_of (tallest s) (length (raster ++ more) / row_length s) count ∙ tall s is_bare in
      ap (settled_texts s (raster ++ more)) rows ∙ all_settled more

module _ (s : Setting) (is_bare : IsBare s) (p q : Outside) (w : Work) (all : AllTexts s p q w) where
  given_all : (more : List ℕ) → texts_for s (all.took ++ more) ≡ bare s (image_of s all.took)
  given_all more = all_so s is_bare all.took all.raster.whole more

  took_longest : length all.took ≡ most_length s
  took_longest = longest s is_bare all.took all.raster.whole

  within : length all.took ≤ most_length s
  within = let whole = took_longest in omega (arith, whole)

  asked_end : {d : Outside} {more : List ℕ} → Exchange q d more [] [] AtStart → Exchange p d (all.took ++ more) (bare s (image_of s all.took)) []
      (GivenBy (texts_for s) (all.took ++ more))
  asked_end {more = more} read = since_prompt (texts_for s) all.since read (λ i j most h. let e = given_all (take i more) in omega (arith, h.1, ap length e))

  same_took : all.took ++ [] ≡ all.took
  same_took = append-nil all.took

  none_asks : {d : Outside} → Exchange q d [] [] [] AtStart → Exchange p d all.took (bare s (image_of s all.took)) [] (AsksInRange s all.took)
  none_asks {d = d} read = subst (λ t. Exchange p d t (bare s (image_of s all.took)) [] (AsksInRange s t)) same_took
      (end_asked s all.took within all.raster.in_range all.asks read)

  pub run_done : {d : Outside} (done : EncodeDone) → done.segments ≡ segments_of s → done.packets ≡ 0 → done.octets ≡ w.at.used → SawEnd q d true →
      EncodesBare s p d (Ok done)
  run_done {d = d} done segments packets octets end = record {
    took = all.took;
    gave = bare s (image_of s all.took);
    since = subst (λ t. Exchange p d t (bare s (image_of s all.took)) [] (GivenBy (texts_for s) t)) same_took (asked_end end.0);
    asks = none_asks end.0;
    answer = (all.raster, end.1, refl, record { segments = segments; packets = packets; octets = octets ∙ all.used });
  }

  pub run_long : {d : Outside} → SawEnd q d false → EncodesBare s p d (Err Long)
  run_long end =
      let prefix : take (most_length s) (all.took ++ end.0 ∷ []) ≡ all.took =
      subst (λ n. take n (all.took ++ end.0 ∷ []) ≡ all.took) took_longest (take-append_seam all.took (end.0 ∷ [])) in
      record {
        took = all.took ++ end.0 ∷ [];
        gave = bare s (image_of s all.took);
        since = asked_end end.1;
        asks = end_asked s all.took within all.raster.in_range all.asks end.1;
        answer = (
          length-append all.took (end.0 ∷ []) ∙ ap (λ n. n + 1) took_longest,
          subst (AllInRange s) (sym prefix) all.raster.in_range,
          sym (given_all (end.0 ∷ [])),
          ap (λ t. bare s (image_of s t)) (sym prefix),
        );
      }

  pub run_unread : {d : Outside} → ReadFailed q d → EncodesBare s p d (Err ReadFault)
  run_unread {d = d} failed = record {
    took = all.took;
    gave = bare s (image_of s all.took);
    since = subst (λ t. Exchange p d t (bare s (image_of s all.took)) [] (GivenBy (texts_for s) t)) same_took (asked_end failed.since);
    asks = none_asks failed.since;
    answer = (
      rose_since all.since.faults.reads failed.rose,
      within,
      all.raster.in_range,
      sym (subst (λ t. texts_for s t ≡ bare s (image_of s all.took)) same_took (given_all [])),
    );
  }

-- The end of a run: the rest of the packets, and the end of the input.
use Rattle.std.proofs.Common.{◌≡◌, ◌≢◌, ◌≤◌, ◌+◌, ◌*◌, inl, inr, ℕ, ◌-◌, ◌<◌, ℤ, true, false, List, [], ◌∷◌, ◌++◌, length, take, refl, sym, ap, ◌∙◌, subst}
use Rattle.std.proofs.Common.{arith, length-append, Ok, Err, append-nil}
use Rattle.std.proofs.lemmas.Bool.{cases_lt}
use Rattle.std.proofs.Math.Seq.{take-append_seam}
use Rattle.std.proofs.lemmas.Bool.Decides.{nat_tests}
use Rattle.port_122.specs.Outside.{Outside, Exchange, AtStart, GivenBy, ReadFailed}
use Rattle.port_122.proofs.Stretches.{since_out, rose_since, used_up_later}
use Rattle.port_122.proofs.ReadCalls.{since_prompt}
use Rattle.wave_defs.specs.Held.{SameWithin}
use Rattle.base_122.specs.Ranges.{IsInRange}
use Rattle.base_122.specs.Setting.{IsHeight, sized}
use Rattle.base_122.specs.Sizes.{total_blocks}
use Rattle.base_122.specs.declared.setting.Setting.{Setting}
use Rattle.base_122.proofs.GeometryRanges.{in_range-sized}
use Rattle.packet_defs.specs.Packets.{joined}
use Rattle.raster_rows.specs.Ends.{SawEnd}
use Rattle.stream_defs.specs.Output.{output, segments_of}
use Rattle.stream_defs.specs.SettledImages.{leading_packets}
use Rattle.stream_defs.proofs.HeightLaws.{images_settle, settled_alike}
use Rattle.stream_defs.proofs.ImageLaws.{blocks_whole}
use Rattle.strip_coder.specs.declared.encode.EncodeDone.{EncodeDone}
use Rattle.strip_coder.specs.declared.encode.EncodeFault.TheVariants.{ReadFault, WriteFault, Long}
use Rattle.strip_coder.specs.declared.work.Work.{Work}
use Rattle.strip_coder.specs.Plans.{tallest}
use Rattle.strip_coder.specs.Rasters.{row_length, most_length, image_of, given_for}
use Rattle.strip_coder.specs.Answers.{AllInRange, AsksInRange, TookRaster, TookRows, DoneFor, EncodesImage}
use Rattle.strip_coder.specs.Steps.{RowIs, EndsImage, EndBreaks}
use Rattle.strip_coder.specs.RowsIn.{HasArrived, HasAll, LastIsValid}
use Rattle.strip_coder.proofs.PlanLaws.{tall_height, tall_most, tall_or_open, known_tallest, known_height}
use Rattle.strip_coder.proofs.RowsGiven.{given_all}
use Rattle.strip_coder.proofs.RowsTakenLaws.{all_whole}
use Rattle.strip_coder.proofs.RangeAsks.{end_asked}
use Rattle.strip_coder.proofs.PrefixesGiven.{broken_prefix, known_prefix, broke_off}

module _ (s : Setting) (range : IsInRange s) (p q : Outside) (w : Work) (all : HasAll s p q w) where
  arrived : HasArrived s w.at.rows p q w
  arrived = all.arrived

  some : 0 < w.at.rows
  some = let rows = all.height.0.0 in omega (arith, rows)

  last : LastIsValid s w.at.rows arrived.took w.row.items
  last = arrived.last some

  raster : TookRaster s w.at.rows arrived.took
  raster = record { height = all.height; whole = arrived.whole; in_range = all_whole s w.at.rows arrived.took arrived.whole arrived.in_range }

  itself : SameWithin w.at.rows s.width (image_of s arrived.took) (image_of s arrived.took)
  itself = record { at = λ i j hi hj. refl }

  -- the row is the last row of each image with these rows
  row_is : (y : ℕ → ℕ → ℤ) → SameWithin w.at.rows s.width (image_of s arrived.took) y → RowIs s y (w.at.rows - 1) w
  row_is y same = record { at = λ j lt. last.same.at j lt ∙ same.at (w.at.rows - 1) j (omega (arith, some)) lt }

  most : w.at.rows ≤ tallest s
  most = tall_most s w.at.rows range all.height

  -- what is given is that of the image of exactly these rows
  gave_is : joined (leading_packets s (tallest s) (image_of s arrived.took) w.at.index)
      ≡ joined (leading_packets s w.at.rows (image_of s arrived.took) w.at.index)
  gave_is = grind (arith, nat_tests, tall_or_open, arrived, images_settle, tall_height, most, itself, settled_alike)

  so_far : Exchange p q arrived.took (joined (leading_packets s w.at.rows (image_of s arrived.took) w.at.index)) [] (GivenBy (given_for s) arrived.took)
  so_far = subst (λ g. Exchange p q arrived.took g [] (GivenBy (given_for s) arrived.took)) gave_is arrived.since

  so_far_asks : Exchange p q arrived.took (joined (leading_packets s w.at.rows (image_of s arrived.took) w.at.index)) [] (AsksInRange s arrived.took)
  so_far_asks = subst (λ g. Exchange p q arrived.took g [] (AsksInRange s arrived.took)) gave_is arrived.asks

  rows_taken : TookRows s arrived.took w.at.rows
  rows_taken = record { whole = arrived.whole; most = most; in_range = raster.in_range }

  -- ---- a write of the rest failed

  module _ (r : Outside) (new : Work) (breaks : EndBreaks s w.at.rows q r w new) where
    module _ (known : s.rows ≢ 0) where
      same_rows : s.rows ≡ w.at.rows
      same_rows = known_height s w.at.rows known all.height

      few : w.at.index ≤ segments_of (sized s w.at.rows)
      few = subst (λ n. w.at.index ≤ segments_of (sized s n)) (known_tallest s known ∙ same_rows) arrived.valid.taken.running.gathered.index

      -- what is given is that of each image with these rows
      gave_same : (rows : ℕ) (y : ℕ → ℕ → ℤ) → IsHeight s rows → w.at.rows ≤ rows → SameWithin w.at.rows s.width (image_of s arrived.took) y →
          joined (leading_packets s w.at.rows (image_of s arrived.took) w.at.index) ≡ joined (leading_packets s rows y w.at.index)
      gave_same rows y other le same = grind (arith, nat_tests, arrived, same_rows, known_height, blocks_whole, in_range-sized)

      known_breaks : EncodesImage s p r (Err WriteFault)
      known_breaks =
          broke_off s arrived.took (joined (leading_packets s w.at.rows (image_of s arrived.took) w.at.index)) w.at.rows w.at.index so_far so_far_asks
          rows_taken
          breaks.rose
          (known_prefix s (image_of s arrived.took) w.at.rows w.at.index (total_blocks s.width w.at.rows) known same_rows few
          (λ y h. breaks.breaks y (arrived.valid.follows y h) (row_is y h)))
          gave_same

    open_breaks : s.rows ≡ 0 → EncodesImage s p r (Err WriteFault)
    open_breaks left_open =
        let x = image_of s arrived.took in
        let broke = breaks.breaks x (arrived.valid.follows x itself) (row_is x itself) in
        let prefix = broken_prefix s w.at.rows {p = q} {q = r} x w.at.index (total_blocks s.width w.at.rows) broke in
        record {
          took = arrived.took;
          gave = joined (leading_packets s w.at.rows x w.at.index) ++ broke.gave;
          since = since_out so_far broke.out;
          asks = since_out so_far_asks broke.out;
          answer = (
            rose_since so_far.faults.writes breaks.rose,
            (
              w.at.rows,
              rows_taken,
              inr record {
                left_open = left_open;
                at_end = used_up_later q.rest r.rest broke.out.rest (all.ended left_open);
                height = all.height;
                some = prefix.0;
                prefix = prefix.1;
              },
            ),
          );
        }

    pub end_breaks_off : EncodesImage s p r (Err WriteFault)
    end_breaks_off = elim (cases_lt 0 s.rows) [ inl lt ↦ known_breaks (λ none. omega (arith, none, lt)) | inr none ↦ open_breaks (omega (arith, none)) ]

  -- ---- the rest was given

  module _ (r : Outside) (new : Work) (done : EncodeDone) (ends : EndsImage s w.at.rows q r w new done) where
    all_given : Exchange p r arrived.took (output s w.at.rows (image_of s arrived.took)) [] (GivenBy (given_for s) arrived.took)
    all_given =
        let goes = ends.goes (image_of s arrived.took) (arrived.valid.follows (image_of s arrived.took) itself) (row_is (image_of s arrived.took) itself) in
        subst (λ g. Exchange p r arrived.took g [] (GivenBy (given_for s) arrived.took)) goes.then_are (since_out so_far goes.out)

    all_asks : Exchange p r arrived.took (output s w.at.rows (image_of s arrived.took)) [] (AsksInRange s arrived.took)
    all_asks =
        let goes = ends.goes (image_of s arrived.took) (arrived.valid.follows (image_of s arrived.took) itself) (row_is (image_of s arrived.took) itself) in
        subst (λ g. Exchange p r arrived.took g [] (AsksInRange s arrived.took)) goes.then_are (since_out so_far_asks goes.out)

    done_is : DoneFor s w.at.rows (image_of s arrived.took) done
    done_is = ends.done (image_of s arrived.took) (arrived.valid.follows (image_of s arrived.took) itself) (row_is (image_of s arrived.took) itself)

    -- the input ended before
    pub run_ended : s.rows ≡ 0 → EncodesImage s p r (Ok done)
    run_ended left_open =
        let goes = ends.goes (image_of s arrived.took) (arrived.valid.follows (image_of s arrived.took) itself) (row_is (image_of s arrived.took) itself) in
        record {
          took = arrived.took;
          gave = output s w.at.rows (image_of s arrived.took);
          since = all_given;
          asks = all_asks;
          answer = (w.at.rows, raster, used_up_later q.rest r.rest goes.out.rest (all.ended left_open), refl, done_is);
        }

    module _ (known : s.rows ≢ 0) where
      tall : tallest s ≡ w.at.rows
      tall = known_tallest s known ∙ known_height s w.at.rows known all.height

      longest : length arrived.took ≡ most_length s
      longest = arrived.whole ∙ ap (λ n. n * row_length s) (sym tall)

      within : length arrived.took ≤ most_length s
      within = let whole = longest in omega (arith, whole)

      all_so : (more : List ℕ) → given_for s (arrived.took ++ more) ≡ output s w.at.rows (image_of s arrived.took)
      all_so more = grind (arith, nat_tests, known_height, given_all, arrived)

      -- the end is read
      asked_end : {d : Outside} {more : List ℕ} → Exchange r d more [] [] AtStart →
          Exchange p d (arrived.took ++ more) (output s w.at.rows (image_of s arrived.took)) [] (GivenBy (given_for s) (arrived.took ++ more))
      asked_end {more = more} read =
          since_prompt (given_for s) all_given read
          (λ i j most h.
          let e = all_so (take i more) in
          omega (arith, h.1, ap length e))

      same_took : arrived.took ++ [] ≡ arrived.took
      same_took = append-nil arrived.took

      none_asks : {d : Outside} → Exchange r d [] [] [] AtStart → Exchange p d arrived.took (output s w.at.rows (image_of s arrived.took)) []
          (AsksInRange s arrived.took)
      none_asks {d = d} read =
          subst (λ t. Exchange p d t (output s w.at.rows (image_of s arrived.took)) [] (AsksInRange s t)) same_took
          (end_asked s arrived.took within raster.in_range all_asks read)

      pub run_done : {d : Outside} → SawEnd r d true → EncodesImage s p d (Ok done)
      run_done {d = d} end = record {
        took = arrived.took;
        gave = output s w.at.rows (image_of s arrived.took);
        since = subst (λ t. Exchange p d t (output s w.at.rows (image_of s arrived.took)) [] (GivenBy (given_for s) t)) same_took (asked_end end.0);
        asks = none_asks end.0;
        answer = (w.at.rows, raster, end.1, refl, done_is);
      }

      pub run_long : {d : Outside} → SawEnd r d false → EncodesImage s p d (Err Long)
      run_long end =
          let prefix : take (most_length s) (arrived.took ++ end.0 ∷ []) ≡ arrived.took =
          subst (λ n. take n (arrived.took ++ end.0 ∷ []) ≡ arrived.took) longest (take-append_seam arrived.took (end.0 ∷ [])) in
          record {
            took = arrived.took ++ end.0 ∷ [];
            gave = output s w.at.rows (image_of s arrived.took);
            since = asked_end end.1;
            asks = end_asked s arrived.took within raster.in_range all_asks end.1;
            answer = (
              length-append arrived.took (end.0 ∷ []) ∙ ap (λ n. n + 1) longest,
              subst (AllInRange s) (sym prefix) raster.in_range,
              sym (all_so (end.0 ∷ [])),
              λ k. ap (λ n. output s n (image_of s arrived.took)) (sym (known_height s w.at.rows known all.height)) ∙ ap (λ t. output s s.rows (image_of s t))
                  (sym prefix),
            );
          }

      pub run_unread : {d : Outside} → ReadFailed r d → EncodesImage s p d (Err ReadFault)
      run_unread {d = d} failed =
          let valid : given_for s arrived.took ≡ output s w.at.rows (image_of s arrived.took) =
          subst (λ t. given_for s t ≡ output s w.at.rows (image_of s arrived.took)) same_took (all_so []) in
          record {
            took = arrived.took;
            gave = output s w.at.rows (image_of s arrived.took);
            since = subst (λ t. Exchange p d t (output s w.at.rows (image_of s arrived.took)) [] (GivenBy (given_for s) t)) same_took (asked_end failed.since);
            asks = none_asks failed.since;
            answer = (rose_since all_given.faults.reads failed.rose, within, raster.in_range, sym valid);
          }

-- The tallest raster of a setting whose rows are reported last: the end has to follow.
use Rattle.std.proofs.Common.{◌≡◌, ◌≤◌, ◌+◌, inr, ℕ, List, [], ◌∷◌, ◌++◌, length, take, sym, ap, ◌∙◌, subst, arith, length-append, true, false, Err, append-nil}
use Rattle.std.proofs.Math.Seq.{take-append_seam}
use Rattle.port_122.specs.Outside.{Outside, Exchange, AtStart, GivenBy, ReadFailed}
use Rattle.port_122.proofs.Stretches.{rose_since}
use Rattle.port_122.proofs.ReadCalls.{since_prompt}
use Rattle.base_122.specs.Ranges.{IsInRange}
use Rattle.base_122.specs.Setting.{IsHeight}
use Rattle.base_122.specs.declared.setting.Setting.{Setting}
use Rattle.packet_defs.specs.Packets.{joined}
use Rattle.raster_rows.specs.Ends.{SawEnd}
use Rattle.stream_defs.specs.SettledImages.{leading_packets}
use Rattle.strip_coder.specs.declared.encode.EncodeFault.TheVariants.{ReadFault, Long}
use Rattle.strip_coder.specs.declared.work.Work.{Work}
use Rattle.strip_coder.specs.Plans.{tallest}
use Rattle.strip_coder.specs.Rasters.{most_length, image_of, settled_octets, given_for}
use Rattle.strip_coder.specs.Answers.{AllInRange, AsksInRange, EncodesImage}
use Rattle.strip_coder.specs.RowsIn.{HasArrived, HasAll}
use Rattle.strip_coder.proofs.PlanLaws.{tall_height}
use Rattle.strip_coder.proofs.RowsGiven.{given_whole}
use Rattle.strip_coder.proofs.RowsTakenLaws.{all_whole}
use Rattle.strip_coder.proofs.RangeAsks.{end_asked}

module _ (s : Setting) (range : IsInRange s) (p q : Outside) (w : Work) (arrived : HasArrived s (tallest s) p q w) where
  -- their number was known before
  pub known_all : (s.rows ≡ 0 → ⊥) → HasAll s p q w
  known_all known = record {
    height = subst (IsHeight s) (sym arrived.valid.taken.rows) (tall_height s range);
    arrived = subst (λ n. HasArrived s n p q w) (sym arrived.valid.taken.rows) arrived;
    ended = λ none. absurd (known none);
  }

  module _ (left_open : s.rows ≡ 0) where
    gave_is : joined (leading_packets s (tallest s) (image_of s arrived.took) w.at.index) ≡ settled_octets s arrived.took (tallest s)
    unfolding settled_octets
    gave_is = ap (λ n. joined (leading_packets s (tallest s) (image_of s arrived.took) n)) (arrived.valid.taken.index (inr left_open))

    so_far : Exchange p q arrived.took (settled_octets s arrived.took (tallest s)) [] (GivenBy (given_for s) arrived.took)
    so_far = subst (λ g. Exchange p q arrived.took g [] (GivenBy (given_for s) arrived.took)) gave_is arrived.since

    so_far_asks : Exchange p q arrived.took (settled_octets s arrived.took (tallest s)) [] (AsksInRange s arrived.took)
    so_far_asks = subst (λ g. Exchange p q arrived.took g [] (AsksInRange s arrived.took)) gave_is arrived.asks

    -- the end is read
    asked_end : {d : Outside} {more : List ℕ} → Exchange q d more [] [] AtStart →
        Exchange p d (arrived.took ++ more) (settled_octets s arrived.took (tallest s)) [] (GivenBy (given_for s) (arrived.took ++ more))
    asked_end {more = more} read =
        since_prompt (given_for s) so_far read
        (λ i j most h.
        let e = given_whole s arrived.took (take i more) range arrived.whole in
        omega (arith, h.1, ap length e))

    same_took : arrived.took ++ [] ≡ arrived.took
    same_took = append-nil arrived.took

    in_range : AllInRange s arrived.took
    in_range = all_whole s (tallest s) arrived.took arrived.whole arrived.in_range

    longest : length arrived.took ≤ most_length s
    longest = let whole = arrived.whole in omega (arith, whole)

    asked_none : {d : Outside} → Exchange q d [] [] [] AtStart → Exchange p d arrived.took (settled_octets s arrived.took (tallest s)) []
        (GivenBy (given_for s) arrived.took)
    asked_none {d = d} read = subst (λ t. Exchange p d t (settled_octets s arrived.took (tallest s)) [] (GivenBy (given_for s) t)) same_took (asked_end read)

    none_asks : {d : Outside} → Exchange q d [] [] [] AtStart → Exchange p d arrived.took (settled_octets s arrived.took (tallest s)) []
        (AsksInRange s arrived.took)
    none_asks {d = d} read =
        subst (λ t. Exchange p d t (settled_octets s arrived.took (tallest s)) [] (AsksInRange s t)) same_took
        (end_asked s arrived.took longest in_range so_far_asks read)

    pub tall_ended : {d : Outside} → SawEnd q d true → HasAll s p d w
    tall_ended {d = d} end = record {
      height = subst (IsHeight s) (sym arrived.valid.taken.rows) (tall_height s range);
      arrived = subst (λ n. HasArrived s n p d w) (sym arrived.valid.taken.rows) (record {
        took = arrived.took;
        whole = arrived.whole;
        in_range = arrived.in_range;
        valid = arrived.valid;
        last = arrived.last;
        since = subst (λ g. Exchange p d arrived.took g [] (GivenBy (given_for s) arrived.took)) (sym gave_is) (asked_none end.0);
        asks = subst (λ g. Exchange p d arrived.took g [] (AsksInRange s arrived.took)) (sym gave_is) (none_asks end.0);
      });
      ended = λ none. end.1;
    }

    pub tall_long : {d : Outside} → SawEnd q d false → EncodesImage s p d (Err Long)
    tall_long end =
        let prefix : take (most_length s) (arrived.took ++ end.0 ∷ []) ≡ arrived.took =
        subst (λ n. take n (arrived.took ++ end.0 ∷ []) ≡ arrived.took) arrived.whole (take-append_seam arrived.took (end.0 ∷ [])) in
        record {
          took = arrived.took ++ end.0 ∷ [];
          gave = settled_octets s arrived.took (tallest s);
          since = asked_end end.1;
          asks = end_asked s arrived.took longest in_range so_far_asks end.1;
          answer = (
            length-append arrived.took (end.0 ∷ []) ∙ ap (λ n. n + 1) arrived.whole,
            subst (AllInRange s) (sym prefix) in_range,
            sym (given_whole s arrived.took (end.0 ∷ []) range arrived.whole),
            λ known. absurd (known left_open),
          );
        }

    pub tall_unread : {d : Outside} → ReadFailed q d → EncodesImage s p d (Err ReadFault)
    tall_unread failed = record {
      took = arrived.took;
      gave = settled_octets s arrived.took (tallest s);
      since = asked_none failed.since;
      asks = none_asks failed.since;
      answer = (
        rose_since so_far.faults.reads failed.rose,
        longest,
        in_range,
        sym (ap (given_for s) (sym same_took) ∙ given_whole s arrived.took [] range arrived.whole),
      );
    }

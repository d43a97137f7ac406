-- The laws of how octets are read as a bare stream.
use Rattle.std.proofs.Common.{◌≡◌, ◌≤◌, ◌<◌, ◌+◌, ◌-◌, ◌*◌, max, ℕ, zero, suc, ℤ, true, inl, inr, List, [], ◌∷◌, ◌++◌, length, take, drop, refl, sym, ap}
use Rattle.std.proofs.Common.{◌∙◌, subst, arith, nat_lt, if◌then◌else◌, Some, Result, Ok, Err, length-drop}
use Rattle.std.proofs.lemmas.Bool.{cases_lt}
use Rattle.std.proofs.lemmas.Bool.Decides.{nat_tests}
use Rattle.std.proofs.lemmas.List.{drop-append-le, drop-take, take_all, take-append-drop}
use Rattle.segment_defs.specs.TextWish.{TextWish, text_wish}
use Rattle.base_122.specs.declared.geometry.Geometry.{Geometry}
use Rattle.base_122.specs.declared.wish.DecodeWish.{DecodeWish}
use Rattle.plane_defs.specs.Codes.{is_book_sound}
use Rattle.segment_defs.specs.declared.head.SegmentHead.{SegmentHead}
use Rattle.segment_code.specs.Laws.{TextsEndThere}
use Rattle.bare_text.specs.InForce.{parts_after}
use Rattle.bare_text.specs.Laws.{BareHeadsEndThere}
use Rattle.bare_stream.specs.declared.fault.BareCause.TheVariants.{Trailing}
use Rattle.bare_stream.specs.declared.fault.BareFault.{BareFault}
use Rattle.bare_stream.specs.declared.fault.BareFault.TheVariants.{ReadFault, WriteFault, LongInput, Memory}
use Rattle.bare_stream.specs.Pictures.{all_rows}
use Rattle.bare_stream.specs.StreamRead.{needs_more, stops, Segments, Next, text, ends, refused, next_by, next_in, with_text, Read, continued}
use Rattle.bare_stream.specs.StreamRead.{read_after, read_on, none_read, stream_in, reading, answer_by, answer_for}
use Rattle.bare_stream.specs.BareStream.{BareStream, BareStreamsEndThere, BareStreamsStopThere}
use Rattle.bare_stream.specs.Decoded.{Answers, rows_of}
use Rattle.bare_stream.specs.RoundTrip.{IsWithinCaps, ReadsWhole, StreamsAreRead}
use Rattle.bare_stream.proofs.NextReads.{Opens, next_stays, next_few, fewer_open, stop_stays, text_stays, text_least, text_most, force_stays, needed}
use Rattle.bare_stream.proofs.ReadLaws.{read_text, read_ends}
use Rattle.bare_stream.proofs.WholeReads.{whole_rows, whole_ended, rows_input, more_pixels, same_whole, one_geometry, next_ok}

-- ---- more octets

abbrev IsOpenRead : Read → Type 0
IsOpenRead x = (at_end : Result Geometry BareFault) × (x.ending ≡ needs_more at_end)

module _ (heads : BareHeadsEndThere) (texts : TextsEndThere) (wish : TextWish) (sound : is_book_sound wish.book ≡ true) (pixels : ℕ) where
  -- the text that is next is the same, if more octets follow
  text_further : (s : Segments) (octets more : List ℕ) (head : SegmentHead) (k : ℕ) (w : List (List ℤ)) → next_in wish pixels s octets ≡ text head k w →
      read_on wish pixels s (octets ++ more) ≡ read_on wish pixels (with_text s head k w octets) (drop k octets ++ more)
  text_further s octets more head k w e =
      let most = text_most heads texts wish sound pixels s octets head k w e in
      let force = force_stays heads texts wish sound pixels s octets more head k w e in
      read_text heads texts wish sound pixels s (octets ++ more) head k w (text_stays heads texts wish sound pixels s octets more head k w e)
      ∙ ap (read_on wish pixels (with_text s head k w (octets ++ more))) (drop-append-le k octets more most)
      ∙ ap (λ p. read_on wish pixels (record (with_text s head k w octets) { before = p }) (drop k octets ++ more)) force

  shorter : (s : Segments) (octets : List ℕ) (n : ℕ) (head : SegmentHead) (k : ℕ) (w : List (List ℤ)) → next_in wish pixels s octets ≡ text head k w →
      length octets < suc n → length (drop k octets) < n
  shorter s octets n head k w e lt =
      let least = text_least heads texts wish sound pixels s octets head k w e in
      let most = text_most heads texts wish sound pixels s octets head k w e in
      omega (arith, length-drop k octets, least, most, lt)

  -- after a stream that is read whole
  whole_then : (n : ℕ) (s : Segments) (octets more : List ℕ) (g : Geometry) → length octets < n → (read_after n wish pixels s octets).ending
      ≡ needs_more (Ok g) →
      read_on wish pixels s (octets ++ more) ≡ read_on wish pixels (read_after n wish pixels s octets).segments more
  unfolding read_after
  whole_then zero s octets more g lt e = absurd (omega (arith, lt))
  whole_then (suc n) s octets more g lt e = by (λ z l a b. whole_then n z l more g a b) (next_in wish pixels s octets) refl e
    where
      by : ((z : Segments) (l : List ℕ) → length l < n → (read_after n wish pixels z l).ending ≡ needs_more (Ok g) →
          read_on wish pixels z (l ++ more) ≡ read_on wish pixels (read_after n wish pixels z l).segments more) → (next : Next) →
          next_in wish pixels s octets ≡ next → (continued (read_after n wish pixels) s octets next).ending ≡ needs_more (Ok g) →
          read_on wish pixels s (octets ++ more) ≡ read_on wish pixels (continued (read_after n wish pixels) s octets next).segments more
      by again (text head k w) so e = text_further s octets more head k w so ∙ again (with_text s head k w octets) (drop k octets)
          (shorter s octets n head k w so lt) e
      by again (ends ending) so e =
          let last = next_ok wish pixels s octets g (so ∙ ap (λ x. ends x) e) in
          ap (λ l. read_on wish pixels s (l ++ more)) last.none

  -- octets that stop the reading
  record StopsAt (s : Segments) (octets : List ℕ) (x : Read) (k : ℕ) : Type 0 where
    enough : k ≤ s.octets + length octets
    stays : (more : List ℕ) → read_on wish pixels s (octets ++ more) ≡ x
    least : (m : ℕ) → s.octets + m < k → IsOpenRead (read_on wish pixels s (take m octets))

  open_read : (s : Segments) (octets : List ℕ) → Opens (next_in wish pixels s octets) → IsOpenRead (read_on wish pixels s octets)
  open_read s octets opened = (opened.0, ap (λ x. x.ending) (read_ends heads texts wish sound pixels s octets (needs_more opened.0) opened.1))

  stopped : (s : Segments) (octets : List ℕ) (fault : BareFault) (k : ℕ) → next_in wish pixels s octets ≡ ends (stops fault k) →
      StopsAt s octets (record { segments = s; ending = stops fault k }) k
  stopped s octets fault k so =
      let few = next_few heads texts wish sound pixels s octets in
      let same = ap (needed s) so in
      record {
        enough = omega (arith, few, same);
        stays = λ more. read_ends heads texts wish sound pixels s (octets ++ more) (stops fault k)
            (stop_stays heads texts wish sound pixels s octets more fault k so);
        least = λ m lt. open_read s (take m octets) (fewer_open heads texts wish sound pixels s octets m (omega (arith, same, lt)));
      }

  -- within the first text, or after it
  module _ (s : Segments) (octets : List ℕ) (head : SegmentHead) (j : ℕ) (w : List (List ℤ)) (so : next_in wish pixels s octets ≡ text head j w) (x : Read)
      (k : ℕ)
      (later : StopsAt (with_text s head j w octets) (drop j octets) x k) where
    most : j ≤ length octets
    most = text_most heads texts wish sound pixels s octets head j w so

    after_text : (m : ℕ) → j ≤ m → s.octets + m < k → IsOpenRead (read_on wish pixels s (take m octets))
    after_text m le lt = elim (next_stays heads texts wish sound pixels s (take m octets) (drop m octets)) [
      | inl opened ↦ open_read s (take m octets) opened
      | inr same ↦
          let parts = take-append-drop m octets in
          let here : next_in wish pixels s (take m octets) ≡ text head j w = same ∙ ap (next_in wish pixels s) parts ∙ so in
          let force = force_stays heads texts wish sound pixels s (take m octets) (drop m octets) head j w here in
          let n = m - j in
          let split : m ≡ j + n = omega (arith, le) in
          let rest : drop j (take m octets) ≡ take n (drop j octets) = ap (λ i. drop j (take i octets)) split ∙ drop-take j n octets in
          let opened = later.least n (omega (arith, lt, le)) in
          let read : read_on wish pixels s (take m octets) ≡ read_on wish pixels (with_text s head j w octets) (take n (drop j octets)) =
          read_text heads texts wish sound pixels s (take m octets) head j w here
          ∙ ap (read_on wish pixels (with_text s head j w (take m octets))) rest
          ∙ ap (λ p. read_on wish pixels (record (with_text s head j w octets) { before = p }) (take n (drop j octets)))
          (sym force ∙ ap (parts_after s.before) parts) in
          (opened.0, ap (λ z. z.ending) read ∙ opened.1)
    ]

    text_stops : StopsAt s octets x k
    text_stops = record {
      enough = (let few = later.enough in let long = length-drop j octets in let all = most in omega (arith, few, long, all));
      stays = λ more. text_further s octets more head j w so ∙ later.stays more;
      least = λ m lt. elim (cases_lt m j) [
        | inl before ↦ open_read s (take m octets) (fewer_open heads texts wish sound pixels s octets m (let same =
            ap (needed s) so in omega (arith, before, same)))
        | inr ge ↦ after_text m ge lt
      ];
    }

  stops_at : (n : ℕ) (s : Segments) (octets : List ℕ) (fault : BareFault) (k : ℕ) → length octets < n → (read_after n wish pixels s octets).ending
      ≡ stops fault k → StopsAt s octets (read_after n wish pixels s octets) k
  unfolding read_after
  stops_at zero s octets fault k lt e = absurd (omega (arith, lt))
  stops_at (suc n) s octets fault k lt e = by (λ z l a b. stops_at n z l fault k a b) (next_in wish pixels s octets) refl e
    where
      by : ((z : Segments) (l : List ℕ) → length l < n → (read_after n wish pixels z l).ending ≡ stops fault k →
          StopsAt z l (read_after n wish pixels z l) k) → (next : Next) → next_in wish pixels s octets ≡ next →
          (continued (read_after n wish pixels) s octets next).ending ≡ stops fault k → StopsAt s octets (continued (read_after n wish pixels) s octets next) k
      by again (text head j w) so e = text_stops s octets head j w so (read_after n wish pixels (with_text s head j w octets) (drop j octets)) k
          (again (with_text s head j w octets) (drop j octets) (shorter s octets n head j w so lt) e)
      by again (ends ending) so e =
          subst (λ x. StopsAt s octets (record { segments = s; ending = x }) k) (sym e) (stopped s octets fault k (so ∙ ap (λ x. ends x) e))

pub streams_stop_there : BareHeadsEndThere → TextsEndThere → BareStreamsStopThere
streams_stop_there heads texts wish sound pixels octets fault n e =
    let at = stops_at heads texts wish sound pixels (suc (length octets)) none_read octets fault n (omega arith) e in
    record { enough = (let few = at.enough in omega (arith, few)); stays = at.stays; least = λ m lt. at.least m (omega (arith, lt)) }

-- ---- one stream

nothing_more : (s : Segments) (wish : TextWish) (pixels : ℕ) (g h : Geometry) (more : List ℕ) → s.ended ≡ Some g →
    (read_on wish pixels s more).ending ≡ needs_more (Ok h) → more ≡ []
unfolding read_after
nothing_more s wish pixels g h [] ended e = refl
nothing_more s wish pixels g h (x ∷ more) ended e = absurd (by (next_in wish pixels s (x ∷ more)) (ap (next_by wish pixels s (x ∷ more)) ended) e)
  where
    by : (next : Next) → next ≡ refused s 1 Trailing → (continued (read_after (length (x ∷ more)) wish pixels) s (x ∷ more) next).ending ≡ needs_more (Ok h) → ⊥
    by next so e = wrong (ap (λ k. (continued (read_after (length (x ∷ more)) wish pixels) s (x ∷ more) k).ending) (sym so) ∙ e)
      where
        wrong : {fault : BareFault} {n : ℕ} → stops fault n ≡ needs_more (Ok h) → ⊥
        wrong e = cc

pub streams_end_there : BareHeadsEndThere → TextsEndThere → BareStreamsEndThere
streams_end_there heads texts = record {
  no_prefix = λ wish sound octets more g h v w a b.
      let p = g.width * g.rows in
      let q = h.width * h.rows in
      let m = max p q in
      let first = more_pixels wish p m (omega arith) octets g a.whole in
      let all = more_pixels wish q m (omega arith) (octets ++ more) h b.whole in
      let whole = ap (λ x. x.ending) first ∙ a.whole in
      let after = whole_then heads texts wish sound m (suc (length octets)) none_read octets more g (omega arith) whole in
      nothing_more (stream_in wish m octets).segments wish m g h more (whole_ended wish m octets g whole) (ap (λ x. x.ending) (sym after ∙ all) ∙ b.whole);
  geometry = λ wish octets g h v w a b. one_geometry _ _ g h (same_whole wish (g.width * g.rows) (h.width * h.rows) octets g h a.whole b.whole) a.whole b.whole;
  blocks = λ wish octets g h v w a b. sym a.blocks ∙ ap (λ x. x.segments.blocks) (same_whole wish (g.width * g.rows) (h.width * h.rows) octets g h a.whole
      b.whole) ∙ b.blocks;
}

-- ---- a stream within the caps

module _ (wish : DecodeWish) (octets : List ℕ) (g : Geometry) (w : List (List (List ℤ))) (stream : BareStream (text_wish wish) octets g w)
    (caps : IsWithinCaps wish octets g) where
  whole_reading : reading wish octets ≡ stream_in (text_wish wish) (g.width * g.rows) octets
  whole_reading =
      let short = caps.short in
      ap (stream_in (text_wish wish) wish.pixels) (take_all wish.octets octets (omega (arith, short)))
      ∙ more_pixels (text_wish wish) (g.width * g.rows) wish.pixels caps.few octets g stream.whole

  pub answer_is : answer_for wish octets ≡ Ok g
  answer_is =
      let short = caps.short in
      let test : nat_lt (length octets) wish.octets ≡ true = grind (arith, nat_tests, short) in
      ap (λ x. answer_by wish octets x.ending) whole_reading ∙ ap (answer_by wish octets) stream.whole ∙ ap (λ b. if b then Ok g else Err LongInput) test

  rows_are : rows_of (reading wish octets).segments ≡ all_rows g w
  rows_are =
      ap (λ x. rows_of x.segments) whole_reading ∙ whole_rows (text_wish wish) (g.width * g.rows) octets g stream.whole ∙ ap (all_rows g) stream.blocks

  ok_one : (a b : Geometry) (o : Result Geometry BareFault) → o ≡ Ok a → o ≡ Ok b → a ≡ b
  ok_one a b o e f = cc

  ok_not : (a : Geometry) (fault : BareFault) (o : Result Geometry BareFault) → o ≡ Ok a → Err fault ≡ o → ⊥
  ok_not a fault o e f = cc

  pub reads_whole : (took gave : List ℕ) (result : Result Geometry BareFault) → Answers wish octets took gave result → ReadsWhole g w gave result
  reads_whole took gave (Ok found) why = (ok_one found g (answer_for wish octets) (sym why.answer) answer_is, why.rows ∙ rows_are)
  reads_whole took gave (Err ReadFault) why = tt
  reads_whole took gave (Err WriteFault) why = tt
  reads_whole took gave (Err Memory) why = tt
  reads_whole took gave (Err other) why = absurd (ok_not g _ (answer_for wish octets) answer_is why.answer)

pub streams_are_read : StreamsAreRead
streams_are_read = record {
  answer = λ wish octets g w stream caps. answer_is wish octets g w stream caps;
  blocks = λ wish octets g w stream caps. ap (λ x. x.segments.blocks) (whole_reading wish octets g w stream caps) ∙ stream.blocks;
  rows = λ wish input g right. rows_input wish input g (sym right);
  read = λ wish old new result octets g w run stream if_known caps. reads_whole wish octets g w stream caps run.took run.gave result
      (run.answers octets if_known);
}

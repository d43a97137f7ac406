-- What a picture that `decode` gave shows, and what a look shows.
use Rattle.std.proofs.Common.{◌≡◌, ◌≤◌, ℕ, ℤ, List, [], ◌∷◌, sym, ◌∙◌, ap, subst, arith, refl, inl, inr, true, false, ◌≢◌, ◌⊎◌, ◌&&◌, nat_le, nat_lt, Bool}
use Rattle.std.proofs.Common.{Option, None, Some, Result, Ok, Err}
use Rattle.std.proofs.lemmas.Bool.{false≢true}
use Rattle.std.proofs.lemmas.Bool.Decides.{nat_tests}
use Rattle.std.proofs.Math.Bool.{and-false}
use Rattle.port_122.specs.Outside.{Outside}
use Rattle.base_122.specs.declared.geometry.Geometry.{Geometry}
use Rattle.base_122.specs.declared.setting.Setting.{Setting}
use Rattle.base_122.specs.declared.wish.DecodeWish.{DecodeWish}
use Rattle.packet_defs.specs.declared.packet.Framing.{Framing}
use Rattle.stream_defs.specs.declared.range.RowRange.{RowRange}
use Rattle.stream_defs.specs.Damage.{is_covered, is_damaged, LieApart}
use Rattle.stream_defs.specs.Marks.{Marks}
use Rattle.stream_defs.specs.declared.fate.FateState.{FateState}
use Rattle.stream_defs.specs.Begun.{begun as begun_of, begun_in}
use Rattle.stream_defs.specs.Fates.{geometry_in, kept_in}
use Rattle.stream_defs.specs.Output.{output}
use Rattle.stream_defs.specs.Picture.{picture_octets}
use Rattle.stream_defs.specs.Received.{AreReceived}
use Rattle.stream_defs.proofs.DamageLaws.{whole_damage}
use Rattle.stream_defs.proofs.PlacedLaws.{within_not}
use Rattle.segment_defs.specs.TextWish.{text_wish}
use Rattle.strip_decoder.specs.declared.ending.DecodeDone.{DecodeDone}
use Rattle.strip_decoder.specs.declared.ending.DecodeFault.{DecodeFault}
use Rattle.strip_decoder.specs.Answers.{Answers}
use Rattle.strip_decoder.specs.WalkAnswers.{IsPicture}
use Rattle.strip_decoder.specs.Laws.{ReceivedIsKnown}
use Rattle.strip_decoder.specs.Runs.{holds_after}
use Rattle.strip_decoder.specs.Walks.{IsDamageOf}
use Rattle.camera_mux.specs.Picked.{picked}
use Rattle.camera_mux.specs.PickLaws.{PickingKeeps}
use Rattle.quick_look.specs.Containment.{LossesStay}
use Rattle.quick_look.specs.Looks.{LookAnswers}
use Rattle.quick_look.specs.LookLaws.{LooksOfImages}
use Rattle.strip_decoder.specs.Containment.{DecodedContained}
use Rattle.strip_decoder.specs.Images.{IsImageFor}
use Rattle.strip_decoder.specs.RoundTrip.{RoundTrip, GivesBack}
use Rattle.strip122.specs.DamageNotes.{damaged, is_known}
use Rattle.strip122.specs.Decoding.{Decodes, LooksAt}
use Rattle.strip122.specs.Pictures.{GaveLook, GavePicture, GivesOwn}
use Rattle.strip122.proofs.Reports.{done_status, decode_status}
use Rattle.strip122.proofs.Decoded.{fault_statuses, some_known}

-- ---- if nothing is missing, nothing is damaged

unharmed : (rows row : ℕ) → is_damaged rows [] row ≡ false
unharmed rows row = and-false (nat_lt row rows)

begun : (r : RowRange) (rs : List RowRange) → r.first ≤ r.last → is_covered (r ∷ rs) r.first ≡ true
begun r rs le = let e : (nat_le r.first r.first && nat_le r.first r.last) ≡ true = both r.first r.last le in rw e refl
  where
    both : (a b : ℕ) → a ≤ b → (nat_le a a && nat_le a b) ≡ true
    both a b le = grind (arith, nat_tests)

pub none_damaged : (m : Marks) → m.missing ≡ [] → damaged m ≡ []
none_damaged m none = by (damaged m) (whole_damage m.rows m.missing).1
    (λ row. (whole_damage m.rows m.missing).0.each row ∙ ap (λ missing. is_damaged m.rows missing row) none ∙ unharmed m.rows row)
  where
    by : (rs : List RowRange) → LieApart 0 rs → ((row : ℕ) → is_covered rs row ≡ false) → rs ≡ []
    by [] apart uncovered = refl
    by (r ∷ rs) apart uncovered = absurd (false≢true (sym (uncovered r.first) ∙ begun r rs apart.1))

whole_status : (ranges : List RowRange) (known : Bool) (framing : Option Framing) → ranges ≡ [] → known ≡ true → framing ≡ None →
    done_status ranges known framing ≡ 0
whole_status ranges known framing none if_known good = rw (none, if_known, good) refl

-- ---- a run of the decoder

-- packets of other APIDs change nothing
own_begun : (apid : ℕ) (own octets : List ℕ) → geometry_in apid own ≡ geometry_in apid octets → kept_in apid own ≡ kept_in apid octets →
    begun_in apid own ≡ begun_in apid octets
own_begun apid own octets geometry kept = by (geometry_in apid octets) geometry refl
  where
    by : (o : Option Geometry) → geometry_in apid own ≡ o → geometry_in apid octets ≡ o → begun_in apid own ≡ begun_in apid octets
    by None one other = rw (one, other) refl
    by (Some g) one other = rw (one, other) (ap (begun_of g) kept)

gives_own : PickingKeeps → (wish : DecodeWish) (old new : Outside) (took gave all : List ℕ) (done : DecodeDone) → IsPicture wish old new took gave done →
    old.rest ≡ Some all → GivesOwn wish took gave done
gives_own law wish old new took gave all done p if_known =
    let keeps = law.all took wish.apid in
    let own = picked took wish.apid None in
    let t = p.if_known all if_known in
    let geometry : geometry_in wish.apid own ≡ geometry_in wish.apid took = ap (λ (s : FateState). s.geometry) keeps.state in
    let begun : begun_in wish.apid took ≡ begun_in wish.apid own = sym (own_begun wish.apid own took geometry keeps.kept) in
    record {
      geometry = geometry ∙ p.geometry;
      received = t.0;
      received_is = subst (λ packets. AreReceived (holds_after (text_wish wish)) packets t.0) (sym keeps.kept) t.1;
      gave_is = t.2 ∙ ap (picture_octets done.geometry t.0) begun;
      damage = subst (λ n. IsDamageOf done.geometry t.0 n done.damage) begun t.3;
    }

low_status : (status : ℕ) → (status ≡ 0) ⊎ (status ≡ 1) → status ≤ 1
low_status status (inl none) = omega (arith, none)
low_status status (inr some) = omega (arith, some)

pub gave_picture : PickingKeeps → ReceivedIsKnown → LossesStay → DecodedContained → RoundTrip → (wish : DecodeWish) (old new : Outside) (status : ℕ) →
    Decodes wish old new status → (status ≡ 0) ⊎ (status ≡ 1) → GavePicture wish old new status
gave_picture law known stays contains trip wish old new status run picture = by run.answer run.cause.cause run.status_is
  where
    back : (done : DecodeDone) → Answers wish old new run.took run.gave (Ok done) → status ≡ decode_status (Ok done) → (all : List ℕ) →
        old.rest ≡ Some all → (s : Setting) (rows : ℕ) (x : ℕ → ℕ → ℤ) →
        wish.apid ≡ s.apid → wish.book ≡ s.book → run.took ≡ output s rows x → IsImageFor s rows x → (status ≡ 0) × GivesBack s rows x run.gave done
    back done k is all if_known s rows x apid book took image =
        let b = trip.decoded wish old new run.took run.gave all done s rows x k if_known apid book took image in
        let known : done.geometry.rows ≢ 0 = λ none. within_not rows image.height.0 (sym (ap (λ (g : Geometry). g.rows) b.geometry) ∙ none) in (
          is ∙ whole_status (damaged done.damage) (is_known done.geometry) done.framing (none_damaged done.damage b.missing) (some_known done.geometry known)
              b.framing_is,
          b,
        )

    by : (r : Result DecodeDone DecodeFault) → Answers wish old new run.took run.gave r → status ≡ decode_status r → GavePicture wish old new status
    by (Ok done) k is = record {
      done = done;
      took = run.took;
      gave = run.gave;
      wrote = run.wrote;
      since = run.since;
      own = λ all if_known. gives_own law wish old new run.took run.gave all done k if_known;
      damage = λ all if_known received received_is.
          let t = k.if_known all if_known in
          known.damage (text_wish wish) wish.apid run.took t.0 received done.geometry (begun_in wish.apid run.took) done.damage t.1 received_is t.3;
      contained = λ all if_known. contains.decoded wish old new run.took run.gave all done k if_known;
      alike = λ all if_known s rows x parts apid book took are begins. contains.sublists wish old new run.took run.gave all done s rows x parts k if_known
          apid book
          took are begins;
      in_rects = λ all if_known. stays.decoded wish old new run.took run.gave all done k if_known;
      alike_in_rects = λ all if_known s rows x parts apid book took are begins. stays.some_decoded wish old new run.took run.gave all done s rows x parts k
          if_known
          apid book took are begins;
      back = back done k is;
    }
    by (Err fault) k is = absurd (omega (arith, is, fault_statuses fault, low_status status picture))

-- ---- a run of the look

pub gave_look : LooksOfImages → (wish : DecodeWish) (old new : Outside) (status : ℕ) → LooksAt wish old new status → (status ≡ 0) ⊎ (status ≡ 1) →
    GaveLook wish old new
gave_look law wish old new status run given = by run.answer run.cause.cause run.status_is
  where
    by : (r : Result DecodeDone DecodeFault) → LookAnswers wish old new run.took run.gave r → status ≡ decode_status r → GaveLook wish old new
    by (Ok done) k is = record {
      done = done;
      took = run.took;
      gave = run.gave;
      wrote = run.wrote;
      since = run.since;
      look = k;
      of_image = λ all if_known s rows x apid book took image sends. law.given wish old new run.took run.gave all done s rows x k if_known apid book took
          image sends;
    }
    by (Err fault) k is = absurd (omega (arith, is, fault_statuses fault, low_status status given))

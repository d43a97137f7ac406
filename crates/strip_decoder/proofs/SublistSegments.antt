-- Which segments are received of some packets of an image: exactly those whose packets are all there.
use Rattle.std.proofs.Common.{◌≡◌, ◌<◌, ℕ, ℤ, List, refl, sym, subst, Bool, true, Option, None, Some, is_some, MatchOption}
use Rattle.std.proofs.lemmas.Bool.{false≢true}
use Rattle.base_122.specs.Setting.{sized}
use Rattle.base_122.specs.declared.setting.Setting.{Setting}
use Rattle.packet_defs.specs.Streams.{whole_packets}
use Rattle.segment_code.specs.ShortTexts.{TextsAreShort}
use Rattle.segment_code.specs.Coded.{CodedTextsAreRead}
use Rattle.stream_defs.specs.Chosen.{all_parts}
use Rattle.stream_defs.specs.Fates.{fresh, kept}
use Rattle.stream_defs.specs.Output.{head_for, image_blocks, segment_of, segment_text, segments_of, reports_last}
use Rattle.stream_defs.specs.Places.{AreCoded}
use Rattle.stream_defs.specs.Received.{Acceptance, IsReceived, ReceivedIn}
use Rattle.stream_defs.proofs.SublistLaws.{received_only, received_each}
use Rattle.strip_decoder.specs.Runs.{Numbers, holds_after}
use Rattle.strip_decoder.specs.Images.{texts_for, some_output, ArePixels, AreSome, ReceivesThose}
use Rattle.strip_decoder.proofs.SpelledImages.{head_fits, spells}
use Rattle.strip_decoder.proofs.SublistPictures.{coded_for, packets_are, sized_range}

module _ (short : TextsAreShort) (s : Setting) (rows : ℕ) (x : ℕ → ℕ → ℤ) (parts : ℕ → List ℕ) (are : AreSome s rows x parts) where
  abbrev t : Setting
  t = sized s rows

  abbrev all : List (List ℤ)
  all = image_blocks t x

  abbrev if_known : Bool
  if_known = reports_last s

  coded : AreCoded t all
  coded = coded_for short s rows x are.image

  pixels : ArePixels t rows x
  pixels = record { at = are.image.pixels.at }

  module _ (restore : Bool) (received : Numbers)
      (received_is : ReceivedIn (holds_after (texts_for s restore)) s.apid (some_output s rows x parts) received) where
    abbrev Holds : Acceptance
    Holds = holds_after (texts_for s restore)

    abbrev Here : (index : ℕ) → List (List ℤ) → Type 0
    Here index w = IsReceived Holds (kept s.apid fresh (whole_packets (some_output s rows x parts))) index w

    answered : (index : ℕ) (o : Option (List (List ℤ))) → received index ≡ o → MatchOption o ((v : List (List ℤ)) → Here index v → ⊥) (Here index)
    answered index o e = subst (λ o. MatchOption o ((v : List (List ℤ)) → Here index v → ⊥) (Here index)) e (received_is.at index)

    -- a received segment has all its packets, and is what they carry
    pub only_whole : (index : ℕ) (w : List (List ℤ)) → index < segments_of t → received index ≡ Some w →
        (parts index ≡ all_parts t all index) × holds_after (texts_for s restore) (head_for t all index) (segment_text t all index) w
    only_whole index w lt e =
        received_only if_known t all coded parts are.choice Holds index w lt
        (subst (λ ps. IsReceived Holds (kept s.apid fresh ps) index w) (packets_are short s rows x parts are) (answered index (Some w) e))

    -- a segment with all its packets is received
    pub each_whole : CodedTextsAreRead → (index : ℕ) → index < segments_of t → parts index ≡ all_parts t all index → is_some (received index) ≡ true
    each_whole read index lt whole = by (received index) refl
      where
        by : (o : Option (List (List ℤ))) → received index ≡ o → is_some o ≡ true
        by (Some w) e = refl
        by None e =
            let blocks = segment_of t all index in
            let image = are.image in
            let held = (read (texts_for s restore) image.sound (head_for t all index) blocks
            (head_fits t x (sized_range short s rows x image) image.height.0 pixels index lt) image.weights
            (spells t x (sized_range short s rows x image) image.height.0 pixels index lt) refl).given in
            absurd (answered index None e held.0 (subst (λ ps. IsReceived Holds (kept s.apid fresh ps) index held.0)
            (sym (packets_are short s rows x parts are))
            (received_each if_known t all coded parts are.choice Holds index held.0 lt whole held.1)))

    pub receives_those : CodedTextsAreRead → ReceivesThose s rows x parts received
    receives_those read = record { at = λ index lt. (λ some. from_some index (received index) lt refl some, each_whole read index lt) }
      where
        from_some : (index : ℕ) (o : Option (List (List ℤ))) → index < segments_of t → received index ≡ o → is_some o ≡ true →
            parts index ≡ all_parts t all index
        from_some index None lt e some = absurd (false≢true some)
        from_some index (Some w) lt e some = (only_whole index w lt e).0

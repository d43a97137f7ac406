-- The effect of the packets of an input on a run without a fault.
use Rattle.std.proofs.Common.{◌≡◌, ◌*◌, ℕ, List, [], ◌∷◌, ◌++◌, length, sym, subst, ◌∙◌, ap, arith, append_assoc, length-append, inl, inr, false, Some}
use Rattle.std.proofs.Common.{None, Ok, Err, mul-le-mul_left, take, ◌≤◌}
use Rattle.std.proofs.lemmas.Bool.{false≢true, cases_Bool, cases_lt}
use Rattle.port_122.specs.Outside.{Outside, Exchange, Loses}
use Rattle.port_122.proofs.IfKnown.{end_known}
use Rattle.base_122.specs.declared.geometry.Geometry.{Geometry}
use Rattle.base_122.specs.declared.wish.DecodeWish.{DecodeWish}
use Rattle.packet_defs.specs.Streams.{whole_packets, left_over, has_bad_version}
use Rattle.stream_defs.specs.Begun.{HasFewPixels, end_of, rows_reached}
use Rattle.stream_defs.specs.Fates.{fresh, after_all, geometry_in, kept}
use Rattle.stream_defs.specs.declared.fate.FateState.{FateState}
use Rattle.stream_defs.proofs.ChosenLaws.{after_all-append}
use Rattle.strip_decoder.specs.declared.ending.DecodeDone.{DecodeDone}
use Rattle.strip_decoder.specs.declared.ending.DecodeFault.{DecodeFault}
use Rattle.strip_decoder.specs.declared.ending.DecodeFault.TheVariants.{ReadFault, WriteFault, NoSegment, TooManyPixels, LongInput, Memory}
use Rattle.packet_assembly.specs.Readings.{IsReadOut}
use Rattle.packet_assembly.proofs.ReachedRows.{geometry_more, reached_more}
use Rattle.strip_decoder.specs.Runs.{ReportsMany, HasFew}
use Rattle.strip_decoder.proofs.Asking.{leading_packets}
use Rattle.strip122.specs.Listing.{EndsWithin}
use Rattle.strip122.specs.Decoding.{Causes, reads_picture}
use Rattle.strip122.specs.Outcomes.{DecoderRefuses, picture_outcomes}
use Rattle.strip122.specs.Ran.{Asking, CausedWithin}
use Rattle.packet_assembly.proofs.BadVersions.{bad_stays}
use Rattle.strip122.proofs.Reports.{decoder_fault_status}
use Rattle.strip122.proofs.ReadOut.{took_prefix, all_within, not_read_out}
use Rattle.strip122.proofs.Decoded.{SawImage, Says, AllSay, picture_ends}
use Rattle.strip122.proofs.Behaviours.{Law}

-- The number of rows that the kept heads reach never falls. So if a head among the octets that were taken reports too many pixels, all
-- octets do.
many_stays : (most apid pixels : ℕ) (took more : List ℕ) → ReportsMany most apid pixels took → HasFewPixels most apid (took ++ more) → ⊥
many_stays most apid pixels took more m few =
    let first = m.before ++ m.packet ∷ [] in
    let parts = leading_packets took more in
    let later = m.later ++ parts.0 in
    let all : whole_packets (took ++ more) ≡ first ++ later = parts.1 ∙ ap (λ xs. xs ++ parts.0) m.packets_are ∙ append_assoc first m.later parts.0 in
    let last = geometry_more apid first later m.image m.geometry in
    let there : (after_all apid fresh (first ++ later)).geometry ≡ Some last.0 =
    ap (λ (s : FateState). s.geometry) (after_all-append apid fresh first later) ∙ last.1 in
    let small : HasFew most apid (first ++ later) = subst (HasFew most apid) all few in
    let width : last.0.width ≡ m.image.width = ap (λ (k : Geometry). k.width) last.2 in
    let rise = mul-le-mul_left m.image.width (reached_more apid first later m.image last.0 m.geometry there) in
    omega (arith, m.many, m.pixels_are, small last.0 there, rise, ap (λ w. w * rows_reached last.0 (end_of (kept apid fresh (first ++ later)))) width)

-- if the packets end within the cap, it is impossible that the full cap is taken and these octets can be read on
pub not_full : (cap : ℕ) (old new : Outside) (took : List ℕ) → Loses old.rest new.rest took → (input : List ℕ) → old.rest ≡ Some input →
    EndsWithin cap input → length took ≡ cap → has_bad_version (left_over took) ≡ false → ⊥
not_full cap old new took loses input if_known ends full good =
    let prefix = took_prefix input took old.rest new.rest if_known loses in
    elim ends [
      | inl short ↦ omega (arith, full, ap length prefix.1, length-append took prefix.0, short)
      | inr bad ↦ false≢true (sym good ∙ ap (λ xs. has_bad_version (left_over xs)) (sym (all_within cap input took prefix.0 prefix.1 full)) ∙ bad)
    ]

module _ (cap : ℕ) (old new : Outside) {took gave wrote : List ℕ} {Q : ℕ → ℕ → Type 0} (since : Exchange old new took gave wrote Q)
    (input : List ℕ) (if_known : old.rest ≡ Some input) where
  -- octets that were read out have all packets of the input
  pub all_read : IsReadOut cap new took → whole_packets input ≡ whole_packets took
  all_read (inl bad) = let f = took_prefix input took old.rest new.rest if_known since.rest in ap whole_packets f.1 ∙ bad_stays took f.0 bad
  all_read (inr ended) = ap whole_packets (sym (end_known input since if_known ended.0))

  -- so they report the same image
  same_image : (apid : ℕ) → IsReadOut cap new took → geometry_in apid input ≡ geometry_in apid took
  same_image apid out = ap (λ whole. (after_all apid fresh whole).geometry) (all_read out)

  -- and the input ends within the cap
  pub ends_within : length took ≤ cap → IsReadOut cap new took → EndsWithin cap input
  ends_within within out = elim (cases_lt (length input) cap) [
    | inl short ↦ inl short
    | inr long ↦ elim (cases_Bool (has_bad_version (left_over (take cap input)))) [
      | inl bad ↦ inr bad
      | inr good ↦ absurd (not_read_out cap took input old new since if_known within long good out)
    ]
  ]

module _ (wish : DecodeWish) (answers : Causes) (asks : Asking) (say : AllSay wish answers) (old new : Outside) where
  -- packets of a picture aren't refused
  right_packets : (input : List ℕ) → old.rest ≡ Some input → (reads_picture wish answers asks).accepts input →
      DecoderRefuses (CausedWithin wish.octets answers) asks old new → ⊥
  right_packets input if_known has r = by r.fault (say old new r.took r.gave (Err r.fault) r.cause.cause) r.input
    where
      by : (fault : DecodeFault) → Says wish old new r.took r.gave (Err fault) → decoder_fault_status fault ≡ 3 → ⊥
      by NoSegment k three =
          let none : geometry_in wish.apid input ≡ None = same_image wish.octets old new r.since input if_known wish.apid k.1 ∙ k.0 in
          let some = has.1.1 in
          absurd (cc)
      by (TooManyPixels pixels) k three =
          let f = took_prefix input r.took old.rest new.rest if_known r.since.rest in
          many_stays wish.pixels wish.apid pixels r.took f.0 k (subst (HasFewPixels wish.pixels wish.apid) f.1 has.1.2)
      by LongInput k three = not_full wish.octets old new r.took r.since.rest input if_known has.0 k.0 k.1
      by ReadFault k three = omega (arith, three)
      by WriteFault k three = omega (arith, three)
      by Memory k three = omega (arith, three)

  -- and a picture is given only for packets of one
  accepted : {took gave wrote : List ℕ} {Q : ℕ → ℕ → Type 0} (input : List ℕ) → old.rest ≡ Some input → Exchange old new took gave wrote Q →
      (done : DecodeDone) → CausedWithin wish.octets answers old new took gave (Ok done) → (reads_picture wish answers asks).accepts input
  accepted {took = took} {gave = gave} input if_known since done cause =
      let k : SawImage wish old new took done = say old new took gave (Ok done) cause.cause in
      let geometry : geometry_in wish.apid input ≡ Some done.geometry =
      same_image wish.octets old new since input if_known wish.apid k.out ∙ k.geometry in
      let few : HasFewPixels wish.pixels wish.apid input =
      subst (HasFew wish.pixels wish.apid) (sym (all_read wish.octets old new since input if_known k.out)) k.few in
      (ends_within wish.octets old new since input if_known cause.within k.out, (done.geometry, geometry, few))

pub picture_law : (wish : DecodeWish) (answers : Causes) (asks : Asking) → AllSay wish answers → Law (reads_picture wish answers asks)
    (picture_outcomes wish answers asks)
picture_law wish answers asks say = record {
  ends = picture_ends wish answers asks say;
  right = right_packets wish answers asks say;
  whole = λ old new input if_known w. accepted wish answers asks say old new input if_known w.since w.done w.cause;
  part = λ old new input if_known p. accepted wish answers asks say old new input if_known p.since p.done p.cause;
}

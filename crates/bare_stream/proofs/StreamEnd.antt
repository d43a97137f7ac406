-- After all segments the end of the input is read, or what follows instead of it.
use Rattle.std.proofs.Common.{◌≡◌, ◌+◌, ℕ, List, [], ◌∷◌, length, refl, sym, ap, ◌∙◌, subst, inl, inr, Option, None, Some, Ok, Err}
use Rattle.port_122.specs.Outside.{Outside, IsUsedUp}
use Rattle.base_122.specs.declared.geometry.Geometry.{Geometry}
use Rattle.base_122.specs.declared.wish.DecodeWish.{DecodeWish}
use Rattle.segment_defs.specs.TextWish.{text_wish}
use Rattle.bit_pipe.specs.declared.fault.InFault.TheVariants as in_faults
use Rattle.bit_pipe.specs.Sources.{Arrives, IsOver, Plainly, GivesOctet}
use Rattle.bare_stream.specs.declared.fault.BareCause.TheVariants.{Trailing}
use Rattle.bare_stream.specs.declared.fault.BareFault.{BareFault}
use Rattle.bare_stream.specs.declared.fault.BareFault.TheVariants.{ReadFault, LongInput, Refused}
use Rattle.bare_stream.specs.declared.input.PortIn.{PortIn}
use Rattle.bare_stream.specs.declared.walk.Walk.{Walk}
use Rattle.bare_stream.specs.Heads.{ExpectsEnd}
use Rattle.bare_stream.specs.Input.{Went, waiting, tail_of, tail_with}
use Rattle.bare_stream.specs.Inputs.{source_of}
use Rattle.bare_stream.specs.Pictures.{geometry_at}
use Rattle.bare_stream.specs.StreamRead.{needs_more, stops, Segments, ends, next_by, next_in}
use Rattle.bare_stream.specs.Decoded.{IfKnown, DecodesBare}
use Rattle.bare_stream.specs.Reads.{SegmentsRead, HasRead, segments_of, size_of}
use Rattle.bare_stream.specs.Walks.{HasEnded}
use Rattle.bare_stream.proofs.NextReads.{Opens}
use Rattle.bare_stream.proofs.ReadsOn.{read_on, gave_known}
use Rattle.bare_stream.proofs.InputEnds.{ends_plain}
use Rattle.bare_stream.proofs.Endings.{ended_by, ended_plainly, failed, was_long, was_broken}

-- nothing is left at the end
used_up : (o : Option (List ℕ)) (waits : List ℕ) (left : ℕ) → IsOver (tail_with o waits left) Plainly → IsUsedUp o
used_up None waits left over = tt
used_up (Some rest) waits left over = (ends_plain (Some rest) waits rest left refl over).end

module _ {X : Type 0} (outside : X → Outside) (wish : DecodeWish) (start : Outside) (s t : PortIn X) (w : Walk) (ended : HasEnded outside wish start s w)
    (went : Went outside s t) where
  abbrev r : SegmentsRead
  r = ended.r

  abbrev all : Segments
  all = segments_of r ended.before

  abbrev read : HasRead outside wish start r went.gave t
  read = read_on outside wish start r [] s t ended.read went

  next_is : (octets : List ℕ) → next_in (text_wish wish) wish.pixels all octets ≡ next_by (text_wish wish) wish.pixels all octets (Some ended.g)
  next_is octets = ap (next_by (text_wish wish) wish.pixels all octets) ended.ended

  -- no octet followed
  none_gave : Arrives (tail_of outside s) (tail_of outside t) [] →
      IfKnown start (λ input. next_in (text_wish wish) wish.pixels all went.gave ≡ ends (needs_more (Ok ended.g)))
  none_gave came input if_known = ap (next_in (text_wish wish) wish.pixels all) (sym
      (gave_known outside wish start r [] s t ended.read went [] came input if_known))
      ∙ next_is []

  opens : Arrives (tail_of outside s) (tail_of outside t) [] → IfKnown start (λ input. Opens (next_in (text_wish wish) wish.pixels all went.gave))
  opens came input if_known = (Ok ended.g, none_gave came input if_known)

  pub ends_there : GivesOctet (source_of outside) (Ok None) s t → DecodesBare wish start (outside t.port.now) (Ok ended.g)
  ends_there x =
      ended_plainly wish ended.laws outside start r ended.before went.gave t read ended.reaches (opens x.ends.0) (Ok ended.g) (none_gave x.ends.0) x.ends.1
      (used_up (outside t.port.now).rest (waiting t) t.left x.ends.1) (λ input a. a)

  pub read_failed : GivesOctet (source_of outside) (Err in_faults.ReadFault) s t → DecodesBare wish start (outside t.port.now) (Err ReadFault)
  read_failed x = failed wish ended.laws outside start r ended.before went.gave t read ended.reaches (opens x.ends.0) s x.ends.1

  pub too_long : GivesOctet (source_of outside) (Err in_faults.LongInput) s t → DecodesBare wish start (outside t.port.now) (Err LongInput)
  too_long x = was_long wish ended.laws outside start r ended.before went.gave t read ended.reaches (opens x.ends.0) x.ends.1

  pub was_cut : GivesOctet (source_of outside) (Err in_faults.Broken) s t → DecodesBare wish start (outside t.port.now) (Err LongInput)
  was_cut x = was_broken wish ended.laws outside start r ended.before went.gave t read ended.reaches (opens x.ends.0) x.ends.1

  -- an octet followed
  one_gave : (octet : ℕ) → Arrives (tail_of outside s) (tail_of outside t) (octet ∷ []) →
      IfKnown start (λ input. next_in (text_wish wish) wish.pixels all went.gave ≡ ends (stops (Refused w.index Trailing) (size_of r + length went.gave)))
  one_gave octet came input if_known =
      let gave = gave_known outside wish start r [] s t ended.read went (octet ∷ []) came input if_known in
      ap (next_in (text_wish wish) wish.pixels all) (sym gave) ∙ next_is (octet ∷ [])
      ∙ ap (λ n. ends (stops (Refused n Trailing) (size_of r + 1))) (sym ended.index)
      ∙ ap (λ l. ends (stops (Refused w.index Trailing) (size_of r + length l))) gave

  pub goes_past : (octet : ℕ) → GivesOctet (source_of outside) (Ok (Some octet)) s t →
      DecodesBare wish start (outside t.port.now) (Err (Refused w.index Trailing))
  goes_past octet x =
      ended_by wish ended.laws outside start r ended.before went.gave t read ended.reaches (Refused w.index Trailing) (size_of r + length went.gave)
      (one_gave octet x.ends.0) refl tt (λ input a. a)

module _ {X : Type 0} (outside : X → Outside) (wish : DecodeWish) (start : Outside) (s t : PortIn X) (w : Walk) (ended : HasEnded outside wish start s w) where
  pub end_faulted : (fault : BareFault) → ExpectsEnd (source_of outside) w.index (Err fault) s t → DecodesBare wish start (outside t.port.now) (Err fault)
  end_faulted ReadFault x = read_failed outside wish start s t w ended x.went x
  end_faulted LongInput (inl x) = too_long outside wish start s t w ended x.went x
  end_faulted LongInput (inr x) = was_cut outside wish start s t w ended x.went x
  end_faulted (Refused i Trailing) x =
      let octet = x.1 in
      subst (λ n. DecodesBare wish start (outside t.port.now) (Err (Refused n Trailing))) (sym x.0)
      (goes_past outside wish start s t w ended octet.1.went octet.0 octet.1)
  end_faulted other x = absurd x

  pub stream_read : (g : Geometry) → g ≡ record (geometry_at w.first 0 w.first) { rows = w.picture.geometry.rows } →
      GivesOctet (source_of outside) (Ok None) s t → DecodesBare wish start (outside t.port.now) (Ok g)
  stream_read g is x = subst (λ h. DecodesBare wish start (outside t.port.now) (Ok h)) (ended.g_is ∙ sym is)
      (ends_there outside wish start s t w ended x.went x)

-- A segment's text that was read, by what its packets bring.
use Rattle.std.proofs.Common.{◌≡◌, ◌*◌, ℕ, ℤ, List, [], ◌∷◌, ◌++◌, length, take, refl, sym, ap, subst, ◌∙◌, arith, Bool, true, false, Option, Some, Result}
use Rattle.std.proofs.Common.{Ok, Err, IsErr, is_err, option_map}
use Rattle.std.proofs.lemmas.List.{append-nil, take-append-le}
use Rattle.std.proofs.lemmas.Bool.Decides.{nat_tests}
use Rattle.port_122.specs.Outside.{Outside, Loses}
use Rattle.port_122.proofs.Stretches.{rose_since}
use Rattle.wave_defs.specs.Held.{blocks_in}
use Rattle.bit_pipe.specs.declared.fault.Part.{Part}
use Rattle.bit_pipe.specs.Sources.{End, Plainly, TooLong, InPieces, Arrives, IsOver}
use Rattle.segment_defs.specs.TextWish.{TextWish, text_read}
use Rattle.segment_defs.specs.declared.head.SegmentHead.{SegmentHead}
use Rattle.segment_defs.specs.Outcomes.{SegmentRefusal}
use Rattle.segment_code.specs.Decoded.{DecodesSegment}
use Rattle.segment_code.specs.Laws.{EndsSay}
use Rattle.segment_code.specs.declared.fault.SegmentFault.{SegmentFault}
use Rattle.segment_code.specs.declared.fault.SegmentFault.TheVariants as faults
use Rattle.packet_assembly.specs.declared.text.SegmentText.{SegmentText}
use Rattle.packet_assembly.specs.Assembling.{Assembling}
use Rattle.packet_assembly.specs.Segments.{Continues}
use Rattle.packet_assembly.specs.Passing.{goes_both}
use Rattle.packet_assembly.specs.Tails.{text_tail}
use Rattle.packet_assembly.specs.TextSource.{segment_source}
use Rattle.strip_decoder.specs.declared.ending.DecodeFault.{DecodeFault}
use Rattle.strip_decoder.specs.declared.ending.DecodeFault.TheVariants.{ReadFault}
use Rattle.strip_decoder.specs.Segments.{EndsText, ReadsText, Refuses, cells_of}

-- what is left after octets were taken
pub record IsLeft (now : Option (List ℕ)) (took before : List ℕ) : Type 0 where
  pub rest : List ℕ
  pub if_known : now ≡ Some rest
  pub are : before ≡ took ++ rest

pub left_after : (o n : Option (List ℕ)) (took before : List ℕ) → Loses o n took → o ≡ Some before → IsLeft n took before
left_after o n took before loses if_known = grind (arith, nat_tests)

-- what was read of a text, if the port reports what is left
pub record HasArrived (a b : Assembling) (before : List ℕ) (now : Option (List ℕ)) (octets : List ℕ) : Type 0 where
  pub rest : List ℕ
  pub if_known : now ≡ Some rest
  pub octets_are : (text_tail a before).octets ≡ octets ++ (text_tail b rest).octets
  pub ends : (text_tail a before).ends ≡ (text_tail b rest).ends

arrived_by : (a b : Assembling) (o n : Option (List ℕ)) (before : List ℕ) (took octets : List ℕ) → Loses o n took → o ≡ Some before →
    Arrives (option_map (text_tail a) o) (option_map (text_tail b) n) octets → HasArrived a b before n octets
arrived_by a b o n before took octets loses if_known came = grind (arith, nat_tests, left_after)

over_by : (b : Assembling) (n : Option (List ℕ)) (rest : List ℕ) (ends : End) → n ≡ Some rest → IsOver (option_map (text_tail b) n) ends →
    ((text_tail b rest).octets ≡ []) × ((text_tail b rest).ends ≡ ends)
over_by b n rest ends if_known over = let here : IsOver (option_map (text_tail b) (Some rest)) ends = rw if_known at over in here

take_all : (xs : List ℤ) → take (length xs) xs ≡ xs
take_all [] = refl
take_all (x ∷ xs) = ap (λ zs. x ∷ zs) (take_all xs)

module _ {X : Type 0} (outside : X → Outside) (texts : TextWish) (s t : SegmentText X) where
  abbrev old : Outside
  old = outside s.port.now

  abbrev now : Outside
  now = outside t.port.now

  arrived : (octets before : List ℕ) → (g : Continues old now s.assembly.now t.assembly.now) →
      Arrives ((segment_source outside).tail s) ((segment_source outside).tail t) octets → old.rest ≡ Some before →
      HasArrived s.assembly.now t.assembly.now before now.rest octets
  arrived octets before g came if_known = arrived_by s.assembly.now t.assembly.now old.rest now.rest before g.passes.took octets g.passes.since.rest
      if_known came

  -- ---- a text that holds something

  module _ (head : SegmentHead) (part : Part) (cells more : List ℤ) (long : length cells ≡ 64 * head.blocks) (say : EndsSay texts head)
      (d : DecodesSegment (segment_source outside) texts head (Ok part) s t cells) (new : Outside) (b : Assembling) where
    goes : Continues old now s.assembly.now t.assembly.now
    goes = d.went.goes

    cells_are : cells ≡ cells_of head (cells ++ more)
    cells_are = sym (ap (λ n. take n (cells ++ more)) (sym long) ∙ take-append-le (length cells) cells more (omega arith) ∙ take_all cells)

    -- all of it was read
    whole : (before : List ℕ) → old.rest ≡ Some before → ((text_tail s.assembly.now before).ends ≡ Plainly)
        × ((text_tail s.assembly.now before).octets ≡ d.octets)
    whole before if_known =
        let x = arrived d.octets before goes d.came if_known in
        grind (arith, nat_tests, over_by, append-nil)

    none_left : (before : List ℕ) → now.rest ≡ Some before → ((text_tail t.assembly.now before).octets ≡ [])
        × ((text_tail t.assembly.now before).ends ≡ Plainly)
    none_left before if_known = over_by t.assembly.now now.rest before Plainly if_known d.ends.1

    outcome : text_read texts head d.octets ≡ Ok (blocks_in (cells_of head (cells ++ more)))
    outcome = say.given d.octets part (blocks_in cells) d.ends.0 ∙ ap (λ xs. Ok (blocks_in xs)) cells_are

    ends_by : (result : Result Bool DecodeFault) → EndsText now new t.assembly.now b result →
        ReadsText texts old new s.assembly.now b head (cells ++ more) result
    ends_by (Ok true) e = record {
      goes = goes_both goes e.goes;
      unheld = e.unheld;
      closed = e.closed;
      some = d.octets;
      holds = outcome;
      if_known = λ before if_known. let all = whole before if_known in (all.0, ap (text_read texts head) all.1 ∙ outcome);
    }
    ends_by (Ok false) e = record {
      goes = goes_both goes e.goes;
      if_known = λ before if_known plain.
          let left = left_after old.rest now.rest goes.passes.took before goes.passes.since.rest if_known in
          let none = none_left left.rest left.if_known in
          absurd (e.if_known left.rest left.if_known none.0 none.1);
    }
    ends_by (Err ReadFault) e = record { goes = goes_both goes e.goes; rose = rose_since goes.passes.since.faults.reads e.rose }
    ends_by (Err other) e = absurd e

    pub text_accepted : (p x : X) (a y : Assembling) (result : Result Bool DecodeFault) → s.port.now ≡ p → s.assembly.now ≡ a → x ≡ t.port.now →
        y ≡ t.assembly.now → EndsText (outside x) new y b result →
        ReadsText texts (outside p) new a b head (cells ++ more) result
    text_accepted p x a y result begins from e f ends = grind (arith, nat_tests, ends_by)

  -- ---- a text that is refused

  module _ (head : SegmentHead) (cells : List ℤ) (fault : SegmentFault) (d : DecodesSegment (segment_source outside) texts head (Err fault) s t cells) where
    abbrev HasRefusal : List ℕ → Type 0
    HasRefusal before = IsErr (text_read texts head (text_tail s.assembly.now before).octets)

    -- by its first octets
    by_name : (name : SegmentRefusal) → ((more : List ℕ) → text_read texts head (d.octets ++ more) ≡ Err name) → (before : List ℕ) →
        old.rest ≡ Some before → HasRefusal before
    by_name name refused before if_known =
        let x = arrived d.octets before d.went.goes d.came if_known in
        ap is_err (ap (text_read texts head) x.octets_are ∙ refused (text_tail t.assembly.now x.rest).octets)

    -- as it is too short
    by_end : IsOver ((segment_source outside).tail t) Plainly → (name : SegmentRefusal) → text_read texts head d.octets ≡ Err name → (before : List ℕ) →
        old.rest ≡ Some before → HasRefusal before
    by_end over name refused before if_known =
        let x = arrived d.octets before d.went.goes d.came if_known in
        let none = over_by t.assembly.now now.rest x.rest Plainly x.if_known over in
        let whole : (text_tail s.assembly.now before).octets ≡ d.octets = x.octets_are ∙ ap (λ zs. d.octets ++ zs) none.0 ∙ append-nil d.octets in
        ap is_err (ap (text_read texts head) whole ∙ refused)

    -- as it ends otherwise
    by_break : (ends : End) → (ends ≡ Plainly → ⊥) → IsOver ((segment_source outside).tail t) ends → (before : List ℕ) → old.rest ≡ Some before →
        (text_tail s.assembly.now before).ends ≡ Plainly → ⊥
    by_break ends other over before if_known plain = grind (arith, nat_tests, arrived, goes, over_by)

  pub text_refused : (head : SegmentHead) (cells : List ℤ) (fault : SegmentFault) → EndsSay texts head → (fault ≡ faults.ReadFault → ⊥) →
      DecodesSegment (segment_source outside) texts head (Err fault) s t cells →
      (p x : X) (a y : Assembling) → s.port.now ≡ p → s.assembly.now ≡ a → x ≡ t.port.now → y ≡ t.assembly.now → Refuses texts (outside p) (outside x) a y head
  text_refused head cells fault say other d p x a y begins from e f =
      subst (λ p. Refuses texts (outside p) (outside x) a y head) begins (subst (λ a. Refuses texts old (outside x) a y head) from
      (subst (λ x. Refuses texts old (outside x) s.assembly.now y head) (sym e)
      (subst (λ y. Refuses texts old now s.assembly.now y head) (sym f) record { goes = d.went.goes; if_known = by fault other d })))
    where
      by : (fault : SegmentFault) → (fault ≡ faults.ReadFault → ⊥) → DecodesSegment (segment_source outside) texts head (Err fault) s t cells →
          (before : List ℕ) → old.rest ≡ Some before → (text_tail s.assembly.now before).ends ≡ Plainly →
          IsErr (text_read texts head (text_tail s.assembly.now before).octets)
      by faults.BadOption other d before if_known plain = by_name head cells faults.BadOption d _ (λ more. say.refused d.octets more _ d.ends) before if_known
      by faults.BadDelta other d before if_known plain = by_name head cells faults.BadDelta d _ (λ more. say.refused d.octets more _ d.ends) before if_known
      by faults.BadDepth other d before if_known plain = by_name head cells faults.BadDepth d _ (λ more. say.refused d.octets more _ d.ends) before if_known
      by faults.FalseFlag other d before if_known plain = by_name head cells faults.FalseFlag d _ (λ more. say.refused d.octets more _ d.ends) before if_known
      by faults.ShortSegment other d before if_known plain = by_end head cells faults.ShortSegment d d.ends.1 _ (say.short d.octets d.ends.0) before if_known
      by faults.Overlong other d before if_known plain = by_name head cells faults.Overlong d _ (λ more. say.overruns d.octets more d.ends) before if_known
      by faults.BrokenSegment other d before if_known plain =
          absurd (by_break head cells faults.BrokenSegment d InPieces (λ e. absurd cc) d.ends.1 before if_known plain)
      by faults.LongInput other d before if_known plain =
          absurd (by_break head cells faults.LongInput d TooLong (λ e. absurd cc) d.ends.1 before if_known plain)
      by faults.ReadFault other d before if_known plain = absurd (other refl)

-- A packet is read as it was written.
use Rattle.std.proofs.Common.{◌≡◌, ◌<◌, ◌+◌, ◌-◌, ◌/◌, ◌%◌, ◌^◌, ℕ, List, [], ◌∷◌, ◌++◌, length, refl, sym, ap, ◌∙◌, arith, length-append, Bool, true}
use Rattle.std.proofs.Common.{false, not, ◌==◌, ◌||◌, nat_lt, slice_index, Option}
use Rattle.std.proofs.lemmas.Bool.{eq-eqb, ne_eqb, le-ltb, lt-leb}
use Rattle.byteorder.specs.Endian.{big_bytes}
use Rattle.byteorder.specs.Numbers.{big_number-reads_back}
use Rattle.packet_defs.specs.declared.ancillary.Ancillary.{Ancillary}
use Rattle.packet_defs.specs.declared.packet.Skip.TheVariants.{OtherMark}
use Rattle.packet_defs.specs.Packets.{identification, sequence_control, mark_of, ancillary_length, ancillary_octets, packet_with}
use Rattle.packet_defs.specs.Tests.{when, first_of}
use Rattle.packet_defs.specs.Reading.{number_at, type_in, secondary_in, apid_in, field_length, mark_in, has_mark, idle_apid, skip_of}
use Rattle.packet_defs.specs.Streams.{reported_length}
use Rattle.packet_defs.specs.Written.{CanBeWritten}
use Rattle.packet_defs.specs.Laws.{ReadsBack}

-- a test that isn't met, before others
pub none_first : {X : Type 0} (b : Bool) (x : X) (answers : List (Option X)) → b ≡ false → first_of (when b x ∷ answers) ≡ first_of answers
none_first b x answers e = rw e refl

same_ancillary : {a b : Ancillary} → a.reported_last ≡ b.reported_last → a.image ≡ b.image → a.rows ≡ b.rows → a.segment ≡ b.segment → a.index ≡ b.index →
    a.first ≡ b.first → a.part ≡ b.part → a ≡ b
same_ancillary if_known image rows segment index first part = λ i. record {
  reported_last = if_known i;
  image = image i;
  rows = rows i;
  segment = segment i;
  index =
      index i;
  first = first i;
  part = part i;
}

mark_fits : (reported_last : Bool) → mark_of reported_last < 256 ^ 2
mark_fits true = omega arith
mark_fits false = omega arith

-- each of the two marks reports its own value
mark_reports : (m : ℕ) (reported_last : Bool) → m ≡ mark_of reported_last → (m == mark_of true) ≡ reported_last
mark_reports m true e = eq-eqb m (mark_of true) e
mark_reports m false e = ne_eqb m (mark_of true) (λ f. omega (arith, e, f))

mark_known : (m : ℕ) (reported_last : Bool) → m ≡ mark_of reported_last → ((m == mark_of false) || (m == mark_of true)) ≡ true
mark_known m true e = rw (ne_eqb m (mark_of false) (λ f. omega (arith, e, f)), eq-eqb m (mark_of true) e) refl
mark_known m false e = rw (eq-eqb m (mark_of false) e) refl

-- the octets of the ancillary data from each number on
abbrev from_part : Ancillary → List ℕ → List ℕ
from_part a text = big_bytes 4 a.part ++ text

abbrev from_first : Ancillary → List ℕ → List ℕ
from_first a text = big_bytes 4 a.first ++ from_part a text

abbrev from_index : Ancillary → List ℕ → List ℕ
from_index a text = big_bytes 4 a.index ++ from_first a text

abbrev from_segment : Ancillary → List ℕ → List ℕ
from_segment a text = big_bytes 4 a.segment ++ from_index a text

abbrev from_rows : Ancillary → List ℕ → List ℕ
from_rows a text = big_bytes 4 a.rows ++ from_segment a text

abbrev from_image : Ancillary → List ℕ → List ℕ
from_image a text = big_bytes 2 a.image ++ from_rows a text

abbrev field_with : Ancillary → List ℕ → List ℕ
field_with a text = ancillary_octets a ++ text

pub reads_back : (apid flags number : ℕ) (a : Ancillary) (text : List ℕ) → CanBeWritten apid flags a text →
    ReadsBack apid flags a text (packet_with apid flags number (ancillary_octets a ++ text))
unfolding skip_of reported_length
reads_back apid flags number a text can =
    let field = field_with a text in
    let packet = packet_with apid flags number field in
    let size : length field ≡ 24 + length text = length-append (ancillary_octets a) text in
    let low : number % 2 ^ 14 < 2 ^ 14 = omega arith in
    let control = sequence_control flags number in
    let control_fits : control < 256 ^ 2 = omega (arith, can.few_flags, low) in
    let first : number_at packet 0 2 ≡ identification apid =
    big_number-reads_back 2 (identification apid) (big_bytes 2 control ++ (big_bytes 2 (length field - 1) ++ field)) (omega (arith, can.own)) in
    let second : number_at packet 2 2 ≡ control = big_number-reads_back 2 control (big_bytes 2 (length field - 1) ++ field) control_fits in
    let third : number_at packet 4 2 ≡ length field - 1 = big_number-reads_back 2 (length field - 1) field (omega (arith, size, can.room)) in
    let marked : mark_in packet ≡ mark_of a.reported_last = big_number-reads_back 2 (mark_of a.reported_last) (from_image a text) (mark_fits a.reported_last) in
    let image : number_at packet 8 2 ≡ a.image = big_number-reads_back 2 a.image (from_rows a text) can.ancillary.image in
    let rows : number_at packet 10 4 ≡ a.rows = big_number-reads_back 4 a.rows (from_segment a text) can.ancillary.rows in
    let segment : number_at packet 14 4 ≡ a.segment = big_number-reads_back 4 a.segment (from_index a text) can.ancillary.segment in
    let index : number_at packet 18 4 ≡ a.index = big_number-reads_back 4 a.index (from_first a text) can.ancillary.index in
    let block : number_at packet 22 4 ≡ a.first = big_number-reads_back 4 a.first (from_part a text) can.ancillary.first in
    let part : number_at packet 26 4 ≡ a.part = big_number-reads_back 4 a.part text can.ancillary.part in
    let own : apid_in packet ≡ apid = ap (λ n. n % 2 ^ 11) first ∙ (let e : identification apid % 2 ^ 11 ≡ apid = omega (arith, can.own) in e) in
    let kind : type_in packet ≡ 0 = ap (λ n. n / 2 ^ 12 % 2) first ∙ (let e : identification apid / 2 ^ 12 % 2 ≡ 0 = omega (arith, can.own) in e) in
    let secondary : secondary_in packet ≡ 1 = ap (λ n. n / 2 ^ 11 % 2) first ∙ (let e : identification apid / 2 ^ 11 % 2 ≡ 1 = omega (arith, can.own) in e) in
    let if_known : field_length packet ≡ length field = ap (λ n. n + 1) third ∙ (let e : length field - 1 + 1 ≡ length field = omega (arith, size) in e) in
    let long : length packet ≡ 6 + length field =
    length-append (big_bytes 2 (identification apid) ++ big_bytes 2 control ++ big_bytes 2 (length field - 1)) field in
    record {
      whole = record {
        version = lt-leb (2 ^ 5) (slice_index packet 0) (omega (arith, can.own));
        whole = long ∙ ap (λ n. 6 + n) (sym if_known);
      };
      mine =
          none_first (apid_in packet == idle_apid) _ _ (ne_eqb (apid_in packet) idle_apid (λ e. omega (arith, own, can.own, e)))
          ∙ none_first (type_in packet == 1) _ _ (ne_eqb (type_in packet) 1 (λ e. omega (arith, kind, e)))
          ∙ none_first (not (apid_in packet == apid)) _ _ (ap not (eq-eqb (apid_in packet) apid own))
          ∙ none_first (secondary_in packet == 0) _ _ (ne_eqb (secondary_in packet) 0 (λ e. omega (arith, secondary, e)))
          ∙ none_first (nat_lt (field_length packet) ancillary_length) _ _ (le-ltb (field_length packet) ancillary_length (omega (arith, if_known, size)))
          ∙ none_first (not (has_mark packet)) OtherMark [] (ap not (mark_known (mark_in packet) a.reported_last marked));
      flags_are = ap (λ n. n / 2 ^ 14) second ∙ (let e : control / 2 ^ 14 ≡ flags = omega (arith, low) in e);
      ancillary_is = same_ancillary (mark_reports (mark_in packet) a.reported_last marked) image rows segment index block part;
      text_is = refl;
    }

-- A text that went to a port in pieces.
use Rattle.std.proofs.Common.{◌≡◌, ℕ, List, [], ◌++◌, length, take, drop, sym, ap, ◌∙◌, subst, arith, append_assoc, take-append-drop}
use Rattle.std.proofs.Math.Seq.{take-append_seam}
use Rattle.port_122.specs.Outside.{Outside, Exchange, NoRead, Rose}
use Rattle.port_122.proofs.Stretches.{since_out, rose_since}
use Rattle.segment_code.specs.Text.{GivesText, BreaksWithin}
use Rattle.bare_stream.specs.declared.sink.TextSink.{TextSink}
use Rattle.bare_stream.specs.Sink.{HasFlushed, HasNotFlushed, waiting}
use Rattle.bare_stream.specs.TextSinks.{text_sink}
use Rattle.bare_stream.specs.Steps.{TextOut, TextCut}

-- what is written of the octets that wait, and what isn't
pub parted : (octets : List ℕ) (n : ℕ) (more : List ℕ) → octets ++ more ≡ take n octets ++ (drop n octets ++ more)
parted octets n more = ap (λ l. l ++ more) (sym (take-append-drop n octets)) ∙ append_assoc (take n octets) (drop n octets) more

-- the last value under the name of a loan
pub cut_to : {X : Type 0} (outside : X → Outside) (x y : X) {p : Outside} {text : List ℕ} → x ≡ y → TextCut p (outside y) text → TextCut p (outside x) text
cut_to outside x y {p = p} {text = text} e cut = subst (λ z. TextCut p (outside z) text) (sym e) cut

pub out_to : {X : Type 0} (outside : X → Outside) (x y : X) {p : Outside} {text : List ℕ} {octets : ℕ} → x ≡ y → TextOut p (outside y) text octets →
    TextOut p (outside x) text octets
out_to outside x y {p = p} {text = text} {octets = octets} e out = subst (λ z. TextOut p (outside z) text octets) (sym e) out

-- these octets are written, and the text has more
cut_at : {p q : Outside} (text wrote more : List ℕ) → text ≡ wrote ++ more → Exchange p q [] wrote [] NoRead → Rose p.write_faults q.write_faults →
    TextCut p q text
cut_at {p = p} {q = q} text wrote more e out rose = record {
  some = length wrote;
  out = subst (λ l. Exchange p q [] l [] NoRead) (sym (ap (take (length wrote)) e ∙ take-append_seam wrote more)) out;
  rose = rose;
}

module _ {X : Type 0} (outside : X → Outside) (s u : TextSink X) (port : X) (text : List ℕ) (same : s.port.now ≡ port) (none : waiting s ≡ []) where
  all_of : (prefix : List ℕ) → waiting s ++ prefix ≡ prefix
  all_of prefix = ap (λ l. l ++ prefix) none

  pub text_broke : BreaksWithin (text_sink outside) s u text → TextCut (outside port) (outside u.port.now) text
  text_broke broken =
      let b = broken.broke in
      let parts : text ≡ b.wrote ++ (b.more ++ broken.more) =
      broken.parts ∙ ap (λ l. l ++ broken.more) (sym (all_of broken.prefix) ∙ b.waits) ∙ append_assoc b.wrote b.more broken.more in
      subst (λ x. TextCut (outside x) (outside u.port.now) text) same (cut_at text b.wrote (b.more ++ broken.more) parts b.out broken.rose)

  module _ (octets : ℕ) (gives : GivesText (text_sink outside) s u text octets) where
    text_is : text ≡ gives.gave.wrote ++ waiting u
    text_is = sym (all_of text) ∙ gives.gave.waits

    pub text_unflushed : (v : TextSink X) → HasNotFlushed outside u v → TextCut (outside port) (outside v.port.now) text
    text_unflushed v fault =
        let wrote = gives.gave.wrote ++ take fault.some (waiting u) in
        let parts : text ≡ wrote ++ drop fault.some (waiting u) =
        text_is ∙ ap (λ l. gives.gave.wrote ++ l) (sym (take-append-drop fault.some (waiting u)))
        ∙ sym (append_assoc gives.gave.wrote (take fault.some (waiting u)) (drop fault.some (waiting u))) in
        subst (λ x. TextCut (outside x) (outside v.port.now) text) same
        (cut_at text wrote (drop fault.some (waiting u)) parts (since_out gives.gave.out fault.out) (rose_since gives.gave.out.faults.writes fault.rose))

    pub text_flushed : (v : TextSink X) → s.given ≡ 0 → HasFlushed outside u v → TextOut (outside port) (outside v.port.now) text octets
    text_flushed v fresh flushed = record {
      out = subst (λ x. Exchange (outside x) (outside v.port.now) [] text [] NoRead) same
          (subst (λ l. Exchange (outside s.port.now) (outside v.port.now) [] l [] NoRead) (sym text_is) (since_out gives.gave.out flushed.out));
      count = gives.count;
      few = (let few = gives.gave.few (omega (arith, fresh)) in let given = gives.gave.given in let count =
          gives.count in omega (arith, few, given, count, fresh));
    }

use Rattle.quick_look.proofs.Containing.{decoded_alike, decoded_in_rects}
use Rattle.quick_look.proofs.SomePackets.{in_rects, sublist_in_rects}
use Rattle.quick_look.proofs.containment.decoding_stays_in_rects.Goals as goal

pub returns : goal.returns
returns c = record {
  whatever = in_rects;
  sublists = λ s rows x parts restore received whole n are few received_is whole_is.
      sublist_in_rects c.texts_are_short.ensures s rows x parts are restore received whole received_is whole_is n few;
  decoded = decoded_in_rects;
  some_decoded = decoded_alike c.texts_are_short.ensures;
}

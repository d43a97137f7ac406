use Rattle.strip_decoder.proofs.Containing.{contained}
use Rattle.strip_decoder.proofs.SublistPictures.{begun_few, geometry_there}
use Rattle.strip_decoder.proofs.DecodedSublists.{sublist_same}
use Rattle.strip_decoder.proofs.SublistSegments.{receives_those}
use Rattle.strip_decoder.proofs.laws.losses_are_contained.Goals as goal

pub returns : goal.returns
returns c = record {
  whatever = contained;
  geometry = geometry_there c.texts_are_short.ensures;
  begun = begun_few c.texts_are_short.ensures;
  those = λ s rows x parts restore received are received_is.
      receives_those c.texts_are_short.ensures s rows x parts are restore received received_is c.coded_texts_are_read.ensures;
  sublists = λ s rows x parts restore received whole n are few received_is whole_is.
      sublist_same c.texts_are_short.ensures s rows x parts are restore received whole received_is whole_is n few;
}

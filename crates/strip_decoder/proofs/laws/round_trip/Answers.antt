use Rattle.strip_decoder.proofs.RoundTrips.{arrives_same, decoded_back}
use Rattle.strip_decoder.proofs.WholeImages.{arrives_whole}
use Rattle.strip_decoder.proofs.laws.round_trip.Goals as goal

pub returns : goal.returns
returns c =
    let short = c.texts_are_short.ensures in
    let read = c.coded_texts_are_read.ensures in
    record {
      whole = λ s rows x restore received is received_is. arrives_whole short s rows x is restore received received_is read;
      same = λ s rows x restore received is sends received_is. arrives_same short read s rows x is restore received received_is sends;
      decoded = λ wish start new took gave every done s rows x found if_known apid book took_is is. decoded_back short read wish start new took gave every done
          s rows x found if_known apid book took_is is;
    }

use Rattle.quick_look.proofs.ImageLooks.{look_is, given_back}
use Rattle.quick_look.proofs.laws.looks_are_of_images.Goals as goal

pub returns : goal.returns
returns c =
    let short = c.texts_are_short.ensures in
    let read = c.coded_texts_are_read.ensures in
    record {
      at = λ s rows x restore received is sends received_is t k row column. look_is short read s rows x is restore received received_is sends t k row column;
      given = λ wish start new took gave every done s rows x found if_known apid book took_is is sends. given_back short read wish start new took gave every
          done s rows x found if_known apid book took_is is sends;
    }

use Rattle.strip_decoder.proofs.DecodedSublists.{decoded_contained, decoded_alike}
use Rattle.strip_decoder.proofs.laws.decoding_contains.Goals as goal

pub returns : goal.returns
returns c = record { decoded = decoded_contained; sublists = decoded_alike c.texts_are_short.ensures c.coded_texts_are_read.ensures }

use Rattle.segment_code.proofs.CodedRead.{coded_texts_are_read}
use Rattle.segment_code.proofs.laws.coded_texts_are_read.Goals as goal

pub returns : goal.returns
returns c = coded_texts_are_read c.texts_are_read.ensures c.texts_read_as_wished.ensures

use Rattle.space_packets.proofs.WholeCalls.{text_out, text_cut, text_cut_at_close}
use Rattle.space_packets.proofs.laws.texts_go_whole.Goals as goal

pub returns : goal.returns
returns c = record {
  out = λ p q r v w u t text begins sent last. text_out v text begins.packet begins.part begins.some sent last;
  cut = λ p q v w t octets more begins broke. text_cut v octets more begins.packet begins.part begins.some broke;
  cut_at_close = λ p q r v w u t text begins sent failed. text_cut_at_close v text begins.packet begins.part begins.some sent failed;
}

use Rattle.stream_defs.specs.Fates.{kept_in}
use Rattle.strip_decoder.proofs.Asking.{both_report}
use Rattle.strip_decoder.proofs.Existing.{some_received}
use Rattle.strip_decoder.proofs.Alike.{received_alike, damage_alike}
use Rattle.strip_decoder.proofs.received.received_is_known.Goals as goal

pub returns : goal.returns
returns c = record {
  one = λ texts apid taken a b x y index. both_report texts (kept_in apid taken) index (a index) (b index) (x.at index) (y.at index);
  some = some_received;
  same = received_alike c.wishes_agree.ensures;
  damage = λ texts apid taken a b g n marks x y. damage_alike a b (received_alike c.wishes_agree.ensures texts apid taken a b x y) g n marks;
}

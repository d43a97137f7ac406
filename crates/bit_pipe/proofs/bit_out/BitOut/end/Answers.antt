use Rattle.std.proofs.Common.{refl}
use Rattle.bit_pipe.specs.SinkState.{sink_state}
use Rattle.bit_pipe.proofs.Ending.{closes_broke, end_room, end_broke, end_broke_later, end_gave}
use Rattle.bit_pipe.proofs.bit_out.BitOut.end.Goals as goal

pub returns-in_err-put_pending : goal.returns-in_err-put_pending
returns-in_err-put_pending g c =
    let k = g.O.OctetOut.sink in
    let b = c.args.self in
    let r = c.from_residual in
    closes_broke r.result r.ensures.0 (end_broke k (sink_state k b) c.args.word c.args.fill b.filled b.pending c.padded_octets-length.result _ c.requires.bound
    refl refl b.within c.requires.word c.requires.padded c.padded_octets-length.ensures refl c.in_err-put_pending.ensures)

pub put_zero_octets-requires : goal.put_zero_octets-requires
put_zero_octets-requires g c =
    let k = g.O.OctetOut.sink in
    let b = c.args.self in
    record {
      room = end_room k (sink_state k b) c.args.word c.args.fill b.filled b.pending c.padded_octets-length.result c.div_ceil.result c.requires.bound refl
          refl b.within c.requires.word c.requires.padded c.padded_octets-length.ensures c.div_ceil.ensures c.in_ok-put_pending.ensures;
    }

pub returns-in_err-put_zero_octets : goal.returns-in_err-put_zero_octets
returns-in_err-put_zero_octets g c =
    let k = g.O.OctetOut.sink in
    let b = c.args.self in
    let r = c.from_residual-in_err-put_zero_octets in
    closes_broke r.result r.ensures.0 (end_broke_later k (sink_state k b) c.args.word c.args.fill b.filled b.pending c.padded_octets-length.result
    c.div_ceil.result c.requires.bound refl refl b.within c.requires.word c.requires.padded c.padded_octets-length.ensures c.div_ceil.ensures
    c.in_ok-put_pending.ensures c.in_err-put_zero_octets.ensures)

pub returns : goal.returns
returns g c =
    let k = g.O.OctetOut.sink in
    let b = c.args.self in
    record {
      ends = end_gave k (sink_state k b) c.args.word c.args.fill b.filled b.pending c.padded_octets-length.result c.div_ceil.result c.requires.bound refl
          refl b.within c.requires.word c.requires.padded c.padded_octets-length.ensures c.div_ceil.ensures c.in_ok-put_pending.ensures
          c.in_ok-put_zero_octets.ensures;
    }

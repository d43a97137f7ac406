use Rattle.std.proofs.Common.{◌∷◌, [], take, drop, ◌++◌}
use Rattle.bare_stream.proofs.SinkSteps.{parted}
use Rattle.bare_stream.proofs.sink.TextSinkOctetOut.put.Goals as goal

pub returns-in_default : goal.returns-in_default
returns-in_default g c =
    let f = c.in_default.ensures in
    let octets = c.args.self.now.piece.items in
    record {
      broke = record {
        port = f.port;
        wrote = take f.some octets;
        more = drop f.some octets ++ c.args.octet ∷ [];
        out = f.out;
        waits =
            parted octets f.some (c.args.octet ∷ []);
      };
      rose = f.rose;
    }

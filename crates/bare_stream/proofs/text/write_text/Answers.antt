use Rattle.std.proofs.Common.{rules}
use Rattle.bare_stream.proofs.SinkSteps.{cut_to, out_to, text_broke, text_unflushed, text_flushed}
use Rattle.bare_stream.proofs.text.write_text.Goals as goal

pub returns-in_default-clause-text : goal.returns-in_default-clause-text
returns-in_default-clause-text g c =
    let e = c.new-sink.ensures in
    cut_to g.X.Port.outside _ c.encode_text.new.out.port.now (search rules)
    (text_broke g.X.Port.outside c.new-sink.result c.encode_text.new.out c.args.port.now _ e.port e.none c.in_default.ensures.text)

pub returns-in_default-flush-clause-text : goal.returns-in_default-flush-clause-text
returns-in_default-flush-clause-text g c =
    let e = c.new-sink.ensures in
    cut_to g.X.Port.outside _ c.flush.new.self.port.now (search rules)
    (text_unflushed g.X.Port.outside c.new-sink.result c.encode_text.new.out c.args.port.now _ e.port e.none c.in-Ok.octets c.in-Ok.ensures.text
    c.flush.new.self c.in_default-flush.ensures)

pub returns-clause-text : goal.returns-clause-text
returns-clause-text g c =
    let e = c.new-sink.ensures in
    out_to g.X.Port.outside _ c.flush.new.self.port.now (search rules)
    (text_flushed g.X.Port.outside c.new-sink.result c.encode_text.new.out c.args.port.now _ e.port e.none c.in-Ok.octets c.in-Ok.ensures.text
    c.flush.new.self e.given c.in-Ok-flush.ensures)

use Rattle.std.proofs.Common.{subst, Err}
use Rattle.bare_stream.specs.Heads.{TakesHead}
use Rattle.bare_stream.specs.Inputs.{source_of}
use Rattle.bare_stream.specs.Reads.{HasLaws}
use Rattle.bare_stream.proofs.FirstHead.{first_faulted, first_refused, no_memory, first_reading}
use Rattle.bare_stream.proofs.decode.decode_input.Goals as goal

pub returns-in-Err-clause-decodes : goal.returns-in-Err-clause-decodes
returns-in-Err-clause-decodes g c =
    let laws : HasLaws c.args.wish.now = record { heads = c.bare_heads_end_there.ensures; texts = c.texts_end_there.ensures; sound = c.requires.book } in
    first_faulted g.X.Port.outside c.args.wish.now laws c.args.input.now c.take_head.new.input c.requires.none c.requires.left c.requires.whole
    c.take_head.new.parts c.in-Err.fault
    (subst (λ p. TakesHead (source_of g.X.Port.outside) p 0 (Err c.in-Err.fault) c.args.input.now c.take_head.new.input c.take_head.new.parts)
    c.none-parts.ensures c.in-Err.ensures.takes)

pub returns-in-Err-check_head-clause-decodes : goal.returns-in-Err-check_head-clause-decodes
returns-in-Err-check_head-clause-decodes g c =
    let laws : HasLaws c.args.wish.now = record { heads = c.bare_heads_end_there.ensures; texts = c.texts_end_there.ensures; sound = c.requires.book } in
    first_refused g.X.Port.outside c.args.wish.now laws c.args.input.now c.take_head.new.input c.requires.none c.requires.left c.requires.whole
    c.take_head.new.parts c.in-Ok.first
    (rw c.none-parts.ensures at c.in-Ok.ensures.takes) c.in-Err-check_head.fault c.in-Err-check_head.ensures

pub returns-in_default-new-clause-decodes : goal.returns-in_default-new-clause-decodes
returns-in_default-new-clause-decodes g c =
    let laws : HasLaws c.args.wish.now = record { heads = c.bare_heads_end_there.ensures; texts = c.texts_end_there.ensures; sound = c.requires.book } in
    no_memory g.X.Port.outside c.args.wish.now laws c.args.input.now c.take_head.new.input c.requires.none c.requires.left c.requires.whole
    c.take_head.new.parts c.in-Ok.first (rw c.none-parts.ensures at c.in-Ok.ensures.takes)

pub returns-clause-decodes : goal.returns-clause-decodes
returns-clause-decodes g c =
    let laws : HasLaws c.args.wish.now = record { heads = c.bare_heads_end_there.ensures; texts = c.texts_end_there.ensures; sound = c.requires.book } in
    let begins = c.in-Ok-new.ensures.begins in
    c.take_stream.ensures.run c.args.wish.now (g.X.Port.outside c.args.input.now.port.now)
    (first_reading g.X.Port.outside c.args.wish.now laws c.args.input.now c.take_head.new.input c.requires.none c.requires.left c.requires.whole
    c.take_head.new.parts c.in-Ok.first (rw c.none-parts.ensures at c.in-Ok.ensures.takes)
    c.in-Ok-new.walk begins.0 begins.1 begins.2 begins.3 begins.4 c.in-Ok-new.ensures.fresh)

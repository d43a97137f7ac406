use Rattle.std.proofs.Common.{rules, arith, length, take, drop, ◌≡◌, ◌++◌, ◌*◌, ◌∙◌, sym, subst, vec_len, length-take-le}
use Rattle.std.specs.Vec.{with_items}
use Rattle.std.proofs.lemmas.List.{take-append-drop, with_items_is}
use Rattle.segment_code.specs.Readers.{wish_of}
use Rattle.strip_decoder.specs.Segments.{ReadsText}
use Rattle.strip_decoder.proofs.TextReads.{text_accepted, text_refused}
use Rattle.strip_decoder.proofs.segments.read_text.Goals as goal

pub returns-in_default-clause-reads : goal.returns-in_default-clause-reads
returns-in_default-clause-reads g c =
    let head = c.args.head.now in
    let n = 64 * head.blocks in
    let old = c.clear_blocks.new.self.blocks in
    let new = c.decode_first-read.new.blocks in
    let long : length new ≡ vec_len old = search rules in
    let cells : take n new ++ drop n new ≡ (with_items old new).items = take-append-drop n new ∙ sym (with_items_is old new long) in
    subst (λ xs. ReadsText (wish_of c.args.room.now.reader) (g.X.Port.outside c.args.port.now) (g.X.Port.outside c.end_text.new.port)
    c.args.assembly.now c.end_text.new.assembly head xs c.end_text.result) cells
    (text_accepted g.X.Port.outside (wish_of c.args.room.now.reader) c.text-text.result c.decode_first-read.new.text head c.in_default.field-0
    (take n new) (drop n new)
    (length-take-le _ _ (omega (arith, long, c.clear_blocks.ensures.blocks, c.requires.blocks)))
    (c.texts_end_so.ensures _ c.args.room.now.reader.tables.value.words.sound head c.requires.head)
    (rw c.clear_blocks.ensures.reader at c.in_default.ensures.decodes) (g.X.Port.outside c.end_text.new.port) c.end_text.new.assembly
    c.args.port.now _ c.args.assembly.now _ c.end_text.result c.text-text.ensures.port_now c.text-text.ensures.now (search rules) (search rules)
    c.end_text.ensures)

pub returns-in_default-fault-clause-reads : goal.returns-in_default-fault-clause-reads
returns-in_default-fault-clause-reads g c =
    let head = c.args.head.now in
    text_refused g.X.Port.outside (wish_of c.args.room.now.reader) c.text-text.result c.decode_first-read.new.text head _ c.in-Err.fault
    (c.texts_end_so.ensures _ c.args.room.now.reader.tables.value.words.sound head c.requires.head) c.in_default-fault.not-ReadFault
    (rw c.clear_blocks.ensures.reader at c.in-Err.ensures.decodes)
    c.args.port.now _ c.args.assembly.now _ c.text-text.ensures.port_now c.text-text.ensures.now (search rules) (search rules)

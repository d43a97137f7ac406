use Rattle.std.proofs.Common.{rules, arith, ◌≤◌, ◌≡◌, ◌*◌, ◌++◌, length, take, refl, sym, subst, vec_len, Ok, Err}
use Rattle.std.proofs.lemmas.List.{with_items_is}
use Rattle.wave_defs.specs.Held.{blocks_in}
use Rattle.segment_code.specs.DecodedItems.{DecodesItems}
use Rattle.bare_stream.specs.Blocks.{AreParts}
use Rattle.bare_stream.specs.Inputs.{source_of}
use Rattle.bare_stream.specs.StreamRead.{text, next_in}
use Rattle.bare_stream.specs.Reads.{segments_of}
use Rattle.bare_stream.specs.Walks.{wish_in}
use Rattle.bare_stream.proofs.ItemParts.{items_weighted}
use Rattle.bare_stream.proofs.TextsRead.{items_faulted, text_at, text_is, text_force}
use Rattle.bare_stream.proofs.walk.take_text.Goals as goal
use Rattle.segment_defs.specs.TextWish.{text_wish}

pub returns-in-Ok-clause-parts : goal.returns-in-Ok-clause-parts
returns-in-Ok-clause-parts g c =
    let read = c.args.read.now in
    let new = c.read_items-items.new.blocks in
    let same : length new ≡ vec_len c.args.walk.now.room.blocks = search rules in
    let long : 64 * read.head.blocks ≤ length new = omega (arith, same, c.requires.blocks) in
    subst (λ l. AreParts l read.head.blocks read.head.image.weights.shifts) (sym (with_items_is c.args.walk.now.room.blocks new same))
    (items_weighted c.texts_give_parts.ensures (wish_in c.args.walk.now) c.args.walk.now.room.reader.reader.tables.value.words.sound read.head read.size
    c.in-Ok.ensures.items.octets new c.in-Ok.field-0 c.requires.next.fits c.in-Ok.ensures.items.ends long)

pub returns-in-Ok-clause-run : goal.returns-in-Ok-clause-run
returns-in-Ok-clause-run g c = λ wish start r prefix before at head.
    let n = 64 * c.args.read.now.head.blocks in
    let new = c.read_items-items.new.blocks in
    let source = source_of g.X.Port.outside in
    let x = subst (λ b. DecodesItems source b c.args.read.now.head c.args.read.now.size (Ok c.in-Ok.field-0) c.args.input.now c.read_items-items.new.input
    (take n new)) at.wished c.in-Ok.ensures.items in
    let same : length new ≡ vec_len c.args.walk.now.room.blocks = search rules in
    let is = with_items_is c.args.walk.now.room.blocks new same in (
      prefix ++ x.went.gave,
      text_at g.X.Port.outside wish start r prefix c.args.input.now c.read_items-items.new.input c.args.walk.now before c.args.read.now at head
          c.requires.next (take n new) c.in-Ok.field-0 x _ refl refl refl refl refl,
      λ all if_known. record {
        next =
            subst (λ l. next_in (text_wish wish) wish.pixels (segments_of r before) (prefix ++ x.went.gave) ≡ text c.args.read.now.head
            (length (prefix ++ x.went.gave)) (blocks_in (take n l))) (sym is)
            (text_is g.X.Port.outside wish start r prefix c.args.input.now c.read_items-items.new.input c.args.walk.now before c.args.read.now at head
            c.requires.next (take n new) c.in-Ok.field-0 x all if_known);
        force = text_force g.X.Port.outside wish start r prefix c.args.input.now c.read_items-items.new.input c.args.walk.now before c.args.read.now at head
            c.requires.next (take n new) c.in-Ok.field-0 x all if_known;
      },
    )

pub returns-in-Err-clause-run : goal.returns-in-Err-clause-run
returns-in-Err-clause-run g c = λ wish start r prefix before at head.
    items_faulted g.X.Port.outside wish start r prefix c.args.input.now c.read_items-items.new.input c.args.walk.now before c.args.read.now at head
    c.requires.next
    (take (64 * c.args.read.now.head.blocks) c.read_items-items.new.blocks) c.in-Err.fault c.items_fault.result
    (subst (λ b. DecodesItems (source_of g.X.Port.outside) b c.args.read.now.head c.args.read.now.size (Err c.in-Err.fault) c.args.input.now
    c.read_items-items.new.input (take (64 * c.args.read.now.head.blocks) c.read_items-items.new.blocks)) at.wished c.in-Err.ensures.items)
    c.items_fault.ensures

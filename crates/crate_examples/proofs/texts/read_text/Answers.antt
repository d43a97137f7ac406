use Rattle.std.proofs.Common.{drop, sym, subst, ◌∙◌, arith, Ok, Err}
use Rattle.std.proofs.lemmas.List.{with_items_is}
use Rattle.packet_assembly.proofs.HeadLengths.{head_within}
use Rattle.base_122.specs.Profile.{profile}
use Rattle.plane_defs.proofs.ProfileSound.{profile_sound}
use Rattle.segment_defs.specs.Head.{head_length}
use Rattle.segment_defs.specs.TextWish.{unrestored}
use Rattle.crate_examples.specs.Texts.{HoldsBlocks}
use Rattle.crate_examples.proofs.TextsRead.{rest_is, read_all}
use Rattle.crate_examples.proofs.texts.read_text.Goals as goal

pub slice_bounds-rest-count : goal.slice_bounds-rest-count
slice_bounds-rest-count c = omega (arith, head_within c.args.text.now c.in-Ok.head (sym c.in-Ok.ensures.value), c.octets.ensures, c.from.ensures)

pub slice_bounds-rest-start : goal.slice_bounds-rest-start
slice_bounds-rest-start c = omega (arith, head_within c.args.text.now c.in-Ok.head (sym c.in-Ok.ensures.value), c.octets.ensures, c.from.ensures)

pub returns-in-Ok-decode_segment : goal.returns-in-Ok-decode_segment
returns-in-Ok-decode_segment c =
    let head = c.in-Ok.head in
    let decoded = c.in-Ok-decode_segment in
    let says = c.texts_end_so.ensures (unrestored profile) profile_sound head c.in-Ok.ensures.fits in
    let rest = rest_is c.args.text.now _ c.from.result (head_length head) c.new.ensures (c.from.ensures ∙ c.octets.ensures) in
    let same = with_items_is c.in-Ok-vec.numbers c.decode_segment.new.blocks (decoded.ensures.sizes.0 ∙ c.deref_mut.ensures.len) in
    let read = read_all head says _ (Ok decoded.part) _ _ _ rest (rw c.profile_book.ensures.profile at decoded.ensures.decodes) in
    (sym c.in-Ok.ensures.value, subst (λ numbers. HoldsBlocks head (drop (head_length head) c.args.text.now) numbers decoded.part) (sym same) read)

pub returns-in-Err-decode_segment : goal.returns-in-Err-decode_segment
returns-in-Err-decode_segment c =
    let head = c.in-Ok.head in
    let decoded = c.in-Err-decode_segment in
    let says = c.texts_end_so.ensures (unrestored profile) profile_sound head c.in-Ok.ensures.fits in
    let rest = rest_is c.args.text.now _ c.from.result (head_length head) c.new.ensures (c.from.ensures ∙ c.octets.ensures) in
    let read = read_all head says _ (Err decoded.fault) _ _ _ rest (rw c.profile_book.ensures.profile at decoded.ensures.decodes) in
    (head, record { head_is = sym c.in-Ok.ensures.value; refused = read })

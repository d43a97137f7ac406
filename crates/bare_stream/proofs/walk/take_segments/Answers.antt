use Rattle.std.proofs.Common.{◌∙◌, arith}
use Rattle.std.proofs.lemmas.Result.{err_from_is_err_and}
use Rattle.bare_stream.proofs.WalkOn.{blocks_fit, marks_fit, text_sound, text_next, text_fits, text_head, head_sound, index_is, less_left, still_fits}
use Rattle.bare_stream.proofs.walk.take_segments.Goals as goal

pub take_text-requires-clause-blocks : goal.take_text-requires-clause-blocks
take_text-requires-clause-blocks g c = blocks_fit c.loop-walk.walk c.loop-walk.read c.loop-walk.invariant.sound c.loop-walk.invariant.next

pub take_text-requires-clause-marks : goal.take_text-requires-clause-marks
take_text-requires-clause-marks g c = marks_fit c.loop-walk.walk c.loop-walk.read c.loop-walk.invariant.sound c.loop-walk.invariant.next

pub returns-in_err-take_text-clause-run : goal.returns-in_err-take_text-clause-run
returns-in_err-take_text-clause-run g c = λ wish start x.
    let p = err_from_is_err_and c.from_residual.result c.from_residual.ensures.1 in
    let i = c.loop-walk.invariant.reading wish start x in
    rw (p.1, p.2) (c.in_err-take_text.ensures.run wish start i.r i.prefix i.before i.at i.head)

pub give_last-requires-clause-sound : goal.give_last-requires-clause-sound
give_last-requires-clause-sound g c = text_sound c.loop-walk.walk c.take_text.new.walk c.in_ok-take_text.ensures.walk c.in_ok-take_text.ensures.room
    c.loop-walk.invariant.sound

pub give_last-requires-clause-next : goal.give_last-requires-clause-next
give_last-requires-clause-next g c = text_next c.loop-walk.walk c.take_text.new.walk c.in_ok-take_text.ensures.walk c.loop-walk.read c.loop-walk.invariant.next

pub give_last-requires-clause-fits : goal.give_last-requires-clause-fits
give_last-requires-clause-fits g c = text_fits c.loop-walk.walk c.take_text.new.walk c.in_ok-take_text.ensures.walk c.loop-walk.invariant.fits

pub returns-then-read-clause-run : goal.returns-then-read-clause-run
returns-then-read-clause-run g c = λ wish start x.
    let i = c.loop-walk.invariant.reading wish start x in
    let t = c.in_ok-take_text.ensures.run wish start i.r i.prefix i.before i.at i.head in
    let head = text_head c.loop-walk.walk c.take_text.new.walk c.in_ok-take_text.ensures.walk wish start i.r i.before i.prefix c.loop-walk.read i.head in
    c.give_last.ensures.run wish start i.r i.prefix t.0 i.before t.1 head t.2

pub give_next-requires-clause-sound : goal.give_next-requires-clause-sound
give_next-requires-clause-sound g c = text_sound c.loop-walk.walk c.take_text.new.walk c.in_ok-take_text.ensures.walk c.in_ok-take_text.ensures.room
    c.loop-walk.invariant.sound

pub give_next-requires-clause-next : goal.give_next-requires-clause-next
give_next-requires-clause-next g c = text_next c.loop-walk.walk c.take_text.new.walk c.in_ok-take_text.ensures.walk c.loop-walk.read c.loop-walk.invariant.next

pub returns-in_err-give_next-clause-run : goal.returns-in_err-give_next-clause-run
returns-in_err-give_next-clause-run g c = λ wish start x.
    let p = err_from_is_err_and c.from_residual-in_err-give_next.result c.from_residual-in_err-give_next.ensures.1 in
    let i = c.loop-walk.invariant.reading wish start x in
    let t = c.in_ok-take_text.ensures.run wish start i.r i.prefix i.before i.at i.head in
    let head = text_head c.loop-walk.walk c.take_text.new.walk c.in_ok-take_text.ensures.walk wish start i.r i.before i.prefix c.loop-walk.read i.head in
    rw (p.1, p.2) (c.in_err-give_next.ensures.run wish start i.r i.prefix t.0 i.before t.1 head t.2)

pub returns-in_err-read-clause-run : goal.returns-in_err-read-clause-run
returns-in_err-read-clause-run g c = λ wish start x.
    let p = err_from_is_err_and c.from_residual-in_err-read.result c.from_residual-in_err-read.ensures.1 in
    let i = c.loop-walk.invariant.reading wish start x in
    let t = c.in_ok-take_text.ensures.run wish start i.r i.prefix i.before i.at i.head in
    let head = text_head c.loop-walk.walk c.take_text.new.walk c.in_ok-take_text.ensures.walk wish start i.r i.before i.prefix c.loop-walk.read i.head in
    let n = c.in_ok-give_next.ensures.run wish start i.r i.prefix t.0 i.before t.1 head t.2 in
    rw (p.1, p.2) (c.in_err-read.ensures.run wish start n.0 n.1 n.2)

pub loop-walk-smaller : goal.loop-walk-smaller
loop-walk-smaller g c =
    less_left c.loop-walk.walk c.take_text.new.walk c.give_next.new.walk c.next_head.new.walk c.in_ok-take_text.ensures.walk
    c.in_ok-give_next.ensures.walk.1 c.in_ok-give_next.ensures.walk.2 c.in_ok-read.ensures.walk
    c.loop-walk.invariant.sound

pub loop-walk-preserved : goal.loop-walk-preserved
loop-walk-preserved g c =
    let i = c.loop-walk.invariant in
    let text = c.in_ok-take_text.ensures.walk in
    let given = c.in_ok-give_next.ensures.walk in
    let same = c.in_ok-read.ensures.walk in
    let index = index_is c.loop-walk.walk c.take_text.new.walk c.give_next.new.walk c.next_head.new.walk text given.1 given.2 same in
    record {
      sound = head_sound c.give_next.new.walk c.next_head.new.walk same given.0;
      next = c.in_ok-read.ensures.next;
      port = c.in_ok-read.ensures.port ∙ c.in_ok-give_next.ensures.port ∙ c.in_ok-take_text.ensures.port ∙ i.port;
      first = λ none. absurd (omega (arith, none, index));
      fits = λ lt. still_fits c.loop-walk.walk c.take_text.new.walk c.give_next.new.walk c.next_head.new.walk text given.1 given.2 same c.loop-walk.read
          i.first i.fits c.if-read.false;
      reading = λ wish start x.
          let now = i.reading wish start x in
          let t = c.in_ok-take_text.ensures.run wish start now.r now.prefix now.before now.at now.head in
          let head = text_head c.loop-walk.walk c.take_text.new.walk text wish start now.r now.before now.prefix c.loop-walk.read now.head in
          let n = c.in_ok-give_next.ensures.run wish start now.r now.prefix t.0 now.before t.1 head t.2 in
          let h = c.in_ok-read.ensures.run wish start n.0 n.1 n.2 in
          record { r = n.0; prefix = h.0; before = c.give_next.new.walk.parts; at = h.1; head = h.2 };
    }

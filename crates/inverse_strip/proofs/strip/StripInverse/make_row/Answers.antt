use Rattle.std.proofs.Common.{◌≡◌, ℕ, ◌*◌, subst, arith, drop, length}
use Rattle.std.proofs.Math.Seq.{take_at}
use Rattle.wave_defs.specs.Pyramid.{first_of, rebuilt}
use Rattle.wave_defs.specs.Held.{Agrees, signal}
use Rattle.inverse_strip.specs.Kept.{HasRow}
use Rattle.inverse_strip.proofs.StripLemmas.{Counts-first, made-row}
use Rattle.inverse_strip.proofs.strip.StripInverse.make_row.Goals as goal

pub invariant_of-self-clause-counts : goal.invariant_of-self-clause-counts
invariant_of-self-clause-counts c =
    let s = c.loop-self.self in
    let row = c.has_row.ensures.0 c.loop-self-test.false in
    let second = subst (λ (k : ℕ). HasRow k s.first.level.given (4 * s.height)) s.first_taken row in
    rw c.next_row.ensures.given (Counts-first s.third.left.taken s.third.given s.second.level.given s.first.level.given s.height s.counts second)

pub returns-clause-follows : goal.returns-clause-follows
returns-clause-follows c = λ p r completion follow.
    let s = c.loop-self.self in
    let f = c.loop-self.invariant.follows p r completion follow in
    record { third = f.third; second = f.second; first = c.next_row.ensures.follows (first_of p r s.third.left.width) f.first }

pub returns-clause-value : goal.returns-clause-value
returns-clause-value c = λ p r completion follow.
    let s = c.loop-self.self in
    let i = c.loop-self.invariant in
    let w = s.third.left.width in
    let more = completion.more in
    let within = s.counts.within in
    let taken = i.taken in
    let height = i.height in
    let f = i.follows p r completion follow in
    let end = λ (e : s.first.level.left.taken ≡ 4 * s.height).
    let all : c.args.self.now.third.left.taken ≡ c.args.self.now.height = omega arith in
    let whole = completion.whole all in
    let t : 4 * r ≡ 4 * s.height = omega arith in t in
    let out = c.next_row.new.into in
    let whole = take_at out (drop (length out) s.row.items) s.row.len (omega arith) in
    let made = c.next_row.ensures.value (first_of p r w) (4 * r) f.first (omega arith) end in
    let row = made-row p r w s.first.level.left.width s.first.level.given c.args.self.now.first.level.given _ s.first_wide i.given made in
    rw whole (subst (λ (v : ℕ). Agrees (8 * v) (signal out) (rebuilt p r v c.args.self.now.first.level.given)) i.width row)

pub invariant_of-self-clause-all_zero : goal.invariant_of-self-clause-all_zero
invariant_of-self-clause-all_zero c = λ e.
    let s = c.loop-self.self in
    let quiet = s.all_zero e in
    let out = c.next_row.new.into in
    let whole = take_at out (drop (length out) s.row.items) s.row.len (omega arith) in
    let zero = c.next_row.ensures.zero e in
    record { third = quiet.third; second = quiet.second; first = zero.0; row = rw whole zero.1 }

use Rattle.std.proofs.Common.{◌≡◌, ◌+◌, ◌*◌, Bool, true, refl, subst, arith}
use Rattle.std.specs.Bool.{OnTrue}
use Rattle.wave_defs.specs.Pyramid.{rebuilt}
use Rattle.wave_defs.specs.Held.{Agrees, signal}
use Rattle.inverse_strip.specs.Kept.{HasNext}
use Rattle.inverse_strip.proofs.strip.StripInverse.next_row.Goals as goal

pub returns : goal.returns
returns c =
    let s = c.args.self.now in
    let new = c.make_row.new.self in
    let made : c.make_row.result ≡ true = c.if-not-make_row.false in
    let w = s.third.left.width in
    let k = s.first.level.given in (
      (
        refl,
        λ x. tt,
        record {
          height = c.make_row.ensures.height;
          width = c.make_row.ensures.width;
          taken = c.make_row.ensures.taken;
          given = λ e. subst (λ (b : Bool). OnTrue b (new.first.level.given ≡ k + 1)) made c.make_row.ensures.given;
          could = λ e. subst (λ (b : Bool). OnTrue b (HasNext s.third.left.taken k s.height)) made c.make_row.ensures.made;
          kept = λ e. cc;
          idle = λ e. absurd (cc);
          numbers = c.make_row.ensures.numbers;
          follows = c.make_row.ensures.follows;
        },
      ),
      record {
        after_borrow = tt;
        wide = omega arith;
        value = λ p r completion follow.
            let row = subst (λ (b : Bool). OnTrue b (Agrees (8 * w) (signal new.row.items) (rebuilt p r w k))) made
            (c.make_row.ensures.value p r completion follow) in
            rw c.deref.ensures.value row;
      },
    )

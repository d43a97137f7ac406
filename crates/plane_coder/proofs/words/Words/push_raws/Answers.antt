use Rattle.std.proofs.Common.{rules, sym, subst}
use Rattle.plane_coder.specs.Picked.{IsPacked}
use Rattle.plane_coder.proofs.Listing.{lists_raws, none_packed}
use Rattle.plane_coder.proofs.words.Words.push_raws.Goals as goal

pub push-requires : goal.push-requires
push-requires g c = (
  search rules,
  (
    record {
      word = subst IsPacked (sym c.new.ensures.word) none_packed;
      signs =
          subst IsPacked (sym c.new.ensures.signs) c.requires.packed;
    },
    c.requires.room,
  ),
)

pub returns : goal.returns
returns g c = lists_raws c.new.result c.args.raws c.new.ensures.word c.new.ensures.signs c.push.ensures

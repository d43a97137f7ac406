use Rattle.std.proofs.Common.{rules, sym, subst}
use Rattle.plane_coder.specs.Picked.{IsPacked}
use Rattle.plane_coder.proofs.Listing.{lists_word, none_packed}
use Rattle.plane_coder.proofs.words.Words.push_word.Goals as goal

pub push-requires : goal.push-requires
push-requires g c = (
  search rules,
  (
    record {
      word = subst IsPacked (sym c.new.ensures.word) c.requires.packed;
      signs =
          subst IsPacked (sym c.new.ensures.signs) none_packed;
    },
    c.requires.room,
  ),
)

pub returns : goal.returns
returns g c = lists_word c.new.result c.args.word c.new.ensures.word c.new.ensures.signs c.push.ensures

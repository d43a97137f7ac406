use Rattle.std.proofs.Common.{refl, sym}
use Rattle.base_122.proofs.RangeChecks.{in_range-from_none, none-from_in_range}
use Rattle.base_122.proofs.setting.Setting.check.Goals as goal

pub returns-in-Some-clause-range : goal.returns-in-Some-clause-range
returns-in-Some-clause-range c = (
  (λ e. absurd (cc)),
  (λ in_range. absurd (let e = none-from_in_range c.args.self.now in_range in let f = c.in-Some.ensures in cc)),
)

pub returns-in-None-clause-range : goal.returns-in-None-clause-range
returns-in-None-clause-range c = ((λ e. in_range-from_none c.args.self.now (sym c.in-None.ensures)), (λ in_range. refl))

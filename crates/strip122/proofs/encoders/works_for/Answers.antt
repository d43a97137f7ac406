use Rattle.std.proofs.Common.{rules}
use Rattle.strip122.proofs.CameraWorks.{made_more}
use Rattle.strip122.proofs.encoders.works_for.Goals as goal

pub loop-setting-preserved : goal.loop-setting-preserved
loop-setting-preserved c = record {
  size = search rules;
  made = rw c.in_ok-push.ensures.items (made_more c.args.settings.now c.loop-setting.works.items c.in_ok-new.field-0 c.loop-setting.setting-index
      c.loop-setting.invariant.size c.loop-setting.invariant.made (search rules));
}

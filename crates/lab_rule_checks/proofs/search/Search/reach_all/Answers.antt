use Rattle.lab_model.proofs.Common.{◌∙◌, ◌<◌, ap, arith, get_or, length}
use Rattle.lab_rule_checks.specs.Search.{front, reach}
use Rattle.lab_rule_checks.proofs.Reaching.{reach_all-more}
use Rattle.lab_rule_checks.proofs.search.Search.reach_all.Goals as goal

-- one device more
pub loop-device-preserved : goal.loop-device-preserved
loop-device-preserved c =
    let within : c.loop-device.device-index < length c.args.devices.now = omega arith in
    c.in_ok-reach.ensures
    ∙ ap (reach (get_or c.args.devices.now c.loop-device.device-index 0)) c.loop-device.invariant
    ∙ reach_all-more c.args.devices.now c.loop-device.device-index 0 (front c.args.self.now) within

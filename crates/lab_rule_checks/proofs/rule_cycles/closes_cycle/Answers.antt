use Rattle.lab_model.proofs.Common.{Decides-at}
use Rattle.lab_rule_checks.proofs.CycleRules.{closes-Decides}
use Rattle.lab_rule_checks.proofs.rule_cycles.closes_cycle.Goals as goal

-- the device's mark decides
pub returns : goal.returns
returns g c = λ linked.
    Decides-at c.is_set.result _ (rw c.deref-2.ensures.value at c.is_set.ensures)
    (closes-Decides g.T.Target.meaning c.args.standing.now c.args.device c.args.table.now
    c.in_ok-marks.marks.items c.in_ok-first.first.items linked c.in_ok-first.ensures
    (rw c.deref.ensures.value at c.in_ok-marks.ensures))

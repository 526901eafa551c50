use Rattle.lab_standing.specs.Linked.{link_rows}
use Rattle.lab_rule_checks.proofs.UnderReached.{below-Decides}
use Rattle.lab_rule_checks.proofs.rule_suspend.rests_below.Goals as goal

-- the marked devices are those below
pub returns : goal.returns
returns g c = λ parts.
    below-Decides g.T.Target.meaning parts c.args.standing.now (link_rows c.in_ok-links.links)
    c.in_ok-marks.marks.items c.args.device c.in_ok-links.ensures
    (rw c.row.ensures at c.in_ok-marks.ensures) c.rests_among.result
    (rw c.deref.ensures.value at c.rests_among.ensures)

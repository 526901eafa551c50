use Rattle.lab_model.proofs.Common.{◌≡◌}
use Rattle.lab_standing.specs.Linked.{link_rows}
use Rattle.lab_standing.specs.Stands.{standing_of}
use Rattle.lab_rule_checks.specs.Live.{live_rows}
use Rattle.lab_rule_checks.proofs.rule_suspend.live_links.Given as goal

-- the devices gone over have their rows
abbrev pub invariant-loop-number : goal.invariant-loop-number
invariant-loop-number g l = link_rows l.links
    ≡ live_rows (standing_of g.T.Target.meaning l.standing).devices l.number

use Rattle.lab_model.proofs.Common.{IfOk-weaker}
use Rattle.lab_standing.specs.Stands.{standing_of}
use Rattle.lab_rule_checks.proofs.CycleRules.{v11-load}
use Rattle.lab_rule_checks.proofs.rule_cycles.closed_by.Goals as goal

-- a load of the table into the device of the name
pub returns-in-Load : goal.returns-in-Load
returns-in-Load g c = λ parts is linked.
    let m = g.T.Target.meaning in
    let s = standing_of m c.args.standing.now in
    rw c.in-Load.is (IfOk-weaker c.closed_at.result _ _ (λ told closes.
    v11-load m parts s _ _ c.args.table.now told (rw c.in-Load.is at is) closes)
    (c.closed_at.ensures linked))

-- The law holds of each lawful meaning, and the target's own is lawful; and an accepted scenario is
-- fine.
use Rattle.lab_rulebook.proofs.AcceptedScripts.{accepted-is-fine}
use Rattle.lab_rulebook.specs.Walked.{scenario_of}
use Rattle.law_writers.proofs.RowsTold.{rows-told}
use Rattle.law_writers.proofs.rows_tell.Goals as goal

-- so the rows give the bytes that disks have
pub returns-clause-fine : goal.returns-clause-fine
returns-clause-fine g c = rows-told g.T.Target.meaning g.met.T.Target.lawful

pub returns-clause-accepted : goal.returns-clause-accepted
returns-clause-accepted g c = λ parts read accepted.
    let m = g.T.Target.meaning in
    rows-told m g.met.T.Target.lawful (scenario_of m parts)
    (accepted-is-fine m parts read accepted.rules)

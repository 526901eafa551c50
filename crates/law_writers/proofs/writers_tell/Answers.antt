-- The laws hold of each lawful meaning, and the target's own is lawful; and an accepted scenario is
-- fine.
use Rattle.lab_rulebook.proofs.AcceptedScripts.{accepted-is-fine}
use Rattle.lab_rulebook.specs.Walked.{scenario_of}
use Rattle.law_writers.proofs.AnswersTold.{answers-tell}
use Rattle.law_writers.proofs.Runs.{disks-tell}
use Rattle.law_writers.proofs.writers_tell.Goals as goal

-- disks have the bytes of those who are known as their writers
pub returns-clause-disks : goal.returns-clause-disks
returns-clause-disks g c = disks-tell g.T.Target.meaning g.met.T.Target.lawful

-- answers to reads have the bytes of those who are told as their writers
pub returns-clause-answers : goal.returns-clause-answers
returns-clause-answers g c = answers-tell g.T.Target.meaning g.met.T.Target.lawful

-- and both hold of what is accepted
pub returns-clause-accepted : goal.returns-clause-accepted
returns-clause-accepted g c = λ parts read accepted.
    let m = g.T.Target.meaning in
    let lawful = g.met.T.Target.lawful in
    let is = scenario_of m parts in
    let fine = accepted-is-fine m parts read accepted.rules in
    record { disks = disks-tell m lawful is fine; answers = answers-tell m lawful is fine }

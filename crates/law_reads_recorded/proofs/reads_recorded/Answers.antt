-- The laws hold of each lawful meaning, and the target's own is lawful.
use Rattle.lab_rulebook.proofs.AcceptedScripts.{accepted-is-fine}
use Rattle.lab_rulebook.specs.Walked.{scenario_of}
use Rattle.law_reads_recorded.proofs.Runs.{answers-are-records, buffers-are-records, nothing-before}
use Rattle.law_reads_recorded.proofs.Runs.{rest-is-owed}
use Rattle.law_reads_recorded.proofs.reads_recorded.Goals as goal

pub returns-clause-before : goal.returns-clause-before
returns-clause-before g c = nothing-before g.T.Target.meaning g.met.T.Target.lawful

pub returns-clause-buffers : goal.returns-clause-buffers
returns-clause-buffers g c = buffers-are-records g.T.Target.meaning g.met.T.Target.lawful

pub returns-clause-owed : goal.returns-clause-owed
returns-clause-owed g c = rest-is-owed g.T.Target.meaning g.met.T.Target.lawful

pub returns-clause-answers : goal.returns-clause-answers
returns-clause-answers g c = answers-are-records g.T.Target.meaning g.met.T.Target.lawful

pub returns-clause-accepted : goal.returns-clause-accepted
returns-clause-accepted g c = λ parts read accepted.
    let m = g.T.Target.meaning in
    let lawful = g.met.T.Target.lawful in
    let is = scenario_of m parts in
    let fine = accepted-is-fine m parts read accepted.rules in
    record {
      before = nothing-before m lawful is fine;
      buffers = buffers-are-records m lawful is fine;
      owed = rest-is-owed m lawful is fine;
      answers = answers-are-records m lawful is fine;
    }

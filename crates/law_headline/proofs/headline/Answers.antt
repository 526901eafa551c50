-- What keeps the rules is fine, what is read takes no longer than an hour for anything, and what is
-- fine then runs well and stays bounded.
use Rattle.lab_rulebook.proofs.AcceptedScripts.{accepted-is-fine}
use Rattle.lab_rulebook.specs.Walked.{scenario_of}
use Rattle.lab_rulebook.proofs.ReadVersions.{read-is-timely}
use Rattle.law_headline.proofs.Whole.{fine-stays-bounded, fine-runs-well}
use Rattle.law_headline.proofs.headline.Goals as goal

-- it runs well
pub returns-clause-runs_well : goal.returns-clause-runs_well
returns-clause-runs_well g c = λ parts read keeps.
    fine-runs-well g.T.Target.meaning g.met.T.Target.lawful (scenario_of g.T.Target.meaning parts)
    (accepted-is-fine g.T.Target.meaning parts read keeps)

-- its runs stay bounded
pub returns-clause-bounded : goal.returns-clause-bounded
returns-clause-bounded g c = λ parts read hours accepted.
    fine-stays-bounded g.T.Target.meaning g.met.T.Target.lawful
    (scenario_of g.T.Target.meaning parts)
    (accepted-is-fine g.T.Target.meaning parts read accepted.rules)
    (read-is-timely g.T.Target.meaning parts read hours) accepted.budget

-- The law holds of each meaning.
use Rattle.lab_rulebook.proofs.ToldLemmas.{accepted-has-no-fault}
use Rattle.lab_rulebook.proofs.laws.accepted_has_no_fault.Goals as goal

pub returns : goal.returns
returns g start = accepted-has-no-fault g.T.Target.meaning

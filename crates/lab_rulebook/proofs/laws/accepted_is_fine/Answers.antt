-- The law holds of each meaning.
use Rattle.lab_rulebook.proofs.AcceptedScripts.{accepted-is-fine}
use Rattle.lab_rulebook.proofs.laws.accepted_is_fine.Goals as goal

pub returns : goal.returns
returns g start = accepted-is-fine g.T.Target.meaning

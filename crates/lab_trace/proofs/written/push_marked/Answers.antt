-- Where there is one mark, its sector is told, where there are two, both.
use Rattle.lab_model.proofs.Common.{rules}
use Rattle.lab_trace.proofs.MarkedSteps.{changes_text-same, both-places, one-place}
use Rattle.lab_trace.proofs.written.push_marked.Goals as goal

-- nothing is changed
pub returns-in-None-None : goal.returns-in-None-None
returns-in-None-None c = search (rules, changes_text-same)

pub returns-in-Some-Some : goal.returns-in-Some-Some
returns-in-Some-Some c = search (rules, both-places)

pub returns-in-Some-None : goal.returns-in-Some-None
returns-in-Some-None c = search (rules, one-place)

-- The first run, and the others behind it, are the whole row.
use Rattle.lab_model.proofs.Common.{rules}
use Rattle.lab_trace.proofs.AnswerSteps.{first-run}
use Rattle.lab_trace.proofs.answered.push_origins.Goals as goal

pub returns-in-Some : goal.returns-in-Some
returns-in-Some c = search (rules, first-run)

-- A log gets an answer at its place.
use Rattle.lab_model.proofs.Common.{rules, on_ok_weaker}
use Rattle.lab_logs.proofs.Numbered.{past_numbered, set_numbered}
use Rattle.lab_logs.proofs.Dues.{dues-kept}
use Rattle.lab_logs.proofs.logs.Logs.answer.Goals as goal

-- the log is there
pub returns-clause-ok : goal.returns-clause-ok
returns-clause-ok c = search (rules, on_ok_weaker, set_numbered)

-- there is no such log
pub returns-in_default-get_mut-clause-ok : goal.returns-in_default-get_mut-clause-ok
returns-in_default-get_mut-clause-ok c = rw (← c.self.view_is)
    (past_numbered _ _ c.in-Some.place _ (search rules) (search rules))

-- its moment is the same
pub invariant_of-self-2 : goal.invariant_of-self-2
invariant_of-self-2 c = search (rules, dues-kept)

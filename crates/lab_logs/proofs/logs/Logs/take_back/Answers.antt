-- The log of the number is written at its place.
use Rattle.lab_model.proofs.Common.{rules}
use Rattle.lab_logs.proofs.Numbered.{past_numbered, set_numbered}
use Rattle.lab_logs.proofs.Dues.{dues-kept}
use Rattle.lab_logs.proofs.logs.Logs.take_back.Goals as goal

-- the log is there
pub returns-in-Some-get_mut : goal.returns-in-Some-get_mut
returns-in-Some-get_mut c = search (rules, set_numbered)

-- there is no such log
pub returns-in_default-get_mut : goal.returns-in_default-get_mut
returns-in_default-get_mut c = rw (← c.self.view_is)
    (past_numbered _ _ c.in-Some.place _ (search rules) (search rules))

-- its moment is the same
pub invariant_of-self : goal.invariant_of-self
invariant_of-self c = search (rules, dues-kept)

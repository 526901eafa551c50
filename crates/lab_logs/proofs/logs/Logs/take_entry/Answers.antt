-- The log of the number is written at its place.
use Rattle.lab_model.proofs.Common.{rules, slice_get-get_or, Contains-permutation}
use Rattle.lab_logs.proofs.Numbered.{past_numbered, set_numbered}
use Rattle.lab_logs.specs.Agenda.{due_of, dues}
use Rattle.lab_logs.proofs.Dues.{dues-kept, dues-numbered, dues-replaced}
use Rattle.lab_logs.proofs.logs.Logs.take_entry.Goals.{In-Some-get_mut}
use Rattle.lab_logs.proofs.logs.Logs.take_entry.Goals as goal

-- and can take a line more, and wait so long
pub take_entry-requires : goal.take_entry-requires
take_entry-requires c = search (rules, slice_get-get_or, In-Some-get_mut)

-- there is no such log
pub returns-in_default-get_mut-clause-next : goal.returns-in_default-get_mut-clause-next
returns-in_default-get_mut-clause-next c = rw (← c.self.view_is)
    (past_numbered _ _ c.in-Some.place _ (search rules) (search rules))

-- it is due
pub postpone-requires-clause-there : goal.postpone-requires-clause-there
postpone-requires-clause-there c =
    let items = c.self.inside.items.items in
    let log = c.in-Some-get_mut.log.now in
    rw (← c.log.view_is) at (Contains-permutation (dues items) c.self.inside.agenda
    (due_of c.args.number log) c.self.invariant (dues-numbered items c.args.number log
    (search (rules, slice_get-get_or))))

-- from now on at its new moment
pub invariant_of-self-then-moment-due : goal.invariant_of-self-then-moment-due
invariant_of-self-then-moment-due c =
    dues-replaced c.self.inside.items.items c.self.inside.agenda c.postpone.new.self c.args.number
    c.in-Some.place c.in-Some-get_mut.log.now c.take_entry.new.log (search rules) (search rules)
    c.in-Some-get_mut.ensures.value c.self.invariant
    (rw (← c.log.view_is, ← c.log-2.view_is) c.postpone.ensures)

-- or its moment is the same
pub invariant_of-self-else-moment-due : goal.invariant_of-self-else-moment-due
invariant_of-self-else-moment-due c = search (rules, dues-kept)

-- the log has taken the line, and is due later
pub returns-then-moment-due-clause-next : goal.returns-then-moment-due-clause-next
returns-then-moment-due-clause-next c = search (rules, set_numbered)

-- it has taken the line, and is due as before
pub returns-else-moment-due-clause-next : goal.returns-else-moment-due-clause-next
returns-else-moment-due-clause-next c = search (rules, set_numbered)

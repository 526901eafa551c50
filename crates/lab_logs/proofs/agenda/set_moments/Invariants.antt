-- Those gone over have the moment.
use Rattle.lab_model.proofs.Common.{◌≡◌, ◌++◌, map, take, drop}
use Rattle.lab_logs.specs.Agenda.{due_at}
use Rattle.lab_logs.proofs.agenda.set_moments.Given as goal

abbrev pub invariant-loop-due : goal.invariant-loop-due
invariant-loop-due l = l.due-items
    ≡ map (due_at l.moment) (take l.due-index l.initial.due-items)
    ++ drop l.due-index l.initial.due-items

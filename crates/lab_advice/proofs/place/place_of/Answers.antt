use Rattle.std.proofs.Common.{rules}
use Rattle.lab_advice.proofs.PlaceLemmas.{IfNone-Shows}
use Rattle.lab_advice.proofs.place.place_of.Goals as goal

-- no line of the fault's part
pub returns-in-Fault-clause-none : goal.returns-in-Fault-clause-none
returns-in-Fault-clause-none c = search (rules, IfNone-Shows)

-- no line of the event
pub returns-in_ok-event_line-in-NotARun-clause-none :
    goal.returns-in_ok-event_line-in-NotARun-clause-none
returns-in_ok-event_line-in-NotARun-clause-none c = search (rules, IfNone-Shows)

use Rattle.std.proofs.Common.{rules}
use Rattle.lab_queue.proofs.Indexes.{same-entries}
use Rattle.lab_queue.proofs.queue.DelayQueue.reserve.Goals as goal

-- the map has more room, and answers as before
pub invariant_of-self-in_err-reserve-2 : goal.invariant_of-self-in_err-reserve-2
invariant_of-self-in_err-reserve-2 c = search (rules, same-entries)

-- the map holds what it held
pub returns-in_err-reserve-2-clause-held : goal.returns-in_err-reserve-2-clause-held
returns-in_err-reserve-2-clause-held c = search (rules, same-entries)

-- and the room that is promised is the same
pub returns-in_err-reserve-2-clause-err : goal.returns-in_err-reserve-2-clause-err
returns-in_err-reserve-2-clause-err c = search (rules, same-entries)

-- the map and the first row have more room
pub invariant_of-self-in_err-reserve-3 : goal.invariant_of-self-in_err-reserve-3
invariant_of-self-in_err-reserve-3 c = search (rules, same-entries)

-- the map holds what it held
pub returns-in_err-reserve-3-clause-held : goal.returns-in_err-reserve-3-clause-held
returns-in_err-reserve-3-clause-held c = search (rules, same-entries)

-- and the room that is promised is the same
pub returns-in_err-reserve-3-clause-err : goal.returns-in_err-reserve-3-clause-err
returns-in_err-reserve-3-clause-err c = search (rules, same-entries)

-- all three have the room
pub invariant_of-self-2 : goal.invariant_of-self-2
invariant_of-self-2 c = search (rules, same-entries)

-- the map holds what it held
pub returns-clause-held : goal.returns-clause-held
returns-clause-held c = rw (← c.self.view_is) (same-entries _ _ c.reserve.ensures.entries.2)

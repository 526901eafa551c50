-- The first behind those that have come is it.
use Rattle.lab_model.proofs.Common.{ap, arith, get_or_default}
use Rattle.lab_logs.specs.declared.agenda.Due.{Due}
use Rattle.lab_logs.proofs.agenda.Agenda.first_after.Goals as goal

-- those behind it are due no earlier
pub returns-clause-first : goal.returns-clause-first
returns-clause-first c =
    let row = c.self.inside.rows.items in
    let place = c.count_until.result in
    let due = c.in_ok-due.due.now in
    let cut = rw (← c.self.view_is) at c.count_until.ensures.cut in
    let is = rw c.deref.ensures.value at c.in_ok-due.ensures.lookup.1 in
    let same = ap (λ (due : Due). due.moment) is in
    rw (← c.self.view_is) (λ k d within ahead.
    let read = get_or_default row place due d in
    grind (arith, cut.0 k d, c.self.invariant place k d))

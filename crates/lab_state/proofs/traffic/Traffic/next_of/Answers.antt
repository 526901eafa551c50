-- The bios of a group are gone through, where it is there; past the last bio no event may come.
use Rattle.lab_model.proofs.Common.{◌<◌, ◌≤◌, ℕ, arith, rules, leb-false}
use Rattle.lab_state.specs.Index.{state_of}
use Rattle.lab_state.proofs.OwnBios.{IsOthers}
use Rattle.lab_state.proofs.Owners.{elses-before, elses-none, elses-past, if-none, if-some}
use Rattle.lab_state.proofs.traffic.Traffic.next_of.Goals as goal

-- none of the group is left
pub returns-in_err-number-clause-none : goal.returns-in_err-number-clause-none
returns-in_err-number-clause-none g c =
    rw (← c.self.view_is) (rw c.from_residual.ensures (elses-none c.self.inside.groups c.args.who
    c.self.invariant.indexed.marked c.self.invariant.grouped (search rules) c.args.from
    c.next.result c.in_err-number.was (rw (← c.group_for.ensures) c.next.ensures.none)))

-- those before the next one have others' events
pub returns-clause-skips : goal.returns-clause-skips
returns-clause-skips g c =
    let row = c.self.inside in
    let s = state_of row.clock row.bios.items row.devices.slots in
    rw (← c.self.view_is) (rw c.then_some-2.ensures (if-some _ c.in_ok-number.number
    (λ number. (other : ℕ) → c.args.from ≤ other → other < number → IsOthers s c.args.who other)
    (elses-before row.groups c.args.who c.self.invariant.indexed.marked c.self.invariant.grouped
    (search rules) c.args.from c.in_ok-number.number
    (rw (← c.group_for.ensures) c.in_ok-number.ensures.some))))

-- where the next one is that of no bio, all have
pub returns-clause-none : goal.returns-clause-none
returns-clause-none g c =
    let row = c.self.inside in
    let s = state_of row.clock row.bios.items row.devices.slots in
    rw (← c.self.view_is) (rw c.then_some-2.ensures (if-none _ c.in_ok-number.number
    ((other : ℕ) → c.args.from ≤ other → IsOthers s c.args.who other)
    (λ past. let behind = leb-false c.in_ok-number.number c.count-2.result past in
    elses-past row.groups c.args.who c.self.invariant.indexed.marked c.self.invariant.grouped
    (search rules) c.args.from c.in_ok-number.number
    (rw (← c.group_for.ensures) c.in_ok-number.ensures.some) (omega (arith, c.count-2.ensures)))))

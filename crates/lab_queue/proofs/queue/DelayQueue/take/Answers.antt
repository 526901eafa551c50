use Rattle.std.proofs.Common.{arith, refl, rules, ◌≡◌, Some}
use Rattle.std.specs.Ordering.{nat_cmp}
use Rattle.std.specs.FinMap.{from_entries, get}
use Rattle.lab_queue.proofs.Indexes.{get-found, remove-entries, index-remove}
use Rattle.lab_queue.proofs.queue.DelayQueue.take.Goals.{In-Some}
use Rattle.lab_queue.proofs.queue.DelayQueue.take.Goals as goal

-- the map has nothing of it
pub returns-in_default-clause-found : goal.returns-in_default-clause-found
returns-in_default-clause-found c = search (rules, get-found)

-- to take out what isn't there changes nothing
pub returns-in_default-clause-held : goal.returns-in_default-clause-held
returns-in_default-clause-held c = search (rules, remove-entries)

-- the map had it
held : (c : In-Some)
    → get (from_entries {R = nat_cmp} c.self.inside.held.entries) c.args.id ≡ Some c.in-Some.held
held c = get-found c.self.inside.held.entries c.args.id _ _ c.remove.ensures.value c.in-Some.is

-- what is held is ranked by its moment
pub remove-requires-2 : goal.remove-requires-2
remove-requires-2 c =
    (c.self.invariant.moments (record { rank = c.in-Some.held.due; id = c.args.id })).1
    (rw (held (goal.at.remove-requires-2 c).In-Some) refl)

-- and by its holder
pub remove-requires-3 : goal.remove-requires-3
remove-requires-3 c = rw c.from.ensures ((c.self.invariant.devices
    (record { rank = c.in-Some.held.holder; id = c.args.id })).1
    (rw (held (goal.at.remove-requires-3 c).In-Some) refl))

-- the number is taken out of the map and out of both rows, and no room is lost
pub invariant_of-self-2 : goal.invariant_of-self-2
invariant_of-self-2 c =
    let was = held (goal.at.invariant_of-self-2 c).In-Some in
    let by_holder = rw c.from.ensures at c.remove-3.ensures.contains in
    rw (remove-entries c.self.inside.held.entries c.remove.new.self.entries c.args.id
    c.remove.ensures.updates.0)
    record {
      moments = index-remove (λ h. h.due) _ c.args.id c.in-Some.held _ _ c.self.invariant.moments
          was c.remove-2.ensures.contains;
      devices = index-remove (λ h. h.holder) _ c.args.id c.in-Some.held _ _
          c.self.invariant.devices was by_holder;
      room_held = omega (arith, c.self.invariant.room_held, c.remove.ensures.spare);
      room_moments = omega (arith, c.self.invariant.room_moments, c.remove-2.ensures.spare);
      room_devices = omega (arith, c.self.invariant.room_devices, c.remove-3.ensures.spare);
    }

-- the map had it as callers see it
pub returns-clause-found : goal.returns-clause-found
returns-clause-found c = search (rules, held, In-Some)

-- the map loses that number alone
pub returns-clause-held : goal.returns-clause-held
returns-clause-held c = search (rules, remove-entries)

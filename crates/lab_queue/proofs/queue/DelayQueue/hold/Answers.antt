use Rattle.std.proofs.Common.{rules, ap, arith, ◌∙◌}
use Rattle.std.specs.FinMap.{get}
use Rattle.lab_queue.specs.declared.queue.Held.{Held}
use Rattle.lab_queue.specs.Queue.{Waiting}
use Rattle.lab_queue.proofs.Indexes.{insert-entries, index-insert}
use Rattle.lab_queue.proofs.queue.DelayQueue.hold.Goals as goal

-- the number is put into the map and into both rows, and each had room
pub invariant_of-self : goal.invariant_of-self
invariant_of-self c =
    let new : Held = record { due = c.args.due; holder = c.args.holder } in
    let free = ap (λ (w : Waiting). get w.held c.args.id) c.self.view_is ∙ c.requires.free in
    let by_holder = rw c.from.ensures at c.insert-3.ensures.contains in
    rw (insert-entries c.self.inside.held.entries c.insert.new.self.entries c.args.id new
    c.in-Ok.ensures.updates.0)
    record {
      moments = index-insert (λ h. h.due) _ c.args.id new _ _ c.self.invariant.moments free
          c.insert-2.ensures.contains;
      devices = index-insert (λ h. h.holder) _ c.args.id new _ _ c.self.invariant.devices free
          by_holder;
      room_held = omega (arith, c.self.invariant.room_held, c.in-Ok.ensures.spare);
      room_moments = omega (arith, c.self.invariant.room_moments, c.insert-2.ensures.spare);
      room_devices = omega (arith, c.self.invariant.room_devices, c.insert-3.ensures.spare);
    }

-- the map gets that number alone
pub returns-clause-held : goal.returns-clause-held
returns-clause-held c = search (rules, insert-entries)

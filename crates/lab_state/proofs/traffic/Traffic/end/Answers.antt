-- Where none of the number lives, nothing changes; else the bio is marked no more and waits no
-- more, and its parent's is marked again where that has no other child.
use Rattle.lab_model.proofs.Common.{cond, ◌≡◌, None, length, rules, ap, sym, ◌∙◌, arith}
use Rattle.lab_model.proofs.Common.{length-change_numbered, option_flatten, numbered}
use Rattle.lab_bios.proofs.Parents.{log-left}
use Rattle.lab_bios.specs.Children.{is_alone, parent_number}
use Rattle.lab_bios.specs.Flights.{flight_of}
use Rattle.lab_bios.proofs.Sums.{all-taken, was-counted}
use Rattle.lab_bios.proofs.Numbers.{changed-none}
use Rattle.lab_state.specs.Index.{state_of}
use Rattle.lab_state.proofs.Flown.{counted-on, flew-on}
use Rattle.lab_state.proofs.Going.{listed-gone, one-taken}
use Rattle.lab_state.proofs.GoingBios.{indexed-changed, none-there, remarked-gone, alike-taken}
use Rattle.lab_state.proofs.GoingBios.{stays-marked}
use Rattle.lab_state.proofs.Flying.{grouped-but, grouped-unmarked}
use Rattle.lab_state.proofs.Holding.{held-gone, held-none}
use Rattle.lab_state.proofs.Told.{lived}
use Rattle.lab_state.proofs.traffic.Traffic.end.Goals as goal

-- none of the number lives, and all is as it was
pub invariant_of-self : goal.invariant_of-self
invariant_of-self g c = search (rules, none-there, changed-none, held-none)

-- there are as many bios as before, and the marks reach as far
pub mark_parent-requires-clause-reach : goal.mark_parent-requires-clause-reach
mark_parent-requires-clause-reach g c = search (rules, length-change_numbered)

-- its parent stays marked as it is to be, where that has another child still
pub mark_parent-requires-clause-stays : goal.mark_parent-requires-clause-stays
mark_parent-requires-clause-stays g c = λ stays.
    let row = c.self.inside in
    let s = state_of row.clock row.bios.items row.devices.slots in
    let after = c.end.new.self.items in
    let was = lived (option_flatten (numbered row.bios.items c.args.number))
    c.in_ok-device.ensures.device
    c.in_ok-device.ensures.parent c.in_ok-device.ensures.stage in
    let one = one-taken row.bios.items after c.args.number was.bio was.lives c.end.ensures.gone in
    stays-marked s after one c.self.invariant.indexed.marked.ready
    (remarked-gone s after one c.unmark.ensures.here c.unmark.ensures.others c.unmark.ensures.reach)
    c.parent_number-above.result
    (alike-taken row.bios.items after c.args.number c.parent_number-above.result was.bio was.lives
    c.end.ensures.gone (ap (λ p. is_alone p after after) c.parent_number-above.ensures
    ∙ sym c.in_ok-device.ensures.last ∙ stays))

-- each bio that is still marked is in its group
pub mark_parent-requires-clause-grouped : goal.mark_parent-requires-clause-grouped
mark_parent-requires-clause-grouped g c =
    let row = c.self.inside in
    let after = c.end.new.self.items in
    let was = lived (option_flatten (numbered row.bios.items c.args.number))
    c.in_ok-device.ensures.device
    c.in_ok-device.ensures.parent c.in_ok-device.ensures.stage in
    let one = one-taken row.bios.items after c.args.number was.bio was.lives c.end.ensures.gone in
    grouped-unmarked after row.ready c.unmark.new.ready c.leave.new.groups c.args.number
    c.unmark.ensures.here c.unmark.ensures.others
    (grouped-but row.ready one c.leave.ensures.keeps (λ _ other apart. rw c.end.ensures.gone
    (log-left row.bios.items c.args.number other apart)) c.self.invariant.grouped)

-- it is marked no more, and its parent's as it is to be
pub invariant_of-self-2 : goal.invariant_of-self-2
invariant_of-self-2 g c =
    let row = c.self.inside in
    let s = state_of row.clock row.bios.items row.devices.slots in
    let after = c.end.new.self.items in
    let was = lived (option_flatten (numbered row.bios.items c.args.number))
    c.in_ok-device.ensures.device
    c.in_ok-device.ensures.parent c.in_ok-device.ensures.stage in
    let one = one-taken row.bios.items after c.args.number was.bio was.lives c.end.ensures.gone in
    let above : c.parent_number-above.result ≡ parent_number was.bio.parent =
    c.parent_number-above.ensures ∙ ap parent_number was.parent_is in
    rw c.land.ensures.slots (record {
      indexed = indexed-changed s after one c.self.invariant.indexed
          (omega (
            arith,
            ap length c.end.ensures.gone,
            length-change_numbered row.bios.items (λ _. None) c.args.number,
            c.self.invariant.indexed.marked.reach,
          )) (remarked-gone s after one c.unmark.ensures.here c.unmark.ensures.others
          c.unmark.ensures.reach)
          (rw (← above) (search rules)) c.wait_no_more.ensures.here c.wait_no_more.ensures.others;
      grouped = c.mark_parent.ensures.grouped;
      listed = listed-gone row.dependents c.forget.new.self one c.self.invariant.listed
          (c.forget.ensures.keeps after) c.forget.ensures.here;
      lines = rw c.let_go.ensures (held-gone c.args.number was.bio was.lives c.self.invariant.lines
          c.end.ensures.gone);
      counted = λ on.
          let landed = counted-on row.is_counted (flight_of was.bio.device was.bio.stage)
          c.counted_flight-landed.result
          (c.counted_flight-landed.ensures ∙ ap (λ f. cond row.is_counted f None) was.flight) on in
          all-taken row.bios.items after row.devices.flights (c.self.invariant.counted on)
          c.land.new.devices.flights c.args.number was.bio was.lives c.end.ensures.gone
          (rw (← landed) c.land.ensures.flights);
    })

-- the bio was counted
pub land-requires : goal.land-requires
land-requires g c =
    let row = c.self.inside in
    let was = lived (option_flatten (numbered row.bios.items c.args.number))
    c.in_ok-device.ensures.device
    c.in_ok-device.ensures.parent c.in_ok-device.ensures.stage in
    flew-on row.is_counted (flight_of was.bio.device was.bio.stage)
    c.counted_flight-landed.result row.devices.flights
    (c.counted_flight-landed.ensures ∙ ap (λ f. cond row.is_counted f None) was.flight)
    (λ on. was-counted row.bios.items c.end.new.self.items row.devices.flights
    (c.self.invariant.counted on) c.args.number was.bio was.lives)

-- as much waits of it as of a bio at its stage
pub wait_no_more-requires : goal.wait_no_more-requires
wait_no_more-requires g c = search rules

-- The new bio waits if it is held and isn't due, and is marked; so is its parent's, where that had
-- no child before.
use Rattle.lab_model.proofs.Common.{◌≡◌, [], ◌∷◌, None, Some, cond, length, length-append, ap}
use Rattle.lab_model.proofs.Common.{rules, sym, ◌∙◌, arith, Bio}
use Rattle.lab_bios.specs.Children.{is_alone, parent_number}
use Rattle.lab_bios.specs.Flights.{flight_of}
use Rattle.lab_bios.proofs.Sums.{all-pushed, room-for-pushed}
use Rattle.lab_state.specs.Index.{state_of, waits_at}
use Rattle.lab_state.specs.Traffic.{TrafficRow}
use Rattle.lab_state.proofs.Flown.{counted-on, fits-on}
use Rattle.lab_state.proofs.Fresh.{next-dead}
use Rattle.lab_state.proofs.Going.{one-pushed, listed-changed}
use Rattle.lab_state.proofs.GoingBios.{IsRemarked, indexed-changed, alike-pushed, stays-marked}
use Rattle.lab_state.proofs.Flying.{grouped-but, logs-pushed}
use Rattle.lab_state.proofs.Holding.{held-pushed, room-behind}
use Rattle.lab_state.proofs.traffic.Traffic.push_in_room.Goals as goal

-- it depends on the device that it enters or is held by, if on any
pub add-requires-clause-device : goal.add-requires-clause-device
add-requires-clause-device g c = search (rules, one-pushed)

-- none lived at its number, so that nothing is known of it
pub add-requires-clause-known : goal.add-requires-clause-known
add-requires-clause-known g c = search (rules, next-dead)

-- its parent's bio stays marked as it is to be, where that had a child before
pub mark_parent-requires-clause-stays : goal.mark_parent-requires-clause-stays
mark_parent-requires-clause-stays g c = λ stays.
    let row = c.self.inside in
    let s = state_of row.clock row.bios.items row.devices.slots in
    let after = c.push_in_room-is_first.new.self.items in
    let one = one-pushed row.bios.items after c.count-number.result c.args.bio
    c.count-number.ensures c.push_in_room-is_first.ensures.items in
    let above : c.parent_number-parent.result ≡ parent_number c.args.bio.parent =
    c.parent_number-parent.ensures ∙ ap (λ (bio : Bio). parent_number bio.parent) c.bio.view_is in
    let marked : IsRemarked (record s { bios = after }) c.count-number.result row.ready
    c.mark_new.new.ready = search rules in
    stays-marked s after one c.self.invariant.indexed.marked.ready marked
    c.parent_number-parent.result
    (alike-pushed row.bios.items after c.parent_number-parent.result c.args.bio
    c.push_in_room-is_first.ensures.items (ap (λ p. is_alone p after row.bios.items) above
    ∙ sym c.push_in_room-is_first.ensures.first ∙ stays))

-- each marked bio is in its group
pub mark_parent-requires-clause-grouped : goal.mark_parent-requires-clause-grouped
mark_parent-requires-clause-grouped g c =
    let row = c.self.inside in
    let after = c.push_in_room-is_first.new.self.items in
    let one = one-pushed row.bios.items after c.count-number.result c.args.bio
    c.count-number.ensures c.push_in_room-is_first.ensures.items in
    c.mark_new.ensures.grouped (grouped-but row.ready one
    (search (rules, c.close_if_parent.ensures.same))
    (λ kept other apart _. logs-pushed row.bios.items after c.count-number.result c.args.bio
    c.count-number.ensures c.push_in_room-is_first.ensures.items
    (c.close_if_parent.ensures.childless kept) other apart) c.self.invariant.grouped)

-- both are marked as they are to be
pub invariant_of-self : goal.invariant_of-self
invariant_of-self g c =
    let row = c.self.inside in
    let s = state_of row.clock row.bios.items row.devices.slots in
    let after = c.push_in_room-is_first.new.self.items in
    let one = one-pushed row.bios.items after c.count-number.result c.args.bio
    c.count-number.ensures c.push_in_room-is_first.ensures.items in
    let above : c.parent_number-parent.result ≡ parent_number c.args.bio.parent =
    c.parent_number-parent.ensures ∙ ap (λ (bio : Bio). parent_number bio.parent) c.bio.view_is in
    let waits : c.waits-moment.result ≡ waits_at row.clock c.args.bio.stage =
    c.waits-moment.ensures ∙ ap (λ (bio : Bio). waits_at row.clock bio.stage) c.bio.view_is in
    let room = ap (λ (t : TrafficRow g.row.T.Denot). t.room) c.self.view_is in
    let flight : c.counted_flight-flight.result
    ≡ cond row.is_counted (flight_of c.args.bio.device c.args.bio.stage) None =
    c.counted_flight-flight.ensures ∙ ap (λ (bio : Bio). cond row.is_counted
    (flight_of bio.device bio.stage) None) c.bio.view_is in
    let marked : IsRemarked (record s { bios = after }) c.count-number.result row.ready
    c.mark_new.new.ready = search rules in
    rw c.take_off.ensures.slots (record {
      indexed = indexed-changed s after one c.self.invariant.indexed
          (omega (
            arith,
            room,
            c.requires,
            ap length c.push_in_room-is_first.ensures.items,
            length-append row.bios.items (Some c.args.bio ∷ []),
          )) marked (rw (← above) (search rules))
          (c.wait_for.ensures.here ∙ waits) c.wait_for.ensures.others;
      grouped = c.mark_parent.ensures.grouped;
      listed = listed-changed row.dependents c.add.new.self one c.self.invariant.listed
          c.add.ensures.keeps c.add.ensures.here;
      lines = rw c.take_in.ensures (held-pushed c.count-number.result c.args.bio one.here
          c.push_in_room-is_first.ensures.items c.self.invariant.lines);
      counted = λ on.
          let was_on = c.take_off.ensures.was on in
          let flies = counted-on row.is_counted (flight_of c.args.bio.device c.args.bio.stage)
          c.counted_flight-flight.result flight was_on in
          all-pushed row.bios.items after row.devices.flights (c.self.invariant.counted was_on)
          c.take_off.new.devices.flights c.args.bio c.push_in_room-is_first.ensures.items
          (rw (← flies) (c.take_off.ensures.flights on));
    })

-- the new one fits into the counts
pub take_off-requires : goal.take_off-requires
take_off-requires g c =
    let row = c.self.inside in
    let flight = flight_of c.args.bio.device c.args.bio.stage in
    let flies : c.counted_flight-flight.result ≡ cond row.is_counted flight None =
    c.counted_flight-flight.ensures ∙ ap (λ (bio : Bio). cond row.is_counted
    (flight_of bio.device bio.stage) None) c.bio.view_is in
    fits-on row.is_counted flight c.counted_flight-flight.result row.devices.flights flies
    (λ on. room-for-pushed row.bios.items c.push_in_room-is_first.new.self.items
    row.devices.flights (c.self.invariant.counted on) c.args.bio
    c.push_in_room-is_first.ensures.items
    (omega (arith, c.count-number.ensures, c.count-number.type_inv)))

-- no mark stands behind those of the others
pub mark_new-requires-clause-unmarked : goal.mark_new-requires-clause-unmarked
mark_new-requires-clause-unmarked g c = search (rules, next-dead)

-- what is told of it by its device and its stage is so once it lives
pub mark_new-requires-clause-told : goal.mark_new-requires-clause-told
mark_new-requires-clause-told g c = search (rules, one-pushed)

-- each count can be raised, since the new number fits
pub take_in-requires : goal.take_in-requires
take_in-requires g c =
    let row = c.self.inside in
    room-behind row.bios.items row.held c.self.invariant.lines
    (omega (
      arith,
      c.count-number.ensures,
      c.count-number.type_inv,
      ap length c.push_in_room-is_first.ensures.items,
      length-append row.bios.items (Some c.args.bio ∷ []),
    ))

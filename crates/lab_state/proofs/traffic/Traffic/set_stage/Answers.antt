-- Where none of the number lives, nothing changes; else the bio is marked again and waits no more.
use Rattle.lab_model.proofs.Common.{◌≡◌, ◌∙◌, None, cond, Some, rules, length, ap, sym, arith}
use Rattle.lab_model.proofs.Common.{option_map, length-change_numbered, option_flatten, numbered}
use Rattle.lab_bios.proofs.Parents.{log-staged}
use Rattle.lab_bios.specs.Flights.{flight_of}
use Rattle.lab_bios.specs.Views.{stage_of, with_stage}
use Rattle.lab_bios.proofs.Sums.{all-staged, room-for-staged, was-counted}
use Rattle.lab_bios.proofs.Numbers.{changed-none}
use Rattle.lab_state.specs.Dependents.{depends_on, living_device}
use Rattle.lab_state.specs.Index.{state_of}
use Rattle.lab_state.proofs.Flown.{counted-on, fits-on, flew-on}
use Rattle.lab_state.proofs.Going.{one-staged, listed-changed}
use Rattle.lab_state.proofs.GoingBios.{indexed-alone}
use Rattle.lab_state.proofs.Flying.{grouped-but}
use Rattle.lab_state.proofs.Holding.{held-staged}
use Rattle.lab_state.proofs.traffic.Traffic.set_stage.Goals as goal

-- none of the number lives, and all is as it was
pub invariant_of-self : goal.invariant_of-self
invariant_of-self g c = search rules

-- it depends on the device that it enters at its new stage, if on any
pub add-requires-clause-device : goal.add-requires-clause-device
add-requires-clause-device g c =
    let bio = c.in_ok-device.field-0.now in
    let decides : c.depends_on-decider.result ≡ depends_on bio.device (stage_of c.args.stage) =
    search rules in
    let one = one-staged c.self.inside.bios.items c.set_stage.new.self.items c.args.number bio
    (stage_of c.args.stage) (search rules) c.set_stage.ensures.items in
    decides ∙ sym (ap living_device one.here)

-- there are as many bios as before
pub mark_bio-requires : goal.mark_bio-requires
mark_bio-requires g c = search (rules, length-change_numbered)

-- it is marked again
pub invariant_of-self-2 : goal.invariant_of-self-2
invariant_of-self-2 g c =
    let row = c.self.inside in
    let s = state_of row.clock row.bios.items row.devices.slots in
    let after = c.set_stage.new.self.items in
    let stage = stage_of c.args.stage in
    let bio = c.in_ok-device.field-0.now in
    let lives : option_flatten (numbered row.bios.items c.args.number) ≡ Some bio = search rules in
    let is = c.set_stage.ensures.items in
    let one = one-staged row.bios.items after c.args.number bio stage lives is in
    let size = length-change_numbered row.bios.items
    (option_map (with_stage stage)) c.args.number in
    rw (c.take_off.ensures.slots, c.land.ensures.slots) (record {
      indexed = indexed-alone s after one c.self.invariant.indexed
          (omega (arith, ap length is, size, c.self.invariant.indexed.marked.reach)) (search rules)
          (c.wait_no_more.ensures.here ∙ sym (search (rules, c.requires)))
          c.wait_no_more.ensures.others;
      grouped = c.mark_bio.ensures.grouped (grouped-but row.ready one c.leave.ensures.keeps
          (λ _ other _ _. rw is (log-staged row.bios.items c.args.number stage other))
          c.self.invariant.grouped);
      listed = listed-changed row.dependents c.add.new.self one c.self.invariant.listed
          (λ other there. c.add.ensures.keeps other (c.forget.ensures.keeps after other there))
          c.add.ensures.here;
      lines = rw c.let_go.ensures (held-staged c.args.number bio lives c.self.invariant.lines stage is
          c.requires);
      counted = λ on.
          let was_on = c.take_off.ensures.was on in
          let landed = counted-on row.is_counted (flight_of bio.device bio.stage)
          c.counted_flight-landed.result (search rules) was_on in
          let flies = counted-on row.is_counted (flight_of bio.device stage)
          c.counted_flight-flight.result (search rules) was_on in
          all-staged row.bios.items after row.devices.flights (c.self.invariant.counted was_on)
          c.land.new.devices.flights c.take_off.new.devices.flights c.args.number bio stage lives
          is (rw (← landed) c.land.ensures.flights) (rw (← flies) (c.take_off.ensures.flights on));
    })

-- where none of the number lives, nothing changes
pub returns-in_err-device-clause-bios : goal.returns-in_err-device-clause-bios
returns-in_err-device-clause-bios g c = search (rules, changed-none)

-- the bio was counted at its stage
pub land-requires : goal.land-requires
land-requires g c =
    let row = c.self.inside in
    let bio = c.in_ok-device.field-0.now in
    flew-on row.is_counted (flight_of bio.device bio.stage) c.counted_flight-landed.result
    row.devices.flights (search rules) (λ on. was-counted row.bios.items row.bios.items
    row.devices.flights (c.self.invariant.counted on) c.args.number bio (search rules))

-- at its new one it fits into the counts
pub take_off-requires : goal.take_off-requires
take_off-requires g c =
    let row = c.self.inside in
    let bio = c.in_ok-device.field-0.now in
    let stage = stage_of c.args.stage in
    let size = length-change_numbered row.bios.items
    (option_map (with_stage stage)) c.args.number in
    let lives : option_flatten (numbered row.bios.items c.args.number) ≡ Some bio = search rules in
    let was : c.counted_flight-landed.result
    ≡ cond row.is_counted (flight_of bio.device bio.stage) None = search rules in
    fits-on row.is_counted (flight_of bio.device stage) c.counted_flight-flight.result
    c.land.new.devices.flights (search rules) (λ on.
    let landed = counted-on row.is_counted (flight_of bio.device bio.stage)
    c.counted_flight-landed.result was on in
    room-for-staged row.bios.items c.set_stage.new.self.items row.devices.flights
    (c.self.invariant.counted on) c.land.new.devices.flights c.args.number bio stage lives
    c.set_stage.ensures.items
    (omega (arith, size, ap length c.set_stage.ensures.items, c.count.ensures, c.count.type_inv))
    (rw (← landed) c.land.ensures.flights))

-- as much waits of it as of a bio at the stage before
pub wait_no_more-requires : goal.wait_no_more-requires
wait_no_more-requires g c = search rules

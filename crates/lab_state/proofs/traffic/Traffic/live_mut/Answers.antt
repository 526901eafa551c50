-- The devices lend the table, and the rest of the traffic stays.
use Rattle.lab_model.proofs.Common.{rules, refl, option_map, change, with_live}
use Rattle.lab_state.proofs.Modes.{kept-slots}
use Rattle.lab_state.proofs.traffic.Traffic.live_mut.Goals as goal

-- another live table leaves the device's mode, so the same may go on
pub invariant_of-self-lent : goal.invariant_of-self-lent
invariant_of-self-lent g c =
    let devices = c.self.inside.devices in
    λ lent. (
      λ table. kept-slots (change devices.slots c.args.device (option_map (with_live table)))
          devices.flights c.args.device (with_live table)
          (search rules) refl
          refl c.self.invariant,
      c.self.invariant,
    )

-- what is written is the device's live table
pub returns : goal.returns
returns g c = rw (← c.self.view_is) (
  refl,
  record { writes_back = tt; table = c.live_mut.ensures.table },
)

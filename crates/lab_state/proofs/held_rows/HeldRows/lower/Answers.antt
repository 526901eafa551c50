-- The row of the device is written anew, if there is one; else nothing changes.
use Rattle.lab_model.proofs.Common.{arith, ap, change, change-past, length, length-map}
use Rattle.lab_state.specs.HeldRows.{without_kind}
use Rattle.lab_state.proofs.HeldPlaces.{rows-set}
use Rattle.lab_state.proofs.held_rows.HeldRows.lower.Goals as goal

-- one is counted less in it
pub returns-then-device-len : goal.returns-then-device-len
returns-then-device-len c =
    let place = c.args.place in
    rows-set c.self.inside.rows.items c.args.self.now place.device c.index_mut.result.now
    c.lower_in.new.row (λ row. change row place.line (without_kind place.kind)) c.self.view_is
    (omega (arith, c.len.ensures, c.if-device-len.true)) c.index_mut.ensures.value
    c.lower_in.ensures

-- a change past the end does nothing
pub returns-else-device-len : goal.returns-else-device-len
returns-else-device-len c =
    let place = c.args.place in
    change-past c.args.self.now place.device
    (λ row. change row place.line (without_kind place.kind)) (omega (
      arith,
      ap length c.self.view_is,
      length-map c.self.inside.rows.items (λ row. row.items),
      c.len.ensures,
      c.if-device-len.false,
    ))

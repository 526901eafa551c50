-- The row of the device is written anew, if there is one; else nothing changes.
use Rattle.lab_model.proofs.Common.{arith, ap, change, change-past, length, length-map}
use Rattle.lab_state.specs.HeldRows.{with_kind}
use Rattle.lab_state.proofs.HeldPlaces.{row-at, rows-set}
use Rattle.lab_state.proofs.held_rows.HeldRows.raise.Goals as goal

-- one is counted more in it
pub returns-then-device-len : goal.returns-then-device-len
returns-then-device-len c =
    let place = c.args.place in
    rows-set c.self.inside.rows.items c.args.self.now place.device c.index_mut.result.now
    c.raise_in.new.row (λ row. change row place.line (with_kind place.kind)) c.self.view_is
    (omega (arith, c.len.ensures, c.if-device-len.true)) c.index_mut.ensures.value
    c.raise_in.ensures

-- a change past the end does nothing
pub returns-else-device-len : goal.returns-else-device-len
returns-else-device-len c =
    let place = c.args.place in
    change-past c.args.self.now place.device
    (λ row. change row place.line (with_kind place.kind)) (omega (
      arith,
      ap length c.self.view_is,
      length-map c.self.inside.rows.items (λ row. row.items),
      c.len.ensures,
      c.if-device-len.false,
    ))

-- the count of the line can be raised
pub raise_in-requires : goal.raise_in-requires
raise_in-requires c =
    let there = row-at c.self.inside.rows.items c.args.self.now c.args.place.device
    c.index_mut.result.now c.self.view_is
    (omega (arith, c.len.ensures, c.if-device-len.true)) c.index_mut.ensures.value in
    rw there at (c.requires c.args.place.device c.args.place.line)

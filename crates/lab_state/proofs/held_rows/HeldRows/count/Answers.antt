-- One living bio more is counted in each turn, and at last all are.
use Rattle.lab_model.proofs.Common.{◌∙◌, arith, refl}
use Rattle.lab_state.specs.HeldRows.{place_of, with_kind}
use Rattle.lab_state.proofs.HeldPlaces.{lines-kept}
use Rattle.lab_state.proofs.Holding.{counted-all, counted-first, counted-next, room-to}
use Rattle.lab_state.proofs.held_rows.HeldRows.count.Goals as goal

-- none is counted before the first
pub loop-number-init : goal.loop-number-init
loop-number-init c = record {
  counted = counted-first c.args.bios.now.items c.args.self.now c.requires;
  lines = λ device. refl;
}

-- each count can be raised
pub take_in-requires : goal.take_in-requires
take_in-requires c = room-to c.loop-number.invariant.counted c.in-Some.number
    c.in-Some.ensures.next.from (omega (arith, c.in-Some.ensures.fits))

-- the next one is counted
pub loop-number-preserved : goal.loop-number-preserved
loop-number-preserved c = rw c.take_in.ensures (record {
  counted = counted-next c.loop-number.invariant.counted c.in-Some.number c.in-Some.ensures.next;
  lines = λ device. lines-kept with_kind (place_of c.args.bios.now.items c.in-Some.number)
      c.loop-number.self device ∙ c.loop-number.invariant.lines device;
})

-- all were looked at
pub returns-clause-counted : goal.returns-clause-counted
returns-clause-counted c =
    counted-all c.loop-number.invariant.counted c.in_default.ensures.none

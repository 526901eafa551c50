-- Entries change places until the next is due no earlier.
use Rattle.lab_model.proofs.Common.{◌≡◌, ◌+◌, ◌-◌, ◌<◌, arith, length, refl, subst, swap}
use Rattle.lab_model.proofs.Common.{IsPermutation-swap, IsPermutation-trans, length-swap}
use Rattle.lab_logs.specs.Agenda.{IsInOrderBut}
use Rattle.lab_logs.proofs.Moves.{moved, settled}
use Rattle.lab_logs.proofs.agenda.move_back.Goals as goal

-- the next is due no earlier
pub returns-then-rows-place-clause-order : goal.returns-then-rows-place-clause-order
returns-then-rows-place-clause-order c =
    settled c.loop-place.rows (c.loop-place.place - 1) c.loop-place.place _
    (omega (arith, c.loop-place.invariant.behind)) (omega arith) c.loop-place.invariant.others
    c.if-rows-place.true

-- one step further
pub loop-place-preserved : goal.loop-place-preserved
loop-place-preserved c =
    let rows = c.loop-place.rows in
    let at = c.loop-place.place in
    let next : at ≡ at + 1 - 1 = omega arith in
    let inside : at < length rows = omega arith in
    rw c.swap.ensures.after (record {
      same = IsPermutation-trans c.args.rows.now rows _ c.loop-place.invariant.same
          (IsPermutation-swap rows _ (at - 1) at (omega arith) inside refl);
      others = subst (IsInOrderBut (swap rows (at - 1) at)) next
          (moved rows (at - 1) at _ (omega (arith, c.loop-place.invariant.behind)) inside
          c.loop-place.invariant.others c.if-rows-place.false);
      behind = omega arith;
      within = omega (arith, length-swap rows (at - 1) at);
    })

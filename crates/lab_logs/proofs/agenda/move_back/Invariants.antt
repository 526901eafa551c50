-- The entry stands before this place, and the others are in order.
use Rattle.lab_model.proofs.Common.{◌<◌, ◌≤◌, ◌-◌, length, IsPermutation}
use Rattle.lab_logs.specs.Agenda.{IsInOrderBut}
use Rattle.lab_logs.proofs.agenda.move_back.Given as goal

abbrev pub invariant-loop-place : goal.invariant-loop-place
invariant-loop-place l = record {
  same : IsPermutation l.fn.rows l.rows;
  others : IsInOrderBut l.rows (l.place - 1);
  behind : 0 < l.place;
  within : l.place ≤ length l.rows;
}

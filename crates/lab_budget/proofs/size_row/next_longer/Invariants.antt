use Rattle.lab_model.proofs.Common.{◌+◌, ◌≤◌, length}
use Rattle.lab_budget.specs.Grouped.{AreNext, HaveAtMost}
use Rattle.lab_budget.proofs.size_row.next_longer.Given as goal

-- the places that are told are right, and no table behind the next one so far is longer
abbrev pub invariant-loop-place : goal.invariant-loop-place
invariant-loop-place g l = record {
  next : AreNext l.tables l.size l.next.items;
  behind : HaveAtMost l.tables (length l.next.items + 1) l.place l.size;
  told : length l.next.items ≤ l.place;
}

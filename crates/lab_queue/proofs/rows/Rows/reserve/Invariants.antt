use Rattle.std.proofs.Common.{◌≡◌, ◌≤◌, ◌-◌}
use Rattle.lab_queue.proofs.rows.Rows.reserve.Given as goal

-- the rows stay, and the room grows
abbrev pub invariant-loop-self : goal.invariant-loop-self
invariant-loop-self l = record {
  same : l.self.rows ≡ l.initial.self.rows;
  grows : l.initial.self.spare ≤ l.self.spare;
}

-- the room that is missing, and a row's half more
abbrev pub decreases-loop-self : goal.decreases-loop-self
decreases-loop-self l = l.n - l.self.spare

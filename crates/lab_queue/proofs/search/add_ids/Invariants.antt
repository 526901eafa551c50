use Rattle.std.proofs.Common.{◌≡◌, ◌++◌, drop}
use Rattle.lab_queue.specs.Ranking.{ids_in_front}
use Rattle.lab_queue.specs.Rows.{IsAhead, flat}
use Rattle.lab_queue.proofs.search.add_ids.Given as goal

-- the numbers so far and those of the rows that are left are all
abbrev pub invariant-loop-at : goal.invariant-loop-at
invariant-loop-at l = record {
  ahead : IsAhead l.rows.items l.at l.rank;
  found : l.ids.items ++ ids_in_front (flat (drop l.at l.rows.items)) l.rank
      ≡ l.initial.ids.items ++ ids_in_front (flat (drop l.fn.from l.rows.items)) l.rank;
}

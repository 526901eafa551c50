-- What the loop that makes the rows keeps.
use Rattle.lab_model.proofs.Common.{◌≡◌, map, replicate}
use Rattle.lab_state.specs.HeldRows.{nothing}
use Rattle.lab_state.proofs.held_rows.empty_rows.Given as goal

-- so many rows stand as rounds are done, and each has so many lines
abbrev pub invariant-loop : goal.invariant-loop
invariant-loop l =
    map (λ row. row.items) l.rows.items ≡ replicate l.counter (replicate l.lines nothing)

-- What is written and the rows that are left make the whole text.
use Rattle.lab_model.proofs.Common.{◌≡◌, ◌++◌, drop, flat_map}
use Rattle.lab_sweep.specs.FoundRow.{found_row_text}
use Rattle.lab_sweep.proofs.found_rows.push_found_rows.Given as goal

abbrev pub invariant-loop-row : goal.invariant-loop-row
invariant-loop-row g l =
    l.text.items ++ flat_map (found_row_text l.scenario l.seed) (drop l.row-index l.row-items)
    ≡ l.fn.text.items ++ flat_map (found_row_text l.scenario l.seed) l.row-items

-- The rows of a log, one line after another. Names: rows_from, and the form of the next line.
use Rattle.lab_model.proofs.Common.{ℕ, ◌+◌, List, map, Result, enumerate_from}
use Rattle.lab_iolog.specs.declared.log.LogFault.{LogFault}
use Rattle.lab_text.specs.Rows.{all_rows}
use Rattle.lab_iolog.specs.Log.{LogRow, placed_row, filled_from}

-- the rows of the lines after `number`, where `kept` ones that aren't blank came before
abbrev pub rows_from : ℕ → ℕ → List (List ℕ) → Result (List LogRow) LogFault
rows_from kept number lines =
    all_rows (map placed_row (enumerate_from (kept + 1) (filled_from (number + 1) lines)))

-- The rows that are written and those that are left make the whole text.
use Rattle.std.proofs.Common.{◌≡◌, ◌++◌, drop}
use Rattle.std.specs.List.{flat_map}
use Rattle.lab_model.specs.Report.{text_line}
use Rattle.lab_image.specs.Text.{disk_row_text, rows_text}
use Rattle.lab_image.proofs.text.text_of.Given as goal

abbrev pub invariant-loop-row : goal.invariant-loop-row
invariant-loop-row l =
    l.text.items ++ flat_map (λ row. text_line (disk_row_text row)) (drop l.row-index l.rows)
    ≡ rows_text l.fn.rows

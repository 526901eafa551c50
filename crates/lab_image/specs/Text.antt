-- The rows of sectors as a text (this project's own).
use Rattle.std.specs.Prelude.{ℕ, List, [], ◌∷◌, ◌++◌, codes, decimal}
use Rattle.std.specs.List.{flat_map}
use Rattle.lab_target.specs.declared.verdict.Mark.{Mark}
use Rattle.lab_model.specs.Report.{text_line}
use Rattle.lab_next.specs.declared.writer.Writer.{Writer}
use Rattle.lab_image.specs.Rows.{DiskRow}

-- the names of the columns
abbrev pub image_head : List ℕ
image_head = codes "disk" ++ 9 ∷ codes "sectors" ++ 9 ∷ codes "log" ++ 9 ∷ codes "line" ++ 9
    ∷ codes "from" ++ 9 ∷ codes "changed"

-- `ramN`, and `FIRST+COUNT`
abbrev pub disk_sectors_text : DiskRow → List ℕ
disk_sectors_text row =
    codes "ram" ++ decimal row.disk ++ 9 ∷ decimal row.first ++ 43 ∷ decimal row.count

-- the log, the line and the sector of an operation
abbrev pub operation_text : Writer → List ℕ
operation_text writer = decimal writer.origin.log ++ 9 ∷ decimal writer.origin.line ++ 9
    ∷ decimal writer.sector

-- `BYTE=VALUE`
abbrev pub changed_byte_text : Mark → List ℕ
changed_byte_text mark = decimal mark.place ++ 61 ∷ decimal mark.value

-- each changed byte behind a comma
abbrev pub changed_bytes_text : List Mark → List ℕ
changed_bytes_text marks = flat_map (λ mark. 44 ∷ changed_byte_text mark) marks

-- the changed bytes with a comma between two, `-` where there are none
abbrev pub changed_text : List Mark → List ℕ
changed_text [] = codes "-"
changed_text (mark ∷ marks) = changed_byte_text mark ++ changed_bytes_text marks

-- a row
abbrev pub disk_row_text : DiskRow → List ℕ
disk_row_text row =
    disk_sectors_text row ++ 9 ∷ operation_text row.writer ++ 9 ∷ changed_text row.changed

-- the names of the columns as a line, and a line for each row
abbrev pub rows_text : List DiskRow → List ℕ
rows_text rows = text_line image_head ++ flat_map (λ row. text_line (disk_row_text row)) rows

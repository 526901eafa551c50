-- What a write writes, and the marks of a bio that are not yet in its bytes (this project's own).
use Rattle.std.specs.Prelude.{List, Some, fold}
use Rattle.lab_sector.specs.declared.request.Kind.{Kind}
use Rattle.lab_sector.specs.declared.request.Kind.TheVariants.{Write}
use Rattle.lab_target.specs.declared.verdict.Mark.{Mark}
use Rattle.lab_target.specs.declared.verdict.Marks.{Marks}
use Rattle.lab_target.specs.Types.{no_marks}
use Rattle.lab_model.specs.Sectors.{Sectors, filled, marked_by}
use Rattle.lab_bios.specs.declared.written.Changes.{Changes}
use Rattle.lab_bios.specs.declared.written.Form.{Form}
use Rattle.lab_bios.specs.declared.written.Form.TheVariants.{Filled, Changed}

-- the sectors with marked bytes replaced, one after another
abbrev pub changed : Sectors → List Mark → Sectors
changed sectors marks = fold (λ sectors mark. marked_by (Some mark) sectors) sectors marks

-- the sectors of one byte that were changed
abbrev pub changed_by : Changes → Sectors
changed_by changes = changed (filled changes.count changes.byte) changes.marks.items

-- the sectors that are kept in a form
abbrev pub sectors_of : Form → Sectors
sectors_of (Filled byte count) = filled count byte
sectors_of (Changed changes) = changed_by changes.value

-- the marks that change what is written: a write's
abbrev pub write_marks : Kind → Marks → Marks
write_marks Write marks = marks
write_marks _ marks = no_marks

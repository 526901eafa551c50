-- The byte, the count and the marks are those of the other.
use Rattle.lab_model.proofs.Common.{rules, ◌∙◌, sym}
use Rattle.lab_bios.proofs.Alike.{same-marks, same-changes}
use Rattle.lab_bios.proofs.written.Changes.is_alike.Goals as goal

pub returns : goal.returns
returns c = λ same. (
    let marks = same-marks c.args.self.now.marks.items c.args.other.now.marks.items
    (sym c.eq.ensures ∙ same) in
    search (rules, same-changes))

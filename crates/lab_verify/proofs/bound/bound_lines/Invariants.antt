-- The lines gone over are bound, and so is the file that is remembered.
use Rattle.lab_model.proofs.Common.{◌≡◌, map, take}
use Rattle.lab_iolog.specs.Log.{log_rows}
use Rattle.lab_rulebook.specs.BoundWords.{line_read}
use Rattle.lab_rulebook.specs.Standing.{device_meant}
use Rattle.lab_standing.specs.Stands.{standing_of}
use Rattle.lab_verify.specs.BoundFiles.{IsBound}
use Rattle.lab_verify.proofs.bound.bound_lines.Given as goal

abbrev pub invariant-loop-line : goal.invariant-loop-line
invariant-loop-line g l = (l.bound.items
    ≡ map (line_read (device_meant (standing_of g.T.Target.meaning l.standing)))
    (log_rows (take l.line-index l.lines)))
    × IsBound (standing_of g.T.Target.meaning l.standing) l.last

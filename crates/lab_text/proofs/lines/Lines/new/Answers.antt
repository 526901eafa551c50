-- The lines that are to come are those of the text.
use Rattle.std.proofs.Common.{refl}
use Rattle.lab_text.specs.Lines.{lines_left}
use Rattle.lab_text.proofs.lines.Lines.new.Goals as goal

pub returns : goal.returns
unfolding lines_left
returns c = refl

-- The first line is taken off, and the lines after it are left.
use Rattle.std.proofs.Common.{rules}
use Rattle.lab_text.specs.Lines.{lines_of, lines_left}
use Rattle.lab_text.proofs.lines.LinesIterator.next.Goals as goal

-- an empty text has no line
pub returns-in_err-line-clause-steps : goal.returns-in_err-line-clause-steps
unfolding lines_left lines_of
returns-in_err-line-clause-steps c = search rules

-- the first line, and the lines of the text after it
pub returns-clause-steps : goal.returns-clause-steps
unfolding lines_left
returns-clause-steps c = c.in_ok-line.ensures.first

-- one line fewer is left
pub returns-clause-goes : goal.returns-clause-goes
unfolding lines_left
returns-clause-goes c = search rules

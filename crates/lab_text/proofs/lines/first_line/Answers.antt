-- The first line ends at the first newline, or at the text's end where there is none.
use Rattle.std.proofs.Common.{rules}
use Rattle.lab_text.proofs.LinesLemmas.{CutsLine-at, CutsLine-first, CutsLine-whole}
use Rattle.lab_text.proofs.lines.first_line.Goals as goal

-- no newline: the text is its one line
pub returns-in-None-clause-cut : goal.returns-in-None-clause-cut
returns-in-None-clause-cut c = search (rules, CutsLine-whole)

pub returns-in-None-clause-first : goal.returns-in-None-clause-first
returns-in-None-clause-first c = CutsLine-first (returns-in-None-clause-cut c)

-- the line before the newline, and the lines after it
pub returns-in-Some-clause-cut : goal.returns-in-Some-clause-cut
returns-in-Some-clause-cut c = search (rules, CutsLine-at)

pub returns-in-Some-clause-first : goal.returns-in-Some-clause-first
returns-in-Some-clause-first c = CutsLine-first (returns-in-Some-clause-cut c)

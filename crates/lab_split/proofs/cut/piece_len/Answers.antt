use Rattle.lab_model.proofs.Common.{arith}
use Rattle.lab_split.proofs.Cuts.{row-is}
use Rattle.lab_split.proofs.cut.piece_len.Goals as goal

-- the line begins at or before the first sector
pub overflow_sub-place : goal.overflow_sub-place
overflow_sub-place g c =
    (row-is c.args.rest.first c.args.line c.requires.found c.lines.ensures.lines
    c.index-lines-line.is).after

-- the line ends past the first sector
pub overflow_sub-row : goal.overflow_sub-row
overflow_sub-row g c =
    let at = row-is c.args.rest.first c.args.line c.requires.found c.lines.ensures.lines
    c.index-lines-line.is in
    omega (arith, at.after, at.before)

-- the line has the first sector
pub cut-requires-clause-some : goal.cut-requires-clause-some
cut-requires-clause-some g c =
    let at = row-is c.args.rest.first c.args.line c.requires.found c.lines.ensures.lines
    c.index-lines-line.is in
    omega (arith, at.after, at.before, c.min-left.ensures)

-- the line's target was asked
pub returns-clause-cut : goal.returns-clause-cut
returns-clause-cut g c =
    let at = row-is c.args.rest.first c.args.line c.requires.found c.lines.ensures.lines
    c.index-lines-line.is in
    record {
      no_gap = c.lines.ensures.table.are_lines.no_gap;
      line = c.index-lines-line.result;
      there = at.there;
      after = at.after;
      before = at.before;
      within = c.requires.inside;
      cuts = rw (← c.min-left.ensures) c.cut.ensures;
    }

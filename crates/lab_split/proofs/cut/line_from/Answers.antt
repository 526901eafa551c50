use Rattle.lab_model.proofs.Common.{rules, ◌+◌, ap, arith}
use Rattle.lab_table.proofs.Lines.{line_at-is, line_at-next}
use Rattle.lab_split.proofs.Cuts.{row-same}
use Rattle.lab_split.proofs.cut.line_from.Goals as goal

-- the line is used up: the next begins at the sector
pub returns-then-sector-row : goal.returns-then-sector-row
returns-then-sector-row g c = search (rules, row-same, line_at-next)

-- the line has the sector too
pub returns-else-sector-row : goal.returns-else-sector-row
returns-else-sector-row g c = λ within.
    let same = row-same c.args.line c.requires.there c.lines.ensures.lines c.index-lines-line.is in
    let end = ap (λ l. l.start + l.len) same in
    line_at-is c.args.table.now c.args.sector c.args.line c.lines.ensures.table.are_lines.no_gap
    (record {
      line = c.requires.line;
      there = c.requires.there;
      after = c.requires.after;
      before = omega (arith, c.if-sector-row.false, c.requires.upto);
    })

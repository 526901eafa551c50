-- The lines up to the next heading are read one by one.
use Rattle.std.proofs.Common.{rules}
use Rattle.lab_text.proofs.LinesLemmas.{lines_of-nil}
use Rattle.lab_text.proofs.ReadingLemmas.{PassedBody, PassesBody-end}
use Rattle.lab_text.proofs.ReadingLemmas.{ReadsBody-line, ReadsBody-fault}
use Rattle.lab_text.proofs.spot.checked_end.Goals as goal

-- nothing is read yet
pub loop-line-init : goal.loop-line-init
loop-line-init c = search (rules, lines_of-nil)

-- one more line is read
pub loop-line-preserved : goal.loop-line-preserved
loop-line-preserved c =
    ReadsBody-line c.loop-line.invariant c.in-Some.ensures.cut c.in-Some.ensures.plain
    c.in_ok-check_line.ensures.ok c.in-Some.ensures.number

-- the line's first fault is the body's
pub returns-in_err-check_line-clause-err : goal.returns-in_err-check_line-clause-err
returns-in_err-check_line-clause-err c =
    search (
      rules,
      ReadsBody-fault c.loop-line.invariant c.in-Some.ensures.cut c.in-Some.ensures.plain
          c.in_err-check_line.ensures.err,
    )

-- all lines are passed
passed : (c : goal.In_default)
    → PassedBody c.args.start.rest.now c.args.start.number c.loop-line.spot.rest.now
    c.loop-line.spot.number
passed c = PassesBody-end c.loop-line.invariant.passes c.in_default.ensures.none

pub returns-clause-number : goal.returns-clause-number
returns-clause-number c = (passed c).counted

pub returns-clause-rest : goal.returns-clause-rest
returns-clause-rest c = (passed c).left

pub returns-clause-body : goal.returns-clause-body
returns-clause-body c = (passed c).body

pub returns-clause-later : goal.returns-clause-later
returns-clause-later c = (passed c).later

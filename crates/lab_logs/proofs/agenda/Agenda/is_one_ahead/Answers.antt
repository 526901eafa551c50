-- None is due later than the last one.
use Rattle.lab_model.proofs.Common.{◌-◌, ◌∙◌, arith, sym, le-ltb}
use Rattle.lab_logs.proofs.Ahead.{ahead-last, ahead-none}
use Rattle.lab_logs.proofs.agenda.Agenda.is_one_ahead.Goals as goal

-- so it decides
pub returns-then-count-gt0 : goal.returns-then-count-gt0
returns-then-count-gt0 c = rw (← c.self.view_is) (ahead-last c.args.now c.self.inside.rows.items
    (c.len-count.result - 1) c.index.result.now c.self.invariant
    (omega (arith, c.self.inside.rows.ok.0)) c.index.ensures)

-- there is none
pub returns-else-count-gt0 : goal.returns-else-count-gt0
returns-else-count-gt0 c = rw (← c.self.view_is) (le-ltb 0 c.len-count.result c.if-count-gt0.false
    ∙ sym (ahead-none c.args.now c.self.inside.rows.items (omega (arith, c.self.inside.rows.ok.0))))

-- The first that is due later than now has the least moment of those that are.
use Rattle.lab_model.proofs.Common.{◌∙◌}
use Rattle.lab_logs.proofs.Ahead.{first-ahead, none-ahead}
use Rattle.lab_logs.proofs.logs.Logs.least_after.Goals as goal

-- one is due later
pub returns-in-Some : goal.returns-in-Some
returns-in-Some c = rw (← c.self.view_is) (c.lesser.ensures ∙ first-ahead c.args.now
    c.self.inside.items.items c.self.inside.agenda c.args.other c.self.invariant c.in-Some.due
    c.in-Some.ensures.some c.in-Some.ensures.first)

-- none is
pub returns-in-None : goal.returns-in-None
returns-in-None c = rw (← c.self.view_is) (none-ahead c.args.now c.self.inside.items.items
    c.self.inside.agenda c.args.other c.self.invariant c.in-None.ensures.none)

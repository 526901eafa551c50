-- They stand between the places where the two moments have come.
use Rattle.lab_logs.proofs.Moves.{between-cuts}
use Rattle.lab_logs.proofs.agenda.Agenda.between.Goals as goal

-- so many stand before and behind
pub returns : goal.returns
returns c = rw (c.deref.ensures.value, c.self.view_is)
    (between-cuts c.args.self.now c.args.since c.args.now c.count_until.result
    c.count_until-end.result c.min-start.result c.count_until.ensures.cut
    c.count_until-end.ensures.cut c.count_until-end.ensures.within c.min-start.ensures)

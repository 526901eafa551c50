-- An operation's sectors are spread, nobody's are cleared.
use Rattle.std.proofs.Common.{◌∙◌, ◌+◌, ◌++◌, sym, ap}
use Rattle.std.proofs.lemmas.Result.{on_ok_weaker}
use Rattle.lab_watch.specs.Grids.{side_by_side, with_writers_from}
use Rattle.lab_watch.proofs.Runs.{put-cleared, put-spread}
use Rattle.lab_watch.proofs.grid.Grid.put_run.Goals as goal

pub returns-in-Some-clause-put : goal.returns-in-Some-clause-put
returns-in-Some-clause-put c = on_ok_weaker c.spread_from.result (λ spread_is rest.
    ap (λ writer. with_writers_from c.args.self.now c.args.number c.args.first
    (side_by_side c.args.run.count writer ++ rest)) c.in-Some.is
    ∙ put-spread c.args.run.count c.args.self.now c.args.number c.args.first c.in-Some.writer rest
    ∙ ap (λ grid. with_writers_from grid c.args.number (c.args.first + c.args.run.count) rest)
    (sym spread_is))
    c.spread_from.ensures.spread

pub returns-in-None-clause-put : goal.returns-in-None-clause-put
returns-in-None-clause-put c = on_ok_weaker c.clear_from.result (λ cleared_is rest.
    ap (λ writer. with_writers_from c.args.self.now c.args.number c.args.first
    (side_by_side c.args.run.count writer ++ rest)) c.in-None.is
    ∙ put-cleared c.args.run.count c.args.self.now c.args.number c.args.first rest
    ∙ ap (λ grid. with_writers_from grid c.args.number (c.args.first + c.args.run.count) rest)
    (sym cleared_is))
    c.clear_from.ensures.cleared

use Rattle.lab_model.proofs.Common.{◌∙◌, ap, IfOk-weaker}
use Rattle.std.specs.Option.{option_and_then}
use Rattle.lab_rulebook.specs.Standing.{table_named}
use Rattle.lab_standing.specs.Stands.{standing_of}
use Rattle.lab_verify.proofs.walk.try_step.Goals as goal

-- what is told with the table that the command asks for
pub returns-clause-told : goal.returns-clause-told
returns-clause-told g c =
    let s = standing_of g.T.Target.meaning c.args.standing.now in
    IfOk-weaker c.try_with-told.result _ _ (λ told tells parts has sound. tells parts has.logs
    (c.in_ok-table.ensures parts has.tables
    ∙ ap (option_and_then (table_named parts s)) c.table.ensures) sound) c.try_with-told.ensures.told

-- and what stands then
pub returns-clause-stands : goal.returns-clause-stands
returns-clause-stands g c =
    let s = standing_of g.T.Target.meaning c.args.standing.now in
    IfOk-weaker c.try_with-told.result _ _
    (λ told stands parts has sound none. stands parts has.logs
    (c.in_ok-table.ensures parts has.tables
    ∙ ap (option_and_then (table_named parts s)) c.table.ensures) sound none)
    c.try_with-told.ensures.stands

use Rattle.lab_model.proofs.Common.{◌∙◌, ap, sym, is_some}
use Rattle.lab_rulebook.specs.Standing.{obeyed}
use Rattle.lab_script.specs.Task.{task_of}
use Rattle.lab_standing.specs.Stands.{standing_of}
use Rattle.lab_verify.proofs.AskedTables.{has-asked, on-devices}
use Rattle.lab_verify.proofs.WalkLemmas.{replayed-obeys}
use Rattle.lab_verify.proofs.walk.take_command.Goals as goal

-- the logs start, which they haven't before
pub returns-in_ok-replay-in-Replay-clause-stands : goal.returns-in_ok-replay-in-Replay-clause-stands
returns-in_ok-replay-in-Replay-clause-stands g c = λ parts logs meant sound unbroken.
    let m = g.T.Target.meaning in
    replayed-obeys m parts c.args.standing.now (standing_of m c.replay.new.standing) c.args.command
    c.in-Replay.is unbroken (λ start. c.in_ok-replay-in-Replay.ensures.stands parts (logs start))

-- the command is one on names and devices
pub returns-in_ok-obey-in_default-clause-stands : goal.returns-in_ok-obey-in_default-clause-stands
returns-in_ok-obey-in_default-clause-stands g c = λ parts logs meant sound unbroken.
    let m = g.T.Target.meaning in
    let s = standing_of m c.args.standing.now in
    let task = task_of c.args.command in
    let taken = c.take.ensures.value ∙ meant in
    c.in_ok-obey-in_default.ensures.stands sound
    (ap is_some taken ∙ has-asked m parts s task unbroken) ∙ ap (obeyed m s task) taken
    ∙ sym (on-devices m parts s c.args.command c.in_default.not-Ram c.in_default.not-Replay
    c.in_default.not-Wait)

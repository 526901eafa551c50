-- The walk that is kept has the micro-commands of what stands.
use Rattle.lab_model.proofs.Common.{◌++◌, ◌∙◌, ap, sym, on_ok_weaker}
use Rattle.lab_script.specs.Alike.{Any}
use Rattle.lab_script.specs.Image.{walk_known}
use Rattle.lab_script.specs.Steps.{on_line}
use Rattle.lab_script.specs.Task.{task_of}
use Rattle.lab_script.specs.Walk.{device_for, orders_for}
use Rattle.lab_script.proofs.AlikeLemmas.{steps-same}
use Rattle.lab_standing.specs.Stands.{standing_of, stood}
use Rattle.lab_standing.proofs.StandingKept.{walk-alike}
use Rattle.lab_rulebook.specs.Standing as rulebook
use Rattle.lab_standing.proofs.standing.Standing.push_orders.Goals as goal

-- the device's are those of what stands
pub returns-clause-ok : goal.returns-clause-ok
unfolding stood
returns-clause-ok g c =
    let m = g.T.Target.meaning in
    let s = standing_of m c.args.self.now in
    let w = walk_known c.args.self.now.walk in
    let task = task_of c.args.line.now.command in
    on_ok_weaker c.push_orders.result (λ added sound. added
    ∙ ap (λ steps. c.args.micros.now.items ++ on_line c.args.line.now.number steps)
    (ap (λ device. orders_for task device c.in_ok-made.field-0) c.device_for-device.ensures
    ∙ ap (orders_for task (device_for w task)) c.in_ok-made.ensures
    ∙ sym (steps-same Any (rulebook.walk_of s) w
    (walk-alike m w s.versions sound.slots sound.loads) task))) c.push_orders.ensures.ok

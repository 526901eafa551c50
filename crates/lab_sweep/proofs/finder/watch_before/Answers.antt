-- At an event that answers nothing all stays as it is.
use Rattle.lab_model.proofs.Common.{◌∙◌, ◌++◌, ap, sym}
use Rattle.std.proofs.Common.{append-nil}
use Rattle.lab_findings.specs.Settled.{watch_settled}
use Rattle.lab_sweep.proofs.Idling.{heard-idle, noted-idle, settled-idle}
use Rattle.lab_sweep.proofs.finder.watch_before.Goals as goal

pub returns-then-is_idle : goal.returns-then-is_idle
returns-then-is_idle g c =
    let m = g.T.Target.meaning in
    let s = c.args.state.now in
    let watched = c.args.watch.now in
    let event = c.args.event in
    let idle = sym c.is_idle.ensures ∙ c.if-is_idle.true in
    record {
      noted = sym (ap (λ more. c.args.noted.now.items ++ more) (noted-idle m s watched event idle)
          ∙ append-nil c.args.noted.now.items);
      watch = sym (ap (watch_settled s event) (heard-idle m s watched event idle)
          ∙ settled-idle m s watched event idle);
    }

-- The script's moment, those of the logs and those of held bios, one after another.
use Rattle.lab_model.proofs.Common.{rules, ◌≡◌, None, moments, sym, ◌∙◌}
use Rattle.lab_logs.specs.Moments.{least_over}
use Rattle.lab_logs.proofs.LeastLemmas.{least-ahead}
use Rattle.lab_state.proofs.Waiting.{over-append}
use Rattle.lab_state.proofs.state.State.least_moment.Goals as goal

-- the least of the three kinds is the least of all
pub returns : goal.returns
returns g c =
    let s = c.args.self.now in
    let walked : c.lesser.result ≡ least_over s.clock (moments s) None =
    search (rules, over-append) in
    walked ∙ sym (least-ahead s.clock (moments s))

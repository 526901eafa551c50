-- The number is one of the script's and the logs', or lies behind them.
use Rattle.lab_model.proofs.Common.{◌≡◌, arith, slice_get, sym, ◌∙◌}
use Rattle.lab_next.specs.Places.{behind_events}
use Rattle.lab_next.proofs.Parts.{nth-front, nth-rest}
use Rattle.lab_core.proofs.Fired.{seen}
use Rattle.lab_core.proofs.lab.Lab.nth_behind_front.Goals as goal

-- one of a bio, or the clock's
pub returns-in-Some : goal.returns-in-Some
returns-in-Some g c =
    let lab = c.args.self.now in
    let behind : c.nth_behind.result
    ≡ slice_get (behind_events lab.scenario lab.state) c.in-Some.left = c.nth_behind.ensures
    ∙ seen (λ plan s. slice_get (behind_events plan s) c.in-Some.left) _ _ _
    c.scenario.ensures.value c.self.view_is in
    behind ∙ sym (nth-rest lab.scenario lab.state c.args.number c.in-Some.left
    (omega (arith, c.requires)))

-- the script's, or a log's
pub returns-in-None : goal.returns-in-None
returns-in-None g c = c.nth_front.ensures ∙ sym (nth-front c.args.self.now.scenario
    c.args.self.now.state c.args.number (omega (arith, c.requires)))

-- The least moment that lies ahead is later than the clock.
use Rattle.lab_model.proofs.Common.{rules, ◌≤◌, moments, sym, ◌∙◌}
use Rattle.lab_effect.proofs.MomentsAhead.{least-later}
use Rattle.lab_effect.proofs.event_effect.tick.Goals as goal

-- the clock doesn't go back
pub clock_to-requires : goal.clock_to-requires
clock_to-requires g c =
    let s = c.args.state.now in
    let later : s.clock ≤ c.in-Some.moment =
    least-later s.clock (moments s) c.in-Some.moment (sym c.least_moment.ensures ∙ c.in-Some.is) in
    search rules
